-- Orders by rank: what follows of their laws, and that keys make them. Assumes nothing.
use Rattle.std.specs.Prelude.{◌≡◌, ℕ, ◌≢◌, refl}
use Rattle.std.proofs.Common.{sym, ap, ◌∙◌, arith}
use Rattle.std.proofs.lemmas.Int.{ints}
use Rattle.std.proofs.lemmas.Bool.Decides.{nat_tests}
use Rattle.kinds.specs.declared.rank.Rank.{Rank}
use Rattle.kinds.specs.declared.rank.Rank.TheVariants.{Lower, Same, Higher}
use Rattle.kinds.specs.Ranks.{turned, WeakOrder, OrderFacts, then_by, by_number, by_signed, by_expiry}

self_turned : (k : Rank) → k ≡ turned k → k ≡ Same
self_turned Lower e = cc
self_turned Same e = refl
self_turned Higher e = cc

-- whether two instances rank so or not, it is one of three
by_rank : (P : Rank → Type 0) (k : Rank) → (k ≡ Lower → P Lower) → (k ≡ Same → P Same) → (k ≡ Higher → P Higher) → P k
by_rank P Lower a b c = a refl
by_rank P Same a b c = b refl
by_rank P Higher a b c = c refl

module _ {I : Type 0} (rank : I → I → Rank) (o : WeakOrder rank) where
  same_self : (x : I) → rank x x ≡ Same
  same_self x = self_turned (rank x x) (o.rank_turned x x)

  turn : (x y : I) (k : Rank) → rank x y ≡ k → rank y x ≡ turned k
  turn x y k e = o.rank_turned x y ∙ ap turned e

  lower_same : (x y z : I) → rank x y ≡ Lower → rank y z ≡ Same → rank x z ≡ Lower
  lower_same x y z p q =
      by_rank (λ k. k ≡ Lower) (rank x z) (λ e. refl)
      (λ e. cc (o.same_trans x z y e (turn y z Same q)))
      (λ e. cc (o.lower_trans z x y (turn x z Higher e) p, turn y z Same q))

  same_lower : (x y z : I) → rank x y ≡ Same → rank y z ≡ Lower → rank x z ≡ Lower
  same_lower x y z p q =
      by_rank (λ k. k ≡ Lower) (rank x z) (λ e. refl)
      (λ e. cc (o.same_trans y x z (turn x y Same p) e))
      (λ e. cc (o.lower_trans y z x q (turn x z Higher e), turn x y Same p))

  pub order_facts : OrderFacts rank
  order_facts = record {
    same_self = same_self;
    same_sym = λ x y e. turn x y Same e;
    higher_trans = λ x y z p q. turn z x Lower (o.lower_trans z y x (turn y z Higher q) (turn x y Higher p));
    lower_same = lower_same;
    same_lower = same_lower;
    higher_same = λ x y z p q. turn z x Lower (same_lower z y x (turn y z Same q) (turn x y Higher p));
    same_higher = λ x y z p q. turn z x Lower (lower_same z y x (turn y z Higher q) (turn x y Same p));
  }

abbrev Transitive : {I : Type 0} → (I → I → Rank) → (I → I → Rank) → Rank → Type 0
Transitive {I} first second k =
    (x y z : I) → then_by (first x y) (second x y) ≡ k → then_by (first y z) (second y z) ≡ k → then_by (first x z) (second x z) ≡ k

-- an order by one key, and then by another
module _ {I : Type 0} (first second : I → I → Rank) (o : WeakOrder first) (q : WeakOrder second) where
  then_turned : (a b : Rank) → turned (then_by a b) ≡ then_by (turned a) (turned b)
  then_turned Lower b = refl
  then_turned Same b = refl
  then_turned Higher b = refl

  -- what decided that one is lower, or the same
  then_cases : (k a b : Rank) → (k ≢ Higher) → then_by a b ≡ k → (P : Type 0) → (a ≡ Lower → k ≡ Lower → P) → (a ≡ Same → b ≡ k → P) → P
  then_cases k Lower b ne e P f g = f refl (sym e)
  then_cases k Same b ne e P f g = g refl e
  then_cases k Higher b ne e P f g = absurd (ne (sym e))

  at_first : (x z : I) (k : Rank) → first x z ≡ Lower → k ≡ Lower → then_by (first x z) (second x z) ≡ k
  at_first x z k e d = ap (λ a. then_by a (second x z)) e ∙ sym d

  at_second : (x z : I) (k : Rank) → first x z ≡ Same → second x z ≡ k → then_by (first x z) (second x z) ≡ k
  at_second x z k e d = ap (λ a. then_by a (second x z)) e ∙ d

  then_trans : (k : Rank) → (k ≢ Higher) → ((x y z : I) → second x y ≡ k → second y z ≡ k → second x z ≡ k) → Transitive first second k
  then_trans k ne t x y z p r =
      let f = order_facts first o in
      then_cases k (first x y) (second x y) ne p _
      (λ a d. then_cases k (first y z) (second y z) ne r _
      (λ b _. at_first x z k (o.lower_trans x y z a b) d)
      (λ b _. at_first x z k (f.lower_same x y z a b) d))
      (λ a c. then_cases k (first y z) (second y z) ne r _
      (λ b d. at_first x z k (f.same_lower x y z a b) d)
      (λ b d. at_second x z k (o.same_trans x y z a b) (t x y z c d)))

  pub then_order : WeakOrder (λ x y. then_by (first x y) (second x y))
  then_order = record {
    rank_turned = λ x y. cc (o.rank_turned x y, q.rank_turned x y, then_turned (first x y) (second x y));
    lower_trans = then_trans Lower (λ e. let z : ◌≡◌ {A = ℕ} 0 1 = cc in omega arith) q.lower_trans;
    same_trans = then_trans Same (λ e. let z : ◌≡◌ {A = ℕ} 0 1 = cc in omega arith) q.same_trans;
  }

-- an order of keys is an order of what has them
pub key_order : {I K : Type 0} (key : I → K) (rank : K → K → Rank) → WeakOrder rank → WeakOrder (λ x y. rank (key x) (key y))
key_order key rank o = record {
  rank_turned = λ x y. o.rank_turned (key x) (key y);
  lower_trans = λ x y z. o.lower_trans (key x) (key y) (key z);
  same_trans = λ x y z. o.same_trans (key x) (key y) (key z);
}

pub number_order : WeakOrder by_number
number_order = record {
  rank_turned = λ x y. grind (arith, nat_tests);
  lower_trans = λ x y z p q. grind (arith, nat_tests);
  same_trans = λ x y z p q. grind (arith, nat_tests);
}

pub signed_order : WeakOrder by_signed
signed_order = record {
  rank_turned = λ x y. grind (arith, ints);
  lower_trans = λ x y z p q. grind (arith, ints);
  same_trans = λ x y z p q. grind (arith, ints);
}

pub expiry_order : WeakOrder by_expiry
expiry_order = record {
  rank_turned = λ x y. grind (arith, nat_tests);
  lower_trans = λ x y z p q. grind (arith, nat_tests);
  same_trans = λ x y z p q. grind (arith, nat_tests);
}
