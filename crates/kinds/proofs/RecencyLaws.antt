-- The newest instance, and successors. Assumes nothing.
use Rattle.std.proofs.Common.{◌≡◌, ℕ, zero, suc, ◌+◌, ◌-◌, ◌<◌, ◌≤◌, false, cond, eqb, List, [], ◌∷◌, length, Some, None, Option, sym, refl, ap, ◌∙◌, subst, inl, inr, eq-or-lt_of_le, arith}
use Rattle.std.proofs.lemmas.Bool.{ne_eqb}
use Rattle.std.proofs.lemmas.Option.{none-some}
use Rattle.std.specs.List.{fold, reduce, enumerate_from}
use Rattle.std.specs.Option.{option_map, MatchOption}
use Rattle.std.specs.Prelude.{slice_index_or}
use Rattle.kinds.specs.declared.rank.Rank.{Rank}
use Rattle.kinds.specs.declared.rank.Rank.TheVariants.{Lower, Same, Higher}
use Rattle.kinds.specs.Kinds.{Operations, Laws}
use Rattle.kinds.specs.Ranks.{turned, OrderFacts}
use Rattle.kinds.specs.Recency.{is_higher, instance_at, newer_of, newest_to, newest_of, Newest, successor_of, Succeeds}
use Rattle.kinds.specs.WeakOrders.{order_facts}

-- a rank that is not higher is lower or the same
not_higher : (P : Type 0) (r : Rank) → (r ≡ Higher → ⊥) → (r ≡ Lower → P) → (r ≡ Same → P) → P
not_higher P Lower n a b = a refl
not_higher P Same n a b = b refl
not_higher P Higher n a b = absurd (n refl)

-- a rank that is not lower is higher or the same
not_lower : (P : Type 0) (r : Rank) → (r ≡ Lower → ⊥) → (r ≡ Higher → P) → (r ≡ Same → P) → P
not_lower P Lower n a b = absurd (n refl)
not_lower P Same n a b = b refl
not_lower P Higher n a b = a refl

by_higher : (P : Type 0) (r : Rank) → (r ≡ Higher → P) → ((r ≡ Higher → ⊥) → P) → P
by_higher P Lower a b = b (λ e. let z : ◌≡◌ {A = ℕ} 0 1 = cc in omega arith)
by_higher P Same a b = b (λ e. let z : ◌≡◌ {A = ℕ} 0 1 = cc in omega arith)
by_higher P Higher a b = a refl

is_higher_false : (r : Rank) → (r ≡ Higher → ⊥) → is_higher r ≡ false
is_higher_false r n = not_higher (is_higher r ≡ false) r n (ap is_higher) (ap is_higher)

same_some : {I : Type 0} (x y : I) → Some x ≡ Some y → x ≡ y
same_some x y e = cc

-- the newer of two instances, each with its index
abbrev pub newer_pair : {I : Type 0} → Operations I → ℕ × I → ℕ × I → ℕ × I
newer_pair ops best next = cond (is_higher (ops.rank next.1 best.1)) next best

place_read : {B I : Type 0} (v : B → I) (best : Option (ℕ × B)) → option_map (λ (e : ℕ × B). e.0) best ≡ option_map (λ (e : ℕ × I). e.0) (option_map (λ (e : ℕ × B). (e.0, v e.1)) best)
place_read v None = refl
place_read v (Some e) = refl

module _ {I : Type 0} (ops : Operations I) (laws : Laws ops) where
  abbrev facts : OrderFacts ops.rank
  facts = order_facts ops.rank laws.order

  -- what ranks above an instance ranks above all that this is above or the same as
  pub above : (x y z : I) → ops.rank y x ≡ Higher → (ops.rank x z ≡ Lower → ⊥) → ops.rank y z ≡ Higher
  above x y z h n = not_lower _ (ops.rank x z) n (facts.higher_trans y x z h) (facts.higher_same y x z h)

  succeeds : (held : Option I) (check time : ℕ) → Succeeds ops held time (successor_of ops held check time)
  succeeds None check time = record {
    has_time = λ y t e. ap ops.left (sym (same_some _ _ e)) ∙ laws.first_left check time t;
    above_held = λ x y t p q. absurd (none-some x p);
    above_lower = λ x y z t p q n. absurd (none-some x p);
  }
  succeeds (Some w) check time = record {
    has_time = λ y t e. laws.next_left w y check time t e;
    above_held = λ x y t p q. ap (ops.rank y) (sym (same_some _ _ p)) ∙ laws.next_higher w y check time t q;
    above_lower = λ x y z t p q n. above x y z (ap (ops.rank y) (sym (same_some _ _ p)) ∙ laws.next_higher w y check time t q) n;
  }

  follows : (held new : Option I) (check time : ℕ) → new ≡ successor_of ops held check time → (new ≡ successor_of ops held check time) × Succeeds ops held time new
  follows held new check time e = (e, subst (Succeeds ops held time) (sym e) (succeeds held check time))

  pub follows_held : (held new : Option I) (x : I) (check time : ℕ) → held ≡ Some x → new ≡ ops.next x check time → (new ≡ successor_of ops held check time) × Succeeds ops held time new
  follows_held held new x check time p e = follows held new check time (e ∙ ap (λ h. successor_of ops h check time) (sym p))

  pub follows_none : (held : Option I) (y : I) (check time : ℕ) → held ≡ None → y ≡ ops.first check time → (Some y ≡ successor_of ops held check time) × Succeeds ops held time (Some y)
  follows_none held y check time p e = follows held (Some y) check time (ap Some e ∙ ap (λ h. successor_of ops h check time) (sym p))

  module _ (xs : List I) where
    abbrev at : ℕ → I
    at = instance_at ops xs

    pub newest_none : newest_to ops xs 0 ≡ 0
    unfolding newest_to
    newest_none = refl

    newest_more : (n : ℕ) → newest_to ops xs (suc n) ≡ newer_of ops xs (newest_to ops xs n) (suc n)
    unfolding newest_to
    newest_more n = refl

    newer_new : (p i : ℕ) → ops.rank (at i) (at p) ≡ Higher → newer_of ops xs p i ≡ i
    newer_new p i h = ap (λ r. cond (is_higher r) i p) h

    newer_old : (p i : ℕ) → (ops.rank (at i) (at p) ≡ Higher → ⊥) → newer_of ops xs p i ≡ p
    newer_old p i h = ap (λ b. cond b i p) (is_higher_false _ h)

    abbrev placed : ℕ → ℕ × I
    placed p = (p, at p)

    newer_placed : (p i : ℕ) → newer_pair ops (placed p) (placed i) ≡ placed (newer_of ops xs p i)
    newer_placed p i =
        by_higher _ (ops.rank (at i) (at p))
        (λ h. ap (λ r. cond (is_higher r) (placed i) (placed p)) h ∙ ap placed (sym (newer_new p i h)))
        (λ h. ap (λ b. cond b (placed i) (placed p)) (is_higher_false _ h) ∙ ap placed (sym (newer_old p i h)))

    -- the search has come to n, and ys are the instances behind
    folded : (ys : List I) (n k : ℕ) → k ≡ suc n → ((i : ℕ) → slice_index_or ys i (ops.first 0 0) ≡ at (k + i)) → fold (newer_pair ops) (placed (newest_to ops xs n)) (enumerate_from k ys) ≡ placed (newest_to ops xs (n + length ys))
    folded [] n k e r = ap (λ m. placed (newest_to ops xs m)) (let z : n ≡ n + 0 = omega arith in z)
    folded (y ∷ ys) n k e r =
        let p = newest_to ops xs n in
        let here : newer_pair ops (placed p) (k, y) ≡ placed (newest_to ops xs (suc n)) =
        ap (λ x. newer_pair ops (placed p) (k, x)) (r 0 ∙ ap at (let z : k + 0 ≡ k = omega arith in z))
        ∙ newer_placed p k ∙ ap (λ m. placed (newer_of ops xs p m)) e ∙ ap placed (sym (newest_more n)) in
        let more : (i : ℕ) → slice_index_or ys i (ops.first 0 0) ≡ at (k + 1 + i) = λ i. r (suc i) ∙ ap at (let z : k + suc i ≡ k + 1 + i = omega arith in z) in
        ap (λ b. fold (newer_pair ops) b (enumerate_from (k + 1) ys)) here ∙ folded ys (suc n) (k + 1) (omega arith) more
        ∙ ap (λ m. placed (newest_to ops xs m)) (let z : suc n + length ys ≡ n + suc (length ys) = omega arith in z)

    -- p is the newest of the first n + 1
    record Among (n p : ℕ) : Type 0 where
      inside : p ≤ n
      none_above : (k : ℕ) → k ≤ n → ops.rank (at k) (at p) ≡ Higher → ⊥
      all_below : (k : ℕ) → k < p → ops.rank (at k) (at p) ≡ Lower

    never_above_self : (x : I) → ops.rank x x ≡ Higher → ⊥
    never_above_self x h = let z : ◌≡◌ {A = ℕ} 0 1 = cc (facts.same_self x) in omega arith

    among_none : Among 0 0
    among_none = record {
      inside = omega arith;
      none_above = λ k l e. never_above_self (at 0) (ap (λ m. ops.rank (at m) (at 0)) (let r : 0 ≡ k = omega arith in r) ∙ e);
      all_below = λ k l. absurd (omega arith);
    }

    below_new : (n p i k : ℕ) → Among n p → ops.rank (at i) (at p) ≡ Higher → k ≤ n → ops.rank (at k) (at i) ≡ Lower
    below_new n p i k a h l =
        let t : ops.rank (at p) (at i) ≡ Lower = laws.order.rank_turned (at i) (at p) ∙ ap turned h in
        not_higher _ (ops.rank (at k) (at p)) (a.none_above k l)
        (λ e. laws.order.lower_trans _ _ _ e t) (λ e. facts.same_lower _ _ _ e t)

    among_new : (n p : ℕ) → Among n p → ops.rank (at (suc n)) (at p) ≡ Higher → Among (suc n) (suc n)
    among_new n p a h = record {
      inside = omega arith;
      none_above = λ k l e. elim (eq-or-lt_of_le l) [
        | inl q ↦ never_above_self (at (suc n)) (ap (λ m. ops.rank (at m) (at (suc n))) (sym q) ∙ e)
        | inr q ↦ (let z : ◌≡◌ {A = ℕ} 0 1 = cc (below_new n p (suc n) k a h (omega arith)) in omega arith)
      ];
      all_below = λ k l. below_new n p (suc n) k a h (omega arith);
    }

    among_old : (n p : ℕ) → Among n p → (ops.rank (at (suc n)) (at p) ≡ Higher → ⊥) → Among (suc n) p
    among_old n p a h = record {
      inside = omega (arith, a.inside);
      none_above = λ k l e. elim (eq-or-lt_of_le l) [
        | inl q ↦ h (ap (λ m. ops.rank (at m) (at p)) (sym q) ∙ e)
        | inr q ↦ a.none_above k (omega arith) e
      ];
      all_below = a.all_below;
    }

    is_among : (n : ℕ) → Among n (newest_to ops xs n)
    is_among zero = subst (Among 0) (sym newest_none) among_none
    is_among (suc n) =
        let p = newest_to ops xs n in
        by_higher _ (ops.rank (at (suc n)) (at p))
        (λ h. subst (Among (suc n)) (sym (newest_more n ∙ newer_new p (suc n) h)) (among_new n p (is_among n) h))
        (λ h. subst (Among (suc n)) (sym (newest_more n ∙ newer_old p (suc n) h)) (among_old n p (is_among n) h))

    -- what a search through all instances has found
    pub searched : (best : ℕ) → 0 < length xs → best ≡ newest_to ops xs (length xs - 1) → (Some best ≡ newest_of ops xs) × Newest ops xs best
    searched best l e =
        let a = subst (Among (length xs - 1)) (sym e) (is_among (length xs - 1)) in (
          ap Some e ∙ ap (λ b. cond b None (Some (newest_to ops xs (length xs - 1)))) (let f : false ≡ eqb (length xs) 0 = sym (ne_eqb _ _ (omega arith)) in f),
          record {
            within = omega (arith, a.inside);
            none_higher = λ k b. a.none_above k (omega arith);
            earlier_lower = a.all_below;
            order = facts;
          },
        )

  -- the newest of each pair, from the first on, where v reads the items
  pub found : {B : Type 0} (v : B → I) (xs : List I) (best : Option (ℕ × B)) → option_map (λ (e : ℕ × B). (e.0, v e.1)) best ≡ reduce (newer_pair ops) (enumerate_from 0 xs) → option_map (λ (e : ℕ × B). e.0) best ≡ newest_of ops xs
  found v [] best e = place_read v best ∙ ap (option_map (λ (b : ℕ × I). b.0)) e
  found v (x ∷ xs) best e =
      let all = x ∷ xs in
      let w : reduce (newer_pair ops) (enumerate_from 0 all) ≡ Some (placed all (newest_to ops all (0 + length xs))) =
      ap (λ p. Some (fold (newer_pair ops) (placed all p) (enumerate_from 1 xs))) (sym (newest_none all))
      ∙ ap Some (folded all xs 0 1 refl (λ i. ap (at all) (let z : suc i ≡ 1 + i = omega arith in z))) in
      place_read v best ∙ ap (option_map (λ (b : ℕ × I). b.0)) (e ∙ w) ∙ ap (λ n. Some (newest_to ops all n)) (let z : 0 + length xs ≡ length all - 1 = omega arith in z)
      ∙ (searched all _ (omega arith) refl).0

  pub is_newest : (xs : List I) (r : Option ℕ) → r ≡ newest_of ops xs → MatchOption r (length xs ≡ 0) (Newest ops xs)
  is_newest [] r e = subst (λ k. MatchOption k (length {A = I} [] ≡ 0) (Newest ops [])) (sym e) refl
  is_newest (x ∷ xs) r e =
      let s = searched (x ∷ xs) _ (omega arith) refl in
      subst (λ k. MatchOption k (length (x ∷ xs) ≡ 0) (Newest ops (x ∷ xs))) (s.0 ∙ sym e) s.1
