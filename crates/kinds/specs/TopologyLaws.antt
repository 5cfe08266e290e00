-- The topology kind keeps the laws. Assumes nothing.
use Rattle.std.specs.Prelude.{◌≡◌, ℕ, ◌-◌, ◌^◌, ◌<◌, true, Some, nat_eq, refl}
use Rattle.std.proofs.Common.{ap, arith}
use Rattle.std.proofs.lemmas.Bool.{ltb-true, and_parts}
use Rattle.std.proofs.lemmas.Bool.Decides.{nat_tests}
use Rattle.kinds.specs.declared.rank.Rank.TheVariants.{Same, Higher}
use Rattle.kinds.specs.declared.topology.Topology.{Topology}
use Rattle.kinds.specs.Kinds.{Laws}
use Rattle.kinds.specs.Ranks.{WeakOrder, by_number, by_expiry}
use Rattle.kinds.specs.Topologies.{topology, rank_topology, next_topology, read_topology, write_topology, topology_fits}
use Rattle.kinds.specs.WeakOrders.{then_order, key_order, number_order, expiry_order}
use Rattle.kinds.specs.Words.{word16, word32, words_eight, words_back, words_fit}

order : WeakOrder rank_topology
order =
    then_order _ _ (key_order (λ (x : Topology). x.sequence) by_number number_order)
    (then_order _ _ (key_order (λ (x : Topology). nat_eq x.lifetime 0) by_expiry expiry_order)
    (key_order (λ (x : Topology). x.check) by_number number_order))

abbrev made : ℕ → ℕ → ℕ → Topology
made s c l = record { sequence = s; check = c; lifetime = l }

expired_higher : (x : Topology) → 0 < x.lifetime → rank_topology (made x.sequence x.check 0) x ≡ Higher
expired_higher x h = grind (arith, nat_tests)

expired_same : (x : Topology) → x.lifetime ≡ 0 → rank_topology (made x.sequence x.check 0) x ≡ Same
expired_same x h = grind (arith, nat_tests)

older_same : (x : Topology) → 1 < x.lifetime → rank_topology (made x.sequence x.check (x.lifetime - 1)) x ≡ Same
older_same x h = grind (arith, nat_tests)

older_ends : (x : Topology) → x.lifetime ≡ 1 → made x.sequence x.check (x.lifetime - 1) ≡ made x.sequence x.check 0
older_ends x h = ap (λ l. made x.sequence x.check (l - 1)) h

older_stays : (x : Topology) → x.lifetime ≡ 0 → made x.sequence x.check (x.lifetime - 1) ≡ x
older_stays x h = ap (made x.sequence x.check) (let e : x.lifetime - 1 ≡ x.lifetime = omega arith in e)

next_left : (x y : Topology) (check time : ℕ) → 0 < time → next_topology x check time ≡ Some y → y.lifetime ≡ time
next_left x y check time t e = grind (arith, nat_tests)

next_higher : (x y : Topology) (check time : ℕ) → 0 < time → next_topology x check time ≡ Some y → rank_topology y x ≡ Higher
next_higher x y check time t e = grind (arith, nat_tests)

fits_parts : (x : Topology) → topology_fits x ≡ true → (x.sequence < 2 ^ 32) × (x.check < 2 ^ 16) × (x.lifetime < 2 ^ 16)
fits_parts x f =
    let a = and_parts _ _ f in
    let b = and_parts _ _ a.1 in
    (ltb-true _ _ a.0, ltb-true _ _ b.0, ltb-true _ _ b.1)

fits_whole : (x : Topology) → x.sequence < 2 ^ 32 → x.check < 2 ^ 16 → x.lifetime < 2 ^ 16 → topology_fits x ≡ true
fits_whole x a b c = grind (arith, nat_tests)

same : {s t c d l m : ℕ} → s ≡ t → c ≡ d → l ≡ m → made s c l ≡ made t d m
same p q r = cc

read_write : (x : Topology) → topology_fits x ≡ true → read_topology (write_topology x) ≡ x
read_write x f =
    let p = fits_parts x f in
    same (word32 x.sequence p.0) (word16 x.check p.1) (word16 x.lifetime p.2)

next_fits : (x y : Topology) (check time : ℕ) → topology_fits x ≡ true → check < 2 ^ 16 → time < 2 ^ 16 → next_topology x check time ≡ Some y → topology_fits y ≡ true
next_fits x y check time f c t e = grind (arith, nat_tests)

pub topology_laws : Laws topology
topology_laws = record {
  order = order;
  older_left = λ x. refl;
  older_same = older_same;
  older_ends = older_ends;
  older_stays = older_stays;
  expired_left = λ x. refl;
  expired_higher = expired_higher;
  expired_same = expired_same;
  first_left = λ check time t. refl;
  next_left = next_left;
  next_higher = next_higher;
  read_write = read_write;
  write_read = words_back;
  write_eight = λ x f. words_eight _ _ _;
  read_fits = λ bs h. let w = words_fit bs h in fits_whole _ w.0 w.1 w.2;
  older_fits = λ x f. let p = fits_parts x f in fits_whole (made x.sequence x.check (x.lifetime - 1)) p.0 p.1 (omega (arith, p.2));
  expired_fits = λ x f. let p = fits_parts x f in fits_whole (made x.sequence x.check 0) p.0 p.1 (omega arith);
  first_fits = λ check time c t. fits_whole (made 1 check time) (omega arith) c t;
  next_fits = next_fits;
}
