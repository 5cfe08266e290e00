-- Steps of loops over descriptions. Assumes nothing.
use Rattle.std.proofs.Common.{◌≡◌, ℕ, zero, suc, ◌+◌, ◌<◌, Bool, true, false, cond, List, [], ◌∷◌, map, length, get_or, drop, refl, sym, ap, ◌∙◌, arith}
use Rattle.std.specs.List.{filter, range_with_len}
use Rattle.std.proofs.lemmas.List.{at_drop_more}
use Rattle.kinds.specs.Kinds.{Operations}
use Rattle.exchange.specs.Wanting.{needed}
use Rattle.arrivals.specs.declared.naming.Naming.{Naming}
use Rattle.arrivals.specs.declared.want.View.{View}
use Rattle.arrivals.specs.Readings.{naming_view}
use Rattle.arrivals.specs.Views.{last_needed, viewed}

drop_next : {X : Type 0} (k : ℕ) (xs : List X) (y : X) (ys : List X) → drop k xs ≡ y ∷ ys → drop (suc k) xs ≡ ys
drop_next zero xs y ys e = ap (drop 1) e
drop_next (suc k) [] y ys e = ap (drop 1) e
drop_next (suc k) (x ∷ xs) y ys e = drop_next k xs y ys e

-- the record at a place of a list, and what follows it
module _ {X : Type 0} (xs : List X) (i : ℕ) (d x : X) (lt : i < length xs) (at : x ≡ get_or xs i d) where
  pub drop_here : {Y : Type 0} (F : List X → Y) → F (drop i xs) ≡ F (x ∷ drop (i + 1) xs)
  drop_here F = at_drop_more F xs i d lt ∙ ap (λ y. F (y ∷ drop (i + 1) xs)) (sym at)

-- the places at which descriptions go on with one that is needed, and by none of the later: as many as the names needed
module _ {I : Type 0} (ops : Operations I) (v : View I) (ms : List (Naming I)) where
  counted_from : (k : ℕ) (ns : List (Naming I)) → drop k ms ≡ ns → length (filter (λ i. last_needed ops v (drop i ms)) (range_with_len k (length ns))) ≡ needed ops v.line (viewed v) (map naming_view ns)
  counted_from k [] e = refl
  counted_from k (n ∷ ns) e =
      let rest = filter (λ i. last_needed ops v (drop i ms)) (range_with_len (k + 1) (length ns)) in
      let next : k + 1 ≡ suc k = omega arith in
      let h = counted_from (k + 1) ns (ap (λ i. drop i ms) next ∙ drop_next k ms n ns e) in
      ap (λ c. length (cond c (k ∷ rest) rest)) (ap (last_needed ops v) e) ∙ by (last_needed ops v (n ∷ ns)) (needed ops v.line (viewed v) (map naming_view ns)) rest h
    where
      by : (b : Bool) (count : ℕ) (rest : List ℕ) → length rest ≡ count → length (cond b (k ∷ rest) rest) ≡ cond b (1 + count) count
      by true count rest h = omega (arith, h)
      by false count rest h = h

  pub counted : length (filter (λ i. last_needed ops v (drop i ms)) (range_with_len 0 (length ms))) ≡ needed ops v.line (viewed v) (map naming_view ms)
  counted = counted_from 0 ms refl
