-- What a list holds after a push. Assumes nothing.
use Rattle.std.proofs.Common.{◌≡◌, ℕ, ◌+◌, ◌<◌, ◌≤◌, List, length, take, set, sym, ◌∙◌, arith}
use Rattle.std.proofs.lemmas.List.{length-take, take_more_set}
use Rattle.std.proofs.lemmas.Bool.{cond-true, cond-false, lt-ltb, le-ltb}
use Rattle.places.specs.Lists.{pushed}

module _ {T : Type 0} (xs : List T) (count n : ℕ) (x : T) (sized : length xs ≡ n) where
  -- an item comes last
  pub pushed_here : count < n → take (count + 1) (set xs count x) ≡ pushed n (take count xs) x
  pushed_here lt =
      take_more_set xs count x (omega arith)
      ∙ sym (cond-true _ _ _ (lt-ltb (length (take count xs)) n (omega (arith, length-take count xs))))

  -- there is no room
  pub pushed_none : n ≤ count → take count xs ≡ pushed n (take count xs) x
  pushed_none le = sym (cond-false _ _ _ (le-ltb (length (take count xs)) n (omega (arith, length-take count xs))))
