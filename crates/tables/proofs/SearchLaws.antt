-- A search by position finds the first. Assumes nothing.
use Rattle.std.proofs.Common.{◌≡◌, ℕ, Bool, List, [], ◌∷◌, cond, Some, refl, ap, ◌+◌, ◌∙◌}
use Rattle.std.specs.List.{position, position_from}
use Rattle.std.proofs.lemmas.Iterator.Adapters.{position_from-zero}
use Rattle.lines.specs.Tables.{first_where}

same_from : {X : Type 0} (p : X → Bool) (i : ℕ) (xs : List X) → position_from p i xs ≡ first_where p i xs
same_from p i [] = refl
same_from p i (x ∷ xs) = ap (cond (p x) (Some i)) (same_from p (i + 1) xs)

-- what `position` gives is the first place that passes
pub first_position : {X : Type 0} (p : X → Bool) (xs : List X) → position p xs ≡ first_where p 0 xs
first_position p xs = position_from-zero p xs ∙ same_from p 0 xs
