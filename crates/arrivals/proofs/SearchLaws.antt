-- What chains over a table give, in the words of the tables. Assumes nothing.
use Rattle.std.proofs.Common.{◌≡◌, Bool, true, cond, List, [], ◌∷◌, length, Some, None, Option, map, refl, ap, arith}
use Rattle.std.specs.List.{filter}
use Rattle.exchange.specs.Wanting.{free_places}
use Rattle.lines.specs.Tables.{some_where}
use Rattle.tables.specs.Searches.{is_free}

pub some_map : {X Y : Type 0} (p : Y → Bool) (f : X → Y) (xs : List X) → some_where (λ x. p (f x)) xs ≡ some_where p (map f xs)
some_map p f [] = refl
some_map p f (x ∷ xs) = ap (cond (p (f x)) true) (some_map p f xs)

pub free_as : {X : Type 0} (xs : List (Option X)) → length (filter is_free xs) ≡ free_places xs
free_as [] = refl
free_as (None ∷ xs) = let h = free_as xs in omega arith
free_as (Some x ∷ xs) = free_as xs
