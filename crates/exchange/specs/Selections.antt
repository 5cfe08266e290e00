-- Places of a table chosen in order, and what is done with each. Assumes nothing.
use Rattle.std.specs.Prelude.{ℕ, ◌+◌, Bool, false, cond, List, [], ◌∷◌, take, Some, None, Option, slice_index_or}
use Rattle.places.specs.PlaceLists.{kept}

-- a free place does not pass
abbrev pub passes : {X : Type 0} → (ℕ → X → Bool) → ℕ → Option X → Bool
passes f i None = false
passes f i (Some x) = f i x

-- the places, counted from i, whose record passes
abbrev pub places_where : {X : Type 0} → (ℕ → X → Bool) → ℕ → List (Option X) → List ℕ
places_where f i [] = []
places_where f i (x ∷ xs) = cond (passes f i x) (i ∷ places_where f (i + 1) xs) (places_where f (i + 1) xs)

-- the first 32 of them: a summary or a request names no more
abbrev pub first_places : {X : Type 0} → (ℕ → X → Bool) → List (Option X) → List ℕ
first_places f xs = take 32 (places_where f 0 xs)

-- a free place has no group
abbrev pub group_at : {X G : Type 0} → (ℕ → X → G) → ℕ → Option X → List G → List G
group_at f p None gs = gs
group_at f p (Some x) gs = f p x ∷ gs

-- one group for each of these places, in order
abbrev pub groups_at : {X G : Type 0} → (ℕ → X → G) → List (Option X) → List ℕ → List G
groups_at f xs [] = []
groups_at f xs (p ∷ ps) = group_at f p (slice_index_or xs p None) (groups_at f xs ps)

-- these places, and behind them those that pass, counted from i, up to a limit
abbrev pub chosen : {X : Type 0} → ℕ → (ℕ → X → Bool) → ℕ → List (Option X) → List ℕ → List ℕ
chosen limit f i [] ps = ps
chosen limit f i (x ∷ xs) ps = chosen limit f (i + 1) xs (kept ps i (passes f i x) limit)
