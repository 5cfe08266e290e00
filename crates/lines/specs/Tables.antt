-- Tables searched and changed place by place. Assumes nothing.
use Rattle.std.specs.Prelude.{◌≡◌, ℕ, zero, suc, ◌+◌, ◌<◌, Bool, true, false, cond, List, [], ◌∷◌, length, Some, None, Option, MatchOption, slice_index_or}

-- the first place, counted from i, whose record passes
abbrev pub first_where : {X : Type 0} → (X → Bool) → ℕ → List X → Option ℕ
first_where p i [] = None
first_where p i (x ∷ xs) = cond (p x) (Some i) (first_where p (i + 1) xs)

-- whether any record passes
abbrev pub some_where : {X : Type 0} → (X → Bool) → List X → Bool
some_where p [] = false
some_where p (x ∷ xs) = cond (p x) true (some_where p xs)

-- The place found passes and none before it does; where none is found, no place passes.
abbrev pub First : {X : Type 0} → (X → Bool) → List X → Option ℕ → Type 0
First {X} p xs r =
    MatchOption r ((k : ℕ) (d : X) → k < length xs → p (slice_index_or xs k d) ≡ false)
    (λ i. (i < length xs) × ((d : X) → p (slice_index_or xs i d) ≡ true) × ((k : ℕ) (d : X) → k < i → p (slice_index_or xs k d) ≡ false))

-- each record changed as its place says
abbrev pub map_from : {X : Type 0} → (ℕ → X → X) → ℕ → List X → List X
map_from f i [] = []
map_from f i (x ∷ xs) = f i x ∷ map_from f (i + 1) xs

abbrev pub by_place : {X : Type 0} → (ℕ → X → X) → List X → List X
by_place f xs = map_from f 0 xs

-- a change at place 0, then at place 1, and so on below n
unfoldable pub in_turn : {S : Type 0} → (ℕ → S → S) → ℕ → S → S
in_turn f zero s = s
in_turn f (suc n) s = f n (in_turn f n s)
