-- Sets of places. Assumes nothing.
use Rattle.std.specs.Prelude.{◌≡◌, ℕ, ◌<◌, Bool, true, false, cond, List, length, replicate, ◌≢◌, nat_lt, slice_index_or, slice_set}
use Rattle.places.specs.declared.set.PlaceSet.{PlaceSet}

abbrev pub mark_at : List Bool → ℕ → Bool
mark_at ms p = cond (nat_lt p (length ms)) (slice_index_or ms p false) false

abbrev pub marked : List Bool → ℕ → Bool → List Bool
marked ms p m = cond (nat_lt p (length ms)) (slice_set ms p m) ms

-- whether a place is in a set
unfoldable pub has : PlaceSet → ℕ → Bool
has s p = mark_at s.marks p

abbrev pub all_clear : List Bool
all_clear = replicate 64 false

unfoldable pub no_places : PlaceSet
no_places = record { marks = all_clear }

unfoldable pub with_place : PlaceSet → ℕ → PlaceSet
with_place s p = record { marks = marked s.marks p true }

unfoldable pub without_place : PlaceSet → ℕ → PlaceSet
without_place s p = record { marks = marked s.marks p false }

-- the place is in the set, or out of it, and no other place has changed
pub record Changed (before : PlaceSet) (p : ℕ) (there : Bool) (after : PlaceSet) : Type 0 where
  pub here : p < 64 → has after p ≡ there
  pub elsewhere : (q : ℕ) → (q ≢ p) → has after q ≡ has before q
