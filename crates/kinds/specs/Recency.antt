-- Which instance is newest, and what follows one. Assumes nothing.
use Rattle.std.specs.Prelude.{◌≡◌, ℕ, zero, suc, ◌-◌, ◌<◌, Bool, true, false, cond, List, length, Some, None, Option, ◌==◌, ◌≢◌, slice_index_or}
use Rattle.kinds.specs.declared.rank.Rank.{Rank}
use Rattle.kinds.specs.declared.rank.Rank.TheVariants.{Lower, Same, Higher}
use Rattle.kinds.specs.Kinds.{Operations}
use Rattle.kinds.specs.Ranks.{OrderFacts}

abbrev pub is_higher : Rank → Bool
is_higher Lower = false
is_higher Same = false
is_higher Higher = true

-- the instance at an index; what lies past the end is never looked at
abbrev pub instance_at : {I : Type 0} → Operations I → List I → ℕ → I
instance_at ops xs k = slice_index_or xs k (ops.first 0 0)

-- the index of the newer of two, the first where they rank the same
abbrev pub newer_of : {I : Type 0} → Operations I → List I → ℕ → ℕ → ℕ
newer_of ops xs best i = cond (is_higher (ops.rank (instance_at ops xs i) (instance_at ops xs best))) i best

-- the index of the newest of the first n + 1
unfoldable pub newest_to : {I : Type 0} → Operations I → List I → ℕ → ℕ
newest_to ops xs zero = zero
newest_to ops xs (suc n) = newer_of ops xs (newest_to ops xs n) (suc n)

abbrev pub newest_of : {I : Type 0} → Operations I → List I → Option ℕ
newest_of ops xs = cond (length xs == 0) None (Some (newest_to ops xs (length xs - 1)))

-- None ranks above the instance at p, and all before it rank below it, in an order in which this makes sense.
pub record Newest {I : Type 0} (ops : Operations I) (xs : List I) (p : ℕ) : Type 0 where
  pub within : p < length xs
  pub none_higher : (k : ℕ) → k < length xs → ops.rank (instance_at ops xs k) (instance_at ops xs p) ≢ Higher
  pub earlier_lower : (k : ℕ) → k < p → ops.rank (instance_at ops xs k) (instance_at ops xs p) ≡ Lower
  pub order : OrderFacts ops.rank

-- the next after the instance held, or the first where none is
abbrev pub successor_of : {I : Type 0} → Operations I → Option I → ℕ → ℕ → Option I
successor_of ops None check time = Some (ops.first check time)
successor_of ops (Some x) check time = ops.next x check time

-- A successor has the time given, and ranks above all that the instance held was above or the same as.
pub record Succeeds {I : Type 0} (ops : Operations I) (held : Option I) (time : ℕ) (new : Option I) : Type 0 where
  pub has_time : (y : I) → 0 < time → new ≡ Some y → ops.left y ≡ time
  pub above_held : (x y : I) → 0 < time → held ≡ Some x → new ≡ Some y → ops.rank y x ≡ Higher
  pub above_lower : (x y z : I) → 0 < time → held ≡ Some x → new ≡ Some y → (ops.rank x z ≢ Lower) → ops.rank y z ≡ Higher
