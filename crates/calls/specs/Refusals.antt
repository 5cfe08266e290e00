-- Why a call declines, and the number of each reason. Assumes nothing.
use Rattle.std.specs.Prelude.{ℕ, Bool, cond, List, [], ◌∷◌, Err, Result}
use Rattle.calls.specs.declared.refusal.Refusal.{Refusal}
use Rattle.calls.specs.declared.refusal.Refusal.TheVariants.{RowLength, LineNumber, LineState, NeighbourId, BufferLength, PacketHeader, PacketGroup, NotSummary, WantPlaces, BadElement, PlacesFull, LastInstance, NotHeld}

abbrev pub refusal_number : Refusal → ℕ
refusal_number RowLength = 1
refusal_number LineNumber = 2
refusal_number LineState = 3
refusal_number NeighbourId = 4
refusal_number BufferLength = 5
refusal_number PacketHeader = 6
refusal_number PacketGroup = 7
refusal_number NotSummary = 8
refusal_number WantPlaces = 9
refusal_number BadElement = 10
refusal_number PlacesFull = 11
refusal_number LastInstance = 12
refusal_number NotHeld = 13

-- reasons to decline, in the order in which they are tested, each with whether it applies
pub record Check : Type 0 where
  pub applies : Bool
  pub reason : Refusal

infixl 20 ◌⇒◌
abbrev pub ◌⇒◌ : Bool → Refusal → Check
b ⇒ r = record { applies = b; reason = r }

-- the first reason that applies is the answer
abbrev pub checked : {A : Type 0} → List Check → Result A Refusal → Result A Refusal
checked [] answer = answer
checked (c ∷ cs) answer = cond c.applies (Err c.reason) (checked cs answer)

-- a call that declines leaves everything as it was
abbrev pub unless : {S : Type 0} → List Check → S → S → S
unless [] before after = after
unless (c ∷ cs) before after = cond c.applies before (unless cs before after)
