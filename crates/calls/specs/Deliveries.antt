-- What deliver answers, leaves and writes. Assumes nothing.
use Rattle.std.specs.Prelude.{ℕ, Bool, true, false, List, [], ◌∷◌, length, Ok, Err, Result, nat_lt}
use Rattle.kinds.specs.Kinds.{Operations}
use Rattle.packets.specs.declared.packet.Fault.{Fault}
use Rattle.packets.specs.declared.packet.Fault.TheVariants.{Header, Group}
use Rattle.packets.specs.Contents.{PacketView, Said, decode}
use Rattle.database.specs.Nodes.{World}
use Rattle.calls.specs.declared.refusal.Refusal.{Refusal}
use Rattle.calls.specs.declared.refusal.Refusal.TheVariants.{RowLength, LineNumber, LineState, BufferLength, PacketHeader, PacketGroup, NotSummary, WantPlaces}
use Rattle.calls.specs.Effects.{delivered, lacks_wants, too_early, unchanged}
use Rattle.calls.specs.Guards.{bad_rows, line_down, no_such_line}
use Rattle.calls.specs.Outcomes.{Effect, Outcome, pasted}
use Rattle.calls.specs.Refusals.{Check, ◌⇒◌, checked, unless}

abbrev pub header_fault : Result PacketView Fault → Bool
header_fault (Ok v) = false
header_fault (Err (Header f)) = true
header_fault (Err (Group f at)) = false

abbrev pub group_fault : Result PacketView Fault → Bool
group_fault (Ok v) = false
group_fault (Err (Header f)) = false
group_fault (Err (Group f at)) = true

-- a condition on what a packet says; one with a fault says nothing
abbrev pub says : (Said → Bool) → Result PacketView Fault → Bool
says f (Ok v) = f v.said
says f (Err e) = false

module _ {I : Type 0} (ops : Operations I) (w : World I) where
  -- the effect of a packet that was read; one with a fault was refused before
  abbrev pub effect_of : ℕ → Result PacketView Fault → Effect I
  effect_of line (Ok v) = delivered ops line w v.said
  effect_of line (Err f) = unchanged w

  abbrev pub deliver_checks : ℕ → List ℕ → List ℕ → List Check
  deliver_checks line bytes buffer =
      (bad_rows w.elements w.wants ⇒ RowLength)
      ∷ (no_such_line line ⇒ LineNumber)
      ∷ (line_down w.node line ⇒ LineState)
      ∷ (nat_lt (length buffer) 2048 ⇒ BufferLength)
      ∷ (header_fault (decode bytes) ⇒ PacketHeader)
      ∷ (group_fault (decode bytes) ⇒ PacketGroup)
      ∷ (says (too_early ops line w) (decode bytes) ⇒ NotSummary)
      ∷ (says (lacks_wants ops line w) (decode bytes) ⇒ WantPlaces)
      ∷ []

  abbrev pub deliver_answer : ℕ → List ℕ → List ℕ → Result Outcome Refusal
  deliver_answer line bytes buffer = checked (deliver_checks line bytes buffer) (Ok (effect_of line (decode bytes)).outcome)

  abbrev pub deliver_world : ℕ → List ℕ → List ℕ → World I
  deliver_world line bytes buffer = unless (deliver_checks line bytes buffer) w (effect_of line (decode bytes)).world

  -- the reply buffer after the call
  abbrev pub deliver_buffer : ℕ → List ℕ → List ℕ → List ℕ
  deliver_buffer line bytes buffer = unless (deliver_checks line bytes buffer) buffer (pasted (effect_of line (decode bytes)).content buffer)
