-- What next answers, leaves and writes. Assumes nothing.
use Rattle.std.specs.Prelude.{ℕ, List, [], ◌∷◌, length, Some, None, Ok, Option, Result, nat_lt}
use Rattle.kinds.specs.Kinds.{Operations}
use Rattle.database.specs.Nodes.{World}
use Rattle.exchange.specs.Handing.{Handed, handed}
use Rattle.calls.specs.declared.refusal.Refusal.{Refusal}
use Rattle.calls.specs.declared.refusal.Refusal.TheVariants.{RowLength, LineNumber, LineState, BufferLength}
use Rattle.calls.specs.Guards.{bad_rows, line_down, no_such_line}
use Rattle.calls.specs.Outcomes.{Effect, Outcome, effect, pasted, written}
use Rattle.calls.specs.Outcomes.Outcome.{done, nothing_due}
use Rattle.calls.specs.Refusals.{Check, ◌⇒◌, checked, unless}

-- a packet that is due is written; where none is, nothing changes
abbrev pub handing : {I : Type 0} → World I → Option (Handed I) → Effect I
handing w None = effect nothing_due None w
handing w (Some h) = effect (done (written (Some h.content)) 0) (Some h.content) h.world

module _ {I : Type 0} (ops : Operations I) (w : World I) where
  abbrev pub next_checks : ℕ → List ℕ → List Check
  next_checks line buffer =
      (bad_rows w.elements w.wants ⇒ RowLength)
      ∷ (no_such_line line ⇒ LineNumber)
      ∷ (line_down w.node line ⇒ LineState)
      ∷ (nat_lt (length buffer) 2048 ⇒ BufferLength)
      ∷ []

  abbrev pub next_answer : ℕ → List ℕ → Result Outcome Refusal
  next_answer line buffer = checked (next_checks line buffer) (Ok (handing w (handed ops line w)).outcome)

  abbrev pub next_world : ℕ → List ℕ → World I
  next_world line buffer = unless (next_checks line buffer) w (handing w (handed ops line w)).world

  -- the buffer after the call
  abbrev pub next_buffer : ℕ → List ℕ → List ℕ
  next_buffer line buffer = unless (next_checks line buffer) buffer (pasted (handing w (handed ops line w)).content buffer)
