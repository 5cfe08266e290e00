-- What up, down, originate and second answer and leave. Assumes nothing.
use Rattle.std.specs.Prelude.{ℕ, not, List, [], ◌∷◌, Some, None, Ok, Err, Option, Result}
use Rattle.kinds.specs.Kinds.{Operations}
use Rattle.kinds.specs.Recency.{instance_at}
use Rattle.packets.specs.declared.ids.Name.{Name}
use Rattle.packets.specs.declared.ids.NodeId.{NodeId}
use Rattle.tables.specs.declared.element.Element.{Element}
use Rattle.lines.specs.declared.line.State.TheVariants.{Down}
use Rattle.database.specs.declared.node.Node.{Node}
use Rattle.database.specs.Entries.{cleared, entered, brought_up, settled}
use Rattle.database.specs.Nodes.{World, world}
use Rattle.tables.specs.Searches.{free_place, place_of}
use Rattle.database.specs.Seconds.{second_world}
use Rattle.calls.specs.declared.originate.Origination.{Origination}
use Rattle.calls.specs.declared.originate.Succession.{Succession}
use Rattle.calls.specs.declared.refusal.Refusal.{Refusal}
use Rattle.calls.specs.declared.refusal.Refusal.TheVariants.{RowLength, LineNumber, LineState, NeighbourId, BadElement, PlacesFull, LastInstance}
use Rattle.calls.specs.Guards.{is_sound, bad_rows, id_in_use, line_down, no_such_line}
use Rattle.calls.specs.Refusals.{Check, ◌⇒◌, checked, unless}

module _ {I : Type 0} (w : World I) where
  -- every call after start first looks at the rows
  abbrev rows_first : Check
  rows_first = bad_rows w.elements w.wants ⇒ RowLength

  abbrev pub up_checks : ℕ → NodeId → List Check
  up_checks line id =
      rows_first
      ∷ (no_such_line line ⇒ LineNumber)
      ∷ (not (line_down w.node line) ⇒ LineState)
      ∷ (id_in_use w.node id ⇒ NeighbourId)
      ∷ []

  abbrev pub up_answer : ℕ → NodeId → Result (Unit {0}) Refusal
  up_answer line id = checked (up_checks line id) (Ok tt)

  abbrev pub up_world : ℕ → NodeId → ℕ → World I
  up_world line id ds = unless (up_checks line id) w (world (brought_up line id ds w.node) w.elements w.wants)

  abbrev pub down_checks : ℕ → List Check
  down_checks line =
      rows_first
      ∷ (no_such_line line ⇒ LineNumber)
      ∷ (line_down w.node line ⇒ LineState)
      ∷ []

  abbrev pub down_answer : ℕ → Result (Unit {0}) Refusal
  down_answer line = checked (down_checks line) (Ok tt)

  abbrev pub down_world : ℕ → World I
  down_world line = unless (down_checks line) w (world (cleared line Down w.node) w.elements w.wants)

  abbrev pub second_checks : List Check
  second_checks = rows_first ∷ []

  abbrev pub second_answer : Result (Unit {0}) Refusal
  second_answer = checked second_checks (Ok tt)

abbrev pub second_left : {I : Type 0} → Operations I → World I → World I
second_left ops w = unless (second_checks w) w (second_world ops w)

abbrev pub own_name : Node → ℕ → Name
own_name n number = record { node = n.id; number = number }

abbrev pub succession : {I : Type 0} → ℕ → I → Succession I
succession p x = record { place = p; new = x }

abbrev pub next_at : {I : Type 0} → ℕ → Option I → Result (Succession I) Refusal
next_at p None = Err LastInstance
next_at p (Some x) = Ok (succession p x)

abbrev first_at : {I : Type 0} → I → Option ℕ → Result (Succession I) Refusal
first_at x None = Err PlacesFull
first_at x (Some p) = Ok (succession p x)

-- held: the next instance, in the same place; not held: the first, in the lowest free place
abbrev pub succession_from : {I : Type 0} → Operations I → List I → ℕ → ℕ → Option ℕ → Option ℕ → Result (Succession I) Refusal
succession_from ops xs check time (Some p) free = next_at p (ops.next (instance_at ops xs p) check time)
succession_from ops xs check time None free = first_at (ops.first check time) free

abbrev pub succession_of : {I : Type 0} → Operations I → Node → List I → Name → ℕ → ℕ → Result (Succession I) Refusal
succession_of ops n xs name check time = succession_from ops xs check time (place_of n.places name) (free_place n.places)

abbrev pub own_element : Node → Origination → Element
own_element n s = record { name = own_name n s.number; group = n.group; element_type = s.element_type }

abbrev pub settled_world : {I : Type 0} → World I → World I
settled_world w = world (settled w.node) w.elements w.wants

abbrev pub originated : {I : Type 0} → Operations I → World I → Origination → Result (Succession I) Refusal → World I
originated ops w s (Ok t) = settled_world (entered ops t.place (own_element w.node s) t.new s.body.now w)
originated ops w s (Err r) = w

abbrev pub done : {A : Type 0} → Result A Refusal → Result (Unit {0}) Refusal
done (Ok a) = Ok tt
done (Err r) = Err r

abbrev pub originate_checks : {I : Type 0} → World I → Origination → List Check
originate_checks w s = (bad_rows w.elements w.wants ⇒ RowLength) ∷ (not (is_sound s.body.now s.time) ⇒ BadElement) ∷ []

abbrev pub originate_answer : {I : Type 0} → Operations I → World I → Origination → Result (Unit {0}) Refusal
originate_answer ops w s =
    checked (originate_checks w s) (done (succession_of ops w.node w.elements (own_name w.node s.number) s.check s.time))

abbrev pub originate_world : {I : Type 0} → Operations I → World I → Origination → World I
originate_world ops w s =
    unless (originate_checks w s) w (originated ops w s (succession_of ops w.node w.elements (own_name w.node s.number) s.check s.time))
