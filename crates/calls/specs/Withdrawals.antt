-- What withdraw answers and leaves. Assumes nothing.
use Rattle.std.specs.Prelude.{ℕ, Bool, true, List, [], ◌∷◌, Some, None, Ok, Option, Result}
use Rattle.kinds.specs.Kinds.{Operations, is_expired}
use Rattle.kinds.specs.Recency.{instance_at}
use Rattle.tables.specs.declared.element.Element.{Element}
use Rattle.database.specs.Entries.{entered}
use Rattle.database.specs.Nodes.{World, element_at}
use Rattle.tables.specs.Searches.{place_of}
use Rattle.calls.specs.declared.refusal.Refusal.{Refusal}
use Rattle.calls.specs.declared.refusal.Refusal.TheVariants.{RowLength, NotHeld}
use Rattle.calls.specs.Calls.{own_name, settled_world}
use Rattle.calls.specs.Guards.{bad_rows}
use Rattle.calls.specs.Refusals.{Check, ◌⇒◌, checked, unless}

module _ {I : Type 0} (ops : Operations I) (w : World I) where
  -- where an element of our own is held
  abbrev pub own_place : ℕ → Option ℕ
  own_place number = place_of w.node.places (own_name w.node number)

  -- not held, or expired
  abbrev pub nothing_at : Option ℕ → Bool
  nothing_at None = true
  nothing_at (Some p) = is_expired ops (instance_at ops w.elements p)

  -- the expired form enters with an empty body; type and peer group ID stay
  abbrev pub ended : ℕ → Option Element → World I
  ended p None = w
  ended p (Some e) = settled_world (entered ops p e (ops.expired (instance_at ops w.elements p)) [] w)

  abbrev pub ended_at : Option ℕ → World I
  ended_at None = w
  ended_at (Some p) = ended p (element_at w.node p)

  abbrev pub withdraw_checks : ℕ → List Check
  withdraw_checks number =
      (bad_rows w.elements w.wants ⇒ RowLength)
      ∷ (nothing_at (own_place number) ⇒ NotHeld)
      ∷ []

  abbrev pub withdraw_answer : ℕ → Result (Unit {0}) Refusal
  withdraw_answer number = checked (withdraw_checks number) (Ok tt)

  abbrev pub withdraw_world : ℕ → World I
  withdraw_world number = unless (withdraw_checks number) w (ended_at (own_place number))
