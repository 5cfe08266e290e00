-- Searches by name and for a free place. Assumes nothing.
use Rattle.std.specs.Prelude.{ℕ, Bool, true, false, List, Some, None, Option}
use Rattle.packets.specs.declared.ids.Name.{Name}
use Rattle.packets.specs.Ids.{same_name}
use Rattle.tables.specs.declared.element.Element.{Element}
use Rattle.lines.specs.Tables.{first_where}

abbrev pub is_named : Name → Option Element → Bool
is_named name None = false
is_named name (Some e) = same_name e.name name

abbrev pub is_free : {X : Type 0} → Option X → Bool
is_free None = true
is_free (Some x) = false

-- where a name is held, if it is
abbrev pub place_of : List (Option Element) → Name → Option ℕ
place_of places name = first_where (is_named name) 0 places

-- the lowest free place, if there is one
abbrev pub free_place : {X : Type 0} → List (Option X) → Option ℕ
free_place xs = first_where is_free 0 xs
