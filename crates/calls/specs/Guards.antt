-- The conditions under which calls decline. Assumes nothing.
use Rattle.std.specs.Prelude.{ℕ, ◌%◌, Bool, not, ◌&&◌, ◌||◌, List, length, ◌==◌, nat_le, slice_index_or}
use Rattle.packets.specs.declared.ids.NodeId.{NodeId}
use Rattle.packets.specs.Ids.{same_node}
use Rattle.database.specs.declared.node.Node.{Node}
use Rattle.lines.specs.Lines.{is_down, is_with, no_line}
use Rattle.lines.specs.Tables.{some_where}

-- a row is not 64 long
abbrev pub bad_rows : {I : Type 0} → List I → List I → Bool
bad_rows elements wants = not (length elements == 64) || not (length wants == 64)

-- lines are 0 to 7
abbrev pub no_such_line : ℕ → Bool
no_such_line line = nat_le 8 line

abbrev pub line_down : Node → ℕ → Bool
line_down n line = is_down (slice_index_or n.lines line no_line).state

-- the ID is ours, or that of a neighbour on a line that is not down
abbrev pub id_in_use : Node → NodeId → Bool
id_in_use n id = same_node n.id id || some_where (is_with id) n.lines

-- a body has 0 to 256 bytes, a multiple of 4, and a time is not 0
abbrev pub is_sound : List ℕ → ℕ → Bool
is_sound body time = nat_le (length body) 256 && length body % 4 == 0 && not (time == 0)
