-- An instance enters at a place; a place is given up. Assumes nothing.
use Rattle.std.specs.Prelude.{ℕ, List, map, Some, None, slice_index_or, slice_set}
use Rattle.kinds.specs.Kinds.{Operations}
use Rattle.packets.specs.declared.ids.NodeId.{NodeId}
use Rattle.places.specs.BodyStores.{emptied, stored}
use Rattle.tables.specs.declared.element.Element.{Element}
use Rattle.lines.specs.declared.line.State.{State}
use Rattle.database.specs.declared.node.Node.{Node}
use Rattle.lines.specs.Lines.{cleared_line, entered_on, no_line, negotiating_line}
use Rattle.database.specs.Nodes.{World, world, with_lines, with_places}
use Rattle.tables.specs.Wants.{closed_wants, removed_wants, settled_lines}

-- the node after an entry: the element and its body at the place, owed on every line past negotiation and told on none,
-- and the wants of its name at or below the instance closed
abbrev pub entered_node : {I : Type 0} → Operations I → List I → ℕ → Element → I → List ℕ → Node → Node
entered_node ops row p e x body n = record {
  id = n.id;
  group = n.group;
  places = slice_set n.places p (Some e);
  bodies = stored n.bodies p body;
  wants = closed_wants ops row e.name x n.wants;
  lines = map (entered_on p) n.lines;
}

abbrev pub entered : {I : Type 0} → Operations I → ℕ → Element → I → List ℕ → World I → World I
entered ops p e x body w = world (entered_node ops w.wants p e x body w.node) (slice_set w.elements p x) w.wants

-- the place is free and has no body; its instance stays in the row
abbrev pub dropped : ℕ → Node → Node
dropped p n = with_places n (slice_set n.places p None) (emptied n.bodies p)

-- a line without marks, wants or last accepted summary, in the state given
abbrev pub cleared : ℕ → State → Node → Node
cleared i to n = with_lines n (removed_wants i n.wants) (slice_set n.lines i (cleared_line to (slice_index_or n.lines i no_line)))

-- a line without marks or wants, negotiating with a new neighbour
abbrev pub brought_up : ℕ → NodeId → ℕ → Node → Node
brought_up i id ds n = with_lines n (removed_wants i n.wants) (slice_set n.lines i (negotiating_line id ds (slice_index_or n.lines i no_line)))

-- loading lines without a want are full
abbrev pub settled : Node → Node
settled n = with_lines n n.wants (settled_lines n.wants n.lines)
