-- One line of a node changed, or the wants. Assumes nothing.
use Rattle.std.specs.Prelude.{ℕ, List, Option, slice_index_or, slice_set}
use Rattle.lines.specs.declared.line.Line.{Line}
use Rattle.lines.specs.declared.line.State.TheVariants.{Negotiating}
use Rattle.database.specs.declared.node.Node.{Node}
use Rattle.tables.specs.declared.want.Want.{Want}
use Rattle.database.specs.Entries.{cleared}
use Rattle.lines.specs.Lines.{no_line}
use Rattle.database.specs.Nodes.{World, world, with_lines}

-- a line by its number
abbrev pub line_at : Node → ℕ → Line
line_at n i = slice_index_or n.lines i no_line

-- one line is changed, and nothing else
abbrev pub on_line : {I : Type 0} → ℕ → (Line → Line) → World I → World I
on_line i f w =
    world (with_lines w.node w.node.wants (slice_set w.node.lines i (f (line_at w.node i)))) w.elements w.wants

-- other wants, with their row
abbrev pub with_wants : {I : Type 0} → World I → List (Option Want) → List I → World I
with_wants w wants row = world (with_lines w.node wants w.node.lines) w.elements row

-- the line is back at negotiation, without marks, wants or last accepted summary
abbrev pub restarted : {I : Type 0} → ℕ → World I → World I
restarted i w = world (cleared i Negotiating w.node) w.elements w.wants
