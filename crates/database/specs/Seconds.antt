-- The passes of a second. Assumes nothing.
use Rattle.std.specs.Prelude.{ℕ, cond, not, ◌&&◌, List, [], map, length, Some, None, Option, nat_lt, slice_set}
use Rattle.kinds.specs.Kinds.{Operations, is_expired}
use Rattle.kinds.specs.Recency.{instance_at}
use Rattle.tables.specs.declared.element.Element.{Element}
use Rattle.database.specs.declared.node.Node.{Node}
use Rattle.database.specs.Entries.{dropped, entered, settled}
use Rattle.lines.specs.Lines.{second_line, some_owed, some_synchronizing}
use Rattle.database.specs.Nodes.{World, world, element_at, with_lines}
use Rattle.lines.specs.Tables.{in_turn}
use Rattle.tables.specs.Wants.{second_want}

-- an expired element that is owed to no line is dropped
abbrev pub drop_at : {I : Type 0} → Operations I → List I → ℕ → Option Element → Node → Node
drop_at ops xs p None n = n
drop_at ops xs p (Some e) n = cond (is_expired ops (instance_at ops xs p) && not (some_owed n.lines p)) (dropped p n) n

abbrev pub dropped_at : {I : Type 0} → Operations I → List I → ℕ → Node → Node
dropped_at ops xs p n = cond (nat_lt p (length xs)) (drop_at ops xs p (element_at n p) n) n

abbrev pub dropped_all : {I : Type 0} → Operations I → List I → Node → Node
dropped_all ops xs n = cond (some_synchronizing n.lines) n (in_turn (dropped_at ops xs) 64 n)

-- a second less; what runs out enters in that form with an empty body, and what is expired stays
abbrev pub age_by : {I : Type 0} → Operations I → ℕ → I → Element → World I → World I
age_by ops p x e w =
    cond (is_expired ops x) w
    (cond (is_expired ops (ops.older x)) (entered ops p e (ops.older x) [] w) (world w.node (slice_set w.elements p (ops.older x)) w.wants))

abbrev pub age_at : {I : Type 0} → Operations I → ℕ → Option Element → World I → World I
age_at ops p None w = w
age_at ops p (Some e) w = age_by ops p (instance_at ops w.elements p) e w

abbrev pub aged_at : {I : Type 0} → Operations I → ℕ → World I → World I
aged_at ops p w = cond (nat_lt p (length w.elements)) (age_at ops p (element_at w.node p) w) w

abbrev pub aged_all : {I : Type 0} → Operations I → World I → World I
aged_all ops w = in_turn (aged_at ops) 64 w

abbrev pub raised_counts : Node → Node
raised_counts n = with_lines n (map second_want n.wants) (map second_line n.lines)

abbrev finished : {I : Type 0} → World I → World I
finished w = world (settled (raised_counts w.node)) w.elements w.wants

-- drop, age, counts, full: in this order
abbrev pub second_world : {I : Type 0} → Operations I → World I → World I
second_world ops w = finished (aged_all ops (world (dropped_all ops w.elements w.node) w.elements w.wants))
