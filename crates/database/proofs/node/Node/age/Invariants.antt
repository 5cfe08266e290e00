use Rattle.std.proofs.Common.{◌≡◌}
use Rattle.database.specs.Nodes.{world}
use Rattle.database.specs.Seconds.{aged_at}
use Rattle.lines.specs.Tables.{in_turn}
use Rattle.database.proofs.node.Node.age.Given as goal

abbrev pub invariant-loop-place : goal.invariant-loop-place
invariant-loop-place g l = world l.self l.elements l.wanted ≡ in_turn (aged_at g.K.Kind.model) l.place (world l.initial.self l.initial.elements l.wanted)
