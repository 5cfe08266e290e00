use Rattle.std.proofs.Common.{◌≡◌, length}
use Rattle.database.specs.Seconds.{dropped_at}
use Rattle.lines.specs.Tables.{in_turn}
use Rattle.database.proofs.node.Node.drop_each.Given as goal

abbrev pub invariant-loop-place : goal.invariant-loop-place
invariant-loop-place g l = l.self ≡ in_turn (dropped_at g.K.Kind.model l.elements) (length l.yielded) l.initial.self
