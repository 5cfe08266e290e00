use Rattle.std.proofs.Common.{◌≡◌, ◌++◌, take, drop}
use Rattle.lines.specs.Tables.{map_from}
use Rattle.tables.specs.Wants.{closed_at}
use Rattle.tables.proofs.wants.close_wants.Given as goal

abbrev pub invariant-loop-place : goal.invariant-loop-place
invariant-loop-place g l = l.wants ≡ map_from (closed_at g.K.Kind.model l.row l.name l.instance) 0 (take l.place l.initial.wants) ++ drop l.place l.initial.wants
