use Rattle.std.proofs.Common.{◌≡◌, ◌++◌, take, drop}
use Rattle.lines.specs.Tables.{map_from}
use Rattle.tables.specs.Wants.{settled_line}
use Rattle.tables.proofs.wants.settle.Given as goal

abbrev pub invariant-loop-number : goal.invariant-loop-number
invariant-loop-number l = l.lines ≡ map_from (settled_line l.wants) 0 (take l.number l.initial.lines) ++ drop l.number l.initial.lines
