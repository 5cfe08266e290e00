use Rattle.std.proofs.Common.{◌≡◌, ◌++◌, map, take, drop}
use Rattle.tables.specs.Wants.{removed_want}
use Rattle.tables.proofs.wants.remove_wants.Given as goal

abbrev pub invariant-loop-want : goal.invariant-loop-want
invariant-loop-want l = l.wants ≡ map (removed_want l.line) (take l.want-index l.initial.wants) ++ drop l.want-index l.initial.wants
