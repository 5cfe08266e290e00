use Rattle.std.proofs.Common.{◌≡◌, ◌++◌, map, take, drop}
use Rattle.tables.specs.Wants.{second_want}
use Rattle.tables.proofs.wants.raise_wants.Given as goal

abbrev pub invariant-loop-want : goal.invariant-loop-want
invariant-loop-want l = l.wants ≡ map (second_want) (take l.want-index l.initial.wants) ++ drop l.want-index l.initial.wants
