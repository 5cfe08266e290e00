use Rattle.std.proofs.Common.{◌≡◌, ◌++◌, map, take, drop}
use Rattle.lines.specs.Lines.{entered_on}
use Rattle.lines.proofs.marks.enter_all.Given as goal

abbrev pub invariant-loop-line : goal.invariant-loop-line
invariant-loop-line l = l.lines ≡ map (entered_on l.place) (take l.line-index l.initial.lines) ++ drop l.line-index l.initial.lines
