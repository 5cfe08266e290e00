use Rattle.std.proofs.Common.{◌≡◌, ◌++◌, map, take, drop}
use Rattle.lines.specs.Lines.{second_line}
use Rattle.lines.proofs.marks.raise_lines.Given as goal

abbrev pub invariant-loop-line : goal.invariant-loop-line
invariant-loop-line l = l.lines ≡ map (second_line) (take l.line-index l.initial.lines) ++ drop l.line-index l.initial.lines
