use Rattle.std.proofs.Common.{◌≡◌, drop}
use Rattle.lines.specs.Progress.{sent_on}
use Rattle.lines.proofs.line.Line.send.Given as goal

abbrev pub invariant-loop-place : goal.invariant-loop-place
invariant-loop-place l = sent_on (drop l.place-index l.chosen) l.self ≡ sent_on l.chosen l.initial.self
