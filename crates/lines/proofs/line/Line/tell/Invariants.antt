use Rattle.std.proofs.Common.{◌≡◌, drop}
use Rattle.lines.proofs.TellingLaws.{told_now}
use Rattle.lines.proofs.line.Line.tell.Given as goal

abbrev pub invariant-loop-place : goal.invariant-loop-place
invariant-loop-place l = told_now (drop l.place-index l.chosen) l.self ≡ told_now l.chosen l.initial.self
