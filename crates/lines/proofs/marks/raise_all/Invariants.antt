use Rattle.std.proofs.Common.{◌≡◌, ◌++◌, map, take, drop}
use Rattle.places.specs.SendCounts.{raised}
use Rattle.lines.specs.Lines.{resend_limit}
use Rattle.lines.proofs.marks.raise_all.Given as goal

abbrev pub invariant-loop-sent : goal.invariant-loop-sent
invariant-loop-sent l = l.counts ≡ map (λ c. raised c resend_limit) (take l.sent-index l.initial.counts) ++ drop l.sent-index l.initial.counts
