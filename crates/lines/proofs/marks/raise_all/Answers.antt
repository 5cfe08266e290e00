use Rattle.std.proofs.Common.{rules}
use Rattle.std.proofs.lemmas.List.Edits.{map_over_more}
use Rattle.places.specs.SendCounts.{raised}
use Rattle.lines.specs.Lines.{resend_limit}
use Rattle.lines.proofs.marks.raise_all.Goals as goal

pub loop-sent-preserved : goal.loop-sent-preserved
loop-sent-preserved c = search (rules, map_over_more (λ c. raised c resend_limit))
