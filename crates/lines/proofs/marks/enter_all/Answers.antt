use Rattle.std.proofs.Common.{rules}
use Rattle.std.proofs.lemmas.List.Edits.{map_over_more}
use Rattle.lines.specs.Lines.{entered_on}
use Rattle.lines.proofs.marks.enter_all.Goals as goal

pub loop-line-preserved : goal.loop-line-preserved
loop-line-preserved c = search (rules, map_over_more (entered_on c.args.place))
