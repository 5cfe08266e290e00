use Rattle.std.proofs.Common.{rules}
use Rattle.std.proofs.lemmas.List.Edits.{map_over_more}
use Rattle.tables.specs.Wants.{second_want}
use Rattle.tables.proofs.wants.raise_wants.Goals as goal

pub loop-want-preserved : goal.loop-want-preserved
loop-want-preserved c = search (rules, map_over_more (second_want))
