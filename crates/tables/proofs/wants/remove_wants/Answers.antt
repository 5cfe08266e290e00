use Rattle.std.proofs.Common.{rules, take_all}
use Rattle.std.proofs.lemmas.List.{drop_all}
use Rattle.std.proofs.lemmas.List.Edits.{map_over_more}
use Rattle.tables.specs.Wants.{removed_want}
use Rattle.tables.proofs.WantLaws.{none_left}
use Rattle.tables.proofs.wants.remove_wants.Goals as goal

pub loop-want-preserved : goal.loop-want-preserved
loop-want-preserved c = search (rules, map_over_more (removed_want c.args.line))

pub returns-clause-none : goal.returns-clause-none
returns-clause-none c = none_left c.args.line c.args.wants.now c.loop-want.wants (search (rules, take_all, drop_all))
