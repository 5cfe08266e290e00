use Rattle.std.proofs.Common.{rules, tests, ◌∙◌}
use Rattle.std.proofs.lemmas.Iterator.{YieldsList-from_slice}
use Rattle.std.proofs.lemmas.Iterator.Search.{any_from_yields_List}
use Rattle.lines.specs.Lines.{is_synchronizing}
use Rattle.lines.proofs.TableLaws.{list_any_is}
use Rattle.lines.proofs.marks.is_any_synchronizing.Goals as goal

pub returns : goal.returns
returns c =
    any_from_yields_List (λ l. is_synchronizing l.state) _ _ _ c.any.ensures.ran (YieldsList-from_slice c.args.lines.now (cc)) (λ x b q k. search (rules, tests))
    ∙ list_any_is (λ l. is_synchronizing l.state) c.args.lines.now
