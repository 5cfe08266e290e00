use Rattle.std.proofs.Common.{rules, tests, ◌∙◌}
use Rattle.std.proofs.lemmas.Iterator.{YieldsList-from_slice}
use Rattle.std.proofs.lemmas.Iterator.Search.{any_from_yields_List}
use Rattle.lines.specs.Lines.{is_with}
use Rattle.lines.proofs.TableLaws.{list_any_is}
use Rattle.lines.proofs.marks.is_neighbour.Goals as goal

pub returns : goal.returns
returns c =
    any_from_yields_List (is_with c.args.neighbour.now) _ _ _ c.any.ensures.ran (YieldsList-from_slice c.args.lines.now (cc)) (λ x b q k. search (rules, tests))
    ∙ list_any_is (is_with c.args.neighbour.now) c.args.lines.now
