use Rattle.std.proofs.Common.{rules, tests, ◌∙◌}
use Rattle.std.proofs.lemmas.Iterator.{YieldsList-from_slice}
use Rattle.std.proofs.lemmas.Iterator.Search.{any_from_yields_List}
use Rattle.places.specs.PlaceSets.{has}
use Rattle.lines.proofs.TableLaws.{list_any_is}
use Rattle.lines.proofs.marks.is_owed.Goals as goal

pub returns : goal.returns
returns c =
    any_from_yields_List (λ l. has l.owed c.args.place) _ _ _ c.any.ensures.ran (YieldsList-from_slice c.args.lines.now (cc)) (λ x b q k. search (rules, tests))
    ∙ list_any_is (λ l. has l.owed c.args.place) c.args.lines.now
