use Rattle.std.proofs.Common.{rules, tests, ◌∙◌}
use Rattle.std.proofs.lemmas.Iterator.{YieldsList-from_slice}
use Rattle.std.proofs.lemmas.Iterator.Search.{position_from_yields_List}
use Rattle.tables.specs.Searches.{is_named}
use Rattle.tables.proofs.SearchLaws.{first_position}
use Rattle.tables.proofs.search.find_in.Goals as goal

pub returns-clause-place : goal.returns-clause-place
returns-clause-place c =
    position_from_yields_List (is_named c.args.name.now) _ _ _ c.position.ensures.ran (YieldsList-from_slice c.args.places.now (cc)) (λ x b q k. search (rules, tests))
    ∙ first_position (is_named c.args.name.now) c.args.places.now
