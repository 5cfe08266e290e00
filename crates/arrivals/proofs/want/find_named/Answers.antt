use Rattle.std.proofs.Common.{rules, tests, ◌∙◌}
use Rattle.std.proofs.lemmas.Iterator.{YieldsList-from_slice}
use Rattle.std.proofs.lemmas.Iterator.Search.{position_from_yields_List}
use Rattle.exchange.specs.Wanting.{is_want}
use Rattle.tables.proofs.SearchLaws.{first_position}
use Rattle.arrivals.proofs.want.find_named.Goals as goal

pub returns : goal.returns
returns c =
    position_from_yields_List (is_want c.args.line c.args.name.now) _ _ _ c.position.ensures.ran (YieldsList-from_slice c.args.wants.now (cc)) (λ x b q k. search (rules, tests))
    ∙ first_position (is_want c.args.line c.args.name.now) c.args.wants.now
