use Rattle.std.proofs.Common.{rules, tests, ◌∙◌}
use Rattle.std.proofs.lemmas.Iterator.{YieldsList-from_slice}
use Rattle.std.proofs.lemmas.Iterator.Consumers.{YieldsList-from_filter, count_from_yields_List}
use Rattle.tables.specs.Searches.{is_free}
use Rattle.arrivals.proofs.SearchLaws.{free_as}
use Rattle.arrivals.proofs.want.count_free.Goals as goal

pub returns : goal.returns
returns c =
    count_from_yields_List _ c.count.result c.count.ensures.ran (YieldsList-from_filter _ is_free (YieldsList-from_slice c.args.wants.now (cc)) c.filter.ensures.closure (λ x b q k. search (rules, tests)))
    ∙ free_as c.args.wants.now
