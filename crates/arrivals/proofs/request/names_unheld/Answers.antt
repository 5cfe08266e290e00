use Rattle.std.proofs.Common.{refl, ap, rules, tests, ◌∙◌}
use Rattle.std.proofs.lemmas.Iterator.Consumers.{YieldsList-from_first}
use Rattle.std.proofs.lemmas.Iterator.Search.{any_from_yields_List}
use Rattle.packets.specs.Requests.{number_at}
use Rattle.exchange.specs.Showings.{is_unheld, some_unheld}
use Rattle.lines.proofs.TableLaws.{list_any_is}
use Rattle.arrivals.specs.Readings.{requested_at}
use Rattle.arrivals.specs.Walks.{ahead}
use Rattle.arrivals.proofs.SearchLaws.{some_map}
use Rattle.arrivals.proofs.request.names_unheld.Goals as goal

pub returns : goal.returns
returns c =
    let p = is_unheld c.args.node.now.places in
    let w = c.walk_names.result in
    any_from_yields_List (λ x. p (requested_at x)) c.any.new.self _ _ c.any.ensures.ran (YieldsList-from_first (λ x. x) (ahead number_at 4) (ahead number_at 4 w) refl) (λ x b q k. search (rules, tests))
    ∙ list_any_is (λ x. p (requested_at x)) (ahead number_at 4 w) ∙ some_map p requested_at (ahead number_at 4 w)
    ∙ ap (some_unheld c.args.node.now.places) c.walk_names.ensures
