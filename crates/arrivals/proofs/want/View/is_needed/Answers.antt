use Rattle.std.proofs.Common.{rules, tests, ◌∙◌}
use Rattle.std.proofs.lemmas.Iterator.{YieldsList-from_slice}
use Rattle.std.proofs.lemmas.Iterator.Search.{any_from_yields_List}
use Rattle.exchange.specs.Wanting.{needs_for}
use Rattle.arrivals.specs.Readings.{naming_view}
use Rattle.arrivals.specs.Views.{viewed}
use Rattle.lines.proofs.TableLaws.{list_any_is}
use Rattle.arrivals.proofs.SearchLaws.{some_map}
use Rattle.arrivals.proofs.want.View.is_needed.Goals as goal

pub returns : goal.returns
returns g c =
    let p = needs_for g.K.Kind.model c.args.self.now.line (viewed c.args.self.now) c.args.name.now in
    any_from_yields_List (λ x. p (naming_view x)) _ _ _ c.any.ensures.ran (YieldsList-from_slice c.args.namings.now (cc)) (λ x b q k. search (rules, tests))
    ∙ list_any_is (λ x. p (naming_view x)) c.args.namings.now ∙ some_map p naming_view c.args.namings.now
