use Rattle.std.proofs.Common.{ℕ, Bool, rules, tests, arith, ◌∙◌, drop, length}
use Rattle.std.proofs.lemmas.Iterator.{YieldsList-from_range}
use Rattle.std.proofs.lemmas.Iterator.Consumers.{YieldsList-from_filter, count_from_yields_List}
use Rattle.arrivals.specs.Views.{last_needed}
use Rattle.arrivals.proofs.WantLaws.{counted}
use Rattle.arrivals.proofs.want.View.count_needed.Goals as goal

pub returns : goal.returns
returns g c =
    let ms = c.args.namings.now in
    let t : ℕ → Bool = λ i. last_needed g.K.Kind.model c.args.self.now (drop i ms) in
    count_from_yields_List _ c.count.result c.count.ensures.ran (YieldsList-from_filter _ t (YieldsList-from_range 0 (length ms) (length ms) (search rules) (omega arith)) c.filter.ensures.closure (λ x b q k. search (rules, tests)))
    ∙ counted g.K.Kind.model c.args.self.now ms
