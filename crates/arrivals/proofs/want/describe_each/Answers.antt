use Rattle.std.proofs.Common.{◌+◌, map, drop, sym, ap, ◌∙◌}
use Rattle.std.proofs.lemmas.List.{at_drop_all}
use Rattle.database.specs.Nodes.{world}
use Rattle.exchange.specs.Wanting.{described_all}
use Rattle.arrivals.specs.Readings.{naming_view}
use Rattle.arrivals.proofs.WantLaws.{drop_here}
use Rattle.arrivals.proofs.want.describe_each.Goals as goal

pub loop-naming-preserved : goal.loop-naming-preserved
loop-naming-preserved g c =
    let ops = g.K.Kind.model in
    let xs = c.args.namings.now in
    let i = c.loop-naming.naming-index in
    let x = c.naming-item.result in
    ap (described_all ops c.args.line (map naming_view (drop (i + 1) xs))) c.describe.ensures
    ∙ sym (drop_here xs i x x c.loop-naming-test.true c.naming-item.is (λ ms. described_all ops c.args.line (map naming_view ms) (world c.loop-naming.node c.args.elements.now c.loop-naming.wanted)))
    ∙ c.loop-naming.invariant

pub returns : goal.returns
returns g c =
    sym (at_drop_all (λ ms. described_all g.K.Kind.model c.args.line (map naming_view ms) (world c.loop-naming.node c.args.elements.now c.loop-naming.wanted)) c.args.namings.now c.loop-naming.naming-index c.loop-naming-test.false)
    ∙ c.loop-naming.invariant
