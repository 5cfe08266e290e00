use Rattle.std.proofs.Common.{◌≡◌, ◌+◌, sym, ap, ◌∙◌}
use Rattle.packets.specs.Bundles.{element_at, viewed_element}
use Rattle.database.specs.Nodes.{world}
use Rattle.exchange.specs.Arrivals.{acknowledgement_of, arrival_of, arrived, left_by, verdict_on}
use Rattle.arrivals.specs.Bundles.{element_view, noted}
use Rattle.places.specs.Lists.{listed}
use Rattle.packets.proofs.EntryLaws.{past_none}
use Rattle.arrivals.proofs.bundle.arrive_group.Goals as goal

pub returns : goal.returns
returns g c =
    let ops = g.K.Kind.model in
    let b = c.args.bundle.now in
    let w = world c.args.node.now c.args.elements.now c.args.wanted.now in
    let e : element_view c.unwrap-arrival.result ≡ element_at c.args.content.now = (past_none _ _ _ (ap viewed_element (sym c.unwrap-arrival.ensures) ∙ c.read.ensures)).1 in
    let step = c.arrive_next.ensures in
    record {
      world = step.world ∙ ap (λ x. arrived ops c.args.line (arrival_of ops b.node.bytes b.group.bytes x) w) e;
      acknowledged = step.acknowledged ∙ ap (λ x. noted (verdict_on ops (arrival_of ops b.node.bytes b.group.bytes x) w) (acknowledgement_of x) (listed c.args.arrivals.now.acknowledged)) e;
      left = step.left ∙ ap (λ x. c.args.arrivals.now.left + left_by (verdict_on ops (arrival_of ops b.node.bytes b.group.bytes x) w)) e;
    }
