use Rattle.std.proofs.Common.{rules}
use Rattle.compose.specs.Composed.{bundle_content, short}
use Rattle.compose.proofs.ComposeLaws.{written_whole}
use Rattle.compose.proofs.GroupLaws.{bundle_parts}
use Rattle.compose.proofs.bundle.write_bundle.Goals as goal

pub returns : goal.returns
returns g c =
    let ops = g.K.Kind.model in
    let places = c.args.places.now in
    let bodies = c.args.bodies.now in
    let elements = c.args.elements.now in
    let chosen = c.args.chosen.now in
    let node = c.args.node in
    let group = c.args.group in
    let buffer = c.args.buffer.now in
    let w = written_whole (short bodies chosen buffer) (bundle_content ops places bodies elements node group chosen) _ buffer _ _ (search rules) (bundle_parts ops places elements bodies node group chosen) c.write_packet.ensures in
    record { written = w.0; buffer = w.1 }
