use Rattle.std.proofs.Common.{arith, rules}
use Rattle.compose.specs.Composed.{few, summary_content}
use Rattle.compose.proofs.ComposeLaws.{needed_each, written_whole}
use Rattle.compose.proofs.GroupLaws.{summary_parts}
use Rattle.compose.proofs.summary.write_summary.Goals as goal

pub write_packet-requires : goal.write_packet-requires
write_packet-requires g c = omega (arith, needed_each 60 c.args.told.now)

pub returns : goal.returns
returns g c =
    let ops = g.K.Kind.model in
    let head = c.args.head in
    let places = c.args.places.now in
    let elements = c.args.elements.now in
    let told = c.args.told.now in
    let buffer = c.args.buffer.now in
    let parts = summary_parts ops places elements head.flags head.ds_number told _ c.bytes.ensures in
    let w = written_whole (few told buffer) (summary_content ops head.flags head.ds_number places elements told) _ buffer _ _ (search rules) parts c.write_packet.ensures in
    record { written = w.0; buffer = w.1 }
