use Rattle.std.proofs.Common.{arith}
use Rattle.compose.proofs.ComposeLaws.{packet_written}
use Rattle.compose.proofs.frame.write_packet.Goals as goal

pub returns : goal.returns
returns g c =
    let begun = c.begin-draft.ensures in
    let end = c.finish.ensures in
    let w = packet_written c.args.of c.args.first.now c.args.second.now _ c.args.buffer.now _ _ _ _ _ _ begun.state begun.bytes c.write_groups-draft.ensures end.state end.bytes (omega arith) in
    record { state = omega (arith, w.state, c.from.ensures); stands = w.stands }
