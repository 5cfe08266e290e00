use Rattle.std.proofs.Common.{arith, rules}
use Rattle.compose.specs.Composed.{few, request_content}
use Rattle.compose.proofs.ComposeLaws.{needed_each, written_whole}
use Rattle.compose.proofs.GroupLaws.{request_parts}
use Rattle.compose.proofs.request.write_request.Goals as goal

pub write_packet-requires : goal.write_packet-requires
write_packet-requires c = omega (arith, needed_each 32 c.args.chosen.now)

pub returns : goal.returns
returns c =
    let wants = c.args.wants.now in
    let chosen = c.args.chosen.now in
    let buffer = c.args.buffer.now in
    let w = written_whole (few chosen buffer) (request_content wants chosen) _ buffer _ _ (search rules) (request_parts wants chosen) c.write_packet.ensures in
    record { written = w.0; buffer = w.1 }
