use Rattle.std.proofs.Common.{◌≡◌, [], length, ap, arith, rules}
use Rattle.packets.specs.declared.layout.PacketType.TheVariants.{Acknowledgement}
use Rattle.compose.specs.Framed.{acknowledgement_group}
use Rattle.compose.proofs.ComposeLaws.{group_filled}
use Rattle.compose.proofs.GroupLaws.{acknowledged_bytes_are}
use Rattle.compose.proofs.acknowledgement.write_group.Goals as goal

pub returns : goal.returns
returns c =
    let node = c.args.node in
    let entries = c.args.entries.now in
    let count = c.to_be_bytes-count.result in
    let l : length node.bytes ≡ 22 = search rules in
    let n : length count ≡ 2 = ap length c.to_be_bytes-count.ensures in
    let group = c.open_group-group.ensures in
    let filled = c.write_entries.ensures in
    let end = c.close.ensures in
    group_filled c.args.draft.len Acknowledgement node.bytes count [] _ (acknowledgement_group node entries) c.args.buffer.now _ _ _ _ _ _ group.state group.bytes filled.start filled.written end.state end.bytes (omega arith) (acknowledged_bytes_are node entries count c.to_be_bytes-count.ensures)
