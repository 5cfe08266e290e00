use Rattle.std.proofs.Common.{[], Some, ap, ◌∙◌, arith, rules}
use Rattle.packets.specs.declared.layout.PacketType.TheVariants.{Acknowledgement}
use Rattle.compose.specs.Composed.{acknowledgement_content, few_entries}
use Rattle.compose.specs.Framed.{acknowledgement_group}
use Rattle.compose.proofs.ComposeLaws.{packet_written, written_whole}
use Rattle.compose.proofs.GroupLaws.{acknowledgement_parts}
use Rattle.compose.proofs.acknowledgement.write_acknowledgement.Goals as goal

pub returns : goal.returns
returns c =
    let node = c.args.node in
    let entries = c.args.entries.now in
    let buffer = c.args.buffer.now in
    let begun = c.begin-draft.ensures in
    let end = c.finish.ensures in
    let packet = packet_written Acknowledgement [] [] (acknowledgement_group node entries) buffer _ _ _ _ _ _ begun.state begun.bytes c.write_group-draft.ensures end.state end.bytes (omega arith) in
    let w = written_whole (few_entries entries buffer) (acknowledgement_content node entries) _ buffer _ _ (search rules) (acknowledgement_parts node entries) packet in
    record { written = ap Some c.from.ensures ∙ w.0; buffer = w.1 }
