use Rattle.std.proofs.Common.{[], ◌∷◌, ◌++◌, arith}
use Rattle.packets.specs.declared.layout.PacketType.TheVariants.{Summary}
use Rattle.compose.proofs.ComposeLaws.{group_filled}
use Rattle.compose.proofs.GroupLaws.{entry_behind}
use Rattle.compose.proofs.summary.write_group.Goals as goal

pub returns-clause-written : goal.returns-clause-written
returns-clause-written c =
    let node = c.args.node.now in
    let group = c.args.group.now in
    let entry = c.args.numbers.now ++ c.args.instance.now in
    let count = 0 ∷ 0 ∷ 0 ∷ 1 ∷ [] in
    let begun = c.open_group-open.ensures in
    let added = c.add_entry.ensures in
    let end = c.close.ensures in
    group_filled c.args.draft.len Summary node group count entry _ c.args.buffer.now _ _ _ _ _ _ begun.state begun.bytes added.start added.written end.state end.bytes (omega arith) (entry_behind Summary node group count entry)
