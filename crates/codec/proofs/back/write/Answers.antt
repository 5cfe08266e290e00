use Rattle.std.proofs.Common.{sym, ◌∙◌, arith}
use Rattle.packets.specs.Contents.{raw}
use Rattle.codec.proofs.BackLaws.{groups_fit, finished_back}
use Rattle.codec.proofs.EncodingLaws.{read_back, encode_apart}
use Rattle.codec.proofs.back.write.Goals as goal

pub write_groups-draft-requires : goal.write_groups-draft-requires
write_groups-draft-requires c =
    let p = c.args.packet.now in
    let f = groups_fit (raw p.content) p.newest p.oldest _ c.requires _ _ _ (sym c.unwrap-draft.ensures ∙ c.begin.ensures.state) c.packet_type.ensures c.groups.ensures in
    omega (arith, f, c.begin.auto.buffer)

pub returns : goal.returns
returns c =
    let p = c.args.packet.now in
    let groups = c.write_groups-draft.ensures in
    let end = c.finish-len.ensures in
    let w = finished_back (raw p.content) p.newest p.oldest _ _ _ _ _ _ _ _ _ c.requires (sym c.unwrap-draft.ensures ∙ c.begin.ensures.state) c.begin.ensures.bytes c.packet_type.ensures c.groups.ensures groups.state groups.bytes end.state end.bytes in
    record { length = c.from.ensures ∙ w.0; buffer = w.1; faithful = record { read_back = read_back; apart = encode_apart } }
