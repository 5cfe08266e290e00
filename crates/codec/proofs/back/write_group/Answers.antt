use Rattle.std.proofs.Common.{arith}
use Rattle.codec.proofs.BackLaws.{bundle_pieces, summary_pieces, plain_pieces, pieces_group}
use Rattle.codec.proofs.back.write_group.Goals as goal

pub write_pieces-requires-in-Summary : goal.write_pieces-requires-in-Summary
write_pieces-requires-in-Summary c =
    let p = summary_pieces _ _ c.requires.sound c.requires.least c.type_inv.content _ _ _ _ _ c.in-Summary.is c.split_at-in-Summary.ensures.front c.split_at-in-Summary.ensures.back c.split_at-in-Summary-2.ensures.back c.split_at-in-Summary-3.ensures.front c.split_at-in-Summary-3.ensures.back in
    record { room = omega (arith, p.long, c.requires.room) }

pub write_pieces-requires-in-Acknowledgement : goal.write_pieces-requires-in-Acknowledgement
write_pieces-requires-in-Acknowledgement c =
    let p = plain_pieces _ _ c.requires.sound c.requires.least c.type_inv.content c.in-Acknowledgement.is in
    record { room = omega (arith, p.long, c.requires.room) }

pub returns-in-Bundle : goal.returns-in-Bundle
returns-in-Bundle c =
    let p = bundle_pieces _ _ c.requires.sound c.requires.least c.type_inv.content _ _ _ c.in-Bundle.is c.split_at.ensures.front c.split_at.ensures.back c.split_at-in-Bundle.ensures.back in
    let w = pieces_group _ _ _ _ p c.write_pieces.ensures.state c.write_pieces.ensures.bytes in
    record { state = w.0; bytes = w.1 }

pub returns-in-Summary : goal.returns-in-Summary
returns-in-Summary c =
    let p = summary_pieces _ _ c.requires.sound c.requires.least c.type_inv.content _ _ _ _ _ c.in-Summary.is c.split_at-in-Summary.ensures.front c.split_at-in-Summary.ensures.back c.split_at-in-Summary-2.ensures.back c.split_at-in-Summary-3.ensures.front c.split_at-in-Summary-3.ensures.back in
    let w = pieces_group _ _ _ _ p c.write_pieces-in-Summary.ensures.state c.write_pieces-in-Summary.ensures.bytes in
    record { state = w.0; bytes = w.1 }

pub returns-in-Acknowledgement : goal.returns-in-Acknowledgement
returns-in-Acknowledgement c =
    let p = plain_pieces _ _ c.requires.sound c.requires.least c.type_inv.content c.in-Acknowledgement.is in
    let w = pieces_group _ _ _ _ p c.write_pieces-in-Acknowledgement.ensures.state c.write_pieces-in-Acknowledgement.ensures.bytes in
    record { state = w.0; bytes = w.1 }
