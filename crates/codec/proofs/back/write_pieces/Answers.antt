use Rattle.std.proofs.Common.{sym, ◌∙◌, arith}
use Rattle.codec.proofs.BackLaws.{pieces_written}
use Rattle.codec.proofs.back.write_pieces.Goals as goal

pub returns : goal.returns
returns c =
    let w = pieces_written c.args.draft _ c.unwrap-group.result _ c.args.of c.args.first.now c.args.second.now c.args.third.now _ c.args.buffer.now _ _ _ (omega arith) (sym c.unwrap-group.ensures ∙ c.group.ensures.state) c.group.ensures.bytes c.write_descriptions.ensures.state c.write_descriptions.ensures.bytes c.close.ensures.state c.close.ensures.bytes in
    record { state = w.0; bytes = w.1 }
