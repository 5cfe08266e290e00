use Rattle.std.proofs.Common.{subst}
use Rattle.writer.specs.Writers.{Appended}
use Rattle.compose.proofs.GroupLaws.{description_bytes_are}
use Rattle.compose.proofs.summary.write_description.Goals as goal

pub returns-clause-written : goal.returns-clause-written
returns-clause-written c =
    subst (λ bs. Appended c.args.draft.len bs c.args.buffer.now c.write_group.result.len c.write_group.new.buffer)
    (description_bytes_are c.args.element c.args.instance _ c.head.ensures)
    c.write_group.ensures.written
