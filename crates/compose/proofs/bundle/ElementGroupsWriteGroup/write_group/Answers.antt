use Rattle.std.proofs.Common.{subst, ap, ◌∙◌}
use Rattle.writer.specs.Writers.{Appended}
use Rattle.compose.proofs.GroupLaws.{element_bytes_are}
use Rattle.compose.proofs.bundle.ElementGroupsWriteGroup.write_group.Goals as goal

pub returns-clause-written : goal.returns-clause-written
returns-clause-written g c =
    let ops = g.K.Kind.model in
    let groups = c.args.self.now in
    subst (λ bs. Appended c.args.draft.len bs c.args.buffer.now c.write_pieces.result.len c.write_pieces.new.buffer)
    (element_bytes_are ops groups.elements.now groups.bodies.now c.args.place c.args.element _ _ _ c.head.ensures (c.write-instance.ensures.value ∙ ap ops.write c.instance_at.ensures) c.body.ensures)
    c.write_pieces.ensures.written
