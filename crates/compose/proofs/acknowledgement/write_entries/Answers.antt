use Rattle.std.proofs.Common.{arith}
use Rattle.compose.proofs.EntryLaws.{entered_more}
use Rattle.compose.proofs.acknowledgement.write_entries.Goals as goal

pub loop-entry-preserved : goal.loop-entry-preserved
loop-entry-preserved c =
    let step = c.write_entry-group.ensures in
    entered_more _ _ _ _ _ _ c.loop-entry.invariant c.loop-entry-test.true _ _ _ (omega (arith, c.requires, c.loop-entry.auto.buffer)) step.start step.written step.long
