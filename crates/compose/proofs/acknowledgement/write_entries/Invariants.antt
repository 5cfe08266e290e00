use Rattle.compose.proofs.EntryLaws.{Entered}
use Rattle.compose.proofs.acknowledgement.write_entries.Given as goal

abbrev pub invariant-loop-entry : goal.invariant-loop-entry
invariant-loop-entry l = Entered l.entries l.initial.group l.initial.buffer l.entry-index l.group l.buffer
