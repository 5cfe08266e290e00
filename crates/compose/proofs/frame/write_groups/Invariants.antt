use Rattle.compose.proofs.ComposeLaws.{Grouped}
use Rattle.compose.proofs.frame.write_groups.Given as goal

abbrev pub invariant-loop-place : goal.invariant-loop-place
invariant-loop-place g l =
    let groups = g.W.WriteGroup in
    Grouped (groups.bytes l.groups) (groups.most l.groups) l.table l.chosen l.initial.draft.len l.initial.buffer l.place-index l.draft.len l.buffer
