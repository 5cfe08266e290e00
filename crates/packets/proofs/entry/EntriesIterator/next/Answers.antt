use Rattle.std.proofs.Common.{◌∙◌, sym, ap, length, arith}
use Rattle.packets.specs.Entries.{viewed_entry}
use Rattle.packets.proofs.EntryLaws.{entry_split, entry_none}
use Rattle.packets.proofs.entry.EntriesIterator.next.Goals as goal

pub returns-in_err-entry-clause-steps : goal.returns-in_err-entry-clause-steps
returns-in_err-entry-clause-steps g c =
    let e = entry_none g.E.Entry.at g.E.Entry.size c.args.self.now.rest.now (sym (ap viewed_entry c.in_err-entry.was) ∙ c.split.ensures) in
    rw c.from_residual.ensures (e, e)

pub returns-clause-steps : goal.returns-clause-steps
returns-clause-steps g c =
    entry_split g.E.Entry.at g.E.Entry.size g.met.E.Entry.some c.args.self.now.rest.now c.in_ok-entry.rest.now c.in_ok-entry.entry (sym (ap viewed_entry c.in_ok-entry.was) ∙ c.split.ensures)

pub returns-clause-goes : goal.returns-clause-goes
returns-clause-goes g c =
    let e = ap length (returns-clause-steps g c) in
    record { on = λ f. (tt, tt, omega arith); keeps = tt; rests = λ f. tt }
