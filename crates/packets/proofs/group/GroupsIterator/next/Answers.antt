use Rattle.std.proofs.Common.{ap, length, arith}
use Rattle.packets.proofs.GroupLaws.{contents_next, contents_none, split_some}
use Rattle.packets.proofs.group.GroupsIterator.next.Goals as goal

pub returns-in_err-group-clause-steps : goal.returns-in_err-group-clause-steps
returns-in_err-group-clause-steps c =
    let e = contents_none _ _ c.args.self.now.of c.args.self.now.rest.now c.split_group.ensures c.ok.ensures.value c.in_err-group.was in
    rw c.from_residual.ensures (e, e)

pub returns-clause-steps : goal.returns-clause-steps
returns-clause-steps c =
    contents_next _ _ _ (split_some _ _ c.in_ok-group.group c.args.self.now.of c.args.self.now.rest.now c.split_group.ensures c.ok.ensures.value c.in_ok-group.was)

pub returns-clause-goes : goal.returns-clause-goes
returns-clause-goes c =
    let e = ap length (returns-clause-steps c) in
    record { on = λ f. (tt, tt, omega arith); keeps = tt; rests = λ f. tt }
