use Rattle.std.proofs.Common.{sym}
use Rattle.database.specs.Nodes.{world}
use Rattle.calls.proofs.OriginationLaws.{entry_keeps_them}
use Rattle.calls.proofs.originate.originate.Goals as goal

pub returns-clause-one_place : goal.returns-clause-one_place
returns-clause-one_place g c = (entry_keeps_them g.K.Kind.model (world c.args.node.now c.args.elements.now c.args.wants.now) c.args.origination c.in_ok-place.field-0 _ _ _ (sym c.in_ok-place.ensures) c.enter.ensures.node c.enter.ensures.elements c.settle.ensures.node).0

pub returns-clause-enters : goal.returns-clause-enters
returns-clause-enters g c = (entry_keeps_them g.K.Kind.model (world c.args.node.now c.args.elements.now c.args.wants.now) c.args.origination c.in_ok-place.field-0 _ _ _ (sym c.in_ok-place.ensures) c.enter.ensures.node c.enter.ensures.elements c.settle.ensures.node).1
