use Rattle.database.specs.Nodes.{world}
use Rattle.calls.proofs.SecondLaws.{in_passes}
use Rattle.calls.proofs.second.second.Goals as goal

pub returns-clause-one_place : goal.returns-clause-one_place
returns-clause-one_place g c = (in_passes g.K.Kind.model (world c.args.node.now c.args.elements.now c.args.wants.now) _ _ _ _ _ c.drop_expired.ensures c.age.ensures c.raise_counts.ensures c.settle.ensures.node).0

pub returns-clause-drops : goal.returns-clause-drops
returns-clause-drops g c = (in_passes g.K.Kind.model (world c.args.node.now c.args.elements.now c.args.wants.now) _ _ _ _ _ c.drop_expired.ensures c.age.ensures c.raise_counts.ensures c.settle.ensures.node).1

pub returns-clause-ages : goal.returns-clause-ages
returns-clause-ages g c = (in_passes g.K.Kind.model (world c.args.node.now c.args.elements.now c.args.wants.now) _ _ _ _ _ c.drop_expired.ensures c.age.ensures c.raise_counts.ensures c.settle.ensures.node).2
