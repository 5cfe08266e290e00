use Rattle.database.specs.Nodes.{world}
use Rattle.database.specs.Seconds.{aged_at}
use Rattle.lines.proofs.TableLaws.{in_turn_none, in_turn_more}
use Rattle.database.proofs.node.Node.age.Goals as goal

pub loop-place-init : goal.loop-place-init
loop-place-init g c = in_turn_none (aged_at g.K.Kind.model) _

pub loop-place-preserved : goal.loop-place-preserved
loop-place-preserved g c = in_turn_more (aged_at g.K.Kind.model) c.loop-place.place _ (world c.loop-place.self c.loop-place.elements c.args.wanted.now) _ c.loop-place.invariant c.age_at.ensures
