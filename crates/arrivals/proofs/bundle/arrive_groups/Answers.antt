use Rattle.std.proofs.Common.{ap, arith, ◌∙◌}
use Rattle.packets.specs.Groups.{groups_left}
use Rattle.arrivals.proofs.BundleLaws.{worked_none, worked_room, worked_more, worked_all}
use Rattle.arrivals.proofs.bundle.arrive_groups.Goals as goal

pub loop-content-init : goal.loop-content-init
loop-content-init g c =
    let e = c.none-arrivals.ensures in
    worked_none _ _ _ _ _ _ _ _ _ (ap groups_left c.into_iter-content-iterator.ensures.into_iter_gives ∙ c.new-content-items.ensures) e.0 e.1

pub arrive_group-requires : goal.arrive_group-requires
arrive_group-requires g c =
    let r = worked_room _ _ _ _ _ _ _ _ _ _ c.loop-content.invariant c.requires c.in-Some.content.now (groups_left c.next.new.self) c.in-Some.ensures.steps in
    (r.0, (r.1, r.2))

pub loop-content-preserved : goal.loop-content-preserved
loop-content-preserved g c =
    let step = c.arrive_group.ensures in
    worked_more _ _ _ _ _ _ _ _ _ _ c.loop-content.invariant c.in-Some.content.now (groups_left c.next.new.self) _ _ _ c.in-Some.ensures.steps step.world step.acknowledged step.left

pub returns : goal.returns
returns g c =
    let all = worked_all _ _ _ _ _ _ _ _ _ _ c.loop-content.invariant c.in-None.ensures.steps.0 in
    record { world = all.0; acknowledged = all.1; count = omega (arith, c.loop-content.invariant.acks_fit, c.requires); left = all.2 }
