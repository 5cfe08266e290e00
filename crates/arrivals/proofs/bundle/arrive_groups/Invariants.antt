use Rattle.packets.specs.Groups.{groups_left}
use Rattle.database.specs.Nodes.{world}
use Rattle.places.specs.Lists.{listed}
use Rattle.arrivals.proofs.BundleLaws.{Worked}
use Rattle.arrivals.proofs.bundle.arrive_groups.Given as goal

abbrev pub invariant-loop-content : goal.invariant-loop-content
invariant-loop-content g l =
    Worked g.K.Kind.model l.line l.bundle.node.bytes l.bundle.group.bytes l.bundle.groups.now (world l.initial.node l.initial.elements l.wanted)
    (groups_left l.content-iterator) (world l.node l.elements l.wanted) (listed l.arrivals.acknowledged) l.arrivals.left
