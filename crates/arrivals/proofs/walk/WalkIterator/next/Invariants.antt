use Rattle.std.proofs.Common.{◌≡◌, length}
use Rattle.packets.specs.Groups.{groups_left}
use Rattle.arrivals.specs.Walks.{ahead}
use Rattle.arrivals.proofs.walk.WalkIterator.next.Given as goal

abbrev pub invariant-loop-entry : goal.invariant-loop-entry
invariant-loop-entry g l = ahead g.E.Entry.at g.E.Entry.size l.self ≡ ahead g.E.Entry.at g.E.Entry.size l.initial.self

abbrev pub decreases-loop-entry : goal.decreases-loop-entry
decreases-loop-entry g l = length (groups_left l.self.groups)
