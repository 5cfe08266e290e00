use Rattle.std.proofs.Common.{◌≡◌, ◌+◌, ◌≤◌, ◌++◌, map, length}
use Rattle.packets.specs.Summaries.{description_at}
use Rattle.arrivals.specs.Readings.{described_at, described_in}
use Rattle.arrivals.specs.Summaries.{listed}
use Rattle.arrivals.specs.Walks.{ahead}
use Rattle.arrivals.proofs.summary.Descriptions.collect.Given as goal

abbrev pub invariant-loop-node : goal.invariant-loop-node
invariant-loop-node g l =
    (length (listed l.descriptions) + length (ahead description_at 16 l.node-iterator) ≤ 127)
    × (listed l.descriptions ++ map (described_at g.K.Kind.model) (ahead description_at 16 l.node-iterator) ≡ described_in g.K.Kind.model l.groups)
