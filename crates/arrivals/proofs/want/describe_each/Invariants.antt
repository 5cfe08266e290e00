use Rattle.std.proofs.Common.{◌≡◌, map, drop}
use Rattle.database.specs.Nodes.{world}
use Rattle.exchange.specs.Wanting.{described_all}
use Rattle.arrivals.specs.Readings.{naming_view}
use Rattle.arrivals.proofs.want.describe_each.Given as goal

abbrev pub invariant-loop-naming : goal.invariant-loop-naming
invariant-loop-naming g l =
    described_all g.K.Kind.model l.line (map naming_view (drop l.naming-index l.namings)) (world l.node l.elements l.wanted)
    ≡ described_all g.K.Kind.model l.line (map naming_view l.namings) (world l.initial.node l.elements l.initial.wanted)
