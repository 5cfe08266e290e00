use Rattle.std.proofs.Common.{◌≡◌, map, get_or, set}
use Rattle.packets.specs.Acknowledgements.{entry_at}
use Rattle.exchange.specs.Showings.{shown_all}
use Rattle.lines.specs.Lines.{no_line}
use Rattle.arrivals.specs.Readings.{acknowledged_at, acknowledged_in}
use Rattle.arrivals.specs.Walks.{ahead}
use Rattle.arrivals.proofs.acknowledgement.show_each.Given as goal

abbrev pub invariant-loop-node : goal.invariant-loop-node
invariant-loop-node g l =
    set l.lines l.line (shown_all g.K.Kind.model l.places l.elements (map (acknowledged_at g.K.Kind.model) (ahead entry_at 12 l.node-iterator)) (get_or l.lines l.line no_line))
    ≡ set l.initial.lines l.line (shown_all g.K.Kind.model l.places l.elements (acknowledged_in g.K.Kind.model l.groups) (get_or l.initial.lines l.line no_line))
