use Rattle.std.proofs.Common.{map, get_or, set, refl, ap, ◌∙◌}
use Rattle.packets.specs.Acknowledgements.{entry_at}
use Rattle.exchange.specs.Showings.{shown_all, shown_by}
use Rattle.lines.specs.Lines.{no_line}
use Rattle.arrivals.specs.Readings.{acknowledged_at}
use Rattle.arrivals.specs.Walks.{ahead}
use Rattle.arrivals.proofs.LineLaws.{on_more}
use Rattle.arrivals.proofs.ReadingLaws.{acknowledged_met}
use Rattle.arrivals.proofs.acknowledgement.show_each.Goals as goal

pub loop-node-init : goal.loop-node-init
loop-node-init g c =
    let ops = g.K.Kind.model in
    let ls = c.args.lines.now in
    let i = c.args.line in
    ap (λ ms. set ls i (shown_all ops c.args.places.now c.args.elements.now ms (get_or ls i no_line)))
    (ap (map (acknowledged_at ops)) (ap (ahead entry_at 12) c.into_iter-node-iterator.ensures.into_iter_gives ∙ c.start-node-items.ensures) ∙ acknowledged_met ops c.args.groups.now)

pub loop-node-preserved : goal.loop-node-preserved
loop-node-preserved g c =
    let ops = g.K.Kind.model in
    let ps = c.args.places.now in
    let xs = c.args.elements.now in
    let ls = c.loop-node.lines in
    let i = c.args.line in
    on_more no_line (shown_all ops ps xs) (shown_by ops ps xs) (λ m ms l. refl) i ls _ _ _ _ (ap (map (acknowledged_at ops)) c.in-Some.ensures.steps)
    (c.show_named.ensures ∙ ap (λ m. set ls i (shown_by ops ps xs m (get_or ls i no_line))) c.read-naming.ensures)
    ∙ c.loop-node.invariant
