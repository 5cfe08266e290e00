use Rattle.std.proofs.Common.{get_or, set, sym, ap, ◌∙◌}
use Rattle.exchange.specs.Showings.{showing_at}
use Rattle.lines.specs.Lines.{no_line}
use Rattle.arrivals.proofs.LineLaws.{set_self}
use Rattle.arrivals.proofs.marking.show_named.Goals as goal

pub returns-in_default : goal.returns-in_default
returns-in_default g c =
    let ls = c.args.lines.now in
    let i = c.args.line in
    sym (set_self no_line ls i) ∙ ap (λ p. set ls i (showing_at g.K.Kind.model c.args.elements.now c.args.naming.now.instance p (get_or ls i no_line))) c.in_default.ensures.place
