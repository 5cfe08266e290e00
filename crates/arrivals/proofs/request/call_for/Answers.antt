use Rattle.std.proofs.Common.{get_or, set, ap, ◌∙◌}
use Rattle.database.specs.Nodes.{with_lines}
use Rattle.exchange.specs.Showings.{called_at}
use Rattle.lines.specs.Lines.{no_line}
use Rattle.arrivals.proofs.LineLaws.{same_lines}
use Rattle.arrivals.proofs.request.call_for.Goals as goal

pub returns-in_default : goal.returns-in_default
returns-in_default c =
    let n = c.args.node.now in
    let i = c.args.line in
    same_lines n i ∙ ap (λ p. with_lines n n.wants (set n.lines i (called_at p (get_or n.lines i no_line)))) c.in_default.ensures.place
