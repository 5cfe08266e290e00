use Rattle.std.proofs.Common.{rules}
use Rattle.exchange.specs.Showings.{showing}
use Rattle.lines.specs.Lines.{no_line}
use Rattle.places.proofs.RowLaws.{changed_at}
use Rattle.arrivals.proofs.marking.show_same.Goals as goal

pub returns : goal.returns
returns g c =
    changed_at (showing g.K.Kind.model c.args.elements.now c.args.instance.now c.args.place) c.args.lines.now c.change_at.new.row c.args.line no_line c.change_at.ensures.past
    (λ l. let w = c.change_at.ensures.within l no_line in (w.0, search rules, w.2))
