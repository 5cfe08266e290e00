use Rattle.std.proofs.Common.{rules}
use Rattle.lines.specs.Lines.{cleared_line, no_line}
use Rattle.places.proofs.RowLaws.{changed_at}
use Rattle.lines.proofs.marks.clear_line.Goals as goal

pub returns : goal.returns
returns c =
    changed_at (cleared_line c.args.state) c.args.lines.now c.change_at.new.row c.args.line no_line c.change_at.ensures.past
    (λ l. let w = c.change_at.ensures.within l no_line in (w.0, search rules, w.2))
