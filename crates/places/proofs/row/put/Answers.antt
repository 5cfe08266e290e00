use Rattle.std.proofs.Common.{rules}
use Rattle.places.proofs.RowLaws.{changed_at}
use Rattle.places.proofs.row.put.Goals as goal

pub returns : goal.returns
returns g c =
    changed_at (λ _. c.args.value) c.args.row.now c.change_at.new.row c.args.place c.args.value c.change_at.ensures.past
    (λ l. let w = c.change_at.ensures.within l c.args.value in (w.0, search rules, w.2))
