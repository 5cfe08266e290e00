use Rattle.std.proofs.Common.{refl}
use Rattle.std.proofs.lemmas.List.{get_or_default}
use Rattle.places.proofs.row.change_at.Goals as goal

pub returns-then-place-row-clause-within : goal.returns-then-place-row-clause-within
returns-then-place-row-clause-within g c =
    λ l d. (c.change.new.arg2, record { shown = _; shows = get_or_default c.args.row.now c.args.place _ d l; left = _; met = c.change.ensures; leaves = refl }, refl)
