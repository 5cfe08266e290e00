use Rattle.exchange.proofs.SelectionLaws.{chosen_all, first_32}
use Rattle.exchange.proofs.select.first_places.Goals as goal

pub returns : goal.returns
returns g c f computes =
    first_32 f c.args.table.now _ (chosen_all 32 f c.args.table.now c.loop-place.place _ _ c.loop-place-test.false (c.loop-place.invariant.1 f computes))
