use Rattle.std.proofs.Common.{◌≡◌, length, rules}
use Rattle.places.specs.BodyStores.{blank_body, filled}
use Rattle.places.proofs.RowLaws.{changed_at}
use Rattle.places.proofs.StoreLaws.{stored_now}
use Rattle.places.proofs.store.BodyStore.write.Goals as goal

pub returns-then-body-le256 : goal.returns-then-body-le256
returns-then-body-le256 c =
    let s = c.args.self.now in
    let sized : length c.args.self.now.bodies ≡ 64 = search rules in
    stored_now s c.args.place c.change_at.new.row sized c.args.body.now c.if-body-le256.true
    (changed_at (λ b. filled b c.args.body.now) s.bodies c.change_at.new.row c.args.place blank_body c.change_at.ensures.past
    (λ l. let w = c.change_at.ensures.within l blank_body in (w.0, search rules, w.2)))
