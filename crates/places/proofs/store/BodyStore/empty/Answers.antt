use Rattle.std.proofs.Common.{◌≡◌, length, rules}
use Rattle.places.specs.BodyStores.{blank_body, cleared}
use Rattle.places.proofs.RowLaws.{changed_at}
use Rattle.places.proofs.StoreLaws.{emptied_now}
use Rattle.places.proofs.store.BodyStore.empty.Goals as goal

pub returns : goal.returns
returns c =
    let s = c.args.self.now in
    let sized : length c.args.self.now.bodies ≡ 64 = search rules in
    emptied_now s c.args.place c.change_at.new.row sized
    (changed_at cleared s.bodies c.change_at.new.row c.args.place blank_body c.change_at.ensures.past
    (λ l. let w = c.change_at.ensures.within l blank_body in (w.0, search rules, w.2)))
