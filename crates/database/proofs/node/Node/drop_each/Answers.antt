use Rattle.std.proofs.Common.{sym, ap, ◌∙◌}
use Rattle.std.proofs.lemmas.Iterator.{YieldsList-from_slice, YieldsList-from_take}
use Rattle.std.proofs.lemmas.Iterator.Consumers.{YieldsList-at, YieldsList-end, YieldsList-from_enumerate, YieldsList-turn}
use Rattle.std.proofs.lemmas.List.{length_push}
use Rattle.lines.specs.Tables.{in_turn}
use Rattle.lines.proofs.TableLaws.{in_turn_none}
use Rattle.database.specs.Seconds.{dropped_at}
use Rattle.database.proofs.DropLaws.{in_its_turn, row_ends}
use Rattle.database.proofs.node.Node.drop_each.Goals as goal

pub loop-place-init : goal.loop-place-init
loop-place-init g c = in_turn_none (dropped_at g.K.Kind.model c.args.elements.now) _

pub loop-place-preserved : goal.loop-place-preserved
loop-place-preserved g c =
    let turn = YieldsList-turn (YieldsList-at c.into_iter-place-iterator.ensures.into_iter_gives (YieldsList-from_take 64 (YieldsList-at c.take-place-items.ensures.source (YieldsList-from_enumerate (YieldsList-from_slice c.args.elements.now cc) cc)) cc)) c.loop-place.yielded _ c.loop-place.yielded_by _ _ (c.in-Some.place, c.in-Some.instance) c.in-Some.is c.next.ensures.steps in
    in_its_turn g.K.Kind.model c.args.elements.now _ _ _ _ c.loop-place.self _ turn c.loop-place.invariant (c.drop_at.ensures c.args.elements.now)
    ∙ ap (λ k. in_turn (dropped_at g.K.Kind.model c.args.elements.now) k c.args.self.now) (sym (length_push c.loop-place.yielded (c.in-Some.place, c.in-Some.instance)))

pub returns : goal.returns
returns g c =
    let last = YieldsList-end (YieldsList-at c.into_iter-place-iterator.ensures.into_iter_gives (YieldsList-from_take 64 (YieldsList-at c.take-place-items.ensures.source (YieldsList-from_enumerate (YieldsList-from_slice c.args.elements.now cc) cc)) cc)) c.loop-place.yielded _ c.loop-place.yielded_by _ _ c.in-None.is c.next.ensures.steps in
    row_ends g.K.Kind.model c.args.elements.now _ _ c.loop-place.self last.1 c.loop-place.invariant
