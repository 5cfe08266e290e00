use Rattle.std.proofs.Common.{sym, ap, ◌∙◌, subst}
use Rattle.std.specs.List.{AllByRecursion}
use Rattle.packets.proofs.GroupLaws.{Kept, contents_kept}
use Rattle.packets.specs.Groups.{groups_left}
use Rattle.codec.proofs.BackLaws.{written_none, written_more}
use Rattle.codec.proofs.back.write_groups.Goals as goal

pub loop-content-init : goal.loop-content-init
loop-content-init c =
    let e = ap groups_left c.into_iter-content-iterator.ensures.into_iter_gives ∙ c.new-content-items.ensures in
    (subst (AllByRecursion (Kept c.args.of)) (sym e) (contents_kept _ c.args.of c.args.groups.now), written_none _ _ _ _ _ e)

pub loop-content-preserved : goal.loop-content-preserved
loop-content-preserved c =
    let inv = c.loop-content.invariant in
    let step = c.in-Some.ensures.steps in
    let wrote = c.write_group-draft.ensures in
    ((subst (AllByRecursion (Kept c.args.of)) step inv.0).1, written_more _ _ _ _ _ _ _ inv.1 _ _ _ _ c.requires step (ap (λ o. o.len) wrote.state) wrote.bytes)
