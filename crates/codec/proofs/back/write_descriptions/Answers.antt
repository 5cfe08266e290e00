use Rattle.std.proofs.Common.{refl, sym, ap, ◌∙◌, subst, ◌+◌, length, arith}
use Rattle.std.specs.List.{AllByRecursion}
use Rattle.packets.specs.Entries.{entries_left}
use Rattle.packets.specs.Summaries.{description_at}
use Rattle.writer.specs.Writers.{pasted}
use Rattle.codec.proofs.BackLaws.{Sixteen, descriptions_sixteen, descriptions_room, descriptions_back, same_group, written_none, written_fits, written_more, written_all}
use Rattle.codec.proofs.back.write_descriptions.Goals as goal

pub loop-description-init : goal.loop-description-init
loop-description-init c =
    let e = ap (entries_left description_at 16) c.into_iter-description-iterator.ensures.into_iter_gives ∙ c.new-description-items.ensures in
    (refl, subst (AllByRecursion Sixteen) (sym e) (descriptions_sixteen _ c.args.entries.now), written_none _ _ _ _ _ e)

pub write_description-group-requires : goal.write_description-group-requires
write_description-group-requires c =
    let inv = c.loop-description.invariant in
    let step = c.in-Some.ensures.steps in
    let sixteen = (subst (AllByRecursion Sixteen) step inv.1).0 in
    let fit = written_fits _ _ _ _ _ _ _ inv.2 _ _ (descriptions_room _ _ _ c.args.entries.now c.requires.room) step in
    omega (arith, fit, sixteen, c.loop-description.auto.buffer)

pub loop-description-preserved : goal.loop-description-preserved
loop-description-preserved c =
    let inv = c.loop-description.invariant in
    let step = c.in-Some.ensures.steps in
    let sixteen = subst (AllByRecursion Sixteen) step inv.1 in
    let wrote = c.write_description-group.ensures in
    let long = ap (λ g. g.len) wrote.state in
    (ap (λ g. g.start) wrote.state ∙ inv.0, sixteen.1, written_more _ _ _ _ _ _ _ inv.2 _ _ _ _ (descriptions_room _ _ _ c.args.entries.now c.requires.room) step (omega (arith, long, sixteen.0)) wrote.bytes)

pub returns : goal.returns
returns c =
    let inv = c.loop-description.invariant in
    let all = written_all _ _ _ _ _ _ _ inv.2 c.in-None.ensures.steps.0 in
    let back = descriptions_back _ c.args.entries.now c.type_inv.entries in
    record {
      state = same_group inv.0 (all.0 ∙ ap (λ ds. c.args.group.len + length ds) back);
      bytes = all.1 ∙ ap (λ ds. pasted c.args.group.len ds c.args.buffer.now) back;
    }
