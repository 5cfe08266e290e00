use Rattle.std.proofs.Common.{None, sym, ap, ◌∙◌, arith}
use Rattle.std.specs.Option.{unwrap_or}
use Rattle.compose.proofs.ComposeLaws.{flatten_is, grouped_room, grouped_free, grouped_held}
use Rattle.compose.proofs.frame.write_groups.Goals as goal

pub write_group-draft-requires : goal.write_group-draft-requires
write_group-draft-requires g c =
    let r = grouped_room _ _ _ _ _ _ _ _ _ c.loop-place.invariant c.loop-place-test.true _ c.requires in
    omega (arith, r, c.loop-place.auto.buffer)

pub loop-place-preserved-in_default : goal.loop-place-preserved-in_default
loop-place-preserved-in_default g c =
    let held = c.flatten.ensures ∙ flatten_is c.copied.result ∙ ap (λ x. unwrap_or x None) c.copied.ensures ∙ c.get.ensures.lookup.4 (omega arith) None in
    grouped_free _ _ _ _ _ _ _ _ _ c.loop-place.invariant c.loop-place-test.true (sym held ∙ c.in_default.is)

pub loop-place-preserved : goal.loop-place-preserved
loop-place-preserved g c =
    let held = c.flatten.ensures ∙ flatten_is c.copied.result ∙ ap (λ x. unwrap_or x None) c.copied.ensures ∙ c.get.ensures.lookup.4 (omega arith) None in
    let step = c.write_group-draft.ensures in
    grouped_held _ _ _ _ _ _ _ _ _ c.loop-place.invariant c.loop-place-test.true _ _ _ (sym held ∙ c.in-Some.is) step.written step.short (omega (arith, c.requires, c.loop-place.auto.buffer))
