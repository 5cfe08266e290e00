use Rattle.std.proofs.Common.{length, sym, refl, ap, ◌∙◌, arith, Err, rules, ◌≡◌}
use Rattle.std.proofs.lemmas.Bool.{eqb-true, eqb-false}
use Rattle.std.proofs.lemmas.Result.{err_from_is_err_and}
use Rattle.packets.specs.Groups.{Split, unless, viewed}
use Rattle.packets.proofs.GroupLaws.{split_shorter, fault_more, fault_here, fault_none, mapped_ok, mapped_err}
use Rattle.packets.proofs.group.check_groups.Goals as goal

pub loop-rest-init : goal.loop-rest-init
loop-rest-init c = (length c.args.bytes.now, omega arith, refl)

pub loop-rest-smaller : goal.loop-rest-smaller
loop-rest-smaller c =
    let g = c.in_ok-group.group in
    let s : Split = record { content = g.content.now; rest = g.rest.now } in
    let e = sym (ap viewed (mapped_ok _ _ g _ c.map_err.ensures.cases c.in_ok-group.was)) ∙ c.split_group.ensures in
    omega (arith, split_shorter c.args.of c.loop-rest.rest.now s e)

pub loop-rest-preserved : goal.loop-rest-preserved
loop-rest-preserved c =
    let g = c.in_ok-group.group in
    let s : Split = record { content = g.content.now; rest = g.rest.now } in
    let e = sym (ap viewed (mapped_ok _ _ g _ c.map_err.ensures.cases c.in_ok-group.was)) ∙ c.split_group.ensures in
    let inv = c.loop-rest.invariant in
    let m = fault_more c.args.of inv.0 c.loop-rest.rest.now s inv.1 e in
    (m.0, m.1, m.2 ∙ inv.2)

pub returns-in_err-group : goal.returns-in_err-group
returns-in_err-group c =
    let inv = c.loop-rest.invariant in
    let m = mapped_err _ _ _ _ c.map_err.ensures.cases c.in_err-group.was in
    let e = sym (ap viewed m.1.0) ∙ c.split_group.ensures in
    let p = err_from_is_err_and c.from_residual.result c.from_residual.ensures.1 in
    let n = eqb-false _ _ (sym c.loop-rest-test.ensures) in
    let f = fault_here c.args.of inv.0 c.loop-rest.rest.now m.0 (omega arith) inv.1 e ∙ inv.2 in
    let q : c.in_err-group.field-0.0 ≡ record { fault = m.0; left = length c.loop-rest.rest.now } = search (rules, m.1.1) in
    rw (p.1, p.2) (ap Err q ∙ ap (λ o. unless o tt) f)

pub returns : goal.returns
returns c =
    let inv = c.loop-rest.invariant in
    ap (λ o. unless o tt) (fault_none c.args.of inv.0 c.loop-rest.rest.now (eqb-true _ _ (sym c.loop-rest-test.ensures)) ∙ inv.2)
