use Rattle.std.proofs.Common.{rules, min, arith}
use Rattle.std.proofs.lemmas.Iterator.{YieldsList-from_range}
use Rattle.std.proofs.lemmas.Iterator.Consumers.{fold_from_yields_List}
use Rattle.kinds.proofs.AgeingLaws.{counted}
use Rattle.kinds.proofs.ageing.after.Goals as goal

pub returns : goal.returns
returns g c =
    let ops = g.K.Kind.model in
    let x = c.args.instance.now in
    let n = min c.args.seconds (ops.left x) in
    let r = fold_from_yields_List _ (λ y _. ops.older y) _ c.fold.result c.fold.ensures.ran (YieldsList-from_range 0 n n (search rules) (omega arith)) (λ a y b q k. search rules) in
    let f = counted ops g.met.K.Kind.laws x c.fold.result c.args.seconds r in
    record { value = f.0; course = f.1 }
