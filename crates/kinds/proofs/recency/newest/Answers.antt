use Rattle.std.proofs.Common.{rules, cond}
use borrow.Author.Tests.{tests}
use Rattle.kinds.specs.Recency.{is_higher}
use Rattle.kinds.proofs.RecencyLaws.{newer_pair, found, is_newest}
use Rattle.kinds.proofs.Reduced.{reduced_from_yields_list}
use Rattle.std.proofs.lemmas.Iterator.{YieldsList-from_slice}
use Rattle.std.proofs.lemmas.Iterator.Consumers.{YieldsList-from_enumerate}
use Rattle.kinds.proofs.recency.newest.Goals as goal

pub returns : goal.returns
returns g c =
    let ops = g.K.Kind.model in
    let laws = g.met.K.Kind.laws in
    let xs = c.args.instances.now in
    let h = reduced_from_yields_list _ _ (λ p x. cond (is_higher (ops.rank x.1.now p.1.now)) x p) (λ p x r f k. search (rules, tests)) (newer_pair ops) c.enumerate.result c.reduce.result (λ p x. search (rules, tests)) c.reduce.ensures.ran (YieldsList-from_enumerate (YieldsList-from_slice xs cc) cc) in
    let f = found ops laws (λ y. y.now) xs c.reduce.result h in
    record { value = search (rules, f); newest = is_newest ops laws xs _ (search (rules, f)) }
