use Rattle.std.proofs.Common.{◌-◌, ap, ◌∙◌}
use Rattle.arrivals.proofs.WalkLaws.{ahead_start}
use Rattle.arrivals.proofs.walk.Walk.start.Goals as goal

pub returns : goal.returns
returns g c =
    ahead_start g.E.Entry.at g.E.Entry.size g.met.E.Entry.some _ _ c.args.of _ c.args.groups.now _ c.new.ensures (c.saturating_sub.ensures ∙ ap (λ n. n - 26) c.group_fixed.ensures) c.new-2.ensures
