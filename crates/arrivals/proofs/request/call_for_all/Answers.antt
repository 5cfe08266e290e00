use Rattle.std.proofs.Common.{map, ap, ◌∙◌}
use Rattle.arrivals.specs.Readings.{requested_at}
use Rattle.arrivals.proofs.LineLaws.{call_more}
use Rattle.arrivals.proofs.request.call_for_all.Goals as goal

pub loop-id-preserved : goal.loop-id-preserved
loop-id-preserved c =
    call_more c.args.line c.call_for.new.node c.loop-id.node _ _ _ (ap (map requested_at) c.in-Some.ensures.steps) c.call_for.ensures ∙ c.loop-id.invariant
