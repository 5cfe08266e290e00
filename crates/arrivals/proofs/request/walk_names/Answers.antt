use Rattle.std.proofs.Common.{map, ap, ◌∙◌}
use Rattle.arrivals.specs.Readings.{requested_at}
use Rattle.arrivals.proofs.ReadingLaws.{requested_met}
use Rattle.arrivals.proofs.request.walk_names.Goals as goal

pub returns : goal.returns
returns c = ap (map requested_at) c.start.ensures ∙ requested_met c.args.groups.now
