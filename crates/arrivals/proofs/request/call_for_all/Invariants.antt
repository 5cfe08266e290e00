use Rattle.std.proofs.Common.{◌≡◌, map}
use Rattle.packets.specs.Requests.{number_at}
use Rattle.arrivals.specs.Readings.{requested_at, requested_in}
use Rattle.arrivals.specs.Walks.{ahead}
use Rattle.arrivals.proofs.LineLaws.{calling}
use Rattle.arrivals.proofs.request.call_for_all.Given as goal

abbrev pub invariant-loop-id : goal.invariant-loop-id
invariant-loop-id l = calling l.line (map requested_at (ahead number_at 4 l.id-iterator)) l.node ≡ calling l.line (requested_in l.groups) l.initial.node
