use Rattle.std.proofs.Common.{◌≡◌, true, drop}
use Rattle.lines.specs.Progress.{with_each}
use Rattle.exchange.specs.Acceptance.{all_held}
use Rattle.exchange.specs.Selections.{places_where}
use Rattle.exchange.proofs.select.all_held.Given as goal

abbrev pub invariant-loop-place : goal.invariant-loop-place
invariant-loop-place l = with_each (places_where (λ p e. true) l.place (drop l.place l.places)) l.set ≡ all_held l.places
