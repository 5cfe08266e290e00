use Rattle.std.proofs.Common.{◌≡◌, ◌+◌, ◌≤◌, drop}
use Rattle.compose.specs.Composed.{element_long, needed}
use Rattle.compose.proofs.bundle.is_short.Given as goal

abbrev pub invariant-loop-place : goal.invariant-loop-place
invariant-loop-place l =
    (l.len + needed (element_long l.bodies) (drop l.place-index l.chosen) ≡ 44 + needed (element_long l.bodies) l.chosen) × (l.len ≤ 2048)
