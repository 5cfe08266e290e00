use Rattle.std.proofs.Common.{◌≡◌, ℕ, ◌≤◌, length}
use Rattle.packets.specs.Groups.{first_fault}
use Rattle.packets.proofs.group.check_groups.Given as goal

abbrev pub invariant-loop-rest : goal.invariant-loop-rest
invariant-loop-rest l =
    (k : ℕ) × (length l.rest ≤ k) × (first_fault k l.of l.rest ≡ first_fault (length l.bytes) l.of l.bytes)

abbrev pub decreases-loop-rest : goal.decreases-loop-rest
decreases-loop-rest l = length l.rest
