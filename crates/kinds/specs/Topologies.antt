-- The topology kind: sequence, check and lifetime of a PTSE. Assumes nothing.
use Rattle.std.specs.Prelude.{ℕ, ◌+◌, ◌-◌, ◌^◌, Bool, cond, ◌&&◌, List, [], Some, None, Option, ◌==◌, nat_lt}
use Rattle.kinds.specs.declared.rank.Rank.{Rank}
use Rattle.kinds.specs.declared.topology.Topology.{Topology}
use Rattle.kinds.specs.BigEndian.{at16, at32, write16, write32}
use Rattle.kinds.specs.Kinds.{Operations}
use Rattle.kinds.specs.Ranks.{then_by, by_number, by_expiry}

-- the check number is carried and not verified
abbrev pub read_topology : List ℕ → Topology
read_topology bs = record {
  sequence = at32 bs 0;
  check = at16 bs 4;
  lifetime = at16 bs 6;
}

abbrev pub write_topology : Topology → List ℕ
write_topology x = write32 x.sequence (write16 x.check (write16 x.lifetime []))

abbrev pub topology_fits : Topology → Bool
topology_fits x = nat_lt x.sequence (2 ^ 32) && (nat_lt x.check (2 ^ 16) && nat_lt x.lifetime (2 ^ 16))

abbrev topology_expired : Topology → Bool
topology_expired x = x.lifetime == 0

-- the larger sequence, then expired over unexpired, then the larger check
abbrev pub rank_topology : Topology → Topology → Rank
rank_topology x y =
    then_by (by_number x.sequence y.sequence)
    (then_by (by_expiry (topology_expired x) (topology_expired y)) (by_number x.check y.check))

-- one more than a sequence that is not the last
abbrev pub next_topology : Topology → ℕ → ℕ → Option Topology
next_topology x check time =
    cond (nat_lt x.sequence (2 ^ 32 - 1)) (Some (record { sequence = x.sequence + 1; check = check; lifetime = time })) None

abbrev pub topology : Operations Topology
topology = record {
  read = read_topology;
  write = write_topology;
  fits = topology_fits;
  rank = rank_topology;
  left = λ x. x.lifetime;
  older = λ x. record { sequence = x.sequence; check = x.check; lifetime = x.lifetime - 1 };
  expired = λ x. record { sequence = x.sequence; check = x.check; lifetime = 0 };
  first = λ check time. record { sequence = 1; check = check; lifetime = time };
  next = next_topology;
}
