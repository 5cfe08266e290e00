-- The cache kind: sequence, flags and hold time of a cache record. Assumes nothing.
use Rattle.std.specs.Prelude.{ℕ, ◌-◌, ◌^◌, Bool, cond, ◌&&◌, List, [], pos, negsuc, ◌+ℤ◌, Some, None, Option, ◌==◌, bit_and, bit_or, nat_lt}
use Rattle.std.specs.Int.Signed.{lt_z, mag}
use Rattle.std.specs.Int.{w32}
use Rattle.std.proofs.Common.{to_z, of_z}
use Rattle.kinds.specs.declared.cache.Cache.{Cache}
use Rattle.kinds.specs.declared.rank.Rank.{Rank}
use Rattle.kinds.specs.BigEndian.{at16, at32, write16, write32}
use Rattle.kinds.specs.Kinds.{Operations}
use Rattle.kinds.specs.Ranks.{then_by, by_signed, by_expiry}

abbrev pub read_cache : List ℕ → Cache
read_cache bs = record {
  sequence = to_z w32 (at32 bs 0);
  flags = at16 bs 4;
  hold = at16 bs 6;
}

abbrev pub write_cache : Cache → List ℕ
write_cache x = write32 (of_z w32 x.sequence) (write16 x.flags (write16 x.hold []))

abbrev pub cache_fits : Cache → Bool
cache_fits x = nat_lt (mag x.sequence) (2 ^ 31) && (nat_lt x.flags (2 ^ 16) && nat_lt x.hold (2 ^ 16))

-- the hold time, unless the top flag is set
abbrev pub cache_left : Cache → ℕ
cache_left x = cond (bit_and x.flags 32768 == 0) x.hold 0

-- the top flag set, and no hold time
abbrev pub cache_expired : Cache → Cache
cache_expired x = record { sequence = x.sequence; flags = bit_or x.flags 32768; hold = 0 }

abbrev pub cache_older : Cache → Cache
cache_older x =
    cond (cache_left x == 0) x
    (cond (cache_left x == 1) (cache_expired x) (record { sequence = x.sequence; flags = x.flags; hold = cache_left x - 1 }))

-- the larger signed sequence, then expired over unexpired
abbrev pub rank_cache : Cache → Cache → Rank
rank_cache x y =
    then_by (by_signed x.sequence y.sequence) (by_expiry (cache_left x == 0) (cache_left y == 0))

-- one more than a sequence that is not the last; the check number has no use
abbrev pub next_cache : Cache → ℕ → ℕ → Option Cache
next_cache x check time =
    cond (lt_z x.sequence (pos 2147483647)) (Some (record { sequence = x.sequence +ℤ pos 1; flags = 0; hold = time })) None

abbrev pub cache : Operations Cache
cache = record {
  read = read_cache;
  write = write_cache;
  fits = cache_fits;
  rank = rank_cache;
  left = cache_left;
  older = cache_older;
  expired = cache_expired;
  first = λ check time. record { sequence = negsuc 2147483646; flags = 0; hold = time };
  next = next_cache;
}
