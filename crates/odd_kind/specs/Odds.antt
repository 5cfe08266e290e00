-- The model of the odd kind. Assumes nothing.
use Rattle.std.specs.Prelude.{ℕ, ◌+◌, ◌-◌, ◌%◌, ◌^◌, Bool, cond, ◌&&◌, List, [], Some, None, Option, ◌==◌, nat_lt}
use Rattle.kinds.specs.declared.rank.Rank.{Rank}
use Rattle.kinds.specs.BigEndian.{at16, write16}
use Rattle.kinds.specs.Kinds.{Operations}
use Rattle.kinds.specs.Ranks.{then_by, by_number}
use Rattle.odd_kind.specs.declared.odd.Odd.{Odd}

abbrev pub made : ℕ → ℕ → ℕ → ℕ → Odd
made t b s c = record { time = t; boot = b; step = s; changes = c }

abbrev pub read_odd : List ℕ → Odd
read_odd bs = made (at16 bs 0) (at16 bs 2) (at16 bs 4) (at16 bs 6)

abbrev pub write_odd : Odd → List ℕ
write_odd x = write16 x.time (write16 x.boot (write16 x.step (write16 x.changes [])))

abbrev pub odd_fits : Odd → Bool
odd_fits x = (nat_lt x.time (2 ^ 16) && nat_lt x.boot (2 ^ 16)) && (nat_lt x.step (2 ^ 16) && nat_lt x.changes (2 ^ 16))

-- being expired counts as one step
abbrev pub key_of : Odd → ℕ
key_of x = cond (x.time == 0) (x.step + 1) x.step

abbrev pub rank_odd : Odd → Odd → Rank
rank_odd x y = then_by (by_number x.boot y.boot) (by_number (key_of x) (key_of y))

abbrev pub older_odd : Odd → Odd
older_odd x = cond (x.time == 0) x (made (x.time - 1) x.boot x.step ((x.changes + 1) % 2 ^ 16))

abbrev pub expired_odd : Odd → Odd
expired_odd x = made 0 x.boot x.step ((x.changes + 1) % 2 ^ 16)

abbrev pub next_odd : Odd → ℕ → ℕ → Option Odd
next_odd x check time = cond (nat_lt (x.step + 2) (2 ^ 16)) (Some (made time x.boot (x.step + 2) 0)) None

abbrev pub odd : Operations Odd
odd = record {
  read = read_odd;
  write = write_odd;
  fits = odd_fits;
  rank = rank_odd;
  left = λ x. x.time;
  older = older_odd;
  expired = expired_odd;
  first = λ check time. made time check 1 0;
  next = next_odd;
}
