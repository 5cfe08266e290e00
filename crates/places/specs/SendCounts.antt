-- Send counts. Assumes nothing.
use Rattle.std.specs.Prelude.{ℕ, ◌+◌, Bool, cond, nat_le, nat_lt}
use Rattle.places.specs.declared.count.SendCount.{SendCount}

-- a new thing is due at once
abbrev pub fresh_count : ℕ → SendCount
fresh_count limit = record { seconds = limit }

abbrev pub sent_count : SendCount
sent_count = record { seconds = 0 }

-- a count stops at the limit
abbrev pub raised : SendCount → ℕ → SendCount
raised c limit = cond (nat_lt c.seconds limit) (record { seconds = c.seconds + 1 }) (record { seconds = limit })

abbrev pub due : SendCount → ℕ → Bool
due c limit = nat_le limit c.seconds
