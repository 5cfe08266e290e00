-- The acknowledgement. Assumes nothing.
use Rattle.std.specs.Prelude.{ℕ, List, take, drop}
use Rattle.kinds.specs.BigEndian.{at32}
use Rattle.packets.specs.declared.acknowledgement.Acknowledged.{Acknowledged}

-- number, instance
abbrev pub entry_at : List ℕ → Acknowledged
entry_at es = record { number = at32 (take 4 es) 0; instance = take 8 (drop 4 es) }
