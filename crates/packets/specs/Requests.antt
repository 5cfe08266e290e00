-- The request. Assumes nothing.
use Rattle.std.specs.Prelude.{ℕ, List, take}
use Rattle.kinds.specs.BigEndian.{at32}

abbrev pub number_at : List ℕ → ℕ
number_at es = at32 (take 4 es) 0
