-- The verdict on an arrival. Assumes nothing.
use Rattle.std.specs.Prelude.{ℕ, Bool, true, false, List, Some, None, Option}
use Rattle.kinds.specs.declared.rank.Rank.{Rank}
use Rattle.kinds.specs.declared.rank.Rank.TheVariants.{Lower, Same, Higher}
use Rattle.kinds.specs.Kinds.{Operations}
use Rattle.kinds.specs.Recency.{instance_at}
use Rattle.tables.specs.declared.verdict.Verdict.{Verdict}
use Rattle.tables.specs.declared.verdict.Verdict.TheVariants.{Same as Equal, Newer, Older, Gone, New, NoPlace}

-- the first row that fits: held or not, how the arrival ranks against what is held, whether it is expired, a free place
abbrev pub verdict_of : Option ℕ → Rank → Bool → Option ℕ → Verdict
verdict_of (Some p) Same expired free = Equal p
verdict_of (Some p) Higher expired free = Newer p
verdict_of (Some p) Lower expired free = Older p
verdict_of None rank true free = Gone
verdict_of None rank false (Some q) = New q
verdict_of None rank false None = NoPlace

-- how an arrival ranks against what is held; nothing hangs on it where nothing is
abbrev pub rank_at : {I : Type 0} → Operations I → List I → I → Option ℕ → Rank
rank_at ops xs x None = Higher
rank_at ops xs x (Some p) = ops.rank x (instance_at ops xs p)
