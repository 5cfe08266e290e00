use Rattle.std.proofs.Common.{◌≡◌, drop}
use Rattle.tables.specs.Wants.{is_of}
use Rattle.lines.specs.Tables.{first_where}
use Rattle.tables.proofs.wants.find_want.Given as goal

abbrev pub invariant-loop-place : goal.invariant-loop-place
invariant-loop-place l = first_where (is_of l.line) l.place (drop l.place l.wants) ≡ first_where (is_of l.line) 0 l.wants
