use Rattle.std.proofs.Common.{None}
use Rattle.tables.specs.Wants.{is_of}
use Rattle.lines.proofs.TableLaws.{first_here, first_none, found}
use Rattle.tables.proofs.wants.find_want.Goals as goal

pub returns-then-is_of-clause-first : goal.returns-then-is_of-clause-first
returns-then-is_of-clause-first c =
    found (is_of c.args.line) c.args.wants.now _
    (first_here (is_of c.args.line) c.args.wants.now c.loop-place.place None c.loop-place-test.true c.if-is_of.ensures c.loop-place.invariant)

pub returns-clause-first : goal.returns-clause-first
returns-clause-first c =
    found (is_of c.args.line) c.args.wants.now _
    (first_none (is_of c.args.line) c.args.wants.now c.loop-place.place c.loop-place-test.false c.loop-place.invariant)
