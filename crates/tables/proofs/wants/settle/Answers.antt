use Rattle.std.proofs.Common.{rules}
use Rattle.tables.specs.Wants.{settled_line}
use Rattle.lines.proofs.TableLaws.{by_place_more, by_place_all}
use Rattle.tables.proofs.WantLaws.{none_loading}
use Rattle.tables.proofs.wants.settle.Goals as goal

pub loop-number-preserved : goal.loop-number-preserved
loop-number-preserved c = search (rules, by_place_more (settled_line c.args.wants.now))

pub returns-clause-settled : goal.returns-clause-settled
returns-clause-settled c =
    none_loading c.args.wants.now c.args.lines.now c.loop-number.lines
    (by_place_all (settled_line c.args.wants.now) _ _ c.loop-number.number c.loop-number-test.false c.loop-number.invariant)
