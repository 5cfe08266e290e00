use Rattle.std.proofs.Common.{rules}
use Rattle.tables.specs.Wants.{closed_at}
use Rattle.lines.proofs.TableLaws.{by_place_more, by_place_all}
use Rattle.tables.proofs.WantLaws.{closed_left}
use Rattle.tables.proofs.wants.close_wants.Goals as goal

pub loop-place-preserved : goal.loop-place-preserved
loop-place-preserved g c = search (rules, by_place_more (closed_at g.K.Kind.model c.args.row.now c.args.name.now c.args.instance.now))

pub returns-clause-closed : goal.returns-clause-closed
returns-clause-closed g c =
    closed_left g.K.Kind.model c.args.row.now c.args.name.now c.args.instance.now c.args.wants.now c.loop-place.wants
    (by_place_all (closed_at g.K.Kind.model c.args.row.now c.args.name.now c.args.instance.now) _ _ c.loop-place.place c.loop-place-test.false c.loop-place.invariant)
