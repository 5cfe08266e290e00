use Rattle.std.proofs.Common.{◌≡◌, ◌<◌, length, take, drop, ap, ◌∙◌, arith, rules, length-drop}
use Rattle.arrivals.proofs.WalkLaws.{opened, opened_none}
use Rattle.arrivals.proofs.walk.Walk.open.Goals as goal

pub returns-clause-entries : goal.returns-clause-entries
returns-clause-entries g c =
    let n : c.in-Some.node.now ≡ take 22 c.args.content.now = search rules in
    let r : c.in-Some.rest.now ≡ drop 22 c.args.content.now = search rules in
    let d : c.in-Some-split_at_checked.entries.now ≡ drop c.args.self.now.skip c.in-Some.rest.now = search rules in
    opened g.E.Entry.at g.E.Entry.size g.met.E.Entry.some (record { bytes = c.in-Some.node.now }) _ c.args.self.now.skip c.args.content.now c.in-Some-split_at_checked.entries.now n (d ∙ ap (drop c.args.self.now.skip) r) c.new-self.ensures

pub returns-in_default-clause-entries : goal.returns-in_default-clause-entries
returns-in_default-clause-entries g c =
    let l : length c.args.content.now < 22 = search rules in
    opened_none g.E.Entry.at g.E.Entry.size g.met.E.Entry.some c.args.self.now.node _ c.args.self.now.skip c.args.content.now c.requires (omega arith)

pub returns-in_default-split_at_checked-clause-entries : goal.returns-in_default-split_at_checked-clause-entries
returns-in_default-split_at_checked-clause-entries g c =
    let r : c.in-Some.rest.now ≡ drop 22 c.args.content.now = search rules in
    let k = ap length r in
    let m = length-drop 22 c.args.content.now in
    let l : length c.in-Some.rest.now < c.args.self.now.skip = search rules in
    opened_none g.E.Entry.at g.E.Entry.size g.met.E.Entry.some c.args.self.now.node _ c.args.self.now.skip c.args.content.now c.requires (omega arith)
