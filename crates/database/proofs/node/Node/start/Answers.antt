use Rattle.database.proofs.NodeLaws.{start_is, start_one}
use Rattle.database.proofs.node.Node.start.Goals as goal

pub returns : goal.returns
returns c =
    let e = start_is c.args.id c.args.group _ _ c.new.ensures c.idle_lines.ensures in
    record { node = e; one_place = start_one c.args.id c.args.group _ e }
