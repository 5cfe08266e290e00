use Rattle.codec.proofs.BackLaws.{back_made}
use Rattle.codec.proofs.ReportLaws.{reported}
use Rattle.codec.proofs.back.read.Goals as goal

pub returns : goal.returns
returns c = record {
  content = c.read.ensures;
  back = back_made c.read.result c.args.bytes.now c.type_inv.bytes c.read.ensures;
  reported = reported c.args.bytes.now c.read.result c.read.ensures;
}
