use Rattle.std.proofs.Common.{◌+◌, length, refl, ap, ◌∙◌, arith}
use Rattle.writer.specs.Writers.{pasted}
use Rattle.writer.proofs.WriterLaws.{pasted_four}
use Rattle.writer.proofs.states.append.Goals as goal

pub returns : goal.returns
returns c =
    let at = c.args.at in
    let x = c.args.first.now in
    let y = c.args.second.now in
    let z = c.args.third.now in
    let w = c.args.fourth.now in
    let i = at + length x in
    let j = i + length y in
    let k = j + length z in
    c.paste-4.ensures
    ∙ ap (pasted k w) (c.paste-3.ensures ∙ ap (pasted j z) (c.paste-2.ensures ∙ ap (pasted i y) c.paste.ensures))
    ∙ pasted_four at i j k x y z w c.args.buffer.now refl refl refl (omega arith)
