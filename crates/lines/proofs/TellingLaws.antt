-- What a summary of ours takes, place by place. Assumes nothing.
use Rattle.std.proofs.Common.{ℕ, List}
use Rattle.lines.specs.declared.line.Line.{Line}
use Rattle.lines.specs.Lines.{with_marks}
use Rattle.lines.specs.Progress.{with_each, without_each}

-- these places are told now
abbrev pub told_now : List ℕ → Line → Line
told_now ps l = with_marks l l.owed l.counts (without_each ps l.to_tell) (with_each ps l.told)
