use denote.Text.{Utf8}
use denote.Shadow.{shadow}
use Rattle.trial.proofs.csv.list.Given as goal

abbrev pub invariant-loop-item : goal.invariant-loop-item
invariant-loop-item g l =
    (goal.iterator-loop-item g).can_next l.item-iterator ×
    (goal.iterator-loop-item g).is_finite l.item-iterator ×
    shadow (Utf8 l.mark)
