-- What a row is after a change at a place. Assumes nothing.
use Rattle.std.proofs.Common.{◌≡◌, ℕ, ◌<◌, ◌≤◌, List, length, get_or, set, sym, ap, ◌∙◌, inl, inr}
use Rattle.std.proofs.lemmas.List.{set_past}
use Rattle.std.proofs.lemmas.Bool.{cases_lt}

-- what stands at a place is changed, and a place past the end changes nothing
pub changed_at : {X : Type 0} (f : X → X) (xs ys : List X) (i : ℕ) (d : X) → (length xs ≤ i → ys ≡ xs) → (i < length xs → (x : X) × (x ≡ f (get_or xs i d)) × (ys ≡ set xs i x)) → ys ≡ set xs i (f (get_or xs i d))
changed_at f xs ys i d past within =
    elim (cases_lt i (length xs)) [
      | inl l ↦ let w = within l in w.2 ∙ ap (set xs i) w.1
      | inr l ↦ past l ∙ sym (set_past xs i _ l)
    ]
