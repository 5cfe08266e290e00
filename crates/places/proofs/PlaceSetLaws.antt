-- What is in a set of places after a change. Assumes nothing.
use Rattle.std.proofs.Common.{◌≡◌, ℕ, ◌<◌, ◌≤◌, Bool, true, false, cond, ltb, List, length, get_or, set, sym, refl, ap, ◌∙◌, subst, inl, inr, arith, length-set, get_or-set_other, get_or-set_same}
use Rattle.std.proofs.lemmas.List.{set_past}
use Rattle.std.proofs.lemmas.Bool.{cases_lt, cond-true, cond-false, lt-ltb, le-ltb}
use Rattle.places.specs.declared.set.PlaceSet.{PlaceSet}
use Rattle.places.specs.PlaceSets.{mark_at, marked, has, no_places, all_clear, with_place, without_place, Changed}

-- a mark within the list is set, and one past it changes nothing
marked_within : (ms : List Bool) (p : ℕ) (m : Bool) → p < length ms → marked ms p m ≡ set ms p m
marked_within ms p m l = cond-true _ _ _ (lt-ltb p (length ms) l)

marked_past : (ms : List Bool) (p : ℕ) (m : Bool) → length ms ≤ p → marked ms p m ≡ ms
marked_past ms p m l = cond-false _ _ _ (le-ltb p (length ms) l)

marked_is_set : (ms : List Bool) (p : ℕ) (m : Bool) → set ms p m ≡ marked ms p m
marked_is_set ms p m =
    elim (cases_lt p (length ms)) [
      | inl l ↦ sym (marked_within ms p m l)
      | inr l ↦ set_past ms p m l ∙ sym (marked_past ms p m l)
    ]

mark_here : (ms : List Bool) (p : ℕ) (m : Bool) → p < length ms → mark_at (marked ms p m) p ≡ m
mark_here ms p m l =
    ap (λ xs. mark_at xs p) (marked_within ms p m l)
    ∙ cond-true _ _ _ (lt-ltb p (length (set ms p m)) (simp length-set l))
    ∙ get_or-set_same ms p m false l

mark_elsewhere : (ms : List Bool) (p q : ℕ) (m : Bool) → (q ≡ p → ⊥) → mark_at (marked ms p m) q ≡ mark_at ms q
mark_elsewhere ms p q m n =
    elim (cases_lt p (length ms)) [
      | inl l ↦ ap (λ xs. mark_at xs q) (marked_within ms p m l) ∙ ap (λ k. cond (ltb q k) (get_or (set ms p m) q false) false) (simp length-set) ∙ ap (λ b. cond (ltb q (length ms)) b false) (get_or-set_other ms p q m false n)
      | inr l ↦ ap (λ xs. mark_at xs q) (marked_past ms p m l)
    ]

pub with_changes : (s : PlaceSet) (p : ℕ) → length s.marks ≡ 64 → Changed s p true (with_place s p)
unfolding has with_place
with_changes s p e = record {
  here = λ l. mark_here s.marks p true (omega arith);
  elsewhere = λ q n. mark_elsewhere s.marks p q true n;
}

pub without_changes : (s : PlaceSet) (p : ℕ) → length s.marks ≡ 64 → Changed s p false (without_place s p)
unfolding has without_place
without_changes s p e = record {
  here = λ l. mark_here s.marks p false (omega arith);
  elsewhere = λ q n. mark_elsewhere s.marks p q false n;
}

abbrev of_marks : List Bool → PlaceSet
of_marks ms = record { marks = ms }

pub cleared : (ms : List Bool) → ms ≡ all_clear → of_marks ms ≡ no_places
unfolding no_places
cleared ms e = ap of_marks e

with_is : (s : PlaceSet) (p : ℕ) → with_place s p ≡ of_marks (marked s.marks p true)
unfolding with_place
with_is s p = refl

without_is : (s : PlaceSet) (p : ℕ) → without_place s p ≡ of_marks (marked s.marks p false)
unfolding without_place
without_is s p = refl

-- a set whose marks were written
pub inserted : (s : PlaceSet) (p : ℕ) (ms : List Bool) → ms ≡ set s.marks p true → of_marks ms ≡ with_place s p
inserted s p ms e = ap of_marks (e ∙ marked_is_set s.marks p true) ∙ sym (with_is s p)

pub inserted_only : (s : PlaceSet) (p : ℕ) (ms : List Bool) → length s.marks ≡ 64 → ms ≡ set s.marks p true → Changed s p true (of_marks ms)
inserted_only s p ms l e = subst (Changed s p true) (sym (inserted s p ms e)) (with_changes s p l)

pub removed : (s : PlaceSet) (p : ℕ) (ms : List Bool) → ms ≡ set s.marks p false → of_marks ms ≡ without_place s p
removed s p ms e = ap of_marks (e ∙ marked_is_set s.marks p false) ∙ sym (without_is s p)

pub removed_only : (s : PlaceSet) (p : ℕ) (ms : List Bool) → length s.marks ≡ 64 → ms ≡ set s.marks p false → Changed s p false (of_marks ms)
removed_only s p ms l e = subst (Changed s p false) (sym (removed s p ms e)) (without_changes s p l)
