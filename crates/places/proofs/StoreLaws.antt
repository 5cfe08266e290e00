-- The store of bodies after a change at a place. Assumes nothing.
use Rattle.std.proofs.Common.{◌≡◌, ℕ, ◌≤◌, List, length, set, leb, ltb, replicate, sym, ap, ◌∙◌, inl, inr, arith, ◌||◌, Bool, true, false}
use Rattle.std.proofs.lemmas.List.{set_past}
use Rattle.std.proofs.lemmas.Bool.{cases_lt, cond-true, cond-false, lt-ltb, le-ltb, lt-leb, le-leb}
use Rattle.places.specs.declared.store.Body.{Body}
use Rattle.places.specs.declared.store.BodyStore.{BodyStore}
use Rattle.places.specs.BodyStores.{blank_body, cleared, emptied, filled, held_at, no_bodies, stored}

abbrev of_bodies : List Body → BodyStore
of_bodies bs = record { bodies = bs }

pub all_blank : (b : Body) → b ≡ blank_body → of_bodies (replicate 64 b) ≡ no_bodies
unfolding no_bodies
all_blank b e = ap (λ x. of_bodies (replicate 64 x)) e

module _ (s : BodyStore) (p : ℕ) (bs : List Body) (sized : length s.bodies ≡ 64) where
  past : (f : Body → Body) → 64 ≤ p → bs ≡ set s.bodies p (f (held_at s p)) → of_bodies bs ≡ s
  past f le e = ap of_bodies (e ∙ set_past s.bodies p (f (held_at s p)) (omega arith))

  pub emptied_now : bs ≡ set s.bodies p (cleared (held_at s p)) → of_bodies bs ≡ emptied s p
  emptied_now e =
      elim (cases_lt p 64) [
        | inl lt ↦ ap of_bodies e ∙ sym (cond-true _ _ _ (lt-ltb p 64 lt))
        | inr le ↦ past cleared le e ∙ sym (cond-false _ _ _ (le-ltb p 64 le))
      ]

  module _ (body : List ℕ) (fits : length body ≤ 256) where
    test : (b : Bool) → leb 64 p ≡ b → (leb 64 p || ltb 256 (length body)) ≡ b
    test true e = let f = le-ltb 256 (length body) fits in cc
    test false e = let f = le-ltb 256 (length body) fits in cc

    pub stored_now : bs ≡ set s.bodies p (filled (held_at s p) body) → of_bodies bs ≡ stored s p body
    stored_now e =
        elim (cases_lt p 64) [
          | inl lt ↦ ap of_bodies e ∙ sym (cond-false _ _ _ (test false (lt-leb 64 p lt)))
          | inr le ↦ past (λ b. filled b body) le e ∙ sym (cond-true _ _ _ (test true (le-leb 64 p le)))
        ]
