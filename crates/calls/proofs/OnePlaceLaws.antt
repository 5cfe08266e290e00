-- A name stays at one place when an element enters or is dropped. Assumes nothing.
use Rattle.std.proofs.Common.{◌≡◌, ℕ, zero, suc, ◌<◌, true, ◌⊎◌, List, [], ◌∷◌, length, get_or, set, Some, None, Option, sym, refl, ap, ◌∙◌, subst, inl, inr}
use Rattle.std.proofs.lemmas.Slice.Eq.{bytes_eq-Decides}
use Rattle.std.proofs.lemmas.List.{get_or_past, get_or-set_same, get_or-set_other}
use Rattle.std.proofs.lemmas.Bool.{and_from, and_parts, both_ways, cases_eq, cases_lt, eq-eqb, eqb-true}
use Rattle.packets.specs.declared.ids.Name.{Name}
use Rattle.packets.specs.Ids.{same_name}
use Rattle.tables.specs.declared.element.Element.{Element}
use Rattle.tables.specs.Searches.{is_named, is_free, place_of, free_place}
use Rattle.lines.proofs.TableLaws.{found}

-- a name of its bytes and number
abbrev name_of : List ℕ → ℕ → Name
name_of bytes number = record { node = record { bytes = bytes }; number = number }

-- names of the same bytes and number are one
of_same : (xs ys : List ℕ) (m n : ℕ) → xs ≡ ys → m ≡ n → name_of xs m ≡ name_of ys n
of_same xs ys m n p q = cc

-- names that compare as the same are one
pub one_name : (a b : Name) → same_name a b ≡ true → a ≡ b
one_name a b e =
    let h = and_parts _ _ e in
    of_same a.node.bytes b.node.bytes a.number b.number ((bytes_eq-Decides a.node.bytes b.node.bytes).0 h.1) (eqb-true _ _ h.0)

-- a name is the same as itself
pub own_same : (a : Name) → same_name a a ≡ true
own_same a = and_from _ _ (eq-eqb a.number a.number refl) ((bytes_eq-Decides a.node.bytes a.node.bytes).1 refl)

-- no name is at two places of a table
abbrev pub AtOnePlace : List (Option Element) → Type 0
AtOnePlace places = (p q : ℕ) (name : Name) → is_named name (get_or places p None) ≡ true → is_named name (get_or places q None) ≡ true → p ≡ q

module _ (places : List (Option Element)) (name : Name) where
  -- a place with the name is one of the table
  named_within : (q : ℕ) → is_named name (get_or places q None) ≡ true → q < length places
  named_within q h =
      elim (cases_lt q (length places)) [
        | inl l ↦ l
        | inr l ↦ absurd (both_ways _ (ap (is_named name) (get_or_past places q None l)) h)
      ]

  -- where the name is found it is, and nowhere else
  pub held_there : (p : ℕ) → Some p ≡ place_of places name → AtOnePlace places → (q : ℕ) → is_named name (get_or places q None) ≡ true → q ≡ p
  held_there p e one q h = one q p name h ((found (is_named name) places (Some p) e).1 None)

  -- where the name is found is a place of the table
  pub held_within : (p : ℕ) → Some p ≡ place_of places name → p < length places
  held_within p e = (found (is_named name) places (Some p) e).0

  -- where the name is not found it is nowhere
  pub held_nowhere : None ≡ place_of places name → (p q : ℕ) → is_named name (get_or places q None) ≡ true → q ≡ p
  held_nowhere e p q h = absurd (both_ways _ (found (is_named name) places None e q None (named_within q h)) h)

  -- what is found free is a place of the table
  pub free_within : (p : ℕ) → Some p ≡ free_place places → p < length places
  free_within p e = (found is_free places (Some p) e).0

module _ (places : List (Option Element)) (p : ℕ) (e : Element) (within : p < length places) where
  -- the element is at its place
  pub entered_here : get_or (set places p (Some e)) p None ≡ Some e
  entered_here = get_or-set_same places p (Some e) None within

  -- a name in the table after an entry is that of the element, or was there before
  entered_names : (q : ℕ) (name : Name) → is_named name (get_or (set places p (Some e)) q None) ≡ true → ((q ≡ p) × (e.name ≡ name)) ⊎ (is_named name (get_or places q None) ≡ true)
  entered_names q name h =
      elim (cases_eq q p) [
        | inl s ↦ inl (s, one_name e.name name (sym (ap (is_named name) (ap (λ k. get_or (set places p (Some e)) k None) s ∙ entered_here)) ∙ h))
        | inr n ↦ inr (sym (ap (is_named name) (get_or-set_other places p q (Some e) None n)) ∙ h)
      ]

  module _ (only : (q : ℕ) → is_named e.name (get_or places q None) ≡ true → q ≡ p) where
    -- a name that was there before, and is that of the element, was at the element's place
    was_there : (q : ℕ) (name : Name) → e.name ≡ name → is_named name (get_or places q None) ≡ true → q ≡ p
    was_there q name s h = only q (subst (λ a. is_named a (get_or places q None) ≡ true) (sym s) h)

    -- an element that enters where its name is, or where it is nowhere, has one place
    pub entry_keeps : AtOnePlace places → AtOnePlace (set places p (Some e))
    entry_keeps one a b name h k =
        elim (entered_names a name h) [
          | inl s ↦ elim (entered_names b name k) [
            | inl t ↦ s.0 ∙ sym t.0
            | inr t ↦ s.0 ∙ sym (was_there b name s.1 t)
          ]
          | inr s ↦ elim (entered_names b name k) [
            | inl t ↦ was_there a name t.1 s ∙ sym t.0
            | inr t ↦ one a b name s t
          ]
        ]

-- a place that is given up is free
pub given_up : (places : List (Option Element)) (p : ℕ) → get_or (set places p None) p None ≡ None
given_up [] p = refl
given_up (x ∷ xs) zero = refl
given_up (x ∷ xs) (suc p) = given_up xs p

-- where places only became free, a name is still at one place
pub fewer_keep : (before after : List (Option Element)) → ((q : ℕ) → (get_or after q None ≡ get_or before q None) ⊎ (get_or after q None ≡ None)) → AtOnePlace before → AtOnePlace after
fewer_keep before after fewer one p q name h k = one p q name (was p h) (was q k)
  where
    -- a name that is somewhere was there before
    was : (r : ℕ) → is_named name (get_or after r None) ≡ true → is_named name (get_or before r None) ≡ true
    was r e =
        elim (fewer r) [
          | inl s ↦ sym (ap (is_named name) s) ∙ e
          | inr s ↦ absurd (both_ways _ (ap (is_named name) s) e)
        ]
