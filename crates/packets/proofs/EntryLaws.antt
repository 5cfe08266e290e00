-- Steps of a walk over entries. Assumes nothing.
use Rattle.std.proofs.Common.{◌≡◌, ℕ, zero, suc, ◌-◌, ◌<◌, ◌≤◌, Bool, true, false, cond, List, [], ◌∷◌, length, drop, Some, None, sym, refl, ap, ◌∙◌, inl, inr, arith, length-drop}
use Rattle.std.proofs.lemmas.Bool.{cases_lt, ltb-true, ltb-false, le-ltb, lt-ltb, cond-true, cond-false}
use Rattle.packets.specs.Contents.{entries}
use Rattle.packets.specs.Entries.{first_entry}

-- entries of one size
module _ {X : Type 0} (at : List ℕ → X) (size : ℕ) where
  pub entries_more : (k : ℕ) (es : List ℕ) → size ≤ length es → entries at size (suc k) es ≡ at es ∷ entries at size k (drop size es)
  unfolding entries
  entries_more k es le = cond-false _ _ _ (le-ltb (length es) size le)

  pub entries_none : (k : ℕ) (es : List ℕ) → length es < size → entries at size k es ≡ []
  unfolding entries
  entries_none zero es lt = refl
  entries_none (suc k) es lt = cond-true _ _ _ (lt-ltb (length es) size lt)

  -- a number that is at least that of the entries gives all of them
  pub entries_enough : 0 < size → (j k : ℕ) (es : List ℕ) → length es ≤ j → length es ≤ k → entries at size j es ≡ entries at size k es
  entries_enough pos zero k es lj lk = entries_none zero es (omega arith) ∙ sym (entries_none k es (omega arith))
  entries_enough pos (suc j) zero es lj lk = entries_none (suc j) es (omega arith) ∙ sym (entries_none zero es (omega arith))
  entries_enough pos (suc j) (suc k) es lj lk =
      elim (cases_lt (length es) size) [
        | inl lt ↦
            entries_none (suc j) es lt ∙ sym (entries_none (suc k) es lt)
        | inr le ↦
            let l = length-drop size es in
            entries_more j es le ∙ ap (λ xs. at es ∷ xs) (entries_enough pos j k (drop size es) (omega arith) (omega arith)) ∙ sym (entries_more k es le)
      ]

  -- the first entry, and the entries behind it
  pub entries_next : 0 < size → (es behind : List ℕ) → size ≤ length es → behind ≡ drop size es → entries at size (length es) es ≡ at es ∷ entries at size (length behind) behind
  entries_next pos es behind le e =
      let k = length es - 1 in
      let n : length es ≡ suc k = omega arith in
      let l = length-drop size es in
      ap (λ m. entries at size m es) n ∙ entries_more k es le
      ∙ ap (λ xs. at es ∷ xs) (entries_enough pos k (length (drop size es)) (drop size es) (omega arith) (omega arith) ∙ sym (ap (λ bs. entries at size (length bs) bs) e))

-- what an answer says of the test before it
pub past_none : {X : Type 0} (b : Bool) (x y : X) → Some x ≡ cond b None (Some y) → (b ≡ false) × (x ≡ y)
past_none true x y e = absurd (let z : ◌≡◌ {A = ℕ} 0 1 = cc in omega arith)
past_none false x y e = (refl, cc)

past_some : {X : Type 0} (b : Bool) (x : X) → None ≡ cond b None (Some x) → b ≡ true
past_some true x e = refl
past_some false x e = absurd (let z : ◌≡◌ {A = ℕ} 0 1 = cc in omega arith)

module _ {X : Type 0} (at : List ℕ → X) (size : ℕ) where
  -- an entry was split off
  pub entry_split : 0 < size → (es behind : List ℕ) (x : X) → Some (x, behind) ≡ first_entry at size es → entries at size (length es) es ≡ x ∷ entries at size (length behind) behind
  entry_split pos es behind x e =
      let p = past_none _ _ _ e in
      entries_next at size pos es behind (ltb-false _ _ p.0) (ap (λ v. v.1) p.1) ∙ ap (λ y. y ∷ entries at size (length behind) behind) (sym (ap (λ v. v.0) p.1))

  -- too few bytes are left
  pub entry_none : (es : List ℕ) → None ≡ first_entry at size es → entries at size (length es) es ≡ []
  entry_none es e = entries_none at size (length es) es (ltb-true _ _ (past_some _ _ e))
