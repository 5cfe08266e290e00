-- What is left of the wants, and which lines are loading. Assumes nothing.
use Rattle.std.proofs.Common.{◌≡◌, ℕ, zero, suc, ◌+◌, ◌<◌, ◌≤◌, Bool, true, false, cond, ◌&&◌, eqb, List, [], ◌∷◌, length, get_or, Some, None, Option, sym, refl, ap, ◌∙◌, inl, inr, arith}
use lib.ListN.{get_or-map}
use Rattle.std.proofs.lemmas.Bool.{both_ways, cases_lt, lt-ltb, cond-true}
use Rattle.std.proofs.lemmas.Option.{none-some}
use Rattle.kinds.specs.declared.rank.Rank.{Rank}
use Rattle.kinds.specs.declared.rank.Rank.TheVariants.{Lower, Same, Higher}
use Rattle.kinds.specs.Kinds.{Operations}
use Rattle.kinds.specs.Recency.{instance_at}
use Rattle.packets.specs.declared.ids.Name.{Name}
use Rattle.packets.specs.Ids.{same_name}
use Rattle.lines.specs.declared.line.Line.{Line}
use Rattle.lines.specs.declared.line.State.{State}
use Rattle.lines.specs.declared.line.State.TheVariants.{Down, Negotiating, Exchanging, Loading, Full}
use Rattle.lines.specs.Lines.{no_line}
use Rattle.lines.specs.Tables.{First, map_from}
use Rattle.lines.proofs.TableLaws.{found}
use Rattle.tables.specs.declared.want.Want.{Want}
use Rattle.tables.specs.Wants.{Closed, NoneOf, Settled, at_or_below, closed_at, closed_want, closed_wants, is_of, removed_want, removed_wants, settled_by, settled_line, settled_lines, want_of}

-- a table changed place by place, at one place
at_place : {X : Type 0} (f : ℕ → X → X) (k : ℕ) (xs : List X) (i : ℕ) (d : X) → i < length xs → get_or (map_from f k xs) i d ≡ f (k + i) (get_or xs i d)
at_place f k [] i d lt = absurd (omega arith)
at_place f k (x ∷ xs) zero d lt = ap (λ n. f n x) (omega arith)
at_place f k (x ∷ xs) (suc i) d lt = at_place f (k + 1) xs i d (omega arith) ∙ ap (λ n. f n (get_or xs i d)) (omega arith)

past_end : {X : Type 0} (f : ℕ → X → X) (k : ℕ) (xs : List X) (i : ℕ) (d : X) → length xs ≤ i → get_or (map_from f k xs) i d ≡ d
past_end f k [] i d le = refl
past_end f k (x ∷ xs) zero d le = absurd (omega arith)
past_end f k (x ∷ xs) (suc i) d le = past_end f (k + 1) xs i d (omega arith)

module _ {I : Type 0} (ops : Operations I) (row : List I) (name : Name) (x : I) where
  above : (r : Rank) → at_or_below r ≡ false → r ≡ Higher
  above Lower e = absurd (both_ways _ e refl)
  above Same e = absurd (both_ways _ e refl)
  above Higher e = refl

  -- a want that stays at the same name ranks above what came
  still_open : (same low : Bool) (v w : Want) → cond (same && low) None (Some v) ≡ Some w → same_name v.name name ≡ same → same_name w.name name ≡ true → low ≡ false
  still_open true true v w e s t = absurd (none-some w e)
  still_open true false v w e s t = refl
  still_open false low v w e s t = absurd (both_ways _ (ap (λ u. same_name (kept_of u).name name) (sym e) ∙ s) t)
    where
      kept_of : Option Want → Want
      kept_of None = w
      kept_of (Some u) = u

  open_one : (y : I) (v : Option Want) (w : Want) → closed_want ops name x y v ≡ Some w → same_name w.name name ≡ true → ops.rank y x ≡ Higher
  open_one y None w e t = absurd (none-some w e)
  open_one y (Some v) w e t = above (ops.rank y x) (still_open (same_name v.name name) (at_or_below (ops.rank y x)) v w e refl t)

  -- no want of the name at or below what came is left
  pub closed_left : (ws vs : List (Option Want)) → vs ≡ closed_wants ops row name x ws → Closed ops row name x vs
  closed_left ws vs e i w lt h t =
      elim (cases_lt i (length ws)) [
        | inl l ↦ open_one (instance_at ops row i) (get_or ws i None) w
            (sym (cond-true _ _ _ (lt-ltb i (length row) lt)) ∙ ap (λ n. closed_at ops row name x n (get_or ws i None)) (omega arith) ∙ sym (at_place (closed_at ops row name x) 0 ws i None l) ∙ ap (λ zs. get_or zs i None) (sym e) ∙ h) t
        | inr l ↦ absurd (none-some w (sym (past_end (closed_at ops row name x) 0 ws i None l) ∙ ap (λ zs. get_or zs i None) (sym e) ∙ h))
      ]

none_of : (line : ℕ) (v : Option Want) → is_of line (removed_want line v) ≡ false
none_of line None = refl
none_of line (Some w) = other (eqb w.line line) refl
  where
    other : (b : Bool) → eqb w.line line ≡ b → is_of line (cond b None (Some w)) ≡ false
    other true e = refl
    other false e = e

-- no want of the line is left
pub none_left : (line : ℕ) (ws vs : List (Option Want)) → vs ≡ removed_wants line ws → NoneOf line vs
none_left line ws vs e i =
    ap (λ zs. is_of line (get_or zs i None)) e ∙ ap (is_of line) (get_or-map (removed_want line) ws i None) ∙ none_of line (get_or ws i None)

abbrev is_loading : State → Bool
is_loading Down = false
is_loading Negotiating = false
is_loading Exchanging = false
is_loading Loading = true
is_loading Full = false

not_loading : (s : State) → is_loading s ≡ false → s ≡ Loading → ⊥
not_loading s e h = both_ways (is_loading s) e (ap is_loading h)

still_loading : (s : State) → settled_by None s ≡ Loading → ⊥
still_loading Down h = not_loading Down refl h
still_loading Negotiating h = not_loading Negotiating refl h
still_loading Exchanging h = not_loading Exchanging refl h
still_loading Loading h = not_loading Full refl h
still_loading Full h = not_loading Full refl h

no_want : (i : ℕ) (ws : List (Option Want)) → NoneOf i ws → (o : Option ℕ) → First (is_of i) ws o → o ≡ None
no_want i ws none None f = refl
no_want i ws none (Some p) (lt, here, before) = absurd (both_ways _ (none p) (here None))

same_length : {X : Type 0} (f : ℕ → X → X) (k : ℕ) (xs : List X) → length (map_from f k xs) ≡ length xs
same_length f k [] = refl
same_length f k (x ∷ xs) = ap suc (same_length f (k + 1) xs)

-- a line without a want is not loading
pub none_loading : (ws : List (Option Want)) (ls ks : List Line) → ks ≡ settled_lines ws ls → Settled ws ks
none_loading ws ls ks e i lt none h =
    let l : i < length ls = omega (arith, lt, ap length e, same_length (settled_line ws) 0 ls) in
    let q : (settled_line ws i (get_or ls i no_line)).state ≡ Loading =
    ap (λ n. (settled_line ws n (get_or ls i no_line)).state) (omega arith) ∙ ap (λ k. k.state) (sym (at_place (settled_line ws) 0 ls i no_line l)) ∙ ap (λ zs. (get_or zs i no_line).state) (sym e) ∙ h in
    still_loading (get_or ls i no_line).state (ap (λ o. settled_by o (get_or ls i no_line).state) (sym (no_want i ws none (want_of ws i) (found (is_of i) ws (want_of ws i) refl))) ∙ q)
