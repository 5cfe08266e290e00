-- What a second drops. Assumes nothing.
use Rattle.std.proofs.Common.{◌≡◌, ℕ, zero, suc, ◌<◌, Bool, true, false, cond, not, ◌&&◌, ltb, ◌⊎◌, List, [], ◌∷◌, length, get_or, set, Some, None, Option, sym, refl, ap, ◌∙◌, subst, inl, inr, arith}
use Rattle.std.proofs.lemmas.List.{get_or-set_other}
use Rattle.std.proofs.lemmas.Bool.{and_parts, cases_eq, cond_both, not-true, true≢false}
use Rattle.std.proofs.lemmas.Option.{none-some}
use Rattle.kinds.specs.Kinds.{Operations, is_expired}
use Rattle.kinds.specs.Recency.{instance_at}
use Rattle.tables.specs.declared.element.Element.{Element}
use Rattle.database.specs.declared.node.Node.{Node}
use Rattle.database.specs.Entries.{dropped}
use Rattle.lines.specs.Lines.{some_owed, some_synchronizing}
use Rattle.database.specs.Nodes.{element_at}
use Rattle.database.specs.Seconds.{drop_at, dropped_at, dropped_all}
use Rattle.lines.specs.Tables.{in_turn, some_where}
use Rattle.calls.proofs.OnePlaceLaws.{given_up}

-- what every turn keeps holds after the last
pub turns_keep : {S : Type 0} (f : ℕ → S → S) (P : ℕ → S → Type 0) → ((i : ℕ) (s : S) → P i s → P (suc i) (f i s)) → (n : ℕ) (s : S) → P 0 s → P n (in_turn f n s)
unfolding in_turn
turns_keep f P step zero s h = h
turns_keep f P step (suc n) s h = step n (in_turn f n s) (turns_keep f P step n s h)

-- if it is not one of two, it is neither
neither : (b c : Bool) → cond b true c ≡ false → (b ≡ false) × (c ≡ false)
neither true c e = absurd (true≢false e)
neither false c e = (refl, e)

-- where no record of a table passes, each fails
pub none_where : {X : Type 0} (p : X → Bool) (xs : List X) → some_where p xs ≡ false → (i : ℕ) (d : X) → i < length xs → p (get_or xs i d) ≡ false
none_where p [] e i d l = absurd (omega arith)
none_where p (x ∷ xs) e zero d l = (neither (p x) (some_where p xs) e).0
none_where p (x ∷ xs) e (suc i) d l = none_where p xs (neither (p x) (some_where p xs) e).1 i d (omega arith)

-- a place is not both free and held
pub not_both : {X : Type 0} (o : Option X) (x : X) → o ≡ Some x → o ≡ None → ⊥
not_both o x p q = none-some x (sym q ∙ p)

-- lines stay, and a place is as it was, or its element was expired and owed to nobody
pub record Dropped {I : Type 0} (ops : Operations I) (xs : List I) (before after : Node) : Type 0 where
  pub lines_stay : after.lines ≡ before.lines
  pub places_go : (q : ℕ) → (element_at after q ≡ element_at before q) ⊎ ((element_at after q ≡ None) × (is_expired ops (instance_at ops xs q) ≡ true) × (some_owed before.lines q ≡ false))

module _ {I : Type 0} (ops : Operations I) (xs : List I) (before : Node) where
  -- an expired element that is owed to nobody is dropped
  drop_one : (p : ℕ) (n : Node) → (is_expired ops (instance_at ops xs p) && not (some_owed n.lines p)) ≡ true → Dropped ops xs before n → Dropped ops xs before (dropped p n)
  drop_one p n b h = record {
    lines_stay = h.lines_stay;
    places_go = λ q. elim (cases_eq q p) [
      | inl s ↦ inr (subst (λ k. (get_or (set n.places p None) k None ≡ None) × (is_expired ops (instance_at ops xs k) ≡ true) × (some_owed before.lines k ≡ false)) (sym s) here)
      | inr d ↦ elsewhere q (get_or-set_other n.places p q None None d)
    ];
  }
    where
      -- expired, and not owed
      parts : (is_expired ops (instance_at ops xs p) ≡ true) × (not (some_owed n.lines p) ≡ true)
      parts = and_parts _ _ b

      -- its place is free now, and that was allowed
      here : (get_or (set n.places p None) p None ≡ None) × (is_expired ops (instance_at ops xs p) ≡ true) × (some_owed before.lines p ≡ false)
      here = (given_up n.places p, parts.0, ap (λ ls. some_owed ls p) (sym h.lines_stay) ∙ not-true _ parts.1)

      -- every other place is as it was at this turn
      elsewhere : (q : ℕ) → element_at (dropped p n) q ≡ element_at n q → (element_at (dropped p n) q ≡ element_at before q) ⊎ ((element_at (dropped p n) q ≡ None) × (is_expired ops (instance_at ops xs q) ≡ true) × (some_owed before.lines q ≡ false))
      elsewhere q e =
          elim (h.places_go q) [
            | inl t ↦ inl (e ∙ t)
            | inr t ↦ inr (e ∙ t.0, t.1, t.2)
          ]

  -- the turn of one place, by what it holds
  drop_turn : (p : ℕ) (n : Node) (o : Option Element) → Dropped ops xs before n → Dropped ops xs before (drop_at ops xs p o n)
  drop_turn p n None h = h
  drop_turn p n (Some e) h =
      cond_both (is_expired ops (instance_at ops xs p) && not (some_owed n.lines p)) (dropped p n) n (Dropped ops xs before) (λ b. drop_one p n b h) (λ _. h)

  -- the turn of one place
  drop_step : (p : ℕ) (n : Node) → Dropped ops xs before n → Dropped ops xs before (dropped_at ops xs p n)
  drop_step p n h =
      cond_both (ltb p (length xs)) (drop_at ops xs p (element_at n p) n) n (Dropped ops xs before) (λ _. drop_turn p n (element_at n p) h) (λ _. h)

  -- before the first turn all is as it was
  stays : Dropped ops xs before before
  stays = record { lines_stay = refl; places_go = λ q. inl refl }

  -- the turns of all places
  drop_turns : (n : ℕ) → Dropped ops xs before (in_turn (dropped_at ops xs) n before)
  drop_turns n = turns_keep (dropped_at ops xs) (λ _. Dropped ops xs before) drop_step n before stays

  -- while a line exchanges or loads, nothing is dropped
  abbrev Quiet : Node → Type 0
  Quiet after = (p : ℕ) (e : Element) → element_at before p ≡ Some e → element_at after p ≡ None → some_synchronizing before.lines ≡ false

  -- what is dropped was expired and owed to nobody, while no line was exchanging or loading
  pub drop_all : Dropped ops xs before (dropped_all ops xs before) × Quiet (dropped_all ops xs before)
  drop_all =
      cond_both (some_synchronizing before.lines) before (in_turn (dropped_at ops xs) 64 before) (λ n. Dropped ops xs before n × Quiet n)
      (λ _. (stays, λ p e a b. absurd (not_both _ e a b)))
      (λ s. (drop_turns 64, λ p e a b. s))
