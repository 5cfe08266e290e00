-- What a second makes older. Assumes nothing.
use Rattle.std.proofs.Common.{◌≡◌, ℕ, suc, ◌<◌, ◌≤◌, false, ltb, ◌⊎◌, List, [], length, get_or, set, Some, None, Option, sym, refl, ap, ◌∙◌, subst, inl, inr, arith}
use Rattle.std.proofs.lemmas.List.{get_or-set_other, get_or-set_same, set-get_or}
use Rattle.std.proofs.lemmas.Bool.{cases_eq, cond_both, ltb-true}
use Rattle.kinds.specs.Kinds.{Operations, is_expired}
use Rattle.kinds.specs.Recency.{instance_at}
use Rattle.tables.specs.declared.element.Element.{Element}
use Rattle.database.specs.declared.node.Node.{Node}
use Rattle.database.specs.Entries.{entered, entered_node}
use Rattle.database.specs.Nodes.{World, world, element_at}
use Rattle.database.specs.Seconds.{age_at, aged_at, aged_all}
use Rattle.calls.proofs.DropLaws.{not_both, turns_keep}

-- an instance is as it was, or a second older where it was not expired and an element is held
abbrev pub AgedAt : {I : Type 0} → Operations I → World I → List I → ℕ → Type 0
AgedAt ops before ys q =
    (instance_at ops ys q ≡ instance_at ops before.elements q)
    ⊎ ((instance_at ops ys q ≡ ops.older (instance_at ops before.elements q)) × (is_expired ops (instance_at ops before.elements q) ≡ false) × (element_at before.node q ≡ None → ⊥))

-- after the turns below i: places stay, the row from i on stays, and the row is aged
pub record Aged {I : Type 0} (ops : Operations I) (before : World I) (i : ℕ) (after : World I) : Type 0 where
  pub places_stay : after.node.places ≡ before.node.places
  pub not_yet : (q : ℕ) → i ≤ q → instance_at ops after.elements q ≡ instance_at ops before.elements q
  pub so_far : (q : ℕ) → AgedAt ops before after.elements q

module _ {I : Type 0} (ops : Operations I) (before : World I) where
  -- a turn in which nothing changes
  skipped : (p : ℕ) (w : World I) → Aged ops before p w → Aged ops before (suc p) w
  skipped p w h = record { places_stay = h.places_stay; not_yet = λ q l. h.not_yet q (omega arith); so_far = h.so_far }

  module _ (p : ℕ) (w : World I) (h : Aged ops before p w) (within : p < length w.elements) (e : Element) (held : element_at w.node p ≡ Some e) (lives : is_expired ops (instance_at ops w.elements p) ≡ false) where
    -- the row with the instance a second older
    abbrev row : List I
    row = set w.elements p (ops.older (instance_at ops w.elements p))

    -- at this turn the instance is still the one before
    same : instance_at ops w.elements p ≡ instance_at ops before.elements p
    same = h.not_yet p (omega arith)

    -- no other instance changes
    other : (q : ℕ) → (q ≡ p → ⊥) → instance_at ops row q ≡ instance_at ops w.elements q
    other q d = get_or-set_other w.elements p q (ops.older (instance_at ops w.elements p)) (ops.first 0 0) d

    -- the instance is a second older, was not expired, and its element is held
    here : AgedAt ops before row p
    here =
        inr (
          get_or-set_same w.elements p (ops.older (instance_at ops w.elements p)) (ops.first 0 0) within ∙ ap ops.older same,
          ap (is_expired ops) (sym same) ∙ lives,
          λ gone. not_both _ e held (ap (λ ps. get_or ps p None) h.places_stay ∙ gone),
        )

    -- a turn in which the instance becomes older
    aged_one : (n : Node) → n.places ≡ w.node.places → Aged ops before (suc p) (world n row w.wants)
    aged_one n s = record {
      places_stay = s ∙ h.places_stay;
      not_yet = λ q l. other q (λ t. omega arith) ∙ h.not_yet q (omega arith);
      so_far = λ q. elim (cases_eq q p) [
        | inl t ↦ subst (AgedAt ops before row) (sym t) here
        | inr d ↦ subst (λ x. (x ≡ instance_at ops before.elements q) ⊎ ((x ≡ ops.older (instance_at ops before.elements q)) × (is_expired ops (instance_at ops before.elements q) ≡ false) × (element_at before.node q ≡ None → ⊥))) (sym (other q d)) (h.so_far q)
      ];
    }

    -- an element that enters where it is already leaves the places as they were
    re_entered : (entered_node ops w.wants p e (ops.older (instance_at ops w.elements p)) [] w.node).places ≡ w.node.places
    re_entered = ap (set w.node.places p) (sym held) ∙ set-get_or w.node.places p None

  -- the turn of one place, by what it holds
  age_turn : (p : ℕ) (w : World I) (o : Option Element) → element_at w.node p ≡ o → p < length w.elements → Aged ops before p w → Aged ops before (suc p) (age_at ops p o w)
  age_turn p w None held within h = skipped p w h
  age_turn p w (Some e) held within h =
      cond_both (is_expired ops (instance_at ops w.elements p)) w _ (Aged ops before (suc p)) (λ _. skipped p w h) (λ lives.
      cond_both (is_expired ops (ops.older (instance_at ops w.elements p))) (entered ops p e (ops.older (instance_at ops w.elements p)) [] w) _ (Aged ops before (suc p))
      (λ _. aged_one p w h within e held lives _ (re_entered p w h within e held lives))
      (λ _. aged_one p w h within e held lives w.node refl))

  -- the turn of one place
  age_step : (p : ℕ) (w : World I) → Aged ops before p w → Aged ops before (suc p) (aged_at ops p w)
  age_step p w h =
      cond_both (ltb p (length w.elements)) (age_at ops p (element_at w.node p) w) w (Aged ops before (suc p))
      (λ l. age_turn p w (element_at w.node p) refl (ltb-true _ _ l) h)
      (λ _. skipped p w h)

  -- the turns of all places
  pub age_all : Aged ops before 64 (aged_all ops before)
  age_all = turns_keep (aged_at ops) (Aged ops before) age_step 64 before (record { places_stay = refl; not_yet = λ q l. refl; so_far = λ q. inl refl })
