-- What an origination keeps. Assumes nothing.
use Rattle.std.proofs.Common.{◌≡◌, ℕ, ◌<◌, true, List, length, get_or, set, Some, None, Ok, Err, Option, Result, sym, refl, ap, ◌∙◌, subst, inl, inr}
use Rattle.std.proofs.lemmas.List.{get_or-set_other}
use Rattle.std.proofs.lemmas.Bool.{cases_eq}
use Rattle.kinds.specs.Kinds.{Operations}
use Rattle.kinds.specs.Recency.{instance_at}
use Rattle.packets.specs.declared.ids.Name.{Name}
use Rattle.tables.specs.declared.element.Element.{Element}
use Rattle.database.specs.declared.node.Node.{Node}
use Rattle.database.specs.Entries.{entered, entered_node, settled}
use Rattle.database.specs.Nodes.{World, world}
use Rattle.tables.specs.Searches.{free_place, is_named, place_of}
use Rattle.calls.specs.declared.originate.Origination.{Origination}
use Rattle.calls.specs.declared.originate.Succession.{Succession}
use Rattle.calls.specs.declared.refusal.Refusal.{Refusal}
use Rattle.calls.specs.Calls.{next_at, originated, own_element, own_name, settled_world, succession_from, succession_of}
use Rattle.calls.specs.Laws.{EntersOnly, KeepsOnePlace}
use Rattle.calls.proofs.OnePlaceLaws.{AtOnePlace, entered_here, entry_keeps, free_within, held_nowhere, held_there, held_within, own_same}

-- a place of the table at which the name is, or may enter
abbrev Fit : List (Option Element) → Name → ℕ → Type 0
Fit places name p = (p < length places) × (AtOnePlace places → (q : ℕ) → is_named name (get_or places q None) ≡ true → q ≡ p)

-- what succeeds has such a place
abbrev Fits : {I : Type 0} → List (Option Element) → Name → Result (Succession I) Refusal → Type 0
Fits places name (Ok t) = Fit places name t.place
Fits places name (Err r) = Unit {0}

module _ {I : Type 0} (ops : Operations I) (places : List (Option Element)) (name : Name) (xs : List I) (check time : ℕ) where
  -- a next instance enters where its name is
  next_fits : (p : ℕ) (o : Option I) → Fit places name p → Fits places name (next_at p o)
  next_fits p None f = tt
  next_fits p (Some x) f = f

  -- an instance enters where its name is held, or in a free place if it is nowhere
  succeeds : (held free : Option ℕ) → held ≡ place_of places name → free ≡ free_place places → Fits places name (succession_from ops xs check time held free)
  succeeds (Some p) free h f = next_fits p (ops.next (instance_at ops xs p) check time) (held_within places name p h, held_there places name p h)
  succeeds None None h f = tt
  succeeds None (Some p) h f = (free_within places name p f, λ _. held_nowhere places name h p)

module _ {I : Type 0} (ops : Operations I) (w : World I) (s : Origination) where
  -- the name under which this node originates
  abbrev name : Name
  name = own_name w.node s.number

  -- an instance that enters changes the row at its place only, where the name then is
  enters : (p : ℕ) (x : I) → p < length w.node.places → EntersOnly ops name w (settled_world (entered ops p (own_element w.node s) x s.body.now w))
  enters p x within q =
      elim (cases_eq q p) [
        | inl e ↦ inr (ap (is_named name) (ap (λ k. get_or (set w.node.places p (Some (own_element w.node s))) k None) e ∙ entered_here w.node.places p (own_element w.node s) within) ∙ own_same name)
        | inr d ↦ inl (get_or-set_other w.elements p q x (ops.first 0 0) d)
      ]

  -- names at one place, and a row that changes only where the name then is
  abbrev pub Kept : World I → Type 0
  Kept after = KeepsOnePlace w.node after.node × EntersOnly ops name w (world after.node after.elements w.wants)

  -- whatever the succession, they are kept
  kept_by : (t : Result (Succession I) Refusal) → Fits w.node.places name t → Kept (originated ops w s t)
  kept_by (Ok t) f = (λ one. entry_keeps w.node.places t.place (own_element w.node s) f.0 (f.1 one) one, enters t.place t.new f.0)
  kept_by (Err r) f = (λ one. one, λ q. inl refl)

  -- the succession that is looked for
  abbrev pub outcome : Result (Succession I) Refusal
  outcome = succession_of ops w.node w.elements name s.check s.time

  -- what an origination leaves, if no reason before it applies
  pub originated_keeps : Kept (originated ops w s outcome)
  originated_keeps = kept_by outcome (succeeds ops w.node.places name w.elements s.check s.time (place_of w.node.places name) (free_place w.node.places) refl refl)

  -- an instance that enters and a node that settles keep them
  pub entry_keeps_them : (t : Succession I) (between left : Node) (xs : List I) → outcome ≡ Ok t → between ≡ entered_node ops w.wants t.place (own_element w.node s) t.new s.body.now w.node → xs ≡ set w.elements t.place t.new → left ≡ settled between → Kept (world left xs w.wants)
  entry_keeps_them t between left xs o b x l =
      let row : world left xs w.wants ≡ world left (set w.elements t.place t.new) w.wants = ap (λ ys. world left ys w.wants) x in
      let all : world left xs w.wants ≡ originated ops w s (Ok t) = row ∙ ap (λ n. world n (set w.elements t.place t.new) w.wants) (l ∙ ap settled b) in
      subst Kept (sym (all ∙ ap (originated ops w s) (sym o))) originated_keeps
