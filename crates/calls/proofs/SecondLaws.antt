-- What a second keeps. Assumes nothing.
use Rattle.std.proofs.Common.{◌≡◌, ℕ, true, false, ◌⊎◌, List, get_or, Some, None, sym, ap, ◌∙◌, subst, inl, inr}
use Rattle.std.proofs.lemmas.Bool.{both_ways}
use Rattle.kinds.specs.Kinds.{Operations, is_expired}
use Rattle.kinds.specs.Recency.{instance_at}
use Rattle.places.specs.PlaceSets.{has}
use Rattle.tables.specs.declared.element.Element.{Element}
use Rattle.lines.specs.Lines.{is_synchronizing, no_line, some_owed}
use Rattle.database.specs.declared.node.Node.{Node}
use Rattle.database.specs.Entries.{settled}
use Rattle.database.specs.Nodes.{World, world, element_at}
use Rattle.database.specs.Seconds.{dropped_all, aged_all, raised_counts, second_world}
use Rattle.calls.specs.Laws.{Ages, Drops, KeepsOnePlace}
use Rattle.calls.proofs.AgeLaws.{Aged, age_all}
use Rattle.calls.proofs.DropLaws.{Dropped, drop_all, none_where, not_both}
use Rattle.calls.proofs.OnePlaceLaws.{fewer_keep}

module _ {I : Type 0} (ops : Operations I) (w : World I) where
  -- the world when what is expired has been dropped
  abbrev between : World I
  between = world (dropped_all ops w.elements w.node) w.elements w.wants

  -- what the drops do
  drops : Dropped ops w.elements w.node between.node
  drops = (drop_all ops w.elements w.node).0

  -- what the ageing does
  aged : Aged ops between 64 (aged_all ops between)
  aged = age_all ops between

  -- the world that a second leaves, beside the rows' wants
  abbrev after : World I
  after = world (second_world ops w).node (second_world ops w).elements w.wants

  -- a place is held after a second as it is after the drops
  as_between : (p : ℕ) → element_at after.node p ≡ element_at between.node p
  as_between p = ap (λ ps. get_or ps p None) aged.places_stay

  -- a place held before and free after was dropped
  gone : (p : ℕ) (e : Element) → element_at w.node p ≡ Some e → element_at after.node p ≡ None → (is_expired ops (instance_at ops w.elements p) ≡ true) × (some_owed w.node.lines p ≡ false)
  gone p e held free =
      elim (drops.places_go p) [
        | inl s ↦ absurd (not_both _ e held (sym s ∙ sym (as_between p) ∙ free))
        | inr s ↦ (s.1, s.2)
      ]

  -- what a second drops was expired and owed to nobody, while no line was exchanging or loading
  second_drops : Drops ops w after
  second_drops = record {
    expired = λ p e held free. (gone p e held free).0;
    owed_to_nobody = λ p e held free i l. none_where (λ k. has k.owed p) w.node.lines (gone p e held free).1 i no_line l;
    nobody_synchronizing = λ p e held free i l. none_where (λ k. is_synchronizing k.state) w.node.lines ((drop_all ops w.elements w.node).1 p e held (sym (as_between p) ∙ free)) i no_line l;
  }

  -- a free place is free after the drops
  still_free : (p : ℕ) → element_at w.node p ≡ None → element_at between.node p ≡ None
  still_free p free =
      elim (drops.places_go p) [
        | inl s ↦ s ∙ free
        | inr s ↦ s.0
      ]

  -- an expired instance stays, and the row changes only where a held element is a second older
  second_ages : Ages ops w after
  second_ages = record {
    expired_stays = λ p x. elim (aged.so_far p) [
      | inl s ↦ s
      | inr s ↦ absurd (both_ways _ s.1 x)
    ];
    elsewhere_stays = λ p free. elim (aged.so_far p) [
      | inl s ↦ s
      | inr s ↦ absurd (s.2 (still_free p free))
    ];
    only_ages = λ p. elim (aged.so_far p) [
      | inl s ↦ inl s
      | inr s ↦ inr s.0
    ];
  }

  -- places only become free
  fewer : (q : ℕ) → (element_at after.node q ≡ element_at w.node q) ⊎ (element_at after.node q ≡ None)
  fewer q =
      elim (drops.places_go q) [
        | inl s ↦ inl (as_between q ∙ s)
        | inr s ↦ inr (as_between q ∙ s.0)
      ]

  -- a name stays at one place
  second_keeps : KeepsOnePlace w.node after.node
  second_keeps = fewer_keep w.node.places after.node.places fewer

  -- the laws of a second, of the node and the row that are left
  abbrev pub Passed : World I → Type 0
  Passed u = KeepsOnePlace w.node u.node × Drops ops w (world u.node u.elements w.wants) × Ages ops w (world u.node u.elements w.wants)

  -- a second keeps them
  pub passed : Passed (second_world ops w)
  passed = (second_keeps, second_drops, second_ages)

  -- what follows aging, of the world that it leaves
  abbrev finished : World I → World I
  finished u = world (settled (raised_counts u.node)) u.elements u.wants

  -- and so do the passes, one after another
  pub in_passes : (dropped older counted left : Node) (xs : List I) → dropped ≡ dropped_all ops w.elements w.node → world older xs w.wants ≡ aged_all ops (world dropped w.elements w.wants) → counted ≡ raised_counts older → left ≡ settled counted → Passed (world left xs w.wants)
  in_passes dropped older counted left xs d a c s =
      let last : world left xs w.wants ≡ world (settled (raised_counts older)) xs w.wants = ap (λ n. world n xs w.wants) (s ∙ ap settled c) in
      let all : world left xs w.wants ≡ second_world ops w = last ∙ ap finished (a ∙ ap (λ n. aged_all ops (world n w.elements w.wants)) d) in
      subst Passed (sym all) passed
