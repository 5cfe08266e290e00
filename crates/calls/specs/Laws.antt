-- What calls keep, in the words of the subject. Assumes nothing.
use Rattle.std.specs.Prelude.{◌≡◌, ℕ, ◌<◌, true, false, ◌⊎◌, length, Some, None, Err, Result, slice_index_or}
use Rattle.kinds.specs.Kinds.{Operations, is_expired}
use Rattle.kinds.specs.Recency.{instance_at}
use Rattle.packets.specs.declared.ids.Name.{Name}
use Rattle.places.specs.PlaceSets.{has}
use Rattle.tables.specs.declared.element.Element.{Element}
use Rattle.database.specs.declared.node.Node.{Node}
use Rattle.lines.specs.Lines.{is_synchronizing, no_line}
use Rattle.database.specs.Nodes.{World, OnePlace, element_at}
use Rattle.tables.specs.Searches.{is_named}
use Rattle.calls.specs.declared.refusal.Refusal.{Refusal}

-- a call that is refused leaves node and rows as they were
abbrev pub Untouched : {A I : Type 0} → Result A Refusal → World I → World I → Type 0
Untouched answer before after = (reason : Refusal) → answer ≡ Err reason → after ≡ before

-- a name stays at one place at most
abbrev pub KeepsOnePlace : Node → Node → Type 0
KeepsOnePlace before after = OnePlace before → OnePlace after

-- What a second drops was expired and owed to nobody, while nobody was exchanging or loading.
pub record Drops {I : Type 0} (ops : Operations I) (before after : World I) : Type 0 where
  pub expired : (p : ℕ) (e : Element) → element_at before.node p ≡ Some e → element_at after.node p ≡ None → is_expired ops (instance_at ops before.elements p) ≡ true
  pub owed_to_nobody : (p : ℕ) (e : Element) → element_at before.node p ≡ Some e → element_at after.node p ≡ None → (i : ℕ) → i < length before.node.lines → has (slice_index_or before.node.lines i no_line).owed p ≡ false
  pub nobody_synchronizing : (p : ℕ) (e : Element) → element_at before.node p ≡ Some e → element_at after.node p ≡ None → (i : ℕ) → i < length before.node.lines → is_synchronizing (slice_index_or before.node.lines i no_line).state ≡ false

-- An expired instance stays as it is, and the row changes only where a held element is a second older.
pub record Ages {I : Type 0} (ops : Operations I) (before after : World I) : Type 0 where
  pub expired_stays : (p : ℕ) → is_expired ops (instance_at ops before.elements p) ≡ true → instance_at ops after.elements p ≡ instance_at ops before.elements p
  pub elsewhere_stays : (p : ℕ) → element_at before.node p ≡ None → instance_at ops after.elements p ≡ instance_at ops before.elements p
  pub only_ages : (p : ℕ) → (instance_at ops after.elements p ≡ instance_at ops before.elements p) ⊎ (instance_at ops after.elements p ≡ ops.older (instance_at ops before.elements p))

-- The row changes only where the name now is.
abbrev pub EntersOnly : {I : Type 0} → Operations I → Name → World I → World I → Type 0
EntersOnly ops name before after =
    (p : ℕ) → (instance_at ops after.elements p ≡ instance_at ops before.elements p) ⊎ (is_named name (element_at after.node p) ≡ true)
