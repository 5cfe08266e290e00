-- The bytes of our own packets' groups. Assumes nothing.
use Rattle.std.specs.Prelude.{ℕ, List, [], ◌∷◌, ◌++◌, Some, None, Option, slice_index_or}
use Rattle.kinds.specs.Kinds.{Operations}
use Rattle.packets.specs.declared.acknowledgement.Acknowledged.{Acknowledged}
use Rattle.packets.specs.declared.ids.NodeId.{NodeId}
use Rattle.packets.specs.declared.layout.PacketType.TheVariants as type
use Rattle.packets.specs.Encodings.{acknowledged_bytes, described_bytes, element_bytes, framed, requested_bytes}
use Rattle.places.specs.declared.store.BodyStore.{BodyStore}
use Rattle.tables.specs.declared.element.Element.{Element}
use Rattle.tables.specs.declared.want.Want.{Want}
use Rattle.exchange.specs.Bundling.{element_out}
use Rattle.exchange.specs.Handing.{requested}
use Rattle.exchange.specs.Summaries.{description_of}

-- the bytes for one place, none where it is free
abbrev pub one_bytes : {X : Type 0} → (ℕ → X → List ℕ) → ℕ → Option X → List ℕ
one_bytes f p None = []
one_bytes f p (Some x) = f p x

-- the bytes for some places, one behind the other
abbrev pub groups_bytes : {X : Type 0} → (ℕ → X → List ℕ) → List (Option X) → List ℕ → List ℕ
groups_bytes f xs [] = []
groups_bytes f xs (p ∷ ps) = one_bytes f p (slice_index_or xs p None) ++ groups_bytes f xs ps

abbrev pub request_group : ℕ → Want → List ℕ
request_group p want = framed type.Request (requested_bytes (requested p want))

abbrev pub acknowledgement_group : NodeId → List Acknowledged → List ℕ
acknowledgement_group node entries = framed type.Acknowledgement (acknowledged_bytes (record { node = node.bytes; entries = entries }))

-- an element described by an instance's bytes
abbrev pub described_group : Element → List ℕ → List ℕ
described_group e instance =
    framed type.Summary
    (described_bytes (record {
      node = e.name.node.bytes;
      group = e.group.bytes;
      entries = record { element_type = e.element_type; number = e.name.number; instance = instance } ∷ [];
    }))

module _ {I : Type 0} (ops : Operations I) where
  abbrev pub description_group : List I → ℕ → Element → List ℕ
  description_group xs p e = framed type.Summary (described_bytes (description_of ops xs p e))

  abbrev pub element_group : List I → BodyStore → ℕ → Element → List ℕ
  element_group xs bodies p e = framed type.Bundle (element_bytes (element_out ops xs bodies p e))
