-- What the entries of a packet say. Assumes nothing.
use Rattle.std.specs.Prelude.{ℕ, List, map, length}
use Rattle.kinds.specs.Kinds.{Operations}
use Rattle.packets.specs.declared.acknowledgement.Acknowledged.{Acknowledged}
use Rattle.packets.specs.declared.ids.Name.{Name}
use Rattle.packets.specs.declared.ids.NodeId.{NodeId}
use Rattle.packets.specs.declared.layout.PacketType.TheVariants.{Acknowledgement, Summary, Request}
use Rattle.packets.specs.declared.summary.Description.{Description}
use Rattle.packets.specs.Contents.{acknowledged_group, described_group, requested_group}
use Rattle.packets.specs.Groups.{contents}
use Rattle.exchange.specs.Namings.{Naming, acknowledged_by, described_by, each_of, naming, requested_by}
use Rattle.arrivals.specs.declared.naming.Naming.{Naming as Named}

abbrev pub naming_view : {I : Type 0} → Named I → Naming I
naming_view n = record { name = n.name; instance = n.instance }

-- an entry of a request, with the node ID of its group
abbrev pub requested_at : NodeId × ℕ → Name
requested_at e = record { node = e.0; number = e.1 }

-- the names of a request, in its order
abbrev pub requested_in : List ℕ → List Name
requested_in groups = each_of requested_by (map requested_group (contents (length groups) Request groups))

module _ {I : Type 0} (ops : Operations I) where
  -- an entry of an acknowledgement, and one of a summary
  abbrev pub acknowledged_at : NodeId × Acknowledged → Naming I
  acknowledged_at e = naming ops e.0.bytes e.1.number e.1.instance

  abbrev pub described_at : NodeId × Description → Naming I
  described_at e = naming ops e.0.bytes e.1.number e.1.instance

  -- the entries of an acknowledgement, in its order
  abbrev pub acknowledged_in : List ℕ → List (Naming I)
  acknowledged_in groups = each_of (acknowledged_by ops) (map acknowledged_group (contents (length groups) Acknowledgement groups))

  -- the descriptions of a summary, in its order
  abbrev pub described_in : List ℕ → List (Naming I)
  described_in groups = each_of (described_by ops) (map described_group (contents (length groups) Summary groups))
