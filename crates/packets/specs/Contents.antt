-- What a packet holds, from its bytes. Assumes nothing.
use Rattle.std.specs.Prelude.{ℕ, zero, suc, ◌-◌, cond, List, [], ◌∷◌, map, length, drop, Some, None, Ok, Err, Option, Result, nat_lt}
use Rattle.packets.specs.declared.acknowledgement.Acknowledged.{Acknowledged}
use Rattle.packets.specs.declared.group.Misfit.{Misfit}
use Rattle.packets.specs.declared.header.Header.{Header}
use Rattle.packets.specs.declared.header.HeaderFault.{HeaderFault}
use Rattle.packets.specs.declared.header.HeaderFault.TheVariants as header_fault
use Rattle.packets.specs.declared.layout.PacketType.{PacketType}
use Rattle.packets.specs.declared.layout.PacketType.TheVariants as type
use Rattle.packets.specs.declared.packet.Content.{Content}
use Rattle.packets.specs.declared.packet.Content.TheVariants as rust
use Rattle.packets.specs.declared.packet.Fault.{Fault}
use Rattle.packets.specs.declared.packet.Fault.TheVariants.{Header as HeaderFaulty, Group as GroupFaulty}
use Rattle.packets.specs.declared.packet.Packet.{Packet}
use Rattle.packets.specs.declared.summary.Description.{Description}
use Rattle.packets.specs.Acknowledgements.{entry_at}
use Rattle.packets.specs.Bundles.{BundleView, ElementView, element_at, bundle_of}
use Rattle.packets.specs.Groups.{contents, first_fault}
use Rattle.packets.specs.Headers.{header_of}
use Rattle.packets.specs.Named.{named_at}
use Rattle.packets.specs.Requests.{number_at}
use Rattle.packets.specs.Summaries.{SummaryView, described_at, description_at, summary_of}

-- a packet behind its header, its groups as bytes
pub data Raw : Type 0 where
  bundle : List ℕ → List ℕ → List ℕ → Raw
  acknowledgement : List ℕ → Raw
  summary : ℕ → ℕ → List ℕ → Raw
  request : List ℕ → Raw

abbrev pub raw_type : Raw → PacketType
raw_type (bundle n g bs) = type.Bundle
raw_type (acknowledgement bs) = type.Acknowledgement
raw_type (summary f d bs) = type.Summary
raw_type (request bs) = type.Request

abbrev pub groups_of : Raw → List ℕ
groups_of (bundle n g bs) = bs
groups_of (acknowledgement bs) = bs
groups_of (summary f d bs) = bs
groups_of (request bs) = bs

abbrev pub raw : Content → Raw
raw (rust.Bundle b) = bundle b.node.bytes b.group.bytes b.groups.now
raw (rust.Acknowledgement bs) = acknowledgement bs.now
raw (rust.Summary s) = summary s.head.flags s.head.ds_number s.groups.now
raw (rust.Request bs) = request bs.now

abbrev pub viewed_part : Option Content → Option Raw
viewed_part None = None
viewed_part (Some c) = Some (raw c)

abbrev pub bundle_part : Option BundleView → Option Raw
bundle_part None = None
bundle_part (Some b) = Some (bundle b.node b.group b.groups)

abbrev pub summary_part : Option SummaryView → Option Raw
summary_part None = None
summary_part (Some s) = Some (summary s.flags s.ds_number s.groups)

abbrev pub part_of : PacketType → List ℕ → Option Raw
part_of type.Bundle part = bundle_part (bundle_of part)
part_of type.Acknowledgement part = Some (acknowledgement part)
part_of type.Summary part = summary_part (summary_of part)
part_of type.Request part = Some (request part)

-- Entries of one size, read one behind the other; the number is at least that of the entries.
unfoldable pub entries : {X : Type 0} → (List ℕ → X) → ℕ → ℕ → List ℕ → List X
entries at size zero bs = []
entries at size (suc k) bs = cond (nat_lt (length bs) size) [] (at bs ∷ entries at size k (drop size bs))

pub record AcknowledgedGroup : Type 0 where
  pub node : List ℕ
  pub entries : List Acknowledged

pub record DescribedGroup : Type 0 where
  pub node : List ℕ
  pub group : List ℕ
  pub entries : List Description

pub record RequestedGroup : Type 0 where
  pub node : List ℕ
  pub numbers : List ℕ

abbrev pub acknowledged_group : List ℕ → AcknowledgedGroup
acknowledged_group c = record { node = (named_at c).node; entries = entries entry_at 12 (length c) (named_at c).entries }

abbrev pub described_group : List ℕ → DescribedGroup
described_group c = record {
  node = (described_at c).node;
  group = (described_at c).group;
  entries = entries description_at 16 (length c) (described_at c).entries;
}

abbrev pub requested_group : List ℕ → RequestedGroup
requested_group c = record { node = (named_at c).node; numbers = entries number_at 4 (length c) (named_at c).entries }

-- what a packet says: of an element its body, of a group its entries
pub data Said : Type 0 where
  bundle : List ℕ → List ℕ → List ElementView → Said
  acknowledgement : List AcknowledgedGroup → Said
  summary : ℕ → ℕ → List DescribedGroup → Said
  request : List RequestedGroup → Said

abbrev pub said : Raw → Said
said (bundle n g bs) = bundle n g (map element_at (contents (length bs) type.Bundle bs))
said (acknowledgement bs) = acknowledgement (map acknowledged_group (contents (length bs) type.Acknowledgement bs))
said (summary f d bs) = summary f d (map described_group (contents (length bs) type.Summary bs))
said (request bs) = request (map requested_group (contents (length bs) type.Request bs))

pub record PacketView : Type 0 where
  pub newest : ℕ
  pub oldest : ℕ
  pub said : Said

abbrev pub viewed_packet : Result Packet Fault → Result PacketView Fault
viewed_packet (Ok p) = Ok (record { newest = p.newest; oldest = p.oldest; said = said (raw p.content) })
viewed_packet (Err f) = Err f

-- groups that all keep their layout
abbrev pub checked : ℕ → Header → Raw → Option Misfit → Result PacketView Fault
checked n h r None = Ok (record { newest = h.newest; oldest = h.oldest; said = said r })
checked n h r (Some m) = Err (GroupFaulty m.fault (n - m.left))

abbrev pub decode_part : ℕ → Header → Option Raw → Result PacketView Fault
decode_part n h None = Err (HeaderFaulty header_fault.Cut)
decode_part n h (Some r) = checked n h r (first_fault (length (groups_of r)) h.packet_type (groups_of r))

abbrev pub decode_header : List ℕ → Result Header HeaderFault → Result PacketView Fault
decode_header bs (Err f) = Err (HeaderFaulty f)
decode_header bs (Ok h) = decode_part (length bs) h (part_of h.packet_type (drop 8 bs))

-- the content of a packet, or the first fault found
abbrev pub decode : List ℕ → Result PacketView Fault
decode bs = decode_header bs (header_of bs)
