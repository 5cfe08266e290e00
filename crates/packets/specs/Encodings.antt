-- The bytes of a packet, from what it says. Assumes nothing.
use Rattle.std.specs.Prelude.{◌≡◌, ℕ, ◌+◌, ◌%◌, ◌^◌, ◌<◌, ◌≤◌, List, [], ◌∷◌, ◌++◌, map, length}
use Rattle.std.specs.List.{AllByRecursion}
use Rattle.kinds.specs.BigEndian.{write16, write32}
use Rattle.packets.specs.declared.acknowledgement.Acknowledged.{Acknowledged}
use Rattle.packets.specs.declared.layout.PacketType.{PacketType}
use Rattle.packets.specs.declared.layout.PacketType.TheVariants as type
use Rattle.packets.specs.declared.summary.Description.{Description}
use Rattle.packets.specs.Bundles.{ElementView}
use Rattle.packets.specs.Contents.{AcknowledgedGroup, DescribedGroup, RequestedGroup, Said, PacketView}
use Rattle.packets.specs.Contents.Said.{bundle, acknowledgement, summary, request}
use Rattle.packets.specs.Layouts.{number_of, group_number_of}

-- lists one behind the other
abbrev pub joined : List (List ℕ) → List ℕ
joined [] = []
joined (bs ∷ rest) = bs ++ joined rest

-- type, two reserved bytes, number, instance, body
abbrev pub element_bytes : ElementView → List ℕ
element_bytes e = write16 e.element_type (0 ∷ 0 ∷ write32 e.number (e.instance ++ e.body))

-- number, instance
abbrev pub entry_bytes : Acknowledged → List ℕ
entry_bytes a = write32 a.number a.instance

-- type, two reserved bytes, number, instance
abbrev pub description_bytes : Description → List ℕ
description_bytes d = write16 d.element_type (0 ∷ 0 ∷ write32 d.number d.instance)

abbrev pub number_bytes : ℕ → List ℕ
number_bytes n = write32 n []

-- node ID, count, entries
abbrev pub acknowledged_bytes : AcknowledgedGroup → List ℕ
acknowledged_bytes g = g.node ++ write16 (length g.entries) (joined (map entry_bytes g.entries))

-- node ID, peer group ID, two reserved bytes, count, entries
abbrev pub described_bytes : DescribedGroup → List ℕ
described_bytes g = g.node ++ (g.group ++ (0 ∷ 0 ∷ write16 (length g.entries) (joined (map description_bytes g.entries))))

-- node ID, count, entries
abbrev pub requested_bytes : RequestedGroup → List ℕ
requested_bytes g = g.node ++ write16 (length g.numbers) (joined (map number_bytes g.numbers))

abbrev pub said_type : Said → PacketType
said_type (bundle n g es) = type.Bundle
said_type (acknowledgement gs) = type.Acknowledgement
said_type (summary f d gs) = type.Summary
said_type (request gs) = type.Request

-- what stands between the header and the groups
abbrev pub said_fixed : Said → List ℕ
said_fixed (bundle n g es) = n ++ g
said_fixed (acknowledgement gs) = []
said_fixed (summary f d gs) = write16 f (0 ∷ 0 ∷ write32 d [])
said_fixed (request gs) = []

-- what stands in each group behind its type and length
abbrev pub said_contents : Said → List (List ℕ)
said_contents (bundle n g es) = map element_bytes es
said_contents (acknowledgement gs) = map acknowledged_bytes gs
said_contents (summary f d gs) = map described_bytes gs
said_contents (request gs) = map requested_bytes gs

-- a group: its type, its whole length, its content
abbrev pub framed : PacketType → List ℕ → List ℕ
framed t c = write16 (group_number_of t) (write16 (4 + length c) c)

-- a packet: type, whole length, version 1, newest, oldest, reserved, and what follows
abbrev pub headed : PacketType → ℕ → ℕ → List ℕ → List ℕ
headed t newest oldest part = write16 (number_of t) (write16 (8 + length part) (1 ∷ newest ∷ oldest ∷ 0 ∷ part))

abbrev pub encode : PacketView → List ℕ
encode p =
    headed (said_type p.said) p.newest p.oldest
    (said_fixed p.said ++ joined (map (framed (said_type p.said)) (said_contents p.said)))

pub record ElementFits (e : ElementView) : Type 0 where
  pub element_type : e.element_type < 2 ^ 16
  pub number : e.number < 2 ^ 32
  pub instance : length e.instance ≡ 8
  pub body : length e.body ≤ 256
  pub fours : length e.body % 4 ≡ 0

pub record EntryFits (a : Acknowledged) : Type 0 where
  pub number : a.number < 2 ^ 32
  pub instance : length a.instance ≡ 8

pub record DescriptionFits (d : Description) : Type 0 where
  pub element_type : d.element_type < 2 ^ 16
  pub number : d.number < 2 ^ 32
  pub instance : length d.instance ≡ 8

pub record AcknowledgedFits (g : AcknowledgedGroup) : Type 0 where
  pub node : length g.node ≡ 22
  pub entries : AllByRecursion EntryFits g.entries

pub record DescribedFits (g : DescribedGroup) : Type 0 where
  pub node : length g.node ≡ 22
  pub group : length g.group ≡ 14
  pub entries : AllByRecursion DescriptionFits g.entries

pub record RequestedFits (g : RequestedGroup) : Type 0 where
  pub node : length g.node ≡ 22
  pub numbers : AllByRecursion (λ n. n < 2 ^ 32) g.numbers

abbrev pub SaidFits : Said → Type 0
SaidFits (bundle n g es) = (length n ≡ 22) × ((length g ≡ 14) × AllByRecursion ElementFits es)
SaidFits (acknowledgement gs) = AllByRecursion AcknowledgedFits gs
SaidFits (summary f d gs) = (f < 2 ^ 16) × ((d < 2 ^ 32) × AllByRecursion DescribedFits gs)
SaidFits (request gs) = AllByRecursion RequestedFits gs

-- each field in the range of its layout, and the whole within a packet's length
pub record Fits (p : PacketView) : Type 0 where
  pub said : SaidFits p.said
  pub short : length (encode p) ≤ 2048
