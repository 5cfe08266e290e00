-- Our own summaries. Assumes nothing.
use Rattle.std.specs.Prelude.{ℕ, Bool, true, false, List, [], ◌∷◌, Option}
use Rattle.kinds.specs.Kinds.{Operations}
use Rattle.kinds.specs.Recency.{instance_at}
use Rattle.packets.specs.Contents.{DescribedGroup, Said, PacketView}
use Rattle.packets.specs.Contents.Said.{summary}
use Rattle.places.specs.declared.set.PlaceSet.{PlaceSet}
use Rattle.places.specs.PlaceSets.{has}
use Rattle.tables.specs.declared.element.Element.{Element}
use Rattle.lines.specs.declared.line.Line.{Line}
use Rattle.lines.specs.declared.line.Role.{Role}
use Rattle.lines.specs.declared.line.Role.TheVariants.{Master, Slave}
use Rattle.lines.specs.declared.line.State.{State}
use Rattle.lines.specs.declared.line.State.TheVariants.{Down, Negotiating, Exchanging, Loading, Full}
use Rattle.lines.specs.Progress.{taking}
use Rattle.database.specs.Nodes.{World}
use Rattle.exchange.specs.Changes.{line_at}
use Rattle.exchange.specs.Selections.{first_places, groups_at}

-- a packet of ours has newest and oldest version 1
abbrev pub packet : Said → PacketView
packet said = record { newest = 1; oldest = 1; said = said }

-- the flags of a summary past negotiation, by role and More
abbrev pub own_flags : Role → Bool → ℕ
own_flags Master true = 24576
own_flags Master false = 8192
own_flags Slave true = 16384
own_flags Slave false = 0

-- the first 32 held places with a mark, in place order
abbrev pub first_marked : PlaceSet → List (Option Element) → List ℕ
first_marked marks places = first_places (λ p e. has marks p) places

-- an element as a group of our summary describes it, its instance as it now stands in the row
abbrev pub description_of : {I : Type 0} → Operations I → List I → ℕ → Element → DescribedGroup
description_of ops xs p e = record {
  node = e.name.node.bytes;
  group = e.group.bytes;
  entries = record { element_type = e.element_type; number = e.name.number; instance = ops.write (instance_at ops xs p) } ∷ [];
}

-- all three flags and no groups
abbrev pub initial : Line → PacketView
initial l = packet (summary 57344 l.ds_number [])

-- the elements that our present summary still tells, a group for each
abbrev pub telling : {I : Type 0} → Operations I → List (Option Element) → List I → Line → PacketView
telling ops places xs l =
    packet (summary (own_flags l.role l.summary.more) l.ds_number
    (groups_at (description_of ops xs) places (first_marked l.told places)))

-- the initial summary until negotiation ends
abbrev pub summary_in : {I : Type 0} → State → Operations I → List (Option Element) → List I → Line → PacketView
summary_in Down ops places xs l = initial l
summary_in Negotiating ops places xs l = initial l
summary_in Exchanging ops places xs l = telling ops places xs l
summary_in Loading ops places xs l = telling ops places xs l
summary_in Full ops places xs l = telling ops places xs l

-- our present summary on a line, as written now
abbrev pub own_summary : {I : Type 0} → Operations I → ℕ → World I → PacketView
own_summary ops i w = summary_in (line_at w.node i).state ops w.node.places w.elements (line_at w.node i)

-- the first writing takes the first 32 places that are to be told
abbrev pub first_written : List (Option Element) → Line → Line
first_written places l = taking (first_marked l.to_tell places) l
