-- A summary is accepted. Assumes nothing.
use Rattle.std.specs.Prelude.{ℕ, true, List, Some, None, Option}
use Rattle.kinds.specs.Kinds.{Operations}
use Rattle.packets.specs.Contents.{PacketView}
use Rattle.places.specs.declared.set.PlaceSet.{PlaceSet}
use Rattle.places.specs.PlaceSets.{no_places, with_place}
use Rattle.tables.specs.declared.element.Element.{Element}
use Rattle.lines.specs.declared.line.Line.{Line}
use Rattle.lines.specs.declared.line.Role.{Role}
use Rattle.lines.specs.declared.line.Role.TheVariants.{Master, Slave}
use Rattle.lines.specs.Progress.{accepted_with, with_each}
use Rattle.database.specs.Nodes.{World}
use Rattle.exchange.specs.Changes.{line_at, on_line}
use Rattle.exchange.specs.Namings.{Naming}
use Rattle.exchange.specs.Selections.{places_where}
use Rattle.exchange.specs.Summaries.{first_marked, own_summary}
use Rattle.exchange.specs.Wanting.{described_all}

-- every held place
abbrev pub all_held : List (Option Element) → PlaceSet
all_held places = with_each (places_where (λ p e. true) 0 places) no_places

-- a place that is held is put into a set
abbrev pub with_held : ℕ → Option Element → PlaceSet → PlaceSet
with_held p None s = s
with_held p (Some e) s = with_place s p

-- the line once the descriptions have counted; a slave's next summary takes the first 32 places that are to be told
abbrev pub accepted_on : List (Option Element) → ℕ → ℕ → Line → Line
accepted_on places flags ds l = accepted_with (first_marked l.to_tell places) flags ds l

-- a summary that is accepted: its descriptions in order, then the line
abbrev pub accepted : {I : Type 0} → Operations I → ℕ → ℕ → ℕ → List (Naming I) → World I → World I
accepted ops i flags ds ms w = on_line i (accepted_on w.node.places flags ds) (described_all ops i ms w)

-- a master replies nothing
abbrev pub reply_as : {I : Type 0} → Role → Operations I → ℕ → World I → Option PacketView
reply_as Master ops i w = None
reply_as Slave ops i w = Some (own_summary ops i w)

-- the slave replies with its present summary
abbrev pub summary_reply : {I : Type 0} → Operations I → ℕ → World I → Option PacketView
summary_reply ops i w = reply_as (line_at w.node i).role ops i w
