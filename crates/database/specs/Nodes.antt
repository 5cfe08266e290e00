-- The node's record and the rows that the calls are lent. Assumes nothing.
use Rattle.std.specs.Prelude.{◌≡◌, ℕ, true, List, replicate, None, Option, slice_index_or}
use Rattle.packets.specs.declared.ids.Name.{Name}
use Rattle.packets.specs.declared.ids.NodeId.{NodeId}
use Rattle.packets.specs.declared.ids.PeerGroupId.{PeerGroupId}
use Rattle.places.specs.declared.store.BodyStore.{BodyStore}
use Rattle.places.specs.BodyStores.{no_bodies}
use Rattle.places.specs.PlaceSets.{no_places}
use Rattle.places.specs.SendCounts.{sent_count}
use Rattle.tables.specs.declared.element.Element.{Element}
use Rattle.lines.specs.declared.line.Line.{Line}
use Rattle.lines.specs.declared.line.Role.TheVariants.{Master}
use Rattle.lines.specs.declared.line.State.TheVariants.{Down}
use Rattle.database.specs.declared.node.Node.{Node}
use Rattle.tables.specs.declared.want.Want.{Want}
use Rattle.lines.specs.Lines.{initial_summary}
use Rattle.tables.specs.Searches.{is_named}

-- a node, and the instances of its elements and wants
pub record World (I : Type 0) : Type 0 where
  pub node : Node
  pub elements : List I
  pub wants : List I

abbrev pub world : {I : Type 0} → Node → List I → List I → World I
world n xs ws = record { node = n; elements = xs; wants = ws }

abbrev pub with_places : Node → List (Option Element) → BodyStore → Node
with_places n places bodies = record { id = n.id; group = n.group; places = places; bodies = bodies; wants = n.wants; lines = n.lines }

abbrev pub with_lines : Node → List (Option Want) → List Line → Node
with_lines n wants lines = record { id = n.id; group = n.group; places = n.places; bodies = n.bodies; wants = wants; lines = lines }

abbrev pub element_at : Node → ℕ → Option Element
element_at n p = slice_index_or n.places p None

-- a line that was never up
abbrev pub idle_line : Line
idle_line = record {
  state = Down;
  neighbour = record { bytes = replicate 22 0 };
  ds_number = 0;
  role = Master;
  accepted = None;
  summary = initial_summary;
  owed = no_places;
  counts = replicate 64 sent_count;
  to_tell = no_places;
  told = no_places;
}

-- all places free, all lines down
unfoldable pub started : NodeId → PeerGroupId → Node
started id group = record {
  id = id;
  group = group;
  places = replicate 64 None;
  bodies = no_bodies;
  wants = replicate 64 None;
  lines = replicate 8 idle_line;
}

-- no name is held at two places
abbrev pub OnePlace : Node → Type 0
OnePlace n = (p q : ℕ) (name : Name) → is_named name (element_at n p) ≡ true → is_named name (element_at n q) ≡ true → p ≡ q
