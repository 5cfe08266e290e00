-- Which owed elements go into one bundle. Assumes nothing.
use Rattle.std.specs.Prelude.{ℕ, ◌+◌, Bool, cond, ◌&&◌, List, [], ◌∷◌, length, Option, nat_le, slice_index_or}
use Rattle.std.specs.Str.{bytes_eq}
use Rattle.kinds.specs.Kinds.{Operations}
use Rattle.kinds.specs.Recency.{instance_at}
use Rattle.packets.specs.Bundles.{ElementView}
use Rattle.packets.specs.Ids.{same_node}
use Rattle.places.specs.declared.store.BodyStore.{BodyStore}
use Rattle.places.specs.BodyStores.{body_at}
use Rattle.places.specs.PlaceSets.{has}
use Rattle.places.specs.SendCounts.{due, sent_count}
use Rattle.tables.specs.declared.element.Element.{Element}
use Rattle.lines.specs.declared.line.Line.{Line}
use Rattle.database.specs.declared.node.Node.{Node}
use Rattle.lines.specs.Lines.{resend_limit}
use Rattle.exchange.specs.Selections.{places_where}

-- owed on the line, and due
abbrev pub due_owed : Line → ℕ → Bool
due_owed l p = has l.owed p && due (slice_index_or l.counts p sent_count) resend_limit

-- the elements that are owed on the line and due, in place order
abbrev pub due_places : Line → List (Option Element) → List ℕ
due_places l places = places_where (λ p e. due_owed l p) 0 places

-- of one node ID and one peer group ID
abbrev pub goes_with : Element → Element → Bool
goes_with e f = same_node e.name.node f.name.node && bytes_eq e.group.bytes f.group.bytes

-- the length of a packet with the element of a place added
abbrev pub longer_by : BodyStore → ℕ → ℕ → ℕ
longer_by bodies p len = len + (20 + length (body_at bodies p))

-- in order, up to the first that does not fit behind a packet of this length
abbrev pub fitting : BodyStore → ℕ → List ℕ → List ℕ
fitting bodies len [] = []
fitting bodies len (p ∷ ps) = cond (nat_le (longer_by bodies p len) 2048) (p ∷ fitting bodies (longer_by bodies p len) ps) []

-- the places of a bundle of this element's node ID and peer group ID
abbrev pub bundle_places : Node → Line → Element → List ℕ
bundle_places n l e = fitting n.bodies 44 (places_where (λ p f. due_owed l p && goes_with e f) 0 n.places)

-- an element as held, its instance as it stands in the row
abbrev pub element_out : {I : Type 0} → Operations I → List I → BodyStore → ℕ → Element → ElementView
element_out ops xs bodies p e = record {
  element_type = e.element_type;
  number = e.name.number;
  instance = ops.write (instance_at ops xs p);
  body = body_at bodies p;
}
