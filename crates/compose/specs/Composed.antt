-- Our own packets as they are written: what each says, and when it is written. Assumes nothing.
use Rattle.std.specs.Prelude.{ℕ, ◌+◌, Bool, cond, ◌&&◌, List, [], ◌∷◌, length, Some, None, Option, nat_le}
use Rattle.kinds.specs.Kinds.{Operations}
use Rattle.packets.specs.declared.acknowledgement.Acknowledged.{Acknowledged}
use Rattle.packets.specs.declared.ids.NodeId.{NodeId}
use Rattle.packets.specs.declared.ids.PeerGroupId.{PeerGroupId}
use Rattle.packets.specs.Contents.{PacketView}
use Rattle.packets.specs.Contents.Said.{bundle, acknowledgement, summary, request}
use Rattle.packets.specs.Encodings.{encode}
use Rattle.places.specs.declared.store.BodyStore.{BodyStore}
use Rattle.places.specs.BodyStores.{body_at}
use Rattle.tables.specs.declared.element.Element.{Element}
use Rattle.tables.specs.declared.want.Want.{Want}
use Rattle.writer.specs.Writers.{pasted}
use Rattle.exchange.specs.Bundling.{element_out}
use Rattle.exchange.specs.Handing.{requested}
use Rattle.exchange.specs.Selections.{groups_at}
use Rattle.exchange.specs.Summaries.{description_of, packet}

-- the length of what is written, none where the guard fails
abbrev pub composed_length : Bool → PacketView → Option ℕ
composed_length fits content = cond fits (Some (length (encode content))) None

-- a packet over the first bytes of a buffer, which stays where the guard fails
abbrev pub composed : Bool → PacketView → List ℕ → List ℕ
composed fits content buffer = cond fits (pasted 0 (encode content) buffer) buffer

-- the guard of a summary and a request: at most 32 places, and a buffer for the longest packet
abbrev pub few : List ℕ → List ℕ → Bool
few places buffer = nat_le (length places) 32 && nat_le 2048 (length buffer)

-- what some places take, by what each takes at most
abbrev pub needed : (ℕ → ℕ) → List ℕ → ℕ
needed most [] = 0
needed most (p ∷ ps) = most p + needed most ps

-- the length of an element's group
abbrev pub element_long : BodyStore → ℕ → ℕ
element_long bodies p = 20 + length (body_at bodies p)

-- the guard of a bundle: its places, were all held, pass no packet's length, and a buffer for the longest packet
abbrev pub short : BodyStore → List ℕ → List ℕ → Bool
short bodies places buffer = nat_le (44 + needed (element_long bodies) places) 2048 && nat_le 2048 (length buffer)

-- the guard of an acknowledgement: at most as many entries as a bundle has elements, and a buffer for the longest packet
abbrev pub few_entries : List Acknowledged → List ℕ → Bool
few_entries entries buffer = nat_le (length entries) 100 && nat_le 2048 (length buffer)

abbrev pub request_content : List (Option Want) → List ℕ → PacketView
request_content wants chosen = packet (request (groups_at requested wants chosen))

abbrev pub acknowledgement_content : NodeId → List Acknowledged → PacketView
acknowledgement_content node entries = packet (acknowledgement (record { node = node.bytes; entries = entries } ∷ []))

module _ {I : Type 0} (ops : Operations I) where
  abbrev pub summary_content : ℕ → ℕ → List (Option Element) → List I → List ℕ → PacketView
  summary_content flags ds places xs told = packet (summary flags ds (groups_at (description_of ops xs) places told))

  abbrev pub bundle_content : List (Option Element) → BodyStore → List I → NodeId → PeerGroupId → List ℕ → PacketView
  bundle_content places bodies xs node group chosen =
      packet (bundle node.bytes group.bytes (groups_at (element_out ops xs bodies) places chosen))
