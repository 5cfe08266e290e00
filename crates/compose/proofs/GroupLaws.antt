-- The bytes of a group and the parts of a packet, from what the steps were given. Assumes nothing.
use Rattle.std.proofs.Common.{◌≡◌, ℕ, List, [], ◌∷◌, ◌++◌, map, length, Option, sym, ap, ◌∙◌}
use Rattle.std.proofs.lemmas.List.{append_assoc, append-nil}
use Rattle.kinds.specs.Kinds.{Operations}
use Rattle.kinds.specs.BigEndian.{write16, write32}
use Rattle.packets.specs.declared.acknowledgement.Acknowledged.{Acknowledged}
use Rattle.packets.specs.declared.ids.NodeId.{NodeId}
use Rattle.packets.specs.declared.ids.PeerGroupId.{PeerGroupId}
use Rattle.packets.specs.declared.layout.PacketType.{PacketType}
use Rattle.packets.specs.declared.layout.PacketType.TheVariants as type
use Rattle.packets.specs.Encodings.{described_bytes, element_bytes, encode, entry_bytes, framed, headed, joined, requested_bytes}
use Rattle.kinds.specs.Recency.{instance_at}
use Rattle.places.specs.declared.store.BodyStore.{BodyStore}
use Rattle.places.specs.BodyStores.{body_at}
use Rattle.tables.specs.declared.element.Element.{Element}
use Rattle.tables.specs.declared.want.Want.{Want}
use Rattle.exchange.specs.Bundling.{element_out}
use Rattle.exchange.specs.Handing.{requested}
use Rattle.exchange.specs.Summaries.{description_of}
use Rattle.compose.specs.Composed.{acknowledgement_content, bundle_content, request_content, summary_content}
use Rattle.compose.specs.Framed.{acknowledgement_group, described_group, description_group, element_group, groups_bytes, request_group}
use Rattle.compose.proofs.ComposeLaws.{groups_framed}

-- a group of a summary, with its one entry behind the rest
pub entry_behind : (t : PacketType) (a b c ds : List ℕ) → framed t ((a ++ (b ++ c)) ++ ds) ≡ framed t (a ++ (b ++ (c ++ ds)))
entry_behind t a b c ds = ap (framed t) (append_assoc a (b ++ c) ds ∙ ap (λ ys. a ++ ys) (append_assoc b c ds))

-- the group of an acknowledgement
pub acknowledged_bytes_are : (node : NodeId) (entries : List Acknowledged) (ws : List ℕ) → ws ≡ write16 (length entries) [] → framed type.Acknowledgement ((node.bytes ++ (ws ++ [])) ++ joined (map entry_bytes entries)) ≡ acknowledgement_group node entries
acknowledged_bytes_are node entries ws e =
    ap (framed type.Acknowledgement)
    (append_assoc node.bytes (ws ++ []) (joined (map entry_bytes entries))
    ∙ ap (λ ys. node.bytes ++ ((ys ++ []) ++ joined (map entry_bytes entries))) e)

-- the group of a summary, from the head of its one description
pub description_bytes_are : (e : Element) (instance head : List ℕ) → head ≡ write16 e.element_type (0 ∷ 0 ∷ write32 e.name.number []) → framed type.Summary (e.name.node.bytes ++ (e.group.bytes ++ (0 ∷ 0 ∷ 0 ∷ 1 ∷ (head ++ instance)))) ≡ described_group e instance
description_bytes_are e instance head h =
    ap (λ hs. framed type.Summary (e.name.node.bytes ++ (e.group.bytes ++ (0 ∷ 0 ∷ 0 ∷ 1 ∷ (hs ++ instance))))) h
    ∙ ap (λ xs. framed type.Summary (e.name.node.bytes ++ (e.group.bytes ++ (0 ∷ 0 ∷ 0 ∷ 1 ∷ write16 e.element_type (0 ∷ 0 ∷ write32 e.name.number xs))))) (sym (append-nil instance))

-- an element's group, from its head
pub element_bytes_are : {I : Type 0} (ops : Operations I) (xs : List I) (bodies : BodyStore) (p : ℕ) (e : Element) (head instance body : List ℕ) → head ≡ write16 e.element_type (0 ∷ 0 ∷ write32 e.name.number []) → instance ≡ ops.write (instance_at ops xs p) → body ≡ body_at bodies p → framed type.Bundle (head ++ (instance ++ body)) ≡ element_group ops xs bodies p e
element_bytes_are ops xs bodies p e head instance body h i b =
    ap (λ hs. framed type.Bundle (hs ++ (instance ++ body))) h
    ∙ ap (λ ys. framed type.Bundle (write16 e.element_type (0 ∷ 0 ∷ write32 e.name.number (ys ++ body)))) i
    ∙ ap (λ bs. framed type.Bundle (write16 e.element_type (0 ∷ 0 ∷ write32 e.name.number (ops.write (instance_at ops xs p) ++ bs)))) b

-- a request is its header and its groups
pub request_parts : (wants : List (Option Want)) (chosen : List ℕ) → encode (request_content wants chosen) ≡ headed type.Request 1 1 (groups_bytes request_group wants chosen)
request_parts wants chosen = ap (headed type.Request 1 1) (groups_framed type.Request requested_bytes requested wants chosen)

-- an acknowledgement is its header and its group
pub acknowledgement_parts : (node : NodeId) (entries : List Acknowledged) → encode (acknowledgement_content node entries) ≡ headed type.Acknowledgement 1 1 (acknowledgement_group node entries)
acknowledgement_parts node entries = ap (headed type.Acknowledgement 1 1) (append-nil (acknowledgement_group node entries))

module _ {I : Type 0} (ops : Operations I) (places : List (Option Element)) (xs : List I) where
  -- a summary is its header, flags and number, and its groups
  pub summary_parts : (flags ds : ℕ) (told head : List ℕ) → head ≡ write16 flags (0 ∷ 0 ∷ write32 ds []) → encode (summary_content ops flags ds places xs told) ≡ headed type.Summary 1 1 ((head ++ []) ++ groups_bytes (description_group ops xs) places told)
  summary_parts flags ds told head e =
      ap (λ ys. headed type.Summary 1 1 (write16 flags (0 ∷ 0 ∷ write32 ds []) ++ ys)) (groups_framed type.Summary described_bytes (description_of ops xs) places told)
      ∙ ap (λ ys. headed type.Summary 1 1 ((ys ++ []) ++ groups_bytes (description_group ops xs) places told)) (sym e)

  -- a bundle is its header, both IDs, and its groups
  pub bundle_parts : (bodies : BodyStore) (node : NodeId) (group : PeerGroupId) (chosen : List ℕ) → encode (bundle_content ops places bodies xs node group chosen) ≡ headed type.Bundle 1 1 ((node.bytes ++ group.bytes) ++ groups_bytes (element_group ops xs bodies) places chosen)
  bundle_parts bodies node group chosen =
      ap (λ ys. headed type.Bundle 1 1 ((node.bytes ++ group.bytes) ++ ys)) (groups_framed type.Bundle element_bytes (element_out ops xs bodies) places chosen)
