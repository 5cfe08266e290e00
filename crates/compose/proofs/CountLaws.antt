-- A bundle that was read has at most 100 elements, so its acknowledgement meets the guard. Assumes nothing.
use Rattle.std.proofs.Common.{◌≡◌, ℕ, zero, suc, ◌+◌, ◌*◌, ◌≤◌, Bool, true, false, cond, eqb, ltb, List, [], ◌∷◌, length, take, drop, Some, None, Ok, Err, Option, Result, refl, ap, ◌∙◌, arith, length-drop}
use Rattle.std.proofs.lemmas.List.{length-map}
use Rattle.std.proofs.lemmas.Bool.{and_from, le-leb, ltb-false}
use Rattle.kinds.specs.Kinds.{Operations}
use Rattle.packets.specs.declared.acknowledgement.Acknowledged.{Acknowledged}
use Rattle.packets.specs.declared.group.GroupFault.{GroupFault}
use Rattle.packets.specs.declared.group.Misfit.{Misfit}
use Rattle.packets.specs.declared.header.Header.{Header}
use Rattle.packets.specs.declared.header.HeaderFault.{HeaderFault}
use Rattle.packets.specs.declared.layout.PacketType.{PacketType}
use Rattle.packets.specs.declared.layout.PacketType.TheVariants as type
use Rattle.packets.specs.declared.packet.Fault.{Fault}
use Rattle.packets.specs.Bundles.{ElementView, element_at}
use Rattle.packets.specs.Contents.{PacketView, Raw, Said, bundle_part, checked, decode, decode_header, decode_part, groups_of, part_of, said, summary_part}
use Rattle.packets.specs.Contents.Raw.{bundle as raw_bundle, acknowledgement as raw_acknowledgement, summary as raw_summary, request as raw_request}
use Rattle.packets.specs.Contents.Said.{bundle, acknowledgement, summary, request}
use Rattle.packets.specs.Groups.{Split, before_misfit, contents, first_fault, split_group}
use Rattle.packets.specs.Headers.{header_of}
use Rattle.packets.specs.Summaries.{SummaryView, summary_of}
use Rattle.packets.proofs.GroupLaws.{fixed_least, past_fault, split_facts}
use Rattle.database.specs.Nodes.{World}
use Rattle.exchange.specs.Arrivals.{acknowledged_of, acknowledgement_of, arrival_of, arrived, is_acknowledged, verdict_on}
use Rattle.compose.specs.Composed.{few_entries}

-- each group takes 20 bytes or more
contents_few : (k : ℕ) (t : PacketType) (bs : List ℕ) → length (contents k t bs) * 20 ≤ length bs
unfolding contents
contents_few zero t bs = omega arith
contents_few (suc k) t bs = either (eqb (length bs) 0) (before_misfit (contents k t) (split_group t bs)) (first (split_group t bs) refl (contents_few k t))
  where
    either : (b : Bool) (cs : List (List ℕ)) → length cs * 20 ≤ length bs → length (cond b [] cs) * 20 ≤ length bs
    either true cs h = omega arith
    either false cs h = h

    first : (r : Result Split GroupFault) → r ≡ split_group t bs → ((rest : List ℕ) → length (contents k t rest) * 20 ≤ length rest) → length (before_misfit (contents k t) r) * 20 ≤ length bs
    first (Err f) e rest = omega arith
    first (Ok s) e rest =
        let f = split_facts t bs s e in
        let least = fixed_least t in
        let h = rest s.rest in
        let l = ap length f.rest ∙ length-drop _ bs in
        omega (arith, f.least, f.most)

-- the elements of a packet
abbrev elements : Said → ℕ
elements (bundle n g es) = length es
elements (acknowledgement gs) = 0
elements (summary f d gs) = 0
elements (request gs) = 0

-- what a bundle takes behind its header
abbrev taken : Option Raw → ℕ
taken None = 0
taken (Some (raw_bundle n g bs)) = 36 + length bs
taken (Some (raw_acknowledgement bs)) = 0
taken (Some (raw_summary f d bs)) = 0
taken (Some (raw_request bs)) = 0

taken_most : (t : PacketType) (part : List ℕ) → taken (part_of t part) ≤ length part
taken_most type.Bundle part = by (ltb (length part) 36) refl
  where
    by : (b : Bool) → ltb (length part) 36 ≡ b → taken (bundle_part (cond b None (Some (record { node = take 22 part; group = take 14 (drop 22 part); groups = drop 14 (drop 22 part) })))) ≤ length part
    by true e = omega arith
    by false e = let h = ltb-false _ _ e in omega (arith, length-drop 14 (drop 22 part), length-drop 22 part)
taken_most type.Acknowledgement part = omega arith
taken_most type.Summary part = by (summary_of part)
  where
    by : (s : Option SummaryView) → taken (summary_part s) ≤ length part
    by None = omega arith
    by (Some s) = omega arith
taken_most type.Request part = omega arith

raw_few : (r : Raw) → taken (Some r) ≤ 2040 → elements (said r) ≤ 100
raw_few (raw_bundle n g bs) le =
    omega (arith, length-map (contents (length bs) type.Bundle bs) element_at, contents_few (length bs) type.Bundle bs)
raw_few (raw_acknowledgement bs) le = omega arith
raw_few (raw_summary f d bs) le = omega arith
raw_few (raw_request bs) le = omega arith

-- the elements of what was read
abbrev elements_read : Result PacketView Fault → ℕ
elements_read (Ok v) = elements v.said
elements_read (Err f) = 0

header_most : (bs : List ℕ) (h : Header) → Ok h ≡ header_of bs → length bs ≤ 2048
header_most bs h e =
    let a = past_fault _ _ _ _ e in
    let b = past_fault _ _ _ _ a.1 in
    ltb-false _ _ b.0

read_few : (bs : List ℕ) → elements_read (decode bs) ≤ 100
read_few bs = by_header (header_of bs) refl
  where
    by_fault : (h : Header) (r : Raw) (m : Option Misfit) → elements (said r) ≤ 100 → elements_read (checked (length bs) h r m) ≤ 100
    by_fault h r None le = le
    by_fault h r (Some m) le = omega arith

    by_part : (h : Header) (p : Option Raw) → taken p ≤ 2040 → elements_read (decode_part (length bs) h p) ≤ 100
    by_part h None le = omega arith
    by_part h (Some r) le = by_fault h r (first_fault (length (groups_of r)) h.packet_type (groups_of r)) (raw_few r le)

    by_header : (h : Result Header HeaderFault) → h ≡ header_of bs → elements_read (decode_header bs h) ≤ 100
    by_header (Err f) e = omega arith
    by_header (Ok h) e =
        let most = header_most bs h e in
        let t = taken_most h.packet_type (drop 8 bs) in
        by_part h (part_of h.packet_type (drop 8 bs)) (omega (arith, length-drop 8 bs))

module _ {I : Type 0} (ops : Operations I) (i : ℕ) (node group : List ℕ) where
  -- no more is acknowledged than arrived
  acknowledged_few : (es : List ElementView) (w : World I) → length (acknowledged_of ops i node group es w) ≤ length es
  acknowledged_few [] w = omega arith
  acknowledged_few (e ∷ es) w =
      let rest = acknowledged_of ops i node group es (arrived ops i (arrival_of ops node group e) w) in
      let h = acknowledged_few es (arrived ops i (arrival_of ops node group e) w) in
      either (is_acknowledged (verdict_on ops (arrival_of ops node group e) w)) rest h
    where
      either : (b : Bool) (rest : List Acknowledged) → length rest ≤ length es → length (cond b (acknowledgement_of e ∷ rest) rest) ≤ length (e ∷ es)
      either true rest h = omega arith
      either false rest h = omega arith

  -- what is acknowledged of a bundle that was read
  pub acknowledged_fits : (bs : List ℕ) (v : PacketView) (es : List ElementView) (w : World I) (buffer : List ℕ) → Ok v ≡ decode bs → v.said ≡ bundle node group es → 2048 ≤ length buffer → few_entries (acknowledged_of ops i node group es w) buffer ≡ true
  acknowledged_fits bs v es w buffer e s le =
      let n : length es ≤ 100 = omega (arith, read_few bs, ap elements_read e, ap elements s) in
      and_from _ _ (le-leb _ 100 (omega (arith, acknowledged_few es w))) (le-leb 2048 _ le)
