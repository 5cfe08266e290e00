-- A fault that is reported is there. Assumes nothing.
use Rattle.std.proofs.Common.{◌≡◌, ℕ, zero, suc, ◌+◌, ◌-◌, ◌<◌, ◌≤◌, cond, ltb, ◌⊎◌, List, length, get_or, drop, IfErr, Some, None, Ok, Err, Option, Result, sym, refl, ap, ◌∙◌, subst, inl, inr, arith}
use Rattle.std.proofs.lemmas.List.{length-drop, drop-drop}
use Rattle.std.proofs.lemmas.Bool.{ltb-true, ltb-false, eqb-true, eqb-false, cond_both}
use Rattle.kinds.specs.BigEndian.{at16}
use Rattle.packets.specs.declared.group.GroupFault.{GroupFault}
use Rattle.packets.specs.declared.group.Misfit.{Misfit}
use Rattle.packets.specs.declared.header.Header.{Header}
use Rattle.packets.specs.declared.header.HeaderFault.{HeaderFault}
use Rattle.packets.specs.declared.layout.PacketType.{PacketType}
use Rattle.packets.specs.declared.layout.PacketType.TheVariants as type
use Rattle.packets.specs.declared.packet.Fault.{Fault}
use Rattle.packets.specs.declared.packet.Packet.{Packet}
use Rattle.packets.specs.Contents.{Raw, groups_of, bundle_part, summary_part, part_of, checked, decode_part, decode_header, decode, viewed_packet}
use Rattle.packets.specs.Groups.{Split, split_group, after_group, first_fault}
use Rattle.packets.specs.Headers.{typed_header, header_of}
use Rattle.packets.specs.Layouts.{number_of, type_of}
use Rattle.packets.proofs.GroupLaws.{split_facts}
use Rattle.codec.specs.Reports.{Whole, HeaderReported, Reported}
use Rattle.codec.proofs.ClearedLaws.{type_number}

-- what is known of a packet whose header was read as one of a type
record Headed (bs : List ℕ) (t : PacketType) : Type 0 where
  whole : Whole bs
  version : get_or bs 4 0 ≡ 1
  of_type : type_of (at16 bs 0) ≡ Some t

-- what the answer to a header says of the bytes
abbrev HeaderTold : List ℕ → Result Header HeaderFault → Type 0
HeaderTold bs (Ok h) = Headed bs h.packet_type
HeaderTold bs (Err f) = HeaderReported bs f

-- an unknown type is refused
type_told : (bs : List ℕ) (o : Option PacketType) → type_of (at16 bs 0) ≡ o → Whole bs → get_or bs 4 0 ≡ 1 → HeaderTold bs (typed_header bs o)
type_told bs None e whole version = (whole, (version, e))
type_told bs (Some t) e whole version = record { whole = whole; version = version; of_type = e }

-- a header is refused for what its fault says, or read as one of a type
header_told : (bs : List ℕ) → HeaderTold bs (header_of bs)
header_told bs =
    let P = HeaderTold bs in
    cond_both _ _ _ P (λ e. ltb-true (length bs) 8 e)
    (λ short. let least = ltb-false (length bs) 8 short in
    cond_both _ _ _ P (λ e. ltb-true 2048 (length bs) e)
    (λ long. let most = ltb-false 2048 (length bs) long in
    cond_both _ _ _ P
    (λ same. let whole : Whole bs = (least, (most, eqb-true _ _ same)) in
    cond_both _ _ _ P (λ e. type_told bs _ refl whole (eqb-true _ _ e)) (λ e. (whole, eqb-false _ _ e)))
    (λ e. (least, (most, eqb-false _ _ e)))))

-- the part behind the header is cut, or ends in groups
abbrev PartTold : List ℕ → PacketType → Option Raw → Type 0
PartTold bs t None = ((number_of t ≡ 2) × (length bs < 44)) ⊎ ((number_of t ≡ 4) × (length bs < 16))
PartTold bs t (Some r) = (n : ℕ) × (n ≤ length bs) × (groups_of r ≡ drop n bs)

-- fixed fields behind the header, of some size
fixed_told : {X : Type 0} (P : Option X → Type 0) (size : ℕ) (bs : List ℕ) (x : X) → 8 ≤ length bs → (length bs < 8 + size → P None) → (8 + size ≤ length bs → P (Some x)) → P (cond (ltb (length (drop 8 bs)) size) None (Some x))
fixed_told P size bs x le cut long =
    let l = length-drop 8 bs in
    cond_both _ _ _ P (λ e. cut (omega (arith, ltb-true _ _ e))) (λ e. long (omega (arith, ltb-false _ _ e)))

part_told : (bs : List ℕ) (t : PacketType) → 8 ≤ length bs → PartTold bs t (part_of t (drop 8 bs))
part_told bs type.Bundle le =
    fixed_told (λ o. PartTold bs type.Bundle (bundle_part o)) 36 bs _ le (λ cut. inl (refl, cut))
    (λ long. (44, long, drop-drop 14 22 (drop 8 bs) ∙ drop-drop 36 8 bs))
part_told bs type.Acknowledgement le = (8, le, refl)
part_told bs type.Summary le =
    fixed_told (λ o. PartTold bs type.Summary (summary_part o)) 8 bs _ le (λ cut. inr (refl, cut)) (λ long. (16, long, drop-drop 8 8 bs))
part_told bs type.Request le = (8, le, refl)

-- a misfit is the fault of the group that begins where so many bytes are left
abbrev Placed : PacketType → List ℕ → Option Misfit → Type 0
Placed t bs None = Unit {0}
Placed t bs (Some m) = (j : ℕ) × (j + m.left ≡ length bs) × (0 < m.left) × (split_group t (drop j bs) ≡ Err m.fault)

module _ (t : PacketType) where
  -- the same group, seen from further back
  placed_behind : (n : ℕ) (bs gs : List ℕ) → n ≤ length bs → gs ≡ drop n bs → (o : Option Misfit) → Placed t gs o → Placed t bs o
  placed_behind n bs gs le e None p = tt
  placed_behind n bs gs le e (Some m) p =
      let l : length gs ≡ length bs - n = ap length e ∙ length-drop n bs in
      let d : drop p.0 gs ≡ drop (n + p.0) bs = ap (drop p.0) e ∙ drop-drop p.0 n bs in
      (n + p.0, omega (arith, p.1, p.2), p.2, ap (split_group t) (sym d) ∙ p.3)

  -- the misfit of this group, or one behind it
  placed_after : (go : List ℕ → Option Misfit) → ((gs : List ℕ) → Placed t gs (go gs)) → (bs : List ℕ) (o : Result Split GroupFault) → o ≡ split_group t bs → 0 < length bs → Placed t bs (after_group go bs o)
  placed_after go each bs (Ok s) e lt = let f = split_facts t bs s e in placed_behind (at16 bs 2) bs s.rest f.most f.rest (go s.rest) (each s.rest)
  placed_after go each bs (Err f) e lt = (0, omega arith, lt, sym e)

  placed : (k : ℕ) (bs : List ℕ) → Placed t bs (first_fault k t bs)
  unfolding first_fault
  placed zero bs = tt
  placed (suc k) bs =
      cond_both _ _ _ (Placed t bs) (λ e. tt)
      (λ e. let n = eqb-false (length bs) 0 e in placed_after (first_fault k t) (placed k) bs (split_group t bs) refl (omega arith))

module _ (bs : List ℕ) (h : Header) (k : Headed bs h.packet_type) where
  -- a packet's answer reports its first misfit, and a part that is cut
  misfit_reported : (r : Raw) (o : Option Misfit) → Placed h.packet_type bs o → IfErr (checked (length bs) h r o) (Reported bs)
  misfit_reported r None p = tt
  misfit_reported r (Some m) p =
      let e : p.0 ≡ length bs - m.left = omega (arith, p.1) in
      (k.whole, (omega (arith, p.1, p.2), (h.packet_type, (k.of_type, ap (λ j. split_group h.packet_type (drop j bs)) (sym e) ∙ p.3))))

  part_reported : (o : Option Raw) → PartTold bs h.packet_type o → IfErr (decode_part (length bs) h o) (Reported bs)
  part_reported None p =
      let n = type_number (at16 bs 0) h.packet_type k.of_type in
      (k.whole, (k.version, elim p [ inl q ↦ inl (sym n ∙ q.0, q.1) | inr q ↦ inr (sym n ∙ q.0, q.1) ]))
  part_reported (Some r) p =
      let gs = groups_of r in
      misfit_reported r _ (placed_behind h.packet_type p.0 bs gs p.1 p.2 _ (placed h.packet_type (length gs) gs))

-- from the header's answer to the packet's
header_reported : (bs : List ℕ) (o : Result Header HeaderFault) → HeaderTold bs o → IfErr (decode_header bs o) (Reported bs)
header_reported bs (Ok h) k = part_reported bs h k _ (part_told bs h.packet_type k.whole.0)
header_reported bs (Err f) p = p

-- What is said of a fault holds where reading gives it.
pub faults_reported : (bs : List ℕ) (f : Fault) → Err f ≡ decode bs → Reported bs f
faults_reported bs f e = subst (λ r. IfErr r (Reported bs)) (sym e) (header_reported bs (header_of bs) (header_told bs))

-- the same of what the code answers
pub reported : (bs : List ℕ) (r : Result Packet Fault) → viewed_packet r ≡ decode bs → IfErr r (Reported bs)
reported bs (Ok p) e = tt
reported bs (Err f) e = faults_reported bs f e
