-- What was written is read back. Assumes nothing.
use Rattle.std.proofs.Common.{◌≡◌, ℕ, ◌+◌, ◌*◌, ◌/◌, ◌%◌, ◌^◌, ◌<◌, ◌≤◌, cond, not, ◌||◌, eqb, ltb, List, [], ◌∷◌, ◌++◌, map, length, get_or, take, drop, Some, None, Ok, Option, Result, sym, refl, ap, ◌∙◌, append_assoc, arith, length-append}
use Rattle.std.proofs.lemmas.List.{take_at, drop_at, get_or-append-add}
use Rattle.std.proofs.lemmas.Bool.{cond-true, cond-false, le-ltb, eq-eqb}
use Rattle.std.proofs.lemmas.Bool.Decides.{nat_tests}
use Rattle.std.specs.List.{AllByRecursion}
use Rattle.kinds.specs.BigEndian.{read16, at16, write16, write32}
use Rattle.kinds.specs.Words.{word16, word32}
use Rattle.packets.specs.declared.acknowledgement.Acknowledged.{Acknowledged}
use Rattle.packets.specs.declared.group.GroupFault.{GroupFault}
use Rattle.packets.specs.declared.header.Header.{Header}
use Rattle.packets.specs.declared.layout.PacketType.{PacketType}
use Rattle.packets.specs.declared.layout.PacketType.TheVariants as type
use Rattle.packets.specs.declared.packet.Fault.{Fault}
use Rattle.packets.specs.declared.summary.Description.{Description}
use Rattle.packets.specs.Acknowledgements.{entry_at}
use Rattle.packets.specs.Bundles.{BundleView, ElementView, element_at, bundle_of}
use Rattle.packets.specs.Contents.{AcknowledgedGroup, DescribedGroup, RequestedGroup, acknowledged_group, described_group, requested_group, Raw, Said, PacketView, entries, groups_of, bundle_part, summary_part, part_of, said, checked, decode_part, decode_header, decode}
use Rattle.packets.specs.Contents.Raw.{bundle as raw_bundle, acknowledgement as raw_acknowledgement, summary as raw_summary, request as raw_request}
use Rattle.packets.specs.Contents.Said.{bundle, acknowledgement, summary, request}
use Rattle.packets.specs.Encodings.{joined, element_bytes, entry_bytes, description_bytes, number_bytes, acknowledged_bytes, described_bytes, requested_bytes, said_type, said_fixed, said_contents, framed, headed, encode, ElementFits, EntryFits, DescriptionFits, AcknowledgedFits, DescribedFits, RequestedFits, SaidFits, Fits}
use Rattle.packets.specs.declared.group.GroupFault.TheVariants as fault
use Rattle.packets.specs.Groups.{count_fault, contents, first_fault}
use Rattle.packets.specs.Headers.{header_of, typed_header}
use Rattle.packets.specs.Layouts.{number_of, type_of}
use Rattle.packets.specs.Requests.{number_at}
use Rattle.packets.specs.Summaries.{SummaryView, description_at, summary_of}
use Rattle.codec.proofs.FrameLaws.{Sound, entries_length, entries_back, faultless, contents_back, sound_all}

-- a number behind other bytes
at16_behind : (xs ys : List ℕ) (n : ℕ) → length xs ≡ n → at16 (xs ++ ys) n ≡ at16 ys 0
at16_behind xs ys n e =
    let p : get_or (xs ++ ys) n 0 ≡ get_or ys 0 0 = ap (λ m. get_or (xs ++ ys) m 0) (let q : n ≡ length xs + 0 = omega arith in q) ∙ get_or-append-add xs ys 0 0 in
    let r : get_or (xs ++ ys) (n + 1) 0 ≡ get_or ys 1 0 = ap (λ m. get_or (xs ++ ys) m 0) (let q : n + 1 ≡ length xs + 1 = omega arith in q) ∙ get_or-append-add xs ys 1 0 in
    cc

same_element : {k l n m : ℕ} {i j b c : List ℕ} → k ≡ l → n ≡ m → i ≡ j → b ≡ c → ◌≡◌ {A = ElementView} (record { element_type = k; number = n; instance = i; body = b }) (record { element_type = l; number = m; instance = j; body = c })
same_element p q r s = cc

element_back : (e : ElementView) → ElementFits e → element_at (element_bytes e) ≡ e
element_back e f =
    same_element (word16 e.element_type f.element_type) (word32 e.number f.number) (take_at e.instance e.body 8 f.instance) (drop_at e.instance e.body 8 f.instance)

same_entry : {n m : ℕ} {i j : List ℕ} → n ≡ m → i ≡ j → ◌≡◌ {A = Acknowledged} (record { number = n; instance = i }) (record { number = m; instance = j })
same_entry p q = cc

entry_back : (a : Acknowledged) (rest : List ℕ) → EntryFits a → entry_at (entry_bytes a ++ rest) ≡ a
entry_back a rest f = same_entry (word32 a.number f.number) (take_at a.instance rest 8 f.instance)

same_description : {k l n m : ℕ} {i j : List ℕ} → k ≡ l → n ≡ m → i ≡ j → ◌≡◌ {A = Description} (record { element_type = k; number = n; instance = i }) (record { element_type = l; number = m; instance = j })
same_description p q r = cc

description_back : (d : Description) (rest : List ℕ) → DescriptionFits d → description_at (description_bytes d ++ rest) ≡ d
description_back d rest f =
    same_description (word16 d.element_type f.element_type) (word32 d.number f.number) (take_at d.instance rest 8 f.instance)

number_back : (n : ℕ) (rest : List ℕ) → n < 2 ^ 32 → number_at (number_bytes n ++ rest) ≡ n
number_back n rest f = word32 n f

entry_length : (a : Acknowledged) → EntryFits a → length (entry_bytes a) ≡ 12
entry_length a f = omega (arith, f.instance)

description_length : (d : Description) → DescriptionFits d → length (description_bytes d) ≡ 16
description_length d f = omega (arith, f.instance)

number_length : (n : ℕ) → n < 2 ^ 32 → length (number_bytes n) ≡ 4
number_length n f = refl

-- a count and entries of one size, behind a part of fixed length
module _ {X : Type 0} (at : List ℕ → X) (bytes : X → List ℕ) (P : X → Type 0) (size : ℕ)
    (sized : (x : X) → P x → length (bytes x) ≡ size)
    (reads : (x : X) (rest : List ℕ) → P x → at (bytes x ++ rest) ≡ x)
    (front : List ℕ) (n : ℕ) (long : length front ≡ n) (xs : List X) (fit : AllByRecursion P xs) where
  abbrev tail : List ℕ
  tail = write16 (length xs) (joined (map bytes xs))

  counted_length : length (front ++ tail) ≡ n + 2 + length xs * size
  counted_length = length-append front tail ∙ omega (arith, entries_length at bytes P size sized reads xs fit)

  counted_fault : length xs < 2 ^ 16 → count_fault (front ++ tail) n size ≡ None
  counted_fault few =
      let c : at16 (front ++ tail) n ≡ length xs = at16_behind front tail n long ∙ word16 (length xs) few in
      cond-true _ _ _ (eq-eqb _ _ (counted_length ∙ ap (λ m. n + 2 + m * size) (sym c)))

  counted_back : 0 < size → (k : ℕ) → length xs ≤ k → entries at size k (drop 2 (drop n (front ++ tail))) ≡ xs
  counted_back p k l =
      ap (λ es. entries at size k (drop 2 es)) (drop_at front tail n long) ∙ entries_back at bytes P size sized reads p k xs fit l

same_acknowledged : {n m : List ℕ} {a b : List Acknowledged} → n ≡ m → a ≡ b → ◌≡◌ {A = AcknowledgedGroup} (record { node = n; entries = a }) (record { node = m; entries = b })
same_acknowledged p q = cc

module _ (g : AcknowledgedGroup) (f : AcknowledgedFits g) where
  a_length : length (acknowledged_bytes g) ≡ 22 + 2 + length g.entries * 12
  a_length = counted_length entry_at entry_bytes EntryFits 12 entry_length entry_back g.node 22 f.node g.entries f.entries

  acknowledged_sound : 4 + length (acknowledged_bytes g) ≤ 2048 → Sound type.Acknowledgement (acknowledged_bytes g)
  acknowledged_sound m = record {
    fault = counted_fault entry_at entry_bytes EntryFits 12 entry_length entry_back g.node 22 f.node g.entries f.entries (omega (arith, a_length));
    least = omega (arith, a_length);
    most = m;
  }

  acknowledged_back : acknowledged_group (acknowledged_bytes g) ≡ g
  acknowledged_back =
      same_acknowledged (take_at g.node _ 22 f.node)
      (counted_back entry_at entry_bytes EntryFits 12 entry_length entry_back g.node 22 f.node g.entries f.entries (omega arith) (length (acknowledged_bytes g)) (omega (arith, a_length)))

same_requested : {n m : List ℕ} {a b : List ℕ} → n ≡ m → a ≡ b → ◌≡◌ {A = RequestedGroup} (record { node = n; numbers = a }) (record { node = m; numbers = b })
same_requested p q = cc

module _ (g : RequestedGroup) (f : RequestedFits g) where
  r_length : length (requested_bytes g) ≡ 22 + 2 + length g.numbers * 4
  r_length = counted_length number_at number_bytes (λ n. n < 2 ^ 32) 4 number_length number_back g.node 22 f.node g.numbers f.numbers

  requested_sound : 4 + length (requested_bytes g) ≤ 2048 → Sound type.Request (requested_bytes g)
  requested_sound m = record {
    fault = counted_fault number_at number_bytes (λ n. n < 2 ^ 32) 4 number_length number_back g.node 22 f.node g.numbers f.numbers (omega (arith, r_length));
    least = omega (arith, r_length);
    most = m;
  }

  requested_back : requested_group (requested_bytes g) ≡ g
  requested_back =
      same_requested (take_at g.node _ 22 f.node)
      (counted_back number_at number_bytes (λ n. n < 2 ^ 32) 4 number_length number_back g.node 22 f.node g.numbers f.numbers (omega arith) (length (requested_bytes g)) (omega (arith, r_length)))

same_described : {n m p q : List ℕ} {a b : List Description} → n ≡ m → p ≡ q → a ≡ b → ◌≡◌ {A = DescribedGroup} (record { node = n; group = p; entries = a }) (record { node = m; group = q; entries = b })
same_described p q r = cc

module _ (g : DescribedGroup) (f : DescribedFits g) where
  -- the part before the count
  abbrev d_front : List ℕ
  d_front = g.node ++ (g.group ++ (0 ∷ 0 ∷ []))

  abbrev d_tail : List ℕ
  d_tail = write16 (length g.entries) (joined (map description_bytes g.entries))

  d_parted : described_bytes g ≡ d_front ++ d_tail
  d_parted = ap (λ xs. g.node ++ xs) (sym (append_assoc g.group (0 ∷ 0 ∷ []) d_tail)) ∙ sym (append_assoc g.node (g.group ++ (0 ∷ 0 ∷ [])) d_tail)

  d_long : length d_front ≡ 38
  d_long = length-append g.node (g.group ++ (0 ∷ 0 ∷ [])) ∙ omega (arith, length-append g.group (0 ∷ 0 ∷ []), f.node, f.group)

  d_length : length (described_bytes g) ≡ 38 + 2 + length g.entries * 16
  d_length = ap length d_parted ∙ counted_length description_at description_bytes DescriptionFits 16 description_length description_back d_front 38 d_long g.entries f.entries

  described_sound : 4 + length (described_bytes g) ≤ 2048 → Sound type.Summary (described_bytes g)
  described_sound m = record {
    fault = ap (λ c. count_fault c 38 16) d_parted ∙ counted_fault description_at description_bytes DescriptionFits 16 description_length description_back d_front 38 d_long g.entries f.entries (omega (arith, d_length));
    least = omega (arith, d_length);
    most = m;
  }

  described_back : described_group (described_bytes g) ≡ g
  described_back =
      let rest = g.group ++ (0 ∷ 0 ∷ d_tail) in
      let p : drop 22 (described_bytes g) ≡ rest = drop_at g.node rest 22 f.node in
      same_described (take_at g.node rest 22 f.node)
      (ap (take 14) p ∙ take_at g.group (0 ∷ 0 ∷ d_tail) 14 f.group)
      (ap (λ es. entries description_at 16 (length (described_bytes g)) (drop 4 (drop 14 es))) p
      ∙ ap (λ es. entries description_at 16 (length (described_bytes g)) (drop 4 es)) (drop_at g.group (0 ∷ 0 ∷ d_tail) 14 f.group)
      ∙ entries_back description_at description_bytes DescriptionFits 16 description_length description_back (omega arith) (length (described_bytes g)) g.entries f.entries (omega (arith, d_length)))

element_length : (e : ElementView) → ElementFits e → length (element_bytes e) ≡ 16 + length e.body
element_length e f = omega (arith, length-append e.instance e.body, f.instance)

fours : (n b : ℕ) → n ≡ 16 + b → b % 4 ≡ 0 → n % 4 ≡ 0
fours n b e h = omega arith

whole : (n : ℕ) → n ≤ 272 → n % 4 ≡ 0 → ◌≡◌ {A = Option GroupFault} (cond (ltb 272 n || not (eqb (n % 4) 0)) (Some fault.Body) None) None
whole n l e = grind (arith, nat_tests)

element_sound : (e : ElementView) → ElementFits e → 4 + length (element_bytes e) ≤ 2048 → Sound type.Bundle (element_bytes e)
element_sound e f m = record {
  fault = whole (length (element_bytes e)) (omega (arith, element_length e f, f.body)) (fours _ (length e.body) (element_length e f) f.fours);
  least = omega (arith, element_length e f);
  most = m;
}

map_back : {X : Type 0} (at : List ℕ → X) (bytes : X → List ℕ) (P : X → Type 0) → ((x : X) → P x → at (bytes x) ≡ x) → (xs : List X) → AllByRecursion P xs → map at (map bytes xs) ≡ xs
map_back at bytes P h [] a = refl
map_back at bytes P h (x ∷ xs) a =
    let p = h x a.0 in
    let q = map_back at bytes P h xs a.1 in
    cc

typed : (t : PacketType) → type_of (read16 (number_of t / 256 % 256) (number_of t % 256)) ≡ Some t
typed type.Bundle = refl
typed type.Acknowledgement = refl
typed type.Summary = refl
typed type.Request = refl

abbrev header : PacketType → ℕ → ℕ → Header
header t newest oldest = record { packet_type = t; newest = newest; oldest = oldest }

header_back : (t : PacketType) (newest oldest : ℕ) (part : List ℕ) → 8 + length part ≤ 2048 → header_of (headed t newest oldest part) ≡ Ok (header t newest oldest)
header_back t newest oldest part l =
    let bs = headed t newest oldest part in
    cond-false _ _ _ (le-ltb (length bs) 8 (omega arith))
    ∙ cond-false _ _ _ (le-ltb 2048 (length bs) (omega arith))
    ∙ cond-true _ _ _ (eq-eqb (at16 bs 2) (length bs) (word16 (8 + length part) (omega arith) ∙ omega arith))
    ∙ ap (typed_header bs) (typed t)

-- the groups of a packet of type t that holds gs, as they are written
abbrev written : {G : Type 0} → PacketType → (G → List ℕ) → List G → List ℕ
written t bytes gs = joined (map (framed t) (map bytes gs))

-- groups that were written are found whole, and hold what they held
module _ {G : Type 0} (t : PacketType) (at : List ℕ → G) (bytes : G → List ℕ) (P : G → Type 0)
    (sound : (g : G) → P g → 4 + length (bytes g) ≤ 2048 → Sound t (bytes g))
    (back : (g : G) → P g → at (bytes g) ≡ g)
    (gs : List G) (fit : AllByRecursion P gs) (short : length (written t bytes gs) ≤ 2048) where
  groups_whole : first_fault (length (written t bytes gs)) t (written t bytes gs) ≡ None
  groups_whole = faultless t _ (map bytes gs) (sound_all t bytes P sound gs fit short) (omega arith)

  groups_back : map at (contents (length (written t bytes gs)) t (written t bytes gs)) ≡ gs
  groups_back =
      ap (map at) (contents_back t _ (map bytes gs) (sound_all t bytes P sound gs fit short) (omega arith)) ∙ map_back at bytes P back gs fit

-- a part that was read, with whole groups that hold what is said
parts_back : (n newest oldest : ℕ) (t : PacketType) (o : Option Raw) (r : Raw) (s : Said) → o ≡ Some r → first_fault (length (groups_of r)) t (groups_of r) ≡ None → said r ≡ s → decode_part n (header t newest oldest) o ≡ Ok (record { newest = newest; oldest = oldest; said = s })
parts_back n newest oldest t o r s p q e =
    ap (decode_part n (header t newest oldest)) p ∙ ap (checked n (header t newest oldest) r) q ∙ ap (λ v. Ok (record { newest = newest; oldest = oldest; said = v })) e

same_bundle : {n m g h a b : List ℕ} → n ≡ m → g ≡ h → a ≡ b → ◌≡◌ {A = Option BundleView} (Some (record { node = n; group = g; groups = a })) (Some (record { node = m; group = h; groups = b }))
same_bundle p q r = cc

bundle_back : (n g G : List ℕ) → length n ≡ 22 → length g ≡ 14 → bundle_of (n ++ g ++ G) ≡ Some (record { node = n; group = g; groups = G })
bundle_back n g G a b =
    let part = n ++ g ++ G in
    let e : part ≡ n ++ (g ++ G) = append_assoc n g G in
    let d : drop 22 part ≡ g ++ G = ap (drop 22) e ∙ drop_at n (g ++ G) 22 a in
    let l : length part ≡ 36 + length G = ap length e ∙ length-append n (g ++ G) ∙ omega (arith, length-append g G) in
    cond-false _ _ _ (le-ltb (length part) 36 (omega arith))
    ∙ same_bundle (ap (take 22) e ∙ take_at n (g ++ G) 22 a) (ap (take 14) d ∙ take_at g G 14 b) (ap (drop 14) d ∙ drop_at g G 14 b)

same_summary : {f e d c : ℕ} {a b : List ℕ} → f ≡ e → d ≡ c → a ≡ b → ◌≡◌ {A = Option SummaryView} (Some (record { flags = f; ds_number = d; groups = a })) (Some (record { flags = e; ds_number = c; groups = b }))
same_summary p q r = cc

summary_back : (f d : ℕ) (G : List ℕ) → f < 2 ^ 16 → d < 2 ^ 32 → summary_of (write16 f (0 ∷ 0 ∷ write32 d []) ++ G) ≡ Some (record { flags = f; ds_number = d; groups = G })
summary_back f d G a b =
    cond-false _ _ _ (le-ltb (length (write16 f (0 ∷ 0 ∷ write32 d []) ++ G)) 8 (omega arith)) ∙ same_summary (word16 f a) (word32 d b) refl

said_back : (N newest oldest : ℕ) (s : Said) → SaidFits s → length (joined (map (framed (said_type s)) (said_contents s))) ≤ 2048 → decode_part N (header (said_type s) newest oldest) (part_of (said_type s) (said_fixed s ++ joined (map (framed (said_type s)) (said_contents s)))) ≡ Ok (record { newest = newest; oldest = oldest; said = s })
said_back N newest oldest (bundle n g es) f l =
    parts_back N newest oldest type.Bundle _ (raw_bundle n g (written type.Bundle element_bytes es)) _
    (ap bundle_part (bundle_back n g (written type.Bundle element_bytes es) f.0 f.1.0))
    (groups_whole type.Bundle element_at element_bytes ElementFits element_sound element_back es f.1.1 l)
    (ap (bundle n g) (groups_back type.Bundle element_at element_bytes ElementFits element_sound element_back es f.1.1 l))
said_back N newest oldest (acknowledgement gs) f l =
    parts_back N newest oldest type.Acknowledgement _ (raw_acknowledgement (written type.Acknowledgement acknowledged_bytes gs)) _ refl
    (groups_whole type.Acknowledgement acknowledged_group acknowledged_bytes AcknowledgedFits acknowledged_sound acknowledged_back gs f l)
    (ap acknowledgement (groups_back type.Acknowledgement acknowledged_group acknowledged_bytes AcknowledgedFits acknowledged_sound acknowledged_back gs f l))
said_back N newest oldest (summary w d gs) f l =
    parts_back N newest oldest type.Summary _ (raw_summary w d (written type.Summary described_bytes gs)) _
    (ap summary_part (summary_back w d (written type.Summary described_bytes gs) f.0 f.1.0))
    (groups_whole type.Summary described_group described_bytes DescribedFits described_sound described_back gs f.1.1 l)
    (ap (summary w d) (groups_back type.Summary described_group described_bytes DescribedFits described_sound described_back gs f.1.1 l))
said_back N newest oldest (request gs) f l =
    parts_back N newest oldest type.Request _ (raw_request (written type.Request requested_bytes gs)) _ refl
    (groups_whole type.Request requested_group requested_bytes RequestedFits requested_sound requested_back gs f l)
    (ap request (groups_back type.Request requested_group requested_bytes RequestedFits requested_sound requested_back gs f l))

-- reading what was written gives what was written
pub read_back : (p : PacketView) → Fits p → decode (encode p) ≡ Ok p
read_back p f =
    let s = p.said in
    let t = said_type s in
    let groups = joined (map (framed t) (said_contents s)) in
    let part = said_fixed s ++ groups in
    let long = length-append (said_fixed s) groups in
    let h = f.short in
    ap (decode_header (encode p)) (header_back t p.newest p.oldest part (omega arith))
    ∙ said_back (length (encode p)) p.newest p.oldest s f.said (omega arith)

-- two contents are never written as the same bytes
pub encode_apart : (p q : PacketView) → Fits p → Fits q → encode p ≡ encode q → p ≡ q
encode_apart p q f g e = let h = sym (read_back p f) ∙ ap decode e ∙ read_back q g in same_ok p q h
  where
    same_ok : (x y : PacketView) → ◌≡◌ {A = Result PacketView Fault} (Ok x) (Ok y) → x ≡ y
    same_ok x y h = cc
