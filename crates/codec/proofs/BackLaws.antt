-- What the steps of writing a packet back leave in the buffer. Assumes nothing.
use Rattle.std.proofs.Common.{◌≡◌, ℕ, zero, suc, ◌+◌, ◌-◌, ◌*◌, ◌≤◌, min, true, ◌⊎◌, List, [], ◌∷◌, ◌++◌, map, length, get_or, take, drop, IfOk, None, Ok, Err, Result, sym, ap, ◌∙◌, subst, inl, inr, arith, length-append, w8, Fits}
use mathlib.Core.List.{map-map}
use Rattle.std.proofs.ByRecursion.{All-from_get_or}
use Rattle.std.proofs.lemmas.List.{append_assoc, append-nil, length-drop, length-take-le, drop-drop}
use Rattle.std.proofs.lemmas.Bool.{cases_lt, le-leb, cond-true}
use Rattle.std.specs.List.{AllByRecursion}
use Rattle.kinds.specs.BigEndian.{at16, write16, write32}
use Rattle.kinds.specs.Words.{Bytes}
use Rattle.packets.specs.declared.header.HeaderFault.{HeaderFault}
use Rattle.packets.specs.declared.packet.Fault.{Fault}
use Rattle.packets.specs.declared.packet.Packet.{Packet}
use Rattle.packets.specs.declared.layout.PacketType.{PacketType}
use Rattle.packets.specs.declared.layout.PacketType.TheVariants as type
use Rattle.packets.specs.declared.summary.Description.{Description}
use Rattle.packets.specs.Encodings.{acknowledged_bytes, described_bytes, description_bytes, element_bytes, encode, framed, headed, joined, requested_bytes}
use Rattle.packets.specs.Cleared.{clear_content, clear_two}
use Rattle.packets.specs.Groups.{content_fault, contents}
use Rattle.packets.specs.Bundles.{element_at}
use Rattle.packets.specs.Contents.{PacketView, Raw, acknowledged_group, decode, described_group, entries, groups_of, raw_type, requested_group, said, viewed_packet}
use Rattle.packets.specs.Contents.Raw.{bundle, acknowledgement, summary, request}
use Rattle.packets.specs.Summaries.{description_at}
use Rattle.packets.specs.Layouts.{group_fixed_of, group_number_of, number_of}
use Rattle.writer.specs.declared.states.Finished.{Finished}
use Rattle.writer.specs.declared.states.GroupOpen.{GroupOpen}
use Rattle.writer.specs.declared.states.Open.{Open}
use Rattle.codec.specs.Backs.{Back, again, cleared_entries, first_part, group_again, groups_again, second_part, view_of}
use Rattle.packets.proofs.EntryLaws.{entries_enough, entries_more, entries_none}
use Rattle.codec.proofs.ClearedLaws.{again_clear, content_kept, described_length, description_back, entries_back, written_back}
use Rattle.writer.proofs.WriterLaws.{pasted_none, pasted_twice, put_behind}
use Rattle.writer.specs.Writers.{pasted, put16_at, fits_in, begin_bytes, begun, begun_bytes, group_bytes, grouped, grouped_bytes, closed, closed_bytes, finished, finished_bytes}

-- room, so no step is declined
fits : (len buffer more : ℕ) → len + more ≤ min buffer 2048 → fits_in len buffer more ≡ true
fits len buffer more le = le-leb (len + more) (min buffer 2048) le

-- the group that was begun, where there was room
begun_group : (o : Open) (g : GroupOpen) (n : ℕ) (a b c : List ℕ) → o.len + (4 + (length a + (length b + length c))) ≤ min n 2048 → Ok g ≡ grouped o n a b c → g ≡ record { start = o.len; len = o.len + (4 + length a + length b + length c) }
begun_group o g n a b c le e =
    let h = e ∙ cond-true _ _ _ (fits o.len n (4 + (length a + (length b + length c))) le) in cc

-- a group begun, filled and closed is the group framed
group_written : (at len : ℕ) (t : PacketType) (a b c es buffer : List ℕ) → len ≡ at + (4 + (length a + (length b + length c))) → len ≤ length buffer → put16_at (at + 2) (len + length es - at) (pasted len es (pasted at (group_bytes t a b c) buffer)) ≡ pasted at (framed t ((a ++ (b ++ c)) ++ es)) buffer
group_written at len t a b c es buffer e le =
    let content = (a ++ (b ++ c)) ++ es in
    let l = length-append (a ++ (b ++ c)) es in
    let m = length-append a (b ++ c) in
    let k = length-append b c in
    let whole : len + length es - at ≡ 4 + length content = omega arith in
    ap (put16_at (at + 2) (len + length es - at)) (pasted_twice at len (group_bytes t a b c) es buffer (omega arith) le)
    ∙ put_behind at (group_number_of t) (len + length es - at) content buffer (omega arith)
    ∙ ap (λ n. pasted at (write16 (group_number_of t) (write16 n content)) buffer) whole

-- the bytes of a slice
bytes_of : (xs : List ℕ) → ((i : ℕ) → Fits w8 (get_or xs i 0)) → Bytes xs
bytes_of xs h = All-from_get_or _ xs 0 (λ i lt. (h i).fits)

-- a group begun, filled and closed
pub pieces_written : (o r : Open) (g h : GroupOpen) (t : PacketType) (a b c ds buffer mid last out : List ℕ) → o.len + (4 + (length a + (length b + length c))) ≤ min (length buffer) 2048 → Ok g ≡ grouped o (length buffer) a b c → mid ≡ grouped_bytes o buffer t a b c → h ≡ record { start = g.start; len = g.len + length ds } → last ≡ pasted g.len ds mid → r ≡ closed h → out ≡ closed_bytes h last → (r ≡ record { len = o.len + length (framed t ((a ++ (b ++ c)) ++ ds)) }) × (out ≡ pasted o.len (framed t ((a ++ (b ++ c)) ++ ds)) buffer)
pieces_written o r g h t a b c ds buffer mid last out room e m u v w x =
    let k = begun_group o g (length buffer) a b c room e in
    let start : g.start ≡ o.len = ap (λ y. y.start) k in
    let len : g.len ≡ o.len + (4 + length a + length b + length c) = ap (λ y. y.len) k in
    let done : mid ≡ pasted o.len (group_bytes t a b c) buffer = m ∙ cond-true _ _ _ (fits o.len (length buffer) (4 + (length a + (length b + length c))) room) in
    let i = length-append (a ++ (b ++ c)) ds in
    let j = length-append a (b ++ c) in
    let n = length-append b c in
    let long : g.len + length ds ≡ o.len + length (framed t ((a ++ (b ++ c)) ++ ds)) = omega arith in (
      w ∙ ap closed u ∙ ap (λ y. record { len = y }) long,
      x ∙ ap (λ y. closed_bytes y last) u ∙ ap (closed_bytes (record { start = g.start; len = g.len + length ds })) (v ∙ ap (pasted g.len ds) done)
          ∙ ap (λ y. put16_at (y + 2) (g.len + length ds - y) (pasted g.len ds (pasted o.len (group_bytes t a b c) buffer))) start
          ∙ group_written o.len g.len t a b c ds buffer (omega arith) (omega arith),
    )

-- three pieces and descriptions that make up a group
pub record Pieces (t : PacketType) (content a b d es : List ℕ) : Type 0 where
  pub long : 4 + (length a + (length b + (length d + length es))) ≡ length (group_again t content)
  pub bytes : framed t ((a ++ (b ++ d)) ++ cleared_entries (length es) es) ≡ group_again t content

-- no descriptions
no_entries : cleared_entries 0 [] ≡ []
no_entries = ap joined (entries_none (λ ds. clear_two (take 16 ds)) 16 0 [] (omega arith))

module _ (t : PacketType) (c : List ℕ) (sound : content_fault t c ≡ None) (least : group_fixed_of t ≤ 4 + length c) (typed : (i : ℕ) → Fits w8 (get_or c i 0)) where
  -- pieces that make up the content with its reserved bytes zero make up the group
  pieces_of : (a b d es : List ℕ) → length a + (length b + (length d + length es)) ≡ length c → (a ++ (b ++ d)) ++ cleared_entries (length es) es ≡ clear_content t c → Pieces t c a b d es
  pieces_of a b d es l e =
      let s = again_clear t c sound least (bytes_of c typed) in
      let k : length (again t c) ≡ length c = ap length s ∙ content_kept t c sound least in
      record { long = omega arith; bytes = ap (framed t) (e ∙ sym s) }

  -- an element: what comes before its reserved bytes, and what comes behind them
  pub bundle_pieces : (a r d : List ℕ) → t ≡ type.Bundle → a ≡ take 2 c → r ≡ drop 2 c → d ≡ drop 2 r → Pieces t c a (0 ∷ 0 ∷ []) d []
  bundle_pieces a r d e p q u =
      let n = ap group_fixed_of e in
      let i = ap length p ∙ length-take-le 2 c (omega arith) in
      let f : d ≡ drop 4 c = u ∙ ap (drop 2) q ∙ drop-drop 2 2 c in
      let j = ap length f ∙ length-drop 4 c in
      pieces_of a (0 ∷ 0 ∷ []) d [] (omega arith)
      (ap (λ xs. (a ++ (0 ∷ 0 ∷ d)) ++ xs) no_entries ∙ append-nil (a ++ (0 ∷ 0 ∷ d))
      ∙ ap (λ xs. xs ++ (0 ∷ 0 ∷ d)) p ∙ ap (λ xs. take 2 c ++ (0 ∷ 0 ∷ xs)) f ∙ sym (ap (λ v. clear_content v c) e))

  -- descriptions: IDs, reserved bytes, count and entries
  pub summary_pieces : (a r s d es : List ℕ) → t ≡ type.Summary → a ≡ take 36 c → r ≡ drop 36 c → s ≡ drop 2 r → d ≡ take 2 s → es ≡ drop 2 s → Pieces t c a (0 ∷ 0 ∷ []) d es
  summary_pieces a r s d es e p q u v w =
      let n = ap group_fixed_of e in
      let i = ap length p ∙ length-take-le 36 c (omega arith) in
      let f : s ≡ drop 38 c = u ∙ ap (drop 2) q ∙ drop-drop 2 36 c in
      let g : es ≡ drop 40 c = w ∙ ap (drop 2) f ∙ drop-drop 2 38 c in
      let j = ap length f ∙ length-drop 38 c in
      let k = ap length v ∙ length-take-le 2 s (omega arith) in
      let l = ap length g ∙ length-drop 40 c in
      let h = described_length c (sym (ap (λ x. content_fault x c) e) ∙ sound) (omega arith) in
      let m : length es ≡ at16 c 38 * 16 = ap length g ∙ h in
      let y : cleared_entries (length es) es ≡ cleared_entries (length c) (drop 40 c) = ap joined (entries_enough (λ ds. clear_two (take 16 ds)) 16 (omega arith) (length es) (length c) es (omega arith) (omega arith)) ∙ ap (cleared_entries (length c)) g in
      pieces_of a (0 ∷ 0 ∷ []) d es (omega arith)
      (append_assoc a (0 ∷ 0 ∷ d) (cleared_entries (length es) es)
      ∙ ap (λ xs. xs ++ (0 ∷ 0 ∷ (d ++ cleared_entries (length es) es))) p
      ∙ ap (λ xs. take 36 c ++ (0 ∷ 0 ∷ (xs ++ cleared_entries (length es) es))) (v ∙ ap (take 2) f)
      ∙ ap (λ xs. take 36 c ++ (0 ∷ 0 ∷ (take 2 (drop 38 c) ++ xs))) y
      ∙ sym (ap (λ x. clear_content x c) e))

  -- a content with nothing reserved is one piece
  pub plain_pieces : (t ≡ type.Acknowledgement) ⊎ (t ≡ type.Request) → Pieces t c c [] [] []
  plain_pieces e =
      pieces_of c [] [] [] (omega arith) (ap (λ xs. (c ++ []) ++ xs) no_entries ∙ append-nil (c ++ []) ∙ append-nil c ∙ sym (kept e))
    where
      kept : (t ≡ type.Acknowledgement) ⊎ (t ≡ type.Request) → clear_content t c ≡ c
      kept (inl p) = ap (λ v. clear_content v c) p
      kept (inr p) = ap (λ v. clear_content v c) p

-- a group written from its pieces is the group
pub pieces_group : {t : PacketType} {content a b d es : List ℕ} (at : ℕ) (r : Open) (buffer out : List ℕ) → Pieces t content a b d es → r ≡ record { len = at + length (framed t ((a ++ (b ++ d)) ++ cleared_entries (length es) es)) } → out ≡ pasted at (framed t ((a ++ (b ++ d)) ++ cleared_entries (length es) es)) buffer → (r ≡ record { len = at + length (group_again t content) }) × (out ≡ pasted at (group_again t content) buffer)
pieces_group at r buffer out p e f =
    (e ∙ ap (λ xs. record { len = at + length xs }) p.bytes, f ∙ ap (λ xs. pasted at xs buffer) p.bytes)

-- how far a list of parts was written: some bytes stand in the buffer, and the other parts are left
pub record Written {X : Type 0} (f : X → List ℕ) (xs : List X) (at : ℕ) (buffer₀ : List ℕ) (left : List X) (buffer : List ℕ) (len : ℕ) : Type 0 where
  pub done : List ℕ
  pub all : done ++ joined (map f left) ≡ joined (map f xs)
  pub stands : buffer ≡ pasted at done buffer₀
  pub long : len ≡ at + length done

-- nothing is written yet
pub written_none : {X : Type 0} (f : X → List ℕ) (xs left : List X) (at : ℕ) (buffer : List ℕ) → left ≡ xs → Written f xs at buffer left buffer at
written_none f xs left at buffer e = record { done = []; all = ap (λ ys. joined (map f ys)) e; stands = sym (pasted_none at buffer); long = omega arith }

module _ {X : Type 0} (f : X → List ℕ) (xs : List X) (at : ℕ) (buffer₀ : List ℕ) (left : List X) (buffer : List ℕ) (len : ℕ) (w : Written f xs at buffer₀ left buffer len) where
  -- there is room for a part that is left
  pub written_fits : (x : X) (next : List X) → at + length (joined (map f xs)) ≤ min (length buffer₀) 2048 → left ≡ x ∷ next → len + length (f x) ≤ min (length buffer₀) 2048
  written_fits x next room e =
      let y = joined (map f next) in
      let a = ap length (sym w.all ∙ ap (λ ys. w.done ++ joined (map f ys)) e) in
      omega (arith, length-append w.done (f x ++ y), length-append (f x) y, w.long, a)

  -- a part is written
  pub written_more : (x : X) (next : List X) (out : List ℕ) (m : ℕ) → at + length (joined (map f xs)) ≤ min (length buffer₀) 2048 → left ≡ x ∷ next → m ≡ len + length (f x) → out ≡ pasted len (f x) buffer → Written f xs at buffer₀ next out m
  written_more x next out m room e p q =
      let fit = written_fits x next room e in
      record {
        done = w.done ++ f x;
        all = append_assoc w.done (f x) (joined (map f next)) ∙ ap (λ ys. w.done ++ joined (map f ys)) (sym e) ∙ w.all;
        stands = q ∙ ap (pasted len (f x)) w.stands ∙ pasted_twice at len w.done (f x) buffer₀ w.long (omega arith);
        long = omega (arith, length-append w.done (f x), w.long);
      }

  -- nothing is left
  pub written_all : left ≡ [] → (len ≡ at + length (joined (map f xs))) × (buffer ≡ pasted at (joined (map f xs)) buffer₀)
  written_all e =
      let d : w.done ≡ joined (map f xs) = sym (append-nil w.done) ∙ ap (λ ys. w.done ++ joined (map f ys)) (sym e) ∙ w.all in
      (w.long ∙ ap (λ ds. at + length ds) d, w.stands ∙ ap (λ ds. pasted at ds buffer₀) d)

-- an open group, by its two numbers
pub same_group : {a b m n : ℕ} → a ≡ b → m ≡ n → ◌≡◌ {A = GroupOpen} (record { start = a; len = m }) (record { start = b; len = n })
same_group u v = cc

-- a description has 16 bytes
abbrev pub Sixteen : Description → Type 0
Sixteen d = length (description_bytes d) ≡ 16

description_sixteen : (es : List ℕ) → 16 ≤ length es → Sixteen (description_at es)
description_sixteen es le =
    let l = length-take-le 8 (drop 8 es) (let d = length-drop 8 es in omega arith) in
    omega (arith, l)

pub descriptions_sixteen : (k : ℕ) (es : List ℕ) → AllByRecursion Sixteen (entries description_at 16 k es)
unfolding entries
descriptions_sixteen zero es = tt
descriptions_sixteen (suc k) es =
    elim (cases_lt (length es) 16) [
      | inl lt ↦ subst (AllByRecursion Sixteen) (sym (entries_none description_at 16 (suc k) es lt)) tt
      | inr le ↦ subst (AllByRecursion Sixteen) (sym (entries_more description_at 16 k es le)) (description_sixteen es le, descriptions_sixteen k (drop 16 es))
    ]

-- descriptions take no more than the bytes that they were read from
descriptions_fit : (k : ℕ) (es : List ℕ) → length (joined (map description_bytes (entries description_at 16 k es))) ≤ length es
unfolding entries
descriptions_fit zero es = omega arith
descriptions_fit (suc k) es =
    elim (cases_lt (length es) 16) [
      | inl lt ↦
          let n = ap (λ xs. length (joined (map description_bytes xs))) (entries_none description_at 16 (suc k) es lt) in
          omega (arith, n)
      | inr le ↦
          let n = ap (λ xs. length (joined (map description_bytes xs))) (entries_more description_at 16 k es le) in
          let rest = joined (map description_bytes (entries description_at 16 k (drop 16 es))) in
          omega (arith, n, length-append (description_bytes (description_at es)) rest, description_sixteen es le, descriptions_fit k (drop 16 es), length-drop 16 es)
    ]

pub descriptions_room : (at n k : ℕ) (es : List ℕ) → at + length es ≤ n → at + length (joined (map description_bytes (entries description_at 16 k es))) ≤ n
descriptions_room at n k es le = let f = descriptions_fit k es in omega arith

-- and are written with their reserved bytes zero
pub descriptions_back : (k : ℕ) (es : List ℕ) → ((i : ℕ) → Fits w8 (get_or es i 0)) → joined (map description_bytes (entries description_at 16 k es)) ≡ cleared_entries k es
descriptions_back k es typed = entries_back description_at description_bytes (λ ds. clear_two (take 16 ds)) 16 description_back k es (bytes_of es typed)

-- contents written from what was read of them
contents_again : {G : Type 0} (t : PacketType) (at : List ℕ → G) (bytes : G → List ℕ) (cs : List (List ℕ)) → joined (map (framed t) (map bytes (map at cs))) ≡ joined (map (λ c. framed t (bytes (at c))) cs)
contents_again t at bytes cs = ap joined (ap (map (framed t)) (map-map bytes at cs) ∙ map-map (framed t) (λ c. bytes (at c)) cs)

-- the groups of a packet, written again
abbrev groups_part : Raw → List ℕ
groups_part r = groups_again (length (groups_of r)) (raw_type r) (groups_of r)

-- the groups of a packet, by their type and bytes
groups_are : (r : Raw) (t : PacketType) (gs : List ℕ) → t ≡ raw_type r → gs ≡ groups_of r → groups_again (length gs) t gs ≡ groups_part r
groups_are r t gs k g = ap (λ xs. groups_again (length xs) t xs) g ∙ ap (λ v. groups_again (length (groups_of r)) v (groups_of r)) k

-- what a packet says, from its parts
abbrev packet_of : Raw → ℕ → ℕ → PacketView
packet_of r newest oldest = record { newest = newest; oldest = oldest; said = said r }

-- a packet is its header, the part behind it and its groups
encode_parts : (r : Raw) (newest oldest : ℕ) → encode (packet_of r newest oldest) ≡ headed (raw_type r) newest oldest ((first_part r ++ second_part r) ++ groups_part r)
encode_parts (bundle n g bs) newest oldest =
    ap (λ xs. headed type.Bundle newest oldest ((n ++ g) ++ xs)) (contents_again type.Bundle element_at element_bytes (contents (length bs) type.Bundle bs))
encode_parts (acknowledgement bs) newest oldest =
    ap (headed type.Acknowledgement newest oldest) (contents_again type.Acknowledgement acknowledged_group acknowledged_bytes (contents (length bs) type.Acknowledgement bs))
encode_parts (summary f d bs) newest oldest =
    ap (λ xs. headed type.Summary newest oldest (write16 f (0 ∷ 0 ∷ write32 d []) ++ xs)) (contents_again type.Summary described_group described_bytes (contents (length bs) type.Summary bs))
encode_parts (request bs) newest oldest =
    ap (headed type.Request newest oldest) (contents_again type.Request requested_group requested_bytes (contents (length bs) type.Request bs))

-- a header begun, groups behind it, and the length put in: the packet
packet_written : (t : PacketType) (newest oldest at : ℕ) (a b gs buffer : List ℕ) → at ≡ 8 + length a + length b → at ≤ length buffer → put16_at 2 (at + length gs) (pasted at gs (pasted 0 (begin_bytes t newest oldest a b) buffer)) ≡ pasted 0 (headed t newest oldest ((a ++ b) ++ gs)) buffer
packet_written t newest oldest at a b gs buffer e le =
    let part = (a ++ (b ++ [])) ++ gs in
    let same : part ≡ (a ++ b) ++ gs = ap (λ xs. (a ++ xs) ++ gs) (append-nil b) in
    let i = length-append a (b ++ []) in
    let j = length-append b [] in
    let k = length-append (a ++ (b ++ [])) gs in
    let n : at + length gs ≡ 8 + length part = omega arith in
    ap (put16_at 2 (at + length gs)) (pasted_twice 0 at (begin_bytes t newest oldest a b) gs buffer (omega arith) le)
    ∙ put_behind 0 (number_of t) (at + length gs) (1 ∷ newest ∷ oldest ∷ 0 ∷ part) buffer (omega arith)
    ∙ ap (λ m. pasted 0 (write16 (number_of t) (write16 m (1 ∷ newest ∷ oldest ∷ 0 ∷ part))) buffer) n
    ∙ ap (λ xs. pasted 0 (headed t newest oldest xs) buffer) same

-- what was read can be written back
pub back_made : (r : Result Packet Fault) (bs : List ℕ) → ((i : ℕ) → Fits w8 (get_or bs i 0)) → viewed_packet r ≡ decode bs → IfOk r (λ p. Back bs (view_of p))
back_made (Ok p) bs typed e = written_back bs (view_of p) (bytes_of bs typed) e
back_made (Err f) bs typed e = tt

-- a buffer of n bytes has room for a packet
module _ (r : Raw) (newest oldest n : ℕ) (room : length (encode (packet_of r newest oldest)) ≤ min n 2048) where
  -- the length of a packet, by its parts
  encode_long : length (encode (packet_of r newest oldest)) ≡ 8 + length (first_part r) + length (second_part r) + length (groups_part r)
  encode_long =
      let i = length-append (first_part r ++ second_part r) (groups_part r) in
      let j = length-append (first_part r) (second_part r) in
      ap length (encode_parts r newest oldest) ∙ omega arith

  -- there is room for its header
  begin_fits : fits_in 0 n (8 + (length (first_part r) + (length (second_part r) + 0))) ≡ true
  begin_fits = let l = encode_long in fits 0 n _ (omega arith)

  -- the draft ends behind the fixed part
  draft_long : (o : Open) → Ok o ≡ begun n (first_part r) (second_part r) → o.len ≡ 8 + length (first_part r) + length (second_part r)
  draft_long o e = same o (8 + length (first_part r) + length (second_part r)) (e ∙ cond-true _ _ _ begin_fits)
    where
      same : (o : Open) (m : ℕ) → ◌≡◌ {A = Result Open HeaderFault} (Ok o) (Ok (record { len = m })) → o.len ≡ m
      same o m h = let k : o ≡ record { len = m } = cc in ap (λ v. v.len) k

  -- and its groups fit behind it
  pub groups_fit : (o : Open) (t : PacketType) (gs : List ℕ) → Ok o ≡ begun n (first_part r) (second_part r) → t ≡ raw_type r → gs ≡ groups_of r → o.len + length (groups_again (length gs) t gs) ≤ min n 2048
  groups_fit o t gs e k g =
      let l = encode_long in
      let d = draft_long o e in
      let m = ap length (groups_are r t gs k g) in
      omega arith

-- a packet begun, filled with its groups and finished
pub finished_back : (r : Raw) (newest oldest : ℕ) (o h : Open) (f : Finished) (t : PacketType) (gs buffer mid last out : List ℕ) → length (encode (packet_of r newest oldest)) ≤ min (length buffer) 2048 → Ok o ≡ begun (length buffer) (first_part r) (second_part r) → mid ≡ begun_bytes buffer (raw_type r) newest oldest (first_part r) (second_part r) → t ≡ raw_type r → gs ≡ groups_of r → h ≡ record { len = o.len + length (groups_again (length gs) t gs) } → last ≡ pasted o.len (groups_again (length gs) t gs) mid → f ≡ finished h → out ≡ finished_bytes h last → (f.len ≡ length (encode (packet_of r newest oldest))) × (out ≡ pasted 0 (encode (packet_of r newest oldest)) buffer)
finished_back r newest oldest o h f t gs buffer mid last out room e m k g u v w x =
    let a = first_part r in
    let b = second_part r in
    let xs = groups_part r in
    let is = groups_are r t gs k g in
    let at = draft_long r newest oldest (length buffer) room o e in
    let l = encode_long r newest oldest (length buffer) room in
    let begin : mid ≡ pasted 0 (begin_bytes (raw_type r) newest oldest a b) buffer = m ∙ cond-true _ _ _ (begin_fits r newest oldest (length buffer) room) in
    let len : h.len ≡ o.len + length xs = ap (λ y. y.len) u ∙ ap (λ ys. o.len + length ys) is in (
      ap (λ y. y.len) w ∙ len ∙ omega arith,
      x ∙ ap (λ y. put16_at 2 y last) len
          ∙ ap (put16_at 2 (o.len + length xs)) (v ∙ ap (λ ys. pasted o.len ys mid) is ∙ ap (pasted o.len xs) begin)
          ∙ packet_written (raw_type r) newest oldest o.len a b xs buffer at (omega arith)
          ∙ sym (ap (λ ys. pasted 0 ys buffer) (encode_parts r newest oldest)),
    )
