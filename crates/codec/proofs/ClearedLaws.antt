-- A packet that was read is written back, its reserved bytes zero. Assumes nothing.
use Rattle.std.proofs.Common.{◌≡◌, ℕ, zero, suc, ◌+◌, ◌-◌, ◌*◌, ◌<◌, ◌≤◌, Bool, true, false, cond, ltb, List, [], ◌∷◌, ◌++◌, map, length, get_or, take, drop, Some, None, Ok, Err, Option, Result, sym, refl, ap, ◌∙◌, subst, inl, inr, suc-mul, zero-mul, le-mul_of_pos_right, arith, take-add}
use Rattle.std.proofs.ByRecursion.{All-get_or, All-take, All-drop}
use Rattle.std.proofs.lemmas.List.{append_assoc, append-nil, take-append-drop, length-append, length-drop, length-take-le, drop-drop, drop_more, nil_from_length}
use Rattle.std.proofs.lemmas.Bool.{eqb-true, ltb-false, eq-eqb, ne_eqb, cases_Bool, cases_lt, cond-true, cond-false}
use Rattle.std.proofs.lemmas.Bool.Decides.{nat_tests}
use Rattle.kinds.specs.BigEndian.{at16, at32, write16, write32}
use Rattle.kinds.specs.Words.{Bytes, bytes16, bytes32}
use Rattle.packets.specs.declared.group.GroupFault.{GroupFault}
use Rattle.packets.specs.declared.group.Misfit.{Misfit}
use Rattle.packets.specs.declared.header.Header.{Header}
use Rattle.packets.specs.declared.header.HeaderFault.{HeaderFault}
use Rattle.packets.specs.declared.layout.PacketType.{PacketType}
use Rattle.packets.specs.declared.layout.PacketType.TheVariants as type
use Rattle.packets.specs.Acknowledgements.{entry_at}
use Rattle.packets.specs.Bundles.{element_at}
use Rattle.packets.specs.Cleared.{clear_two, clear_content, clear_group, clear_groups, clear_part}
use Rattle.packets.specs.Contents.Raw.{bundle, acknowledgement, summary, request}
use Rattle.packets.specs.Contents.{Raw, Said, PacketView, said, groups_of, part_of, checked, decode_part, decode_header, decode, entries, acknowledged_group, described_group, requested_group}
use Rattle.packets.specs.Encodings.{joined, element_bytes, entry_bytes, description_bytes, number_bytes, acknowledged_bytes, described_bytes, requested_bytes, said_type, said_fixed, said_contents, framed, headed, encode}
use Rattle.packets.specs.Groups.{Split, count_fault, content_fault, split_group, after_group, first_fault, contents}
use Rattle.packets.specs.Headers.{typed_header, header_of}
use Rattle.packets.specs.Layouts.{number_of, type_of, group_number_of, group_fixed_of}
use Rattle.packets.specs.Requests.{number_at}
use Rattle.packets.specs.Summaries.{description_at}
use Rattle.codec.specs.Backs.{Back, again}
use Rattle.packets.proofs.EntryLaws.{entries_more, entries_none}
use Rattle.packets.proofs.GroupLaws.{contents_more, past_fault, past_else, fixed_least, split_facts, split_shorter}

-- a list of eight or more is its first eight and the rest
front : (P : List ℕ → Type 0) → ((a b c d e f g h : ℕ) (rest : List ℕ) → P (a ∷ b ∷ c ∷ d ∷ e ∷ f ∷ g ∷ h ∷ rest)) → (bs : List ℕ) → 8 ≤ length bs → P bs
front P k ([]) le = absurd (omega arith)
front P k (a ∷ []) le = absurd (omega arith)
front P k (a ∷ b ∷ []) le = absurd (omega arith)
front P k (a ∷ b ∷ c ∷ []) le = absurd (omega arith)
front P k (a ∷ b ∷ c ∷ d ∷ []) le = absurd (omega arith)
front P k (a ∷ b ∷ c ∷ d ∷ e ∷ []) le = absurd (omega arith)
front P k (a ∷ b ∷ c ∷ d ∷ e ∷ f ∷ []) le = absurd (omega arith)
front P k (a ∷ b ∷ c ∷ d ∷ e ∷ f ∷ g ∷ []) le = absurd (omega arith)
front P k (a ∷ b ∷ c ∷ d ∷ e ∷ f ∷ g ∷ h ∷ rest) le = k a b c d e f g h rest

-- a number that was read is written as it stood
back16 : (bs : List ℕ) (i : ℕ) (rest : List ℕ) → i + 2 ≤ length bs → Bytes bs → write16 (at16 bs i) rest ≡ take 2 (drop i bs) ++ rest
back16 bs i rest le all =
    let a = bytes16 (get_or bs i 0) (get_or bs (i + 1) 0) rest (All-get_or _ bs i 0 (omega arith) all) (All-get_or _ bs (i + 1) 0 (omega arith) all) in
    let b = drop_more bs i 0 (omega arith) in
    let c = drop_more bs (i + 1) 0 (omega arith) in
    a ∙ sym (ap (λ xs. take 2 xs ++ rest) (b ∙ ap (λ xs. get_or bs i 0 ∷ xs) c))

back32 : (bs rest : List ℕ) → 4 ≤ length bs → Bytes bs → write32 (at32 (take 4 bs) 0) rest ≡ take 4 bs ++ rest
back32 ([]) rest le all = absurd (omega arith)
back32 (a ∷ []) rest le all = absurd (omega arith)
back32 (a ∷ b ∷ []) rest le all = absurd (omega arith)
back32 (a ∷ b ∷ c ∷ []) rest le all = absurd (omega arith)
back32 (a ∷ b ∷ c ∷ d ∷ bs) rest le all = bytes32 a b c d rest all.0 all.1.0 all.1.1.0 all.1.1.1.0

-- two bytes, two reserved ones and four, written with the reserved ones zero
eight_back : (bs rest : List ℕ) → 8 ≤ length bs → Bytes bs → write16 (at16 (take 8 bs) 0) (0 ∷ 0 ∷ write32 (at32 (take 8 bs) 4) rest) ≡ clear_two (take 8 bs) ++ rest
eight_back bs rest le =
    front (λ xs. Bytes xs → write16 (at16 (take 8 xs) 0) (0 ∷ 0 ∷ write32 (at32 (take 8 xs) 4) rest) ≡ clear_two (take 8 xs) ++ rest)
    (λ a b c d e f g h xs all.
    let l = all.1.1.1.1 in
    bytes16 a b _ all.0 all.1.0 ∙ ap (λ ys. a ∷ b ∷ 0 ∷ 0 ∷ ys) (bytes32 e f g h rest l.0 l.1.0 l.1.1.0 l.1.1.1.0))
    bs le

-- an element, a description, an entry and a number, each written from what was read
element_back : (c : List ℕ) → 8 ≤ length c → Bytes c → element_bytes (element_at c) ≡ clear_two c
element_back c le all =
    eight_back c (take 8 (drop 8 c) ++ drop 8 (drop 8 c)) le all ∙ ap (λ xs. clear_two (take 8 c) ++ xs) (take-append-drop 8 (drop 8 c))
    ∙ front (λ xs. clear_two (take 8 xs) ++ drop 8 xs ≡ clear_two xs) (λ a b c d e f g h xs. refl) c le

pub description_back : (es : List ℕ) → 16 ≤ length es → Bytes es → description_bytes (description_at es) ≡ clear_two (take 16 es)
description_back es le all =
    eight_back es (take 8 (drop 8 es)) (omega arith) all
    ∙ front (λ xs. clear_two (take 8 xs) ++ take 8 (drop 8 xs) ≡ clear_two (take 16 xs)) (λ a b c d e f g h xs. refl) es (omega arith)

entry_back : (es : List ℕ) → 12 ≤ length es → Bytes es → entry_bytes (entry_at es) ≡ take 12 es
entry_back es le all = back32 es (take 8 (drop 4 es)) (omega arith) all ∙ sym (take-add 4 8 es)

number_back : (es : List ℕ) → 4 ≤ length es → Bytes es → number_bytes (number_at es) ≡ take 4 es
number_back es le all = back32 es [] le all ∙ append-nil (take 4 es)

-- entries of one size
module _ {X : Type 0} (at : List ℕ → X) (size : ℕ) where
  -- what holds of no entries, and of one more, holds of the entries that fill some bytes
  by_entries : (P : ℕ → List X → List ℕ → Type 0) → 0 < size → P 0 [] [] → ((n : ℕ) (xs : List X) (es : List ℕ) → size ≤ length es → P n xs (drop size es) → P (suc n) (at es ∷ xs) es) → (n k : ℕ) (es : List ℕ) → length es ≡ n * size → n ≤ k → P n (entries at size k es) es
  by_entries P pos none more zero k es e le =
      let z : length es ≡ 0 = e ∙ zero-mul size in
      let h : es ≡ [] = nil_from_length es z in
      let i : entries at size k es ≡ [] = entries_none at size k es (omega arith) in
      subst (λ xs. P 0 xs es) (sym i) (subst (λ ys. P 0 [] ys) (sym h) none)
  by_entries P pos none more (suc n) zero es e le = absurd (omega arith)
  by_entries P pos none more (suc n) (suc k) es e le =
      let m = suc-mul n size in
      let h : size ≤ length es = omega arith in
      let l : length (drop size es) ≡ n * size = length-drop size es ∙ omega arith in
      subst (λ xs. P (suc n) xs es) (sym (entries_more at size k es h)) (more n (entries at size k (drop size es)) es h (by_entries P pos none more n k (drop size es) l (omega arith)))

  -- as many as there are
  entries_count : 0 < size → (n k : ℕ) (es : List ℕ) → length es ≡ n * size → n ≤ k → length (entries at size k es) ≡ n
  entries_count pos = by_entries (λ n xs es. length xs ≡ n) pos refl (λ n xs es le e. ap suc e)

-- entries that are bytes lie one behind the other
entries_whole : (size : ℕ) → 0 < size → (n k : ℕ) (es : List ℕ) → length es ≡ n * size → n ≤ k → joined (entries (take size) size k es) ≡ es
entries_whole size pos =
    by_entries (take size) size (λ n xs es. joined xs ≡ es) pos refl (λ n xs es le e. ap (λ ys. take size es ++ ys) e ∙ take-append-drop size es)

entries_length : (clear : List ℕ → List ℕ) (size : ℕ) → ((es : List ℕ) → size ≤ length es → length (clear es) ≡ size) → 0 < size → (n k : ℕ) (es : List ℕ) → length es ≡ n * size → n ≤ k → length (joined (entries clear size k es)) ≡ n * size
entries_length clear size same pos =
    by_entries clear size (λ n xs es. length (joined xs) ≡ n * size) pos (sym (zero-mul size))
    (λ n xs es le e. length-append (clear es) (joined xs) ∙ (let s = same es le in let m = suc-mul n size in omega arith))

-- entries that were read, written again
pub entries_back : {X : Type 0} (at : List ℕ → X) (bytes : X → List ℕ) (clear : List ℕ → List ℕ) (size : ℕ) → ((es : List ℕ) → size ≤ length es → Bytes es → bytes (at es) ≡ clear es) → (k : ℕ) (es : List ℕ) → Bytes es → joined (map bytes (entries at size k es)) ≡ joined (entries clear size k es)
unfolding entries
entries_back at bytes clear size each zero es all = refl
entries_back at bytes clear size each (suc k) es all =
    elim (cases_lt (length es) size) [
      | inl lt ↦
          ap (λ xs. joined (map bytes xs)) (entries_none at size (suc k) es lt) ∙ sym (ap joined (entries_none clear size (suc k) es lt))
      | inr le ↦
          ap (λ xs. joined (map bytes xs)) (entries_more at size k es le)
          ∙ ap (λ xs. xs ++ joined (map bytes (entries at size k (drop size es)))) (each es le all)
          ∙ ap (λ xs. clear es ++ xs) (entries_back at bytes clear size each k (drop size es) (All-drop _ size es all))
          ∙ sym (ap joined (entries_more clear size k es le))
    ]

pub past_some : {X : Type 0} (b : Bool) (x : X) → cond b None (Some x) ≡ None → b ≡ true
past_some true x e = refl
past_some false x e = absurd (let z : ◌≡◌ {A = ℕ} 0 1 = cc in omega arith)

-- a count that is right
past_count : (c : List ℕ) (at size : ℕ) → count_fault c at size ≡ None → length c ≡ at + 2 + at16 c at * size
past_count c at size e = eqb-true _ _ (past_some _ _ e)

-- a node ID, a count and entries, written from what was read
named_back : {X : Type 0} (at : List ℕ → X) (bytes : X → List ℕ) (size : ℕ) → 0 < size → ((es : List ℕ) → size ≤ length es → Bytes es → bytes (at es) ≡ take size es) → (c : List ℕ) → count_fault c 22 size ≡ None → 24 ≤ length c → Bytes c → take 22 c ++ write16 (length (entries at size (length c) (drop 2 (drop 22 c)))) (joined (map bytes (entries at size (length c) (drop 2 (drop 22 c))))) ≡ c
named_back at bytes size pos each c sound le all =
    let n = at16 c 22 in
    let es = drop 2 (drop 22 c) in
    let e : length c ≡ 24 + n * size = past_count c 22 size sound in
    let l : length es ≡ n * size = ap length (drop-drop 2 22 c) ∙ length-drop 24 c ∙ omega arith in
    let p = le-mul_of_pos_right n pos in
    let few : n ≤ length c = omega arith in
    let a = entries_count at size pos n (length c) es l few in
    let b = entries_back at bytes (take size) size each (length c) es (All-drop _ 2 _ (All-drop _ 22 c all)) in
    let d = entries_whole size pos n (length c) es l few in
    let f = back16 c 22 es (omega arith) all ∙ take-append-drop 2 (drop 22 c) in
    ap (λ m. take 22 c ++ write16 m (joined (map bytes (entries at size (length c) es)))) a
    ∙ ap (λ xs. take 22 c ++ write16 n xs) (b ∙ d)
    ∙ ap (λ xs. take 22 c ++ xs) f
    ∙ take-append-drop 22 c

pub two_kept : (bs : List ℕ) → 8 ≤ length bs → length (clear_two bs) ≡ length bs
two_kept = front (λ xs. length (clear_two xs) ≡ length xs) (λ a b c d e f g h xs. refl)

module _ (c : List ℕ) (sound : content_fault type.Summary c ≡ None) (le : 40 ≤ length c) where
  -- the descriptions fill what follows the count
  pub described_length : length (drop 40 c) ≡ at16 c 38 * 16
  described_length = let e = past_count c 38 16 sound in length-drop 40 c ∙ omega arith

  described_few : at16 c 38 ≤ length c
  described_few = let e = past_count c 38 16 sound in omega arith

  described_back : Bytes c → described_bytes (described_group c) ≡ clear_content type.Summary c
  described_back all =
      let n = length c in
      let own : List ℕ → List ℕ = λ xs. take 22 c ++ (take 14 (drop 22 c) ++ (0 ∷ 0 ∷ xs)) in
      let es = drop 40 c in
      let cs = joined (entries (λ xs. clear_two (take 16 xs)) 16 n es) in
      let a = entries_count description_at 16 (omega arith) (at16 c 38) n es described_length described_few in
      let b = entries_back description_at description_bytes (λ xs. clear_two (take 16 xs)) 16 description_back n es (All-drop _ 40 c all) in
      ap (λ xs. own (write16 (length (entries description_at 16 n xs)) (joined (map description_bytes (entries description_at 16 n xs)))))
      (drop-drop 4 14 (drop 22 c) ∙ drop-drop 18 22 c)
      ∙ ap (λ m. own (write16 m (joined (map description_bytes (entries description_at 16 n es))))) a
      ∙ ap (λ xs. own (write16 (at16 c 38) xs)) b
      ∙ ap own (back16 c 38 cs (omega arith) all)
      ∙ sym (append_assoc (take 22 c) (take 14 (drop 22 c)) (0 ∷ 0 ∷ (take 2 (drop 38 c) ++ cs)))
      ∙ sym (ap (λ xs. xs ++ (0 ∷ 0 ∷ (take 2 (drop 38 c) ++ cs))) (take-add 22 14 c))

  described_kept : length (clear_content type.Summary c) ≡ length c
  described_kept =
      let cs = joined (entries (λ xs. clear_two (take 16 xs)) 16 (length c) (drop 40 c)) in
      let e = past_count c 38 16 sound in
      let a = entries_length (λ xs. clear_two (take 16 xs)) 16 (λ es le. let l = length-take-le 16 es le in two_kept (take 16 es) (omega arith) ∙ l) (omega arith) (at16 c 38) (length c) (drop 40 c) described_length described_few in
      let b = length-append (take 36 c) (0 ∷ 0 ∷ (take 2 (drop 38 c) ++ cs)) in
      let d = length-append (take 2 (drop 38 c)) cs in
      let f = length-take-le 36 c (omega arith) in
      let l = length-drop 38 c in
      let g = length-take-le 2 (drop 38 c) (omega arith) in
      omega arith

-- a content keeps its length
pub content_kept : (t : PacketType) (c : List ℕ) → content_fault t c ≡ None → group_fixed_of t ≤ 4 + length c → length (clear_content t c) ≡ length c
content_kept type.Bundle c sound le = two_kept c (omega arith)
content_kept type.Acknowledgement c sound le = refl
content_kept type.Summary c sound le = described_kept c sound (omega arith)
content_kept type.Request c sound le = refl

-- a content written from what it says has its reserved bytes zero
pub again_clear : (t : PacketType) (c : List ℕ) → content_fault t c ≡ None → group_fixed_of t ≤ 4 + length c → Bytes c → again t c ≡ clear_content t c
again_clear type.Bundle c sound le = element_back c (omega arith)
again_clear type.Acknowledgement c sound le = named_back entry_at entry_bytes 12 (omega arith) entry_back c sound (omega arith)
again_clear type.Summary c sound le = described_back c sound (omega arith)
again_clear type.Request c sound le = named_back number_at number_bytes 4 (omega arith) number_back c sound (omega arith)

-- type and length of a group, and the header of a packet, written from what was read
frame_back : (bs rest : List ℕ) → 8 ≤ length bs → Bytes bs → write16 (at16 bs 0) (write16 (at16 bs 2) rest) ≡ take 4 bs ++ rest
frame_back bs rest le =
    front (λ xs. Bytes xs → write16 (at16 xs 0) (write16 (at16 xs 2) rest) ≡ take 4 xs ++ rest)
    (λ a b c d e f g h xs all.
    bytes16 a b _ all.0 all.1.0 ∙ ap (λ ys. a ∷ b ∷ ys) (bytes16 c d rest all.1.1.0 all.1.1.1.0))
    bs le

header_back : (bs rest : List ℕ) → 8 ≤ length bs → Bytes bs → write16 (at16 bs 0) (write16 (at16 bs 2) (get_or bs 4 0 ∷ get_or bs 5 0 ∷ get_or bs 6 0 ∷ 0 ∷ rest)) ≡ take 7 bs ++ (0 ∷ rest)
header_back bs rest le all =
    frame_back bs (get_or bs 4 0 ∷ get_or bs 5 0 ∷ get_or bs 6 0 ∷ 0 ∷ rest) le all
    ∙ front (λ xs. take 4 xs ++ (get_or xs 4 0 ∷ get_or xs 5 0 ∷ get_or xs 6 0 ∷ 0 ∷ rest) ≡ take 7 xs ++ (0 ∷ rest)) (λ a b c d e f g h xs. refl) bs le

-- no fault, so the first group keeps its layout
past_group : (go : List ℕ → Option Misfit) (bs : List ℕ) (r : Result Split GroupFault) → None ≡ after_group go bs r → (s : Split) × (Ok s ≡ r) × (None ≡ go s.rest)
past_group go bs (Ok s) e = (s, refl, e)
past_group go bs (Err f) e = absurd (let z : ◌≡◌ {A = ℕ} 0 1 = cc in omega arith)

module _ (t : PacketType) where
  -- the content of a group, by its length
  pub split_content : (bs : List ℕ) (s : Split) → Ok s ≡ split_group t bs → 4 + length s.content ≡ at16 bs 2
  split_content bs s e =
      let f = split_facts t bs s e in
      let g = fixed_least t in
      let l = length-take-le (at16 bs 2) bs f.most in
      let h : length s.content ≡ at16 bs 2 - 4 = ap length f.content ∙ length-drop 4 (take (at16 bs 2) bs) ∙ omega arith in
      omega (arith, f.least)

  clear_none : (k : ℕ) (bs : List ℕ) → length bs ≡ 0 → clear_groups k t bs ≡ []
  unfolding clear_groups
  clear_none zero bs e = nil_from_length bs e
  clear_none (suc k) bs e = cond-true _ _ _ (eq-eqb (length bs) 0 e)

  clear_more : (k : ℕ) (bs : List ℕ) (s : Split) → 0 < length bs → Ok s ≡ split_group t bs → clear_groups (suc k) t bs ≡ take 4 bs ++ (clear_content t s.content ++ clear_groups k t s.rest)
  unfolding clear_groups
  clear_more k bs s lt e =
      cond-false _ _ _ (ne_eqb (length bs) 0 (λ z. omega arith)) ∙ sym (ap (clear_group (clear_groups k t) t bs) e)

  contents_none : (k : ℕ) (bs : List ℕ) → length bs ≡ 0 → contents k t bs ≡ []
  unfolding contents
  contents_none zero bs e = refl
  contents_none (suc k) bs e = cond-true _ _ _ (eq-eqb (length bs) 0 e)

  fault_past : (k : ℕ) (bs : List ℕ) → 0 < length bs → None ≡ first_fault (suc k) t bs → (s : Split) × (Ok s ≡ split_group t bs) × (None ≡ first_fault k t s.rest)
  unfolding first_fault
  fault_past k bs lt e =
      past_group (first_fault k t) bs (split_group t bs) (e ∙ cond-false _ _ _ (ne_eqb (length bs) 0 (λ z. omega arith)))

  -- what holds of no groups, and of one more, holds of groups that all keep their layout
  by_groups : (P : List (List ℕ) → List ℕ → List ℕ → Type 0) → P [] [] [] → ((cs : List (List ℕ)) (out bs : List ℕ) (s : Split) → Ok s ≡ split_group t bs → P cs out s.rest → P (s.content ∷ cs) (take 4 bs ++ (clear_content t s.content ++ out)) bs) → (j k : ℕ) (bs : List ℕ) → length bs ≤ j → length bs ≤ k → None ≡ first_fault j t bs → P (contents j t bs) (clear_groups k t bs) bs
  by_groups P none more j k ([]) lj lk e =
      subst (λ cs. P cs (clear_groups k t []) []) (sym (contents_none j [] refl)) (subst (λ out. P [] out []) (sym (clear_none k [] refl)) none)
  by_groups P none more zero k (b ∷ bs) lj lk e = absurd (omega arith)
  by_groups P none more (suc j) zero (b ∷ bs) lj lk e = absurd (omega arith)
  by_groups P none more (suc j) (suc k) (b ∷ bs) lj lk e =
      let g = fault_past j (b ∷ bs) (omega arith) e in
      let s = g.0 in
      let h = split_shorter t (b ∷ bs) s g.1 in
      let r = by_groups P none more j k s.rest (omega arith) (omega arith) g.2 in
      subst (λ cs. P cs (clear_groups (suc k) t (b ∷ bs)) (b ∷ bs)) (sym (contents_more t j (b ∷ bs) s g.1))
      (subst (λ out. P (s.content ∷ contents j t s.rest) out (b ∷ bs)) (sym (clear_more k (b ∷ bs) s (omega arith) g.1))
      (more (contents j t s.rest) (clear_groups k t s.rest) (b ∷ bs) s g.1 r))

  -- groups keep their length
  groups_kept : (k : ℕ) (bs : List ℕ) → length bs ≤ k → None ≡ first_fault (length bs) t bs → length (clear_groups k t bs) ≡ length bs
  groups_kept k bs le =
      by_groups (λ cs out bs. length out ≡ length bs) refl
      (λ cs out bs s e h.
      let f = split_facts t bs s e in
      let g = fixed_least t in
      let l = split_content bs s e in
      let a = content_kept t s.content f.sound (omega (arith, f.least)) in
      let b : length s.rest ≡ length bs - at16 bs 2 = ap length f.rest ∙ length-drop (at16 bs 2) bs in
      let c = length-append (take 4 bs) (clear_content t s.content ++ out) in
      let d = length-append (clear_content t s.content) out in
      let i = length-take-le 4 bs (omega (arith, f.least, f.most)) in
      omega (arith, f.least, f.most))
      (length bs) k bs (omega arith) le

-- groups that were read, written again
groups_back : {X : Type 0} (t : PacketType) (at : List ℕ → X) (bytes : X → List ℕ) → ((c : List ℕ) → content_fault t c ≡ None → group_fixed_of t ≤ 4 + length c → Bytes c → bytes (at c) ≡ clear_content t c) → (k : ℕ) (bs : List ℕ) → length bs ≤ k → Bytes bs → None ≡ first_fault (length bs) t bs → joined (map (framed t) (map bytes (map at (contents (length bs) t bs)))) ≡ clear_groups k t bs
groups_back t at bytes again k bs le all e =
    by_groups t (λ cs out bs. Bytes bs → joined (map (framed t) (map bytes (map at cs))) ≡ out) (λ all. refl)
    (λ cs out bs s e h all.
    let f = split_facts t bs s e in
    let g = fixed_least t in
    let c = s.content in
    let l = split_content t bs s e in
    let sound = f.sound in
    let fixed : group_fixed_of t ≤ 4 + length c = omega (arith, f.least) in
    let whole : Bytes c = subst Bytes (sym f.content) (All-drop _ 4 _ (All-take _ (at16 bs 2) bs all)) in
    let rest : Bytes s.rest = subst Bytes (sym f.rest) (All-drop _ (at16 bs 2) bs all) in
    let a : bytes (at c) ≡ clear_content t c = again c sound fixed whole in
    let b : 4 + length (clear_content t c) ≡ at16 bs 2 = ap (λ n. 4 + n) (content_kept t c sound fixed) ∙ l in
    ap (λ xs. framed t xs ++ joined (map (framed t) (map bytes (map at cs)))) a
    ∙ ap (λ xs. framed t (clear_content t c) ++ xs) (h rest)
    ∙ ap (λ n. write16 (group_number_of t) (write16 n (clear_content t c ++ out))) b
    ∙ ap (λ n. write16 n (write16 (at16 bs 2) (clear_content t c ++ out))) (sym f.number)
    ∙ frame_back bs (clear_content t c ++ out) (omega (arith, f.least, f.most)) all)
    (length bs) k bs (omega arith) le e all

-- what stands behind the header
abbrev written : Said → List ℕ
written s = said_fixed s ++ joined (map (framed (said_type s)) (said_contents s))

-- what is known of the part behind a header
record PartBack (t : PacketType) (part : List ℕ) (r : Raw) : Type 0 where
  of_type : said_type (said r) ≡ t
  back : written (said r) ≡ clear_part (Some t) part
  kept : length (clear_part (Some t) part) ≡ length part

-- a part that is long enough for its fixed fields
bundle_fits : (part : List ℕ) (r : Raw) → Some r ≡ part_of type.Bundle part → (36 ≤ length part) × (r ≡ bundle (take 22 part) (take 14 (drop 22 part)) (drop 14 (drop 22 part)))
bundle_fits part r e =
    elim (cases_Bool (ltb (length part) 36)) [
      | inl q ↦
          absurd (let h : Some r ≡ None = rw q at e in let z : ◌≡◌ {A = ℕ} 0 1 = cc in omega arith)
      | inr q ↦
          (ltb-false _ _ q, let h : Some r ≡ Some (bundle (take 22 part) (take 14 (drop 22 part)) (drop 14 (drop 22 part))) = rw q at e in cc)
    ]

summary_fits : (part : List ℕ) (r : Raw) → Some r ≡ part_of type.Summary part → (8 ≤ length part) × (r ≡ summary (at16 (take 8 part) 0) (at32 (take 8 part) 4) (drop 8 part))
summary_fits part r e =
    elim (cases_Bool (ltb (length part) 8)) [
      | inl q ↦
          absurd (let h : Some r ≡ None = rw q at e in let z : ◌≡◌ {A = ℕ} 0 1 = cc in omega arith)
      | inr q ↦
          (ltb-false _ _ q, let h : Some r ≡ Some (summary (at16 (take 8 part) 0) (at32 (take 8 part) 4) (drop 8 part)) = rw q at e in cc)
    ]

part_back : (t : PacketType) (part : List ℕ) (r : Raw) → Some r ≡ part_of t part → Bytes part → None ≡ first_fault (length (groups_of r)) t (groups_of r) → PartBack t part r
part_back type.Bundle part r e all sound =
    let f = bundle_fits part r e in
    let le : 36 ≤ length part = f.0 in
    let gs = drop 36 part in
    let q : r ≡ bundle (take 22 part) (take 14 (drop 22 part)) gs = f.1 ∙ ap (bundle (take 22 part) (take 14 (drop 22 part))) (drop-drop 14 22 part) in
    let n : None ≡ first_fault (length gs) type.Bundle gs = subst (λ v. None ≡ first_fault (length (groups_of v)) type.Bundle (groups_of v)) q sound in
    let l = length-drop 36 part in
    let w = groups_back type.Bundle element_at element_bytes (again_clear type.Bundle) (length part) gs (omega arith) (All-drop _ 36 part all) n in
    let k = groups_kept type.Bundle (length part) gs (omega arith) n in
    subst (PartBack type.Bundle part) (sym q)
    (record {
      of_type = refl;
      back = ap (λ xs. (take 22 part ++ take 14 (drop 22 part)) ++ xs) w ∙ sym (ap (λ xs. xs ++ clear_groups (length part) type.Bundle gs) (take-add 22 14 part));
      kept = length-append (take 36 part) (clear_groups (length part) type.Bundle gs) ∙ (let m = length-take-le 36 part le in omega arith);
    })
part_back type.Acknowledgement part r e all sound =
    let q : r ≡ acknowledgement part = cc in
    let n : None ≡ first_fault (length part) type.Acknowledgement part = subst (λ v. None ≡ first_fault (length (groups_of v)) type.Acknowledgement (groups_of v)) q sound in
    subst (PartBack type.Acknowledgement part) (sym q)
    (record {
      of_type = refl;
      back = groups_back type.Acknowledgement acknowledged_group acknowledged_bytes (again_clear type.Acknowledgement) (length part) part (omega arith) all n;
      kept = groups_kept type.Acknowledgement (length part) part (omega arith) n;
    })
part_back type.Summary part r e all sound =
    let f = summary_fits part r e in
    let le : 8 ≤ length part = f.0 in
    let gs = drop 8 part in
    let n : None ≡ first_fault (length gs) type.Summary gs = subst (λ v. None ≡ first_fault (length (groups_of v)) type.Summary (groups_of v)) f.1 sound in
    let l = length-drop 8 part in
    let w = groups_back type.Summary described_group described_bytes (again_clear type.Summary) (length part) gs (omega arith) (All-drop _ 8 part all) n in
    let k = groups_kept type.Summary (length part) gs (omega arith) n in
    subst (PartBack type.Summary part) (sym f.1)
    (record {
      of_type = refl;
      back = eight_back part _ le all ∙ ap (λ xs. clear_two (take 8 part) ++ xs) w;
      kept = length-append (clear_two (take 8 part)) (clear_groups (length part) type.Summary gs) ∙ (let m = length-take-le 8 part le in let d = two_kept (take 8 part) (omega arith) in omega arith);
    })
part_back type.Request part r e all sound =
    let q : r ≡ request part = cc in
    let n : None ≡ first_fault (length part) type.Request part = subst (λ v. None ≡ first_fault (length (groups_of v)) type.Request (groups_of v)) q sound in
    subst (PartBack type.Request part) (sym q)
    (record {
      of_type = refl;
      back = groups_back type.Request requested_group requested_bytes (again_clear type.Request) (length part) part (omega arith) all n;
      kept = groups_kept type.Request (length part) part (omega arith) n;
    })

-- what is known of a packet whose header was read
record HeaderKnown (bs : List ℕ) (h : Header) : Type 0 where
  least : 8 ≤ length bs
  most : length bs ≤ 2048
  whole : at16 bs 2 ≡ length bs
  version : get_or bs 4 0 ≡ 1
  of_type : type_of (at16 bs 0) ≡ Some h.packet_type
  newest : h.newest ≡ get_or bs 5 0
  oldest : h.oldest ≡ get_or bs 6 0

past_type : (bs : List ℕ) (h : Header) (o : Option PacketType) → Ok h ≡ typed_header bs o → (o ≡ Some h.packet_type) × (h.newest ≡ get_or bs 5 0) × (h.oldest ≡ get_or bs 6 0)
past_type bs h None e = absurd (let z : ◌≡◌ {A = ℕ} 0 1 = cc in omega arith)
past_type bs h (Some t) e =
    let q : h ≡ record { packet_type = t; newest = get_or bs 5 0; oldest = get_or bs 6 0 } = cc in
    (sym (ap (λ v. Some v.packet_type) q), ap (λ v. v.newest) q, ap (λ v. v.oldest) q)

header_known : (bs : List ℕ) (h : Header) → Ok h ≡ header_of bs → HeaderKnown bs h
header_known bs h e =
    let a = past_fault _ _ _ _ e in
    let b = past_fault _ _ _ _ a.1 in
    let c = past_else _ _ _ _ b.1 in
    let d = past_else _ _ _ _ c.1 in
    let f = past_type bs h (type_of (at16 bs 0)) d.1 in
    record {
      least = ltb-false _ _ a.0;
      most = ltb-false _ _ b.0;
      whole = eqb-true _ _ c.0;
      version = eqb-true _ _ d.0;
      of_type = f.0;
      newest = f.1;
      oldest = f.2;
    }

-- the number of a type that was read
pub type_number : (n : ℕ) (t : PacketType) → type_of n ≡ Some t → number_of t ≡ n
type_number n type.Bundle e = grind (arith, nat_tests)
type_number n type.Acknowledgement e = grind (arith, nat_tests)
type_number n type.Summary e = grind (arith, nat_tests)
type_number n type.Request e = grind (arith, nat_tests)

headed_back : (bs : List ℕ) (h : Header) (out : List ℕ) → HeaderKnown bs h → Bytes bs → 8 + length out ≡ at16 bs 2 → headed h.packet_type h.newest h.oldest out ≡ take 7 bs ++ (0 ∷ out)
headed_back bs h out k all e =
    let t = type_number (at16 bs 0) h.packet_type k.of_type in
    let v = k.version in
    let n = k.newest in
    let o = k.oldest in
    cc (header_back bs out k.least all)

past_header : (bs : List ℕ) (p : PacketView) (o : Result Header HeaderFault) → Ok p ≡ decode_header bs o → (h : Header) × (Ok h ≡ o) × (Ok p ≡ decode_part (length bs) h (part_of h.packet_type (drop 8 bs)))
past_header bs p (Ok h) e = (h, refl, e)
past_header bs p (Err f) e = absurd (let z : ◌≡◌ {A = ℕ} 0 1 = cc in omega arith)

past_part : (n : ℕ) (h : Header) (p : PacketView) (o : Option Raw) → Ok p ≡ decode_part n h o → (r : Raw) × (Some r ≡ o) × (Ok p ≡ checked n h r (first_fault (length (groups_of r)) h.packet_type (groups_of r)))
past_part n h p None e = absurd (let z : ◌≡◌ {A = ℕ} 0 1 = cc in omega arith)
past_part n h p (Some r) e = (r, refl, e)

past_check : (n : ℕ) (h : Header) (r : Raw) (p : PacketView) (o : Option Misfit) → Ok p ≡ checked n h r o → (None ≡ o) × (p ≡ record { newest = h.newest; oldest = h.oldest; said = said r })
past_check n h r p None e = (refl, cc)
past_check n h r p (Some m) e = absurd (let z : ◌≡◌ {A = ℕ} 0 1 = cc in omega arith)

-- A packet that was read is written back byte for byte, but for reserved bytes, which are zero.
pub written_back : (bs : List ℕ) (p : PacketView) → Bytes bs → Ok p ≡ decode bs → Back bs p
written_back bs p all e =
    let a = past_header bs p (header_of bs) e in
    let h = a.0 in
    let part = drop 8 bs in
    let b = past_part (length bs) h p (part_of h.packet_type part) a.2 in
    let r = b.0 in
    let c = past_check (length bs) h r p _ b.2 in
    let k = header_known bs h a.1 in
    let q = part_back h.packet_type part r b.1 (All-drop _ 8 bs all) c.0 in
    let out = clear_part (Some h.packet_type) part in
    let l : 8 + length out ≡ at16 bs 2 = let m = length-drop 8 bs in omega (arith, q.kept, k.least, k.whole) in
    let w : encode p ≡ headed h.packet_type h.newest h.oldest out = ap encode c.1 ∙ ap (λ t. headed t h.newest h.oldest (written (said r))) q.of_type ∙ ap (headed h.packet_type h.newest h.oldest) q.back in
    record {
      bytes = w ∙ headed_back bs h out k all l ∙ sym (ap (λ o. take 7 bs ++ (0 ∷ clear_part o part)) k.of_type);
      long = ap length w ∙ omega (arith, k.whole);
      short = k.most;
    }
