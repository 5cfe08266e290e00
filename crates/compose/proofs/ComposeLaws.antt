-- What the steps of writing a packet of ours leave in the buffer. Assumes nothing.
use Rattle.std.proofs.Common.{◌≡◌, ℕ, ◌+◌, ◌-◌, ◌*◌, ◌<◌, ◌≤◌, Bool, true, List, [], ◌∷◌, ◌++◌, map, length, get_or, drop, None, Some, Option, sym, refl, ap, ◌∙◌, arith, length-append}
use Rattle.std.proofs.lemmas.Bool.{cond-true}
use Rattle.std.proofs.lemmas.List.{append-nil, at_drop_more}
use Rattle.std.specs.Option.{option_flatten, unwrap_or}
use Rattle.kinds.specs.BigEndian.{write16}
use Rattle.packets.specs.declared.layout.PacketType.{PacketType}
use Rattle.packets.specs.Contents.{PacketView}
use Rattle.packets.specs.Encodings.{encode, framed, headed, joined}
use Rattle.packets.specs.Layouts.{group_number_of, number_of}
use Rattle.writer.specs.declared.states.GroupOpen.{GroupOpen}
use Rattle.writer.specs.declared.states.Finished.{Finished}
use Rattle.writer.specs.declared.states.Open.{Open}
use Rattle.writer.specs.Writers.{Appended, begin_bytes, closed, closed_bytes, finished, finished_bytes, group_bytes, pasted, put16_at}
use Rattle.writer.proofs.WriterLaws.{pasted_twice, put_behind}
use Rattle.exchange.specs.Selections.{group_at, groups_at}
use Rattle.compose.specs.Composed.{composed, composed_length, needed}
use Rattle.compose.specs.Framed.{groups_bytes, one_bytes}

-- an element that may be missing and may hold nothing
pub flatten_is : {X : Type 0} (x : Option (Option X)) → option_flatten x ≡ unwrap_or x None
flatten_is None = refl
flatten_is (Some x) = refl

-- what is left to write behind a packet of a length makes the whole, as written from where it began
pub record Leads (at : ℕ) (rest buffer : List ℕ) (from : ℕ) (all before : List ℕ) : Type 0 where
  pub state : at + length rest ≡ from + length all
  pub bytes : pasted at rest buffer ≡ pasted from all before

-- the first of what is left was written
pub leads_more : (at : ℕ) (rest buffer : List ℕ) (from : ℕ) (all before x behind : List ℕ) (end : ℕ) (out : List ℕ) → Leads at rest buffer from all before → rest ≡ x ++ behind → Appended at x buffer end out → end ≤ length buffer → Leads end behind out from all before
leads_more at rest buffer from all before x behind end out s e w le = record {
  state = omega (arith, s.state, w.state, ap length e, length-append x behind);
  bytes = ap (pasted end behind) w.stands ∙ pasted_twice at end x behind buffer w.state le ∙ ap (λ ys. pasted at ys buffer) (sym e) ∙ s.bytes;
}

-- how far the groups for some places were written
pub record Grouped {X : Type 0} (f : ℕ → X → List ℕ) (most : ℕ → ℕ) (xs : List (Option X)) (ps : List ℕ) (from : ℕ) (before : List ℕ) (i at : ℕ) (buffer : List ℕ) : Type 0 where
  pub written : Leads at (groups_bytes f xs (drop i ps)) buffer from (groups_bytes f xs ps) before
  pub room : at + needed most (drop i ps) ≤ from + needed most ps

module _ {X : Type 0} (f : ℕ → X → List ℕ) (most : ℕ → ℕ) (xs : List (Option X)) (ps : List ℕ) (from : ℕ) (before : List ℕ) (i at : ℕ) (buffer : List ℕ) (s : Grouped f most xs ps from before i at buffer) (lt : i < length ps) where
  needed_more : needed most (drop i ps) ≡ most (get_or ps i 0) + needed most (drop (i + 1) ps)
  needed_more = at_drop_more (needed most) ps i 0 lt

  groups_more : (x : Option X) → get_or xs (get_or ps i 0) None ≡ x → groups_bytes f xs (drop i ps) ≡ one_bytes f (get_or ps i 0) x ++ groups_bytes f xs (drop (i + 1) ps)
  groups_more x e =
      at_drop_more (groups_bytes f xs) ps i 0 lt ∙ ap (λ y. one_bytes f (get_or ps i 0) y ++ groups_bytes f xs (drop (i + 1) ps)) e

  -- there is room for the next one
  pub grouped_room : (n : ℕ) → from + needed most ps ≤ n → at + most (get_or ps i 0) ≤ n
  grouped_room n room = omega (arith, needed_more, s.room)

  -- a free place takes nothing
  pub grouped_free : get_or xs (get_or ps i 0) None ≡ None → Grouped f most xs ps from before (i + 1) at buffer
  grouped_free free =
      let e = groups_more None free in
      record {
        written = record {
          state = omega (arith, s.written.state, ap length e);
          bytes = ap (λ ys. pasted at ys buffer) (sym e) ∙ s.written.bytes;
        };
        room = omega (arith, needed_more, s.room);
      }

  -- a held place takes its group
  pub grouped_held : (x : X) (end : ℕ) (out : List ℕ) → get_or xs (get_or ps i 0) None ≡ Some x → Appended at (f (get_or ps i 0) x) buffer end out → end ≤ at + most (get_or ps i 0) → from + needed most ps ≤ length buffer → Grouped f most xs ps from before (i + 1) end out
  grouped_held x end out held w le room = record {
    written = leads_more at _ buffer from _ before _ _ end out s.written (groups_more (Some x) held) w (omega (arith, needed_more, s.room));
    room = omega (arith, needed_more, s.room);
  }

-- a group begun, filled and closed is the group framed
pub group_written : (at len : ℕ) (t : PacketType) (a b c es buffer : List ℕ) → len ≡ at + (4 + (length a + (length b + length c))) → len ≤ length buffer → put16_at (at + 2) (len + length es - at) (pasted len es (pasted at (group_bytes t a b c) buffer)) ≡ pasted at (framed t ((a ++ (b ++ c)) ++ es)) buffer
group_written at len t a b c es buffer e le =
    let content = (a ++ (b ++ c)) ++ es in
    let l = length-append (a ++ (b ++ c)) es in
    let m = length-append a (b ++ c) in
    let k = length-append b c in
    let whole : len + length es - at ≡ 4 + length content = omega arith in
    ap (put16_at (at + 2) (len + length es - at)) (pasted_twice at len (group_bytes t a b c) es buffer (omega arith) le)
    ∙ put_behind at (group_number_of t) (len + length es - at) content buffer (omega arith)
    ∙ ap (λ n. pasted at (write16 (group_number_of t) (write16 n content)) buffer) whole

-- a group opened, filled with some bytes and closed
pub group_filled : (at : ℕ) (t : PacketType) (a b c es all buffer mid last out : List ℕ) (g h : GroupOpen) (o : Open) → g ≡ record { start = at; len = at + (4 + (length a + (length b + length c))) } → mid ≡ pasted at (group_bytes t a b c) buffer → h.start ≡ g.start → Appended g.len es mid h.len last → o ≡ closed h → out ≡ closed_bytes h last → at + (4 + (length a + (length b + length c))) ≤ length buffer → framed t ((a ++ (b ++ c)) ++ es) ≡ all → Appended at all buffer o.len out
group_filled at t a b c es all buffer mid last out g h o p m q w k x le e =
    let len = at + (4 + (length a + (length b + length c))) in
    let start : h.start ≡ at = q ∙ ap (λ y. y.start) p in
    let long : h.len ≡ len + length es = w.state ∙ ap (λ y. y.len + length es) p in
    let stands : last ≡ pasted len es (pasted at (group_bytes t a b c) buffer) = w.stands ∙ ap (λ y. pasted y.len es mid) p ∙ ap (pasted len es) m in
    record {
      state = omega (arith, long, ap (λ y. y.len) k, ap length e, length-append (a ++ (b ++ c)) es, length-append a (b ++ c), length-append b c);
      stands = x ∙ ap (λ n. put16_at (n + 2) (h.len - n) last) start
          ∙ ap (λ n. put16_at (at + 2) (n - at) last) long
          ∙ ap (put16_at (at + 2) (len + length es - at)) stands
          ∙ group_written at len t a b c es buffer refl le
          ∙ ap (λ ys. pasted at ys buffer) e;
    }

-- places that take the same each
pub needed_each : (n : ℕ) (ps : List ℕ) → needed (λ p. n) ps ≡ length ps * n
needed_each n [] = omega arith
needed_each n (p ∷ ps) = let h = needed_each n ps in omega arith

-- the groups of some places, framed one behind the other
pub groups_framed : {X G : Type 0} (t : PacketType) (bytes : G → List ℕ) (g : ℕ → X → G) (xs : List (Option X)) (ps : List ℕ) → joined (map (framed t) (map bytes (groups_at g xs ps))) ≡ groups_bytes (λ p x. framed t (bytes (g p x))) xs ps
groups_framed {X} {G} t bytes g xs [] = refl
groups_framed {X} {G} t bytes g xs (p ∷ ps) =
    one (get_or xs p None) (groups_at g xs ps) ∙ ap (λ ys. one_bytes (λ p x. framed t (bytes (g p x))) p (get_or xs p None) ++ ys) (groups_framed t bytes g xs ps)
  where
    one : (x : Option X) (gs : List G) → joined (map (framed t) (map bytes (group_at g p x gs))) ≡ one_bytes (λ p x. framed t (bytes (g p x))) p x ++ joined (map (framed t) (map bytes gs))
    one None gs = refl
    one (Some x) gs = refl

-- a header begun, groups behind it, and the length put in: the packet
pub packet_written : (t : PacketType) (a b gs buffer : List ℕ) (at : ℕ) (o : Open) (mid last out : List ℕ) (f : Finished) → at ≡ 8 + (length a + length b) → mid ≡ pasted 0 (begin_bytes t 1 1 a b) buffer → Appended at gs mid o.len last → f ≡ finished o → out ≡ finished_bytes o last → at ≤ length buffer → Appended 0 (headed t 1 1 ((a ++ b) ++ gs)) buffer f.len out
packet_written t a b gs buffer at o mid last out f e m w k x le =
    let part = (a ++ (b ++ [])) ++ gs in
    let same : part ≡ (a ++ b) ++ gs = ap (λ xs. (a ++ xs) ++ gs) (append-nil b) in
    let i = length-append a (b ++ []) in
    let j = length-append b [] in
    let l = length-append (a ++ (b ++ [])) gs in
    let n : o.len ≡ 8 + length part = omega (arith, w.state) in
    record {
      state = omega (arith, n, ap (λ y. y.len) k, ap length same);
      stands = x ∙ ap (put16_at 2 o.len) (w.stands ∙ ap (pasted at gs) m ∙ pasted_twice 0 at (begin_bytes t 1 1 a b) gs buffer (omega arith) le)
          ∙ put_behind 0 (number_of t) o.len (1 ∷ 1 ∷ 1 ∷ 0 ∷ part) buffer (omega arith)
          ∙ ap (λ m. pasted 0 (write16 (number_of t) (write16 m (1 ∷ 1 ∷ 1 ∷ 0 ∷ part))) buffer) n
          ∙ ap (λ xs. pasted 0 (headed t 1 1 xs) buffer) same;
    }

-- what is written where the guard holds
pub written_whole : (fits : Bool) (view : PacketView) (bytes buffer : List ℕ) (n : ℕ) (out : List ℕ) → fits ≡ true → encode view ≡ bytes → Appended 0 bytes buffer n out → (Some n ≡ composed_length fits view) × (out ≡ composed fits view buffer)
written_whole fits view bytes buffer n out holds e w =
    let l : n ≡ length bytes = omega (arith, w.state) in (
      ap Some (l ∙ sym (ap length e)) ∙ sym (cond-true _ _ _ holds),
      w.stands ∙ sym (ap (λ ys. pasted 0 ys buffer) e) ∙ sym (cond-true _ _ _ holds),
    )
