-- A packet that is being written. Assumes nothing.
use Rattle.std.specs.Prelude.{◌≡◌, ℕ, ◌+◌, ◌-◌, ◌/◌, ◌%◌, ◌≤◌, min, Bool, cond, List, [], ◌∷◌, ◌++◌, length, take, drop, Ok, Err, Result, nat_le, slice_set}
use Rattle.kinds.specs.BigEndian.{write16}
use Rattle.packets.specs.declared.header.HeaderFault.{HeaderFault}
use Rattle.packets.specs.declared.header.HeaderFault.TheVariants.{Long}
use Rattle.packets.specs.declared.layout.PacketType.{PacketType}
use Rattle.writer.specs.declared.states.Declined.{Declined}
use Rattle.writer.specs.declared.states.Finished.{Finished}
use Rattle.writer.specs.declared.states.GroupOpen.{GroupOpen}
use Rattle.writer.specs.declared.states.Open.{Open}
use Rattle.packets.specs.Layouts.{number_of, group_number_of}

-- some bytes in the place of those that stood there; what lies before and behind them stays
abbrev pub pasted : ℕ → List ℕ → List ℕ → List ℕ
pasted at bs buffer = take at buffer ++ (bs ++ drop (at + length bs) buffer)

abbrev pub put16_at : ℕ → ℕ → List ℕ → List ℕ
put16_at at n buffer = slice_set (slice_set buffer at (n / 256 % 256)) (at + 1) (n % 256)

-- more bytes behind a packet of some length pass neither 2,048 bytes nor the end of the buffer
abbrev pub fits_in : ℕ → ℕ → ℕ → Bool
fits_in len buffer more = nat_le (len + more) (min buffer 2048)

-- type, no length yet, version 1, newest, oldest, reserved, and the part after the header
abbrev pub begin_bytes : PacketType → ℕ → ℕ → List ℕ → List ℕ → List ℕ
begin_bytes t newest oldest a b = write16 (number_of t) (0 ∷ 0 ∷ 1 ∷ newest ∷ oldest ∷ 0 ∷ (a ++ (b ++ [])))

abbrev pub begun : ℕ → List ℕ → List ℕ → Result Open HeaderFault
begun buffer a b =
    cond (fits_in 0 buffer (8 + (length a + (length b + 0)))) (Ok (record { len = 8 + length a + length b })) (Err Long)

abbrev pub begun_bytes : List ℕ → PacketType → ℕ → ℕ → List ℕ → List ℕ → List ℕ
begun_bytes buffer t newest oldest a b =
    cond (fits_in 0 (length buffer) (8 + (length a + (length b + 0)))) (pasted 0 (begin_bytes t newest oldest a b) buffer) buffer

-- type, no length yet, and what the group begins with
abbrev pub group_bytes : PacketType → List ℕ → List ℕ → List ℕ → List ℕ
group_bytes t a b c = write16 (group_number_of t) (0 ∷ 0 ∷ (a ++ (b ++ c)))

abbrev pub grouped : Open → ℕ → List ℕ → List ℕ → List ℕ → Result GroupOpen (Declined Open)
grouped o buffer a b c =
    cond (fits_in o.len buffer (4 + (length a + (length b + length c))))
    (Ok (record { start = o.len; len = o.len + (4 + length a + length b + length c) }))
    (Err (record { state = o; fault = Long }))

abbrev pub grouped_bytes : Open → List ℕ → PacketType → List ℕ → List ℕ → List ℕ → List ℕ
grouped_bytes o buffer t a b c =
    cond (fits_in o.len (length buffer) (4 + (length a + (length b + length c))))
    (pasted o.len (group_bytes t a b c) buffer) buffer

abbrev pub added : GroupOpen → ℕ → List ℕ → List ℕ → Result GroupOpen (Declined GroupOpen)
added g buffer a b =
    cond (fits_in g.len buffer (0 + (length a + (length b + 0))))
    (Ok (record { start = g.start; len = g.len + (length a + length b) }))
    (Err (record { state = g; fault = Long }))

abbrev pub added_bytes : GroupOpen → List ℕ → List ℕ → List ℕ → List ℕ
added_bytes g buffer a b =
    cond (fits_in g.len (length buffer) (0 + (length a + (length b + 0)))) (pasted g.len (a ++ (b ++ [])) buffer) buffer

abbrev pub closed : GroupOpen → Open
closed g = record { len = g.len }

-- the group's length stands behind its type
abbrev pub closed_bytes : GroupOpen → List ℕ → List ℕ
closed_bytes g buffer = put16_at (g.start + 2) (g.len - g.start) buffer

abbrev pub finished : Open → Finished
finished o = record { len = o.len }

-- the packet's length stands behind its type
abbrev pub finished_bytes : Open → List ℕ → List ℕ
finished_bytes o buffer = put16_at 2 o.len buffer

-- more bytes fit behind a packet of some length, within the buffer and the longest packet
abbrev pub HasRoom : ℕ → ℕ → List ℕ → Type 0
HasRoom len more buffer = len + more ≤ min (length buffer) 2048

-- some bytes stand behind a packet of some length, which now ends behind them
pub record Appended (len : ℕ) (bytes before : List ℕ) (end : ℕ) (after : List ℕ) : Type 0 where
  pub state : end ≡ len + length bytes
  pub stands : after ≡ pasted len bytes before
