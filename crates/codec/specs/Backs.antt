-- Writing back a packet that was read. Assumes nothing.
use Rattle.std.specs.Prelude.{◌≡◌, ℕ, ◌<◌, ◌≤◌, cond, List, [], ◌∷◌, map, length, take, Ok, Err, Result, nat_lt}
use Rattle.kinds.specs.BigEndian.{write16, write32}
use Rattle.packets.specs.declared.layout.PacketType.{PacketType}
use Rattle.packets.specs.declared.layout.PacketType.TheVariants as type
use Rattle.packets.specs.declared.packet.Fault.{Fault}
use Rattle.packets.specs.declared.packet.Packet.{Packet}
use Rattle.packets.specs.Bundles.{element_at}
use Rattle.packets.specs.Contents.{PacketView, Raw, acknowledged_group, described_group, entries, raw_type, raw, requested_group, said}
use Rattle.packets.specs.Contents.Raw.{bundle, acknowledgement, summary, request}
use Rattle.packets.specs.Cleared.{clear_two, cleared}
use Rattle.packets.specs.Encodings.{acknowledged_bytes, described_bytes, element_bytes, encode, framed, joined, requested_bytes}
use Rattle.packets.specs.Groups.{contents}
use Rattle.writer.specs.Writers.{pasted}
use Rattle.codec.specs.declared.back.NotWritten.{NotWritten}
use Rattle.codec.specs.declared.back.NotWritten.TheVariants as not_written
use Rattle.codec.specs.Reports.{Reported}

-- the packet's own length, where the buffer has it
abbrev pub back_answer : Result PacketView Fault → ℕ → ℕ → Result ℕ NotWritten
back_answer (Err f) n room = Err (not_written.Fault f)
back_answer (Ok p) n room = cond (nat_lt room n) (Err not_written.Room) (Ok n)

-- what the packet says, written anew; what lies behind it stays
abbrev pub back_bytes : Result PacketView Fault → ℕ → List ℕ → List ℕ
back_bytes (Err f) n buffer = buffer
back_bytes (Ok p) n buffer = cond (nat_lt (length buffer) n) buffer (pasted 0 (encode p) buffer)

-- why nothing is written
abbrev pub Reason : List ℕ → ℕ → NotWritten → Type 0
Reason bs room (not_written.Fault f) = Reported bs f
Reason bs room not_written.Room = room < length bs

abbrev pub view_of : Packet → PacketView
view_of p = record { newest = p.newest; oldest = p.oldest; said = said (raw p.content) }

-- the part after the header, in two pieces
abbrev pub first_part : Raw → List ℕ
first_part (bundle n g bs) = n
first_part (acknowledgement bs) = []
first_part (summary f d bs) = write16 f (0 ∷ 0 ∷ write32 d [])
first_part (request bs) = []

abbrev pub second_part : Raw → List ℕ
second_part (bundle n g bs) = g
second_part (acknowledgement bs) = []
second_part (summary f d bs) = []
second_part (request bs) = []

abbrev pub part_type : Packet → PacketType
part_type p = raw_type (raw p.content)

-- descriptions with their reserved bytes zero
abbrev pub cleared_entries : ℕ → List ℕ → List ℕ
cleared_entries k es = joined (entries (λ ds. clear_two (take 16 ds)) 16 k es)

-- the content of a group, written from what it says
abbrev pub again : PacketType → List ℕ → List ℕ
again type.Bundle c = element_bytes (element_at c)
again type.Acknowledgement c = acknowledged_bytes (acknowledged_group c)
again type.Summary c = described_bytes (described_group c)
again type.Request c = requested_bytes (requested_group c)

abbrev pub group_again : PacketType → List ℕ → List ℕ
group_again t c = framed t (again t c)

abbrev pub groups_again : ℕ → PacketType → List ℕ → List ℕ
groups_again k t bs = joined (map (group_again t) (contents k t bs))

-- what was read is written as the same bytes, but for reserved ones
pub record Back (bs : List ℕ) (p : PacketView) : Type 0 where
  pub bytes : encode p ≡ cleared bs
  pub long : length (encode p) ≡ length bs
  pub short : length bs ≤ 2048
