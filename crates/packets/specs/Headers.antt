-- The header of a packet, and what can be wrong with it. Assumes nothing.
use Rattle.std.specs.Prelude.{ℕ, cond, List, length, Some, None, Ok, Err, Option, Result, ◌==◌, nat_lt, slice_index}
use Rattle.kinds.specs.BigEndian.{at16}
use Rattle.packets.specs.declared.header.Header.{Header}
use Rattle.packets.specs.declared.header.HeaderFault.{HeaderFault}
use Rattle.packets.specs.declared.header.HeaderFault.TheVariants as fault
use Rattle.packets.specs.declared.layout.PacketType.{PacketType}
use Rattle.packets.specs.Layouts.{type_of}

abbrev pub typed_header : List ℕ → Option PacketType → Result Header HeaderFault
typed_header bs None = Err fault.Type
typed_header bs (Some t) = Ok (record { packet_type = t; newest = slice_index bs 5; oldest = slice_index bs 6 })

abbrev pub header_of : List ℕ → Result Header HeaderFault
header_of bs =
    cond (nat_lt (length bs) 8) (Err fault.Short)
    (cond (nat_lt 2048 (length bs)) (Err fault.Long)
    (cond (at16 bs 2 == length bs) (cond (slice_index bs 4 == 1) (typed_header bs (type_of (at16 bs 0))) (Err fault.Version))
    (Err fault.Length)))
