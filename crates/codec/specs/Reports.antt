-- When each fault is reported. Assumes nothing.
use Rattle.std.specs.Prelude.{◌≡◌, ℕ, ◌<◌, ◌≤◌, ◌⊎◌, List, length, drop, Some, None, Err, ◌≢◌, slice_index}
use Rattle.kinds.specs.BigEndian.{at16}
use Rattle.packets.specs.declared.header.HeaderFault.{HeaderFault}
use Rattle.packets.specs.declared.header.HeaderFault.TheVariants as fault
use Rattle.packets.specs.declared.layout.PacketType.{PacketType}
use Rattle.packets.specs.declared.packet.Fault.{Fault}
use Rattle.packets.specs.declared.packet.Fault.TheVariants.{Header, Group}
use Rattle.packets.specs.Groups.{split_group}
use Rattle.packets.specs.Layouts.{type_of}

-- a length that a packet may have, and says itself
abbrev pub Whole : List ℕ → Type 0
Whole bs = (8 ≤ length bs) × ((length bs ≤ 2048) × (at16 bs 2 ≡ length bs))

abbrev pub HeaderReported : List ℕ → HeaderFault → Type 0
HeaderReported bs fault.Short = length bs < 8
HeaderReported bs fault.Long = 2048 < length bs
HeaderReported bs fault.Length = (8 ≤ length bs) × ((length bs ≤ 2048) × (at16 bs 2 ≢ length bs))
HeaderReported bs fault.Version = Whole bs × (slice_index bs 4 ≢ 1)
HeaderReported bs fault.Type = Whole bs × ((slice_index bs 4 ≡ 1) × (type_of (at16 bs 0) ≡ None))
HeaderReported bs fault.Cut =
    Whole bs × ((slice_index bs 4 ≡ 1) × (((at16 bs 0 ≡ 2) × (length bs < 44)) ⊎ ((at16 bs 0 ≡ 4) × (length bs < 16))))

-- a group's fault is that of the group at the place told
abbrev pub Reported : List ℕ → Fault → Type 0
Reported bs (Header f) = HeaderReported bs f
Reported bs (Group f at) =
    Whole bs × ((at < length bs) × ((t : PacketType) × ((type_of (at16 bs 0) ≡ Some t) × (split_group t (drop at bs) ≡ Err f))))
