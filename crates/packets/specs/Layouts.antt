-- Numbers and sizes of the four layouts. Assumes nothing.
use Rattle.std.specs.Prelude.{ℕ, cond, Some, None, Option, ◌==◌}
use Rattle.packets.specs.declared.layout.PacketType.{PacketType}
use Rattle.packets.specs.declared.layout.PacketType.TheVariants.{Bundle, Acknowledgement, Summary, Request}
use Rattle.packets.specs.declared.layout.UnknownType.{UnknownType}

abbrev pub number_of : PacketType → ℕ
number_of Bundle = 2
number_of Acknowledgement = 3
number_of Summary = 4
number_of Request = 5

abbrev pub type_of : ℕ → Option PacketType
type_of n =
    cond (n == 2) (Some Bundle)
    (cond (n == 3) (Some Acknowledgement) (cond (n == 4) (Some Summary) (cond (n == 5) (Some Request) None)))

abbrev pub unknown_type : ℕ → UnknownType
unknown_type n = record { 0 = n }

abbrev pub group_number_of : PacketType → ℕ
group_number_of Bundle = 64
group_number_of Acknowledgement = 384
group_number_of Summary = 512
group_number_of Request = 513

-- the length of a group without its entries, or its body
abbrev pub group_fixed_of : PacketType → ℕ
group_fixed_of Bundle = 20
group_fixed_of Acknowledgement = 28
group_fixed_of Summary = 44
group_fixed_of Request = 28
