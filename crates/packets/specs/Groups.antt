-- The groups that fill a packet. Assumes nothing.
use Rattle.std.specs.Prelude.{ℕ, zero, suc, ◌+◌, ◌*◌, ◌%◌, cond, not, ◌||◌, List, [], ◌∷◌, length, take, drop, Some, None, Ok, Err, Option, Result, ◌==◌, nat_lt}
use Rattle.kinds.specs.BigEndian.{at16}
use Rattle.packets.specs.declared.group.Group.{Group}
use Rattle.packets.specs.declared.group.Groups.{Groups}
use Rattle.packets.specs.declared.group.GroupFault.{GroupFault}
use Rattle.packets.specs.declared.group.GroupFault.TheVariants as fault
use Rattle.packets.specs.declared.group.Misfit.{Misfit}
use Rattle.packets.specs.declared.layout.PacketType.{PacketType}
use Rattle.packets.specs.declared.layout.PacketType.TheVariants.{Bundle, Acknowledgement, Summary, Request}
use Rattle.packets.specs.Layouts.{group_number_of, group_fixed_of}

-- what follows a group's type and length, and what follows the group
pub record Split : Type 0 where
  pub content : List ℕ
  pub rest : List ℕ

abbrev pub viewed : Result Group GroupFault → Result Split GroupFault
viewed (Ok g) = Ok (record { content = g.content.now; rest = g.rest.now })
viewed (Err f) = Err f

-- a count stands at an index, and entries of one size follow it
abbrev pub count_fault : List ℕ → ℕ → ℕ → Option GroupFault
count_fault content at size = cond (length content == at + 2 + at16 content at * size) None (Some fault.Count)

abbrev pub content_fault : PacketType → List ℕ → Option GroupFault
content_fault Bundle content = cond (nat_lt 272 (length content) || not (length content % 4 == 0)) (Some fault.Body) None
content_fault Acknowledgement content = count_fault content 22 12
content_fault Summary content = count_fault content 38 16
content_fault Request content = count_fault content 22 4

-- an answer, unless there is a fault
abbrev pub unless : {T E : Type 0} → Option E → T → Result T E
unless None x = Ok x
unless (Some f) x = Err f

-- the group's whole length, as it says itself
abbrev group_length : List ℕ → ℕ
group_length bs = at16 bs 2

-- the first group of some bytes
abbrev pub split_group : PacketType → List ℕ → Result Split GroupFault
split_group t bs =
    cond (nat_lt (length bs) 4) (Err fault.Cut)
    (cond (at16 bs 0 == group_number_of t)
    (cond (nat_lt (group_length bs) (group_fixed_of t)) (Err fault.Short)
    (cond (nat_lt (length bs) (group_length bs)) (Err fault.Long)
    (unless (content_fault t (drop 4 (take (group_length bs) bs)))
    (record { content = drop 4 (take (group_length bs) bs); rest = drop (group_length bs) bs }))))
    (Err fault.Type))

-- goes on behind a group
abbrev pub after_group : (List ℕ → Option Misfit) → List ℕ → Result Split GroupFault → Option Misfit
after_group go bs (Ok s) = go s.rest
after_group go bs (Err f) = Some (record { fault = f; left = length bs })

-- The first group that breaks its layout; the number is at least that of the groups.
unfoldable pub first_fault : ℕ → PacketType → List ℕ → Option Misfit
first_fault zero t bs = None
first_fault (suc k) t bs = cond (length bs == 0) None (after_group (first_fault k t) bs (split_group t bs))

-- what the groups hold, up to one that breaks its layout; the number is at least that of the groups
abbrev pub before_misfit : (List ℕ → List (List ℕ)) → Result Split GroupFault → List (List ℕ)
before_misfit go (Ok s) = s.content ∷ go s.rest
before_misfit go (Err f) = []

unfoldable pub contents : ℕ → PacketType → List ℕ → List (List ℕ)
contents zero t bs = []
contents (suc k) t bs = cond (length bs == 0) [] (before_misfit (contents k t) (split_group t bs))

-- what the groups hold that are still to come
abbrev pub groups_left : Groups → List (List ℕ)
groups_left s = contents (length s.rest.now) s.of s.rest.now
