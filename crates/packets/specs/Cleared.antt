-- A packet with its reserved bytes zero. Assumes nothing.
use Rattle.std.specs.Prelude.{ℕ, zero, suc, cond, List, [], ◌∷◌, ◌++◌, length, take, drop, Some, None, Ok, Err, Option, Result, ◌==◌}
use Rattle.kinds.specs.BigEndian.{at16}
use Rattle.packets.specs.declared.group.GroupFault.{GroupFault}
use Rattle.packets.specs.declared.layout.PacketType.{PacketType}
use Rattle.packets.specs.declared.layout.PacketType.TheVariants.{Bundle, Acknowledgement, Summary, Request}
use Rattle.packets.specs.Contents.{entries}
use Rattle.packets.specs.Encodings.{joined}
use Rattle.packets.specs.Groups.{Split, split_group}
use Rattle.packets.specs.Layouts.{type_of}

-- bytes 2 and 3 are reserved in an element, in a description and in the part after a summary's header
abbrev pub clear_two : List ℕ → List ℕ
clear_two bs = take 2 bs ++ (0 ∷ 0 ∷ drop 4 bs)

abbrev pub clear_content : PacketType → List ℕ → List ℕ
clear_content Bundle c = clear_two c
clear_content Acknowledgement c = c
clear_content Summary c =
    take 36 c ++ (0 ∷ 0 ∷ (take 2 (drop 38 c) ++ joined (entries (λ es. clear_two (take 16 es)) 16 (length c) (drop 40 c))))
clear_content Request c = c

-- each group keeps its type and length
abbrev pub clear_group : (List ℕ → List ℕ) → PacketType → List ℕ → Result Split GroupFault → List ℕ
clear_group go t bs (Ok s) = take 4 bs ++ (clear_content t s.content ++ go s.rest)
clear_group go t bs (Err f) = bs

unfoldable pub clear_groups : ℕ → PacketType → List ℕ → List ℕ
clear_groups zero t bs = bs
clear_groups (suc k) t bs = cond (length bs == 0) [] (clear_group (clear_groups k t) t bs (split_group t bs))

abbrev pub clear_part : Option PacketType → List ℕ → List ℕ
clear_part None part = part
clear_part (Some Bundle) part = take 36 part ++ clear_groups (length part) Bundle (drop 36 part)
clear_part (Some Acknowledgement) part = clear_groups (length part) Acknowledgement part
clear_part (Some Summary) part = clear_two (take 8 part) ++ clear_groups (length part) Summary (drop 8 part)
clear_part (Some Request) part = clear_groups (length part) Request part

-- byte 7 of the header is reserved
abbrev pub cleared : List ℕ → List ℕ
cleared bs = take 7 bs ++ (0 ∷ clear_part (type_of (at16 bs 0)) (drop 8 bs))
