-- Steps of a walk over the entries of a packet. Assumes nothing.
use Rattle.std.proofs.Common.{◌≡◌, ℕ, ◌<◌, ◌+◌, List, [], ◌∷◌, ◌++◌, map, length, take, drop, sym, refl, ap, ◌∙◌, arith, length-drop}
use Rattle.std.proofs.lemmas.List.{map-append}
use Rattle.packets.specs.declared.ids.NodeId.{NodeId}
use Rattle.packets.specs.declared.layout.PacketType.{PacketType}
use Rattle.packets.specs.Contents.{entries}
use Rattle.packets.specs.Groups.{contents}
use Rattle.packets.proofs.EntryLaws.{entries_none, entries_enough}
use Rattle.exchange.specs.Namings.{each_of}
use Rattle.arrivals.specs.Walks.{in_group, in_groups, skip_of, under}

module _ {E : Type 0} (at : List ℕ → E) (size : ℕ) (some : 0 < size) where
  -- before the first group
  pub ahead_start : (node : NodeId) (es : List E) (t : PacketType) (skip : ℕ) (bs : List ℕ) (cs : List (List ℕ)) → es ≡ entries at size 0 [] → skip ≡ skip_of t → cs ≡ contents (length bs) t bs → under at size node es ++ each_of (in_group at size skip) cs ≡ in_groups at size t bs
  ahead_start node es t skip bs cs e s c =
      ap (λ xs. under at size node xs ++ each_of (in_group at size skip) cs) (e ∙ entries_none at size 0 [] some)
      ∙ ap (λ n. each_of (in_group at size n) cs) s ∙ ap (each_of (in_group at size (skip_of t))) c

  -- a group that is too short for a node ID has no entries
  pub opened_none : (node : NodeId) (es : List E) (skip : ℕ) (c : List ℕ) → es ≡ [] → length c < 22 + skip → under at size node es ≡ in_group at size skip c
  opened_none node es skip c e lt =
      let l = length-drop 22 c in
      let m = length-drop skip (drop 22 c) in
      ap (under at size node) e ∙ sym (ap (under at size (record { bytes = take 22 c })) (entries_none at size (length c) (drop skip (drop 22 c)) (omega arith)))

  pub opened : (node : NodeId) (es : List E) (skip : ℕ) (c rest : List ℕ) → node.bytes ≡ take 22 c → rest ≡ drop skip (drop 22 c) → es ≡ entries at size (length rest) rest → under at size node es ≡ in_group at size skip c
  opened node es skip c rest n d e =
      let l = length-drop 22 c in
      let m = length-drop skip (drop 22 c) in
      let r = ap length d in
      ap (λ bs. under at size (record { bytes = bs }) es) n
      ∙ ap (under at size (record { bytes = take 22 c })) (e ∙ entries_enough at size some (length rest) (length c) rest (omega arith) (omega arith) ∙ ap (entries at size (length c)) d)

-- entries of all groups read in two ways
pub each_as : {G H X Y : Type 0} (by : G → List X) (read : H → G) (raw : H → List Y) (f : Y → X) → ((c : H) → by (read c) ≡ map f (raw c)) → (cs : List H) → each_of by (map read cs) ≡ map f (each_of raw cs)
each_as by read raw f same [] = refl
each_as by read raw f same (c ∷ cs) = ap (λ xs. xs ++ each_of by (map read cs)) (same c) ∙ ap (λ xs. map f (raw c) ++ xs) (each_as by read raw f same cs) ∙ sym (map-append f (raw c) (each_of raw cs))
