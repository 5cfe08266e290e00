-- How many descriptions a summary has. Assumes nothing.
use Rattle.std.proofs.Common.{◌≡◌, ℕ, zero, suc, ◌*◌, ◌≤◌, List, [], ◌∷◌, ◌++◌, length, take, drop, Ok, Err, Result, sym, refl, ap, ◌∙◌, inl, inr, arith, length-append, length-drop}
use lib.ListN.{length-map}
use Rattle.std.proofs.lemmas.List.{append_assoc}
use Rattle.std.proofs.lemmas.Bool.{cases_lt}
use Rattle.packets.specs.declared.group.GroupFault.{GroupFault}
use Rattle.packets.specs.declared.ids.NodeId.{NodeId}
use Rattle.packets.specs.declared.layout.PacketType.TheVariants.{Summary}
use Rattle.packets.specs.Contents.{entries}
use Rattle.packets.specs.Groups.{Split, contents, split_group}
use Rattle.packets.proofs.EntryLaws.{entries_more, entries_none}
use Rattle.packets.proofs.GroupLaws.{contents_more, contents_stop, split_takes}
use Rattle.exchange.specs.Namings.{each_of}
use Rattle.arrivals.specs.Walks.{in_group, in_groups}

module _ {E : Type 0} (at : List ℕ → E) where
  entries_short : (k : ℕ) (es : List ℕ) → length (entries at 16 k es) * 16 ≤ length es
  unfolding entries
  entries_short zero es = omega arith
  entries_short (suc k) es =
      elim (cases_lt (length es) 16) [
        | inl lt ↦
            let n = ap length (entries_none at 16 (suc k) es lt) in omega arith
        | inr le ↦
            let n = ap length (entries_more at 16 k es le) in
            let l = length-drop 16 es in
            let h = entries_short k (drop 16 es) in
            omega arith
      ]

  group_short : (c : List ℕ) → length (in_group at 16 18 c) * 16 ≤ length c
  group_short c =
      let h = entries_short (length c) (drop 18 (drop 22 c)) in
      let node : NodeId = record { bytes = take 22 c } in
      let m : length (in_group at 16 18 c) ≡ length (entries at 16 (length c) (drop 18 (drop 22 c))) = length-map (entries at 16 (length c) (drop 18 (drop 22 c))) (λ e. (node, e)) in
      let l = length-drop 22 c in
      let r = length-drop 18 (drop 22 c) in
      omega arith

  no_groups : (bs : List ℕ) → length (each_of (in_group at 16 18) (contents zero Summary bs)) * 16 ≤ length bs
  unfolding contents
  no_groups bs = omega arith

  groups_short : (k : ℕ) (bs : List ℕ) (r : Result Split GroupFault) → r ≡ split_group Summary bs → length (each_of (in_group at 16 18) (contents k Summary bs)) * 16 ≤ length bs
  groups_short k bs (Err f) e = let n = ap (λ cs. length (each_of (in_group at 16 18) cs)) (contents_stop Summary k bs f e) in omega arith
  groups_short zero bs (Ok s) e = no_groups bs
  groups_short (suc k) bs (Ok s) e =
      let n = ap (λ cs. length (each_of (in_group at 16 18) cs)) (contents_more Summary k bs s e) in
      let a = length-append (in_group at 16 18 s.content) (each_of (in_group at 16 18) (contents k Summary s.rest)) in
      let g = group_short s.content in
      let h = groups_short k s.rest (split_group Summary s.rest) refl in
      let t = split_takes Summary bs s e in
      omega (arith, t.0)

  -- a description takes 16 bytes
  pub summary_short : (bs : List ℕ) → length (in_groups at 16 Summary bs) * 16 ≤ length bs
  summary_short bs = groups_short (length bs) bs (split_group Summary bs) refl

-- one more is read
pub read_more : {X : Type 0} (done next left rest all : List X) (x : X) → next ≡ done ++ x ∷ [] → left ≡ x ∷ rest → done ++ left ≡ all → next ++ rest ≡ all
read_more done next left rest all x n e h = ap (λ xs. xs ++ rest) n ∙ append_assoc done (x ∷ []) rest ∙ sym (ap (λ xs. done ++ xs) e) ∙ h
