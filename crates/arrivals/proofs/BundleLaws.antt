-- Steps of a walk over the elements of a bundle. Assumes nothing.
use Rattle.std.proofs.Common.{◌≡◌, ℕ, ◌+◌, ◌*◌, ◌<◌, ◌≤◌, Bool, true, false, cond, List, [], ◌∷◌, ◌++◌, map, length, zero, suc, subst, Ok, Err, Result, sym, refl, ap, ◌∙◌, arith, length-append}
use Rattle.std.specs.List.{AllByRecursion}
use Rattle.std.proofs.lemmas.List.{append_assoc, append-nil}
use Rattle.kinds.specs.Kinds.{Operations}
use Rattle.packets.specs.declared.acknowledgement.Acknowledged.{Acknowledged}
use Rattle.packets.specs.declared.group.GroupFault.{GroupFault}
use Rattle.packets.specs.declared.layout.PacketType.TheVariants.{Bundle}
use Rattle.packets.specs.Bundles.{element_at}
use Rattle.packets.specs.Groups.{Split, contents, split_group}
use Rattle.tables.specs.declared.verdict.Verdict.{Verdict}
use Rattle.tables.specs.declared.verdict.Verdict.TheVariants.{Same, Newer, Older, Gone, New, NoPlace}
use Rattle.database.specs.Nodes.{World}
use Rattle.exchange.specs.Arrivals.{acknowledged_of, acknowledgement_of, arrival_of, arrived, bundle_world, is_acknowledged, left_by, left_of, verdict_on}
use Rattle.arrivals.specs.Bundles.{elements_in, noted}
use Rattle.packets.proofs.GroupLaws.{Kept, contents_kept, contents_more, contents_stop, split_takes}

-- what is noted now stands before what comes later
noted_before : (b : Bool) (a : Acknowledged) (xs ys : List Acknowledged) → cond b (xs ++ a ∷ []) xs ++ ys ≡ xs ++ cond b (a ∷ ys) ys
noted_before true a xs ys = append_assoc xs (a ∷ []) ys
noted_before false a xs ys = refl

-- one more at most
noted_length : (b : Bool) (a : Acknowledged) (xs : List Acknowledged) → length (cond b (xs ++ a ∷ []) xs) ≤ length xs + 1
noted_length true a xs = let l = length-append xs (a ∷ []) in omega arith
noted_length false a xs = omega arith

-- a group of a bundle takes 20 bytes at least
no_groups : (bs : List ℕ) → length (contents zero Bundle bs) * 20 ≤ length bs
unfolding contents
no_groups bs = omega arith

bundle_short : (k : ℕ) (bs : List ℕ) (r : Result Split GroupFault) → r ≡ split_group Bundle bs → length (contents k Bundle bs) * 20 ≤ length bs
bundle_short k bs (Err f) e = let n = ap length (contents_stop Bundle k bs f e) in omega arith
bundle_short zero bs (Ok s) e = no_groups bs
bundle_short (suc k) bs (Ok s) e =
    let n = ap length (contents_more Bundle k bs s e) in
    let h = bundle_short k s.rest (split_group Bundle s.rest) refl in
    let t = split_takes Bundle bs s e in
    omega (arith, t.0, t.1)

at_most_one : (v : Verdict) → left_by v ≤ 1
at_most_one (Same p) = omega arith
at_most_one (Newer p) = omega arith
at_most_one (Older p) = omega arith
at_most_one Gone = omega arith
at_most_one (New p) = omega arith
at_most_one NoPlace = omega arith

module _ {I : Type 0} (ops : Operations I) (i : ℕ) (node group : List ℕ) where
  -- how far a bundle is worked: what is done, and what the groups left will do, is what the whole does
  pub record Worked (groups : List ℕ) (w₀ : World I) (cs : List (List ℕ)) (w : World I) (acks : List Acknowledged) (left : ℕ) : Type 0 where
    pub acks_fit : (length acks + length cs) * 20 ≤ length groups
    pub left_fits : (left + length cs) * 20 ≤ length groups
    pub kept : AllByRecursion (Kept Bundle) cs
    pub worlds : bundle_world ops i node group (map element_at cs) w ≡ bundle_world ops i node group (elements_in groups) w₀
    pub all_acks : acks ++ acknowledged_of ops i node group (map element_at cs) w ≡ acknowledged_of ops i node group (elements_in groups) w₀
    pub all_left : left + left_of ops i node group (map element_at cs) w ≡ left_of ops i node group (elements_in groups) w₀

  module _ (groups : List ℕ) (w₀ : World I) where
    pub worked_none : (cs : List (List ℕ)) (acks : List Acknowledged) (left : ℕ) → cs ≡ contents (length groups) Bundle groups → acks ≡ [] → left ≡ 0 → Worked groups w₀ cs w₀ acks left
    worked_none cs acks left e a l =
        let n = ap length a in
        let m = ap length e in
        let short = bundle_short (length groups) groups (split_group Bundle groups) refl in
        let es = ap (map element_at) e in
        record {
          acks_fit = omega arith;
          left_fits = omega arith;
          kept = subst (AllByRecursion (Kept Bundle)) (sym e) (contents_kept (length groups) Bundle groups);
          worlds = ap (λ xs. bundle_world ops i node group xs w₀) es;
          all_acks = ap (λ xs. xs ++ acknowledged_of ops i node group (map element_at cs) w₀) a ∙ ap (λ xs. acknowledged_of ops i node group xs w₀) es;
          all_left = let z : left + left_of ops i node group (map element_at cs) w₀ ≡ left_of ops i node group (map element_at cs) w₀ = omega arith in z ∙ ap (λ xs. left_of ops i node group xs w₀) es;
        }

    module _ (cs : List (List ℕ)) (w : World I) (acks : List Acknowledged) (left : ℕ) (h : Worked groups w₀ cs w acks left) where
      -- there is room for one more
      pub worked_room : length groups ≤ 2004 → (c : List ℕ) (ds : List (List ℕ)) → cs ≡ c ∷ ds → (16 ≤ length c) × (length acks < 100) × (left < 100)
      worked_room le c ds e =
          let n = ap length e in
          let k = subst (AllByRecursion (Kept Bundle)) e h.kept in
          (omega (arith, k.0.least), omega (arith, h.acks_fit), omega (arith, h.left_fits))

      -- one more element
      pub worked_more : (c : List ℕ) (ds : List (List ℕ)) (w' : World I) (acks' : List Acknowledged) (left' : ℕ) → cs ≡ c ∷ ds → w' ≡ arrived ops i (arrival_of ops node group (element_at c)) w → acks' ≡ noted (verdict_on ops (arrival_of ops node group (element_at c)) w) (acknowledgement_of (element_at c)) acks → left' ≡ left + left_by (verdict_on ops (arrival_of ops node group (element_at c)) w) → Worked groups w₀ ds w' acks' left'
      worked_more c ds w' acks' left' e p q u =
          let x = element_at c in
          let a = arrival_of ops node group x in
          let v = verdict_on ops a w in
          let m = ap (map element_at) e in
          let one = at_most_one v in
          let n = ap length q in
          let j = ap length e in
          let more = noted_length (is_acknowledged v) (acknowledgement_of x) acks in
          record {
            acks_fit = omega (arith, h.acks_fit);
            left_fits = omega (arith, h.left_fits);
            kept = (subst (AllByRecursion (Kept Bundle)) e h.kept).1;
            worlds = ap (bundle_world ops i node group (map element_at ds)) p ∙ sym (ap (λ es. bundle_world ops i node group es w) m) ∙ h.worlds;
            all_acks = ap (λ y. acks' ++ acknowledged_of ops i node group (map element_at ds) y) p
                ∙ ap (λ xs. xs ++ acknowledged_of ops i node group (map element_at ds) (arrived ops i a w)) q
                ∙ noted_before (is_acknowledged v) (acknowledgement_of x) acks (acknowledged_of ops i node group (map element_at ds) (arrived ops i a w))
                ∙ sym (ap (λ es. acks ++ acknowledged_of ops i node group es w) m) ∙ h.all_acks;
            all_left = ap (λ y. left' + left_of ops i node group (map element_at ds) y) p
                ∙ (let k = left_of ops i node group (map element_at ds) (arrived ops i a w) in let z : left' + k ≡ left + (left_by v + k) = omega arith in z)
                ∙ sym (ap (λ es. left + left_of ops i node group es w) m) ∙ h.all_left;
          }

      -- no element is left
      pub worked_all : cs ≡ [] → (w ≡ bundle_world ops i node group (elements_in groups) w₀) × (acks ≡ acknowledged_of ops i node group (elements_in groups) w₀) × (left ≡ left_of ops i node group (elements_in groups) w₀)
      worked_all e =
          let m = ap (map element_at) e in (
            sym (ap (λ es. bundle_world ops i node group es w) m) ∙ h.worlds,
            sym (append-nil acks) ∙ sym (ap (λ es. acks ++ acknowledged_of ops i node group es w) m) ∙ h.all_acks,
            let z : left ≡ left + 0 = omega arith in z ∙ sym (ap (λ es. left + left_of ops i node group es w) m) ∙ h.all_left,
          )
