-- Entries and groups that were written are read back. Assumes nothing.
use Rattle.std.proofs.Common.{◌≡◌, ℕ, zero, suc, ◌+◌, ◌*◌, ◌/◌, ◌%◌, ◌<◌, ◌≤◌, List, [], ◌∷◌, ◌++◌, map, length, take, drop, None, Ok, Result, refl, ap, ◌∙◌, arith, length-append}
use Rattle.std.proofs.lemmas.List.{take_at, drop_at}
use Rattle.std.proofs.lemmas.Bool.{cond-true, cond-false, lt-ltb, le-ltb, eq-eqb, ne_eqb}
use Rattle.std.specs.List.{AllByRecursion}
use Rattle.kinds.specs.BigEndian.{read16, at16}
use Rattle.kinds.specs.Words.{word16}
use Rattle.packets.specs.declared.group.GroupFault.{GroupFault}
use Rattle.packets.specs.declared.layout.PacketType.{PacketType}
use Rattle.packets.specs.declared.layout.PacketType.TheVariants.{Bundle, Acknowledgement, Summary, Request}
use Rattle.packets.specs.Contents.{entries}
use Rattle.packets.specs.Encodings.{joined, framed}
use Rattle.packets.specs.Groups.{Split, content_fault, unless, split_group, after_group, first_fault, before_misfit, contents}
use Rattle.packets.specs.Layouts.{group_number_of, group_fixed_of}

both : {X : Type 0} {x y : X} {xs ys : List X} → x ≡ y → xs ≡ ys → x ∷ xs ≡ y ∷ ys
both p q = cc

-- entries of one size
module _ {X : Type 0} (at : List ℕ → X) (bytes : X → List ℕ) (P : X → Type 0) (size : ℕ)
    (sized : (x : X) → P x → length (bytes x) ≡ size)
    (reads : (x : X) (rest : List ℕ) → P x → at (bytes x ++ rest) ≡ x) where
  pub entries_length : (xs : List X) → AllByRecursion P xs → length (joined (map bytes xs)) ≡ length xs * size
  entries_length [] a = omega arith
  entries_length (x ∷ xs) a =
      length-append (bytes x) (joined (map bytes xs))
      ∙ let s = sized x a.0 in
      let r = entries_length xs a.1 in
      omega (arith, suc_times (length xs) size)
    where
      suc_times : (m n : ℕ) → suc m * n ≡ n + m * n
      suc_times m n = omega arith

  pub entries_back : 0 < size → (k : ℕ) (xs : List X) → AllByRecursion P xs → length xs ≤ k → entries at size k (joined (map bytes xs)) ≡ xs
  unfolding entries
  entries_back p zero [] a l = refl
  entries_back p zero (x ∷ xs) a l = absurd (omega arith)
  entries_back p (suc k) [] a l = cond-true _ _ _ (lt-ltb 0 size p)
  entries_back p (suc k) (x ∷ xs) a l =
      let rest = joined (map bytes xs) in
      let s = sized x a.0 in
      let n = length-append (bytes x) rest in
      cond-false _ _ _ (le-ltb (length (bytes x ++ rest)) size (omega arith))
      ∙ both (reads x rest a.0) (ap (entries at size k) (drop_at (bytes x) rest size s) ∙ entries_back p k xs a.1 (omega arith))

-- what lies behind a group's type and length keeps the layout
pub record Sound (t : PacketType) (c : List ℕ) : Type 0 where
  pub fault : content_fault t c ≡ None
  pub least : group_fixed_of t ≤ 4 + length c
  pub most : 4 + length c ≤ 2048

pub split_goes : (t : PacketType) (bs c rest : List ℕ) → 4 ≤ length bs → at16 bs 0 ≡ group_number_of t → group_fixed_of t ≤ at16 bs 2 → at16 bs 2 ≤ length bs → drop 4 (take (at16 bs 2) bs) ≡ c → drop (at16 bs 2) bs ≡ rest → content_fault t c ≡ None → split_group t bs ≡ Ok (record { content = c; rest = rest })
split_goes t bs c rest h n l m p q f =
    cond-false _ _ _ (le-ltb _ _ h) ∙ cond-true _ _ _ (eq-eqb _ _ n) ∙ cond-false _ _ _ (le-ltb _ _ l) ∙ cond-false _ _ _ (le-ltb _ _ m)
    ∙ unfaulted (drop 4 (take (at16 bs 2) bs)) c (drop (at16 bs 2) bs) rest p q f
  where
    unfaulted : (c' c rest' rest : List ℕ) → c' ≡ c → rest' ≡ rest → content_fault t c ≡ None → ◌≡◌ {A = Result Split GroupFault} (unless (content_fault t c') (record { content = c'; rest = rest' })) (Ok (record { content = c; rest = rest }))
    unfaulted c' c rest' rest p q f = ap (λ v. unless (content_fault t v) (record { content = v; rest = rest' })) p ∙ ap (λ v. unless (content_fault t c) (record { content = c; rest = v })) q ∙ ap (λ o. unless o (record { content = c; rest = rest })) f

numbered : (t : PacketType) → read16 (group_number_of t / 256 % 256) (group_number_of t % 256) ≡ group_number_of t
numbered Bundle = refl
numbered Acknowledgement = refl
numbered Summary = refl
numbered Request = refl

pub split_framed : (t : PacketType) (c rest : List ℕ) → Sound t c → split_group t (framed t c ++ rest) ≡ Ok (record { content = c; rest = rest })
split_framed t c rest s =
    let bs = framed t c ++ rest in
    let w : at16 bs 2 ≡ 4 + length c = word16 (4 + length c) (omega (arith, s.most)) in
    let four : 4 + length c ≡ suc (suc (suc (suc (length c)))) = omega arith in
    let n = length-append c rest in
    split_goes t bs c rest (omega arith) (numbered t) (omega (arith, s.least)) (omega arith)
    (ap (λ m. drop 4 (take m bs)) (w ∙ four) ∙ take_at c rest (length c) refl)
    (ap (λ m. drop m bs) (w ∙ four) ∙ drop_at c rest (length c) refl)
    s.fault

module _ (t : PacketType) where
  framed_longer : (c : List ℕ) (cs : List (List ℕ)) → length (joined (map (framed t) (c ∷ cs))) ≡ 4 + length c + length (joined (map (framed t) cs))
  framed_longer c cs = let n = length-append c (joined (map (framed t) cs)) in omega arith

  pub faultless : (k : ℕ) (cs : List (List ℕ)) → AllByRecursion (Sound t) cs → length (joined (map (framed t) cs)) ≤ k → first_fault k t (joined (map (framed t) cs)) ≡ None
  unfolding first_fault
  faultless zero [] a l = refl
  faultless zero (c ∷ cs) a l = absurd (omega (arith, framed_longer c cs))
  faultless (suc k) [] a l = refl
  faultless (suc k) (c ∷ cs) a l =
      let rest = joined (map (framed t) cs) in
      cond-false _ _ _ (ne_eqb (length (framed t c ++ rest)) 0 (omega arith))
      ∙ ap (after_group (first_fault k t) (framed t c ++ rest)) (split_framed t c rest a.0) ∙ faultless k cs a.1 (omega (arith, framed_longer c cs))

  pub contents_back : (k : ℕ) (cs : List (List ℕ)) → AllByRecursion (Sound t) cs → length (joined (map (framed t) cs)) ≤ k → contents k t (joined (map (framed t) cs)) ≡ cs
  unfolding contents
  contents_back zero [] a l = refl
  contents_back zero (c ∷ cs) a l = absurd (omega (arith, framed_longer c cs))
  contents_back (suc k) [] a l = refl
  contents_back (suc k) (c ∷ cs) a l =
      let rest = joined (map (framed t) cs) in
      cond-false _ _ _ (ne_eqb (length (framed t c ++ rest)) 0 (omega arith))
      ∙ ap (before_misfit (contents k t)) (split_framed t c rest a.0) ∙ ap (λ ds. c ∷ ds) (contents_back k cs a.1 (omega (arith, framed_longer c cs)))

  -- what is written within a packet's length is sound, each by itself
  pub sound_all : {G : Type 0} (bytes : G → List ℕ) (P : G → Type 0) → ((g : G) → P g → 4 + length (bytes g) ≤ 2048 → Sound t (bytes g)) → (gs : List G) → AllByRecursion P gs → length (joined (map (framed t) (map bytes gs))) ≤ 2048 → AllByRecursion (Sound t) (map bytes gs)
  sound_all bytes P f [] a l = tt
  sound_all bytes P f (g ∷ gs) a l =
      let n = framed_longer (bytes g) (map bytes gs) in
      (f g a.0 (omega arith), sound_all bytes P f gs a.1 (omega arith))
