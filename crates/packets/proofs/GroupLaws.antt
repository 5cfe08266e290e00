-- Steps of a walk over the groups of a packet. Assumes nothing.
use Rattle.std.proofs.Common.{◌≡◌, ℕ, zero, suc, ◌+◌, ◌-◌, ◌<◌, ◌≤◌, Bool, true, false, cond, eqb, List, [], ◌∷◌, length, take, drop, Some, None, Ok, Err, Option, Result, sym, refl, ap, subst, ◌∙◌, arith, length-drop}
use Rattle.std.proofs.lemmas.List.{length-take-le}
use Rattle.std.proofs.lemmas.Bool.{eqb-true, ltb-false, eq-eqb, ne_eqb, cond-true, cond-false}
use Rattle.kinds.specs.BigEndian.{at16}
use Rattle.std.specs.List.{AllByRecursion}
use Rattle.std.specs.Result.{MatchResult, IsErrAnd, result_ok}
use Rattle.packets.specs.declared.group.Group.{Group}
use Rattle.packets.specs.declared.group.GroupFault.{GroupFault}
use Rattle.packets.specs.declared.group.Misfit.{Misfit}
use Rattle.packets.specs.declared.layout.PacketType.{PacketType}
use Rattle.packets.specs.declared.layout.PacketType.TheVariants.{Bundle, Acknowledgement, Summary, Request}
use Rattle.packets.specs.Groups.{Split, content_fault, unless, split_group, viewed, after_group, first_fault, before_misfit, contents}
use Rattle.packets.specs.Layouts.{group_number_of, group_fixed_of}

-- what an answer that is no fault says of the tests before it
pub past_fault : {T E : Type 0} (b : Bool) (f : E) (r : Result T E) (x : T) → Ok x ≡ cond b (Err f) r → (b ≡ false) × (Ok x ≡ r)
past_fault true f r x e = absurd (let z : ◌≡◌ {A = ℕ} 0 1 = cc in omega arith)
past_fault false f r x e = (refl, e)

pub past_else : {T E : Type 0} (b : Bool) (f : E) (r : Result T E) (x : T) → Ok x ≡ cond b r (Err f) → (b ≡ true) × (Ok x ≡ r)
past_else true f r x e = (refl, e)
past_else false f r x e = absurd (let z : ◌≡◌ {A = ℕ} 0 1 = cc in omega arith)

past_unless : {T : Type 0} (o : Option GroupFault) (x y : T) → Ok x ≡ unless o y → (o ≡ None) × (x ≡ y)
past_unless None x y e = (refl, cc)
past_unless (Some f) x y e = absurd (let z : ◌≡◌ {A = ℕ} 0 1 = cc in omega arith)

pub fixed_least : (t : PacketType) → 20 ≤ group_fixed_of t
fixed_least Bundle = omega arith
fixed_least Acknowledgement = omega arith
fixed_least Summary = omega arith
fixed_least Request = omega arith

-- what is known of a group that keeps its layout
pub record Splits (t : PacketType) (bs : List ℕ) (s : Split) : Type 0 where
  pub number : at16 bs 0 ≡ group_number_of t
  pub least : group_fixed_of t ≤ at16 bs 2
  pub most : at16 bs 2 ≤ length bs
  pub sound : content_fault t s.content ≡ None
  pub content : s.content ≡ drop 4 (take (at16 bs 2) bs)
  pub rest : s.rest ≡ drop (at16 bs 2) bs

pub split_facts : (t : PacketType) (bs : List ℕ) (s : Split) → Ok s ≡ split_group t bs → Splits t bs s
split_facts t bs s e =
    let a = past_fault _ _ _ _ e in
    let b = past_else _ _ _ _ a.1 in
    let c = past_fault _ _ _ _ b.1 in
    let d = past_fault _ _ _ _ c.1 in
    let f = past_unless _ _ _ d.1 in
    record {
      number = eqb-true _ _ b.0;
      least = ltb-false _ _ c.0;
      most = ltb-false _ _ d.0;
      sound = ap (λ v. content_fault t v.content) f.1 ∙ f.0;
      content = ap (λ v. v.content) f.1;
      rest = ap (λ v. v.rest) f.1;
    }

-- a group takes at least its type and length
pub split_shorter : (t : PacketType) (bs : List ℕ) (s : Split) → Ok s ≡ split_group t bs → length s.rest + 4 ≤ length bs
split_shorter t bs s e =
    let f = split_facts t bs s e in
    let g = fixed_least t in
    let h : length s.rest ≡ length bs - at16 bs 2 = ap length f.rest ∙ length-drop (at16 bs 2) bs in
    omega (arith, f.least, f.most)

module _ (t : PacketType) where
  -- a walk on, past one group
  pub fault_more : (k : ℕ) (bs : List ℕ) (s : Split) → length bs ≤ k → Ok s ≡ split_group t bs → (j : ℕ) × (length s.rest ≤ j) × (first_fault j t s.rest ≡ first_fault k t bs)
  unfolding first_fault
  fault_more zero bs s le e = absurd (let h = split_shorter t bs s e in omega arith)
  fault_more (suc k) bs s le e =
      let h = split_shorter t bs s e in
      (k, omega arith, ap (after_group (first_fault k t) bs) e ∙ sym (cond-false _ _ _ (ne_eqb (length bs) 0 (omega arith))))

  pub fault_here : (k : ℕ) (bs : List ℕ) (f : GroupFault) → 0 < length bs → length bs ≤ k → Err f ≡ split_group t bs → Some (record { fault = f; left = length bs }) ≡ first_fault k t bs
  unfolding first_fault
  fault_here zero bs f lt le e = absurd (omega arith)
  fault_here (suc k) bs f lt le e =
      ap (after_group (first_fault k t) bs) e ∙ sym (cond-false _ _ _ (ne_eqb (length bs) 0 (omega arith)))

  pub fault_none : (k : ℕ) (bs : List ℕ) → length bs ≡ 0 → ◌≡◌ {A = Option Misfit} None (first_fault k t bs)
  unfolding first_fault
  fault_none zero bs e = refl
  fault_none (suc k) bs e = sym (cond-true _ _ _ (eq-eqb (length bs) 0 e))

-- what the groups hold, past one of them
module _ (t : PacketType) where
  -- a group takes its type and length and its content, which has its fixed part
  pub split_takes : (bs : List ℕ) (s : Split) → Ok s ≡ split_group t bs → (4 + length s.content + length s.rest ≡ length bs) × (group_fixed_of t ≤ 4 + length s.content)
  split_takes bs s e =
      let f = split_facts t bs s e in
      let n = at16 bs 2 in
      let g = fixed_least t in
      let least : 20 ≤ n = omega (arith, f.least) in
      let content : length s.content ≡ n - 4 = ap length f.content ∙ length-drop 4 (take n bs) ∙ ap (λ m. m - 4) (length-take-le n bs f.most) in
      let rest : length s.rest ≡ length bs - n = ap length f.rest ∙ length-drop n bs in
      (omega (arith, f.most), omega (arith, f.least))

  pub contents_more : (k : ℕ) (bs : List ℕ) (s : Split) → Ok s ≡ split_group t bs → contents (suc k) t bs ≡ s.content ∷ contents k t s.rest
  unfolding contents
  contents_more k bs s e =
      let h = split_takes bs s e in
      let z : length bs ≡ 0 → ⊥ = λ q. omega (arith, h.0) in
      cond-false _ _ _ (ne_eqb (length bs) 0 z) ∙ sym (ap (before_misfit (contents k t)) e)

  -- a group that breaks its layout ends the contents
  pub contents_stop : (k : ℕ) (bs : List ℕ) (f : GroupFault) → Err f ≡ split_group t bs → contents k t bs ≡ []
  unfolding contents
  contents_stop zero bs f e = refl
  contents_stop (suc k) bs f e =
      sym (ap (λ r. cond (eqb (length bs) 0) [] (before_misfit (contents k t) r)) e) ∙ either (eqb (length bs) 0)
    where
      either : (b : Bool) → cond {A = List (List ℕ)} b [] [] ≡ []
      either true = refl
      either false = refl

  -- a number that is at least that of the groups gives all of them
  pub contents_enough : (j k : ℕ) (bs : List ℕ) (r : Result Split GroupFault) → r ≡ split_group t bs → length bs ≤ j → length bs ≤ k → contents j t bs ≡ contents k t bs
  contents_enough j k bs (Err f) e lj lk = contents_stop j bs f e ∙ sym (contents_stop k bs f e)
  contents_enough zero k bs (Ok s) e lj lk = absurd (let h = split_takes bs s e in omega (arith, h.0))
  contents_enough (suc j) zero bs (Ok s) e lj lk = absurd (let h = split_takes bs s e in omega (arith, h.0))
  contents_enough (suc j) (suc k) bs (Ok s) e lj lk =
      let h = split_takes bs s e in
      contents_more j bs s e ∙ ap (λ cs. s.content ∷ cs) (contents_enough j k s.rest (split_group t s.rest) refl (omega (arith, h.0)) (omega (arith, h.0))) ∙ sym (contents_more k bs s e)

  -- the first group, and the groups behind it
  pub contents_next : (bs : List ℕ) (s : Split) → Ok s ≡ split_group t bs → contents (length bs) t bs ≡ s.content ∷ contents (length s.rest) t s.rest
  contents_next bs s e =
      let h = split_takes bs s e in
      let k = length bs - 1 in
      let n : length bs ≡ suc k = omega (arith, h.0) in
      ap (λ m. contents m t bs) n ∙ contents_more k bs s e
      ∙ ap (λ cs. s.content ∷ cs) (contents_enough k (length s.rest) s.rest (split_group t s.rest) refl (omega (arith, h.0)) (omega arith))

-- what a group holds that keeps its layout
pub record Kept (t : PacketType) (c : List ℕ) : Type 0 where
  pub sound : content_fault t c ≡ None
  pub least : group_fixed_of t ≤ 4 + length c

pub contents_kept : (k : ℕ) (t : PacketType) (bs : List ℕ) → AllByRecursion (Kept t) (contents k t bs)
unfolding contents
contents_kept zero t bs = tt
contents_kept (suc k) t bs = by (contents_kept k t) (eqb (length bs) 0) (split_group t bs) refl
  where
    by : ((ds : List ℕ) → AllByRecursion (Kept t) (contents k t ds)) → (b : Bool) (r : Result Split GroupFault) → r ≡ split_group t bs → AllByRecursion (Kept t) (cond b [] (before_misfit (contents k t) r))
    by all true r e = tt
    by all false (Ok s) e = (record { sound = (split_facts t bs s e).sound; least = (split_takes t bs s e).1 }, all s.rest)
    by all false (Err f) e = tt

-- what the answer of `ok` says of what was split off
pub split_some : (r : Result Group GroupFault) (o : Option Group) (g : Group) (t : PacketType) (bs : List ℕ) → viewed r ≡ split_group t bs → o ≡ result_ok r → o ≡ Some g → Ok (record { content = g.content.now; rest = g.rest.now }) ≡ split_group t bs
split_some (Ok h) o g t bs e k s = let p : h ≡ g = cc in ap (λ v. viewed (Ok v)) (sym p) ∙ e
split_some (Err f) o g t bs e k s = absurd (let z : ◌≡◌ {A = ℕ} 0 1 = cc in omega arith)

pub contents_none : (r : Result Group GroupFault) (o : Option Group) (t : PacketType) (bs : List ℕ) → viewed r ≡ split_group t bs → o ≡ result_ok r → o ≡ None → contents (length bs) t bs ≡ []
contents_none (Ok h) o t bs e k s = absurd (let z : ◌≡◌ {A = ℕ} 0 1 = cc in omega arith)
contents_none (Err f) o t bs e k s = contents_stop t (length bs) bs f e

-- what the answer of `map_err` says of what it was called on
pub mapped_ok : {T D E : Type 0} (r : Result T E) (m : Result T D) (x : T) (Q : E → D → Type 0) → MatchResult r (λ y. m ≡ Ok y) (λ e. IsErrAnd m (Q e)) → m ≡ Ok x → r ≡ Ok x
mapped_ok (Ok y) m x Q h e = let p : Ok y ≡ m = sym h in ap Ok (let q : y ≡ x = cc in q)
mapped_ok (Err f) (Ok y) x Q h e = absurd h
mapped_ok (Err f) (Err d) x Q h e = absurd (let z : ◌≡◌ {A = ℕ} 0 1 = cc in omega arith)

pub mapped_err : {T D E : Type 0} (r : Result T E) (m : Result T D) (d : D) (Q : E → D → Type 0) → MatchResult r (λ y. m ≡ Ok y) (λ e. IsErrAnd m (Q e)) → m ≡ Err d → (e : E) × ((r ≡ Err e) × Q e d)
mapped_err (Ok y) m d Q h e = absurd (let z : ◌≡◌ {A = ℕ} 0 1 = cc in omega arith)
mapped_err (Err f) (Ok y) d Q h e = absurd h
mapped_err (Err f) (Err g) d Q h e = let p : g ≡ d = cc in (f, (refl, subst (Q f) p h))
