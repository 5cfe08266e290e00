-- An instance of any kind as time goes by. Assumes nothing.
use Rattle.std.proofs.Common.{◌≡◌, ℕ, zero, suc, ◌-◌, ◌<◌, ◌≤◌, min, List, [], ◌∷◌, length, sym, refl, ap, ◌∙◌, subst, inl, inr, eq-or-lt_of_le, arith}
use Rattle.std.proofs.lemmas.Bool.{cases_lt}
use Rattle.std.proofs.lemmas.List.FromFn.{length-range_with_len}
use Rattle.std.specs.List.{fold, range_with_len}
use Rattle.kinds.specs.declared.rank.Rank.TheVariants.{Same, Higher}
use Rattle.kinds.specs.Ageing.{aged, Ageing}
use Rattle.kinds.specs.Kinds.{Operations, Laws}
use Rattle.kinds.specs.WeakOrders.{order_facts}

module _ {I : Type 0} (ops : Operations I) (laws : Laws ops) where
  pub aged_none : (x : I) → aged ops 0 x ≡ x
  unfolding aged
  aged_none x = refl

  pub aged_more : (n : ℕ) (x : I) → aged ops (suc n) x ≡ ops.older (aged ops n x)
  unfolding aged
  aged_more n x = refl

  pub aged_left : (n : ℕ) (x : I) → ops.left (aged ops n x) ≡ ops.left x - n
  aged_left zero x = ap ops.left (aged_none x) ∙ omega arith
  aged_left (suc n) x = ap ops.left (aged_more n x) ∙ laws.older_left (aged ops n x) ∙ omega (arith, aged_left n x)

  pub aged_same : (n : ℕ) (x : I) → n < ops.left x → ops.rank (aged ops n x) x ≡ Same
  aged_same zero x h = ap (λ y. ops.rank y x) (aged_none x) ∙ (order_facts ops.rank laws.order).same_self x
  aged_same (suc n) x h =
      ap (λ y. ops.rank y x) (aged_more n x)
      ∙ laws.order.same_trans _ _ _ (laws.older_same (aged ops n x) (omega (arith, aged_left n x))) (aged_same n x (omega arith))

  -- past its time left an instance does not change
  aged_stops : (n : ℕ) (x : I) → ops.left x ≤ n → aged ops n x ≡ aged ops (ops.left x) x
  aged_stops zero x h = ap (λ m. aged ops m x) (omega arith)
  aged_stops (suc n) x h =
      elim (eq-or-lt_of_le h) [
        | inl e ↦ ap (λ m. aged ops m x) (sym e)
        | inr l ↦ aged_more n x ∙ laws.older_stays (aged ops n x) (aged_left n x ∙ omega arith) ∙ aged_stops n x (omega arith)
      ]

  aged_min : (n : ℕ) (x : I) → aged ops (min n (ops.left x)) x ≡ aged ops n x
  aged_min n x =
      elim (cases_lt n (ops.left x)) [
        | inl l ↦ ap (λ m. aged ops m x) (omega arith)
        | inr l ↦ ap (λ m. aged ops m x) (let e : min n (ops.left x) ≡ ops.left x = omega arith in e) ∙ sym (aged_stops n x l)
      ]

  -- the last second of an instance brings its expired form
  last_left : (x : I) → 0 < ops.left x → ops.left (aged ops (ops.left x - 1) x) ≡ 1
  last_left x h = aged_left (ops.left x - 1) x ∙ omega arith

  aged_ends : (x : I) → 0 < ops.left x → aged ops (ops.left x) x ≡ ops.expired (aged ops (ops.left x - 1) x)
  aged_ends x h =
      ap (λ m. aged ops m x) (let e : ops.left x ≡ suc (ops.left x - 1) = omega arith in e)
      ∙ aged_more (ops.left x - 1) x
      ∙ laws.older_ends (aged ops (ops.left x - 1) x) (last_left x h)

  ends_higher : (x : I) → 0 < ops.left x → ops.rank (ops.expired (aged ops (ops.left x - 1) x)) x ≡ Higher
  ends_higher x h =
      (order_facts ops.rank laws.order).higher_same _ _ _
      (laws.expired_higher (aged ops (ops.left x - 1) x) (omega (arith, last_left x h)))
      (aged_same (ops.left x - 1) x (omega arith))

  ageing : (x : I) (n : ℕ) → Ageing ops x n (aged ops n x)
  ageing x n = record {
    rank_stays = aged_same n x;
    time_falls = λ _. aged_left n x;
    runs_out = λ p q. aged_stops n x q ∙ aged_ends x p;
    ends_higher = λ p q. ap (λ y. ops.rank y x) (aged_stops n x q ∙ aged_ends x p) ∙ ends_higher x p;
    stays_expired = λ e. aged_stops n x (omega arith) ∙ ap (λ m. aged ops m x) e ∙ aged_none x;
  }

  aged_older : (n : ℕ) (x : I) → aged ops n (ops.older x) ≡ aged ops (suc n) x
  aged_older zero x = aged_none (ops.older x) ∙ ap ops.older (sym (aged_none x)) ∙ sym (aged_more 0 x)
  aged_older (suc n) x = aged_more n (ops.older x) ∙ ap ops.older (aged_older n x) ∙ sym (aged_more (suc n) x)

  -- one second older for each item
  folded : (x : I) (ys : List ℕ) → fold (λ y _. ops.older y) x ys ≡ aged ops (length ys) x
  folded x [] = sym (aged_none x)
  folded x (y ∷ ys) = folded (ops.older x) ys ∙ aged_older (length ys) x

  -- what a step for each second comes to, as far as time is left
  pub counted : (x y : I) (n : ℕ) → y ≡ fold (λ z _. ops.older z) x (range_with_len 0 (min n (ops.left x))) → (y ≡ aged ops n x) × Ageing ops x n y
  counted x y n f =
      let q : y ≡ aged ops n x = f ∙ folded x (range_with_len 0 (min n (ops.left x))) ∙ ap (λ k. aged ops k x) (length-range_with_len 0 (min n (ops.left x))) ∙ aged_min n x in
      (q, subst (Ageing ops x n) (sym q) (ageing x n))
