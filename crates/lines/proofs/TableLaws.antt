-- Steps of loops over a table, and what a search finds. Assumes nothing.
use Rattle.std.proofs.Common.{◌≡◌, ℕ, zero, suc, ◌+◌, ◌<◌, ◌≤◌, Bool, true, false, cond, ◌||◌, List, [], ◌∷◌, ◌++◌, length, get_or, take, drop, set, Some, None, Option, sym, refl, ap, ◌∙◌, subst, add-one, arith, take_all, MatchOption}
use Rattle.std.proofs.lemmas.List.{append-nil, at_drop_more, at_drop_all, drop_all}
use Rattle.std.proofs.lemmas.Bool.{cond-true, cond-false}
use Rattle.std.specs.List.{list_any}
use Rattle.lines.specs.Tables.{first_where, some_where, First, map_from, by_place, in_turn}

module _ {X : Type 0} (p : X → Bool) (xs : List X) (i : ℕ) where
  pub first_here : (d : X) → i < length xs → true ≡ p (get_or xs i d) → first_where p i (drop i xs) ≡ first_where p 0 xs → Some i ≡ first_where p 0 xs
  first_here d lt h inv = sym (at_drop_more (first_where p i) xs i d lt ∙ cond-true _ _ _ (sym h)) ∙ inv

  pub first_more : (d : X) → i < length xs → false ≡ p (get_or xs i d) → first_where p i (drop i xs) ≡ first_where p 0 xs → first_where p (i + 1) (drop (i + 1) xs) ≡ first_where p 0 xs
  first_more d lt h inv = sym (at_drop_more (first_where p i) xs i d lt ∙ cond-false _ _ _ (sym h)) ∙ inv

  pub first_none : length xs ≤ i → first_where p i (drop i xs) ≡ first_where p 0 xs → None ≡ first_where p 0 xs
  first_none le inv = sym (at_drop_all (first_where p i) xs i le) ∙ inv

or_is : (b : Bool) {m n : Bool} → m ≡ n → (b || m) ≡ cond b true n
or_is true e = refl
or_is false e = e

-- `any` finds whether a record passes
pub list_any_is : {X : Type 0} (p : X → Bool) (xs : List X) → list_any p xs ≡ some_where p xs
list_any_is p [] = refl
list_any_is p (x ∷ xs) = or_is (p x) (list_any_is p xs)

module _ {X : Type 0} (p : X → Bool) where
  abbrev None-passes : List X → Type 0
  None-passes xs = (k : ℕ) (d : X) → k < length xs → p (get_or xs k d) ≡ false

  abbrev From : ℕ → List X → Option ℕ → Type 0
  From i xs r =
      MatchOption r (None-passes xs)
      (λ j. (m : ℕ) × (j ≡ i + m) × (m < length xs) × ((d : X) → p (get_or xs m d) ≡ true) × ((k : ℕ) (d : X) → k < m → p (get_or xs k d) ≡ false))

  later : (x : X) (xs : List X) (m : ℕ) → p x ≡ false → ((k : ℕ) (d : X) → k < m → p (get_or xs k d) ≡ false) → (k : ℕ) (d : X) → k < suc m → p (get_or (x ∷ xs) k d) ≡ false
  later x xs m e h zero d lt = e
  later x xs m e h (suc k) d lt = h k d (omega arith)

  past : (i : ℕ) (x : X) (xs : List X) → p x ≡ false → (r : Option ℕ) → From (i + 1) xs r → From i (x ∷ xs) r
  past i x xs e None f = later x xs (length xs) e f
  past i x xs e (Some j) (m, q, lt, h, b) = (suc m, omega arith, omega arith, h, later x xs m e b)

  step : (i : ℕ) (x : X) (xs : List X) (b : Bool) → p x ≡ b → From (i + 1) xs (first_where p (i + 1) xs) → From i (x ∷ xs) (cond b (Some i) (first_where p (i + 1) xs))
  step i x xs true e f = (0, omega arith, omega arith, (λ d. e), λ k d lt. absurd (omega arith))
  step i x xs false e f = past i x xs e _ f

  from : (i : ℕ) (xs : List X) → From i xs (first_where p i xs)
  from i [] = λ k d lt. absurd (omega arith)
  from i (x ∷ xs) = step i x xs (p x) refl (from (i + 1) xs)

  from_start : (xs : List X) (r : Option ℕ) → From 0 xs r → First p xs r
  from_start xs None f = f
  from_start xs (Some j) (m, q, lt, h, b) =
      let e : m ≡ j = omega arith in
      (omega arith, subst (λ k. (d : X) → p (get_or xs k d) ≡ true) e h, subst (λ n. (k : ℕ) (d : X) → k < n → p (get_or xs k d) ≡ false) e b)

  -- a search finds the first
  pub found : (xs : List X) (r : Option ℕ) → r ≡ first_where p 0 xs → First p xs r
  found xs r e = subst (First p xs) (sym e) (from_start xs (first_where p 0 xs) (from 0 xs))

module _ {X : Type 0} (f : ℕ → X → X) where
  abbrev half : ℕ → List X → ℕ → List X
  half k xs i = map_from f k (take i xs) ++ drop i xs

  half_step : (k : ℕ) (xs : List X) (i : ℕ) (x : X) → i < length xs → x ≡ get_or (half k xs i) i x → set (half k xs i) i (f (k + i) x) ≡ half k xs (suc i)
  half_step k [] i x lt e = absurd (omega arith)
  half_step k (y ∷ ys) zero x lt e = ap (λ n. f n x ∷ ys) (omega arith) ∙ ap (λ z. f k z ∷ ys) e
  half_step k (y ∷ ys) (suc i) x lt e =
      ap (λ n. f k y ∷ set (half (k + 1) ys i) i (f n x)) (omega arith) ∙ ap (λ zs. f k y ∷ zs) (half_step (k + 1) ys i x (omega arith) e)

  pub by_place_more : (xs ys : List X) (i : ℕ) (x y : X) → i < length xs → ys ≡ map_from f 0 (take i xs) ++ drop i xs → x ≡ get_or ys i x → y ≡ f i x → set ys i y ≡ map_from f 0 (take (i + 1) xs) ++ drop (i + 1) xs
  by_place_more xs ys i x y lt inv e q =
      ap (set ys i) q ∙ ap (λ zs. set zs i (f i x)) inv ∙ ap (λ n. set (half 0 xs i) i (f n x)) (omega arith) ∙ half_step 0 xs i x lt (e ∙ ap (λ zs. get_or zs i x) inv) ∙ ap (half 0 xs) (sym (add-one i))

  pub by_place_all : (xs ys : List X) (i : ℕ) → length xs ≤ i → ys ≡ map_from f 0 (take i xs) ++ drop i xs → ys ≡ by_place f xs
  by_place_all xs ys i le inv = inv ∙ ap (λ zs. map_from f 0 zs ++ drop i xs) (take_all i xs le) ∙ ap (λ zs. map_from f 0 xs ++ zs) (drop_all i xs le) ∙ append-nil (map_from f 0 xs)

module _ {S : Type 0} (f : ℕ → S → S) where
  pub in_turn_none : (s : S) → s ≡ in_turn f 0 s
  unfolding in_turn
  in_turn_none s = refl

  pub in_turn_more : (i : ℕ) (s t u : S) → t ≡ in_turn f i s → u ≡ f i t → u ≡ in_turn f (i + 1) s
  unfolding in_turn
  in_turn_more i s t u e h = rw add-one (h ∙ ap (f i) e)
