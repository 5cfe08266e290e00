-- The sum of what places take, added up one by one. Assumes nothing.
use Rattle.std.proofs.Common.{◌≡◌, ℕ, ◌+◌, ◌<◌, ◌≤◌, true, false, leb, List, length, get_or, drop, sym, arith}
use Rattle.std.proofs.lemmas.List.{at_drop_more, at_drop_all}
use Rattle.std.proofs.lemmas.Bool.{le-leb, lt-leb}
use Rattle.compose.specs.Composed.{needed}

module _ (most : ℕ → ℕ) (ps : List ℕ) (i len whole : ℕ) (left : len + needed most (drop i ps) ≡ whole) where
  -- one place more
  pub sum_more : (end : ℕ) → i < length ps → end ≡ len + most (get_or ps i 0) → end + needed most (drop (i + 1) ps) ≡ whole
  sum_more end lt e =
      let n : needed most (drop i ps) ≡ most (get_or ps i 0) + needed most (drop (i + 1) ps) = at_drop_more (needed most) ps i 0 lt in
      omega arith

  -- it is too much already
  pub sum_over : (end : ℕ) → i < length ps → end ≡ len + most (get_or ps i 0) → 2048 < end → false ≡ leb whole 2048
  sum_over end lt e over = let s = sum_more end lt e in sym (lt-leb whole 2048 (omega arith))

  -- no place is left
  pub sum_all : length ps ≤ i → len ≤ 2048 → true ≡ leb whole 2048
  sum_all le short =
      let n : needed most (drop i ps) ≡ 0 = at_drop_all (needed most) ps i le in
      sym (le-leb whole 2048 (omega arith))
