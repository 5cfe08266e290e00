-- A walk of the drops over a row. Assumes nothing.
use Rattle.std.proofs.Common.{◌≡◌, ℕ, zero, suc, ◌+◌, ◌-◌, ◌<◌, ◌≤◌, List, length, get_or, take, sym, ap, ◌∙◌, arith}
use Rattle.std.proofs.lemmas.Bool.{cond-false, le-ltb}
use Rattle.std.proofs.lemmas.List.{get_or_default, get_or-take, length-take}
use Rattle.std.proofs.lemmas.List.FromFn.{get_or-enumerate_from, length-enumerate_from}
use Rattle.std.specs.List.{enumerate_from}
use Rattle.kinds.specs.Kinds.{Operations}
use Rattle.kinds.specs.Recency.{instance_at}
use Rattle.lines.specs.Tables.{in_turn}
use Rattle.lines.proofs.TableLaws.{in_turn_more}
use Rattle.database.specs.declared.node.Node.{Node}
use Rattle.database.specs.Seconds.{dropped_at}

module _ {I : Type 0} (ops : Operations I) (xs : List I) (s : Node) where
  -- the places that the row reaches, with their instances
  abbrev reached : List (ℕ × I)
  reached = take 64 (enumerate_from 0 xs)

  -- the nodes after the drops at the first places
  abbrev after : ℕ → Node
  after k = in_turn (dropped_at ops xs) k s

  -- a place and its instance come in their turn
  pub in_its_turn : (k p : ℕ) (x : I) (n m : Node) → (k < length reached) × ((p, x) ≡ get_or reached k (p, x)) → n ≡ after k → (p < length xs → instance_at ops xs p ≡ x → m ≡ dropped_at ops xs p n) → m ≡ after (k + 1)
  in_its_turn k p x n m h e step =
      let low : k < 64 = omega (arith, h.0, length-take 64 (enumerate_from 0 xs)) in
      let lt : k < length xs = omega (arith, h.0, length-take 64 (enumerate_from 0 xs), length-enumerate_from 0 xs) in
      let both : (p, x) ≡ (0 + k, get_or xs k x) = h.1 ∙ get_or-take 64 (enumerate_from 0 xs) k (p, x) low ∙ get_or-enumerate_from 0 xs k (p, x) lt in
      let q : p ≡ 0 + k = ap (λ a. a.0) both in
      let at : p ≡ k = omega (arith, q) in
      let held : x ≡ get_or xs k x = ap (λ a. a.1) both in
      let one : m ≡ dropped_at ops xs p n = step (omega (arith, at, lt)) (ap (instance_at ops xs) at ∙ get_or_default xs k (ops.first 0 0) x lt ∙ sym held) in
      in_turn_more (dropped_at ops xs) k s n m e (one ∙ ap (λ j. dropped_at ops xs j n) at)

  -- a place that the row does not reach is not dropped
  past : (p : ℕ) (n : Node) → length xs ≤ p → dropped_at ops xs p n ≡ n
  past p n le = cond-false _ _ _ (le-ltb p (length xs) le)

  beyond : (m k : ℕ) (n : Node) → (0 < m → length xs ≤ k) → n ≡ after k → n ≡ after (k + m)
  beyond zero k n le e = e ∙ ap after (omega arith)
  beyond (suc m) k n le e =
      let f : length xs ≤ k + m = omega (arith, le (omega arith)) in
      in_turn_more (dropped_at ops xs) (k + m) s n n (beyond m k n (λ _. le (omega arith)) e) (sym (past (k + m) n f)) ∙ ap after (omega arith)

  -- where the row ends, the rest of the places stay
  pub row_ends : (k : ℕ) (n : Node) → k ≡ length reached → n ≡ after k → n ≡ after 64
  row_ends k n l e =
      let sized = length-take 64 (enumerate_from 0 xs) in
      let same = length-enumerate_from 0 xs in
      beyond (64 - k) k n (λ more. omega (arith, l, sized, same, more)) e ∙ ap after (omega (arith, l, sized))
