-- One line of a table, changed. Assumes nothing.
use Rattle.std.proofs.Common.{◌≡◌, ℕ, zero, suc, List, [], ◌∷◌, get_or, set, sym, refl, ap, ◌∙◌}
use Rattle.packets.specs.declared.ids.Name.{Name}
use Rattle.lines.specs.Lines.{no_line}
use Rattle.tables.specs.Searches.{place_of}
use Rattle.database.specs.declared.node.Node.{Node}
use Rattle.database.specs.Nodes.{with_lines}
use Rattle.exchange.specs.Showings.{called_at, called_for}

module _ {X : Type 0} (d : X) where
  -- a place that is left as it was
  pub set_self : (xs : List X) (i : ℕ) → set xs i (get_or xs i d) ≡ xs
  set_self [] i = refl
  set_self (x ∷ xs) zero = refl
  set_self (x ∷ xs) (suc i) = ap (λ ys. x ∷ ys) (set_self xs i)

  -- two changes at a place are one
  pub set_twice : (f g : X → X) (xs : List X) (i : ℕ) → set (set xs i (f (get_or xs i d))) i (g (get_or (set xs i (f (get_or xs i d))) i d)) ≡ set xs i (g (f (get_or xs i d)))
  set_twice f g [] i = refl
  set_twice f g (x ∷ xs) zero = refl
  set_twice f g (x ∷ xs) (suc i) = ap (λ ys. x ∷ ys) (set_twice f g xs i)

-- A line worked by entries in turn: one more.
module _ {X A : Type 0} (d : X) (run : List A → X → X) (f : A → X → X) (more : (a : A) (rest : List A) (x : X) → run (a ∷ rest) x ≡ run rest (f a x)) (i : ℕ) where
  abbrev on : List A → List X → List X
  on es xs = set xs i (run es (get_or xs i d))

  pub on_more : (xs ys : List X) (a : A) (es rest : List A) → es ≡ a ∷ rest → ys ≡ set xs i (f a (get_or xs i d)) → on rest ys ≡ on es xs
  on_more xs ys a es rest e h =
      ap (on rest) h ∙ set_twice d (f a) (run rest) xs i ∙ sym (ap (λ cs. on cs xs) e ∙ ap (set xs i) (more a rest (get_or xs i d)))

-- a line of a node, left as it was
pub same_lines : (n : Node) (i : ℕ) → n ≡ with_lines n n.wants (set n.lines i (get_or n.lines i no_line))
same_lines n i = ap (with_lines n n.wants) (sym (set_self no_line n.lines i))

-- names called for in turn: one more
module _ (i : ℕ) where
  abbrev pub calling : List Name → Node → Node
  calling names n = with_lines n n.wants (set n.lines i (called_for n.places names (get_or n.lines i no_line)))

  pub call_more : (m n : Node) (name : Name) (names rest : List Name) → names ≡ name ∷ rest → m ≡ with_lines n n.wants (set n.lines i (called_at (place_of n.places name) (get_or n.lines i no_line))) → calling rest m ≡ calling names n
  call_more m n name names rest e h =
      ap (calling rest) h ∙ ap (with_lines n n.wants) (set_twice no_line (called_at (place_of n.places name)) (called_for n.places rest) n.lines i) ∙ sym (ap (λ xs. calling xs n) e)
