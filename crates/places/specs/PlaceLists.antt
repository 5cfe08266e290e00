-- Lists of places. Assumes nothing.
use Rattle.std.specs.Prelude.{ℕ, min, Bool, cond, ◌&&◌, List, [], ◌∷◌, ◌++◌, length, nat_lt}

-- a place that passes comes last, as long as there are fewer than the limit and than 64
abbrev pub kept : List ℕ → ℕ → Bool → ℕ → List ℕ
kept ps p passes limit = cond (passes && nat_lt (length ps) (min limit 64)) (ps ++ (p ∷ [])) ps
