-- Lists in fixed memory. Assumes nothing.
use Rattle.std.specs.Prelude.{ℕ, cond, List, [], ◌∷◌, ◌++◌, length, take, nat_lt}
use Rattle.places.specs.declared.list.List.{List as FixedList}

-- the items of a list, in order
abbrev pub listed : {T : Type 0} {N : ℕ} → FixedList T N → List T
listed l = take l.count l.items

-- an item comes last, as long as there are fewer than n
abbrev pub pushed : {T : Type 0} → ℕ → List T → T → List T
pushed n xs x = cond (nat_lt (length xs) n) (xs ++ (x ∷ [])) xs
