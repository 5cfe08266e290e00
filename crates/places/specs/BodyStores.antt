-- The store of bodies. Assumes nothing.
use Rattle.std.specs.Prelude.{ℕ, cond, ◌||◌, List, [], ◌++◌, length, take, drop, replicate, nat_le, nat_lt, slice_index_or, slice_set}
use Rattle.places.specs.declared.store.Body.{Body}
use Rattle.places.specs.declared.store.BodyStore.{BodyStore}

abbrev pub blank_body : Body
blank_body = record { bytes = replicate 256 0; length = 0 }

-- the first bytes, as many as the body has
abbrev pub bytes_of : Body → List ℕ
bytes_of b = cond (nat_lt 256 b.length) [] (take b.length b.bytes)

-- what lies behind the new bytes stays
abbrev pub filled : Body → List ℕ → Body
filled b bytes = record { bytes = bytes ++ drop (length bytes) b.bytes; length = length bytes }

abbrev pub cleared : Body → Body
cleared b = record { bytes = b.bytes; length = 0 }

unfoldable pub no_bodies : BodyStore
no_bodies = record { bodies = replicate 64 blank_body }

-- what stands at a place below 64
abbrev pub held_at : BodyStore → ℕ → Body
held_at s p = slice_index_or s.bodies p blank_body

-- the first bytes of a place, as many as its body has
abbrev pub body_at : BodyStore → ℕ → List ℕ
body_at s p = cond (nat_le 64 p) [] (bytes_of (held_at s p))

-- a body of at most 256 bytes in the place of the old one; what lies behind it stays
abbrev pub stored : BodyStore → ℕ → List ℕ → BodyStore
stored s p body = cond (nat_le 64 p || nat_lt 256 (length body)) s (record { bodies = slice_set s.bodies p (filled (held_at s p) body) })

abbrev pub emptied : BodyStore → ℕ → BodyStore
emptied s p = cond (nat_lt p 64) (record { bodies = slice_set s.bodies p (cleared (held_at s p)) }) s
