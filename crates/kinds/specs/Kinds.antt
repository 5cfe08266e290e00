-- What a kind of instance can do, and the laws that bind every kind. Assumes nothing.
use Rattle.std.specs.Prelude.{◌≡◌, ℕ, ◌-◌, ◌^◌, ◌<◌, Bool, true, List, length, Some, Option, ◌==◌}
use Rattle.std.specs.List.{AllByRecursion}
use Rattle.kinds.specs.declared.rank.Rank.{Rank}
use Rattle.kinds.specs.declared.rank.Rank.TheVariants.{Same, Higher}
use Rattle.kinds.specs.Ranks.{WeakOrder}

pub record Operations (I : Type 0) : Type 0 where
  pub read : List ℕ → I
  pub write : I → List ℕ
  -- each field is in the range of its type
  pub fits : I → Bool
  pub rank : I → I → Rank
  -- seconds
  pub left : I → ℕ
  -- one second later
  pub older : I → I
  pub expired : I → I
  -- by check number and time
  pub first : ℕ → ℕ → I
  pub next : I → ℕ → ℕ → Option I

-- expired means exactly that no time is left
abbrev pub is_expired : {I : Type 0} → Operations I → I → Bool
is_expired ops x = ops.left x == 0

abbrev pub EightBytes : List ℕ → Type 0
EightBytes bs = (length bs ≡ 8) × AllByRecursion (λ b. b < 256) bs

pub record Laws {I : Type 0} (ops : Operations I) : Type 0 where
  pub order : WeakOrder ops.rank
  -- a second takes a second; it leaves the rank while time is left, then comes the expired form, which does not age
  pub older_left : (x : I) → ops.left (ops.older x) ≡ ops.left x - 1
  pub older_same : (x : I) → 1 < ops.left x → ops.rank (ops.older x) x ≡ Same
  pub older_ends : (x : I) → ops.left x ≡ 1 → ops.older x ≡ ops.expired x
  pub older_stays : (x : I) → ops.left x ≡ 0 → ops.older x ≡ x
  -- the expired form is above what it ends
  pub expired_left : (x : I) → ops.left (ops.expired x) ≡ 0
  pub expired_higher : (x : I) → 0 < ops.left x → ops.rank (ops.expired x) x ≡ Higher
  pub expired_same : (x : I) → ops.left x ≡ 0 → ops.rank (ops.expired x) x ≡ Same
  -- first and next have the time given, and next is above what it follows
  pub first_left : (check time : ℕ) → 0 < time → ops.left (ops.first check time) ≡ time
  pub next_left : (x y : I) (check time : ℕ) → 0 < time → ops.next x check time ≡ Some y → ops.left y ≡ time
  pub next_higher : (x y : I) (check time : ℕ) → 0 < time → ops.next x check time ≡ Some y → ops.rank y x ≡ Higher
  -- reading and writing undo each other
  pub read_write : (x : I) → ops.fits x ≡ true → ops.read (ops.write x) ≡ x
  pub write_read : (bs : List ℕ) → EightBytes bs → ops.write (ops.read bs) ≡ bs
  -- no operation leaves the range of the fields
  pub write_eight : (x : I) → ops.fits x ≡ true → EightBytes (ops.write x)
  pub read_fits : (bs : List ℕ) → EightBytes bs → ops.fits (ops.read bs) ≡ true
  pub older_fits : (x : I) → ops.fits x ≡ true → ops.fits (ops.older x) ≡ true
  pub expired_fits : (x : I) → ops.fits x ≡ true → ops.fits (ops.expired x) ≡ true
  pub first_fits : (check time : ℕ) → check < 2 ^ 16 → time < 2 ^ 16 → ops.fits (ops.first check time) ≡ true
  pub next_fits : (x y : I) (check time : ℕ) → ops.fits x ≡ true → check < 2 ^ 16 → time < 2 ^ 16 → ops.next x check time ≡ Some y → ops.fits y ≡ true
