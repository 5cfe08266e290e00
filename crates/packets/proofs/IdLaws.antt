-- Comparisons of bytes. Assumes nothing.
use Rattle.std.proofs.Common.{◌≡◌, ℕ, Bool, List, Some, nat_cmp, nat_eq, refl, arith}
use Rattle.std.proofs.lemmas.Slice.Eq.{slice_eq-Decides, bytes_eq-Decides}
use Rattle.std.proofs.lemmas.Cmp.{same_from_slice_cmp_tested}
use Rattle.std.proofs.lemmas.Bool.Decides.{same_from_decides, nat_tests, Decides-eqb}
use Rattle.std.specs.Cmp.Lexicographic.{pointwise, slice_partial_cmp}
use Rattle.std.specs.Ordering.{is_gt, is_some_and}
use Rattle.std.specs.Str.{bytes_eq}
use Rattle.packets.specs.Ids.{larger_bytes}

pub same_bytes : (xs ys : List ℕ) (r : Bool) → r ≡ pointwise nat_eq xs ys → r ≡ bytes_eq xs ys
same_bytes xs ys r m = same_from_decides r (bytes_eq xs ys) (slice_eq-Decides Decides-eqb xs ys r m) (bytes_eq-Decides xs ys)

pub is_larger : (xs ys : List ℕ) (r : Bool) → r ≡ is_some_and is_gt (slice_partial_cmp (λ a b. Some (nat_cmp a b)) xs ys) → r ≡ larger_bytes xs ys
is_larger = same_from_slice_cmp_tested nat_cmp is_gt larger_bytes refl (λ _ _. refl) (λ _ _. refl) (λ x y xs ys o h. grind (arith, nat_tests))
