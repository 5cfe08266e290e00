-- Places chosen one after the other. Assumes nothing.
use Rattle.std.proofs.Common.{◌≡◌, ℕ, zero, suc, ◌+◌, ◌<◌, ◌≤◌, min, Bool, true, false, cond, List, [], ◌∷◌, ◌++◌, length, take, drop, Option, sym, refl, ap, ◌∙◌, arith}
use Rattle.std.proofs.lemmas.List.{append_assoc, append-nil, at_drop_all, length-append}
use Rattle.std.proofs.lemmas.Bool.{lt-ltb, le-ltb}
use Rattle.places.specs.PlaceLists.{kept}
use Rattle.exchange.specs.Selections.{chosen, first_places, passes, places_where}

module _ {X : Type 0} (limit : ℕ) (f : ℕ → X → Bool) (xs : List (Option X)) (i : ℕ) where
  pub chosen_all : (ps us : List ℕ) → length xs ≤ i → chosen limit f i (drop i xs) ps ≡ us → ps ≡ us
  chosen_all ps us le inv = sym (at_drop_all (λ ys. chosen limit f i ys ps) xs i le) ∙ inv

kept_more : (ps : List ℕ) (p limit : ℕ) (b : Bool) → b ≡ true → length ps < min limit 64 → kept ps p b limit ≡ ps ++ (p ∷ [])
kept_more ps p limit b h l = let x = lt-ltb (length ps) (min limit 64) l in cc

kept_full : (ps : List ℕ) (p limit : ℕ) (b : Bool) → min limit 64 ≤ length ps → kept ps p b limit ≡ ps
kept_full ps p limit true l = let x = le-ltb (length ps) (min limit 64) l in cc
kept_full ps p limit false l = refl

module _ {X : Type 0} (limit : ℕ) (f : ℕ → X → Bool) where
  -- once there are as many as may be, nothing is added
  chosen_full : (i : ℕ) (xs : List (Option X)) (ps : List ℕ) → min limit 64 ≤ length ps → chosen limit f i xs ps ≡ ps
  chosen_full i [] ps l = refl
  chosen_full i (x ∷ xs) ps l = ap (chosen limit f (i + 1) xs) (kept_full ps i limit (passes f i x) l) ∙ chosen_full (i + 1) xs ps l

  abbrev First-chosen : ℕ → List (Option X) → Type 0
  First-chosen i xs = (n : ℕ) (ps : List ℕ) → length ps + n ≡ min limit 64 → chosen limit f i xs ps ≡ ps ++ take n (places_where f i xs)

  further : (i : ℕ) (xs : List (Option X)) (b : Bool) → First-chosen (i + 1) xs → (n : ℕ) (ps : List ℕ) → length ps + n ≡ min limit 64 → chosen limit f (i + 1) xs (kept ps i b limit) ≡ ps ++ take n (cond b (i ∷ places_where f (i + 1) xs) (places_where f (i + 1) xs))
  further i xs true more zero ps e =
      ap (chosen limit f (i + 1) xs) (kept_full ps i limit true (omega arith)) ∙ chosen_full (i + 1) xs ps (omega arith) ∙ sym (append-nil ps)
  further i xs true more (suc n) ps e =
      ap (chosen limit f (i + 1) xs) (kept_more ps i limit true refl (omega arith))
      ∙ more n (ps ++ (i ∷ [])) (ap (λ k. k + n) (length-append ps (i ∷ [])) ∙ omega arith)
      ∙ append_assoc ps (i ∷ []) (take n (places_where f (i + 1) xs))
  further i xs false more n ps e = more n ps e

  -- what is chosen are the first that pass
  pub chosen_first : (i : ℕ) (xs : List (Option X)) → First-chosen i xs
  chosen_first i [] zero ps e = sym (append-nil ps)
  chosen_first i [] (suc n) ps e = sym (append-nil ps)
  chosen_first i (x ∷ xs) n ps e = further i xs (passes f i x) (chosen_first (i + 1) xs) n ps e

-- the first 32
pub first_32 : {X : Type 0} (f : ℕ → X → Bool) (xs : List (Option X)) (ps : List ℕ) → ps ≡ chosen 32 f 0 xs [] → ps ≡ first_places f xs
first_32 f xs ps e = e ∙ chosen_first 32 f 0 xs 32 [] refl
