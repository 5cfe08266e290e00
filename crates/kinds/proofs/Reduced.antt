-- What `reduce` gives by a closure that acts as a function. Assumes nothing.
use Rattle.std.proofs.Common.{◌≡◌, List, [], ◌∷◌, Some, None, Option, refl, ap, subst}
use Rattle.std.specs.Fn.{Called}
use Rattle.std.specs.Iterator.{ActsAsOnTwo, ReducesItems}
use Rattle.std.specs.List.{FoldsTo, reduce}
use Rattle.std.specs.Option.{option_map}
use Rattle.std.proofs.lemmas.Iterator.{YieldsList}
use Rattle.std.proofs.lemmas.Iterator.Consumers.{reduce_by_from_yields_List}
use denote.Param.Members.{Mut}

module _ {F A : Type 0} (c : Mut F (A × (A × Unit {0})) A) (f : F) (h : A → A → A) (acts : ActsAsOnTwo c f h) where
  folds : (xs : List A) (e : F) (a b : A) (last : F) → e ≡ f → FoldsTo {P = F × A} (λ p x q. Called c p.0 (p.1, (x, tt)) q.1 q.0) (e, a) xs (last, b) → FoldsTo (λ p x q. q ≡ h p x) a xs b
  folds [] e a b last s d = ap (λ p. p.1) d
  folds (x ∷ xs) e a b last s d =
      let k = acts a x d.0.1 d.0.0 (subst (λ g. Called c g (a, (x, tt)) d.0.1 d.0.0) s d.1) in
      (d.0.1, k.1, folds xs d.0.0 d.0.1 b last k.0 d.2)

  -- v reads each item, and h on items is g on what v reads
  pub reduced_from_yields_list : {S B : Type 0} {steps : S → Option A → S → Type 0} {v : A → B} {all : List B} (g : B → B → B) (s : S) (r : Option A) → ((p x : A) → v (h p x) ≡ g (v p) (v x)) → ReducesItems steps c s f r → YieldsList steps v s all → option_map v r ≡ reduce g all
  reduced_from_yields_list g s None e d y = reduce_by_from_yields_List h g s None e d y
  reduced_from_yields_list g s (Some z) e d y = reduce_by_from_yields_List h g s (Some z) e (d.0, d.1, d.3, folds d.1 f d.0 z d.2 refl d.4) y
