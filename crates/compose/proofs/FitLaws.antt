-- What a caller chooses meets the guards. Assumes nothing.
use Rattle.std.proofs.Common.{◌≡◌, ℕ, ◌+◌, ◌≤◌, Bool, true, false, cond, ◌&&◌, leb, List, [], ◌∷◌, ◌++◌, length, drop, Some, Option, refl, ap, ◌∙◌, arith, length-take}
use Rattle.std.proofs.lemmas.Bool.{and_from, cond-true, le-leb, leb-true}
use Rattle.packets.specs.Contents.{PacketView}
use Rattle.packets.specs.Encodings.{encode}
use Rattle.places.specs.declared.store.BodyStore.{BodyStore}
use Rattle.tables.specs.declared.element.Element.{Element}
use Rattle.lines.specs.declared.line.Line.{Line}
use Rattle.database.specs.declared.node.Node.{Node}
use Rattle.exchange.specs.Bundling.{bundle_places, due_owed, fitting, goes_with, longer_by}
use Rattle.exchange.specs.Selections.{first_places, places_where}
use Rattle.compose.specs.Composed.{composed, composed_length, element_long, few, needed, short}

-- where a guard holds, the packet is written
module _ (fits : Bool) (content : PacketView) (buffer : List ℕ) (holds : fits ≡ true) where
  pub composed_whole : composed fits content buffer ≡ encode content ++ drop (length (encode content)) buffer
  composed_whole =
      let n : 0 + length (encode content) ≡ length (encode content) = omega arith in
      cond-true _ _ _ holds ∙ ap (λ m. encode content ++ drop m buffer) n

  pub composed_long : composed_length fits content ≡ Some (length (encode content))
  composed_long = cond-true _ _ _ holds

-- the first places of a summary or a request
pub first_few : {X : Type 0} (f : ℕ → X → Bool) (xs : List (Option X)) (buffer : List ℕ) → 2048 ≤ length buffer → few (first_places f xs) buffer ≡ true
first_few f xs buffer le =
    and_from _ _ (le-leb _ 32 (omega (arith, length-take 32 (places_where f 0 xs)))) (le-leb 2048 _ le)

-- places that fit behind a packet of this length
fitting_needs : (bodies : BodyStore) (len : ℕ) (ps : List ℕ) → len ≤ 2048 → len + needed (element_long bodies) (fitting bodies len ps) ≤ 2048
fitting_needs bodies len [] le = omega arith
fitting_needs bodies len (p ∷ ps) le =
    by (leb (longer_by bodies p len) 2048) (λ e. fitting_needs bodies (longer_by bodies p len) ps (leb-true _ _ e)) refl
  where
    by : (b : Bool) → (leb (longer_by bodies p len) 2048 ≡ true → longer_by bodies p len + needed (element_long bodies) (fitting bodies (longer_by bodies p len) ps) ≤ 2048) → leb (longer_by bodies p len) 2048 ≡ b → len + needed (element_long bodies) (cond b (p ∷ fitting bodies (longer_by bodies p len) ps) []) ≤ 2048
    by true rest e = let h = rest e in omega arith
    by false rest e = omega arith

-- the places of a bundle
pub bundle_short : (n : Node) (l : Line) (e : Element) (buffer : List ℕ) → 2048 ≤ length buffer → short n.bodies (bundle_places n l e) buffer ≡ true
bundle_short n l e buffer le =
    and_from _ _ (le-leb _ 2048 (fitting_needs n.bodies 44 (places_where (λ p f. due_owed l p && goes_with e f) 0 n.places) (omega arith))) (le-leb 2048 _ le)
