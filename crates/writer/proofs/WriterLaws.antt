-- What the steps of writing leave in a buffer. Assumes nothing.
use Rattle.std.proofs.Common.{◌≡◌, ℕ, ◌+◌, ◌-◌, ◌/◌, ◌%◌, ◌≤◌, List, [], ◌∷◌, ◌++◌, length, take, drop, set, sym, refl, ap, ◌∙◌, append_assoc, arith, length-append}
use borrow.Rule.Slice.PartMut.{put_mid}
use Rattle.std.proofs.lemmas.List.Edits.{paste_all}
use Rattle.std.proofs.lemmas.List.{length-take-le, take-append-drop, take_at, drop_at, drop-drop, set-append_right}
use Rattle.std.proofs.lemmas.Slice.{put_mid-paste}
use Rattle.kinds.specs.BigEndian.{write16}
use Rattle.writer.specs.Writers.{pasted, put16_at}

pub paste_copied : (at : ℕ) (bytes buffer ys : List ℕ) → ys ≡ bytes → put_mid at (at + length bytes - at) buffer ys ≡ pasted at bytes buffer
paste_copied at bytes buffer ys e =
    put_mid-paste at _ buffer ys bytes (length bytes) e (omega arith) refl ∙ paste_all buffer at bytes (length bytes) refl

-- two pieces, one behind the other, are one piece
pub pasted_twice : (at n : ℕ) (xs ys buffer : List ℕ) → n ≡ at + length xs → n ≤ length buffer → pasted n ys (pasted at xs buffer) ≡ pasted at (xs ++ ys) buffer
pasted_twice at n xs ys buffer m l =
    let front = take at buffer ++ xs in
    let rest = drop (at + length xs) buffer in
    let e : pasted at xs buffer ≡ front ++ rest = sym (append_assoc (take at buffer) xs rest) in
    let long : length front ≡ n = length-append (take at buffer) xs ∙ ap (λ k. k + length xs) (length-take-le at buffer (omega arith)) ∙ sym m in
    let t : take n (pasted at xs buffer) ≡ front = ap (take n) e ∙ take_at front rest n long in
    let d : drop (n + length ys) (pasted at xs buffer) ≡ drop (n + length ys) buffer = ap (drop (n + length ys)) e ∙ sym (drop-drop (length ys) n (front ++ rest)) ∙ ap (drop (length ys)) (drop_at front rest n long ∙ ap (λ k. drop k buffer) (sym m)) ∙ drop-drop (length ys) n buffer in
    let s : n + length ys ≡ at + length (xs ++ ys) = omega (arith, length-append xs ys) in
    ap (λ f. f ++ (ys ++ drop (n + length ys) (pasted at xs buffer))) t ∙ ap (λ f. front ++ (ys ++ f)) (d ∙ ap (λ k. drop k buffer) s)
    ∙ append_assoc (take at buffer) xs (ys ++ drop (at + length (xs ++ ys)) buffer)
    ∙ ap (λ f. take at buffer ++ f) (sym (append_assoc xs ys (drop (at + length (xs ++ ys)) buffer)))

-- and so are four
pub pasted_four : (at i j k : ℕ) (a b c d buffer : List ℕ) → i ≡ at + length a → j ≡ i + length b → k ≡ j + length c → k ≤ length buffer → pasted k d (pasted j c (pasted i b (pasted at a buffer))) ≡ pasted at (a ++ (b ++ (c ++ d))) buffer
pasted_four at i j k a b c d buffer p q r l =
    ap (λ f. pasted k d (pasted j c f)) (pasted_twice at i a b buffer p (omega arith))
    ∙ ap (pasted k d) (pasted_twice at j (a ++ b) c buffer (omega (arith, length-append a b)) (omega arith))
    ∙ pasted_twice at k (a ++ b ++ c) d buffer (omega (arith, length-append (a ++ b) c, length-append a b)) l
    ∙ ap (λ f. pasted at f buffer) (append_assoc (a ++ b) c d ∙ append_assoc a b (c ++ d))

-- nothing pasted
pub pasted_none : (at : ℕ) (buffer : List ℕ) → pasted at [] buffer ≡ buffer
pasted_none at buffer = ap (λ n. take at buffer ++ drop n buffer) (let h : at + 0 ≡ at = omega arith in h) ∙ take-append-drop at buffer

-- a byte set behind a front that stays
set_behind : (front rest : List ℕ) (at k i v : ℕ) → length front ≡ at → i ≡ at + k → set (front ++ rest) i v ≡ front ++ set rest k v
set_behind front rest at k i v e m =
    set-append_right front rest at i v e (omega arith) ∙ ap (λ j. front ++ set rest j v) (let h : i - at ≡ k = omega arith in h)

-- a number put behind the first two of some bytes
pub put_behind : (at m n : ℕ) (xs buffer : List ℕ) → at ≤ length buffer → put16_at (at + 2) n (pasted at (write16 m (0 ∷ 0 ∷ xs)) buffer) ≡ pasted at (write16 m (write16 n xs)) buffer
put_behind at m n xs buffer le =
    let front = take at buffer in
    let bs = write16 m (0 ∷ 0 ∷ xs) in
    let rest = bs ++ drop (at + length bs) buffer in
    let l = length-take-le at buffer le in
    ap (λ ys. set ys (at + 2 + 1) (n % 256)) (set_behind front rest at 2 (at + 2) (n / 256 % 256) l refl)
    ∙ set_behind front (set rest 2 (n / 256 % 256)) at 3 (at + 2 + 1) (n % 256) l (omega arith)
