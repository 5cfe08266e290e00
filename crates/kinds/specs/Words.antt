-- The bytes of a number, and the number of bytes. Assumes nothing.
use Rattle.std.specs.Prelude.{◌≡◌, ℕ, ◌/◌, ◌%◌, ◌^◌, ◌<◌, List, [], ◌∷◌, length, refl}
use Rattle.std.proofs.Common.{ap, sym, ◌∙◌, arith}
use Rattle.std.proofs.Math.Nat.{div-div-eq-div-mul}
use Rattle.std.specs.List.{AllByRecursion}
use Rattle.kinds.specs.BigEndian.{read16, read32, at16, at32, write16, write32}
use Rattle.kinds.specs.Kinds.{EightBytes}

pub word16 : (n : ℕ) → n < 2 ^ 16 → read16 (n / 256 % 256) (n % 256) ≡ n
word16 n h = omega arith

pub word32 : (n : ℕ) → n < 2 ^ 32 → read32 (n / 16777216 % 256) (n / 65536 % 256) (n / 256 % 256) (n % 256) ≡ n
word32 n h =
    let a : n / 65536 ≡ n / 256 / 256 = sym (div-div-eq-div-mul n 256 256) in
    let b : n / 16777216 ≡ n / 256 / 256 / 256 = sym (div-div-eq-div-mul n 65536 256) ∙ ap (λ m. m / 256) a in
    let q : n / 256 / 256 / 256 % 256 ≡ n / 256 / 256 / 256 = omega arith in
    rw (a, b) (omega arith)

pub read16_fits : (a b : ℕ) → a < 256 → b < 256 → read16 a b < 2 ^ 16
read16_fits a b i j = omega arith

read32_fits : (a b c d : ℕ) → a < 256 → b < 256 → c < 256 → d < 256 → read32 a b c d < 2 ^ 32
read32_fits a b c d i j k l = omega arith

-- the bytes of a number that was read are those that it was read from
pub bytes16 : (a b : ℕ) (rest : List ℕ) → a < 256 → b < 256 → write16 (read16 a b) rest ≡ a ∷ b ∷ rest
bytes16 a b rest i j =
    let p : read16 a b / 256 % 256 ≡ a = omega arith in
    let q : read16 a b % 256 ≡ b = omega arith in
    cc

pub bytes32 : (a b c d : ℕ) (rest : List ℕ) → a < 256 → b < 256 → c < 256 → d < 256 → write32 (read32 a b c d) rest ≡ a ∷ b ∷ c ∷ d ∷ rest
bytes32 a b c d rest i j k l =
    let p : read32 a b c d / 16777216 % 256 ≡ a = omega arith in
    let q : read32 a b c d / 65536 % 256 ≡ b = omega arith in
    let r : read32 a b c d / 256 % 256 ≡ c = omega arith in
    let s : read32 a b c d % 256 ≡ d = omega arith in
    cc

low_byte : (n : ℕ) → n % 256 < 256
low_byte n = omega arith

pub all16 : (n : ℕ) (rest : List ℕ) → AllByRecursion (λ b. b < 256) rest → AllByRecursion (λ b. b < 256) (write16 n rest)
all16 n rest h = (low_byte (n / 256), (low_byte n, h))

all32 : (n : ℕ) (rest : List ℕ) → AllByRecursion (λ b. b < 256) rest → AllByRecursion (λ b. b < 256) (write32 n rest)
all32 n rest h = (low_byte (n / 16777216), (low_byte (n / 65536), (low_byte (n / 256), (low_byte n, h))))

-- a list of eight is its eight elements
pub eight : (P : List ℕ → Type 0) → ((a b c d e f g h : ℕ) → P (a ∷ b ∷ c ∷ d ∷ e ∷ f ∷ g ∷ h ∷ [])) → (bs : List ℕ) → length bs ≡ 8 → P bs
eight P k ([]) e = absurd (omega arith)
eight P k (a ∷ []) e = absurd (omega arith)
eight P k (a ∷ b ∷ []) e = absurd (omega arith)
eight P k (a ∷ b ∷ c ∷ []) e = absurd (omega arith)
eight P k (a ∷ b ∷ c ∷ d ∷ []) e = absurd (omega arith)
eight P k (a ∷ b ∷ c ∷ d ∷ f ∷ []) e = absurd (omega arith)
eight P k (a ∷ b ∷ c ∷ d ∷ f ∷ g ∷ []) e = absurd (omega arith)
eight P k (a ∷ b ∷ c ∷ d ∷ f ∷ g ∷ h ∷ []) e = absurd (omega arith)
eight P k (a ∷ b ∷ c ∷ d ∷ f ∷ g ∷ h ∷ i ∷ []) e = k a b c d f g h i
eight P k (a ∷ b ∷ c ∷ d ∷ f ∷ g ∷ h ∷ i ∷ j ∷ rest) e = absurd (omega arith)

abbrev pub Bytes : List ℕ → Type 0
Bytes = AllByRecursion (λ b. b < 256)

-- eight bytes that are laid out as a number of four bytes and two of two
abbrev pub write_words : ℕ → ℕ → ℕ → List ℕ
write_words a b c = write32 a (write16 b (write16 c []))

pub words_eight : (a b c : ℕ) → EightBytes (write_words a b c)
words_eight a b c = (refl, all32 a (write16 b (write16 c [])) (all16 b (write16 c []) (all16 c [] tt)))

pub words_back : (bs : List ℕ) → EightBytes bs → write_words (at32 bs 0) (at16 bs 4) (at16 bs 6) ≡ bs
words_back bs h =
    eight (λ xs. Bytes xs → write_words (at32 xs 0) (at16 xs 4) (at16 xs 6) ≡ xs)
    (λ a b c d e f g k l.
    let t = l.1.1.1.1 in
    cc (bytes32 a b c d (write16 (read16 e f) (write16 (read16 g k) [])) l.0 l.1.0 l.1.1.0 l.1.1.1.0, bytes16 e f (write16 (read16 g k) []) t.0 t.1.0, bytes16 g k [] t.1.1.0 t.1.1.1.0))
    bs h.0 h.1

pub words_fit : (bs : List ℕ) → EightBytes bs → (at32 bs 0 < 2 ^ 32) × (at16 bs 4 < 2 ^ 16) × (at16 bs 6 < 2 ^ 16)
words_fit bs h =
    eight (λ xs. Bytes xs → (at32 xs 0 < 2 ^ 32) × (at16 xs 4 < 2 ^ 16) × (at16 xs 6 < 2 ^ 16))
    (λ a b c d e f g k l.
    let t = l.1.1.1.1 in
    (read32_fits a b c d l.0 l.1.0 l.1.1.0 l.1.1.1.0, read16_fits e f t.0 t.1.0, read16_fits g k t.1.1.0 t.1.1.1.0))
    bs h.0 h.1
