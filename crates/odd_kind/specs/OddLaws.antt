-- The odd kind keeps the laws. Assumes nothing.
use Rattle.std.specs.Prelude.{◌≡◌, ℕ, ◌+◌, ◌-◌, ◌%◌, ◌^◌, ◌<◌, true, List, [], Some, refl}
use Rattle.std.proofs.Common.{arith}
use Rattle.std.proofs.lemmas.Bool.{ltb-true, and_parts}
use Rattle.std.proofs.lemmas.Bool.Decides.{nat_tests}
use Rattle.kinds.specs.declared.rank.Rank.TheVariants.{Same, Higher}
use Rattle.kinds.specs.BigEndian.{read16, write16}
use Rattle.kinds.specs.Kinds.{Laws, EightBytes}
use Rattle.kinds.specs.Ranks.{WeakOrder, by_number}
use Rattle.kinds.specs.WeakOrders.{then_order, key_order, number_order}
use Rattle.kinds.specs.Words.{Bytes, word16, read16_fits, bytes16, all16, eight}
use Rattle.odd_kind.specs.declared.odd.Odd.{Odd}
use Rattle.odd_kind.specs.Odds.{made, odd, read_odd, write_odd, odd_fits, key_of, rank_odd, older_odd, expired_odd, next_odd}

order : WeakOrder rank_odd
order =
    then_order _ _ (key_order (λ (x : Odd). x.boot) by_number number_order) (key_order key_of by_number number_order)

older_left : (x : Odd) → (older_odd x).time ≡ x.time - 1
older_left x = grind (arith, nat_tests)

older_same : (x : Odd) → 1 < x.time → rank_odd (older_odd x) x ≡ Same
older_same x h = grind (arith, nat_tests)

older_ends : (x : Odd) → x.time ≡ 1 → older_odd x ≡ expired_odd x
older_ends x h = grind (arith, nat_tests)

older_stays : (x : Odd) → x.time ≡ 0 → older_odd x ≡ x
older_stays x h = grind (arith, nat_tests)

expired_higher : (x : Odd) → 0 < x.time → rank_odd (expired_odd x) x ≡ Higher
expired_higher x h = grind (arith, nat_tests)

expired_same : (x : Odd) → x.time ≡ 0 → rank_odd (expired_odd x) x ≡ Same
expired_same x h = grind (arith, nat_tests)

next_left : (x y : Odd) (check time : ℕ) → 0 < time → next_odd x check time ≡ Some y → y.time ≡ time
next_left x y check time t e = grind (arith, nat_tests)

next_higher : (x y : Odd) (check time : ℕ) → 0 < time → next_odd x check time ≡ Some y → rank_odd y x ≡ Higher
next_higher x y check time t e = grind (arith, nat_tests)

fits_parts : (x : Odd) → odd_fits x ≡ true → (x.time < 2 ^ 16) × (x.boot < 2 ^ 16) × (x.step < 2 ^ 16) × (x.changes < 2 ^ 16)
fits_parts x f =
    let a = and_parts _ _ f in
    let b = and_parts _ _ a.0 in
    let c = and_parts _ _ a.1 in
    (ltb-true _ _ b.0, ltb-true _ _ b.1, ltb-true _ _ c.0, ltb-true _ _ c.1)

fits_whole : (x : Odd) → x.time < 2 ^ 16 → x.boot < 2 ^ 16 → x.step < 2 ^ 16 → x.changes < 2 ^ 16 → odd_fits x ≡ true
fits_whole x a b c d = grind (arith, nat_tests)

same : {t u b c s r h k : ℕ} → t ≡ u → b ≡ c → s ≡ r → h ≡ k → made t b s h ≡ made u c r k
same p q r s = cc

read_write : (x : Odd) → odd_fits x ≡ true → read_odd (write_odd x) ≡ x
read_write x f =
    let p = fits_parts x f in
    same (word16 x.time p.0) (word16 x.boot p.1) (word16 x.step p.2) (word16 x.changes p.3)

write_read : (bs : List ℕ) → EightBytes bs → write_odd (read_odd bs) ≡ bs
write_read bs h =
    eight (λ xs. Bytes xs → write_odd (read_odd xs) ≡ xs)
    (λ a b c d e f g k l.
    let t = l.1.1 in
    let u = t.1.1 in
    let w = u.1.1 in
    cc (bytes16 a b (write16 (read16 c d) (write16 (read16 e f) (write16 (read16 g k) []))) l.0 l.1.0, bytes16 c d (write16 (read16 e f) (write16 (read16 g k) [])) t.0 t.1.0, bytes16 e f (write16 (read16 g k) []) u.0 u.1.0, bytes16 g k [] w.0 w.1.0))
    bs h.0 h.1

read_fits : (bs : List ℕ) → EightBytes bs → odd_fits (read_odd bs) ≡ true
read_fits bs h =
    eight (λ xs. Bytes xs → odd_fits (read_odd xs) ≡ true)
    (λ a b c d e f g k l.
    let t = l.1.1 in
    let u = t.1.1 in
    let w = u.1.1 in
    fits_whole _ (read16_fits a b l.0 l.1.0) (read16_fits c d t.0 t.1.0) (read16_fits e f u.0 u.1.0) (read16_fits g k w.0 w.1.0))
    bs h.0 h.1

write_eight : (x : Odd) → EightBytes (write_odd x)
write_eight x = (
  refl,
  all16 _ (write16 x.boot (write16 x.step (write16 x.changes [])))
      (all16 _ (write16 x.step (write16 x.changes [])) (all16 _ (write16 x.changes []) (all16 _ [] tt))),
)

wrapped : (n : ℕ) → n % 2 ^ 16 < 2 ^ 16
wrapped n = omega arith

older_fits : (x : Odd) → odd_fits x ≡ true → odd_fits (older_odd x) ≡ true
older_fits x f = let w = wrapped (x.changes + 1) in grind (arith, nat_tests)

expired_fits : (x : Odd) → odd_fits x ≡ true → odd_fits (expired_odd x) ≡ true
expired_fits x f =
    let p = fits_parts x f in
    fits_whole (expired_odd x) (omega arith) p.1 p.2 (wrapped (x.changes + 1))

next_fits : (x y : Odd) (check time : ℕ) → odd_fits x ≡ true → check < 2 ^ 16 → time < 2 ^ 16 → next_odd x check time ≡ Some y → odd_fits y ≡ true
next_fits x y check time f c t e = grind (arith, nat_tests)

pub odd_laws : Laws odd
odd_laws = record {
  order = order;
  older_left = older_left;
  older_same = older_same;
  older_ends = older_ends;
  older_stays = older_stays;
  expired_left = λ x. refl;
  expired_higher = expired_higher;
  expired_same = expired_same;
  first_left = λ check time t. refl;
  next_left = next_left;
  next_higher = next_higher;
  read_write = read_write;
  write_read = write_read;
  write_eight = λ x f. write_eight x;
  read_fits = read_fits;
  older_fits = older_fits;
  expired_fits = expired_fits;
  first_fits = λ check time c t. fits_whole (made time check 1 0) t c (omega arith) (omega arith);
  next_fits = next_fits;
}
