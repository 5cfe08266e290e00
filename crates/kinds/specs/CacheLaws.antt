-- The cache kind keeps the laws. Assumes nothing.
use Rattle.std.specs.Prelude.{◌≡◌, ℕ, zero, suc, ◌-◌, ◌^◌, ◌<◌, Bool, true, false, cond, List, ℤ, pos, negsuc, ◌+ℤ◌, Some, FitsSigned, ◌==◌, int_lt, nat_eq, refl}
use Rattle.std.proofs.Common.{ap, sym, ◌∙◌, arith, to_z, of_z}
use Rattle.std.proofs.lemmas.Nat.{or_lt}
use Rattle.std.specs.Int.Signed.{mag}
use Rattle.std.specs.Int.{w32}
use mir.ValLaws.{of_z_fits, to_z-Fits}
use Rattle.std.proofs.lemmas.Int.{ints, to_z-of_z, of_z-to_z}
use Rattle.std.proofs.lemmas.Bool.{ltb-true, and_parts}
use Rattle.std.proofs.lemmas.Bool.Decides.{nat_tests}
use Rattle.kinds.specs.declared.cache.Cache.{Cache}
use Rattle.kinds.specs.declared.rank.Rank.TheVariants.{Same, Higher}
use Rattle.kinds.specs.BigEndian.{at16, at32}
use Rattle.kinds.specs.Caches.{cache, rank_cache, next_cache, read_cache, write_cache, cache_fits, cache_left, cache_older, cache_expired}
use Rattle.kinds.specs.Kinds.{Laws, EightBytes}
use Rattle.kinds.specs.Ranks.{WeakOrder, then_by, by_signed, by_expiry}
use Rattle.kinds.specs.WeakOrders.{order_facts, then_order, key_order, signed_order, expiry_order}
use Rattle.kinds.specs.Words.{word16, word32, write_words, words_eight, words_back, words_fit}

order : WeakOrder rank_cache
order =
    then_order _ _ (key_order (λ (x : Cache). x.sequence) by_signed signed_order)
    (key_order (λ (x : Cache). nat_eq (cache_left x) 0) by_expiry expiry_order)

abbrev made : ℤ → ℕ → ℕ → Cache
made s f h = record { sequence = s; flags = f; hold = h }

-- under one sequence, expiry decides
ranked : (x y : Cache) (a b : Bool) → x.sequence ≡ y.sequence → (cache_left x == 0) ≡ a → (cache_left y == 0) ≡ b → rank_cache x y ≡ by_expiry a b
ranked x y a b s p q =
    let k : by_signed x.sequence y.sequence ≡ Same = ap (by_signed x.sequence) (sym s) ∙ (order_facts by_signed signed_order).same_self x.sequence in
    ap (λ r. then_by r (by_expiry (cache_left x == 0) (cache_left y == 0))) k
    ∙ ap (λ c. by_expiry c (cache_left y == 0)) p
    ∙ ap (by_expiry a) q

is_zero : (n : ℕ) → n ≡ 0 → (n == 0) ≡ true
is_zero n h = grind (arith, nat_tests)

is_positive : (n : ℕ) → 0 < n → (n == 0) ≡ false
is_positive n h = grind (arith, nat_tests)

nothing_left : (b : Bool) → cond {A = ℕ} b 0 0 ≡ 0
nothing_left true = refl
nothing_left false = refl

expired_left : (x : Cache) → cache_left (cache_expired x) ≡ 0
expired_left x = nothing_left _

expired_higher : (x : Cache) → 0 < cache_left x → rank_cache (cache_expired x) x ≡ Higher
expired_higher x h = ranked (cache_expired x) x true false refl (is_zero _ (expired_left x)) (is_positive _ h)

expired_same : (x : Cache) → cache_left x ≡ 0 → rank_cache (cache_expired x) x ≡ Same
expired_same x h = ranked (cache_expired x) x true true refl (is_zero _ (expired_left x)) (is_zero _ h)

older_stays : (x : Cache) → cache_left x ≡ 0 → cache_older x ≡ x
older_stays x h = grind (arith, nat_tests)

older_ends : (x : Cache) → cache_left x ≡ 1 → cache_older x ≡ cache_expired x
older_ends x h = grind (arith, nat_tests)

abbrev running : Cache → Cache
running x = made x.sequence x.flags (cache_left x - 1)

older_runs : (x : Cache) → 1 < cache_left x → cache_older x ≡ running x
older_runs x h = grind (arith, nat_tests)

flag_clear : (b : Bool) (h n : ℕ) → 0 < cond b h 0 → cond b n 0 ≡ n
flag_clear true h n p = refl
flag_clear false h n p = absurd (omega arith)

running_left : (x : Cache) → 0 < cache_left x → cache_left (running x) ≡ cache_left x - 1
running_left x h = flag_clear _ x.hold (cache_left x - 1) h

by_time : (P : Type 0) (n : ℕ) → (n ≡ 0 → P) → (n ≡ 1 → P) → (1 < n → P) → P
by_time P zero a b c = a refl
by_time P (suc zero) a b c = b refl
by_time P (suc (suc n)) a b c = c (omega arith)

older_left : (x : Cache) → cache_left (cache_older x) ≡ cache_left x - 1
older_left x =
    by_time _ (cache_left x)
    (λ h. ap cache_left (older_stays x h) ∙ h ∙ sym (ap (λ n. n - 1) h))
    (λ h. ap cache_left (older_ends x h) ∙ expired_left x ∙ sym (ap (λ n. n - 1) h))
    (λ h. ap cache_left (older_runs x h) ∙ running_left x (omega arith))

older_same : (x : Cache) → 1 < cache_left x → rank_cache (cache_older x) x ≡ Same
older_same x h =
    ap (λ y. rank_cache y x) (older_runs x h)
    ∙ ranked (running x) x false false refl (is_positive _ (omega (arith, running_left x (omega arith)))) (is_positive _ (omega arith))

next_made : (x y : Cache) (check time : ℕ) → next_cache x check time ≡ Some y → y ≡ made (x.sequence +ℤ pos 1) 0 time
next_made x y check time e = grind (arith, nat_tests)

next_left : (x y : Cache) (check time : ℕ) → 0 < time → next_cache x check time ≡ Some y → cache_left y ≡ time
next_left x y check time t e = ap cache_left (next_made x y check time e)

one_more : (z : ℤ) → by_signed (z +ℤ pos 1) z ≡ Higher
one_more z = grind (arith, ints)

next_higher : (x y : Cache) (check time : ℕ) → 0 < time → next_cache x check time ≡ Some y → rank_cache y x ≡ Higher
next_higher x y check time t e =
    ap (λ v. rank_cache v x) (next_made x y check time e)
    ∙ ap (λ r. then_by r (by_expiry (time == 0) (cache_left x == 0))) (one_more x.sequence)

fits_parts : (x : Cache) → cache_fits x ≡ true → (mag x.sequence < 2 ^ 31) × (x.flags < 2 ^ 16) × (x.hold < 2 ^ 16)
fits_parts x f =
    let a = and_parts _ _ f in
    let b = and_parts _ _ a.1 in
    (ltb-true _ _ a.0, ltb-true _ _ b.0, ltb-true _ _ b.1)

fits_whole : (x : Cache) → mag x.sequence < 2 ^ 31 → x.flags < 2 ^ 16 → x.hold < 2 ^ 16 → cache_fits x ≡ true
fits_whole x a b c = grind (arith, nat_tests)

same : {s t : ℤ} {f g h k : ℕ} → s ≡ t → f ≡ g → h ≡ k → made s f h ≡ made t g k
same p q r = cc

read_write : (x : Cache) → cache_fits x ≡ true → read_cache (write_cache x) ≡ x
read_write x f =
    let p = fits_parts x f in
    let g : FitsSigned w32 x.sequence = record { sfits = p.0 } in
    same (ap (to_z w32) (word32 (of_z w32 x.sequence) (of_z_fits w32 x.sequence g).fits) ∙ to_z-of_z w32 x.sequence g)
    (word16 x.flags p.1) (word16 x.hold p.2)

write_read : (bs : List ℕ) → EightBytes bs → write_cache (read_cache bs) ≡ bs
write_read bs h =
    ap (λ n. write_words n (at16 bs 4) (at16 bs 6)) (of_z-to_z w32 (at32 bs 0) (words_fit bs h).0) ∙ words_back bs h

read_fits : (bs : List ℕ) → EightBytes bs → cache_fits (read_cache bs) ≡ true
read_fits bs h =
    let w = words_fit bs h in
    fits_whole (read_cache bs) (to_z-Fits w32 (at32 bs 0) (record { fits = w.0 })).sfits w.1 w.2

expired_fits : (x : Cache) → cache_fits x ≡ true → cache_fits (cache_expired x) ≡ true
expired_fits x f =
    let p = fits_parts x f in
    fits_whole (cache_expired x) p.0 (or_lt 16 x.flags 32768 p.1 (omega arith)) (omega arith)

less_left : (b : Bool) (h : ℕ) → h < 2 ^ 16 → cond b h 0 - 1 < 2 ^ 16
less_left true h l = omega arith
less_left false h l = omega arith

older_fits : (x : Cache) → cache_fits x ≡ true → cache_fits (cache_older x) ≡ true
older_fits x f =
    let p = fits_parts x f in
    by_time _ (cache_left x)
    (λ h. ap cache_fits (older_stays x h) ∙ f)
    (λ h. ap cache_fits (older_ends x h) ∙ expired_fits x f)
    (λ h. ap cache_fits (older_runs x h) ∙ fits_whole (running x) p.0 p.1 (less_left _ x.hold p.2))

next_below : (x y : Cache) (check time : ℕ) → next_cache x check time ≡ Some y → int_lt x.sequence (pos 2147483647) ≡ true
next_below x y check time e = grind (arith, nat_tests)

one_more_fits : (z : ℤ) → mag z < 2 ^ 31 → int_lt z (pos 2147483647) ≡ true → mag (z +ℤ pos 1) < 2 ^ 31
one_more_fits z m l = grind (arith, ints)

next_fits : (x y : Cache) (check time : ℕ) → cache_fits x ≡ true → check < 2 ^ 16 → time < 2 ^ 16 → next_cache x check time ≡ Some y → cache_fits y ≡ true
next_fits x y check time f c t e =
    ap cache_fits (next_made x y check time e)
    ∙ fits_whole (made (x.sequence +ℤ pos 1) 0 time) (one_more_fits x.sequence (fits_parts x f).0 (next_below x y check time e)) (omega arith) t

pub cache_laws : Laws cache
cache_laws = record {
  order = order;
  older_left = older_left;
  older_same = older_same;
  older_ends = older_ends;
  older_stays = older_stays;
  expired_left = expired_left;
  expired_higher = expired_higher;
  expired_same = expired_same;
  first_left = λ check time t. refl;
  next_left = next_left;
  next_higher = next_higher;
  read_write = read_write;
  write_read = write_read;
  write_eight = λ x f. words_eight _ _ _;
  read_fits = read_fits;
  older_fits = older_fits;
  expired_fits = expired_fits;
  first_fits = λ check time c t. fits_whole (made (negsuc 2147483646) 0 time) (omega arith) (omega arith) t;
  next_fits = next_fits;
}
