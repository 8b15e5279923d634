-- Each valid word has one meaning, and each meaning is written as that word: the round trip both ways.
use mathlib.Core.Path.{◌≡◌, refl, sym, ◌∙◌, subst}
use mathlib.Core.Bool.{false}
use Prim.Native.Nat.{ℕ, ◌+◌, ◌*◌, ◌/◌, ◌%◌, ◌<◌, ◌≤◌}
use native.Mathlib.Omega.{arith}
use native.Mathlib.Nat.{mod-eq_of_lt, lt_irrefl}
use lib.Arith.{mod-mul, digits_mod}
use lib.Dec.{eqb, lit<}
use borrow.Author.Tests.{eqb-true, eqb-false, ne_eqb}
use Rattle.laws.specs.Choice.{pick}
use Rattle.laws.proofs.Choice.{by_test, above_zero}
use Rattle.lock_word.specs.Layout.{first_beyond, number_unit, count_unit, counts, numbers}
use Rattle.lock_word.specs.Read.{read_word, read_flat, read_reserved, fat_of, thread_number, monitor_number}
use Rattle.lock_word.specs.Write.{write_word, IsNumber, InRange}
use Rattle.std.specs.Prelude.{Option, Some, None}
use Rattle.lock_word.specs.declared.reading.{ThreadNumber.ThreadNumber, LockWord.LockWord}
use Rattle.lock_word.specs.declared.reading.LockWord.TheVariants.{Free, Flat, Anonymous, Reserved, Fat}

-- the meaning, if any, is in range and is written as this word
WrittenAs : ℕ → Option LockWord → Type 0
WrittenAs word decoded = (meaning : LockWord) → decoded ≡ Some meaning → (write_word meaning ≡ word) × InRange meaning

none : (word : ℕ) → WrittenAs word None
unfolding WrittenAs
none word meaning e = let z : ◌≡◌ {A = ℕ} 0 1 = cc in absurd (eqb-false 0 1 refl z)

some : (word : ℕ) (meaning : LockWord) → (write_word meaning ≡ word) × InRange meaning → WrittenAs word (Some meaning)
unfolding WrittenAs
some word meaning known other e =
    let same : meaning ≡ other = cc in
    subst (λ (x : LockWord). (write_word x ≡ word) × InRange x) same known

-- a flat or a reserved word: `nobody` is its meaning with number 0 and count 0, `owned` with a thread
of_thread : (word : ℕ) (nobody : LockWord) (owned : ThreadNumber → ℕ → LockWord) (count number : ℕ)
    → (number ≡ 0 → count ≡ 0 → (write_word nobody ≡ word) × InRange nobody)
    → (1 ≤ number → (write_word (owned (thread_number number) count) ≡ word) × InRange (owned (thread_number number) count))
    → WrittenAs word (pick (eqb number 0) (pick (eqb count 0) (Some nobody) None) (Some (owned (thread_number number) count)))
of_thread word nobody owned count number left right =
    by_test (WrittenAs word) (eqb number 0)
    (λ n. by_test (WrittenAs word) (eqb count 0)
    (λ c. some word nobody (left (eqb-true number 0 n) (eqb-true count 0 c)))
    (λ c. none word))
    (λ n. some word (owned (thread_number number) count) (right (above_zero number n)))

written_flat : (word count number : ℕ) → count < counts → number < numbers → word ≡ number * number_unit + count * count_unit
    → WrittenAs word (read_flat count number)
unfolding read_flat write_word InRange
written_flat word count number c n e =
    of_thread word Free Flat count number (λ p q. (omega arith, tt))
    (λ p. (simp (mod-eq_of_lt n, mod-eq_of_lt c) (omega arith), ((p, n), c)))

written_reserved : (word count number : ℕ) → count < counts → number < numbers → word ≡ number * number_unit + count * count_unit + 2
    → WrittenAs word (read_reserved count number)
unfolding read_reserved write_word InRange
written_reserved word count number c n e =
    of_thread word Anonymous Reserved count number (λ p q. (omega arith, tt))
    (λ p. (simp (mod-eq_of_lt n, mod-eq_of_lt c) (omega arith), ((p, n), c)))

written_fat : (word number : ℕ) → number < numbers → word ≡ number * number_unit + 1 → WrittenAs word (fat_of number)
unfolding fat_of write_word InRange
written_fat word number n e =
    by_test (WrittenAs word) (eqb number 0) (λ p. none word)
    (λ p. some word (Fat (monitor_number number)) (simp (mod-eq_of_lt n) (omega arith), (above_zero number p, n)))

-- a word is the sum of its fields
fields : (word : ℕ) → word ≡ word / 256 * 256 + word / 4 % 64 * 4 + word / 2 % 2 * 2 + word % 2
fields word = omega (arith, mod-mul word {m = 64} {c = 4} (lit< tt) (lit< tt), mod-mul word {m = 2} {c = 2} (lit< tt) (lit< tt))

fat_fields : (word : ℕ) → word ≡ word / 256 * 256 + word / 2 % 128 * 2 + word % 2
fat_fields word = omega (arith, mod-mul word {m = 128} {c = 2} (lit< tt) (lit< tt))

decoded_written : (word : ℕ) → WrittenAs word (read_word word)
unfolding read_word
decoded_written word =
    by_test (WrittenAs word) (eqb (word / first_beyond) 0)
    (λ rest.
    let beyond : word / 8388608 ≡ 0 = eqb-true _ _ rest in
    let number : word / 256 % 32768 ≡ word / 256 = omega (arith, beyond) in
    let small : word / 256 % 32768 < 32768 = omega arith in
    by_test (WrittenAs word) (eqb (word % 2) 0)
    (λ even. by_test (WrittenAs word) (eqb (word / 2 % 2) 0)
    (λ flat. written_flat word _ _ (omega arith) small (omega (arith, number, fields word, eqb-true (word % 2) 0 even, eqb-true (word / 2 % 2) 0 flat)))
    (λ reserved. written_reserved word _ _ (omega arith) small (omega (arith, number, fields word, eqb-true (word % 2) 0 even, above_zero (word / 2 % 2) reserved))))
    (λ odd. by_test (WrittenAs word) (eqb (word / 2 % 128) 0)
    (λ clear. written_fat word _ small (omega (arith, number, fat_fields word, above_zero (word % 2) odd, eqb-true (word / 2 % 128) 0 clear)))
    (λ unclear. none word)))
    (λ rest. none word)

-- a valid word is what its meaning is written as
pub word_of_meaning : (word : ℕ) (meaning : LockWord) → read_word word ≡ Some meaning → write_word meaning ≡ word
unfolding WrittenAs
word_of_meaning word meaning e = (decoded_written word meaning e).0

-- the numbers and counts that the reader gives out are in range
pub meaning_in_range : (word : ℕ) (meaning : LockWord) → read_word word ≡ Some meaning → InRange meaning
unfolding WrittenAs
meaning_in_range word meaning e = (decoded_written word meaning e).1

-- two valid words with one meaning are the same word
pub one_word : (left right : ℕ) (meaning : LockWord) → read_word left ≡ Some meaning → read_word right ≡ Some meaning → left ≡ right
one_word left right meaning p q = sym (word_of_meaning left meaning p) ∙ word_of_meaning right meaning q

-- a word made of a reserved bit, a count and a number is read as them
module _ (word number count reserved : ℕ) (n : number < 32768) (c : count < 64) (r : reserved < 2)
    (e : word ≡ number * 256 + count * 4 + reserved * 2) where
  at_number : word / 256 ≡ number
  at_number = omega arith

  at_count : word / 4 ≡ number * 64 + count
  at_count = omega arith

  at_reserved : word / 2 ≡ (number * 64 + count) * 2 + reserved
  at_reserved = omega arith

  read_thread : read_word word ≡ pick (eqb reserved 0) (read_flat count number) (read_reserved count number)
  unfolding read_word
  read_thread =
      let rest : word / 8388608 ≡ 0 = omega arith in
      let even : word % 2 ≡ 0 = omega arith in
      simp (rest, even, at_number, at_count, at_reserved, digits_mod (number * 64 + count) r, digits_mod number c, mod-eq_of_lt n)

read_fat : (word number : ℕ) → number < 32768 → word ≡ number * 256 + 1 → read_word word ≡ fat_of number
unfolding read_word
read_fat word number n e =
    let rest : word / 8388608 ≡ 0 = omega arith in
    let odd : word % 2 ≡ 1 = omega arith in
    let at_number : word / 256 ≡ number = omega arith in
    let half : word / 2 ≡ number * 128 + 0 = omega arith in
    simp (rest, odd, at_number, half, digits_mod number {m = 128} {r = 0} (lit< tt), mod-eq_of_lt n)

some_number : {n : ℕ} → IsNumber n → eqb n 0 ≡ false
some_number {n} h = ne_eqb n 0 (λ e. lt_irrefl 0 (omega arith))

-- each meaning in range is read back from the word that it is written as
pub meaning_of_word : (meaning : LockWord) → InRange meaning → read_word (write_word meaning) ≡ Some meaning
unfolding read_word read_flat read_reserved fat_of write_word InRange
meaning_of_word Free h = refl
meaning_of_word (Flat thread count) h =
    simp (mod-eq_of_lt h.0.1, mod-eq_of_lt h.1)
    (read_thread (thread.0 * 256 + count * 4) thread.0 count 0 h.0.1 h.1 (lit< tt) (omega arith) ∙ simp (some_number h.0))
meaning_of_word Anonymous h = refl
meaning_of_word (Reserved thread count) h =
    simp (mod-eq_of_lt h.0.1, mod-eq_of_lt h.1)
    (read_thread (thread.0 * 256 + count * 4 + 2) thread.0 count 1 h.0.1 h.1 (lit< tt) (omega arith) ∙ simp (some_number h.0))
meaning_of_word (Fat monitor) h =
    simp (mod-eq_of_lt h.1) (read_fat (monitor.0 * 256 + 1) monitor.0 h.1 refl ∙ simp (some_number h))
