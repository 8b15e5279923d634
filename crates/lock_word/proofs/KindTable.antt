-- A word is read by the kind and the count of its low byte, and eight low bytes have the kinds of all.
use mathlib.Core.Path.{◌≡◌, sym, ◌∙◌}
use Prim.Native.Nat.{ℕ, ◌/◌, ◌%◌, ◌<◌, ◌≤◌}
use native.Mathlib.Omega.{arith}
use native.Mathlib.Nat.{lt_irrefl}
use lib.Dec.{eqb, lit<}
use lib.Arith.{mod-mul}
use borrow.Author.Tests.{ne_eqb}
use Rattle.laws.specs.Sequence.{tabulate}
use Rattle.laws.proofs.Choice.{split, by_below}
use Rattle.laws.proofs.Sequence.{tabulate_at}
use Rattle.lock_word.specs.Layout.{first_beyond, number_unit, count_unit, count_field}
use Rattle.lock_word.specs.Read.{read_word}
use Rattle.lock_word.specs.KindTable.{kind_of, kind_place, by_kind}
use Rattle.std.specs.Prelude.{None}

-- the low byte that stands for this one is one of the table's eight
pub place_inside : (low : ℕ) → kind_place low < 8
unfolding kind_place
place_inside low = by_below (λ (place : ℕ). place < 8) low count_unit (λ few. omega arith) (λ many. omega arith)

-- and has its kind: computed over all low bytes
pub place_kind : (low : ℕ) → low < number_unit → kind_of (kind_place low) ≡ kind_of low
unfolding tabulate kind_place kind_of
place_kind low h = sym (tabulate_at number_unit (λ (byte : ℕ). kind_of (kind_place byte)) None low h) ∙ tabulate_at number_unit kind_of None low h

low_kind : (word : ℕ) → kind_of (word % number_unit) ≡ kind_of word
unfolding kind_of
low_kind word =
    let halves = mod-mul word {m = 128} {c = 2} (lit< tt) (lit< tt) in
    let shape : word % 256 % 2 ≡ word % 2 = omega arith in
    let half : word % 256 / 2 ≡ word / 2 % 128 = omega arith in
    let reserved : word / 2 % 128 % 2 ≡ word / 2 % 2 = omega (arith, mod-mul (word / 2) {m = 64} {c = 2} (lit< tt) (lit< tt)) in
    let below : word / 2 % 128 % 128 ≡ word / 2 % 128 = omega arith in
    simp (shape, half, reserved, below)

low_count : (word : ℕ) → count_field (word % number_unit) ≡ count_field word
low_count word = omega (arith, mod-mul word {m = 64} {c = 4} (lit< tt) (lit< tt))

by_bits : (word : ℕ) → word < first_beyond → by_kind (kind_of word) (count_field word) (word / number_unit) ≡ read_word word
unfolding by_kind read_word kind_of
by_bits word h =
    let rest : word / 8388608 ≡ 0 = omega arith in
    let number : word / 256 % 32768 ≡ word / 256 = omega arith in
    split (eqb (word % 2) 0)
    (λ even. split (eqb (word / 2 % 2) 0) (λ flat. simp (rest, number, even, flat)) (λ reserved. simp (rest, number, even, reserved)))
    (λ odd. split (eqb (word / 2 % 128) 0) (λ fat. simp (rest, number, odd, fat)) (λ none. simp (rest, number, odd, none)))

-- a word with a bit above 22 is no lock word
pub beyond : (word : ℕ) → first_beyond ≤ word → read_word word ≡ None
unfolding read_word
beyond word h = simp (ne_eqb (word / 8388608) 0 (λ e. lt_irrefl 0 (omega (arith, e))))

-- a word below bit 23 is read by the kind and the count of its low byte
pub read_by_kind : (word : ℕ) → word < first_beyond
    → by_kind (kind_of (word % number_unit)) (count_field (word % number_unit)) (word / number_unit) ≡ read_word word
read_by_kind word h = simp (low_kind, low_count) (by_bits word h)
