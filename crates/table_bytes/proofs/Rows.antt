-- Laws of records laid out by rows, for any rows: bytes that were written read back as the record's numbers, and numbers that were read are written
-- back as the same bytes.
use Prim.Native.Nat.{ℕ, zero, suc, ◌+◌, ◌-◌, ◌*◌, ◌/◌, ◌%◌, ◌<◌}
use mathlib.Core.Path.{◌≡◌, refl, ap, sym, ◌∙◌}
use mathlib.Core.Bool.{Bool, true}
use mathlib.Core.List.{List, [], ◌∷◌, ◌++◌, append_assoc}
use native.Mathlib.Omega.{arith}
use native.Mathlib.Nat.{zero-add, suc-add}
use lib.Dec.{ltb}
use lib.ListN.{length, get_or, take, drop, length-append, length-drop}
use lib.Seq.{take_all, get_or-drop, get_or-append-add}
use borrow.Author.Tests.{ltb-true}
use Rattle.laws.specs.{Choice.both, Sequence.tabulate}
use Rattle.laws.proofs.Choice.{both_first, both_second}
use Rattle.table_bytes.specs.Rows.{Field, size, number_bytes, record_bytes, number_in, Numbers, numbers_in}
use Rattle.table_bytes.specs.Reading.{byte_at}

-- as many bytes as the widths say
number_length : (width number : ℕ) → length (number_bytes width number) ≡ width
number_length zero number = refl
number_length (suc zero) number = refl
number_length (suc (suc more)) number = ap suc (number_length (suc more) (number / 256))

-- a number of at least one byte
number_back : (width number : ℕ) (rest : List ℕ) → 0 < width → number_in width (λ i. get_or (number_bytes width number ++ rest) i 0) ≡ number
number_back zero number rest some = omega (arith, some)
number_back (suc zero) number rest some = refl
number_back (suc (suc more)) number rest some = rw (number_back (suc more) (number / 256) rest (omega arith)) (omega arith)

number_same : (width : ℕ) (byte : ℕ → ℕ) → ((i : ℕ) → byte i < 256) → number_bytes width (number_in width byte) ≡ tabulate width byte
unfolding tabulate
number_same zero byte small = refl
number_same (suc zero) byte small = refl
number_same (suc (suc more)) byte small =
    let rest = number_in (suc more) (λ i. byte (suc i)) in
    let low : (byte 0 + rest * 256) % 256 ≡ byte 0 = omega (arith, small 0) in
    let high : (byte 0 + rest * 256) / 256 ≡ rest = omega (arith, small 0) in
    rw (low, high, number_same (suc more) (λ i. byte (suc i)) (λ i. small (suc i))) refl

number_same_bytes : (width : ℕ) (f g : ℕ → ℕ) → ((i : ℕ) → i < width → f i ≡ g i) → number_in width f ≡ number_in width g
number_same_bytes zero f g same = refl
number_same_bytes (suc zero) f g same = same 0 (omega arith)
number_same_bytes (suc (suc more)) f g same =
    rw (same 0 (omega arith), number_same_bytes (suc more) (λ i. f (suc i)) (λ i. g (suc i)) (λ i low. same (suc i) (omega (arith, low)))) refl

-- one run of places behind another
pub tabulate_more : {A : Type 0} (n m : ℕ) (f : ℕ → A) → tabulate n f ++ tabulate m (λ i. f (n + i)) ≡ tabulate (n + m) f
unfolding tabulate
tabulate_more zero m f = simp (zero-add)
tabulate_more (suc n) m f = simp (suc-add, tabulate_more n m (λ i. f (suc i)))

module _ {A : Type 0} where
  -- no field without a byte
  abbrev pub wide : List (Field A) → Bool
  wide [] = true
  wide (row ∷ rows) = both (ltb 0 row.width) (wide rows)

  abbrev pub numbers : (rows : List (Field A)) → A → Numbers rows
  numbers [] whole = tt
  numbers (row ∷ rows) whole = (row.number whole, numbers rows whole)

  -- equal bytes say equal numbers
  numbers_same : (rows : List (Field A)) (f g : ℕ → ℕ) → ((i : ℕ) → i < size rows → f i ≡ g i) → numbers_in rows f ≡ numbers_in rows g
  numbers_same [] f g same = refl
  numbers_same (row ∷ rows) f g same =
      let first : number_in row.width f ≡ number_in row.width g = number_same_bytes row.width f g (λ i low. same i (omega (arith, low))) in
      let others = numbers_same rows (λ i. f (row.width + i)) (λ i. g (row.width + i)) (λ i low. same (row.width + i) (omega (arith, low))) in
      λ k. (first k, others k)

  pub record_length : (rows : List (Field A)) (whole : A) → length (record_bytes rows whole) ≡ size rows
  record_length [] whole = refl
  record_length (row ∷ rows) whole =
      length-append (number_bytes row.width (row.number whole)) (record_bytes rows whole)
      ∙ rw (number_length row.width (row.number whole), record_length rows whole) refl

  -- what was written reads back
  pub read_rows : (rows : List (Field A)) → wide rows ≡ true → (whole : A) (rest : List ℕ)
      → numbers_in rows (λ i. get_or (record_bytes rows whole ++ rest) i 0) ≡ numbers rows whole
  read_rows [] some whole rest = refl
  read_rows (row ∷ rows) some whole rest =
      let first = number_bytes row.width (row.number whole) in
      let others = record_bytes rows whole ++ rest in
      let behind : (i : ℕ) → get_or (first ++ others) (row.width + i) 0 ≡ get_or others i 0 = λ i.
      ap (λ (n : ℕ). get_or (first ++ others) (n + i) 0) (sym (number_length row.width (row.number whole))) ∙ get_or-append-add first others i 0 in
      rw (append_assoc first (record_bytes rows whole) rest)
      (λ k. (
        number_back row.width (row.number whole) others (ltb-true 0 row.width (both_first (ltb 0 row.width) (wide rows) some)) k,
        (ap (numbers_in rows) (λ j i. behind i j) ∙ read_rows rows (both_second (ltb 0 row.width) (wide rows) some) whole rest) k,
      ))

  -- a record is read from a part of the bytes as from the whole
  pub read_part : (rows : List (Field A)) (bytes : List ℕ) (at : ℕ)
      → numbers_in rows (byte_at (take (length bytes - at) (drop at bytes))) ≡ numbers_in rows (λ i. byte_at bytes (at + i))
  read_part rows bytes at =
      rw (take_all (length bytes - at) (drop at bytes) (omega (arith, length-drop at bytes))) (ap (numbers_in rows) (λ k i. get_or-drop at bytes i 0 k))

  -- a record is read from its own bytes as from the whole
  pub numbers_at : (rows : List (Field A)) (width start place : ℕ) (stored bytes : List ℕ) → size rows ≡ width
      → ((i : ℕ) → i < width → byte_at stored i ≡ byte_at bytes (start + place * width + i))
      → numbers_in rows (byte_at stored) ≡ numbers_in rows (λ i. byte_at bytes (start + place * size rows + i))
  numbers_at rows width start place stored bytes sized same =
      numbers_same rows (byte_at stored) (λ i. byte_at bytes (start + place * size rows + i))
      (λ i low. same i (omega (arith, low, sized)) ∙ ap (λ (n : ℕ). byte_at bytes (start + place * n + i)) (sym sized))

  -- what was read is written back
  pub write_rows : (rows : List (Field A)) (whole : A) (byte : ℕ → ℕ) → ((i : ℕ) → byte i < 256) → numbers rows whole ≡ numbers_in rows byte
      → record_bytes rows whole ≡ tabulate (size rows) byte
  unfolding tabulate
  write_rows [] whole byte small same = refl
  write_rows (row ∷ rows) whole byte small same =
      ap (λ (number : ℕ). number_bytes row.width number ++ record_bytes rows whole) (λ k. (same k).0)
      ∙ rw (number_same row.width byte small, write_rows rows whole (λ i. byte (row.width + i)) (λ i. small (row.width + i)) (λ k. (same k).1))
      (tabulate_more row.width (size rows) byte)
