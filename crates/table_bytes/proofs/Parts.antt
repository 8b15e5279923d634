-- Laws of records that lie one behind the other, and of bytes that are stored over others, for records of any layout.
use Prim.Native.Nat.{ℕ, zero, suc, ◌+◌, ◌-◌, ◌*◌, ◌≤◌, ◌<◌}
use mathlib.Core.Path.{◌≡◌, refl, ap, sym, ◌∙◌}
use mathlib.Core.Logic.{◌≢◌}
use mathlib.Core.Bool.{Bool, true}
use mathlib.Core.List.{List, [], ◌++◌, append_assoc, append-nil}
use native.Mathlib.Omega.{arith}
use native.Mathlib.Nat.{zero-add, suc-add, zero-mul, suc-mul, add_assoc, add_comm}
use lib.ListN.{length, get_or, set, take, drop, length-append, length-drop}
use lib.Seq.{paste-zero, get_or-append-add, get_or-set_same, get_or-set_other, length-take-le, take_at, drop_at, drop-append-add, drop-drop}
use Rattle.laws.specs.{Every.all_below, Sequence.tabulate}
use Rattle.laws.proofs.Every.{all_below_at, all_of}
use Rattle.laws.proofs.Sequence.{tabulate_at, tabulate_all}
use Rattle.table_bytes.specs.Rows.{Field, size, record_bytes, Numbers, numbers_in, joined, overwritten}
use Rattle.table_bytes.specs.Reading.{AreBytes, byte_at}
use Rattle.table_bytes.proofs.Rows.{wide, numbers, record_length, read_rows, write_rows, tabulate_more}

-- the part at a place stands behind those before it and before all others
pub joined_split : (part : ℕ → List ℕ) (place more : ℕ)
    → joined (place + suc more) part ≡ joined place part ++ part place ++ joined more (λ i. part (suc (place + i)))
unfolding joined
joined_split part zero more = simp (zero-add)
joined_split part (suc place) more = simp (suc-add, joined_split (λ i. part (suc i)) place more, append_assoc)

pub joined_next : (part : ℕ → List ℕ) (n : ℕ) → joined n part ++ part n ≡ joined (n + 1) part
unfolding joined
joined_next part n = sym (joined_split part n 0 ∙ append-nil (joined n part ++ part n))

joined_same : (n : ℕ) (f g : ℕ → List ℕ) → ((i : ℕ) → i < n → f i ≡ g i) → joined n f ≡ joined n g
unfolding joined
joined_same zero f g same = refl
joined_same (suc n) f g same = rw (same zero (omega arith), joined_same n (λ i. f (suc i)) (λ i. g (suc i)) (λ i low. same (suc i) (omega arith))) refl

module _ (width : ℕ) where
  pub joined_length : (n : ℕ) (part : ℕ → List ℕ) → ((i : ℕ) → length (part i) ≡ width) → length (joined n part) ≡ n * width
  unfolding joined
  joined_length zero part each = sym (zero-mul width)
  joined_length (suc n) part each =
      length-append (part zero) (joined n (λ i. part (suc i)))
      ∙ rw (each zero, joined_length n (λ i. part (suc i)) (λ i. each (suc i)), suc-mul n width) (add_comm width (n * width))

  -- runs of places of one width are one run
  pub joined_run : (n : ℕ) (byte : ℕ → ℕ) → joined n (λ place. tabulate width (λ i. byte (place * width + i))) ≡ tabulate (n * width) byte
  unfolding joined tabulate
  joined_run zero byte = simp (zero-mul)
  joined_run (suc n) byte =
      let moved : (place i : ℕ) → suc place * width + i ≡ width + (place * width + i) = λ place i. rw (suc-mul place width) (omega arith) in
      let start : (i : ℕ) → zero * width + i ≡ i = λ i. rw (zero-mul width) (zero-add i) in
      let all : suc n * width ≡ width + n * width = rw (suc-mul n width) (omega arith) in
      simp (moved, start, joined_run n (λ i. byte (width + i)), all) (tabulate_more width (n * width) byte)

-- stores behind each other are one
pub overwritten_next : (at : ℕ) (first second bytes : List ℕ) → at ≤ length bytes
    → overwritten (at + length first) second (overwritten at first bytes) ≡ overwritten at (first ++ second) bytes
overwritten_next at first second bytes room =
    let front = take at bytes ++ first in
    let back = drop (at + length first) bytes in
    let long : length front ≡ at + length first = length-append (take at bytes) first ∙ rw (length-take-le at bytes room) refl in
    rw (take_at front back (at + length first) long)
    (ap (λ (n : ℕ). front ++ second ++ drop (n + length second) (front ++ back)) (sym long)
    ∙ rw (drop-append-add front back (length second), drop-drop (length second) (at + length first) bytes, length-append first second, append_assoc (take at bytes) first second)
    (ap (λ (n : ℕ). take at bytes ++ (first ++ second) ++ drop n bytes) (add_assoc at (length first) (length second))))

pub overwritten_length : (at : ℕ) (part bytes : List ℕ) → at + length part ≤ length bytes → length (overwritten at part bytes) ≡ length bytes
overwritten_length at part bytes room =
    let fits : at ≤ length bytes = omega (arith, room) in
    simp (length-append, length-take-le at bytes fits, length-drop) (omega (arith, room))

-- a store of as many bytes as the part that it hits
overwritten_part : (front old back new : List ℕ) (at : ℕ) → length front ≡ at → length old ≡ length new
    → overwritten at new (front ++ (old ++ back)) ≡ front ++ (new ++ back)
overwritten_part front old back new at before same =
    let past : at + length new ≡ length front + length old = rw (before, same) refl in
    rw (take_at front (old ++ back) at before)
    (ap (λ (n : ℕ). front ++ new ++ drop n (front ++ (old ++ back))) past
    ∙ rw (drop-append-add front (old ++ back) (length old), drop_at old back (length old) refl) (append_assoc front new back))

module _ {A : Type 0} (rows : List (Field A)) (none : A) (list : List A) where
  abbrev records : ℕ → List ℕ
  records i = record_bytes rows (get_or list i none)

  pub records_length : (n : ℕ) → length (joined n records) ≡ n * size rows
  records_length n = joined_length (size rows) n records (λ i. record_length rows (get_or list i none))

  -- the first records of a kind stored one behind the other, as a loop stores them
  module _ (at : ℕ) (bytes : List ℕ) where
    abbrev pub stored : ℕ → List ℕ
    stored n = overwritten at (joined n records) bytes

    pub stored_none : bytes ≡ stored 0
    unfolding joined
    stored_none = paste-zero bytes at []

    pub stored_next : at ≤ length bytes → (place : ℕ) → overwritten (at + place * size rows) (records place) (stored place) ≡ stored (place + 1)
    stored_next room place = rw (← records_length place, overwritten_next at (joined place records) (records place) bytes room, joined_next records place) refl

    pub stored_length : (n : ℕ) → at + n * size rows ≤ length bytes → length (stored n) ≡ length bytes
    stored_length n room = overwritten_length at (joined n records) bytes (omega (arith, room, records_length n))

-- records that are known are written back as the bytes that they were read from
module _ {A : Type 0} (rows : List (Field A)) (none : A) (of : Numbers rows → A) (known : Numbers rows → Bool)
    (same : (read : Numbers rows) → known read ≡ true → numbers rows (of read) ≡ read) (n at : ℕ) (bytes : List ℕ) (small : AreBytes bytes) where
  abbrev read_at : ℕ → Numbers rows
  read_at place = numbers_in rows (λ i. byte_at bytes (at + place * size rows + i))

  pub area_same : all_below n (λ place. known (read_at place)) ≡ true
      → joined n (records rows none (tabulate n (λ place. of (read_at place)))) ≡ tabulate (n * size rows) (λ i. byte_at bytes (at + i))
  area_same all =
      let list = tabulate n (λ place. of (read_at place)) in
      joined_same n (records rows none list) (λ place. tabulate (size rows) (λ i. byte_at bytes (at + (place * size rows + i))))
      (λ place low.
      write_rows rows (get_or list place none) (λ i. byte_at bytes (at + place * size rows + i)) (λ i. small (at + place * size rows + i))
      (rw (tabulate_at n (λ p. of (read_at p)) none place low) (same (read_at place) (all_below_at n (λ p. known (read_at p)) all place low)))
      ∙ simp (add_assoc))
      ∙ joined_run (size rows) n (λ i. byte_at bytes (at + i))

-- all records of a kind in some bytes, with others before and behind them
pub record Area {A : Type 0} (rows : List (Field A)) (none : A) (list : List A) (n at : ℕ) (bytes : List ℕ) : Type 0 where
  pub front : List ℕ
  pub back : List ℕ
  pub starts : length front ≡ at
  pub is : bytes ≡ front ++ joined n (records rows none list) ++ back
  pub some : wide rows ≡ true

module _ {A : Type 0} {rows : List (Field A)} {none : A} {list : List A} {n at : ℕ} {bytes : List ℕ} (area : Area rows none list n at bytes) where
  abbrev part : List A → ℕ → List ℕ
  part = records rows none

  module _ (place : ℕ) (low : place < n) where
    abbrev before : List A → List ℕ
    before these = area.front ++ joined place (part these)

    abbrev behind : List A → List ℕ
    behind these = joined (n - suc place) (λ i. part these (suc (place + i))) ++ area.back

    area_split : (these : List A) → area.front ++ joined n (part these) ++ area.back ≡ before these ++ (part these place ++ behind these)
    area_split these =
        let all : n ≡ place + suc (n - suc place) = omega (arith, low) in
        ap (λ (count : ℕ). area.front ++ joined count (part these) ++ area.back) all ∙ simp (joined_split (part these) place (n - suc place), append_assoc)

    before_length : (these : List A) → length (before these) ≡ at + place * size rows
    before_length these = length-append area.front (joined place (part these)) ∙ rw (area.starts, records_length rows none these place) refl

    -- a record is read where it stands
    area_read : numbers_in rows (λ i. byte_at bytes (at + place * size rows + i)) ≡ numbers rows (get_or list place none)
    area_read =
        let there : (i : ℕ) → byte_at bytes (at + place * size rows + i) ≡ get_or (part list place ++ behind list) i 0 = λ i.
        rw (area.is, area_split list, ← before_length list) (get_or-append-add (before list) (part list place ++ behind list) i 0) in
        ap (numbers_in rows) (λ k i. there i k) ∙ read_rows rows area.some (get_or list place none) (behind list)

    -- a record stored where another stands is the record replaced
    pub area_write : length list ≡ n → (new : A)
        → overwritten (at + place * size rows) (record_bytes rows new) bytes ≡ area.front ++ joined n (part (set list place new)) ++ area.back
    area_write full new =
        let after = set list place new in
        let others : (i : ℕ) → i ≢ place → part list i ≡ part after i = λ i away. ap (record_bytes rows) (sym (get_or-set_other list place i new none away)) in
        let front_same : before list ≡ before after =
        ap (λ (l : List ℕ). area.front ++ l) (joined_same place (part list) (part after) (λ i less. others i (λ e. omega (arith, less, e)))) in
        let back_same : behind list ≡ behind after =
        ap (λ (l : List ℕ). l ++ area.back)
        (joined_same (n - suc place) (λ i. part list (suc (place + i))) (λ i. part after (suc (place + i))) (λ i less. others (suc (place + i)) (λ e. omega (arith, e)))) in
        let long : length (part list place) ≡ length (record_bytes rows new) = record_length rows (get_or list place none) ∙ sym (record_length rows new) in
        rw (
          area.is,
          area_split list,
          overwritten_part (before list) (part list place) (behind list) (record_bytes rows new) (at + place * size rows) (before_length list) long,
          area_split after,
          get_or-set_same list place new none (omega (arith, low, full)),
          front_same,
          back_same,
        )
        refl

  -- all records that were written are known, and read back
  pub area_known : (known : Numbers rows → Bool) → ((whole : A) → known (numbers rows whole) ≡ true)
      → all_below n (λ place. known (numbers_in rows (λ i. byte_at bytes (at + place * size rows + i)))) ≡ true
  area_known known each =
      all_of n (λ i. known (numbers_in rows (λ k. byte_at bytes (at + (i - 1) * size rows + k))))
      (λ i some few. ap known (area_read (i - 1) (omega (arith, some, few))) ∙ each (get_or list (i - 1) none))

  pub area_back : (of : Numbers rows → A) → ((whole : A) → of (numbers rows whole) ≡ whole) → length list ≡ n
      → tabulate n (λ place. of (numbers_in rows (λ i. byte_at bytes (at + place * size rows + i)))) ≡ list
  area_back of each full = sym (tabulate_all n _ none list full (λ i low. sym (ap of (area_read i low) ∙ each (get_or list i none))))
