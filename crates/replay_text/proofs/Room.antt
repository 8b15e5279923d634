-- A line that is put: with room it is written, without it nothing is.
use Prim.Native.Nat.{ℕ, ◌+◌, ◌-◌, ◌≤◌, ◌<◌}
use mathlib.Core.Path.{◌≡◌, refl, sym, ◌∙◌}
use mathlib.Core.Bool.{true, false}
use mathlib.Core.List.{List, ◌++◌}
use native.Mathlib.Omega.{arith}
use lib.Dec.{leb}
use lib.ListN.{length, take}
use borrow.Author.Tests.{le-leb, lt-leb, leb-true, leb-false}
use Rattle.laws.proofs.Choice.{split}
use Rattle.replay_text.specs.Written.{Wrote, Put}
use Rattle.replay_text.proofs.Stores.{wrote_front, wrote_length}

-- the test as the code makes it, which cannot overflow
pub room_test : (room at count : ℕ) → room ≤ count → leb at (count - room) ≡ leb (at + room) count
room_test room at count some =
    split (leb (at + room) count)
    (λ fits. le-leb at (count - room) (omega (arith, leb-true (at + room) count fits)) ∙ sym fits)
    (λ short. lt-leb at (count - room) (omega (arith, leb-false (at + room) count short)) ∙ sym short)

pub room_none : (room at count : ℕ) → count < room → false ≡ leb (at + room) count
room_none room at count short = sym (lt-leb (at + room) count (omega arith))

module _ {room : ℕ} {before after : List ℕ} {at r : ℕ} {line : List ℕ} where
  pub put_written : leb (at + room) (length before) ≡ true → Wrote before after at r line → Put room before after at r line
  put_written some wrote = record { place = rw some wrote.place; bytes = rw some wrote.bytes }

  -- what a caller with room learns
  pub written_put : at + room ≤ length before → Put room before after at r line → Wrote before after at r line
  written_put fits put =
      let some = le-leb (at + room) (length before) fits in
      record { place = rw some at put.place; bytes = rw some at put.bytes }

  -- the bytes up to the place behind the line are those before it and the line
  module _ (fits : at + room ≤ length before) (short : length line ≤ room) (put : Put room before after at r line) where
    pub put_front : take r after ≡ take at before ++ line
    put_front = wrote_front (written_put fits put) (omega arith)

    pub put_most : r ≤ at + room
    put_most = let wrote = written_put fits put in omega (arith, wrote.place)

    pub put_within : r ≤ length after
    put_within = let wrote = written_put fits put in omega (arith, wrote.place, wrote_length wrote)

pub put_refused : (room : ℕ) (bytes : List ℕ) (at : ℕ) (line : List ℕ) → leb (at + room) (length bytes) ≡ false → Put room bytes bytes at at line
put_refused room bytes at line short = record { place = rw short refl; bytes = rw short refl }
