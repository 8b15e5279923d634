-- What it means that a text was written into some bytes, from a place on. All other bytes are as before.
use Rattle.std.specs.Prelude.{ℕ, ◌+◌, ◌≡◌, List, leb, length}
use Rattle.std.proofs.lemmas.List.Edits.{sets}
use Rattle.laws.specs.Choice.{pick}

-- the text is stored byte by byte from `at` on, and r is the place behind it
pub record Wrote (before after : List ℕ) (at r : ℕ) (text : List ℕ) : Type 0 where
  pub place : r ≡ at + length text
  pub bytes : after ≡ sets before at text

-- the same where so many bytes are left, which is room for any line of its kind; else nothing is stored, and r is the place itself
pub record Put (room : ℕ) (before after : List ℕ) (at r : ℕ) (line : List ℕ) : Type 0 where
  pub place : r ≡ pick (leb (at + room) (length before)) (at + length line) at
  pub bytes : after ≡ pick (leb (at + room) (length before)) (sets before at line) before
