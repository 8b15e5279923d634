-- A line that is written ends in a newline, so that what has none says no more than its first byte.
use Prim.Native.Nat.{ℕ, zero, suc, ◌<◌}
use mathlib.Core.Path.{◌≡◌}
use mathlib.Core.List.{List, [], ◌∷◌, ◌++◌}
use native.Mathlib.Omega.{arith}
use lib.Dec.{eqb}
use Rattle.laws.specs.{Choice.pick, Count.one_if}
use Rattle.laws.proofs.Choice.{by_test, either_way}
use Rattle.replay_text.specs.Digits.{decimal}
use Rattle.replay_text.specs.Bytes.{newline, space}
use Rattle.replay_lines.specs.Bytes.{letter_L}
use Rattle.replay_lines.specs.Cutting.{line_end, one_further}
use Rattle.replay_lines.specs.Grammar.{read_line}
use Rattle.replay_lines.specs.LineText.{spaced, line_break, Writes}
use Rattle.replay_lines.specs.declared.reading.Line.{Line}
use Rattle.replay_lines.specs.declared.reading.Line.TheVariants.{BadHeader, Malformed}
use Rattle.replay_lines.proofs.ReadBack.{read_written}

further_some : (n : ℕ) → 0 < n → 0 < one_further n
further_some zero some = absurd (omega arith)
further_some (suc n) some = omega arith

-- the newline is found behind any bytes
byte_before : (byte : ℕ) (rest : List ℕ) → 0 < line_end rest → 0 < line_end (byte ∷ rest)
unfolding line_end
byte_before byte rest some = by_test (λ n. 0 < n) (eqb byte newline) (λ is. omega arith) (λ other. further_some (line_end rest) some)

bytes_before : (front rest : List ℕ) → 0 < line_end rest → 0 < line_end (front ++ rest)
bytes_before [] rest some = some
bytes_before (byte ∷ front) rest some = byte_before byte (front ++ rest) (bytes_before front rest some)

break_ends : 0 < line_end line_break
unfolding line_end
break_ends = omega arith

spaced_ends : (number : ℕ) (rest : List ℕ) → 0 < line_end rest → 0 < line_end (spaced number rest)
spaced_ends number rest some = byte_before space (decimal number ++ rest) (bytes_before (decimal number) rest some)

written_ends : {line : Line} {text : List ℕ} → Writes line text → 0 < line_end text
written_ends (Writes.header {threads} {objects} {reserved} fits fits') =
    byte_before _ _ (spaced_ends threads _ (spaced_ends objects _ (spaced_ends (one_if reserved) line_break break_ends)))
written_ends (Writes.begin {thread = thread} {object} named fits fits') =
    byte_before _ _ (spaced_ends thread _ (spaced_ends object line_break break_ends))
written_ends (Writes.timed_wait {thread} {object} {limit} fits fits' fits'') =
    byte_before _ _ (spaced_ends thread _ (spaced_ends object _ (spaced_ends limit line_break break_ends)))
written_ends (Writes.step {thread} fits) = byte_before _ _ (spaced_ends thread line_break break_ends)
written_ends Writes.tick = byte_before _ _ break_ends

pub open_line : (byte : ℕ) (text : List ℕ) → line_end (byte ∷ text) ≡ 0 → read_line (byte ∷ text) ≡ pick (eqb byte letter_L) BadHeader Malformed
open_line byte text none = either_way (read_written byte text) (λ unread. unread) (λ written. absurd (omega (arith, written_ends written, none)))
