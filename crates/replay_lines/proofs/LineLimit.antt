-- A line longer than the limit has no form: a line that is written has at most three numbers, each of at most five digits.
use Prim.Native.Nat.{ℕ, ◌+◌, ◌≤◌, ◌<◌}
use mathlib.Core.Path.{◌≡◌}
use mathlib.Core.Bool.{Bool, true, false}
use mathlib.Core.List.{List, ◌∷◌}
use native.Mathlib.Omega.{arith}
use lib.Dec.{eqb}
use lib.ListN.{length, length-append}
use Rattle.laws.specs.{Choice.pick, Count.one_if}
use Rattle.laws.proofs.Choice.{either_way}
use Rattle.replay_text.specs.Digits.{decimal}
use Rattle.replay_lines.specs.{Bytes.letter_L, Grammar.read_line, Cutting.line_limit, Number.number_limit}
use Rattle.replay_lines.specs.LineText.{spaced, line_break, Writes}
use Rattle.replay_lines.specs.declared.reading.Line.{Line}
use Rattle.replay_lines.specs.declared.reading.Line.TheVariants.{BadHeader, Malformed}
use Rattle.replay_lines.proofs.{Decimal.number_fits, ReadBack.read_written}

spaced_fits : (number : ℕ) (rest : List ℕ) → number ≤ number_limit → length (spaced number rest) ≤ length rest + 6
spaced_fits number rest fits = omega (arith, length-append (decimal number) rest, number_fits number fits)

-- the header and a timed wait have the most numbers
three_fit : (first second third : ℕ) → first ≤ number_limit → second ≤ number_limit → third ≤ number_limit
    → length (spaced first (spaced second (spaced third line_break))) < line_limit
three_fit first second third fits fits' fits'' =
    let last = spaced third line_break in
    omega (arith, spaced_fits first (spaced second last) fits, spaced_fits second last fits', spaced_fits third line_break fits'')

one_fits : (reserved : Bool) → one_if reserved ≤ number_limit
one_fits true = omega arith
one_fits false = omega arith

written_fits : {line : Line} {text : List ℕ} → Writes line text → length text ≤ line_limit
written_fits (Writes.header {threads} {objects} {reserved} fits fits') =
    omega (arith, three_fit threads objects (one_if reserved) fits fits' (one_fits reserved))
written_fits (Writes.begin {thread = thread} {object} named fits fits') =
    omega (arith, spaced_fits thread (spaced object line_break) fits, spaced_fits object line_break fits')
written_fits (Writes.timed_wait {thread} {object} {limit} fits fits' fits'') = omega (arith, three_fit thread object limit fits fits' fits'')
written_fits (Writes.step {thread} fits) = omega (arith, spaced_fits thread line_break fits)
written_fits Writes.tick = omega arith

-- so a line that is too long says no more than its first byte
pub long_line : (byte : ℕ) (text : List ℕ) → line_limit < length (byte ∷ text) → read_line (byte ∷ text) ≡ pick (eqb byte letter_L) BadHeader Malformed
long_line byte text long = either_way (read_written byte text) (λ none. none) (λ written. absurd (omega (arith, written_fits written, long)))
