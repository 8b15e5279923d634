-- The other ways in which a part is taken: what is left of a line that was answered, and the start of a line that is too long.
use Prim.Native.Nat.{ℕ, ◌≤◌, ◌<◌}
use mathlib.Core.Path.{◌≡◌, ap, sym, ◌∙◌}
use mathlib.Core.Logic.{⊎_elim}
use mathlib.Core.Bool.{Bool, true, false}
use mathlib.Core.List.{List, [], ◌∷◌, ◌++◌}
use native.Mathlib.Omega.{arith}
use lib.ListN.{length, take, drop, length-append}
use lib.Seq.{drop-length}
use Rattle.replay_lines.specs.Cutting.{line_end, line_limit, lines_of, first_line, later_lines}
use Rattle.replay_lines.specs.Grammar.{read_line}
use Rattle.replay_lines.specs.declared.reading.Line.{Line}
use Rattle.replay_lines.proofs.LineLimit.{long_line}
use Rattle.replay_lines.proofs.Lines.{end_within, line_split, line_open, later_same}
use Rattle.replay_parts.specs.Replay.{Replay, output_of, rest_output}
use Rattle.replay_parts.specs.Part.{Fed, GoesOn}

module _ {S : Type 0} (replay : Replay S) (session : S) (input out : List ℕ) where
  -- a part without a newline is all of the line that was answered
  pub skipped_part : {last : Bool} → line_end input ≡ 0 → GoesOn last input out → Fed replay session true last input out session true (length input) 0
  unfolding rest_output
  skipped_part none goes_on = record {
    used_within = omega arith;
    wrote_within = omega arith;
    prints = λ tail follows.
        ap (output_of replay session) (later_same input tail none)
        ∙ ap (λ (x : List ℕ). output_of replay session (later_lines (lines_of (x ++ tail)))) (sym (drop-length input));
    moves = λ room. ⊎_elim (λ line. omega (arith, end_within input)) (λ long. omega arith);
    finishes = λ ends room nothing. absurd (omega (arith, none, goes_on ends room));
  }

  -- the line that was answered ends here
  pub skipped_line : {last : Bool} {n : ℕ} → n ≡ line_end input → (n ≡ 0 → ⊥) → Fed replay session true last input out session false n 0
  unfolding rest_output
  skipped_line {n = n} end some = record {
    used_within = omega (arith, end, end_within input);
    wrote_within = omega arith;
    prints = λ tail follows.
        ap (λ (x : List (List ℕ)). output_of replay session (later_lines x)) (line_split input tail (λ none. some (end ∙ none)))
        ∙ ap (λ (k : ℕ). output_of replay session (lines_of (drop k input ++ tail))) (sym end);
    moves = λ room any. omega (arith, some);
    finishes = λ ends room nothing. absurd (some nothing);
  }

-- the start of a line that is too long says what the whole line says
long_prints : {S : Type 0} (replay : Replay S) (session : S) (input tail : List ℕ) → line_limit < length input → line_end input ≡ 0
    → output_of replay session (lines_of (input ++ tail))
    ≡ replay.prints session (read_line input) ++ output_of replay (replay.next session (read_line input)) (later_lines (lines_of tail))
unfolding output_of
long_prints replay session [] tail long none = absurd (omega arith)
long_prints replay session (byte ∷ input) tail long none =
    let start = byte ∷ input in
    let whole = start ++ first_line (lines_of tail) in
    let same : read_line whole ≡ read_line start =
    long_line byte _ (omega (arith, length-append start (first_line (lines_of tail)))) ∙ sym (long_line byte input long) in
    ap (output_of replay session) (line_open byte input tail none)
    ∙ ap (λ (x : Line). replay.prints session x ++ output_of replay (replay.next session x) (later_lines (lines_of tail))) same

-- it is answered at once, and what is left of it will be skipped
pub long_part : {S : Type 0} {replay : Replay S} {session session' : S} {last : Bool} {input out : List ℕ} {wrote : ℕ}
    → line_limit < length input → line_end input ≡ 0
    → session' ≡ replay.next session (read_line input)
    → take wrote out ≡ replay.prints session (read_line input)
    → wrote ≤ length out
    → Fed replay session false last input out session' true (length input) wrote
unfolding rest_output
long_part {replay = replay} {session} {session'} {input = input} {out} {wrote} long none moved front within = record {
  used_within = omega arith;
  wrote_within = within;
  prints = λ tail follows.
      long_prints replay session input tail long none
      ∙ ap (λ (x : List ℕ). x ++ output_of replay (replay.next session (read_line input)) (later_lines (lines_of tail))) (sym front)
      ∙ ap (λ x. take wrote out ++ output_of replay x (later_lines (lines_of tail))) (sym moved)
      ∙ ap (λ (x : List ℕ). take wrote out ++ output_of replay session' (later_lines (lines_of (x ++ tail)))) (sym (drop-length input));
  moves = λ room any. omega arith;
  finishes = λ ends room nothing. absurd (omega (arith, long, nothing));
}
