-- The end of the input, and the parts joined: for every way of cutting, what is written is what the whole input prints.
use Prim.Native.Nat.{ℕ, ◌≤◌}
use mathlib.Core.Path.{◌≡◌, refl, ap, sym, ◌∙◌}
use mathlib.Core.Logic.{⊎_elim}
use mathlib.Core.Bool.{Bool, true, false}
use mathlib.Core.List.{List, [], ◌∷◌, ◌++◌, append-nil}
use native.Mathlib.Omega.{arith}
use lib.ListN.{length, take, drop}
use lib.Seq.{drop-length}
use Rattle.replay_lines.specs.Cutting.{line_end, lines_of, later_lines}
use Rattle.replay_lines.specs.Grammar.{read_line}
use Rattle.replay_lines.specs.declared.reading.Line.{Line}
use Rattle.replay_lines.proofs.Fields.{no_bytes}
use Rattle.replay_lines.proofs.Lines.{later_same, line_last}
use Rattle.replay_parts.specs.Replay.{Replay, output_of, replay_of, rest_output}
use Rattle.replay_parts.specs.Part.{Follows, Fed}

module _ {S : Type 0} (replay : Replay S) (session : S) (input : List ℕ) (none : line_end input ≡ 0) where
  -- inside a line that was answered, or with nothing left, only the end prints
  pub end_inside : rest_output replay session true input ≡ replay.closing session
  unfolding rest_output output_of lines_of
  end_inside =
      ap (output_of replay session) (ap (λ (x : List ℕ). later_lines (lines_of x)) (sym (append-nil input)) ∙ later_same input [] none)

  pub end_empty : length input ≡ 0 → rest_output replay session false input ≡ replay.closing session
  unfolding rest_output output_of lines_of
  end_empty empty = rw (no_bytes input empty)

  -- a last piece without a newline is a line
  pub end_piece : (length input ≡ 0 → ⊥)
      → rest_output replay session false input ≡ replay.prints session (read_line input) ++ replay.closing (replay.next session (read_line input))
  unfolding rest_output output_of
  end_piece some = ap (output_of replay session) (line_last input none some)

-- a session whose end prints nothing prints nothing of no bytes
no_more : {S : Type 0} (replay : Replay S) (session : S) → replay.closing session ≡ [] → rest_output replay session false [] ≡ []
unfolding rest_output output_of lines_of
no_more replay session silent = silent

-- the end of the input is taken with all that is left: what they print was written, and the session has closed
pub end_part : {S : Type 0} {replay : Replay S} {session session' : S} {inside : Bool} {input out : List ℕ} {wrote : ℕ}
    → line_end input ≡ 0
    → rest_output replay session inside input ≡ take wrote out
    → wrote ≤ length out
    → replay.closing session' ≡ []
    → Fed replay session inside true input out session' false (length input) wrote
end_part {replay = replay} {session} {session'} {inside} {input} {out} {wrote} none prints within silent = record {
  used_within = omega arith;
  wrote_within = within;
  prints = λ tail follows.
      let rest : drop (length input) input ++ tail ≡ [] = ap (λ (x : List ℕ). x ++ tail) (drop-length input) ∙ follows refl in
      ap (λ (x : List ℕ). rest_output replay session inside (input ++ x)) (follows refl) ∙ ap (rest_output replay session inside) (append-nil input) ∙ prints
      ∙ sym (append-nil (take wrote out))
      ∙ ap (λ (x : List ℕ). take wrote out ++ x) (sym (ap (rest_output replay session' false) rest ∙ no_more replay session' silent));
  moves = λ room. ⊎_elim (λ line. absurd (omega (arith, none, line))) (λ long. omega arith);
  finishes = λ ends room nothing. ap (rest_output replay session' false) (no_bytes input nothing) ∙ no_more replay session' silent;
}

-- sessions that print nothing, and that lines keep so, print nothing whatever comes
module _ {S : Type 0} (replay : Replay S) (Quiet : S → Type 0)
    (stays : (session : S) → Quiet session → (line : Line) → Quiet (replay.next session line))
    (says : (session : S) → Quiet session → (line : Line) → replay.prints session line ≡ [])
    (closes : (session : S) → Quiet session → replay.closing session ≡ []) where
  pub lines_silent : (session : S) → Quiet session → (lines : List (List ℕ)) → output_of replay session lines ≡ []
  unfolding output_of
  lines_silent session quiet [] = closes session quiet
  lines_silent session quiet (line ∷ lines) =
      ap (λ (x : List ℕ). x ++ output_of replay (replay.next session (read_line line)) lines) (says session quiet (read_line line))
      ∙ lines_silent (replay.next session (read_line line)) (stays session quiet (read_line line)) lines

-- sessions of one replay that do the same as sessions of another
module _ {S T : Type 0} (replay : Replay S) (other : Replay T) (into : S → T)
    (moves : (session : S) (line : Line) → other.next (into session) line ≡ into (replay.next session line))
    (says : (session : S) (line : Line) → other.prints (into session) line ≡ replay.prints session line)
    (closes : (session : S) → other.closing (into session) ≡ replay.closing session) where
  lines_alike : (session : S) (lines : List (List ℕ)) → output_of other (into session) lines ≡ output_of replay session lines
  unfolding output_of
  lines_alike session [] = closes session
  lines_alike session (line ∷ lines) =
      let next = replay.next session (read_line line) in
      ap (λ (x : List ℕ). x ++ output_of other (other.next (into session) (read_line line)) lines) (says session (read_line line))
      ∙ ap (λ (x : List ℕ). replay.prints session (read_line line) ++ x)
      (ap (λ (x : T). output_of other x lines) (moves session (read_line line)) ∙ lines_alike next lines)

  pub replays_alike : (session : S) (input : List ℕ) → replay_of other (into session) input ≡ replay_of replay session input
  unfolding replay_of
  replays_alike session input = lines_alike session (lines_of input)

-- a run by parts: each part is a start of the input that is left, and what is not used of it is left for the next
pub data ByParts {S : Type 0} (replay : Replay S) : S → Bool → List ℕ → List ℕ → Type 0 where
  done : {session : S} {inside : Bool} {input : List ℕ} → rest_output replay session inside input ≡ [] → ByParts replay session inside input []
  part : {session session' : S} {inside inside' last : Bool} {input buffer output : List ℕ} {used wrote : ℕ} (tail : List ℕ) → Follows last tail
      → Fed replay session inside last input buffer session' inside' used wrote
      → ByParts replay session' inside' (drop used input ++ tail) output
      → ByParts replay session inside (input ++ tail) (take wrote buffer ++ output)

by_parts : {S : Type 0} {replay : Replay S} {session : S} {inside : Bool} {input output : List ℕ}
    → ByParts replay session inside input output → rest_output replay session inside input ≡ output
by_parts (done silent) = silent
by_parts (part {buffer = buffer} {wrote = wrote} tail follows fed more) =
    fed.prints tail follows ∙ ap (λ (x : List ℕ). take wrote buffer ++ x) (by_parts more)

-- THE PARTS PRINT WHAT THE WHOLE PRINTS
pub whole : {S : Type 0} {replay : Replay S} {session : S} {input output : List ℕ}
    → ByParts replay session false input output → replay_of replay session input ≡ output
unfolding rest_output replay_of
whole parts = by_parts parts
