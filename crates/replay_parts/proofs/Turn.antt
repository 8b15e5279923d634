-- A run over the whole lines of a part: what holds between two lines, and what it gives where the run stops.
use Prim.Native.Nat.{ℕ, ◌+◌, ◌-◌, ◌≤◌, ◌<◌}
use mathlib.Core.Path.{◌≡◌, refl, ap, sym, ◌∙◌, subst}
use mathlib.Core.Logic.{◌⊎◌, inl, inr, ⊎_elim}
use mathlib.Core.Bool.{Bool, false}
use mathlib.Core.List.{List, ◌∷◌, ◌++◌, append_assoc}
use native.Mathlib.Omega.{arith}
use lib.ListN.{length, take, drop, length-drop}
use lib.Seq.{drop-drop}
use Rattle.replay_lines.specs.Cutting.{line_end, lines_of}
use Rattle.replay_lines.specs.Grammar.{read_line}
use Rattle.replay_lines.proofs.Fields.{rest_of}
use Rattle.replay_lines.proofs.Lines.{end_within, line_split}
use Rattle.replay_text.specs.Text.{line_room}
use Rattle.replay_parts.specs.Replay.{Replay, output_of, rest_output}
use Rattle.replay_parts.specs.Part.{Fed, HasLine, GoesOn}

-- the session has read the input up to `rest` and written `wrote` bytes
pub record Going {S : Type 0} (replay : Replay S) (start : S) (input out₀ out : List ℕ) (session : S) (rest : List ℕ) (wrote : ℕ) : Type 0 where
  pub same_length : length out ≡ length out₀
  pub wrote_within : wrote ≤ length out
  pub rest_within : length rest ≤ length input
  pub rest_place : drop (length input - length rest) input ≡ rest
  pub prints : (tail : List ℕ) → output_of replay start (lines_of (input ++ tail)) ≡ take wrote out ++ output_of replay session (lines_of (rest ++ tail))
  pub moved : ((wrote ≡ 0) × (rest ≡ input)) ⊎ (length rest < length input)

pub going_first : {S : Type 0} (replay : Replay S) (start : S) (input out : List ℕ) → Going replay start input out out start input 0
going_first replay start input out = record {
  same_length = refl;
  wrote_within = omega arith;
  rest_within = omega arith;
  rest_place = ap (λ (n : ℕ). drop n input) (let none : length input - length input ≡ 0 = omega arith in none);
  prints = λ tail. refl;
  moved = inl (refl, refl);
}

module _ {S : Type 0} {replay : Replay S} {start : S} {input out₀ out : List ℕ} {session : S} {rest : List ℕ} {wrote : ℕ}
    (going : Going replay start input out₀ out session rest wrote) where
  -- one line more: n bytes of the rest are read, and `front` says what stands in the output then
  going_on : {out' : List ℕ} {session' : S} {n wrote' : ℕ} → n ≡ line_end rest → (n ≡ 0 → ⊥)
      → session' ≡ replay.next session (read_line (take n rest))
      → take wrote' out' ≡ take wrote out ++ replay.prints session (read_line (take n rest))
      → wrote' ≤ length out' → length out' ≡ length out
      → Going replay start input out₀ out' session' (drop n rest) wrote'
  unfolding output_of
  going_on {out'} {session'} {n} {wrote'} end some moved front within kept =
      let fits : n ≤ length rest = omega (arith, end, end_within rest) in
      let left : length (drop n rest) ≡ length rest - n = length-drop n rest in
      let line = read_line (take n rest) in
      let after : List ℕ → List (List ℕ) = λ tail. lines_of (drop n rest ++ tail) in
      record {
        same_length = kept ∙ going.same_length;
        wrote_within = within;
        rest_within = omega (arith, left, going.rest_within);
        rest_place =
            ap (λ (k : ℕ). drop k input)
            (let further : length input - length (drop n rest) ≡ (length input - length rest) + n = omega (arith, left, fits, going.rest_within) in further)
            ∙ sym (drop-drop n (length input - length rest) input) ∙ ap (drop n) going.rest_place;
        prints = λ tail.
            going.prints tail
            ∙ ap (λ (x : List ℕ). take wrote out ++ x)
            (ap (output_of replay session)
            (subst (λ (k : ℕ). lines_of (rest ++ tail) ≡ take k rest ∷ lines_of (drop k rest ++ tail)) (sym end)
            (line_split rest tail (λ none. some (end ∙ none))))
            ∙ ap (λ (x : S). replay.prints session line ++ output_of replay x (after tail)) (sym moved))
            ∙ sym (append_assoc (take wrote out) (replay.prints session line) (output_of replay session' (after tail)))
            ∙ ap (λ (x : List ℕ). x ++ output_of replay session' (after tail)) (sym front);
        moved = inr (omega (arith, left, fits, some, going.rest_within));
      }

  -- the same, with the rest as a slice that begins in the middle has it
  pub going_next : {out' : List ℕ} {session' : S} {n wrote' : ℕ} → n ≡ line_end rest → (n ≡ 0 → ⊥)
      → session' ≡ replay.next session (read_line (take n rest))
      → take wrote' out' ≡ take wrote out ++ replay.prints session (read_line (take n rest))
      → wrote' ≤ length out' → length out' ≡ length out
      → Going replay start input out₀ out' session' (take (length rest - n) (drop n rest)) wrote'
  going_next {out'} {session'} {n} {wrote'} end some moved front within kept =
      subst (λ (x : List ℕ). Going replay start input out₀ out' session' x wrote') (sym (rest_of n rest)) (going_on end some moved front within kept)

  -- the run stops for want of room or of a whole line
  pub going_stops : {last : Bool} → (length out - wrote < line_room) ⊎ (line_end rest ≡ 0) → HasLine input out₀ → GoesOn last input out₀
      → Fed replay start false last input out session false (length input - length rest) wrote
  unfolding rest_output
  going_stops stop has_line goes_on =
      let moves : line_room ≤ length out → 0 < line_end input → 0 < length input - length rest =
      λ room line.
      ⊎_elim
      (λ first. ⊎_elim (λ short. absurd (omega (arith, short, first.0))) (λ none. absurd (omega (arith, none, line, ap line_end first.1))) stop)
      (λ further. omega arith)
      going.moved in
      record {
        used_within = omega arith;
        wrote_within = going.wrote_within;
        prints = λ tail follows.
            going.prints tail ∙ ap (λ (x : List ℕ). take wrote out ++ output_of replay session (lines_of (x ++ tail))) (sym going.rest_place);
        moves = λ room any. moves room (⊎_elim (λ whole. whole) (has_line (omega (arith, room, going.same_length))) any);
        finishes = λ ends room nothing.
            absurd (omega (arith, nothing, moves (omega arith) (goes_on ends (omega (arith, room, going.same_length)))));
      }
