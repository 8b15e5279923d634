-- The input passed on part by part, and what it printed written: what holds between two parts, and where it stops.
use Prim.Native.Nat.{ℕ, ◌+◌, ◌-◌, ◌≤◌}
use mathlib.Core.Path.{◌≡◌, ap, sym, ◌∙◌, subst}
use mathlib.Core.Bool.{Bool, true, false}
use mathlib.Core.List.{List}
use native.Mathlib.Omega.{arith}
use lib.ListN.{length, take, drop, length-drop}
use lib.Seq.{drop-drop}
use Rattle.std.specs.Prelude.{Option, Ok, Err}
use Rattle.laws.proofs.Choice.{false≢true}
use Rattle.replay_lines.proofs.Fields.{rest_of}
use Rattle.replay_parts.specs.Part.{end_room}
use Rattle.replay_parts.proofs.Passing.{passed_none, passed_fed, settled}
use Rattle.program_state.specs.Take.{program}
use Rattle.replay_stream.specs.declared.feeding.{Stream.Stream, Progress.Progress}
use Rattle.replay_stream.specs.Stream.{FedFrom}
use Rattle.replay_program.specs.Run.{PassedOn, SettledAt, Written, DrainsTo}
use Rattle.replay_program.proofs.Written.{written_none, written_both}

-- the input was passed on up to `rest`, and what it printed on the way was written, or its front where a write failed
pub record PassedTo (failed : Bool) (before after : Option (List ℕ)) (start : Stream) (last : Bool) (input : List ℕ) (stream : Stream) (rest : List ℕ) : Type 0 where
  pub passed : PassedOn start last input stream rest
  pub wrote : Written failed before after passed.printed

pub passed_to_none : (written : Option (List ℕ)) (start : Stream) (last : Bool) (input : List ℕ) → PassedTo false written written start last input start input
unfolding passed_none
passed_to_none written start last input = record { passed = passed_none program start.state start.inside last input; wrote = written_none false written }

-- the same, and the rest stands at the input's end
pub record Draining (failed : Bool) (before after : Option (List ℕ)) (start : Stream) (last : Bool) (input : List ℕ) (stream : Stream) (rest : List ℕ) : Type 0 where
  pub rest_within : length rest ≤ length input
  pub rest_place : drop (length input - length rest) input ≡ rest
  pub passed : PassedTo failed before after start last input stream rest

pub draining_first : (written : Option (List ℕ)) (start : Stream) (last : Bool) (input : List ℕ) → Draining false written written start last input start input
draining_first written start last input = record {
  rest_within = omega arith;
  rest_place = ap (λ (n : ℕ). drop n input) (let none : length input - length input ≡ 0 = omega arith in none);
  passed = passed_to_none written start last input;
}

-- the rest as a slice that begins in the middle has it
abbrev pub rest_behind : ℕ → List ℕ → List ℕ
rest_behind used rest = take (length rest - used) (drop used rest)

module _ {before now : Option (List ℕ)} {start stream : Stream} {last : Bool} {input rest : List ℕ} (draining : Draining false before now start last input stream rest) where
  passed_further : {failed : Bool} {after : Option (List ℕ)} {out : List ℕ} {r : Progress} → FedFrom stream.state stream.inside last rest out r
      → Written failed now after (take r.wrote out) → PassedTo failed before after start last input r.stream (drop r.used rest)
  unfolding passed_fed
  passed_further fed more = record { passed = passed_fed draining.passed.passed fed; wrote = written_both draining.passed.wrote more }

  fed_further : {failed : Bool} {after : Option (List ℕ)} {out : List ℕ} {r : Progress} → FedFrom stream.state stream.inside last rest out r
      → Written failed now after (take r.wrote out) → Draining failed before after start last input r.stream (drop r.used rest)
  fed_further {out = out} {r} fed more =
      let left : length (drop r.used rest) ≡ length rest - r.used = length-drop r.used rest in
      let fits = fed.used_within in
      record {
        rest_within = omega (arith, left, draining.rest_within);
        rest_place =
            ap (λ (k : ℕ). drop k input)
            (let further : length input - length (drop r.used rest) ≡ (length input - length rest) + r.used =
            omega (arith, left, fits, draining.rest_within) in further)
            ∙ sym (drop-drop r.used (length input - length rest) input) ∙ ap (drop r.used) draining.rest_place;
        passed = passed_further fed more;
      }

  -- a part more
  pub draining_next : {failed : Bool} {after : Option (List ℕ)} {out : List ℕ} {r : Progress} → FedFrom stream.state stream.inside last rest out r
      → Written failed now after (take r.wrote out) → Draining failed before after start last input r.stream (rest_behind r.used rest)
  draining_next {failed} {after} {r = r} fed more =
      subst (λ (x : List ℕ). Draining failed before after start last input r.stream x) (sym (rest_of r.used rest)) (fed_further fed more)

module _ {failed : Bool} {before after : Option (List ℕ)} {start stream : Stream} {last : Bool} {input rest : List ℕ} (draining : Draining failed before after start last input stream rest) where
  -- the rest where it stands in the input
  passed_up_to : PassedTo failed before after start last input stream (drop (length input - length rest) input)
  passed_up_to = subst (λ (x : List ℕ). PassedTo failed before after start last input stream x) (sym draining.rest_place) draining.passed

  -- no write failed
  pub draining_on : failed ≡ false → Draining false before after start last input stream rest
  draining_on wrote = subst (λ (x : Bool). Draining x before after start last input stream rest) wrote draining

  -- a write failed
  pub drained_failed : failed ≡ true → DrainsTo before after start last input (Err (record { stream = stream; from = length input - length rest }))
  drained_failed fails =
      let up = subst (λ (x : Bool). PassedTo x before after start last input stream (drop (length input - length rest) input)) fails passed_up_to in
      record {
        drains = record { from_within = omega arith; passed = up.passed; settled = λ never. false≢true (sym never) };
        wrote = up.wrote;
      }

  -- nothing more can be taken
  pub drained_settled : failed ≡ false → SettledAt stream last rest
      → DrainsTo before after start last input (Ok (record { stream = stream; from = length input - length rest }))
  drained_settled wrote at_rest =
      let up = subst (λ (x : Bool). PassedTo x before after start last input stream (drop (length input - length rest) input)) wrote passed_up_to in
      record {
        drains = record {
          from_within = omega arith;
          passed = up.passed;
          settled = λ none. subst (λ (x : List ℕ). SettledAt stream last x) (sym draining.rest_place) at_rest;
        };
        wrote = up.wrote;
      }

-- a part of which nothing is taken is left as it is
pub untouched : {stream : Stream} {last : Bool} {rest out : List ℕ} {r : Progress} → FedFrom stream.state stream.inside last rest out r
    → end_room ≤ length out → r.used ≡ 0 → SettledAt r.stream last (rest_behind r.used rest)
untouched {last = last} {rest} {r = r} fed room none =
    subst (λ (x : List ℕ). SettledAt r.stream last x) (sym (rest_of r.used rest ∙ ap (λ (n : ℕ). drop n rest) none)) (settled fed room none)
