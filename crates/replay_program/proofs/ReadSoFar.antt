-- What the run has read, passed on and written between two reads, and what that gives where it ends.
use Prim.Native.Nat.{ℕ, ◌+◌, ◌-◌, ◌≤◌}
use mathlib.Core.Path.{◌≡◌, ap, sym, ◌∙◌, subst}
use mathlib.Core.Bool.{Bool, true, false}
use mathlib.Core.List.{List, [], ◌++◌}
use native.Mathlib.Omega.{arith}
use lib.ListN.{take, drop}
use lib.Seq.{take-add, length-take-le}
use Rattle.std.specs.Prelude.{Option, Result, is_err}
use Rattle.std.specs.Io.KnownBytes.{Consumes, IsAtEnd}
use Rattle.std.proofs.KnownBytes.{Consumes-nil, Consumes-trans}
use Rattle.laws.proofs.Choice.{false≢true}
use Rattle.replay_lines.specs.Cutting.{line_limit}
use Rattle.replay_parts.proofs.Passing.{passed_both, passed_more}
use Rattle.replay_stream.specs.declared.feeding.Stream.{Stream}
use Rattle.replay_stream.specs.Stream.{fresh_stream}
use Rattle.replay_program.specs.declared.{ending.Ending.Ending, running.Held.Held, moving.Failed.Failed}
use Rattle.replay_program.specs.Run.{counted, left, TakesTo, ReadBehind, EndedAs, write_failed, RunsOn}
use Rattle.replay_program.proofs.Written.{written_both}
use Rattle.replay_program.proofs.Draining.{PassedTo, passed_to_none}

-- some input was read, and passed on up to `rest`, and what it printed was written; `ended` says that it has ended, and `failed` that a write failed
pub record Read (reporting ended failed : Bool) (read_before read_after written_before written_after : Option (List ℕ)) (stream : Stream) (rest : List ℕ) : Type 0 where
  pub input : List ℕ
  pub passed : PassedTo failed written_before written_after (fresh_stream reporting) ended input stream rest
  pub read : Consumes read_before read_after input
  pub at_end : ended ≡ true → IsAtEnd read_after

pub read_first : {reporting : Bool} {stream : Stream} (given written : Option (List ℕ)) → stream ≡ fresh_stream reporting
    → Read reporting false false given given written written stream []
read_first {reporting} given written fresh =
    subst (λ (x : Stream). Read reporting false false given given written written x []) (sym fresh) (record {
      input = [];
      passed = passed_to_none written (fresh_stream reporting) false [];
      read = Consumes-nil given;
      at_end = λ never. false≢true never;
    })

module _ {reporting : Bool} {read_before read_now read_after written_before written_now : Option (List ℕ)} {stream : Stream} {held : ℕ} {before after : List ℕ} {r : Result ℕ Failed}
    (behind : ReadBehind held before after r) (came : Consumes read_now read_after (take (counted held r - held) (drop held after)))
    (read : Read reporting false false read_before read_now written_before written_now stream (take held before)) where
  -- what came stands behind what was held
  pub read_more : Read reporting false false read_before read_after written_before written_now stream (take (counted held r) after)
  unfolding passed_more
  read_more =
      let more = take (counted held r - held) (drop held after) in
      let order = behind.from_held in
      let whole : held + (counted held r - held) ≡ counted held r = omega arith in
      let joined : take held before ++ more ≡ take (counted held r) after =
      ap (λ (x : List ℕ). x ++ more) (sym behind.kept) ∙ sym (take-add held (counted held r - held) after) ∙ ap (λ (n : ℕ). take n after) whole in
      let further : PassedTo false written_before written_now (fresh_stream reporting) false (read.input ++ more) stream (take held before ++ more) =
      record { passed = passed_more more read.passed.passed; wrote = read.passed.wrote } in
      record {
        input = read.input ++ more;
        passed = subst (λ (x : List ℕ). PassedTo false written_before written_now (fresh_stream reporting) false (read.input ++ more) stream x) joined further;
        read = Consumes-trans read_before read_now read_after read.input more read.read came;
        at_end = λ never. false≢true never;
      }

  -- nothing came
  pub read_same : is_err r ≡ true → Read reporting false false read_before read_after written_before written_now stream (take held after)
  read_same fails =
      subst (λ (n : ℕ). Read reporting false false read_before read_after written_before written_now stream (take n after)) (behind.none_failed fails) read_more

-- a part was taken
module _ {written_now written_after : Option (List ℕ)} {start : Stream} {last : Bool} {count : ℕ} {before after : List ℕ} {r : Result Held Held}
    (to : TakesTo written_now written_after start last count before after r) where
  pub read_taken : {reporting : Bool} {read_before read_after written_before : Option (List ℕ)} → (last ≡ true → IsAtEnd read_after)
      → Read reporting false false read_before read_after written_before written_now start (take count before)
      → Read reporting last (is_err r) read_before read_after written_before written_after (left r).stream (take (left r).held after)
  unfolding passed_both
  read_taken at_end read = record {
    input = read.input;
    passed = record { passed = passed_both read.passed.passed to.takes.passed; wrote = written_both read.passed.wrote to.wrote };
    read = read.read;
    at_end = at_end;
  }

  pub held_short : is_err r ≡ false → (left r).held ≤ line_limit
  held_short wrote = omega (arith, (to.takes.settled wrote).short, length-take-le (left r).held after to.takes.held_within)

-- the input has not ended, and no write failed
pub read_open : {reporting ended failed : Bool} {read_before read_after written_before written_after : Option (List ℕ)} {stream : Stream} {rest : List ℕ}
    → ended ≡ false → failed ≡ false → Read reporting ended failed read_before read_after written_before written_after stream rest
    → Read reporting false false read_before read_after written_before written_after stream rest
read_open {reporting} {ended} {failed} {read_before} {read_after} {written_before} {written_after} {stream} {rest} more wrote read =
    subst (λ (x : Bool). Read reporting x false read_before read_after written_before written_after stream rest) more
    (subst (λ (x : Bool). Read reporting ended x read_before read_after written_before written_after stream rest) wrote read)

pub runs : {reporting ended failed : Bool} {read_before read_after written_before written_after : Option (List ℕ)} {stream : Stream} {held : ℕ} {buffer : List ℕ} {ending : Ending}
    → Read reporting ended failed read_before read_after written_before written_after stream (take held buffer) → failed ≡ write_failed ending
    → EndedAs ending ended stream (take held buffer)
    → RunsOn reporting read_before read_after written_before written_after buffer (record { stream = stream; held = held; ending = ending })
runs {reporting} {ended} {failed} {read_before} {read_after} {written_before} {written_after} {stream} {held} {buffer} {ending} read same right =
    let told = subst (λ (x : Bool). Read reporting ended x read_before read_after written_before written_after stream (take held buffer)) same read in
    record {
      runs = record { input = told.input; ended = ended; passed = told.passed.passed; right = right };
      read = told.read;
      at_end = told.at_end;
      wrote = told.passed.wrote;
    }
