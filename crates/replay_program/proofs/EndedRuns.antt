-- A run that was not stopped by a failure printed what the documents say of the whole input: of one that ended, and of one that stopped before its end
-- whatever may follow what was read. Of the replay that is what document 01 says.
use Prim.Native.Nat.{ℕ}
use mathlib.Core.Path.{◌≡◌, refl, ap, sym, ◌∙◌, subst}
use mathlib.Core.Bool.{Bool, false}
use mathlib.Core.List.{List, [], ◌++◌, append-nil}
use native.Mathlib.Omega.{arith}
use lib.ListN.{take}
use lib.Seq.{take_all}
use Rattle.std.specs.Prelude.{Option, Some, None, IfSome}
use Rattle.std.specs.Io.KnownBytes.{Appends, Consumes, IsAtEnd}
use Rattle.replay_parts.specs.Replay.{replay_of, rest_output}
use Rattle.replay_parts.specs.Part.{Follows}
use Rattle.replay_session.specs.Session.{fresh_session, session_replay}
use Rattle.program_state.specs.State.{fresh_state}
use Rattle.program_state.specs.Take.{program}
use Rattle.program_state.proofs.Over.{state_over_silent}
use Rattle.program_state.proofs.Alike.{replay_alike}
use Rattle.replay_stream.specs.declared.feeding.Stream.{Stream}
use Rattle.replay_program.specs.declared.ending.Ending.{Ending}
use Rattle.replay_program.specs.declared.ending.Ending.TheVariants.{AllRead, Stopped, ReadFailed, WriteFailed}
use Rattle.replay_program.specs.Run.{Written, Runs, RunsOn, WritesReplay}

module _ {reporting : Bool} {stream : Stream} {held : ℕ} {buffer : List ℕ} where
  pub all_read_prints : (ran : Runs reporting buffer (record { stream = stream; held = held; ending = AllRead }))
      → replay_of program (fresh_state reporting) ran.input ≡ ran.passed.printed
  unfolding replay_of rest_output
  all_read_prints ran =
      let rest = take held buffer in
      ap (λ (x : List ℕ). rest_output program (fresh_state reporting) false x) (sym (append-nil ran.input)) ∙ ran.passed.prints [] (λ ends. refl)
      ∙ ap (λ (x : List ℕ). ran.passed.printed ++ rest_output program stream.state stream.inside x) (append-nil rest)
      ∙ ap (λ (x : List ℕ). ran.passed.printed ++ x) ran.right.2 ∙ append-nil ran.passed.printed

  pub stopped_prints : (ran : Runs reporting buffer (record { stream = stream; held = held; ending = Stopped })) (tail : List ℕ) → Follows ran.ended tail
      → replay_of program (fresh_state reporting) (ran.input ++ tail) ≡ ran.passed.printed
  unfolding replay_of rest_output
  stopped_prints ran tail follows =
      ran.passed.prints tail follows
      ∙ ap (λ (x : List ℕ). ran.passed.printed ++ x) (state_over_silent stream.state ran.right stream.inside (take held buffer ++ tail))
      ∙ append-nil ran.passed.printed

-- the replay's session is all that its program goes by
module _ {stream : Stream} {held : ℕ} {buffer : List ℕ} where
  pub replay_all_read : (ran : Runs false buffer (record { stream = stream; held = held; ending = AllRead }))
      → replay_of session_replay fresh_session ran.input ≡ ran.passed.printed
  replay_all_read ran = sym (replay_alike ran.input) ∙ all_read_prints ran

  pub replay_stopped : (ran : Runs false buffer (record { stream = stream; held = held; ending = Stopped })) (tail : List ℕ) → Follows ran.ended tail
      → replay_of session_replay fresh_session (ran.input ++ tail) ≡ ran.passed.printed
  replay_stopped ran tail follows = sym (replay_alike (ran.input ++ tail)) ∙ stopped_prints ran tail follows

-- where no write failed all that was printed was written
all_written : {before after : Option (List ℕ)} {printed : List ℕ} → Written false before after printed → Appends before after printed
all_written {before} {after} {printed} wrote =
    subst (Appends before after) (take_all wrote.taken printed (let whole = wrote.whole refl in omega arith)) wrote.appended

-- what was read of an input, and what it has left
read_part : (given left : Option (List ℕ)) (input : List ℕ) (P : List ℕ → Type 0) → Consumes given left input
    → ((rest : List ℕ) → left ≡ Some rest → P (input ++ rest)) → IfSome given P
read_part None left input P read so = tt
read_part (Some bytes) None input P read so = absurd read
read_part (Some bytes) (Some rest) input P read so = subst P (sym read) (so rest refl)

at_end_none : {left : Option (List ℕ)} (rest : List ℕ) → left ≡ Some rest → IsAtEnd left → rest ≡ []
at_end_none rest same ends = subst IsAtEnd same ends

-- A RUN THAT NO FAILURE STOPPED WROTE WHAT THE PROGRAM PRINTS OF ALL THAT ITS INPUT HAD
module _ {reporting : Bool} {given left before after : Option (List ℕ)} {stream : Stream} {held : ℕ} {buffer : List ℕ} where
  pub runs_write : (ending : Ending) → RunsOn reporting given left before after buffer (record { stream = stream; held = held; ending = ending })
      → WritesReplay reporting given before after ending
  runs_write AllRead ran =
      read_part given left ran.runs.input (λ bytes. Appends before after (replay_of program (fresh_state reporting) bytes)) ran.read
      (λ rest same.
      let ended : rest ≡ [] = at_end_none rest same (ran.at_end ran.runs.right.0) in
      let whole : ran.runs.input ++ rest ≡ ran.runs.input = ap (λ (x : List ℕ). ran.runs.input ++ x) ended ∙ append-nil ran.runs.input in
      subst (Appends before after) (sym (ap (replay_of program (fresh_state reporting)) whole ∙ all_read_prints ran.runs)) (all_written ran.wrote))
  runs_write Stopped ran =
      read_part given left ran.runs.input (λ bytes. Appends before after (replay_of program (fresh_state reporting) bytes)) ran.read
      (λ rest same.
      subst (Appends before after) (sym (stopped_prints ran.runs rest (λ ends. at_end_none rest same (ran.at_end ends)))) (all_written ran.wrote))
  runs_write ReadFailed ran = tt
  runs_write WriteFailed ran = tt
