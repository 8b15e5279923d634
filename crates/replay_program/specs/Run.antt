-- A program's loop, of values; and of what was read and written, where the bytes that its input has left and its output holds are known.
use Rattle.std.specs.Prelude.{ℕ, ◌+◌, ◌≤◌, ◌≡◌, Bool, true, false, List, [], Option, IfSome, Result, Ok, Err, is_err, length, take, drop}
use Rattle.std.specs.Io.KnownBytes.{Appends, Consumes, IsAtEnd}
use Rattle.std.specs.Process.{exit_status}
use Rattle.replay_text.specs.Bytes.{digit_zero}
use Rattle.replay_parts.specs.Replay.{replay_of, rest_output}
use Rattle.replay_parts.specs.Part.{Passed, Settled}
use Rattle.program_state.specs.State.{fresh_state}
use Rattle.program_state.specs.Take.{state_over, program}
use Rattle.replay_stream.specs.declared.feeding.Stream.{Stream}
use Rattle.replay_program.specs.declared.ending.Ending.{Ending}
use Rattle.replay_program.specs.declared.ending.Ending.TheVariants.{AllRead, Stopped, ReadFailed, WriteFailed}
use Rattle.replay_program.specs.declared.running.Drained.{Drained}
use Rattle.replay_program.specs.declared.running.Held.{Held}
use Rattle.replay_program.specs.declared.moving.{Failed.Failed, Unwritten.Unwritten}
use Rattle.replay_program.specs.declared.running.Ran.{Ran}
use Rattle.replay_program.specs.declared.Told.{Told}

-- a read or a write that moved something, or nothing at the input's end, is not tried again
abbrev pub OnlyFailed : {E : Type 0} → Result ℕ E → Bool → Type 0
OnlyFailed (Ok moved) again = again ≡ false
OnlyFailed (Err error) again = Unit {0}

-- how many bytes there are behind a read or a write, counted from a place on: where it failed it moved none
abbrev pub counted : ℕ → Result ℕ Failed → ℕ
counted before (Ok count) = count
counted before (Err failed) = before

-- how many of all bytes the writes took
abbrev pub taken : ℕ → Result Unit Unwritten → ℕ
taken all (Ok done) = all
taken all (Err unwritten) = unwritten.taken

-- what is left, also where a write failed
abbrev pub left : {T : Type 0} → Result T T → T
left (Ok rest) = rest
left (Err rest) = rest

-- what a read that was not interrupted answered
abbrev pub Arrived : {E : Type 0} → Result ℕ E → Result ℕ Failed → Type 0
Arrived (Ok moved) r = r ≡ Ok moved
Arrived (Err error) r = is_err r ≡ true

-- one read or write of up to `most` bytes: where it failed it moved none
pub record Moves (most : ℕ) (r : Result ℕ Failed) : Type 0 where
  pub within : counted 0 r ≤ most
  pub none_failed : is_err r ≡ true → counted 0 r ≡ 0

-- writes one behind the other: where none failed they took all of the bytes
pub record WritesAll (all : ℕ) (r : Result Unit Unwritten) : Type 0 where
  pub within : taken all r ≤ all
  pub whole : is_err r ≡ false → taken all r ≡ all

-- what was printed was written to an output, on the bytes that it holds where those are known: all of it where no write failed, else its front
pub record Written (failed : Bool) (before after : Option (List ℕ)) (printed : List ℕ) : Type 0 where
  pub taken : ℕ
  pub within : taken ≤ length printed
  pub appended : Appends before after (take taken printed)
  pub whole : failed ≡ false → taken ≡ length printed

-- a stream passed the input on up to `rest`, and there is something that it printed on the way
abbrev pub PassedOn : Stream → Bool → List ℕ → Stream → List ℕ → Type 0
PassedOn start last input stream rest =
    Passed program start.state start.inside last input stream.state stream.inside rest

-- nothing more can be taken of the rest
abbrev pub SettledAt : Stream → Bool → List ℕ → Type 0
SettledAt stream last rest = Settled program stream.state stream.inside last rest

pub record Drains (start : Stream) (last : Bool) (input : List ℕ) (r : Result Drained Drained) : Type 0 where
  pub from_within : (left r).from ≤ length input
  pub passed : PassedOn start last input (left r).stream (drop (left r).from input)
  pub settled : is_err r ≡ false → SettledAt (left r).stream last (drop (left r).from input)

-- and what was printed was written
pub record DrainsTo (before after : Option (List ℕ)) (start : Stream) (last : Bool) (input : List ℕ) (r : Result Drained Drained) : Type 0 where
  pub drains : Drains start last input r
  pub wrote : Written (is_err r) before after drains.passed.printed

-- the same, with the rest at the front of the buffer
pub record Takes (start : Stream) (last : Bool) (held : ℕ) (before after : List ℕ) (r : Result Held Held) : Type 0 where
  pub held_within : (left r).held ≤ length after
  pub passed : PassedOn start last (take held before) (left r).stream (take (left r).held after)
  pub settled : is_err r ≡ false → SettledAt (left r).stream last (take (left r).held after)

pub record TakesTo (written_before written_after : Option (List ℕ)) (start : Stream) (last : Bool) (held : ℕ) (before after : List ℕ) (r : Result Held Held) : Type 0 where
  pub takes : Takes start last held before after r
  pub wrote : Written (is_err r) written_before written_after takes.passed.printed

-- bytes come behind those that the buffer holds; where the read failed there are none
pub record ReadBehind (held : ℕ) (before after : List ℕ) (r : Result ℕ Failed) : Type 0 where
  pub from_held : held ≤ counted held r
  pub within : counted held r ≤ length after
  pub kept : take held after ≡ take held before
  pub none_failed : is_err r ≡ true → counted held r ≡ held

-- all of an input that ended was printed; or the run stopped before it, so that whatever follows prints nothing; or a read failed before the end
abbrev pub EndedAs : Ending → Bool → Stream → List ℕ → Type 0
EndedAs AllRead ended stream rest =
    (ended ≡ true) × (state_over stream.state ≡ false) × (rest_output program stream.state stream.inside rest ≡ [])
EndedAs Stopped ended stream rest = state_over stream.state ≡ true
EndedAs ReadFailed ended stream rest = ended ≡ false
EndedAs WriteFailed ended stream rest = Unit {0}

-- there is an input, that which was read, which a fresh state passed on up to the rest that the buffer holds
pub record Runs (reporting : Bool) (buffer : List ℕ) (r : Ran) : Type 0 where
  pub input : List ℕ
  pub ended : Bool
  pub passed : Passed program (fresh_state reporting) false ended input r.stream.state r.stream.inside (take r.held buffer)
  pub right : EndedAs r.ending ended r.stream (take r.held buffer)

-- whether a write failed
abbrev pub write_failed : Ending → Bool
write_failed AllRead = false
write_failed Stopped = false
write_failed ReadFailed = false
write_failed WriteFailed = true

-- that input is what was read, up to the end where it has ended; and what was printed of it was written
pub record RunsOn (reporting : Bool) (read_before read_after written_before written_after : Option (List ℕ)) (buffer : List ℕ) (r : Ran) : Type 0 where
  pub runs : Runs reporting buffer r
  pub read : Consumes read_before read_after runs.input
  pub at_end : runs.ended ≡ true → IsAtEnd read_after
  pub wrote : Written (write_failed r.ending) written_before written_after runs.passed.printed

-- a run that no failure stopped wrote what the program prints of all that its input had
abbrev pub WritesReplay : Bool → Option (List ℕ) → Option (List ℕ) → Option (List ℕ) → Ending → Type 0
WritesReplay reporting given before after AllRead = IfSome given (λ bytes. Appends before after (replay_of program (fresh_state reporting) bytes))
WritesReplay reporting given before after Stopped = IfSome given (λ bytes. Appends before after (replay_of program (fresh_state reporting) bytes))
WritesReplay reporting given before after ReadFailed = Unit {0}
WritesReplay reporting given before after WriteFailed = Unit {0}

-- the exit status
unfoldable pub status_of : Ending → ℕ
status_of AllRead = 0
status_of Stopped = 3
status_of ReadFailed = 4
status_of WriteFailed = 5

-- its digit
unfoldable pub ending_byte : Ending → ℕ
ending_byte ending = digit_zero + status_of ending

-- a run as the program's loop makes one, on some buffer, and the byte and the exit status that tell how it ended
pub record Tells (reporting : Bool) (read_before read_after written_before written_after : Option (List ℕ)) (r : Told) : Type 0 where
  pub buffer : List ℕ
  pub runs : RunsOn reporting read_before read_after written_before written_after buffer r.ran
  pub byte : r.byte ≡ ending_byte r.ran.ending
  pub code : exit_status r.code ≡ status_of r.ran.ending
