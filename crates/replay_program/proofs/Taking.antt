-- A part taken out of the buffer, with what is left of it at the front.
use Prim.Native.Nat.{ℕ, ◌-◌, ◌≤◌}
use mathlib.Core.Path.{◌≡◌, ap, sym, ◌∙◌, subst}
use mathlib.Core.Bool.{Bool, true, false}
use mathlib.Core.List.{List}
use native.Mathlib.Omega.{arith}
use lib.ListN.{length, take, drop}
use lib.Seq.{length-take-le}
use Rattle.std.specs.Prelude.{Option, Ok, Err}
use Rattle.laws.proofs.Choice.{false≢true}
use Rattle.replay_parts.specs.Keeping.{keep_rest}
use Rattle.replay_parts.proofs.Kept.{kept_front, kept_length}
use Rattle.replay_stream.specs.declared.feeding.Stream.{Stream}
use Rattle.replay_program.specs.declared.running.{Drained.Drained, Held.Held}
use Rattle.replay_program.specs.Run.{SettledAt, DrainsTo, TakesTo}
use Rattle.replay_program.proofs.Draining.{PassedTo}

-- what is left of a part, at the front of the buffer
abbrev pub kept_part : Drained → ℕ → Held
kept_part drained held = record { stream = drained.stream; held = held - drained.from }

module _ (drained : Drained) (held : ℕ) (before after : List ℕ) (fits : held ≤ length before) (within : drained.from ≤ length (take held before))
    (kept : after ≡ keep_rest drained.from held before) where
  order : drained.from ≤ held
  order = omega (arith, within, length-take-le held before fits)

  front : drop drained.from (take held before) ≡ take (held - drained.from) after
  front = sym (ap (take (held - drained.from)) kept ∙ kept_front drained.from held before order fits)

  held_within : held - drained.from ≤ length after
  held_within = let fits' = order in omega (arith, fits, ap length kept, kept_length drained.from held before order fits)

  moved : {failed last : Bool} {written_before written_after : Option (List ℕ)} {start : Stream}
      → PassedTo failed written_before written_after start last (take held before) drained.stream (drop drained.from (take held before))
      → PassedTo failed written_before written_after start last (take held before) drained.stream (take (held - drained.from) after)
  moved {failed} {last} {written_before} {written_after} {start} rest =
      subst (λ (x : List ℕ). PassedTo failed written_before written_after start last (take held before) drained.stream x) front rest

module _ {written_before written_after : Option (List ℕ)} {start : Stream} {last : Bool} {held : ℕ} {before after : List ℕ} {drained : Drained}
    (fits : held ≤ length before) (kept : after ≡ keep_rest drained.from held before) where
  pub taken_ok : DrainsTo written_before written_after start last (take held before) (Ok drained)
      → TakesTo written_before written_after start last held before after (Ok (kept_part drained held))
  taken_ok to =
      let within = to.drains.from_within in
      let rest : PassedTo false written_before written_after start last (take held before) drained.stream (drop drained.from (take held before)) =
      record { passed = to.drains.passed; wrote = to.wrote } in
      let part = moved drained held before after fits within kept rest in
      record {
        takes = record {
          held_within = held_within drained held before after fits within kept;
          passed = part.passed;
          settled = λ wrote. subst (λ (x : List ℕ). SettledAt drained.stream last x) (front drained held before after fits within kept) (to.drains.settled wrote);
        };
        wrote = part.wrote;
      }

  pub taken_err : DrainsTo written_before written_after start last (take held before) (Err drained)
      → TakesTo written_before written_after start last held before after (Err (kept_part drained held))
  taken_err to =
      let within = to.drains.from_within in
      let rest : PassedTo true written_before written_after start last (take held before) drained.stream (drop drained.from (take held before)) =
      record { passed = to.drains.passed; wrote = to.wrote } in
      let part = moved drained held before after fits within kept rest in
      record {
        takes = record {
          held_within = held_within drained held before after fits within kept;
          passed = part.passed;
          settled = λ never. false≢true (sym never);
        };
        wrote = part.wrote;
      }
