use Rattle.std.proofs.Common.{◌<◌, length, refl, sym, ap, arith}
use borrow.Author.Tests.{eq-eqb, ne_eqb, eqb-true}
use Rattle.std.specs.Prelude.{Ok}
use Rattle.replay_program.proofs.ReadSoFar.{read_first, read_same, read_more, read_taken, held_short, read_open, runs}
use Rattle.replay_program.proofs.running.run.Goals as goal

pub loop-init : goal.loop-init
loop-init g c = record { same_buffer = refl; same_out = refl; short = omega arith; read = read_first _ _ c.fresh_stream-stream.ensures }

pub loop-preserved : goal.loop-preserved
loop-preserved g c =
    let behind = c.in-Ok.ensures in
    let part = c.in-Ok-take_part.ensures in
    let room : c.loop.held < length c.read_behind.new.buffer =
    omega (arith, c.requires.0, c.loop.invariant.short, c.loop.auto.buffer, c.read_behind.auto.buffer) in
    let more = read_more behind.moved behind.read c.loop.invariant.read in
    let taken = read_taken part (λ last. behind.ended (ap Ok (eqb-true _ _ last)) room) more in
    record {
      same_buffer = omega (arith, c.loop.auto.buffer, c.read_behind.auto.buffer, c.take_part.auto.buffer);
      same_out = omega (arith, c.loop.auto.out, c.take_part.auto.out);
      short = held_short part refl;
      read = read_open (ne_eqb _ _ c.if-last.false) refl taken;
    }

pub returns-in_default : goal.returns-in_default
returns-in_default g c =
    let behind = c.in_default.ensures in
    runs (read_same behind.moved behind.read c.loop.invariant.read refl) refl refl

pub returns-in-Err : goal.returns-in-Err
returns-in-Err g c =
    let behind = c.in-Ok.ensures in
    let room : c.loop.held < length c.read_behind.new.buffer =
    omega (arith, c.requires.0, c.loop.invariant.short, c.loop.auto.buffer, c.read_behind.auto.buffer) in
    let more = read_more behind.moved behind.read c.loop.invariant.read in
    runs (read_taken c.in-Err.ensures (λ last. behind.ended (ap Ok (eqb-true _ _ last)) room) more) refl tt

pub returns-then-state_over : goal.returns-then-state_over
returns-then-state_over g c =
    let behind = c.in-Ok.ensures in
    let room : c.loop.held < length c.read_behind.new.buffer =
    omega (arith, c.requires.0, c.loop.invariant.short, c.loop.auto.buffer, c.read_behind.auto.buffer) in
    let more = read_more behind.moved behind.read c.loop.invariant.read in
    let taken = read_taken c.in-Ok-take_part.ensures (λ last. behind.ended (ap Ok (eqb-true _ _ last)) room) more in
    runs taken refl (sym c.if-state_over.ensures)

pub returns-then-last : goal.returns-then-last
returns-then-last g c =
    let behind = c.in-Ok.ensures in
    let part = c.in-Ok-take_part.ensures in
    let room : c.loop.held < length c.read_behind.new.buffer =
    omega (arith, c.requires.0, c.loop.invariant.short, c.loop.auto.buffer, c.read_behind.auto.buffer) in
    let more = read_more behind.moved behind.read c.loop.invariant.read in
    let taken = read_taken part (λ last. behind.ended (ap Ok (eqb-true _ _ last)) room) more in
    let ends = eq-eqb _ _ c.if-last.true in
    runs taken refl (ends, sym c.if-state_over.ensures, (part.takes.settled refl).silent ends)

pub returns-after-loop : goal.returns-after-loop
returns-after-loop g c = runs c.loop.invariant.read refl refl
