use Rattle.std.proofs.Common.{refl, sym, arith}
use Rattle.replay_program.proofs.Written.{written_of}
use Rattle.replay_program.proofs.Draining.{draining_first, draining_next, draining_on, drained_failed, drained_settled, untouched}
use Rattle.replay_program.proofs.running.drain.Goals as goal

pub loop-rest-init : goal.loop-rest-init
loop-rest-init g c = record { same_length = refl; draining = draining_first _ _ _ _ }

pub loop-rest-preserved : goal.loop-rest-preserved
loop-rest-preserved g c =
    let wrote = written_of c.write_out-written.ensures.moved c.write_out-written.ensures.wrote in
    record {
      same_length = omega (arith, c.loop-rest.auto.out, c.feed-progress.auto.out);
      draining = draining_on (draining_next c.loop-rest.invariant.draining c.feed-progress.ensures wrote) (sym c.if-is_err.ensures.value);
    }

pub returns-then-is_err : goal.returns-then-is_err
returns-then-is_err g c =
    let wrote = written_of c.write_out-written.ensures.moved c.write_out-written.ensures.wrote in
    drained_failed (draining_next c.loop-rest.invariant.draining c.feed-progress.ensures wrote) (sym c.if-is_err.ensures.value)

pub returns-then-used-eq0 : goal.returns-then-used-eq0
returns-then-used-eq0 g c =
    let wrote = written_of c.write_out-written.ensures.moved c.write_out-written.ensures.wrote in
    drained_settled (draining_next c.loop-rest.invariant.draining c.feed-progress.ensures wrote) (sym c.if-is_err.ensures.value)
    (untouched c.feed-progress.ensures (omega (arith, c.requires, c.loop-rest.auto.out, c.feed-progress.auto.out)) c.if-used-eq0.true)
