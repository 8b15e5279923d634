-- The run is that of its schedule, so what is claimed of schedules holds of it.
use Rattle.lock_schedule.proofs.Runs.{run_same, run_claimed, run_steps}
use Rattle.lock_schedule.proofs.running.run.Goals as goal

pub returns-clause-claimed : goal.returns-clause-claimed
returns-clause-claimed c = run_claimed _ _ (run_same _ _ c.fresh.ensures c.run_made.ensures)

pub returns-clause-steps : goal.returns-clause-steps
returns-clause-steps c = run_steps _ _ (run_same _ _ c.fresh.ensures c.run_made.ensures)
