use Rattle.replay_program.proofs.EndedRuns.{runs_write}
use Rattle.replay_program.proofs.run_program.Goals as goal

pub returns-clause-printed : goal.returns-clause-printed
returns-clause-printed g c = runs_write c.run-ran.result.ending c.run-ran.ensures
