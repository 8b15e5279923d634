use Rattle.std.proofs.Common.{sym, ◌∙◌, arith}
use Rattle.replay_lines.proofs.Fields.{number_within, found_within}
use Rattle.replay_lines.proofs.number.read_field.Goals as goal

pub overflow_add-result : goal.overflow_add-result
overflow_add-result c =
    let fits = found_within (sym c.in_ok-number.was ∙ c.read_number.ensures) (number_within c.in_ok-first.rest.now) in
    omega (arith, fits, c.in_ok-first.ensures.cases.1, c.well_formed)
