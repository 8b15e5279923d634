use Rattle.std.proofs.Common.{ℕ, List, ◌++◌, sym, ap, ◌∙◌}
use borrow.Author.Tests.{eqb-true, eqb-false}
use Rattle.replay_lines.specs.Grammar.{read_line}
use Rattle.program_state.specs.Take.{program}
use Rattle.program_state.specs.declared.state.State.{State}
use Rattle.replay_parts.proofs.AnySplit.{end_inside, end_empty, end_piece, end_part}
use Rattle.replay_stream.proofs.ending.take_end.Goals as goal
use Rattle.replay_stream.proofs.ending.take_end.Goals.{then-inside-via-then-inside, then-inside-via-else-inside+then-is_empty}

pub returns-then-inside : goal.returns-then-inside
returns-then-inside c =
    let none = c.requires.1 in
    let end = c.close-end.ensures in
    rw c.progressed.ensures
    (elim c.then-inside.branch [
      | then-inside-via-then-inside w ↦
          rw w.if-inside.true (end_part none (end_inside program c.args.state c.args.input.now none ∙ sym end.front) end.within end.silent)
      | then-inside-via-else-inside+then-is_empty w ↦
          let empty = eqb-true _ _ (sym w.is_empty.ensures ∙ w.if-is_empty.true) in
          rw w.if-inside.false (end_part none (end_empty program c.args.state c.args.input.now none empty ∙ sym end.front) end.within end.silent)
    ])

pub returns : goal.returns
returns c =
    let input = c.args.input.now in
    let none = c.requires.1 in
    let turned = c.take_line-turn.ensures in
    let end = c.close-end-2.ensures in
    let printed = program.prints c.args.state (read_line input) in
    rw (c.progressed-2.ensures, c.if-inside.false)
    (end_part none
    (end_piece program c.args.state input none (eqb-false _ _ (sym c.is_empty.ensures ∙ c.if-is_empty.false))
    ∙ ap (λ (x : State). printed ++ program.closing x) (sym turned.moved)
    ∙ ap (λ (x : List ℕ). x ++ program.closing c.take_line-turn.result.state) (sym turned.front)
    ∙ sym end.front)
    end.within end.silent)
