use Rattle.std.proofs.Common.{ℕ, ◌+◌, ◌≡◌, sym, ap, ◌∙◌, arith, get_or, drop, length}
use Rattle.replay_lines.specs.Number.{appended, read_digits}
use Rattle.replay_lines.proofs.Fields.{digits_end, digits_stop, digits_over, digits_more, tested}
use Rattle.replay_lines.proofs.number.read_digits.Goals as goal

pub returns-then-not-is_ascii_digit : goal.returns-then-not-is_ascii_digit
returns-then-not-is_ascii_digit c =
    let loop = c.loop-index in
    sym (digits_stop loop.value (loop.index + 1) loop.index c.args.text.now c.loop-index-test.true (tested _ (sym c.if-not-is_ascii_digit.ensures.value)))
    ∙ loop.invariant

pub returns-in_err-checked_mul : goal.returns-in_err-checked_mul
returns-in_err-checked_mul c =
    let loop = c.loop-index in
    c.from_residual.ensures
    ∙ sym (digits_over loop.value (loop.index + 1) loop.index c.args.text.now c.loop-index-test.true (tested _ (sym c.if-not-is_ascii_digit.ensures.value))
    (omega (arith, c.in_err-checked_mul.ensures)))
    ∙ loop.invariant

pub returns-in_err-value : goal.returns-in_err-value
returns-in_err-value c =
    let loop = c.loop-index in
    c.from_residual-in_err-value.ensures
    ∙ sym (digits_over loop.value (loop.index + 1) loop.index c.args.text.now c.loop-index-test.true (tested _ (sym c.if-not-is_ascii_digit.ensures.value))
    (omega (arith, c.in_err-value.ensures, c.from.ensures, c.in_ok-checked_mul.ensures.1)))
    ∙ loop.invariant

pub loop-index-preserved : goal.loop-index-preserved
loop-index-preserved c =
    let loop = c.loop-index in
    let byte = get_or c.args.text.now loop.index 0 in
    let next : c.in_ok-value.value ≡ appended loop.value byte = omega (arith, c.in_ok-value.ensures.1, c.from.ensures, c.in_ok-checked_mul.ensures.1) in
    ap (λ (n : ℕ). read_digits n (loop.index + 1 + 1) (drop (loop.index + 1) c.args.text.now)) next
    ∙ sym (digits_more loop.value (loop.index + 1) loop.index c.args.text.now c.loop-index-test.true (tested _ (sym c.if-not-is_ascii_digit.ensures.value))
    (omega (arith, c.in_ok-value.ensures.0, next, c.in_ok-value.ensures.1)))
    ∙ loop.invariant

pub returns : goal.returns
returns c =
    let loop = c.loop-index in
    let all : loop.index ≡ length c.args.text.now = omega (arith, loop.auto.index-end, c.loop-index-test.false) in
    rw (← all) (sym (digits_end loop.value (loop.index + 1) loop.index c.args.text.now c.loop-index-test.false) ∙ loop.invariant)
