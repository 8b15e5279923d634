-- Every line fits the room for one, and none is empty; every row fits too.
use Prim.Native.Nat.{ℕ, zero, suc, ◌-◌, ◌*◌, ◌≤◌, ◌<◌}
use mathlib.Core.Path.{◌≡◌, ap}
use mathlib.Core.Bool.{Bool, true, false}
use mathlib.Core.List.{[], ◌∷◌}
use native.Mathlib.Omega.{arith}
use native.Mathlib.Nat.{mod-eq_of_lt}
use lib.Dec.{ltb}
use lib.ListN.{length, length-append}
use borrow.Author.Tests.{lt-ltb}
use Rattle.laws.specs.Choice.{pick}
use Rattle.replay_text.specs.Bytes.{newline, space}
use Rattle.replay_text.specs.Digits.{digit_byte, digits, places_from, places_of, decimal, decimal_limit}
use Rattle.replay_text.specs.Text.{field_text, hexadecimal_text, number_line, tick_line, answer_line, answer_text, field_limit, line_room, word_digits, set_digits}
use Rattle.replay_text.specs.Row.{figures_sum, figure_fields, share_fields, remainder_fields, five_limit, five_text, row_text, row_room}
use Rattle.replay_text.specs.declared.answer.Answer.{Answer}
use Rattle.replay_text.specs.declared.answer.Answer.TheVariants.{Silent, Alone, Ticked, Accepted}
use Rattle.replay_text.specs.declared.row.{Figures.Figures, FiveFields.FiveFields}
use Rattle.replay_text.proofs.Stores.{digits_length}

pick_most : (test : Bool) (a b n : ℕ) → a ≤ n → b ≤ n → pick test a b ≤ n
pick_most true a b n first second = first
pick_most false a b n first second = second

-- no bound that is left, no digit more
pub places_most : (bounds bound number : ℕ) → places_from bounds bound number ≤ suc bounds
unfolding places_from
places_most zero bound number = omega arith
places_most (suc bounds) bound number =
    pick_most (ltb number bound) 1 _ (suc (suc bounds)) (omega arith) (omega (arith, places_most bounds (bound * 10) number))

pub places_fit : (number : ℕ) → places_of number ≤ decimal_limit
unfolding places_of
places_fit number = places_most (decimal_limit - 1) 10 number

-- a number of one digit
pub one_digit : (number : ℕ) → number < 10 → decimal number ≡ digit_byte number ∷ []
unfolding decimal digits places_of places_from
one_digit number small = rw (lt-ltb number 10 small) (ap (λ (n : ℕ). digit_byte n ∷ []) (mod-eq_of_lt small))

pub decimal_fits : (number : ℕ) → length (decimal number) ≤ decimal_limit
unfolding decimal
decimal_fits number = rw (digits_length 10 (places_of number) number) (places_fit number)

pub field_fits : (number end : ℕ) → length (field_text number end) ≤ field_limit
unfolding field_text
field_fits number end = omega (arith, length-append (decimal number) (end ∷ []), decimal_fits number)

pub hexadecimal_length : (width number end : ℕ) → length (hexadecimal_text width number end) ≡ suc width
unfolding hexadecimal_text
hexadecimal_length width number end = omega (arith, length-append (digits 16 width number) (end ∷ []), digits_length 16 width number)

field_some : (number end : ℕ) → 0 < length (field_text number end)
unfolding field_text
field_some number end = omega (arith, length-append (decimal number) (end ∷ []))

pub number_line_fits : (number : ℕ) → length (number_line number) ≤ line_room
number_line_fits number = omega (arith, field_fits number newline)

pub tick_line_fits : (returned unparked : ℕ) → length (tick_line returned unparked) ≤ line_room
unfolding tick_line
tick_line_fits returned unparked = simp (length-append) (omega (arith, field_fits returned space, hexadecimal_length set_digits unparked newline))

pub answer_line_fits : (returned phase woken word unparked : ℕ) → length (answer_line returned phase woken word unparked) ≤ line_room
unfolding answer_line
answer_line_fits returned phase woken word unparked =
    simp (length-append)
    (omega (arith, field_fits returned space, field_fits phase space, field_fits woken space, hexadecimal_length word_digits word space, hexadecimal_length set_digits unparked newline))

pub answer_fits : (answer : Answer) → length (answer_text answer) ≤ line_room
unfolding answer_text
answer_fits Silent = omega arith
answer_fits (Alone number) = number_line_fits number
answer_fits (Ticked returned unparked) = tick_line_fits returned unparked
answer_fits (Accepted returned phase woken word unparked) = answer_line_fits returned phase woken word unparked

five_fits : (five : FiveFields) (end : ℕ) → length (five_text five end) ≤ five_limit
unfolding five_text
five_fits five end =
    simp (length-append)
    (omega (
      arith,
      field_fits five.anonymous space,
      field_fits five.reserved space,
      field_fits five.free space,
      field_fits five.nested space,
      field_fits five.monitor end,
    ))

pub row_fits : (number : ℕ) (figures : Figures) → length (row_text number figures) ≤ row_room
unfolding row_text
row_fits number figures =
    let sum = figures_sum figures in
    simp (length-append)
    (omega (
      arith,
      field_fits number space,
      five_fits (figure_fields figures) space,
      five_fits (share_fields figures sum) space,
      five_fits (remainder_fields figures sum) newline,
    ))
