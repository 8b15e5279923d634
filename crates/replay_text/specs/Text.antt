-- The lines that the replay program prints (document 01, "The replay program"), each with its newline; the report's 24 is a number alone, too.
use Rattle.std.specs.Prelude.{ℕ, List, [], ◌∷◌, ◌++◌}
use Rattle.replay_text.specs.Bytes.{newline, space}
use Rattle.replay_text.specs.Digits.{digits, decimal}
use Rattle.replay_text.specs.declared.answer.Answer.{Answer}
use Rattle.replay_text.specs.declared.answer.Answer.TheVariants.{Silent, Alone, Ticked, Accepted}

-- a number in decimal and the byte behind it
unfoldable pub field_text : ℕ → ℕ → List ℕ
field_text number end = decimal number ++ (end ∷ [])

-- a number in so many hexadecimal digits and the byte behind it
unfoldable pub hexadecimal_text : ℕ → ℕ → ℕ → List ℕ
hexadecimal_text width number end = digits 16 width number ++ (end ∷ [])

abbrev pub word_digits : ℕ
word_digits = 6

abbrev pub set_digits : ℕ
set_digits = 8

-- a word, and the space behind it
abbrev pub word_text : ℕ → List ℕ
word_text word = hexadecimal_text word_digits word space

-- a set of threads, bit n - 1 for thread n: the last field
abbrev pub set_text : ℕ → List ℕ
set_text set = hexadecimal_text set_digits set newline

-- "A refused event prints its number alone"
abbrev pub number_line : ℕ → List ℕ
number_line number = field_text number newline

-- "Else: returned, thread's phase, woken, word .. in six lower-case hexadecimal digits", and the set "as a fifth field of eight" (document 02, L3)
unfoldable pub answer_line : ℕ → ℕ → ℕ → ℕ → ℕ → List ℕ
answer_line returned phase woken word unparked =
    field_text returned space ++ (field_text phase space ++ (field_text woken space ++ (word_text word ++ set_text unparked)))

-- of an accepted tick: the number, and the set "as a second"
unfoldable pub tick_line : ℕ → ℕ → List ℕ
tick_line returned unparked = field_text returned space ++ set_text unparked

-- what is printed of one line of the input
unfoldable pub answer_text : Answer → List ℕ
answer_text Silent = []
answer_text (Alone number) = number_line number
answer_text (Ticked returned unparked) = tick_line returned unparked
answer_text (Accepted returned phase woken word unparked) = answer_line returned phase woken word unparked

-- a field of ten digits and the byte behind them
abbrev pub field_limit : ℕ
field_limit = 11

-- every line fits (the law `answer_fits`)
abbrev pub line_room : ℕ
line_room = 64
