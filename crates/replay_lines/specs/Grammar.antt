-- The lines of a schedule (document 01, "The replay program"): `L threads objects r`, then `E`, `X`, `W`, `N` or `A` with thread and
-- object, or `S` with thread; and request L1's `V` with thread, object and limit, and `C`. A line is given with its newline, so that a
-- last piece without one is malformed, or behind `L` a bad header (L4).
use Rattle.std.specs.Prelude.{ℕ, Bool, true, false, List, [], ◌∷◌, drop, ltb, eqb, Option, Some, None, unwrap_or, option_and_then}
use Rattle.laws.specs.Choice.{pick}
use Rattle.replay_text.specs.Bytes.{newline}
use Rattle.replay_lines.specs.Bytes.{letter_A, letter_C, letter_E, letter_L, letter_N, letter_S, letter_V, letter_W, letter_X}
use Rattle.replay_lines.specs.Number.{read_field}
use Rattle.replay_lines.specs.declared.number.Number.{Number}
use Rattle.replay_lines.specs.declared.reading.Line.{Line}
use Rattle.replay_lines.specs.declared.reading.Line.TheVariants.{Header, Begin, Step, Tick, BadHeader, Malformed}

abbrev pub number_then : Option Number → List ℕ → (ℕ → List ℕ → Option Line) → Option Line
number_then (Some number) text next = next number.value (drop number.length text)
number_then None text next = None

-- a space and a number, then what follows, of the number and the text behind it
abbrev pub field_then : List ℕ → (ℕ → List ℕ → Option Line) → Option Line
field_then text next = number_then (read_field text) text next

-- the newline and nothing else
unfoldable pub end_line : List ℕ → Line → Option Line
end_line [] line = None
end_line (byte ∷ []) line = pick (eqb byte newline) (Some line) None
end_line (byte ∷ more ∷ text) line = None

-- behind S
unfoldable pub read_step : List ℕ → Option Line
read_step text = field_then text (λ thread rest. end_line rest (Step thread))

-- the number of the one operation that has a limit
abbrev pub timed_wait : ℕ
timed_wait = 6

-- behind the object, behind the thread, and behind the letter of an operation: only a timed wait has a limit
unfoldable pub read_begin_limit : ℕ → ℕ → ℕ → List ℕ → Option Line
read_begin_limit operation thread object text =
    pick (eqb operation timed_wait) (field_then text (λ limit rest. end_line rest (Begin operation thread object limit)))
    (end_line text (Begin operation thread object 0))

unfoldable pub read_begin_object : ℕ → ℕ → List ℕ → Option Line
read_begin_object operation thread text = field_then text (read_begin_limit operation thread)

unfoldable pub read_begin : ℕ → List ℕ → Option Line
read_begin operation text = field_then text (read_begin_object operation)

-- behind L, behind the threads, and behind the objects: r is 1 for reserved words, 0 for free ones
unfoldable pub read_header_reserved : ℕ → ℕ → List ℕ → Option Line
read_header_reserved threads objects text =
    field_then text (λ r rest. pick (ltb 1 r) None (end_line rest (Header threads objects (eqb r 1))))

unfoldable pub read_header_objects : ℕ → List ℕ → Option Line
read_header_objects threads text = field_then text (read_header_reserved threads)

unfoldable pub read_header : List ℕ → Option Line
read_header text = field_then text read_header_objects

-- whether a line begins with L (the law `header_begins`)
unfoldable pub is_header : Line → Bool
is_header (Header threads objects reserved) = true
is_header (Begin operation thread object limit) = false
is_header (Step thread) = false
is_header Tick = false
is_header BadHeader = true
is_header Malformed = false

-- the number of the operation with this letter, by document 01 and request L1
unfoldable pub operation_of : ℕ → Option ℕ
operation_of letter =
    pick (eqb letter letter_E) (Some 1)
    (pick (eqb letter letter_X) (Some 2)
    (pick (eqb letter letter_W) (Some 3)
    (pick (eqb letter letter_N) (Some 4) (pick (eqb letter letter_A) (Some 5) (pick (eqb letter letter_V) (Some timed_wait) None)))))

-- a line that begins with another letter
abbrev pub read_event : ℕ → List ℕ → Option Line
read_event letter text =
    pick (eqb letter letter_S) (read_step text)
    (pick (eqb letter letter_C) (end_line text Tick) (option_and_then (λ operation. read_begin operation text) (operation_of letter)))

unfoldable pub read_line : List ℕ → Line
read_line [] = Malformed
read_line (letter ∷ text) = pick (eqb letter letter_L) (unwrap_or (read_header text) BadHeader) (unwrap_or (read_event letter text) Malformed)
