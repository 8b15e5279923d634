-- The reader takes the lines that document 01 and request L1 write, and no others.
use Prim.Native.Nat.{ℕ, zero, suc, ◌≤◌}
use mathlib.Core.Path.{◌≡◌, refl, sym, ap, ◌∙◌, subst}
use mathlib.Core.Logic.{◌⊎◌, inl, inr}
use mathlib.Core.Bool.{Bool, true, false}
use mathlib.Core.List.{List, [], ◌∷◌, ◌++◌}
use native.Mathlib.Omega.{arith}
use native.Mathlib.Numerals.{add-one}
use Rattle.std.specs.Prelude.{Option, Some, None, unwrap_or, option_and_then}
use lib.Dec.{eqb, ltb}
use lib.ListN.{length, drop}
use lib.Seq.{drop-append_seam}
use borrow.Author.Tests.{eqb-true, ltb-false}
use Rattle.laws.specs.{Choice.pick, Count.one_if}
use Rattle.laws.proofs.Choice.{split, by_test}
use Rattle.replay_text.specs.Digits.{decimal}
use Rattle.replay_text.specs.Bytes.{newline, space}
use Rattle.replay_lines.specs.Bytes.{letter_C, letter_L, letter_S, letter_V}
use Rattle.replay_lines.specs.Number.{number_limit, is_digit, read_number, one_byte_more, read_field}
use Rattle.replay_lines.specs.Grammar.{number_then, field_then, end_line, read_step, timed_wait, read_begin_limit, read_begin_object, read_begin}
use Rattle.replay_lines.specs.Grammar.{read_header_reserved, read_header_objects, read_header, operation_of, read_event, read_line}
use Rattle.replay_lines.specs.LineText.{spaced, line_break, Letter, Writes}
use Rattle.replay_lines.specs.declared.number.Number.{Number}
use Rattle.replay_lines.specs.declared.reading.Line.{Line}
use Rattle.replay_lines.specs.declared.reading.Line.TheVariants.{Header, Begin, Step, Tick, BadHeader, Malformed}
use Rattle.replay_lines.proofs.Decimal.{NoDigit, number_read, Starts, number_starts}

-- a field that is written is read, up to what stands behind it
field_read : (number : ℕ) (rest : List ℕ) (next : ℕ → List ℕ → Option Line) → number ≤ number_limit → NoDigit rest
    → field_then (spaced number rest) next ≡ next number rest
unfolding read_field
field_read number rest next fits none =
    rw (number_read number rest fits none) (rw (add-one (length (decimal number))) (ap (next number) (drop-append_seam (decimal number) rest)))

no_digit_space : (rest : List ℕ) → NoDigit (space ∷ rest)
unfolding is_digit
no_digit_space rest = refl

no_digit_break : NoDigit line_break
unfolding is_digit
no_digit_break = refl

end_read : (line : Line) → end_line line_break line ≡ Some line
unfolding end_line
end_read line = refl

step_read : (thread : ℕ) → thread ≤ number_limit → read_step (spaced thread line_break) ≡ Some (Step thread)
unfolding read_step
step_read thread fits = field_read thread line_break _ fits no_digit_break ∙ end_read (Step thread)

-- thread and object of any operation, up to what stands behind them
begin_read : (operation thread object : ℕ) (rest : List ℕ) → thread ≤ number_limit → object ≤ number_limit → NoDigit rest
    → read_begin operation (spaced thread (spaced object rest)) ≡ read_begin_limit operation thread object rest
unfolding read_begin read_begin_object
begin_read operation thread object rest fits fits' none =
    field_read thread (spaced object rest) (read_begin_object operation) fits (no_digit_space (decimal object ++ rest))
    ∙ field_read object rest (read_begin_limit operation thread) fits' none

plain_read : (operation thread object : ℕ) → eqb operation timed_wait ≡ false → thread ≤ number_limit → object ≤ number_limit
    → read_begin operation (spaced thread (spaced object line_break)) ≡ Some (Begin operation thread object 0)
unfolding read_begin_limit
plain_read operation thread object plain fits fits' =
    begin_read operation thread object line_break fits fits' no_digit_break ∙ rw plain (end_read (Begin operation thread object 0))

timed_read : (thread object limit : ℕ) → thread ≤ number_limit → object ≤ number_limit → limit ≤ number_limit
    → read_begin timed_wait (spaced thread (spaced object (spaced limit line_break))) ≡ Some (Begin timed_wait thread object limit)
unfolding read_begin_limit
timed_read thread object limit fits fits' fits'' =
    begin_read timed_wait thread object (spaced limit line_break) fits fits' (no_digit_space (decimal limit ++ line_break))
    ∙ field_read limit line_break _ fits'' no_digit_break ∙ end_read (Begin timed_wait thread object limit)

header_reserved_read : (threads objects : ℕ) (reserved : Bool)
    → read_header_reserved threads objects (spaced (one_if reserved) line_break) ≡ Some (Header threads objects reserved)
unfolding read_header_reserved
header_reserved_read threads objects true = field_read 1 line_break _ (omega arith) no_digit_break ∙ end_read (Header threads objects true)
header_reserved_read threads objects false = field_read 0 line_break _ (omega arith) no_digit_break ∙ end_read (Header threads objects false)

header_read : (threads objects : ℕ) (reserved : Bool) → threads ≤ number_limit → objects ≤ number_limit
    → read_header (spaced threads (spaced objects (spaced (one_if reserved) line_break))) ≡ Some (Header threads objects reserved)
unfolding read_header read_header_objects
header_read threads objects reserved fits fits' =
    let last = spaced (one_if reserved) line_break in
    field_read threads (spaced objects last) read_header_objects fits (no_digit_space (decimal objects ++ last))
    ∙ field_read objects last (read_header_reserved threads) fits' (no_digit_space (decimal (one_if reserved) ++ line_break))
    ∙ header_reserved_read threads objects reserved

or_malformed : {read : Option Line} {line : Line} → read ≡ Some line → unwrap_or read Malformed ≡ line
or_malformed same = ap (λ read. unwrap_or read Malformed) same

-- EACH LINE OF DOCUMENT 01 AND REQUEST L1 IS READ
pub written_read : {line : Line} {text : List ℕ} → Writes line text → read_line text ≡ line
unfolding read_line operation_of
written_read (Writes.header {threads} {objects} {reserved} fits fits') = ap (λ (header : Option Line). unwrap_or header BadHeader) (header_read threads objects reserved fits fits')
written_read (Writes.begin {thread = thread} {object} Letter.enter fits fits') = or_malformed (plain_read 1 thread object refl fits fits')
written_read (Writes.begin {thread = thread} {object} Letter.exit fits fits') = or_malformed (plain_read 2 thread object refl fits fits')
written_read (Writes.begin {thread = thread} {object} Letter.wait fits fits') = or_malformed (plain_read 3 thread object refl fits fits')
written_read (Writes.begin {thread = thread} {object} Letter.notify fits fits') = or_malformed (plain_read 4 thread object refl fits fits')
written_read (Writes.begin {thread = thread} {object} Letter.notify_all fits fits') = or_malformed (plain_read 5 thread object refl fits fits')
written_read (Writes.timed_wait {thread} {object} {limit} fits fits' fits'') = or_malformed (timed_read thread object limit fits fits' fits'')
written_read (Writes.step {thread} fits) = or_malformed (step_read thread fits)
written_read Writes.tick = or_malformed (end_read Tick)

-- what is read of a field is written there: what holds where there is no line and behind each written field holds behind the field
number_form : (number : Option Number) (byte : ℕ) (text : List ℕ) (next : ℕ → List ℕ → Option Line) (P : Option Line → Type 0) → byte ≡ space
    → Starts text number → P None → ((value : ℕ) (rest : List ℕ) → value ≤ number_limit → byte ∷ text ≡ spaced value rest → P (next value rest))
    → P (number_then (one_byte_more number) (byte ∷ text) next)
number_form (Some number) byte text next P gap (fits, same) none some =
    subst (λ (n : ℕ). P (next number.value (drop n (byte ∷ text)))) (sym (add-one number.length))
    (some number.value (drop number.length text) fits (ap (λ (x : ℕ). x ∷ text) gap ∙ ap (λ (x : List ℕ). space ∷ x) same))
number_form None byte text next P gap starts none some = none

field_form : (text : List ℕ) (next : ℕ → List ℕ → Option Line) (P : Option Line → Type 0) → P None
    → ((value : ℕ) (rest : List ℕ) → value ≤ number_limit → text ≡ spaced value rest → P (next value rest)) → P (field_then text next)
unfolding read_field
field_form [] next P none some = none
field_form (byte ∷ text) next P none some =
    by_test (λ x. P (number_then x (byte ∷ text) next)) (eqb byte space)
    (λ gap. number_form (read_number text) byte text next P (eqb-true byte space gap) (number_starts text) none some)
    (λ other. none)

end_form : (text : List ℕ) (line : Line) (P : Option Line → Type 0) → P None → (text ≡ line_break → P (Some line)) → P (end_line text line)
unfolding end_line
end_form [] line P none some = none
end_form (byte ∷ []) line P none some = by_test P (eqb byte newline) (λ last. some (ap (λ (x : ℕ). x ∷ []) (eqb-true byte newline last))) (λ other. none)
end_form (byte ∷ more ∷ text) line P none some = none

-- no line of a form, or written like this; and the same of a reader
abbrev pub Says : Line → List ℕ → Line → Type 0
Says none text line = (line ≡ none) ⊎ Writes line text

abbrev Form : List ℕ → Option Line → Type 0
Form text (Some line) = Writes line text
Form text None = Unit

-- the letters that begin an operation: those with no limit, and that of the timed wait
data Opens : ℕ → ℕ → Type 0 where
  plain : {operation letter : ℕ} → Letter operation letter → Opens operation letter
  timed : Opens timed_wait letter_V

no_limit : {operation letter : ℕ} → Letter operation letter → eqb operation timed_wait ≡ false
no_limit Letter.enter = refl
no_limit Letter.exit = refl
no_limit Letter.wait = refl
no_limit Letter.notify = refl
no_limit Letter.notify_all = refl

limit_form : {operation letter : ℕ} (text : List ℕ) (thread object : ℕ) (rest : List ℕ) → Opens operation letter → thread ≤ number_limit
    → object ≤ number_limit → text ≡ spaced thread (spaced object rest) → Form (letter ∷ text) (read_begin_limit operation thread object rest)
unfolding read_begin_limit
limit_form {operation} {letter} text thread object rest (Opens.plain named) fits fits' same =
    rw (no_limit named)
    (end_form rest (Begin operation thread object 0) (Form (letter ∷ text)) tt (λ last.
    let whole = same ∙ ap (λ (x : List ℕ). spaced thread (spaced object x)) last in
    subst (λ (x : List ℕ). Writes (Begin operation thread object 0) (letter ∷ x)) (sym whole) (Writes.begin named fits fits')))
limit_form text thread object rest Opens.timed fits fits' same =
    field_form rest _ (Form (letter_V ∷ text)) tt (λ limit end fits'' third.
    end_form end (Begin timed_wait thread object limit) (Form (letter_V ∷ text)) tt (λ last.
    let whole = same ∙ ap (λ (x : List ℕ). spaced thread (spaced object x)) (third ∙ ap (spaced limit) last) in
    subst (λ (x : List ℕ). Writes (Begin timed_wait thread object limit) (letter_V ∷ x)) (sym whole) (Writes.timed_wait fits fits' fits'')))

-- an operation's number, if the letter has one
abbrev Named : ℕ → Option ℕ → Type 0
Named letter (Some operation) = Opens operation letter
Named letter None = Unit

module _ (letter : ℕ) (text : List ℕ) where
  tick_form : letter ≡ letter_C → Form (letter ∷ text) (end_line text Tick)
  tick_form same =
      end_form text Tick (Form (letter ∷ text)) tt (λ last.
      let whole : letter ∷ text ≡ letter_C ∷ line_break = ap (λ (x : ℕ). x ∷ text) same ∙ ap (λ (x : List ℕ). letter_C ∷ x) last in
      subst (λ (x : List ℕ). Writes Tick x) (sym whole) Writes.tick)

  step_form : letter ≡ letter_S → Form (letter ∷ text) (read_step text)
  unfolding read_step
  step_form same =
      field_form text _ (Form (letter ∷ text)) tt (λ thread rest fits first.
      end_form rest (Step thread) (Form (letter ∷ text)) tt (λ last.
      let whole : letter ∷ text ≡ letter_S ∷ spaced thread line_break =
      ap (λ (x : ℕ). x ∷ text) same ∙ ap (λ (x : List ℕ). letter_S ∷ x) (first ∙ ap (spaced thread) last) in
      subst (λ (x : List ℕ). Writes (Step thread) x) (sym whole) (Writes.step fits)))

  begin_form : (operation : Option ℕ) → Named letter operation → Form (letter ∷ text) (option_and_then (λ number. read_begin number text) operation)
  unfolding read_begin read_begin_object
  begin_form None none = tt
  begin_form (Some operation) opens =
      field_form text _ (Form (letter ∷ text)) tt (λ thread rest fits first.
      field_form rest _ (Form (letter ∷ text)) tt (λ object end fits' second.
      limit_form text thread object end opens fits fits' (first ∙ ap (spaced thread) second)))

  -- a header that is not of its form is a bad one
  abbrev Headed : Option Line → Type 0
  Headed line = Says BadHeader (letter ∷ text) (unwrap_or line BadHeader)

  header_form : letter ≡ letter_L → Headed (read_header text)
  unfolding read_header read_header_objects read_header_reserved
  header_form same =
      field_form text _ Headed (inl refl) (λ threads rest fits first.
      field_form rest _ Headed (inl refl) (λ objects more fits' second.
      field_form more _ Headed (inl refl) (λ r end fits'' third.
      by_test Headed (ltb 1 r) (λ large. inl refl)
      (λ small. end_form end (Header threads objects (eqb r 1)) Headed (inl refl) (λ last.
      let bit : one_if (eqb r 1) ≡ r = one_bit r (ltb-false 1 r small) in
      let whole : letter ∷ text ≡ letter_L ∷ spaced threads (spaced objects (spaced (one_if (eqb r 1)) line_break)) =
      ap (λ (x : ℕ). x ∷ text) same
      ∙ ap (λ (x : List ℕ). letter_L ∷ x)
      (first ∙ ap (spaced threads) (second ∙ ap (spaced objects) (third ∙ ap (spaced r) last ∙ ap (λ (n : ℕ). spaced n line_break) (sym bit)))) in
      inr (subst (λ (x : List ℕ). Writes (Header threads objects (eqb r 1)) x) (sym whole) (Writes.header fits fits')))))))
    where
      one_bit : (r : ℕ) → r ≤ 1 → one_if (eqb r 1) ≡ r
      one_bit zero small = refl
      one_bit (suc zero) small = refl
      one_bit (suc (suc r)) small = absurd (omega arith)

letter_form : (letter : ℕ) → Named letter (operation_of letter)
unfolding operation_of
letter_form letter =
    named _ (Opens.plain Letter.enter)
    (named _ (Opens.plain Letter.exit)
    (named _ (Opens.plain Letter.wait) (named _ (Opens.plain Letter.notify) (named _ (Opens.plain Letter.notify_all) (named None Opens.timed tt)))))
  where
    named : {operation byte : ℕ} (other : Option ℕ) → Opens operation byte → Named letter other
        → Named letter (pick (eqb letter byte) (Some operation) other)
    named {operation} {byte} other is rest =
        by_test (Named letter) (eqb letter byte) (λ same. subst (λ (l : ℕ). Opens operation l) (sym (eqb-true letter byte same)) is) (λ away. rest)

event_form : (letter : ℕ) (text : List ℕ) → Form (letter ∷ text) (read_event letter text)
event_form letter text =
    by_test (Form (letter ∷ text)) (eqb letter letter_S) (λ same. step_form letter text (eqb-true letter letter_S same))
    (λ away. by_test (Form (letter ∷ text)) (eqb letter letter_C) (λ same. tick_form letter text (eqb-true letter letter_C same))
    (λ none. begin_form letter text (operation_of letter) (letter_form letter)))

said : (text : List ℕ) (read : Option Line) → Form text read → Says Malformed text (unwrap_or read Malformed)
said text (Some line) written = inr written
said text None none = inl refl

-- A LINE THAT IS READ IS ONE OF DOCUMENT 01 OR REQUEST L1; a bad header begins with L, and other malformed lines do not
pub read_written : (letter : ℕ) (text : List ℕ) → Says (pick (eqb letter letter_L) BadHeader Malformed) (letter ∷ text) (read_line (letter ∷ text))
unfolding read_line
read_written letter text =
    split (eqb letter letter_L)
    (λ same. rw same (rw (eqb-true letter letter_L same) (header_form letter_L text refl)))
    (λ other. rw other (said (letter ∷ text) (read_event letter text) (event_form letter text)))
