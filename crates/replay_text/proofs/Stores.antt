-- Texts stored one behind the other, and digits stored from the last one back.
use Prim.Native.Nat.{ℕ, zero, suc, ◌+◌, ◌-◌, ◌/◌, ◌%◌, ◌≤◌, ◌<◌}
use mathlib.Core.Path.{◌≡◌, refl, ap, sym, ◌∙◌}
use mathlib.Core.List.{List, [], ◌∷◌, ◌++◌}
use native.Mathlib.Omega.{arith}
use native.Mathlib.Numerals.{sub-one}
use native.Mathlib.Nat.{not-suc-le-zero}
use lib.ListN.{length, take, drop, set, length-append}
use lib.Seq.{sets, sets-eq, length-sets, length-take-le, set_comm, take_at}
use Rattle.replay_text.specs.Digits.{digit_byte, digits}
use Rattle.replay_text.specs.Written.{Wrote}

sets_append : (first second bytes : List ℕ) (at : ℕ) → sets (sets bytes at first) (at + length first) second ≡ sets bytes at (first ++ second)
sets_append [] second bytes at = ap (λ (n : ℕ). sets bytes n second) (let same : at + 0 ≡ at = omega arith in same)
sets_append (byte ∷ first) second bytes at =
    ap (λ (n : ℕ). sets (sets (set bytes at byte) (suc at) first) n second) (let same : at + suc (length first) ≡ suc at + length first = omega arith in same)
    ∙ sets_append first second (set bytes at byte) (suc at)

-- a byte behind the text may as well be stored first
sets_before : (text bytes : List ℕ) (at place byte : ℕ) → at + length text ≤ place → set (sets bytes at text) place byte ≡ sets (set bytes place byte) at text
sets_before [] bytes at place byte behind = refl
sets_before (first ∷ text) bytes at place byte behind =
    sets_before text (set bytes at first) (suc at) place byte (omega arith)
    ∙ ap (λ (x : List ℕ). sets x (suc at) text) (set_comm bytes at place first byte (λ same. omega arith))

pub digits_length : (base width number : ℕ) → length (digits base width number) ≡ width
unfolding digits
digits_length base zero number = refl
digits_length base (suc width) number = length-append (digits base width (number / base)) _ ∙ simp (digits_length base width) (omega arith)

-- the last digit is stored, and the others are still to be
pub digits_turn : (left at base number : ℕ) (bytes : List ℕ) → 0 < left
    → sets bytes at (digits base left number)
    ≡ sets (set bytes (at + (left - 1)) (digit_byte (number % base))) at (digits base (left - 1) (number / base))
unfolding digits
digits_turn zero at base number bytes some = absurd (not-suc-le-zero some)
digits_turn (suc left) at base number bytes some =
    let others = digits base left (number / base) in
    let last = digit_byte (number % base) in
    let count : length others ≡ left = digits_length base left (number / base) in
    rw (sub-one (suc left))
    (sym (sets_append others (last ∷ []) bytes at)
    ∙ ap (λ (n : ℕ). set (sets bytes at others) (at + n) last) count
    ∙ sets_before others bytes at (at + left) last (omega (arith, count)))

pub digits_done : (left at base number : ℕ) (bytes : List ℕ) → left ≤ 0 → sets bytes at (digits base left number) ≡ bytes
unfolding digits
digits_done zero at base number bytes none = refl
digits_done (suc left) at base number bytes none = absurd (not-suc-le-zero none)

pub wrote_nothing : (bytes : List ℕ) (at : ℕ) → Wrote bytes bytes at at []
wrote_nothing bytes at = record { place = omega arith; bytes = refl }

pub wrote_both : {start middle end : List ℕ} {at between r : ℕ} {first second : List ℕ}
    → Wrote start middle at between first → Wrote middle end between r second → Wrote start end at r (first ++ second)
wrote_both {start} {at = at} {between} {first = first} {second = second} a b = record {
  place = omega (arith, length-append first second, a.place, b.place);
  bytes =
      b.bytes ∙ ap (λ (x : List ℕ). sets x between second) a.bytes ∙ ap (λ (n : ℕ). sets (sets start at first) n second) a.place
      ∙ sets_append first second start at;
}

-- what was stored, where it fits: the bytes up to the place behind it
pub wrote_front : {before after : List ℕ} {at r : ℕ} {text : List ℕ} → Wrote before after at r text → at + length text ≤ length before
    → take r after ≡ take at before ++ text
wrote_front {before} {after} {at} {r} {text} wrote fits =
    let front = take at before ++ text in
    let rest = drop (at + length text) before in
    let whole : after ≡ front ++ rest = wrote.bytes ∙ sets-eq text before at fits in
    let count : length front ≡ r = length-append (take at before) text ∙ omega (arith, length-take-le at before (omega arith), wrote.place) in
    ap (take r) whole ∙ take_at front rest r count

pub wrote_length : {before after : List ℕ} {at r : ℕ} {text : List ℕ} → Wrote before after at r text → length after ≡ length before
wrote_length {before} {at = at} {text = text} wrote = ap length wrote.bytes ∙ length-sets before at text
