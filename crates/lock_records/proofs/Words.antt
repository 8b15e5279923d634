-- The word of an object: what soundness asks of its bits, and what a rule sees of them.
use Prim.Native.Nat.{ℕ}
use mathlib.Core.Path.{◌≡◌, refl, sym, ap, ◌∙◌}
use native.Mathlib.Omega.{arith}
use Rattle.lock_word.specs.Read.{read_word, read_flat}
use Rattle.lock_word.specs.{Write.InRange, Meaning.seen_word}
use Rattle.lock_word.specs.declared.reading.LockWord.TheVariants.{Free, Flat, Anonymous, Reserved, Fat}
use Rattle.std.specs.Prelude.{Option, Some, None}
use Rattle.lock_word.specs.declared.reading.LockWord.{LockWord}
use Rattle.lock_word.proofs.RoundTrip.{word_of_meaning, meaning_in_range}
use Rattle.lock_word.specs.declared.meaning.WordSeen.{WordSeen}
use Rattle.lock_word.specs.declared.meaning.WordSeen.TheVariants.{Free as SeenFree, Fat as SeenFat}
use Rattle.lock_rules.proofs.{Each.each_word, ListSound.WordFine}
use Rattle.lock_records.proofs.Written.{lock_word, word_written}
use Rattle.sound_records.proofs.Reading.{WordFits}

-- a fine word, written at object o, is as soundness asks
pub word_fits : (threads o : ℕ) (seen : WordSeen) → WordFine threads seen → WordFits threads o (Some (lock_word o seen))
word_fits threads o = each_word _ (search, search, search, λ owner c fine. fine.1, λ owner c fine. fine.1)

-- what a rule sees of bits that are a word; no sound table has others
unfoldable pub seen_in : Option LockWord → WordSeen
seen_in None = SeenFree
seen_in (Some word) = seen_word word

-- bits that are as soundness asks are the word that is seen in them, written, and that word is fine
pub word_back : (threads o bits : ℕ) → WordFits threads o (read_word bits)
    → (word_written o (seen_in (read_word bits)) ≡ bits) × WordFine threads (seen_in (read_word bits))
unfolding seen_in seen_word InRange
word_back threads o bits fits = at (read_word bits) refl fits
  where
    at : (decoded : Option LockWord) → read_word bits ≡ decoded → WordFits threads o decoded
        → (word_written o (seen_in decoded) ≡ bits) × WordFine threads (seen_in decoded)
    at None e no_word = absurd no_word
    at (Some Free) e fits = (word_of_meaning bits Free e, tt)
    at (Some (Flat thread count)) e fits =
        let ((low, high), small) = meaning_in_range bits (Flat thread count) e in
        (word_of_meaning bits (Flat thread count) e, (low, fits, omega (arith, small)))
    at (Some Anonymous) e fits = (word_of_meaning bits Anonymous e, tt)
    at (Some (Reserved thread count)) e fits =
        let ((low, high), small) = meaning_in_range bits (Reserved thread count) e in
        (word_of_meaning bits (Reserved thread count) e, (low, fits, omega (arith, small)))
    at (Some (Fat monitor)) e fits =
        (ap (λ (k : ℕ). word_written k SeenFat) (sym fits) ∙ word_of_meaning bits (Fat monitor) e, tt)

-- the word of the empty record is free
pub no_word_fine : (threads : ℕ) → WordFine threads (seen_in (read_word 0))
unfolding seen_in seen_word read_word read_flat
no_word_fine threads = tt
