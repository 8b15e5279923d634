-- Every case of document 01 that is about words holds.
use mathlib.Core.Path.{refl}
use Rattle.lock_word.specs.Read.{read_word, read_flat, read_reserved, fat_of}
use Rattle.lock_word.specs.Meaning.{seen_word, owned_by, rewritten_of, cancel_of, cancel_read}
use Rattle.lock_word.specs.Cases.{AllHold, word_cases}

pub word_cases_hold : AllHold word_cases
unfolding read_word read_flat read_reserved fat_of seen_word owned_by rewritten_of cancel_of cancel_read
word_cases_hold = ((refl, λ holder deep. refl), ((refl, λ holder deep. refl), (refl, (refl, (refl, (refl, tt))))))
