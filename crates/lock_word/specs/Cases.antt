-- The cases of document 01, "Cases K1 to K9", that are about words, as rows of one table. A row is a statement and says which case it is;
-- a higher crate's rows, K5 and K7 to K9, join these in one list, whatever they are about.
use Rattle.std.specs.Prelude.{ℕ, ◌≡◌, List, [], ◌∷◌, Some, None}
use Rattle.lock_word.specs.Read.{read_word, thread_number}
use Rattle.lock_word.specs.Meaning.{seen_word, ownership_of, cancel_of}
use Rattle.lock_word.specs.declared.reading.LockWord.{LockWord}
use Rattle.lock_word.specs.declared.reading.LockWord.TheVariants.{Flat, Reserved}

pub record Case : Type 1 where
  pub number : ℕ
  pub states : Type 0

abbrev pub AllHold : List Case → Type 0
AllHold [] = Unit
AllHold (row ∷ rows) = row.states × AllHold rows

-- which cases the rows are about, row by row
abbrev pub case_numbers : List Case → List ℕ
case_numbers [] = []
case_numbers (row ∷ rows) = row.number ∷ case_numbers rows

-- the word means this, and so its thread owns the object at this depth, whatever the monitor says
abbrev pub Means : ℕ → LockWord → ℕ → ℕ → Type 0
Means word meaning thread depth =
    (read_word word ≡ Some meaning)
    × ((holder deep : ℕ) → ownership_of (seen_word meaning) holder deep ≡ record { thread = thread; depth = depth })

abbrev pub Cancels : ℕ → ℕ → Type 0
Cancels word after = cancel_of word ≡ after

abbrev pub NoLockWord : ℕ → Type 0
NoLockWord word = read_word word ≡ None

abbrev pub word_cases : List Case
word_cases =
    record { number = 1; states = Means 0x000304 (Flat (thread_number 3) 1) 3 2 }
    ∷ record { number = 1; states = Means 0x00030a (Reserved (thread_number 3) 2) 3 2 }
    ∷ record { number = 2; states = Cancels 0x00030a 0x000304 }
    ∷ record { number = 3; states = Cancels 0x000302 0x000000 }
    ∷ record { number = 4; states = Cancels 0x0003fe 0x0003f8 }
    ∷ record { number = 6; states = NoLockWord 0x000003 }
    ∷ []
