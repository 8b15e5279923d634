-- What a word says to the rules, who owns an object by it, and what cancelling its reservation makes of it (document 01, "Lock words" and phase 3).
use Rattle.std.specs.Prelude.{ℕ, ◌+◌, ◌-◌, eqb, Option, Some, None}
use Rattle.laws.specs.Choice.{pick}
use Rattle.lock_word.specs.Read.{read_word}
use Rattle.lock_word.specs.Write.{free_word, anonymous_word, flat_word, reserved_word}
use Rattle.lock_word.specs.declared.reading.LockWord.{LockWord}
use Rattle.lock_word.specs.declared.reading.LockWord.TheVariants.{Free as FreeWord, Flat as FlatWord, Anonymous as AnonymousWord}
use Rattle.lock_word.specs.declared.reading.LockWord.TheVariants.{Reserved as ReservedWord, Fat as FatWord}
use Rattle.lock_word.specs.declared.meaning.WordSeen.{WordSeen}
use Rattle.lock_word.specs.declared.meaning.WordSeen.TheVariants.{Free, Anonymous, Fat, Flat, Reserved}
use Rattle.lock_word.specs.declared.meaning.Ownership.{Ownership}

-- the word as a rule sees it: a fat word's number is its object, which the rule is at anyway
unfoldable pub seen_word : LockWord → WordSeen
seen_word FreeWord = Free
seen_word (FlatWord thread count) = Flat thread.0 count
seen_word AnonymousWord = Anonymous
seen_word (ReservedWord thread count) = Reserved thread.0 count
seen_word (FatWord monitor) = Fat

-- the count of a reserved word, which is what a store kept of it; no other word has one
unfoldable pub kept_count : Option LockWord → ℕ
kept_count None = 0
kept_count (Some FreeWord) = 0
kept_count (Some (FlatWord thread count)) = 0
kept_count (Some AnonymousWord) = 0
kept_count (Some (ReservedWord thread count)) = count
kept_count (Some (FatWord monitor)) = 0

-- the owner by the word and by the monitor's holder and depth; 0 is nobody. Flat: "the thread owns it"; reserved: "if count is above 0"; fat: "The
-- holder owns it if the monitor's depth is above 0."
abbrev pub owner_of : WordSeen → ℕ → ℕ → ℕ
owner_of Free holder depth = 0
owner_of Anonymous holder depth = 0
owner_of Fat holder depth = pick (eqb depth 0) 0 holder
owner_of (Flat thread count) holder depth = thread
owner_of (Reserved thread count) holder depth = pick (eqb count 0) 0 thread

-- how deep an owner is in. Flat: "at depth count + 1"; reserved: "at depth count"; fat: the monitor's depth
abbrev pub depth_of : WordSeen → ℕ → ℕ
depth_of Free depth = 0
depth_of Anonymous depth = 0
depth_of Fat depth = depth
depth_of (Flat thread count) depth = count + 1
depth_of (Reserved thread count) depth = count

abbrev pub unowned : Ownership
unowned = record { thread = 0; depth = 0 }

unfoldable pub owned_by : ℕ → ℕ → Ownership
owned_by owner depth = pick (eqb owner 0) unowned (record { thread = owner; depth = depth })

-- owner and depth together, "0 and 0 with no owner"
abbrev pub ownership_of : WordSeen → ℕ → ℕ → Ownership
ownership_of word holder depth = owned_by (owner_of word holder depth) (depth_of word depth)

-- 3 cancel: "a reserved word with count c becomes free if c is 0, else flat for its thread with count c − 1"; "A word not reserved stays."
abbrev pub cancelled : WordSeen → WordSeen
cancelled Free = Free
cancelled Anonymous = Free
cancelled Fat = Fat
cancelled (Flat thread count) = Flat thread count
cancelled (Reserved thread count) = pick (eqb count 0) Free (Flat thread (count - 1))

-- the bits of a word in place of these; a fat word keeps its number
unfoldable pub rewritten_of : ℕ → WordSeen → ℕ
rewritten_of word Free = free_word
rewritten_of word Anonymous = anonymous_word
rewritten_of word Fat = word
rewritten_of word (Flat thread count) = flat_word thread count
rewritten_of word (Reserved thread count) = reserved_word thread count

-- cancelling on the bits; what is no lock word stays
unfoldable pub cancel_read : ℕ → Option LockWord → ℕ
cancel_read word None = word
cancel_read word (Some meaning) = rewritten_of word (cancelled (seen_word meaning))

unfoldable pub cancel_of : ℕ → ℕ
cancel_of word = cancel_read word (read_word word)
