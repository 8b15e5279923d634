-- The work that a thread has left, as a weight by its state and the word of its object, and how far a change of the one or the other can raise it.
use Prim.Native.Nat.{ℕ, ◌+◌, ◌-◌, ◌≤◌}
use mathlib.Core.Path.{◌≡◌, refl}
use native.Mathlib.Omega.{arith}
use lib.Dec.{eqb}
use Rattle.lock_word.specs.declared.meaning.WordSeen.{WordSeen}
use Rattle.lock_rules.specs.Rules.{onward}
use Rattle.lock_rules.specs.declared.{Doing.Doing, ThreadState.ThreadState, WordChange.WordChange}
use Rattle.lock_rules.specs.declared.WordChange.TheVariants.{Unchanged, Freed, OwnFlat, OwnReserved, Cancelled, Inflated}
use Rattle.lock_rules.proofs.Changes.{seen_after, handed, moved, let_out_state, sent_back}
use Rattle.lock_rules.proofs.Each.{each_doing, each_state, each_carried, each_word}
use Rattle.lock_rules.proofs.SoundEffects.{either_way}

-- what a look has besides, at a word that is reserved, which a cancel may still change, or anonymous, which another may still reserve
abbrev pub look_more : WordSeen → ℕ
look_more = each_word _ (0, 2, 0, λ owner c. 0, λ owner c. 2)

-- after a change of the word
abbrev pub more_after : WordChange → ℕ → ℕ
more_after Unchanged more = more
more_after Freed more = 0
more_after (OwnFlat count) more = 0
more_after (OwnReserved count) more = 2
more_after Cancelled more = 0
more_after Inflated more = 0

pub more_seen : (thread : ℕ) (change : WordChange) (word : WordSeen) → look_more (seen_after thread change word) ≡ more_after change (look_more word)
more_seen thread Unchanged word = refl
more_seen thread Freed word = refl
more_seen thread (OwnFlat count) word = refl
more_seen thread (OwnReserved count) word = refl
more_seen thread Cancelled word =
    each_word (λ seen. look_more (seen_after thread Cancelled seen) ≡ 0)
    (refl, refl, refl, λ owner c. refl, λ owner c. either_way (λ seen. look_more seen ≡ 0) (eqb c 0) refl refl) word
more_seen thread Inflated word = refl

-- It falls from phase to phase, and by 94 at least where the step can raise others: at the end of an operation, from 10 to 11 and from 12 to 13.
abbrev pub doing_weight : ℕ → Doing → ℕ
doing_weight more =
    each_doing _ (
      (106 + more, λ c. 107, 107, 105, 103, 102),
      (199 + more, λ c. 200, 197, 198, 195, 101),
      (λ limit. 203 + more, λ limit. 204, λ limit. 202, λ limit. 200, λ limit. 104, λ saved. 101),
      101,
      101,
    )

-- a queued thread has one more than what it goes on with
abbrev pub weight : ℕ → ThreadState → ℕ
weight more = each_state _ (0, doing_weight more, λ carried. doing_weight more (onward carried) + 1, 101, λ saved. 103)

abbrev pub weight_limit : ℕ
weight_limit = 205

pub weight_most : (word : WordSeen) (state : ThreadState) → weight (look_more word) state ≤ weight_limit
weight_most word =
    let most : look_more word ≤ 2 = each_word (λ seen. look_more seen ≤ 2) (search arith) word in
    each_state _ (omega arith, each_doing _ (search arith), each_carried _ (search arith), omega arith, search arith)

module _ (more : ℕ) where
  -- nothing but the word changed
  pub word_raises : (after : ℕ) (state : ThreadState) → weight after state ≤ weight more state + (after - more)
  word_raises after = each_state _ (omega arith, each_doing _ (search arith), each_carried _ (search arith), omega arith, search arith)

  -- nothing but the state
  pub handed_raises : (state : ThreadState) → weight more (handed state) ≤ weight more state + 0
  handed_raises = each_state _ (search arith)

  pub moved_raises : (state : ThreadState) → weight more (moved state) ≤ weight more state + 3
  moved_raises = each_state _ (search arith)

  pub let_out_raises : (state : ThreadState) → weight more (let_out_state state) ≤ weight more state + 0
  let_out_raises = each_state _ (search arith, search arith, each_carried _ (search arith), search arith, search arith)

  pub sent_back_raises : (state : ThreadState) → weight more (sent_back state) ≤ weight more state + more
  sent_back_raises = each_state _ (search arith, each_doing _ (search arith), search arith, search arith, search arith)
