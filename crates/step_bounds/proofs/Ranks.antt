-- How many steps of its own a thread has left at most, by its state and the word of its object, and what a change of the word does to that.
use Prim.Native.Nat.{ℕ, ◌≤◌}
use mathlib.Core.Path.{◌≡◌, refl}
use native.Mathlib.Omega.{arith}
use Rattle.lock_rules.specs.declared.{Doing.Doing, ThreadState.ThreadState}
use Rattle.lock_word.specs.declared.meaning.WordSeen.{WordSeen}
use Rattle.lock_rules.proofs.{Changes.look_again, Changes.sent_back, Invariant.Unreserved}
use Rattle.lock_rules.proofs.Each.{each_doing, each_state, each_word}

-- At a look: so many, but six if the word is reserved, which a cancel may still change, or anonymous, which another may still reserve.
abbrev pub look_left : ℕ → WordSeen → ℕ
look_left n = each_word _ (n, 6, n, λ owner c. n, λ owner c. 6)

-- from each phase the longest way to the end of the operation or to a park
abbrev pub doing_left : WordSeen → Doing → ℕ
doing_left word =
    each_doing _ (
      (look_left 4 word, λ c. 5, 5, 3, 2, 1),
      (look_left 5 word, λ c. 5, 3, 4, 2, 1),
      (λ limit. look_left 4 word, λ limit. 5, λ limit. 3, λ limit. 2, λ limit. 1, λ suspension. 1),
      1,
      1,
    )

-- none, idle or parked
abbrev pub left : WordSeen → ThreadState → ℕ
left word = each_state _ (0, doing_left word, λ carried. 0, 0, λ suspension. 0)

pub look_six : (n : ℕ) → n ≤ 6 → (word : WordSeen) → look_left n word ≤ 6
look_six n small = each_word _ (small, omega arith, small, λ owner c. small, λ owner c. omega arith)

-- on a word that is not reserved
pub look_clear : (n : ℕ) (word : WordSeen) → Unreserved word → look_left n word ≡ n
look_clear n = each_word _ (λ clear. refl, λ clear. absurd clear, λ clear. refl, λ owner c clear. refl, λ owner c clear. absurd clear)

-- a word that is not reserved stays so
abbrev pub Keeps : WordSeen → WordSeen → Type 0
Keeps word after = Unreserved word → Unreserved after

module _ (word after : WordSeen) where
  look_kept : (n : ℕ) → n ≤ 6 → Keeps word after → look_left n after ≤ look_left n word
  look_kept n small =
      each_word (λ seen. Keeps seen after → look_left n after ≤ look_left n seen) (
        λ keeps. omega (arith, look_clear n after (keeps tt)),
        λ keeps. look_six n small after,
        λ keeps. omega (arith, look_clear n after (keeps tt)),
        λ owner c keeps. omega (arith, look_clear n after (keeps tt)),
        λ owner c keeps. look_six n small after,
      ) word

  -- nothing but the word changed
  doing_kept : Keeps word after → (doing : Doing) → doing_left after doing ≤ doing_left word doing
  doing_kept keeps =
      let enter = look_kept 4 (omega arith) keeps in
      let exit = look_kept 5 (omega arith) keeps in
      each_doing _ (search arith)

  pub left_kept : Keeps word after → (state : ThreadState) → left after state ≤ left word state
  left_kept keeps = each_state _ (omega arith, doing_kept keeps, λ carried. omega arith, omega arith, λ suspension. omega arith)

  -- a thread in phase 2 is sent back to its look, at a word that is not reserved any more
  doing_back : Unreserved after → (doing : Doing) → doing_left after (look_again doing) ≤ doing_left word doing
  doing_back clear =
      let enter_kept = look_kept 4 (omega arith) (λ u. clear) in
      let exit_kept = look_kept 5 (omega arith) (λ u. clear) in
      let enter = look_clear 4 after clear in
      let exit = look_clear 5 after clear in
      each_doing _ (search arith)

  pub left_back : Unreserved after → (state : ThreadState) → left after (sent_back state) ≤ left word state
  left_back clear = each_state _ (omega arith, doing_back clear, λ carried. omega arith, omega arith, λ suspension. omega arith)
