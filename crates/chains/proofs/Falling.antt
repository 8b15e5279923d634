-- Lists of threads in falling rank: who is taken from one, drops out of one or joins one by rank leaves it so; and what the links of a chain say of it.
use Prim.Native.Nat.{ℕ, ◌≤◌, ◌<◌}
use mathlib.Core.Path.{◌≡◌, ap}
use mathlib.Core.Bool.{Bool, true, false}
use mathlib.Core.List.{List, [], ◌∷◌, tail}
use native.Mathlib.Omega.{arith}
use lib.Dec.{leb}
use Rattle.laws.specs.{Choice.pick, Count.count, Filter.failing}
use Rattle.laws.proofs.Choice.{either_way, equal?, AtMost, at_most}
use Rattle.laws.proofs.Count.{count_none, count_same, count_other, count_more}
use Rattle.laws.proofs.Filter.{count_parted}
use Rattle.chains.proofs.Listed.{Chain, head, chain_head}
use Rattle.chains.proofs.Queue.{insert, queue_by, count_insert}

-- nobody stands behind one of lower rank
abbrev pub Falling : (ℕ → ℕ) → List ℕ → Type 0
Falling rank [] = Unit {0}
Falling rank (x ∷ rest) = ((n : ℕ) → 0 < count n rest → rank n ≤ rank x) × Falling rank rest

-- x stays before n, who joins: "by falling rank, then by time of joining"
abbrev pub by_rank : (ℕ → ℕ) → ℕ → ℕ → Bool
by_rank rank x n = leb (rank n) (rank x)

module _ (rank : ℕ → ℕ) where
  -- one who joins
  pub falling_insert : (n : ℕ) (list : List ℕ) → Falling rank list → Falling rank (insert (λ x. by_rank rank x n) n list)
  falling_insert n [] falls = (λ m h. absurd (omega (arith, h, count_none m)), tt)
  falling_insert n (x ∷ rest) falls = at (leb (rank n) (rank x)) (at_most (rank n) (rank x)) (falling_insert n rest falls.1)
    where
      at : (b : Bool) → AtMost b (rank n) (rank x) → Falling rank (insert (λ y. by_rank rank y n) n rest)
          → Falling rank (pick b (x ∷ insert (λ y. by_rank rank y n) n rest) (n ∷ (x ∷ rest)))
      at true low later = (
        λ m h. either_way (equal? m n) (λ e. rw e low)
            (λ away. falls.0 m (omega (arith, h, count_insert (λ y. by_rank rank y n) n rest m, count_other m n rest away))),
        later,
      )
      at false high later = (
        λ m h. either_way (equal? m x) (λ e. rw e (omega (arith, high))) (λ away. omega (arith, high, falls.0 m (omega (arith, h, count_other m x rest away)))),
        falls,
      )

  -- several, one after the other
  pub falling_queue : (list moved : List ℕ) → Falling rank list → Falling rank (queue_by (by_rank rank) list moved)
  falling_queue list [] falls = falls
  falling_queue list (n ∷ moved) falls = falling_queue (insert (λ x. by_rank rank x n) n list) moved (falling_insert n list falls)

  -- the first leaves
  pub falling_tail : (list : List ℕ) → Falling rank list → Falling rank (tail list)
  falling_tail [] falls = falls
  falling_tail (x ∷ rest) falls = falls.1

  -- some drop out
  pub falling_failing : (test : ℕ → Bool) (list : List ℕ) → Falling rank list → Falling rank (failing test list)
  falling_failing test [] falls = falls
  falling_failing test (x ∷ rest) falls = at (test x) (falling_failing test rest falls.1)
    where
      at : (b : Bool) → Falling rank (failing test rest) → Falling rank (pick b (failing test rest) (x ∷ failing test rest))
      at true later = later
      at false later = (λ m h. falls.0 m (omega (arith, h, count_parted test rest m)), later)

  -- each thread of a chain is followed by one of no higher rank, or by nobody, whose rank is 0
  pub falling_links : (next : ℕ → ℕ) (first : ℕ) (list : List ℕ) → rank 0 ≡ 0 → Chain next first list → Falling rank list
      → (n : ℕ) → 0 < count n list → rank (next n) ≤ rank n
  falling_links next first [] none chain falls n h = absurd (omega (arith, h, count_none n))
  falling_links next first (x ∷ rest) none chain falls n h =
      let later = falling_links next (next x) rest none chain.2 falls.1 in
      either_way (equal? n x) (λ e. rw (e, chain_head next (next x) rest chain.2) (at rest falls.0))
      (λ away. later n (omega (arith, h, count_other n x rest away)))
    where
      at : (list : List ℕ) → ((m : ℕ) → 0 < count m list → rank m ≤ rank x) → rank (head list) ≤ rank x
      at [] low = omega (arith, none)
      at (y ∷ more) low = low y (omega (arith, count_same y more))

  pub links_falling : (next : ℕ → ℕ) (first : ℕ) (list : List ℕ) → Chain next first list → ((n : ℕ) → 0 < count n list → rank (next n) ≤ rank n)
      → Falling rank list
  links_falling next first [] chain each = tt
  links_falling next first (x ∷ rest) chain each =
      let later = links_falling next (next x) rest chain.2 (λ n h. each n (omega (arith, h, count_more n x rest))) in
      let low : rank (next x) ≤ rank x = each x (omega (arith, count_same x rest)) in
      (at rest later (ap rank (chain_head next (next x) rest chain.2)) low, later)
    where
      at : (list : List ℕ) → Falling rank list → rank (next x) ≡ rank (head list) → rank (next x) ≤ rank x → (m : ℕ) → 0 < count m list → rank m ≤ rank x
      at [] falls same low m h = absurd (omega (arith, h, count_none m))
      at (y ∷ more) falls same low m h =
          either_way (equal? m y) (λ e. rw e (omega (arith, same, low))) (λ away. omega (arith, same, low, falls.0 m (omega (arith, h, count_other m y more away))))
