-- A fresh table, record by record.
use Prim.Native.Nat.{ℕ, ◌-◌, ◌≤◌, ◌<◌}
use mathlib.Core.Path.{◌≡◌, refl, sym, ap, ◌∙◌, fun_ext}
use mathlib.Core.Logic.{◌⊎◌, inl, inr}
use mathlib.Core.Bool.{Bool, true, false, not}
use native.Mathlib.Omega.{arith}
use lib.Dec.{eqb, ltb, leb}
use lib.ListN.{get_or, get_or-replicate}
use borrow.Author.Tests.{le-ltb, lt-ltb, le-leb, leb-true, ltb-true, ltb-false}
use Rattle.laws.specs.{Choice.pick, Choice.both, Choice.within, Sequence.tabulate, Every.all_below}
use Rattle.laws.proofs.Choice.{Equal, equal, Below, below, split, by_test, pick_same, both_first, both_second}
use Rattle.laws.proofs.Sequence.{tabulate_at}
use Rattle.laws.proofs.Every.{all_of, all_below_at}
use Rattle.lock_table.specs.Limits.{thread_limit, object_limit, rank_limit}
use Rattle.lock_table.specs.Record.{no_thread, no_object, with_word}
use Rattle.lock_table.specs.Access.{thread_at, object_at}
use Rattle.lock_table.specs.Fresh.{no_thread_given, no_object_given, sized_request, first_word, given_at, asked_for, thread_given, object_given, fresh_thread, fresh_object, thread_from, object_from}
use Rattle.lock_table.specs.Fresh.{table_of, in_range, ranks_fit, InRange, fresh_answer, made_by, fresh_of, PastUnread}
use Rattle.lock_table.specs.declared.fresh_table.{ThreadGiven.ThreadGiven, FreshRequest.FreshRequest, FreshRefusal.FreshRefusal}
use Rattle.lock_table.specs.declared.fresh_table.FreshRefusal.TheVariants.{SizeOutOfRange, RankOutOfRange}
use Rattle.lock_table.specs.declared.record.Table.{Table}
use Rattle.std.specs.Prelude.{Result, Ok, Err}
use Rattle.lock_table.proofs.Records.{object_in, object_beyond}

-- what is past the size is not read, and nor is what is past the records
module _ {A : Type 0} (size limit : ℕ) (none : A) where
  given_past : (given : ℕ → A) (place : ℕ) → size ≤ place → given_at size limit none given place ≡ none
  given_past given place past = rw (le-ltb place size past) refl

  given_beyond : (given : ℕ → A) (place : ℕ) → limit ≤ place → given_at size limit none given place ≡ none
  given_beyond given place past = rw (le-ltb place limit past) (pick_same (ltb place size) none)

  given_alike : (given other : ℕ → A) → ((place : ℕ) → place < size → given place ≡ other place) → (place : ℕ)
      → given_at size limit none given place ≡ given_at size limit none other place
  given_alike given other same place = split (ltb place size) (λ low. rw (same place (ltb-true place size low)) refl) (λ high. rw high refl)

-- so requests that agree up to T and N are answered alike
module _ (request other : FreshRequest) (threads : request.threads ≡ other.threads) (objects : request.objects ≡ other.objects) (reserved : request.reserved ≡ other.reserved)
    (same : (place : ℕ) → place < request.threads → asked_for request place ≡ asked_for other place) where
  threads_alike : thread_given request ≡ thread_given other
  unfolding thread_given
  threads_alike =
      fun_ext (λ place. given_alike request.threads thread_limit no_thread_given (asked_for request) (asked_for other) same place
      ∙ ap (λ (size : ℕ). given_at size thread_limit no_thread_given (asked_for other) place) threads)

  objects_alike : object_given request ≡ object_given other
  unfolding object_given
  objects_alike = λ j. λ place. given_at (objects j) object_limit no_object_given (λ n. record { reserved = reserved j }) place

  answers_alike : fresh_answer request ≡ fresh_answer other
  unfolding fresh_answer in_range ranks_fit
  answers_alike =
      λ j. pick (not (both (within 1 thread_limit (threads j)) (within 1 object_limit (objects j)))) (Err SizeOutOfRange)
      (pick (not (all_below thread_limit (λ place. leb (threads_alike j place).rank rank_limit))) (Err RankOutOfRange)
      (Ok tt))

  tables_alike : table_of request ≡ table_of other
  tables_alike =
      λ j. record {
        threadcount = threads j;
        objectcount = objects j;
        threads = tabulate thread_limit (λ place. fresh_thread (threads_alike j place));
        objects = tabulate object_limit (λ place. fresh_object (objects_alike j place));
      }

  made_alike : (answer : Result (Unit {0}) FreshRefusal) → made_by answer request ≡ made_by answer other
  unfolding made_by
  made_alike (Ok _) = ap (λ (table : Table). Ok table) tables_alike
  made_alike (Err refusal) = refl

pub past_unread : PastUnread
unfolding fresh_of
past_unread request other threads objects reserved same =
    ap (λ (answer : Result (Unit {0}) FreshRefusal). made_by answer request) (answers_alike request other threads objects reserved same)
    ∙ made_alike request other threads objects reserved same (fresh_answer other)

-- the thread with number n in a fresh table; number 0 and those past the table's size are given nothing
abbrev pub given_to : FreshRequest → ℕ → ThreadGiven
given_to request n = pick (eqb n 0) no_thread_given (thread_given request (n - 1))

-- the rank of thread n
abbrev pub fresh_rank : FreshRequest → ℕ → ℕ
fresh_rank request n = (given_to request n).rank

module _ (request : FreshRequest) where
  pub thread_past : (place : ℕ) → request.threads ≤ place → thread_given request place ≡ no_thread_given
  unfolding thread_given
  thread_past place past = given_past request.threads thread_limit no_thread_given (asked_for request) place past

  thread_beyond : (place : ℕ) → thread_limit ≤ place → thread_given request place ≡ no_thread_given
  unfolding thread_given
  thread_beyond place past = given_beyond request.threads thread_limit no_thread_given (asked_for request) place past

  ranks_so : ((place : ℕ) → (thread_given request place).rank ≤ rank_limit) → ranks_fit request ≡ true
  unfolding ranks_fit
  ranks_so fit =
      all_of thread_limit (λ n. leb (thread_given request (n - 1)).rank rank_limit) (λ n low high. le-leb (thread_given request (n - 1)).rank rank_limit (fit (n - 1)))

  ranks_of : request.threads ≤ thread_limit → ranks_fit request ≡ true → (place : ℕ) → (thread_given request place).rank ≤ rank_limit
  unfolding ranks_fit
  ranks_of few passes place =
      split (ltb place thread_limit)
      (λ low. leb-true _ rank_limit (all_below_at thread_limit (λ n. leb (thread_given request n).rank rank_limit) passes place (ltb-true place thread_limit low)))
      (λ high. omega (arith, ap (λ (given : ThreadGiven). given.rank) (thread_past place (omega (arith, few, ltb-false place thread_limit high)))))

  -- the sizes first
  sizes_of : in_range request ≡ true → (1 ≤ request.threads) × (request.threads ≤ thread_limit) × (1 ≤ request.objects) × (request.objects ≤ object_limit)
  unfolding in_range
  sizes_of fits =
      let threads = both_first (within 1 thread_limit request.threads) _ fits in
      let objects = both_second (within 1 thread_limit request.threads) _ fits in (
        leb-true 1 request.threads (both_first (leb 1 request.threads) _ threads),
        leb-true request.threads thread_limit (both_second (leb 1 request.threads) _ threads),
        leb-true 1 request.objects (both_first (leb 1 request.objects) _ objects),
        leb-true request.objects object_limit (both_second (leb 1 request.objects) _ objects),
      )

  sizes_so : 1 ≤ request.threads → request.threads ≤ thread_limit → 1 ≤ request.objects → request.objects ≤ object_limit → in_range request ≡ true
  unfolding in_range
  sizes_so one few some fewer =
      simp (le-leb 1 request.threads one, le-leb request.threads thread_limit few, le-leb 1 request.objects some, le-leb request.objects object_limit fewer)

  pub fresh_made : InRange request → fresh_of request ≡ Ok (table_of request)
  unfolding fresh_of fresh_answer made_by
  fresh_made (one, few, some, fewer, ranked) = rw (sizes_so one few some fewer, ranks_so ranked) refl

  -- what cannot be made is refused
  pub fresh_either : InRange request ⊎ ((refusal : FreshRefusal) × (fresh_of request ≡ Err refusal))
  unfolding fresh_of fresh_answer made_by
  fresh_either =
      split (in_range request)
      (λ sized. let (one, few, some, fewer) = sizes_of sized in
      split (ranks_fit request) (λ ranked. inl (one, few, some, fewer, ranks_of few ranked)) (λ high. inr (RankOutOfRange, rw (sized, high) refl)))
      (λ outside. inr (SizeOutOfRange, rw outside refl))

  -- and what is not refused is in range
  pub answered_fits : fresh_answer request ≡ Ok tt → (request.threads ≤ thread_limit) × (request.objects ≤ object_limit)
  unfolding fresh_answer
  answered_fits =
      split (in_range request)
      (λ sized made. let (one, few, some, fewer) = sizes_of sized in (few, fewer))
      (λ outside made. let refused = rw outside at made in absurd (cc))

  -- every thread is idle, with what it is given
  pub fresh_thread_at : (n : ℕ) → thread_at (table_of request) n ≡ fresh_thread (given_to request n)
  unfolding thread_at
  fresh_thread_at n = at (eqb n 0) (equal n 0) (ltb thread_limit n) (below thread_limit n)
    where
      at : (none : Bool) → Equal none n 0 → (past : Bool) → Below past thread_limit n
          → pick none no_thread (pick past no_thread (get_or (tabulate thread_limit (thread_from request)) (n - 1) no_thread))
          ≡ fresh_thread (pick none no_thread_given (thread_given request (n - 1)))
      at true e past b = refl
      at false e true b = ap fresh_thread (sym (thread_beyond (n - 1) (omega (arith, b))))
      at false e false b = tabulate_at thread_limit (thread_from request) no_thread (n - 1) (omega (arith, e, b))

  -- objects in use have the word, and the others are empty
  module _ (fewer : request.objects ≤ object_limit) (o : ℕ) where
    fresh_object_at : 1 ≤ o → o ≤ object_limit → object_at (table_of request) o ≡ object_from request (o - 1)
    fresh_object_at low high =
        object_in (table_of request) o (λ e. omega (arith, e, low)) high
        ∙ tabulate_at object_limit (object_from request) no_object (o - 1) (omega (arith, low, high))

    pub fresh_used : 1 ≤ o → o ≤ request.objects → object_at (table_of request) o ≡ with_word no_object (first_word request.reserved)
    unfolding object_given
    fresh_used low high =
        fresh_object_at low (omega (arith, high, fewer))
        ∙ rw (lt-ltb (o - 1) request.objects (omega (arith, low, high)), lt-ltb (o - 1) object_limit (omega (arith, low, high, fewer))) refl

    pub fresh_past : request.objects < o → object_at (table_of request) o ≡ no_object
    unfolding object_given first_word object_at
    fresh_past past = at (ltb object_limit o) (below object_limit o)
      where
        at : (far : Bool) → Below far object_limit o → object_at (table_of request) o ≡ no_object
        at true beyond = object_beyond (table_of request) o beyond
        at false within = fresh_object_at (omega (arith, past)) within ∙ rw (le-ltb (o - 1) request.objects (omega (arith, past))) refl

-- a request of sizes alone gives no rank but 0
pub sized_ranks : (threads objects : ℕ) (reserved : Bool) (place : ℕ) → (thread_given (sized_request threads objects reserved) place).rank ≤ rank_limit
unfolding thread_given
sized_ranks threads objects reserved place =
    by_test (λ (given : ThreadGiven). given.rank ≤ rank_limit) (ltb place threads)
    (λ used. by_test (λ (given : ThreadGiven). given.rank ≤ rank_limit) (ltb place thread_limit)
    (λ low. rw (get_or-replicate {A = ThreadGiven} thread_limit place no_thread_given no_thread_given (ltb-true place thread_limit low)) (omega arith)) (λ high. omega arith)) (λ past. omega arith)

pub sized_ranks_fit : (threads objects : ℕ) (reserved : Bool) → ranks_fit (sized_request threads objects reserved) ≡ true
sized_ranks_fit threads objects reserved = ranks_so (sized_request threads objects reserved) (sized_ranks threads objects reserved)
