-- An action carried out on an object with lists and on the states of the threads at it.
use Prim.Native.Nat.{ℕ, ◌+◌}
use mathlib.Core.Path.{◌≡◌, refl, ap}
use mathlib.Core.Logic.{◌≢◌}
use mathlib.Core.Bool.{Bool, false}
use mathlib.Core.List.{List, [], ◌∷◌, ◌++◌}
use native.Mathlib.Omega.{arith}
use Rattle.laws.specs.{Choice.pick, Update.update, Count.count, Filter.failing}
use Rattle.laws.proofs.{Count.count_append, Count.count_none, Count.count_same, Choice.by_test}
use Rattle.chains.proofs.Queue.{queue_by, count_queue}
use Rattle.chains.proofs.Falling.{Falling, by_rank, falling_queue}
use Rattle.chains.specs.declared.named.Chain.{Chain}
use Rattle.lock_rules.proofs.Changes.{seen_after, handed, moved, is_queued_exit, let_out_state, sent_back}
use Rattle.std.specs.Prelude.{Option, Some, None}
use Rattle.lock_rules.specs.declared.{ThreadState.ThreadState, Taken.Taken, ChainWork.ChainWork, Answer.Answer, Effect.Effect}
use Rattle.lock_rules.specs.declared.Taken.TheVariants.{First, All}
use Rattle.lock_rules.specs.declared.ChainWork.TheVariants.{Stay, Join, JoinAndHand, Hand, Move, MoveAndLetOut, SendBack}
use Rattle.lock_rules.specs.declared.Answer.TheVariants.{NoRule}
use Rattle.lock_rules.specs.PlainMonitor.{above_zero}
use Rattle.lock_rules.proofs.Objects.{ListObject, with_word, with_flag, with_holder, with_depth, with_entry, chain_of, with_chain}

-- joining the entry chain, each at its place by rank, in order. What is proved of it uses only the laws below: who is in it, that it is not empty, and
-- that it stays in falling rank.
unfoldable pub enter_queue_all : (ℕ → ℕ) → List ℕ → List ℕ → List ℕ
enter_queue_all rank entry threads = queue_by (by_rank rank) entry threads

abbrev pub enter_queue : (ℕ → ℕ) → List ℕ → ℕ → List ℕ
enter_queue rank entry thread = enter_queue_all rank entry (thread ∷ [])

pub count_entered_all : (t : ℕ) (rank : ℕ → ℕ) (entry threads : List ℕ) → count t (enter_queue_all rank entry threads) ≡ count t entry + count t threads
unfolding enter_queue_all
count_entered_all t rank entry threads = count_queue (by_rank rank) entry threads t

pub entered≢nil : (rank : ℕ → ℕ) (entry : List ℕ) (thread : ℕ) → enter_queue rank entry thread ≢ []
entered≢nil rank entry thread e =
    omega (arith, ap (count thread) e, count_none thread, count_entered_all thread rank entry (thread ∷ []), count_same thread [])

pub falling_entered : (rank : ℕ → ℕ) (entry threads : List ℕ) → Falling rank entry → Falling rank (enter_queue_all rank entry threads)
unfolding enter_queue_all
falling_entered rank entry threads = falling_queue rank entry threads

-- joining any chain: the other two at the end
abbrev pub join : Chain → (ℕ → ℕ) → List ℕ → ℕ → List ℕ
join Chain.Entry rank list thread = enter_queue rank list thread
join Chain.Contention rank list thread = list ++ (thread ∷ [])
join Chain.Waiting rank list thread = list ++ (thread ∷ [])

pub count_join : (chain : Chain) (t thread : ℕ) (rank : ℕ → ℕ) (list : List ℕ) → count t (join chain rank list thread) ≡ count t list + count t (thread ∷ [])
count_join Chain.Entry t thread rank list = count_entered_all t rank list (thread ∷ [])
count_join Chain.Contention t thread rank list = count_append t list (thread ∷ [])
count_join Chain.Waiting t thread rank list = count_append t list (thread ∷ [])

-- who of a chain is taken, and who is left
abbrev pub taken : Taken → List ℕ → List ℕ
taken First [] = []
taken First (first ∷ rest) = first ∷ []
taken All list = list

abbrev pub left : Taken → List ℕ → List ℕ
left First [] = []
left First (first ∷ rest) = rest
left All list = []

pub count_taken : (which : Taken) (list : List ℕ) (t : ℕ) → count t list ≡ count t (taken which list) + count t (left which list)
unfolding count
count_taken First [] t = refl
count_taken First (first ∷ rest) t = omega arith
count_taken All list t = omega arith

-- a list parted in two: each of its threads is among those that go, or among those that are kept
pub record Parting (list : List ℕ) : Type 0 where
  pub gone : List ℕ
  pub kept : List ℕ
  pub parted : (t : ℕ) → count t list ≡ count t gone + count t kept

abbrev pub taking : Taken → (list : List ℕ) → Parting list
taking which list = record { gone = taken which list; kept = left which list; parted = count_taken which list }

abbrev pub first_of : List ℕ → ℕ
first_of [] = 0
first_of (first ∷ rest) = first

-- the states, with those of some threads changed
abbrev pub changed_states : (ThreadState → ThreadState) → (ℕ → ThreadState) → List ℕ → ℕ → ThreadState
changed_states change states list t = pick (above_zero (count t list)) (change (states t)) (states t)

-- what relates each state to itself and to what the change makes of it, relates every thread's state before to its state after
pub changed_so : (R : ThreadState → ThreadState → Type 0) → ((state : ThreadState) → R state state) → (change : ThreadState → ThreadState)
    → ((state : ThreadState) → R state (change state)) → (states : ℕ → ThreadState) (list : List ℕ) (t : ℕ) → R (states t) (changed_states change states list t)
changed_so R same change changes states list t = by_test (R (states t)) (above_zero (count t list)) (λ there. changes (states t)) (λ away. same (states t))

-- a thread joins a chain
abbrev pub joined_object : Chain → ℕ → ListObject → ListObject
joined_object chain thread o = with_chain chain o (join chain o.rank (chain_of chain o) thread)

-- hand: the first of the entry chain leaves it and becomes holder at depth 0; with nobody there, holder and depth are 0
abbrev pub handed_to : ListObject → ℕ → List ℕ → ListObject
handed_to o next rest = with_entry (with_depth (with_holder o next) 0) rest

abbrev pub handed_object : ListObject → ListObject
handed_object o = handed_to o (first_of o.entry) (left First o.entry)

abbrev pub handed_states : (ℕ → ThreadState) → ListObject → ℕ → ThreadState
handed_states states o = changed_states handed states (taken First o.entry)

-- threads of a chain move to the entry chain
abbrev pub parted_object : Chain → List ℕ → List ℕ → ListObject → ListObject
parted_object from gone kept o = let rest = with_chain from o kept in with_entry rest (enter_queue_all o.rank rest.entry gone)

abbrev pub moved_object : Chain → Taken → ListObject → ListObject
moved_object from which o = parted_object from (taken which (chain_of from o)) (left which (chain_of from o)) o

abbrev pub moved_states : Chain → Taken → (ℕ → ThreadState) → ListObject → ℕ → ThreadState
moved_states from which states o = changed_states moved states (taken which (chain_of from o))

-- inflating, once the contenders have moved: the queued exits are let out of the entry chain, the others stay in order
abbrev pub let_out_object : (ℕ → ThreadState) → ListObject → ListObject
let_out_object states o = with_entry o (failing (λ t. is_queued_exit (states t)) o.entry)

abbrev pub let_out_states : (ℕ → ThreadState) → ℕ → ThreadState
let_out_states states t = let_out_state (states t)

-- the other threads after the work on chains
abbrev pub states_after : ChainWork → (ℕ → ThreadState) → ListObject → ℕ → ThreadState
states_after Stay states o = states
states_after (Join chain) states o = states
states_after (JoinAndHand chain) states o = handed_states states o
states_after Hand states o = handed_states states o
states_after (Move from which) states o = moved_states from which states o
states_after MoveAndLetOut states o = let_out_states (moved_states Chain.Contention All states o)
states_after (SendBack u) states o = changed_states sent_back states (u ∷ [])

-- who is handed the monitor
abbrev pub is_handed : ListObject → ℕ → Bool
is_handed o t = above_zero (count t (taken First o.entry))

-- whom the work unparks: who is handed the monitor, and the exits that are let out; who moves stays parked
abbrev pub unparks : ChainWork → (ℕ → ThreadState) → ListObject → ℕ → Bool
unparks Stay states o t = false
unparks (Join chain) states o t = false
unparks (JoinAndHand chain) states o t = is_handed o t
unparks Hand states o t = is_handed o t
unparks (Move from which) states o t = false
unparks MoveAndLetOut states o t = is_queued_exit (moved_states Chain.Contention All states o t)
unparks (SendBack u) states o t = false

-- the object after the work of `thread`, with the threads' states before it
abbrev pub object_after : ChainWork → ℕ → (ℕ → ThreadState) → ListObject → ListObject
object_after Stay thread states o = o
object_after (Join chain) thread states o = joined_object chain thread o
object_after (JoinAndHand chain) thread states o = joined_object chain thread (handed_object o)
object_after Hand thread states o = handed_object o
object_after (Move from which) thread states o = moved_object from which o
object_after MoveAndLetOut thread states o = let_out_object (moved_states Chain.Contention All states o) (moved_object Chain.Contention All o)
object_after (SendBack u) thread states o = o

-- word, flag, holder and depth by the effect, the chains as they were
abbrev pub effected : ℕ → Effect → ListObject → ListObject
effected thread effect o =
    with_depth (with_holder (with_flag (with_word o (seen_after thread effect.word o.word)) effect.flag) effect.holder) effect.depth

pub record Performed : Type 0 where
  pub states : ℕ → ThreadState
  pub object : ListObject
  pub answer : Answer
  pub commits : Bool

abbrev pub perform : ℕ → (ℕ → ThreadState) → ListObject → Option Effect → Performed
perform thread states o None = record { states = states; object = o; answer = NoRule; commits = false }
perform thread states o (Some effect) =
    record {
      states = update (states_after effect.work states (effected thread effect o)) thread effect.state;
      object = object_after effect.work thread states (effected thread effect o);
      answer = effect.answer;
      commits = effect.commits;
    }

abbrev pub action_unparks : ℕ → (ℕ → ThreadState) → ListObject → Option Effect → ℕ → Bool
action_unparks thread states o None t = false
action_unparks thread states o (Some effect) t = unparks effect.work states (effected thread effect o) t
