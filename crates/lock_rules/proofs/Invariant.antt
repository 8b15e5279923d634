-- What holds at one object, and of the threads as it sees them, after every schedule. Each part speaks only of what it reads, so that a change of anything
-- else leaves it as it stands.
use Prim.Native.Nat.{ℕ, ◌≤◌, ◌<◌}
use mathlib.Core.Path.{◌≡◌}
use mathlib.Core.Logic.{◌≢◌, ◌⊎◌}
use mathlib.Core.Bool.{Bool, true, false}
use mathlib.Core.List.{List, []}
use lib.Dec.{T}
use Rattle.laws.specs.{Choice.pick, Update.update, Count.count}
use Rattle.lock_word.specs.{Depth.depth_limit, Layout.count_limit}
use Rattle.lock_rules.specs.Rules.{onward}
use Rattle.lock_rules.specs.Operations.{Operation, Enter, Exit, Wait, Notify, NotifyAll}
use Rattle.lock_rules.specs.declared.{Limit.Limit, Suspension.Suspension, Doing.Doing, ThreadState.ThreadState}
use Rattle.lock_rules.specs.declared.OnwardStep.TheVariants.{ToCheck, ToTell, ToInflate, ToResume}
use Rattle.lock_rules.specs.declared.Doing.TheVariants.{EnterLook, EnterStore, EnterCancel, EnterGoIn, EnterCheck, EnterTry, ExitLook}
use Rattle.lock_rules.specs.declared.Doing.TheVariants.{ExitStore}
use Rattle.lock_rules.specs.declared.Doing.TheVariants.{ExitGoIn, ExitTest, ExitTell, ExitLeave, WaitLook, WaitCancel, WaitGoIn, WaitInflate}
use Rattle.lock_rules.specs.declared.Doing.TheVariants.{WaitGiveUp, WaitResume, NotifyLook, NotifyAllLook}
use Rattle.lock_rules.specs.declared.ThreadState.TheVariants.{Idle, Running, Queued, Contending, Waiting}
use Rattle.lock_word.specs.declared.meaning.WordSeen.{WordSeen}
use Rattle.lock_word.specs.declared.meaning.WordSeen.TheVariants.{Free, Anonymous, Fat, Flat, Reserved}
use Rattle.lock_rules.specs.declared.Answer.TheVariants.{GoneOn, Finished}
use Rattle.lock_rules.specs.PlainMonitor.{PlainMonitor, Committed, commit}
use Rattle.lock_rules.specs.Feed.{OperationLog, log_after, EndsRight}
use Rattle.lock_rules.proofs.Each.{each_state, each_word}
use Rattle.lock_rules.proofs.Objects.{ListObject, object_owner, owned_depth}
use Rattle.lock_rules.proofs.Perform.{Performed}

-- a thread's place in the monitor
pub data Seat : Type 0 where
  -- not in it; in a chain; an exit that has still to test the flag or to go in
  outside parked telling : Seat
  -- holder at depth 0; the same, about to leave; holder and owner
  holding leaving owning : Seat

-- what a thread relies on of word and flag
pub data Reliance : Type 0 where
  anything unreserved own_flat held_fat trying : Reliance
  kept_to_enter kept_to_exit : ℕ → Reliance

-- what its operation has committed: nothing; all that an exit commits; the giving up of a wait
pub data Stage : Type 0 where
  uncommitted all_committed given_up : Stage

-- what it has saved
pub data Saved : Type 0 where
  nothing_saved : Saved
  saves : Suspension → Saved

-- the limit that its begin gave, as long as the operation has it whole
pub data BegunLimit : Type 0 where
  any_limit : BegunLimit
  begun_limit : Limit → BegunLimit

pub record PhaseRow : Type 0 where
  pub operation : Operation
  pub limit : BegunLimit
  pub seat : Seat
  pub reliance : Reliance
  pub stage : Stage
  pub saved : Saved

abbrev row_of : Operation → Seat → Reliance → Stage → PhaseRow
row_of operation seat reliance stage =
    record { operation = operation; limit = any_limit; seat = seat; reliance = reliance; stage = stage; saved = nothing_saved }

-- of a wait that has not given up yet
abbrev wait_row : Limit → Seat → Reliance → Stage → PhaseRow
wait_row limit seat reliance stage =
    record { operation = Wait; limit = begun_limit limit; seat = seat; reliance = reliance; stage = stage; saved = nothing_saved }

-- the table of the phases
abbrev pub phase_row : Doing → PhaseRow
phase_row EnterLook = row_of Enter outside anything uncommitted
phase_row (EnterStore count) = row_of Enter outside (kept_to_enter count) uncommitted
phase_row EnterCancel = row_of Enter outside anything uncommitted
phase_row EnterGoIn = row_of Enter outside unreserved uncommitted
phase_row EnterCheck = row_of Enter holding unreserved uncommitted
phase_row EnterTry = row_of Enter holding trying uncommitted
phase_row ExitLook = row_of Exit outside anything uncommitted
phase_row (ExitStore count) = row_of Exit outside (kept_to_exit count) uncommitted
phase_row ExitGoIn = row_of Exit telling unreserved all_committed
phase_row ExitTest = row_of Exit telling unreserved all_committed
phase_row ExitTell = row_of Exit holding unreserved all_committed
phase_row ExitLeave = row_of Exit leaving anything all_committed
phase_row (WaitLook limit) = wait_row limit outside anything uncommitted
phase_row (WaitCancel limit) = wait_row limit outside anything uncommitted
phase_row (WaitGoIn limit) = wait_row limit outside own_flat uncommitted
phase_row (WaitInflate limit) = wait_row limit holding own_flat uncommitted
phase_row (WaitGiveUp limit) = wait_row limit owning held_fat uncommitted
phase_row (WaitResume suspension) = record { operation = Wait; limit = any_limit; seat = holding; reliance = held_fat; stage = given_up; saved = saves suspension }
phase_row NotifyLook = row_of Notify outside anything uncommitted
phase_row NotifyAllLook = row_of NotifyAll outside anything uncommitted

abbrev pub seat : ThreadState → Seat
seat = each_state _ (outside, λ doing. (phase_row doing).seat, λ carried. parked, parked, λ suspension. parked)

abbrev pub telling? : Seat → Bool
telling? outside = false
telling? parked = false
telling? telling = true
telling? holding = false
telling? leaving = false
telling? owning = false

abbrev pub leaving? : Seat → Bool
leaving? outside = false
leaving? parked = false
leaving? telling = false
leaving? holding = false
leaving? leaving = true
leaving? owning = false

-- how often a thread is in each chain: idle, running, queued, contending, waiting
abbrev pub in_entry : ThreadState → ℕ
in_entry = each_state _ (0, λ doing. 0, λ carried. 1, 0, λ suspension. 0)

abbrev pub in_contention : ThreadState → ℕ
in_contention = each_state _ (0, λ doing. 0, λ carried. 0, 1, λ suspension. 0)

abbrev pub in_waiting : ThreadState → ℕ
in_waiting = each_state _ (0, λ doing. 0, λ carried. 0, 0, λ suspension. 1)

-- By holder and depth. HOLDS: in 6, 7, 10 to 13 and 15 the holder is the thread. OWNER: its depth is 0, but above 0 in 13.
-- HOLD0: any other holder is at a depth above 0, and is no exit in 4 or 9 and not parked.
abbrev pub Seated : Seat → ℕ → ℕ → ℕ → Type 0
Seated outside t holder depth = holder ≡ t → t ≢ 0 → 0 < depth
Seated parked t holder depth = (holder ≢ t) × (t ≢ 0)
Seated telling t holder depth = (holder ≢ t) × (t ≢ 0)
Seated holding t holder depth = (holder ≡ t) × (depth ≡ 0) × (t ≢ 0)
Seated leaving t holder depth = (holder ≡ t) × (depth ≡ 0) × (t ≢ 0)
Seated owning t holder depth = (holder ≡ t) × (0 < depth) × (t ≢ 0)

-- By the chains: the thread is in the chain that its phase names, once, and in no other. One equation a chain says membership both ways.
pub record InChains (entries contentions waits t : ℕ) (queue contenders waiters : List ℕ) : Type 0 where
  pub entry : count t queue ≡ entries
  pub contention : count t contenders ≡ contentions
  pub waiting : count t waiters ≡ waits

abbrev pub Placed : ThreadState → ℕ → List ℕ → List ℕ → List ℕ → Type 0
Placed state t entry contention waiting = InChains (in_entry state) (in_contention state) (in_waiting state) t entry contention waiting

-- what can be asked of a word: free, anonymous, fat, flat, reserved
abbrev pub Unreserved : WordSeen → Type 0
Unreserved = each_word _ (Unit {0}, ⊥, Unit {0}, λ owner c. Unit {0}, λ owner c. ⊥)

abbrev pub FlatOf : ℕ → WordSeen → Type 0
FlatOf t = each_word _ (⊥, ⊥, ⊥, λ owner c. owner ≡ t, λ owner c. ⊥)

abbrev pub IsFat : WordSeen → Type 0
IsFat = each_word _ (⊥, ⊥, Unit {0}, λ owner c. ⊥, λ owner c. ⊥)

-- free, or flat of another
abbrev pub NotOwn : ℕ → WordSeen → Type 0
NotOwn t = each_word _ (Unit {0}, ⊥, ⊥, λ owner c. owner ≢ t, λ owner c. ⊥)

-- free or flat
abbrev pub Thin : WordSeen → Type 0
Thin = each_word _ (Unit {0}, ⊥, ⊥, λ owner c. Unit {0}, λ owner c. ⊥)

-- reserved for the thread, with count c
abbrev pub KeptWord : ℕ → ℕ → WordSeen → Type 0
KeptWord t c = each_word _ (⊥, ⊥, ⊥, λ owner d. ⊥, λ owner d. (owner ≡ t) × (d ≡ c))

-- By the word. KEPT: in 2 the kept word is still the word. RES-PH, RES-HOLD: in 4, 6, 9 and 10 the word is not reserved.
-- WFLAT: a wait in 4 or 12 has its own flat word. WOKENFAT: in 13 and 15 the word is fat. NOTOWN, TRYFLAG: in 7 it is not the thread's own, and the flag is 1.
abbrev pub ReliesOn : Reliance → ℕ → WordSeen → Bool → ℕ → Type 0
ReliesOn anything t word flag holder = Unit {0}
ReliesOn unreserved t word flag holder = Unreserved word
ReliesOn own_flat t word flag holder = FlatOf t word
ReliesOn held_fat t word flag holder = IsFat word × (holder ≡ t) × (t ≢ 0)
ReliesOn trying t word flag holder = NotOwn t word × (holder ≡ t) × (t ≢ 0) × (flag ≡ true)
ReliesOn (kept_to_enter c) t word flag holder = KeptWord t c word × (c < count_limit)
ReliesOn (kept_to_exit c) t word flag holder = KeptWord t c word × (0 < c)

-- A queued thread relies on what it carries. EXITFLAT: for an exit in 5 the word is not fat. NOTOWN: in 8 the word is not the thread's own.
-- WAITFAT: in 14 it is fat.
abbrev pub Relies : ThreadState → ℕ → WordSeen → Bool → ℕ → Type 0
Relies Idle t word flag holder = Unit {0}
Relies (Running doing) t word flag holder = ReliesOn (phase_row doing).reliance t word flag holder
Relies (Queued ToCheck) t word flag holder = Unreserved word
Relies (Queued ToTell) t word flag holder = Thin word
Relies (Queued (ToInflate limit)) t word flag holder = FlatOf t word
Relies (Queued (ToResume suspension)) t word flag holder = IsFat word
Relies Contending t word flag holder = NotOwn t word
Relies (Waiting suspension) t word flag holder = IsFat word

-- By the log of the operation: its commits so far, and the plain answer that an exit's or a wait's first one left; a wait has none yet
abbrev pub Staged : Stage → OperationLog → Type 0
Staged uncommitted log = log.commits ≡ 0
Staged all_committed log = (log.commits ≡ 1) × (log.answer ≡ Finished 0)
Staged given_up log = (log.commits ≡ 1) × (log.answer ≡ GoneOn)

abbrev pub LimitIs : BegunLimit → Limit → Type 0
LimitIs any_limit limit = Unit {0}
LimitIs (begun_limit begun) limit = limit ≡ begun

abbrev LoggedAs : Operation → Stage → BegunLimit → OperationLog → Type 0
LoggedAs operation stage limit log = (log.operation ≡ operation) × Staged stage log × LimitIs limit log.limit

abbrev pub Logged : ThreadState → OperationLog → Type 0
Logged Idle log = Unit {0}
Logged (Running doing) log = LoggedAs (phase_row doing).operation (phase_row doing).stage (phase_row doing).limit log
Logged (Queued carried) log =
    LoggedAs (phase_row (onward carried)).operation (phase_row (onward carried)).stage (phase_row (onward carried)).limit log
Logged Contending log = LoggedAs Enter uncommitted any_limit log
Logged (Waiting suspension) log = LoggedAs Wait given_up any_limit log

-- By the plain monitor's woken threads, and by what they and the waiting have saved there: the same, with a depth in range
abbrev pub woken? : Saved → Bool
woken? nothing_saved = false
woken? (saves suspension) = true

abbrev pub state_woken? : ThreadState → Bool
state_woken? =
    each_state _ (false, λ doing. woken? (phase_row doing).saved, λ carried. woken? (phase_row (onward carried)).saved, false, λ suspension. false)

abbrev pub SavedIs : Saved → Suspension → Type 0
SavedIs nothing_saved plain = Unit {0}
SavedIs (saves suspension) plain = (plain ≡ suspension) × (0 < suspension.depth) × (suspension.depth ≤ depth_limit)

abbrev pub SavedRight : ThreadState → Suspension → Type 0
SavedRight =
    each_state _ (λ plain. Unit {0}, λ doing. SavedIs (phase_row doing).saved, λ carried. SavedIs (phase_row (onward carried)).saved, λ plain. Unit {0}, λ suspension. SavedIs (saves suspension))

-- what the plain monitors know of the threads: their logs, and at this object who is woken and what is saved
pub record Ghost : Type 0 where
  pub logs : ℕ → OperationLog
  pub woken : ℕ → Bool
  pub saved : ℕ → Suspension

pub record ThreadOk (t : ℕ) (state : ThreadState) (o : ListObject) (log : OperationLog) (woke : Bool) (suspension : Suspension) : Type 0 where
  pub seated : Seated (seat state) t o.holder o.depth
  pub placed : Placed state t o.entry o.contention o.waiting
  pub relies : Relies state t o.word o.flag o.holder
  pub logged : Logged state log
  pub saved : SavedRight state suspension
  pub woken : woke ≡ state_woken? state

-- Of the monitor, by the word. DEPTH: a depth above 0 goes with a fat word, and then there is a holder. Threads and counts are in range.
abbrev pub MonitorOk : WordSeen → ℕ → ℕ → Type 0
MonitorOk Free holder depth = depth ≡ 0
MonitorOk Anonymous holder depth = depth ≡ 0
MonitorOk Fat holder depth = (depth ≤ depth_limit) × (0 < depth → holder ≢ 0)
MonitorOk (Flat owner c) holder depth = (depth ≡ 0) × (owner ≢ 0) × (c ≤ count_limit)
MonitorOk (Reserved owner c) holder depth = (depth ≡ 0) × (owner ≢ 0) × (c ≤ count_limit)

-- Of the flag and the contenders. FATFLAG: a fat word has flag 0. CONTFLAG: contenders only with flag 1. RES-CONT: none with a reserved word.
abbrev pub FlagOk : WordSeen → Bool → List ℕ → Type 0
FlagOk Free flag contention = flag ≡ false → contention ≡ []
FlagOk Anonymous flag contention = contention ≡ []
FlagOk Fat flag contention = (flag ≡ false) × (contention ≡ [])
FlagOk (Flat owner c) flag contention = flag ≡ false → contention ≡ []
FlagOk (Reserved owner c) flag contention = contention ≡ []

-- STRAND. Of the contenders of a free word: an exit has still to tell them, or somebody holds the monitor and will not leave it to nobody.
abbrev pub Told : (ℕ → ThreadState) → ℕ → List ℕ → Type 0
Told states holder entry = ((t : ℕ) × T (telling? (seat (states t)))) ⊎ ((holder ≢ 0) × (T (leaving? (seat (states holder))) → entry ≢ []))

abbrev pub Unstranded : WordSeen → (ℕ → ThreadState) → ℕ → List ℕ → List ℕ → Type 0
Unstranded Free states holder entry contention = contention ≢ [] → Told states holder entry
Unstranded Anonymous states holder entry contention = Unit {0}
Unstranded Fat states holder entry contention = Unit {0}
Unstranded (Flat owner c) states holder entry contention = Unit {0}
Unstranded (Reserved owner c) states holder entry contention = Unit {0}

pub record ObjectOk (states : ℕ → ThreadState) (o : ListObject) : Type 0 where
  pub nobody : states 0 ≡ Idle
  pub monitor : MonitorOk o.word o.holder o.depth
  pub empty : o.holder ≡ 0 → o.entry ≡ []
  pub flag : FlagOk o.word o.flag o.contention
  pub unstranded : Unstranded o.word states o.holder o.entry o.contention

pub record Invariant (states : ℕ → ThreadState) (o : ListObject) (ghost : Ghost) : Type 0 where
  pub threads : (t : ℕ) → ThreadOk t (states t) o (ghost.logs t) (ghost.woken t) (ghost.saved t)
  pub whole : ObjectOk states o

-- the plain monitor that the object shows
abbrev pub monitor_of : ListObject → Ghost → PlainMonitor
monitor_of o ghost = record { owner = object_owner o; depth = owned_depth o; waiting = o.waiting; woken = ghost.woken; saved = ghost.saved }

-- What is shown of a step of `thread`: the invariant is kept, with the plain monitor after it if the step commits, and the answer is the plain one.
pub record Refines (thread : ℕ) (operation : Operation) (states : ℕ → ThreadState) (o : ListObject) (ghost : Ghost) (performed : Performed) : Type 0 where
  pub outside : (t : ℕ) → t ≢ thread → states t ≡ Idle → performed.states t ≡ Idle
  pub committed : Committed
  pub woken : ℕ → Bool
  pub saved : ℕ → Suspension
  pub commits : T performed.commits → commit operation (ghost.logs thread).limit thread (monitor_of o ghost) ≡ committed
  pub invariant : Invariant performed.states performed.object
      (record { logs = update ghost.logs thread (log_after performed.commits (ghost.logs thread) committed.answer); woken = woken; saved = saved })
  pub monitor : pick performed.commits committed.monitor (monitor_of o ghost)
      ≡ monitor_of performed.object (record { logs = ghost.logs; woken = woken; saved = saved })
  pub ended : EndsRight operation performed.answer (log_after performed.commits (ghost.logs thread) committed.answer)
