-- What a thread relies on and where it sits, after a change that another thread makes: of the holder or depth, of the flag, of the word.
use Prim.Native.Nat.{ℕ, suc, ◌+◌, ◌<◌}
use mathlib.Core.Path.{◌≡◌, refl, sym, ◌∙◌}
use mathlib.Core.Logic.{◌≢◌}
use mathlib.Core.Bool.{Bool, true, false, true≢false}
use native.Mathlib.Omega.{arith}
use Rattle.lock_rules.proofs.Each.{each_doing, each_state, each_carried, each_word}
use Rattle.lock_rules.proofs.Changes.{look_again, is_queued_exit}
use Rattle.lock_rules.specs.declared.{Suspension.Suspension, OnwardStep.OnwardStep, Doing.Doing, ThreadState.ThreadState}
use Rattle.lock_rules.specs.declared.OnwardStep.TheVariants.{ToCheck, ToTell, ToInflate, ToResume}
use Rattle.lock_rules.specs.declared.ThreadState.TheVariants.{Idle, Running, Queued, Contending, Waiting}
use Rattle.lock_word.specs.declared.meaning.WordSeen.{WordSeen}
use Rattle.lock_word.specs.declared.meaning.WordSeen.TheVariants.{Fat, Reserved}
use Rattle.lock_rules.proofs.Invariant.{Seat, outside, parked, telling, holding, leaving, owning, Reliance, anything, unreserved, own_flat}
use Rattle.lock_rules.proofs.Invariant.{held_fat, trying, kept_to_enter, kept_to_exit, phase_row, in_entry, in_contention, in_waiting}
use Rattle.lock_rules.proofs.Invariant.{Seated, Unreserved, FlatOf, IsFat, NotOwn, Thin, KeptWord, ReliesOn, Relies}

-- the holder i changes the depth
pub seated_depth : (s : Seat) (i t holder depth new : ℕ) → t ≢ i → holder ≡ i → Seated s t holder depth → Seated s t holder new
seated_depth outside i t holder depth new away q a = λ e z. absurd (away (sym e ∙ q))
seated_depth parked i t holder depth new away q a = a
seated_depth telling i t holder depth new away q a = a
seated_depth holding i t holder depth new away q a = absurd (away (sym a.0 ∙ q))
seated_depth leaving i t holder depth new away q a = absurd (away (sym a.0 ∙ q))
seated_depth owning i t holder depth new away q a = absurd (away (sym a.0 ∙ q))

-- the holder changes, and t is neither the old nor the new one
pub seated_handed : (s : Seat) (t holder depth next new : ℕ) → (holder ≡ t → t ≢ 0 → ⊥) → (next ≡ t → t ≢ 0 → ⊥) → Seated s t holder depth → Seated s t next new
seated_handed outside t holder depth next new was is a = λ e z. absurd (is e z)
seated_handed parked t holder depth next new was is a = (λ e. is e a.1, a.1)
seated_handed telling t holder depth next new was is a = (λ e. is e a.1, a.1)
seated_handed holding t holder depth next new was is a = absurd (was a.0 a.2)
seated_handed leaving t holder depth next new was is a = absurd (was a.0 a.2)
seated_handed owning t holder depth next new was is a = absurd (was a.0 a.2)

kept_reserved : (t c : ℕ) (word : WordSeen) → Unreserved word → KeptWord t c word → ⊥
kept_reserved t c = each_word _ (search)

pub not_own_unreserved : (t : ℕ) (word : WordSeen) → NotOwn t word → Unreserved word
not_own_unreserved t = each_word _ (search)

pub flat_thin : (t : ℕ) (word : WordSeen) → FlatOf t word → Thin word
flat_thin t = each_word _ (search)

pub thin_unreserved : (word : WordSeen) → Thin word → Unreserved word
thin_unreserved = each_word _ (search)

-- what a new word owes to thread t in this state
pub record KeepsReliance (state : ThreadState) (t : ℕ) (word word' : WordSeen) (holder : ℕ) : Type 0 where
  pub unreserved : Unreserved word → Unreserved word'
  pub flat : FlatOf t word → FlatOf t word'
  pub chained : 0 < in_entry state + in_waiting state → IsFat word → IsFat word'
  pub held : holder ≡ t → IsFat word → IsFat word'
  pub not_own : NotOwn t word → NotOwn t word'
  pub kept : (c : ℕ) → KeptWord t c word → KeptWord t c word'
  pub thin : Thin word → Thin word'

-- what holds of each reliance holds of all
each_reliance : (P : Reliance → Type 0)
    → P anything × P unreserved × P own_flat × P held_fat × P trying × ((c : ℕ) → P (kept_to_enter c)) × ((c : ℕ) → P (kept_to_exit c)) → (k : Reliance) → P k
each_reliance P all anything = all.0
each_reliance P all unreserved = all.1
each_reliance P all own_flat = all.2
each_reliance P all held_fat = all.3
each_reliance P all trying = all.4
each_reliance P all (kept_to_enter c) = all.5 c
each_reliance P all (kept_to_exit c) = all.6 c

module _ (t : ℕ) (word : WordSeen) (flag : Bool) (holder : ℕ) where
  -- the flag becomes 1
  relies_on_flag : (k : Reliance) → ReliesOn k t word flag holder → ReliesOn k t word true holder
  relies_on_flag = each_reliance _ (search, search, search, search, λ a. (a.0, a.1, a.2, refl), search, search)

  pub relies_flag : (state : ThreadState) → Relies state t word flag holder → Relies state t word true holder
  relies_flag =
      each_state _ (search, λ doing. relies_on_flag (phase_row doing).reliance, each_carried _ (search), search, search)

  -- the holder changes, and t was not the holder
  relies_on_handed : (next : ℕ) → (holder ≡ t → t ≢ 0 → ⊥) → (k : Reliance) → ReliesOn k t word flag holder → ReliesOn k t word flag next
  relies_on_handed next was =
      each_reliance _ (search, search, search, λ a. absurd (was a.1 a.2), λ a. absurd (was a.1 a.2), search, search)

  pub relies_handed : (next : ℕ) → (holder ≡ t → t ≢ 0 → ⊥) → (state : ThreadState) → Relies state t word flag holder → Relies state t word flag next
  relies_handed next was =
      each_state _ (search, λ doing. relies_on_handed next was (phase_row doing).reliance, each_carried _ (search), search, search)

  -- the word changes
  relies_on_word : (state : ThreadState) (word' : WordSeen) → KeepsReliance state t word word' holder → (k : Reliance)
      → ReliesOn k t word flag holder → ReliesOn k t word' flag holder
  relies_on_word state word' keeps anything a = tt
  relies_on_word state word' keeps unreserved a = keeps.unreserved a
  relies_on_word state word' keeps own_flat a = keeps.flat a
  relies_on_word state word' keeps held_fat a = (keeps.held a.1 a.0, a.1, a.2)
  relies_on_word state word' keeps trying a = (keeps.not_own a.0, a.1, a.2, a.3)
  relies_on_word state word' keeps (kept_to_enter c) a = (keeps.kept c a.0, a.1)
  relies_on_word state word' keeps (kept_to_exit c) a = (keeps.kept c a.0, a.1)

  pub relies_word : (state : ThreadState) (word' : WordSeen) → KeepsReliance state t word word' holder → Relies state t word flag holder
      → Relies state t word' flag holder
  relies_word Idle word' keeps a = tt
  relies_word (Running doing) word' keeps a = relies_on_word (Running doing) word' keeps (phase_row doing).reliance a
  relies_word (Queued ToCheck) word' keeps a = keeps.unreserved a
  relies_word (Queued ToTell) word' keeps a = keeps.thin a
  relies_word (Queued (ToInflate limit)) word' keeps a = keeps.flat a
  relies_word (Queued (ToResume saved)) word' keeps a = keeps.chained (omega arith) a
  relies_word Contending word' keeps a = keeps.not_own a
  relies_word (Waiting saved) word' keeps a = keeps.chained (omega arith) a

  -- the word becomes fat and the flag 0, by another holder than t, who is no contender, is no queued exit and does not own the word
  relies_on_inflated : (holder ≡ t → t ≢ 0 → ⊥) → (FlatOf t word → ⊥) → Unreserved word → (k : Reliance)
      → ReliesOn k t word flag holder → ReliesOn k t Fat false holder
  relies_on_inflated other foreign u =
      let kept : (c : ℕ) → KeptWord t c word → ⊥ = λ c. kept_reserved t c word u in
      each_reliance _ (
        search,
        search,
        λ a. absurd (foreign a),
        λ a. absurd (other a.1 a.2),
        λ a. absurd (other a.1 a.2),
        λ c a. absurd (kept c a.0),
        λ c a. absurd (kept c a.0),
      )

  pub relies_inflated : (holder ≡ t → t ≢ 0 → ⊥) → (FlatOf t word → ⊥) → Unreserved word → (state : ThreadState) → in_contention state ≡ 0
      → is_queued_exit state ≡ false → Relies state t word flag holder → Relies state t Fat false holder
  relies_inflated other foreign u =
      each_state _ (
        search,
        λ doing none stays. relies_on_inflated other foreign u (phase_row doing).reliance,
        each_carried _ (search, λ none stays. absurd (true≢false stays), λ limit none stays a. absurd (foreign a), search),
        λ none. absurd (omega (arith, none)),
        search,
      )

-- the thread of a cancelled word goes back from its store
pub relies_sent_back : (t c : ℕ) (word' : WordSeen) (flag : Bool) (holder : ℕ) (doing : Doing)
    → ReliesOn (phase_row doing).reliance t (Reserved t c) flag holder
    → ReliesOn (phase_row (look_again doing)).reliance t word' flag holder
relies_sent_back t c word' flag holder =
    each_doing _ (
      (search, search, search, λ a. absurd a, λ a. absurd a, λ a. absurd a.0),
      (search absurd),
      (search, search, λ limit a. absurd a, λ limit a. absurd a, λ limit a. absurd a.0, λ saved a. absurd a.0),
      search,
      search,
    )

-- going back changes only what the thread relies on
pub sent_back_row : (doing : Doing)
    → ((phase_row (look_again doing)).operation ≡ (phase_row doing).operation) × ((phase_row (look_again doing)).seat ≡ (phase_row doing).seat)
    × ((phase_row (look_again doing)).stage ≡ (phase_row doing).stage) × ((phase_row (look_again doing)).saved ≡ (phase_row doing).saved)
    × ((phase_row (look_again doing)).limit ≡ (phase_row doing).limit)
sent_back_row = each_doing _ (search)

-- who is in a chain
no_more : {A : Type 0} {n : ℕ} → 0 ≡ suc n → A
no_more e = absurd (omega arith)

pub is_queued : (state : ThreadState) (n : ℕ) → in_entry state ≡ suc n → (carried : OnwardStep) × (state ≡ Queued carried) × (n ≡ 0)
is_queued = each_state _ (search no_more, search no_more, λ carried n e. (carried, refl, omega arith), search no_more, search no_more)

pub is_contending : (state : ThreadState) (n : ℕ) → in_contention state ≡ suc n → (state ≡ Contending) × (n ≡ 0)
is_contending = each_state _ (search no_more, search no_more, search no_more, λ n e. (refl, omega arith), search no_more)

pub is_waiting : (state : ThreadState) (n : ℕ) → in_waiting state ≡ suc n → (suspension : Suspension) × (state ≡ Waiting suspension) × (n ≡ 0)
is_waiting = each_state _ (search no_more, search no_more, search no_more, search no_more, λ saved n e. (saved, refl, omega arith))
