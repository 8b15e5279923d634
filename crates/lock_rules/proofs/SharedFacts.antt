-- Facts that the rules share: what a new word owes to the others, when contenders are not stranded, who owns, and who stays idle.
use Prim.Native.Nat.{ℕ, zero, suc, ◌+◌, ◌<◌}
use mathlib.Core.Path.{◌≡◌, refl, sym, ap, ◌∙◌}
use mathlib.Core.Logic.{◌≢◌, inl, inr}
use mathlib.Core.Bool.{Bool, true, false}
use mathlib.Core.List.{List, [], ◌∷◌}
use native.Mathlib.Omega.{arith}
use lib.Dec.{T, eqb}
use lib.ListN.{length}
use borrow.Author.Tests.{eq-eqb, ne_eqb}
use Rattle.laws.specs.{Choice.pick, Update.update, Count.count}
use Rattle.laws.proofs.Choice.{equal?, Equal, equal, either_way}
use Rattle.laws.proofs.Update.{update_same, update_other}
use Rattle.laws.proofs.Count.{count_same}
use Rattle.lock_word.specs.Meaning.{owner_of}
use Rattle.lock_rules.specs.declared.{Suspension.Suspension, ThreadState.ThreadState}
use Rattle.lock_rules.specs.declared.ThreadState.TheVariants.{Idle, Waiting}
use Rattle.lock_word.specs.declared.meaning.WordSeen.{WordSeen}
use Rattle.lock_word.specs.declared.meaning.WordSeen.TheVariants.{Free, Anonymous, Fat, Flat, Reserved}
use Rattle.lock_rules.specs.PlainMonitor.{PlainMonitor}
use Rattle.lock_rules.proofs.Tick.{one_tick_less, expired, expired_so}
use Rattle.lock_rules.proofs.{Each.each_word, Changes.moved, Objects.ListObject, Reliances.KeepsReliance, Reliances.is_waiting}
use Rattle.lock_rules.proofs.Perform.{enter_queue, entered≢nil, changed_states, changed_so}
use Rattle.lock_rules.proofs.Invariant.{seat, telling?, leaving?, in_entry, in_waiting, Ghost, IsFat, ThreadOk}
use Rattle.lock_rules.proofs.Invariant.{FlatOf, Thin, KeptWord, MonitorOk, FlagOk, Told, Unstranded, Invariant}

-- what a new word owes to another thread t than the one that steps
module _ (state : ThreadState) (thread t holder : ℕ) (n : t ≢ thread) where
  other : {A : Type 0} {owner : ℕ} → owner ≡ thread → owner ≡ t → A
  other q e = absurd (n (sym e ∙ q))

  pub keeps_taken : (c : ℕ) → KeepsReliance state t Free (Flat thread c) holder
  keeps_taken c = search (absurd, sym)

  pub keeps_flat : (owner c d : ℕ) → owner ≡ thread → KeepsReliance state t (Flat owner c) (Flat thread d) holder
  keeps_flat owner c d q =
      let flat : FlatOf t (Flat owner c) → FlatOf t (Flat thread d) = λ a. other q a in search (flat, sym)

  pub keeps_freed : (owner c : ℕ) → owner ≡ thread → KeepsReliance state t (Flat owner c) Free holder
  keeps_freed owner c q = search (other)

  pub keeps_anonymous : (word : WordSeen) → KeepsReliance state t Anonymous word holder
  keeps_anonymous word = search absurd

  pub keeps_reserved : (owner c d : ℕ) → owner ≡ thread → KeepsReliance state t (Reserved owner c) (Reserved thread d) holder
  keeps_reserved owner c d q =
      let kept : (e : ℕ) → KeptWord t e (Reserved owner c) → KeptWord t e (Reserved thread d) = λ e a. other q a.0 in search kept

  -- a monitor that its holder leaves, with nobody in a chain
  pub keeps_deflated : holder ≡ thread → in_entry state ≡ 0 → in_waiting state ≡ 0 → KeepsReliance state t Fat Free holder
  keeps_deflated q x y = search (absurd, other, arith)

-- the contenders of a free word, when the thread goes from one state to another
told_moved : (states : ℕ → ThreadState) (thread : ℕ) (old new : ThreadState) (holder : ℕ) (entry : List ℕ) → states thread ≡ old
    → (T (telling? (seat old)) → T (telling? (seat new))) → (T (leaving? (seat new)) → holder ≡ thread → entry ≢ [])
    → Told states holder entry → Told (update states thread new) holder entry
told_moved states thread old new holder entry e keep last (inl (t, k)) =
    inl (t, either_way (equal? t thread) (λ q. rw (q, update_same states thread new) (keep (rw (q, e) at k))) (λ n. rw (update_other states thread new t n) k))
told_moved states thread old new holder entry e keep last (inr (z, l)) =
    inr (z, either_way (equal? holder thread) (λ q. rw (q, update_same states thread new) (λ k. last k q)) (λ n. rw (update_other states thread new holder n) l))

pub unstranded_moved : (word : WordSeen) (states : ℕ → ThreadState) (thread : ℕ) (old new : ThreadState) (holder : ℕ) (entry contention : List ℕ)
    → states thread ≡ old
    → (T (telling? (seat old)) → T (telling? (seat new))) → (T (leaving? (seat new)) → holder ≡ thread → entry ≢ [])
    → Unstranded word states holder entry contention → Unstranded word (update states thread new) holder entry contention
unstranded_moved word states thread old new holder entry contention e keep last =
    each_word (λ w. Unstranded w states holder entry contention → Unstranded w (update states thread new) holder entry contention)
    (λ r c. told_moved states thread old new holder entry e keep last (r c), search, search, search, search) word

pub unstranded_told : (word : WordSeen) (states : ℕ → ThreadState) (holder : ℕ) (entry contention : List ℕ) → (contention ≢ [] → Told states holder entry)
    → Unstranded word states holder entry contention
unstranded_told word states holder entry contention = each_word (λ w. (contention ≢ [] → Told states holder entry) → Unstranded w states holder entry contention) (search) word

-- nobody contends; the thread holds the monitor and does not leave; somebody has just joined entry
pub unstranded_empty : (word : WordSeen) (states : ℕ → ThreadState) (holder : ℕ) (entry contention : List ℕ) → contention ≡ []
    → Unstranded word states holder entry contention
unstranded_empty word states holder entry contention e = unstranded_told word states holder entry contention (λ c. absurd (c e))

pub unstranded_held : (word : WordSeen) (states : ℕ → ThreadState) (thread : ℕ) (state : ThreadState) (entry contention : List ℕ) → thread ≢ 0
    → (T (leaving? (seat state)) → ⊥) → Unstranded word (update states thread state) thread entry contention
unstranded_held word states thread state entry contention z stays =
    unstranded_told word (update states thread state) thread entry contention (λ c. inr (z, rw (update_same states thread state) (λ l. absurd (stays l))))

pub unstranded_joined : (word : WordSeen) (states : ℕ → ThreadState) (first holder : ℕ) (rank : ℕ → ℕ) (entry contention : List ℕ) → holder ≢ 0
    → Unstranded word states holder (enter_queue rank entry first) contention
unstranded_joined word states first holder rank entry contention z =
    unstranded_told word states holder (enter_queue rank entry first) contention (λ c. inr (z, λ k. entered≢nil rank entry first))

pub flag_down : (word : WordSeen) (contention : List ℕ) → FlagOk word false contention → contention ≡ []
flag_down word contention = each_word (λ w. FlagOk w false contention → contention ≡ []) (search, search, λ x. x.1, search, search) word

-- nobody holds the monitor: its depth is 0
pub unheld : (word : WordSeen) (holder depth : ℕ) → MonitorOk word holder depth → holder ≡ 0 → depth ≡ 0
unheld Free holder depth m e = m
unheld Anonymous holder depth m e = m
unheld Fat holder zero m e = refl
unheld Fat holder (suc depth) m e = absurd (m.1 (omega arith) e)
unheld (Flat owner c) holder depth m e = m.0
unheld (Reserved owner c) holder depth m e = m.0

pub monitor_handed : (word : WordSeen) (holder next depth : ℕ) → MonitorOk word holder depth → MonitorOk word next 0
monitor_handed word holder next depth =
    each_word (λ w. MonitorOk w holder depth → MonitorOk w next 0)
    (search, search, λ m. (omega arith, λ k. absurd (omega arith)), λ owner c m. (refl, m.1, m.2), λ owner c m. (refl, m.1, m.2)) word

-- who owns: at depth 0 the holder does not matter; a fat word at a depth above 0 has its holder as owner; a reserved word with a count its thread
pub owner_shallow : (word : WordSeen) (holder next : ℕ) → owner_of word holder 0 ≡ owner_of word next 0
owner_shallow word holder next = each_word (λ w. owner_of w holder 0 ≡ owner_of w next 0) (search) word

pub fat_owner : (holder depth : ℕ) → 0 < depth → owner_of Fat holder depth ≡ holder
fat_owner holder depth l = rw (ne_eqb depth 0 (omega (arith, l)))

pub fat_unowned : (holder depth : ℕ) → depth ≡ 0 → owner_of Fat holder depth ≡ 0
fat_unowned holder depth e = rw (eq-eqb depth 0 e)

pub reserved_owner : (owner c holder depth : ℕ) → 0 < c → owner_of (Reserved owner c) holder depth ≡ owner
reserved_owner owner c holder depth l = rw (ne_eqb c 0 (omega (arith, l)))

pub reserved_unowned : (owner c holder depth : ℕ) → c ≡ 0 → owner_of (Reserved owner c) holder depth ≡ 0
reserved_unowned owner c holder depth e = rw (eq-eqb c 0 e)

-- the owner of a fat or a reserved word
pub fat_owned : (holder depth thread : ℕ) → thread ≢ 0 → owner_of Fat holder depth ≡ thread → (0 < depth) × (holder ≡ thread)
fat_owned holder depth thread z e = at (eqb depth 0) (equal depth 0) e
  where
    at : (b : Bool) → Equal b depth 0 → pick b 0 holder ≡ thread → (0 < depth) × (holder ≡ thread)
    at true q e = absurd (z (sym e))
    at false q e = (omega (arith, q), e)

pub reserved_owned : (owner c thread : ℕ) → thread ≢ 0 → owner_of (Reserved owner c) 0 0 ≡ thread → (0 < c) × (owner ≡ thread)
reserved_owned owner c thread z e = fat_owned owner c thread z e

-- the first commit of an operation, and the second one of a wait
pub first_commit : {n : ℕ} → n ≡ 0 → n + 1 ≡ 1
first_commit e = ap (λ k. k + 1) e

pub second_commit : {n : ℕ} → n ≡ 1 → n + 1 ≡ 2
second_commit e = ap (λ k. k + 1) e

-- nobody is in the list
pub none : (xs : List ℕ) → length xs ≡ 0 → xs ≡ []
none [] e = refl
none (x ∷ xs) e = absurd (omega (arith, e))

-- a thread that was idle still is, where states are changed by a function that leaves idle as it is
pub idle_changed : (change : ThreadState → ThreadState) → change Idle ≡ Idle → (states : ℕ → ThreadState) (list : List ℕ) (t : ℕ) → states t ≡ Idle
    → changed_states change states list t ≡ Idle
idle_changed change fixed = changed_so (λ before after. before ≡ Idle → after ≡ Idle) (λ state e. e) change (λ state e. ap change e ∙ fixed)

-- and at a tick, until a monitor is handed
pub expired_idle : (states : ℕ → ThreadState) (o : ListObject) (t : ℕ) → states t ≡ Idle → (expired states o).states t ≡ Idle
expired_idle states o =
    expired_so states o (λ before after. before ≡ Idle → after ≡ Idle) (λ state e. e) (λ a b c first second e. second (first e)) (λ state e. ap one_tick_less e)
    (λ state e. ap moved e)

module _ (states : ℕ → ThreadState) (o : ListObject) (ghost : Ghost) (inv : Invariant states o ghost) where
  pub first_queued : (first : ℕ) (rest : List ℕ) → o.entry ≡ first ∷ rest → (first ≢ 0) × (in_entry (states first) ≡ suc (count first rest))
  first_queued first rest e =
      let c : in_entry (states first) ≡ suc (count first rest) = sym (inv.threads first).placed.entry ∙ (ap (count first) e ∙ count_same first rest) in
      (λ q. (let b : in_entry (states 0) ≡ suc (count 0 rest) = rw q at c in absurd (omega (arith, rw inv.whole.nobody at b))), c)

  -- only a fat word has waiters
  pub nobody_waits : (IsFat o.word → ⊥) → o.waiting ≡ []
  nobody_waits thin = at o.waiting refl
    where
      at : (waiters : List ℕ) → o.waiting ≡ waiters → waiters ≡ []
      at [] e = refl
      at (first ∷ rest) e =
          let (saved, v, u) = is_waiting (states first) (count first rest) (sym (inv.threads first).placed.waiting ∙ (ap (count first) e ∙ count_same first rest)) in
          let b : ThreadOk first (Waiting saved) o (ghost.logs first) (ghost.woken first) (ghost.saved first) = rw v at (inv.threads first) in
          absurd (thin b.relies)

-- two plain monitors with the same waiting, woken and saved
pub same_monitor : {owner owner' depth depth' : ℕ} {waiting : List ℕ} {woken : ℕ → Bool} {saved : ℕ → Suspension} → owner ≡ owner' → depth ≡ depth'
    → ◌≡◌ {A = PlainMonitor} (record { owner = owner; depth = depth; waiting = waiting; woken = woken; saved = saved })
    (record { owner = owner'; depth = depth'; waiting = waiting; woken = woken; saved = saved })
same_monitor {waiting = waiting} {woken = woken} {saved = saved} p q = λ k. record { owner = p k; depth = q k; waiting = waiting; woken = woken; saved = saved }

-- a word that is free or flat goes with depth 0
pub thin_shallow : (holder depth : ℕ) (word : WordSeen) → Thin word → MonitorOk word holder depth → depth ≡ 0
thin_shallow holder depth = each_word _ (λ thin m. m, λ thin. absurd thin, λ thin. absurd thin, λ owner c thin m. m.0, λ owner c thin. absurd thin)
