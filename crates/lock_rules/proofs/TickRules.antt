-- A tick at one object keeps the invariant, and does what the plain monitors do at a tick.
use Prim.Native.Nat.{ℕ, zero, suc, ◌<◌}
use mathlib.Core.Path.{◌≡◌, refl, sym, ap, ◌∙◌, fun_ext}
use mathlib.Core.Logic.{◌≢◌}
use mathlib.Core.Bool.{Bool, true, false}
use mathlib.Core.List.{List, [], ◌∷◌}
use native.Mathlib.Omega.{arith}
use Rattle.laws.specs.Choice.{pick, both, either}
use Rattle.laws.specs.{Count.count, Filter.failing}
use Rattle.laws.proofs.Choice.{split, by_equal, either_way, equal?, false≢true}
use Rattle.laws.proofs.Count.{count_none}
use Rattle.laws.proofs.Filter.{failing_agree, count_passing}
use Rattle.chains.specs.declared.named.Chain.{Chain}
use Rattle.lock_rules.specs.Limits.{ticked, at_zero}
use Rattle.lock_rules.specs.PlainMonitor.{PlainMonitor, above_zero, ticked_saved, plain_tick}
use Rattle.lock_rules.specs.declared.{Suspension.Suspension, ThreadState.ThreadState}
use Rattle.lock_rules.specs.declared.ThreadState.TheVariants.{Idle, Waiting}
use Rattle.lock_rules.specs.declared.Taken.TheVariants.{First}
use Rattle.lock_word.specs.declared.meaning.WordSeen.{WordSeen}
use Rattle.lock_word.specs.declared.meaning.WordSeen.TheVariants.{Free, Anonymous, Fat, Flat, Reserved}
use Rattle.lock_rules.proofs.Changes.{handed}
use Rattle.lock_rules.proofs.Objects.{ListObject, empty, with_word}
use Rattle.lock_rules.proofs.Perform.{taken, left, first_of, count_taken, handed_object, handed_states}
use Rattle.lock_rules.proofs.Tick.{Ticked, run_out_in, aged, due, parting, expired, handed_if_free, tick_at, by_tick}
use Rattle.lock_rules.proofs.Invariant.{IsFat, Ghost, ThreadOk, Invariant, monitor_of}
use Rattle.lock_rules.proofs.Reliances.{is_waiting}
use Rattle.lock_rules.proofs.Membership.{PlacedAt, placed_unmoved, placed_left, not_first}
use Rattle.lock_rules.proofs.OtherThreads.{Others, others_ghost, others_moved, others_handed}
use Rattle.lock_rules.proofs.SharedFacts.{idle_changed, expired_idle, nobody_waits, fat_unowned}

-- an idle thread is left so
pub ticked_idle : (states : ℕ → ThreadState) (o : ListObject) (t : ℕ) → states t ≡ Idle → (tick_at states o).states t ≡ Idle
ticked_idle states o t idle =
    let after = expired states o in
    let still = expired_idle states o t idle in
    by_tick states o (λ result. result.states t ≡ Idle) idle (λ free. idle_changed handed refl after.states (taken First after.object.entry) t still)
    (λ held. still)

-- what the plain monitors know of the threads after the tick
abbrev pub ghost_after : ListObject → Ghost → Ghost
ghost_after o ghost = let plain = plain_tick (monitor_of o ghost) in record { logs = ghost.logs; woken = plain.woken; saved = plain.saved }

-- what is shown of a tick: the invariant is kept, and the plain monitor after it is the one that the object shows
abbrev pub Refines : ListObject → Ghost → Ticked → Type 0
Refines o ghost after =
    Invariant after.states after.object (ghost_after o ghost)
    × (plain_tick (monitor_of o ghost) ≡ monitor_of after.object (ghost_after o ghost))

-- nobody waits
module _ (states : ℕ → ThreadState) (o : ListObject) (ghost : Ghost) (none : o.waiting ≡ []) where
  unticked_woken : (plain_tick (monitor_of o ghost)).woken ≡ ghost.woken
  unticked_woken = fun_ext (λ t. rw (ap (count t) none ∙ count_none t) refl)

  unticked_saved : (plain_tick (monitor_of o ghost)).saved ≡ ghost.saved
  unticked_saved = fun_ext (λ t. rw (ap (count t) none ∙ count_none t) refl)

  unticked : Invariant states o ghost → Refines o ghost (record { states = states; object = o })
  unticked inv = (
    rw (unticked_woken, unticked_saved) inv,
    λ j.
        record {
          owner = (monitor_of o ghost).owner;
          depth = (monitor_of o ghost).depth;
          waiting = (ap (failing (λ t. at_zero (ticked_saved (monitor_of o ghost) t))) none ∙ sym none) j;
          woken = (plain_tick (monitor_of o ghost)).woken;
          saved = (plain_tick (monitor_of o ghost)).saved;
        },
  )

-- somebody waits, so the word is fat
module _ (states : ℕ → ThreadState) (it : ListObject) (ghost : Ghost) (inv : Invariant states (with_word it Fat) ghost) where
  abbrev o : ListObject
  o = with_word it Fat

  abbrev plain : PlainMonitor
  plain = monitor_of o ghost

  abbrev after : Ticked
  after = expired states o

  -- each of the waiting has lost one, in its state and in the plain monitor
  aged_ok : (t : ℕ) → ThreadOk t (aged states o t) o (ghost.logs t) (ghost.woken t) (ticked_saved plain t)
  aged_ok t = at (count t it.waiting) refl (inv.threads t)
    where
      at : (k : ℕ) → count t it.waiting ≡ k → ThreadOk t (states t) o (ghost.logs t) (ghost.woken t) (ghost.saved t)
          → ThreadOk t (aged states o t) o (ghost.logs t) (ghost.woken t) (ticked_saved plain t)
      at zero e a = rw e a
      at (suc k) e a =
          let (saved, v, c) = is_waiting (states t) k (sym a.placed.waiting ∙ e) in
          let b : ThreadOk t (Waiting saved) o (ghost.logs t) (ghost.woken t) (ghost.saved t) = rw v at a in
          rw (e, v)
          (record {
            seated = b.seated;
            placed = b.placed;
            relies = b.relies;
            logged = b.logged;
            saved = (ap ticked b.saved.0, b.saved.1, b.saved.2);
            woken = b.woken;
          })

  -- the same are at zero
  due_is : (t k : ℕ) → count t it.waiting ≡ suc k → due states o t ≡ at_zero (ticked_saved plain t)
  due_is t k e =
      let a = inv.threads t in
      let (saved, v, c) = is_waiting (states t) k (sym a.placed.waiting ∙ e) in
      let b : ThreadOk t (Waiting saved) o (ghost.logs t) (ghost.woken t) (ghost.saved t) = rw v at a in
      rw (e, v) (ap (λ (suspension : Suspension). at_zero (ticked suspension)) (sym b.saved.0))

  same_kept : failing (due states o) it.waiting ≡ failing (λ t. at_zero (ticked_saved plain t)) it.waiting
  same_kept = failing_agree (due states o) (λ t. at_zero (ticked_saved plain t)) it.waiting (λ t h. at t (count t it.waiting) refl h)
    where
      at : (t k : ℕ) → count t it.waiting ≡ k → 0 < k → due states o t ≡ at_zero (ticked_saved plain t)
      at t zero e h = absurd (omega (arith, h))
      at t (suc k) e h = due_is t k e

  -- and become woken
  same_woken : (t : ℕ) → either (above_zero (count t (parting states o).gone)) (ghost.woken t) ≡ (plain_tick plain).woken t
  same_woken t =
      rw (count_passing (due states o) it.waiting t)
      (ap (λ (b : Bool). either b (ghost.woken t)) (at (count t it.waiting) refl))
    where
      nobody : (b : Bool) → above_zero (pick b 0 0) ≡ false
      nobody true = refl
      nobody false = refl

      somebody : (b : Bool) (k : ℕ) → above_zero (pick b (suc k) 0) ≡ b
      somebody true k = refl
      somebody false k = refl

      at : (k : ℕ) → count t it.waiting ≡ k
          → above_zero (pick (due states o t) (count t it.waiting) 0) ≡ both (above_zero (count t it.waiting)) (at_zero (ticked_saved plain t))
      at zero e = rw e (nobody (run_out_in (states t)))
      at (suc k) e = rw (due_is t k e) (rw e (somebody _ k))

  others_after : Others 0 after.states after.object (ghost_after o ghost)
  others_after =
      others_ghost 0 after.states after.object _ (plain_tick plain).woken (plain_tick plain).saved (λ t n. sym (same_woken t)) (λ t n. refl)
      (others_moved 0 (aged states o) o (record { logs = ghost.logs; woken = ghost.woken; saved = ticked_saved plain }) Chain.Waiting (parting states o)
      (λ t n. aged_ok t))

  idle_zero : after.states 0 ≡ Idle
  idle_zero = expired_idle states o 0 inv.whole.nobody

  placed_zero : PlacedAt 0 Idle after.object
  placed_zero =
      let p : PlacedAt 0 Idle o = rw inv.whole.nobody at (inv.threads 0).placed in
      placed_unmoved 0 Idle o p Chain.Waiting (parting states o) (omega (arith, (parting states o).parted 0, p.waiting))

  asleep_zero : (plain_tick plain).woken 0 ≡ false
  asleep_zero =
      let p : PlacedAt 0 Idle o = rw inv.whole.nobody at (inv.threads 0).placed in
      let asleep : ghost.woken 0 ≡ false = rw inv.whole.nobody at (inv.threads 0).woken in
      rw (p.waiting, asleep) refl

  -- number 0 is no thread: it stays idle and in no chain
  with_zero : (result : Ticked) → Others 0 result.states result.object (ghost_after o ghost) → result.states 0 ≡ Idle → PlacedAt 0 Idle result.object
      → (t : ℕ) → ThreadOk t (result.states t) result.object (ghost.logs t) ((plain_tick plain).woken t) ((plain_tick plain).saved t)
  with_zero result others idle placed t =
      either_way (equal? t 0)
      (λ e. rw (e, idle) (record { seated = λ x z. absurd (z refl); placed = placed; relies = tt; logged = tt; saved = tt; woken = asleep_zero }))
      (others t)

  -- the monitor has a holder
  held_refines : it.holder ≢ 0 → Refines o ghost after
  held_refines held = (
    record {
      threads = with_zero after others_after idle_zero placed_zero;
      whole = record {
        nobody = idle_zero;
        monitor = inv.whole.monitor;
        empty = λ free. absurd (held free);
        flag = inv.whole.flag;
        unstranded = tt;
      };
    },
    λ j. record { owner = plain.owner; depth = plain.depth; waiting = sym same_kept j; woken = (plain_tick plain).woken; saved = (plain_tick plain).saved },
  )

  -- it has none, and is handed
  first_real : (queue : List ℕ) → count 0 queue ≡ 0 → first_of queue ≡ 0 → left First queue ≡ []
  first_real [] out zeroth = refl
  first_real (first ∷ rest) out zeroth = absurd ((not_first 0 first rest out).0 (sym zeroth))

  free_refines : it.holder ≡ 0 → Refines o ghost (record { states = handed_states after.states after.object; object = handed_object after.object })
  free_refines free =
      let result : Ticked = record { states = handed_states after.states after.object; object = handed_object after.object } in
      let queue = after.object.entry in
      let shallow : it.depth ≡ 0 = at it.depth inv.whole.monitor.1 in
      let idle : result.states 0 ≡ Idle = idle_changed handed refl after.states (taken First queue) 0 idle_zero in (
        record {
          threads = with_zero result (others_handed 0 after.states after.object (ghost_after o ghost) free idle_zero others_after) idle
              (placed_left 0 Idle after.object placed_zero (omega (arith, count_taken First queue 0, placed_zero.entry)));
          whole = record {
            nobody = idle;
            monitor = (omega arith, λ deep. absurd (omega (arith, deep)));
            empty = first_real queue placed_zero.entry;
            flag = inv.whole.flag;
            unstranded = tt;
          };
        },
        λ j.
            record {
              owner = fat_unowned it.holder it.depth shallow j;
              depth = shallow j;
              waiting = sym same_kept j;
              woken = (plain_tick plain).woken;
              saved = (plain_tick plain).saved;
            },
      )
    where
      at : (depth : ℕ) → (0 < depth → it.holder ≢ 0) → depth ≡ 0
      at zero deep = refl
      at (suc depth) deep = absurd (deep (omega arith) free)

  fat_refines : Refines o ghost (handed_if_free states o after)
  fat_refines = by_equal (Refines o ghost) it.holder 0 free_refines held_refines

-- A TICK AT AN OBJECT
pub tick_refines : (states : ℕ → ThreadState) (o : ListObject) (ghost : Ghost) → Invariant states o ghost → Refines o ghost (tick_at states o)
tick_refines states o ghost inv =
    split (empty o.waiting) (λ none. rw none (unticked states o ghost (nobody o.waiting none) inv)) (λ some. rw some (by_word o o.word inv some))
  where
    nobody : (list : List ℕ) → empty list ≡ true → list ≡ []
    nobody [] e = refl
    nobody (first ∷ rest) e = false≢true e

    thin : (it : ListObject) (word : WordSeen) → Invariant states (with_word it word) ghost → (IsFat word → ⊥) → empty it.waiting ≡ false
        → Refines (with_word it word) ghost (handed_if_free states (with_word it word) (expired states (with_word it word)))
    thin it word inv none some = false≢true (sym some ∙ ap empty (nobody_waits states (with_word it word) ghost inv none))

    by_word : (it : ListObject) (word : WordSeen) → Invariant states (with_word it word) ghost → empty it.waiting ≡ false
        → Refines (with_word it word) ghost (handed_if_free states (with_word it word) (expired states (with_word it word)))
    by_word it Free inv some = thin it Free inv (λ k. k) some
    by_word it Anonymous inv some = thin it Anonymous inv (λ k. k) some
    by_word it Fat inv some = fat_refines states it ghost inv
    by_word it (Flat owner c) inv some = thin it (Flat owner c) inv (λ k. k) some
    by_word it (Reserved owner c) inv some = thin it (Reserved owner c) inv (λ k. k) some
