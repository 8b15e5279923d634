-- A tick at one object keeps it sound: its chains, its monitor, and the states of the threads at it.
use Prim.Native.Nat.{ℕ, zero, suc, ◌≤◌, ◌<◌}
use mathlib.Core.Path.{◌≡◌, refl, sym, ◌∙◌}
use mathlib.Core.Logic.{◌≢◌}
use mathlib.Core.Bool.{Bool, true, false}
use native.Mathlib.Omega.{arith}
use Rattle.laws.specs.{Choice.pick, Count.count}
use Rattle.laws.proofs.Choice.{either_way, equal?, above_zero as some_left}
use Rattle.laws.proofs.Filter.{count_passing}
use Rattle.chains.specs.declared.named.Chain.{Chain}
use Rattle.lock_rules.specs.Limits.{one_less, ticked, no_ticks, at_zero}
use Rattle.lock_rules.specs.PlainMonitor.{above_zero}
use Rattle.lock_rules.specs.declared.{Limit.Limit, Suspension.Suspension, ThreadState.ThreadState}
use Rattle.lock_rules.specs.declared.Limit.TheVariants.{Unlimited, Ticks}
use Rattle.lock_rules.specs.declared.ThreadState.TheVariants.{Idle, Waiting}
use Rattle.lock_rules.specs.declared.Taken.TheVariants.{First}
use Rattle.lock_rules.proofs.Changes.{moved, handed}
use Rattle.lock_rules.proofs.Objects.{ListObject, empty}
use Rattle.lock_rules.proofs.Perform.{taken, count_taken, count_entered_all, falling_entered, handed_object, handed_states}
use Rattle.lock_rules.proofs.Tick.{Ticked, run_out_in, aged, due, parting, expired, tick_at, by_tick}
use Rattle.lock_rules.proofs.Reliances.{is_waiting}
use Rattle.lock_rules.proofs.Membership.{PlacedAt, Members, placed_unmoved, placed_left, members_moved, members_handed}
use Rattle.lock_rules.proofs.SharedFacts.{idle_changed, expired_idle}
use Rattle.lock_rules.proofs.ListSound.{LimitFine, LeftFine, WaitingFine, StateFine, SoundObject}
use Rattle.lock_rules.proofs.SoundPerform.{handed_fine, changed_fine, whole_handed, falling_left, Ordered}

-- a limit that has run out, and one that has not
one_less_left : (limit : Limit) → LimitFine limit → LeftFine (one_less limit)
unfolding one_less
one_less_left Unlimited fine = tt
one_less_left (Ticks left) fine = omega (arith, fine.1)

one_less_fine : (limit : Limit) → LimitFine limit → no_ticks (one_less limit) ≡ false → LimitFine (one_less limit)
unfolding one_less no_ticks
one_less_fine Unlimited fine more = tt
one_less_fine (Ticks left) fine more = (some_left _ more, omega (arith, fine.1))

module _ (threads : ℕ) (states : ℕ → ThreadState) (o : ListObject) (sound : SoundObject threads states o) where
  abbrev after : Ticked
  after = expired states o

  -- the waiting wait on while they lose one
  aged_placed : Members 0 (aged states o) o
  aged_placed t n = at (count t o.waiting) refl (sound.placed t)
    where
      at : (k : ℕ) → count t o.waiting ≡ k → PlacedAt t (states t) o → PlacedAt t (aged states o t) o
      at zero e p = rw e p
      at (suc k) e p =
          let (saved, v, c) = is_waiting (states t) k (sym p.waiting ∙ e) in
          let q : PlacedAt t (Waiting saved) o = rw v at p in
          rw (e, v) (record { entry = q.entry; contention = q.contention; waiting = q.waiting })

  -- a thread that waits is moved where it is at zero
  expired_fine : ((t : ℕ) → StateFine (states t)) → (t : ℕ) → StateFine (after.states t)
  expired_fine fine t = rw (count_passing (due states o) o.waiting t) (at (count t o.waiting) refl (sound.placed t) (fine t))
    where
      waited : (b : Bool) (saved : Suspension) (k : ℕ) → at_zero (ticked saved) ≡ b → WaitingFine saved
          → StateFine (pick (above_zero (pick b (suc k) 0)) (moved (Waiting (ticked saved))) (Waiting (ticked saved)))
      waited true saved k e fine = (fine.0, fine.1, one_less_left saved.limit fine.2)
      waited false saved k e fine = (fine.0, fine.1, one_less_fine saved.limit fine.2 e)

      elsewhere : (b : Bool) (state : ThreadState) → StateFine state → StateFine (pick (above_zero (pick b 0 0)) (moved state) state)
      elsewhere true state fine = fine
      elsewhere false state fine = fine

      at : (k : ℕ) → count t o.waiting ≡ k → PlacedAt t (states t) o → StateFine (states t)
          → StateFine (pick (above_zero (pick (due states o t) (count t o.waiting) 0)) (moved (aged states o t)) (aged states o t))
      at zero e p fine = rw e (elsewhere (run_out_in (states t)) (states t) fine)
      at (suc k) e p fine =
          let (saved, v, c) = is_waiting (states t) k (sym p.waiting ∙ e) in
          let waiting : WaitingFine saved = rw v at fine in
          rw (e, v) (waited (at_zero (ticked saved)) saved k refl waiting)

  pub ticked_fine : ((t : ℕ) → StateFine (states t)) → (t : ℕ) → StateFine ((tick_at states o).states t)
  ticked_fine fine t =
      by_tick states o (λ result. StateFine (result.states t)) (fine t)
      (λ free. changed_fine after.states (expired_fine fine) handed handed_fine (taken First after.object.entry) t) (λ held. expired_fine fine t)

  idle_zero : after.states 0 ≡ Idle
  idle_zero = expired_idle states o 0 sound.nobody

  placed_zero : PlacedAt 0 Idle after.object
  placed_zero =
      let p : PlacedAt 0 Idle o = rw sound.nobody at (sound.placed 0) in
      placed_unmoved 0 Idle o p Chain.Waiting (parting states o) (omega (arith, (parting states o).parted 0, p.waiting))

  -- number 0 is in no chain
  with_zero : (result : Ticked) → Members 0 result.states result.object → result.states 0 ≡ Idle → PlacedAt 0 Idle result.object → (t : ℕ)
      → PlacedAt t (result.states t) result.object
  with_zero result members idle placed t = either_way (equal? t 0) (λ e. rw (e, idle) placed) (members t)

  members_after : Members 0 after.states after.object
  members_after = members_moved 0 (aged states o) o aged_placed Chain.Waiting (parting states o)

  -- every thread is in the chain that its state names when those that ran out have moved
  pub expired_placed : (t : ℕ) → PlacedAt t (after.states t) after.object
  expired_placed = with_zero after members_after idle_zero placed_zero

  module _ (entry_in : (t : ℕ) → 0 < count t o.entry → (0 < t) × (t ≤ threads)) (waiting_in : (t : ℕ) → 0 < count t o.waiting → (0 < t) × (t ≤ threads)) where
    queue_in : (t : ℕ) → 0 < count t after.object.entry → (0 < t) × (t ≤ threads)
    queue_in t h =
        either_way (equal? (count t o.entry) 0)
        (λ none. waiting_in t (omega (arith, h, none, count_entered_all t o.rank o.entry (parting states o).gone, (parting states o).parted t)))
        (λ some. entry_in t (omega (arith, some)))

    held_order : Ordered after.object
    held_order = falling_entered o.rank o.entry (parting states o).gone sound.ordered

    held_sound : o.holder ≢ 0 → SoundObject threads after.states after.object
    held_sound held =
        record {
          nobody = idle_zero;
          placed = expired_placed;
          word = sound.word;
          holder = sound.holder;
          deep = sound.deep;
          shallow = sound.shallow;
          empty = λ free. absurd (held free);
          ordered = held_order;
        }

    free_sound : SoundObject threads (handed_states after.states after.object) (handed_object after.object)
    free_sound =
        let queue = after.object.entry in
        let (word, holder, deep, shallow, empty) = whole_handed threads after.object queue_in sound.word in
        let idle = idle_changed handed refl after.states (taken First queue) 0 idle_zero in
        record {
          nobody = idle;
          placed = with_zero (record { states = handed_states after.states after.object; object = handed_object after.object })
              (members_handed 0 after.states after.object members_after) idle
              (placed_left 0 Idle after.object placed_zero (omega (arith, count_taken First queue 0, placed_zero.entry)));
          word = word;
          holder = holder;
          deep = deep;
          shallow = shallow;
          empty = empty;
          ordered = falling_left o.rank First queue held_order;
        }

    pub ticked_sound : SoundObject threads (tick_at states o).states (tick_at states o).object
    ticked_sound = by_tick states o (λ result. SoundObject threads result.states result.object) sound (λ free. free_sound) held_sound
