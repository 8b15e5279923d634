-- A thread parked inside an exit, by its record, is a queued exit, and so waits for the holder that the lists have.
use Prim.Native.Nat.{ℕ}
use mathlib.Core.Path.{◌≡◌, refl, sym, ap, ◌∙◌}
use mathlib.Core.Logic.{◌≢◌}
use native.Mathlib.Omega.{arith}
use lib.Dec.{T}
use Rattle.laws.proofs.Choice.{either_way}
use Rattle.lock_rules.specs.Numbers.{phase_of_doing, phase_of}
use Rattle.lock_rules.specs.Feed.{Plain}
use Rattle.lock_rules.specs.declared.ThreadState.{ThreadState}
use Rattle.lock_rules.specs.declared.OnwardStep.TheVariants.{ToTell}
use Rattle.lock_rules.specs.declared.ThreadState.TheVariants.{Queued}
use Rattle.lock_rules.proofs.Each.{each_limit, each_suspension, each_state, each_carried}
use Rattle.lock_rules.proofs.Status.{unfinished, Runs}
use Rattle.lock_rules.proofs.Tables.{ListTable, states_at, seen_here}
use Rattle.lock_rules.proofs.Lift.{ghost_at, World}
use Rattle.lock_rules.proofs.LetOut.{HolderRuns, exit_waits}
use Rattle.lock_rules.proofs.ListSound.{SoundTable}
use Rattle.lock_rules.proofs.ListChains.{seen_or_at}
use Rattle.lock_table.specs.Operation.{operation_number}
use Rattle.lock_table.specs.Access.{thread_at, object_at, phase_number_at}
use Rattle.lock_table.specs.declared.record.{ThreadRecord.ThreadRecord, ObjectRecord.ObjectRecord, Table.Table}
use Rattle.lock_perform.specs.State.{carried_activity, wait_activity, write_activity}
use Rattle.lock_records.specs.ExitsWait.{ParkedInExit, WaitsForBusyHolder}
use Rattle.lock_records.proofs.Represents.{monitor_record, Represents}
use Rattle.lock_records.proofs.Readings.{busy_in, thread_is, home_is}
use Rattle.lock_records.proofs.Claim.{phase_is, doing_steps, Steps, steps_unparked}
use Rattle.lock_records.proofs.Parking.{ParkedPhase, not_both, idle_unparked}

-- a parked phase, and an exit's operation: none but a queued exit has both
not_exit : {A : Type 0} (number : ℕ) → number ≢ 2 → number ≡ 2 → A
not_exit number other is = absurd (other is)

exit_parked : (n o : ℕ) (state : ThreadState) → operation_number (write_activity n o state).operation ≡ 2 → ParkedPhase (phase_of state) → state ≡ Queued ToTell
unfolding write_activity carried_activity wait_activity operation_number
exit_parked n o =
    each_state _ (
      λ exit parked. not_both 0 parked idle_unparked,
      λ doing exit parked. not_both (phase_of_doing doing) parked (doing_steps doing).0,
      each_carried _ (
        λ exit parked. not_exit 1 (λ e. omega (arith, e)) exit,
        λ exit parked. refl,
        each_limit _ (λ exit parked. not_exit 3 (λ e. omega (arith, e)) exit, λ ticks exit parked. not_exit 6 (λ e. omega (arith, e)) exit),
        each_suspension _ (λ depth exit parked. not_exit 3 (λ e. omega (arith, e)) exit, λ depth ticks exit parked. not_exit 6 (λ e. omega (arith, e)) exit),
      ),
      λ exit parked. not_exit 1 (λ e. omega (arith, e)) exit,
      each_suspension _ (λ depth exit parked. not_exit 3 (λ e. omega (arith, e)) exit, λ depth ticks exit parked. not_exit 6 (λ e. omega (arith, e)) exit),
    )

module _ (threads objects : ℕ) (t : Table) (lists : ListTable) (represents : Represents threads objects t lists) (sound : SoundTable threads objects lists)
    (plain : Plain) (world : World lists plain) (n : ℕ) (parked : ParkedInExit t n) where
  abbrev home : ℕ
  home = (lists.threads n).object

  abbrev holder : ℕ
  holder = (lists.objects home).holder

  exits : (lists.threads n).state ≡ Queued ToTell
  exits =
      exit_parked n home (lists.threads n).state
      (ap (λ (own : ThreadRecord). operation_number own.operation) (sym (thread_is threads objects t lists represents sound n))
      ∙ (ap operation_number parked.0 ∙ (unfold operation_number in refl)))
      (rw (phase_is threads objects t lists represents sound n) at parked.1)

  busy : T (unfinished (lists.threads n).state)
  busy = rw exits tt

  waits : HolderRuns (states_at lists home) (lists.objects home) n
  waits =
      exit_waits (states_at lists home) (lists.objects home) (ghost_at plain home) (world.inv home) n (seen_here home (lists.threads n) refl ∙ exits)

  -- whom the object sees at work is at work there
  holder_there : (lists.threads holder).object ≡ home
  holder_there = either_way (seen_or_at home (lists.threads holder)) (λ idle. absurd (rw idle at waits.runs.1)) (λ there. there)

  holder_runs : Runs (lists.threads holder).state
  holder_runs = rw (seen_here home (lists.threads holder) holder_there) at waits.runs

  monitor_is : (object_at t (thread_at t n).object).monitor ≡ monitor_record home represents.links holder (lists.objects home).depth
  monitor_is =
      let (thread, real, small) = busy_in threads objects lists sound n busy in
      ap (λ (o : ℕ). (object_at t o).monitor) (home_is threads objects t lists represents sound n busy)
      ∙ ap (λ (object : ObjectRecord). object.monitor) (represents.object_is home real small)

  pub represents_waits : WaitsForBusyHolder t n
  represents_waits =
      let steps : Steps (phase_number_at t holder) =
      rw (phase_is threads objects t lists represents sound holder) (steps_unparked (lists.threads holder).state holder_runs.0 holder_runs.1) in
      rw monitor_is (
        (rw represents.threadcount (busy_in threads objects lists sound holder holder_runs.1).0, waits.other, steps.0, waits.shallow),
        steps.1,
        home_is threads objects t lists represents sound holder holder_runs.1
            ∙ (holder_there ∙ sym (home_is threads objects t lists represents sound n busy)),
      )
