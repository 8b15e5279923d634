-- Parked, unparked and able to take a step: what the records say is what the states of the table with lists say.
use Prim.Native.Nat.{ℕ}
use mathlib.Core.Path.{◌≡◌, refl, sym}
use mathlib.Core.Logic.{◌⊎◌, inl, inr}
use mathlib.Core.Bool.{false}
use native.Mathlib.Omega.{arith}
use lib.Dec.{T}
use Rattle.laws.proofs.Choice.{either_way, false≢true}
use Rattle.lock_rules.specs.Numbers.{phase_of}
use Rattle.lock_rules.specs.declared.ThreadState.{ThreadState}
use Rattle.lock_rules.proofs.Each.{each_state}
use Rattle.lock_rules.proofs.Status.{unparked, Runs}
use Rattle.lock_rules.proofs.ListSound.{SoundTable}
use Rattle.lock_rules.proofs.Tables.{ListTable}
use Rattle.lock_table.specs.Access.{phase_number_at}
use Rattle.lock_table.specs.declared.record.Table.{Table}
use Rattle.lock_records.specs.Agrees.{Unparked}
use Rattle.lock_records.specs.Unparked.{Parked, CanStep}
use Rattle.lock_records.proofs.Represents.{Represents}
use Rattle.lock_records.proofs.Claim.{UnparkedPhase, doing_steps, steps_unparked, phase_is, phase_busy}

abbrev pub ParkedPhase : ℕ → Type 0
ParkedPhase phase = (phase ≡ 5) ⊎ ((phase ≡ 8) ⊎ (phase ≡ 14))

pub not_both : {A : Type 0} (phase : ℕ) → ParkedPhase phase → UnparkedPhase phase → A
not_both phase parked (five, eight, fourteen) =
    either_way parked (λ e. absurd (five e)) (λ more. either_way more (λ e. absurd (eight e)) (λ e. absurd (fourteen e)))

pub idle_unparked : UnparkedPhase 0
idle_unparked = (λ e. omega (arith, e), λ e. omega (arith, e), λ e. omega (arith, e))

parked_phase : (state : ThreadState) → unparked state ≡ false → ParkedPhase (phase_of state)
parked_phase = each_state _ (λ e. false≢true (sym e), λ doing e. false≢true (sym e), λ carried e. inl refl, λ e. inr (inl refl), λ saved e. inr (inr refl))

unparked_phase : (state : ThreadState) → T (unparked state) → UnparkedPhase (phase_of state)
unparked_phase =
    each_state _ (
      λ free. idle_unparked,
      λ doing free. (doing_steps doing).0,
      λ carried free. absurd free,
      λ free. absurd free,
      λ saved free. absurd free,
    )

phase_parked : (state : ThreadState) → ParkedPhase (phase_of state) → unparked state ≡ false
phase_parked =
    each_state _ (
      λ parked. not_both 0 parked idle_unparked,
      λ doing parked. not_both _ parked (doing_steps doing).0,
      λ carried parked. refl,
      λ parked. refl,
      λ saved parked. refl,
    )

phase_unparked : (state : ThreadState) → UnparkedPhase (phase_of state) → T (unparked state)
phase_unparked =
    each_state _ (search, search, λ carried free. absurd (free.0 refl), λ free. absurd (free.1 refl), λ saved free. absurd (free.2 refl))

module _ (threads objects : ℕ) (t : Table) (lists : ListTable) (represents : Represents threads objects t lists) (sound : SoundTable threads objects lists) (n : ℕ)
  where
    abbrev state : ThreadState
    state = (lists.threads n).state

    abbrev is : phase_number_at t n ≡ phase_of state
    is = phase_is threads objects t lists represents sound n

    pub parked_so : Parked t n → unparked state ≡ false
    parked_so parked = phase_parked state (rw is at parked)

    pub so_parked : unparked state ≡ false → Parked t n
    so_parked parked = rw is (parked_phase state parked)

    pub unparked_so : Unparked t n → T (unparked state)
    unparked_so free = phase_unparked state (rw is at free)

    pub so_unparked : T (unparked state) → Unparked t n
    so_unparked free = rw is (unparked_phase state free)

    pub runs_so : CanStep t n → Runs state
    runs_so (busy, free) = (unparked_so free, phase_busy threads objects t lists represents sound n busy)

    pub so_runs : Runs state → CanStep t n
    so_runs (free, busy) = rw is ((steps_unparked state free busy).1, (steps_unparked state free busy).0)
