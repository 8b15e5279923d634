-- Every event on a sound table gives a sound table. A fresh table is sound, and so is every table that a schedule comes to.
use Prim.Native.Nat.{ℕ, ◌≤◌}
use mathlib.Core.Path.{◌≡◌, refl, sym, ap, ◌∙◌, subst, subst₂, fun_ext}
use mathlib.Core.Logic.{◌≢◌, ◌⊎◌, inl, inr}
use mathlib.Core.Bool.{Bool, true, false}
use mathlib.Core.List.{List, [], ◌∷◌}
use native.Mathlib.Omega.{arith}
use lib.Dec.{eqb}
use Rattle.laws.specs.Choice.{pick, implies, within}
use Rattle.laws.specs.Update.{update}
use Rattle.lock_word.specs.Ticks.{tick_limit}
use Rattle.laws.proofs.Choice.{equal?, Equal, equal}
use Rattle.laws.proofs.Update.{update_same, update_other}
use Rattle.laws.proofs.Count.{count_none}
use Rattle.lock_rules.specs.Rules.{begun, decide}
use Rattle.lock_rules.specs.Numbers.{asked_for}
use Rattle.lock_rules.specs.Gate.{limit_fits}
use Rattle.lock_rules.specs.Operations.{Operation, Enter, Exit, Wait, Notify, NotifyAll, timed_wait, Unknown, Known}
use Rattle.lock_rules.specs.declared.{Limit.Limit, Doing.Doing, ThreadState.ThreadState}
use Rattle.lock_rules.specs.declared.Limit.TheVariants.{Unlimited, Ticks}
use Rattle.lock_rules.specs.declared.ThreadState.TheVariants.{Idle, Running}
use Rattle.lock_rules.specs.declared.event.Event.{Event}
use Rattle.lock_rules.proofs.{Each.each_operation, Perform.Performed, TableKinds.by_event, Invariant.Placed, ListChains.member_in}
use Rattle.lock_rules.proofs.Objects.{sight_of}
use Rattle.lock_rules.proofs.Tables.{ListThread, ListTable, seen_from, states_at, perform_at, begin_at, step_at, ticked_at, tick_where, list_kind, turn, final}
use Rattle.lock_rules.proofs.Tables.{fresh_word, fresh, seen_idle, seen_here, seen_elsewhere}
use Rattle.lock_rules.proofs.Lift.{seen_there, seen_as_before, tick_seen}
use Rattle.lock_rules.proofs.{Gating.within_says, TickRules.ticked_idle}
use Rattle.lock_rules.proofs.ListSound.{LimitFine, StateFine, WordFine, SoundObject, InTable, SoundTable}
use Rattle.lock_rules.proofs.SoundEffects.{ActionFine, either_way, decide_fine}
use Rattle.lock_rules.proofs.SoundTick.{ticked_fine, ticked_sound}
use Rattle.lock_rules.proofs.SoundPerform.{performed_idle, performed_fine, performed_sound}
use Rattle.chains.specs.declared.named.Chain.{Chain}

seen_fine : (o : ℕ) (thread : ListThread) → StateFine thread.state → StateFine (seen_from o thread)
seen_fine o thread fine = either_way StateFine (eqb thread.object o) fine tt

begun_fine : (limit : Limit) → LimitFine limit → (operation : Operation) → StateFine (Running (begun operation limit))
begun_fine limit fine = each_operation _ (search)

-- the limit that a begin is given is in range
given_fine : (number limit : ℕ) (operation : Operation) (given : Limit) → asked_for number limit ≡ Known operation given → limit_fits number limit ≡ true
    → LimitFine given
unfolding asked_for
given_fine number limit operation given asked fits =
    by_number (eqb number 1) (eqb number 2) (eqb number 3) (eqb number 4) (eqb number 5) (eqb number timed_wait) asked fits
  where
    same : {a : Operation} {one : Limit} → Known a one ≡ Known operation given → one ≡ given
    same e = cc

    no_limit : {a : Operation} → Known a Unlimited ≡ Known operation given → LimitFine given
    no_limit e = subst LimitFine (same e) tt

    by_number : (a b c d e timed : Bool)
        → pick a (Known Enter Unlimited) (pick b (Known Exit Unlimited) (pick c (Known Wait Unlimited) (pick d (Known Notify Unlimited) (pick e (Known NotifyAll Unlimited) (pick timed (Known Wait (Ticks limit)) Unknown)))))
        ≡ Known operation given
        → implies timed (within 1 tick_limit limit) ≡ true → LimitFine given
    by_number true b c d e timed asked fits = no_limit asked
    by_number false true c d e timed asked fits = no_limit asked
    by_number false false true d e timed asked fits = no_limit asked
    by_number false false false true e timed asked fits = no_limit asked
    by_number false false false false true timed asked fits = no_limit asked
    by_number false false false false false true asked fits = subst LimitFine (same asked) (within_says fits)
    by_number false false false false false false asked fits = absurd (let z : ◌≡◌ {A = ℕ} 0 1 = cc in omega arith)

module _ (threads objects : ℕ) (table : ListTable) (sound : SoundTable threads objects table) where
  sound_begin : (operation : Operation) (limit : Limit) → LimitFine limit → (t o : ℕ) → 1 ≤ t → t ≤ threads → 1 ≤ o → o ≤ objects → (table.threads t).state ≡ Idle
      → SoundTable threads objects (begin_at table operation limit t o)
  sound_begin operation limit given t o real low oreal olow idle =
      record {
        range = λ u. range u (equal? u t);
        fine = λ u. fine u (equal? u t);
        sound = λ b. let s = sound.sound b in
            record {
              nobody = ap (seen_from b) (update_other table.threads t _ 0 (λ k. omega (arith, k, real))) ∙ s.nobody;
              placed = λ u. placed b u (equal? u t);
              word = s.word;
              holder = s.holder;
              deep = s.deep;
              shallow = s.shallow;
              empty = s.empty;
              ordered = s.ordered;
            };
      }
    where
      range : (u : ℕ) → (u ≡ t) ⊎ (u ≢ t) → InTable threads objects u (update table.threads t (record { object = o; state = Running (begun operation limit) }) u)
      range u (inl k) = rw (k, update_same table.threads t (record { object = o; state = Running (begun operation limit) })) (inr (low, oreal, olow))
      range u (inr n) = rw (update_other table.threads t (record { object = o; state = Running (begun operation limit) }) u n) (sound.range u)

      fine : (u : ℕ) → (u ≡ t) ⊎ (u ≢ t) → StateFine (update table.threads t (record { object = o; state = Running (begun operation limit) }) u).state
      fine u (inl k) = rw (k, update_same table.threads t (record { object = o; state = Running (begun operation limit) })) (begun_fine limit given operation)
      fine u (inr n) = rw (update_other table.threads t (record { object = o; state = Running (begun operation limit) }) u n) (sound.fine u)

      still : (b : Bool) (entry contention waiting : List ℕ) → Placed Idle t entry contention waiting
          → Placed (pick b (Running (begun operation limit)) Idle) t entry contention waiting
      still true entry contention waiting p = p
      still false entry contention waiting p = p

      placed : (b u : ℕ) → (u ≡ t) ⊎ (u ≢ t)
          → Placed (states_at (begin_at table operation limit t o) b u) u (table.objects b).entry (table.objects b).contention (table.objects b).waiting
      placed b u (inl k) =
          rw (k, update_same table.threads t (record { object = o; state = Running (begun operation limit) }))
          (still (eqb o b) (table.objects b).entry (table.objects b).contention (table.objects b).waiting
          (rw (seen_idle b (table.threads t) idle) at ((sound.sound b).placed t)))
      placed b u (inr n) = rw (update_other table.threads t (record { object = o; state = Running (begun operation limit) }) u n) ((sound.sound b).placed u)

  -- a step of thread t, which is at the object `home`
  module _ (t : ℕ) (doing : Doing) (real : 1 ≤ t) (low : t ≤ threads) (running : (table.threads t).state ≡ Running doing) where
    abbrev home : ℕ
    home = (table.threads t).object

    abbrev result : Performed
    result = perform_at table home t doing

    pub here : states_at table home t ≡ Running doing
    here = seen_here home (table.threads t) refl ∙ running

    pub owes : ActionFine t (table.objects home).holder (decide t (sight_of (table.objects home)) doing)
    owes =
        decide_fine threads t (sight_of (table.objects home)) (λ e. omega (arith, real, e)) (sound.sound home).deep (sound.sound home).shallow doing
        (rw running at (sound.fine t)) (sound.sound home).word

    stays_idle : (u : ℕ) → u ≢ t → states_at table home u ≡ Idle → result.states u ≡ Idle
    stays_idle u n e =
        performed_idle threads t (states_at table home) (table.objects home) (sound.sound home) doing here real low
        (decide t (sight_of (table.objects home)) doing) u n e

    pub elsewhere : (u : ℕ) → (table.threads u).object ≢ home → result.states u ≡ Idle
    elsewhere u s = stays_idle u (λ k. s (ap (λ x. (table.threads x).object) k)) (seen_elsewhere home (table.threads u) s)

    step_range : (u : ℕ) → InTable threads objects u ((step_at table t doing).table.threads u)
    step_range u = at (eqb (table.threads u).object home) (equal (table.threads u).object home) (equal? u t) (sound.range u)
      where
        at : (b : Bool) → Equal b (table.threads u).object home → (u ≡ t) ⊎ (u ≢ t) → InTable threads objects u (table.threads u)
            → InTable threads objects u (pick b (record { object = home; state = result.states u }) (table.threads u))
        at true s n (inr b) = inr (b.0, rw (← s) b.1, rw (← s) b.2)
        at true s (inl q) (inl i) =
            absurd
            (let bad : ◌≡◌ {A = ThreadState} Idle (Running doing) = sym i ∙ (ap (λ x. (table.threads x).state) q ∙ running) in
            let f : ◌≡◌ {A = ℕ} 0 1 = cc in
            omega arith)
        at true s (inr n) (inl i) = inl (stays_idle u n (seen_idle home (table.threads u) i))
        at false s n b = b

    step_fine : (u : ℕ) → StateFine ((step_at table t doing).table.threads u).state
    step_fine u = at (eqb (table.threads u).object home)
      where
        at : (b : Bool) → StateFine (pick {A = ListThread} b (record { object = home; state = result.states u }) (table.threads u)).state
        at true =
            performed_fine threads t (states_at table home) (table.objects home) (sound.sound home) doing here real low
            (decide t (sight_of (table.objects home)) doing) owes
            (λ x. seen_fine home (table.threads x) (sound.fine x)) u
        at false = sound.fine u

    step_sound : (b : ℕ) → (b ≡ home) ⊎ (b ≢ home) → SoundObject threads (states_at (step_at table t doing).table b) ((step_at table t doing).table.objects b)
    step_sound b (inl q) =
        rw q
        (subst₂ (SoundObject threads) (fun_ext (seen_there table home result elsewhere)) (sym (update_same table.objects home result.object))
        (performed_sound threads t (states_at table home) (table.objects home) (sound.sound home) doing here real low
        (decide t (sight_of (table.objects home)) doing) owes (member_in threads objects table sound Chain.Entry home)))
    step_sound b (inr n) =
        subst₂ (SoundObject threads) (fun_ext (seen_as_before table home result b n)) (sym (update_other table.objects home result.object b n))
        (sound.sound b)

    sound_step : SoundTable threads objects (step_at table t doing).table
    sound_step = record { range = step_range; fine = step_fine; sound = λ b. step_sound b (equal? b home) }

  -- a tick, at any objects
  pub sound_tick : (which : ℕ → Bool) → SoundTable threads objects (tick_where which table)
  sound_tick which =
      record {
        range = λ t. ranged t (which (table.threads t).object) (sound.range t);
        fine = λ t. states_fine t (which (table.threads t).object);
        sound = λ o. rw (fun_ext (tick_seen which table o)) (object_sound o (which o));
      }
    where
      ranged : (t : ℕ) (b : Bool) → InTable threads objects t (table.threads t)
          → let home = (table.threads t).object in
          InTable threads objects t (record { object = home; state = pick b ((ticked_at table home).states t) (table.threads t).state })
      ranged t b (inr placed) = inr placed
      ranged t false (inl idle) = inl idle
      ranged t true (inl idle) =
          let home = (table.threads t).object in inl (ticked_idle (states_at table home) (table.objects home) t (seen_idle home (table.threads t) idle))

      states_fine : (t : ℕ) (b : Bool) → StateFine (pick b ((ticked_at table (table.threads t).object).states t) (table.threads t).state)
      states_fine t true =
          let home = (table.threads t).object in
          ticked_fine threads (states_at table home) (table.objects home) (sound.sound home) (λ u. seen_fine home (table.threads u) (sound.fine u)) t
      states_fine t false = sound.fine t

      object_sound : (o : ℕ) (b : Bool)
          → SoundObject threads (pick b (ticked_at table o).states (states_at table o)) (pick b (ticked_at table o).object (table.objects o))
      object_sound o true =
          ticked_sound threads (states_at table o) (table.objects o) (sound.sound o) (member_in threads objects table sound Chain.Entry o)
          (member_in threads objects table sound Chain.Waiting o)
      object_sound o false = sound.sound o

  pub sound_turn : (event : Event) → SoundTable threads objects (turn threads objects table event).table
  sound_turn =
      by_event list_kind threads objects table (λ event result. SoundTable threads objects result.table) (λ event refusal high. sound)
      (λ number limit operation given t o asked fits real low oreal olow idle.
      sound_begin operation given (given_fine number limit operation given asked fits) t o real low oreal olow idle)
      (λ t doing real low running. sound_step t doing real low running) (sound_tick (λ o. true))

pub sound_fresh : (threads objects : ℕ) (reserved : Bool) (rank : ℕ → ℕ) → SoundTable threads objects (fresh reserved rank)
sound_fresh threads objects reserved rank =
    record {
      range = λ t. inl refl;
      fine = λ t. tt;
      sound = λ o.
          record {
            nobody = seen_idle o (record { object = 0; state = Idle }) refl;
            placed = λ t. rw (seen_idle o (record { object = 0; state = Idle }) refl)
                (record { entry = count_none t; contention = count_none t; waiting = count_none t });
            word = word reserved;
            holder = omega arith;
            deep = omega arith;
            shallow = λ e. refl;
            empty = λ e. refl;
            ordered = tt;
          };
    }
  where
    word : (reserved : Bool) → WordFine threads (fresh_word reserved)
    word true = tt
    word false = tt

pub sound_run : (threads objects : ℕ) (events : List Event) (table : ListTable) → SoundTable threads objects table
    → SoundTable threads objects (final threads objects table events)
sound_run threads objects [] table sound = sound
sound_run threads objects (event ∷ rest) table sound =
    sound_run threads objects rest (turn threads objects table event).table (sound_turn threads objects table sound event)
