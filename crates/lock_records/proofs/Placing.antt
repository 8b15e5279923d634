-- Threads changed one at a time or along a chain, against the states that an object sees put back into all of its threads at once.
use Prim.Native.Nat.{ℕ, zero, suc, ◌≤◌, ◌<◌}
use mathlib.Core.Path.{◌≡◌, refl, sym, ap, ◌∙◌, subst, fun_ext}
use mathlib.Core.Logic.{◌≢◌}
use mathlib.Core.List.{List, [], ◌∷◌}
use native.Mathlib.Omega.{arith}
use lib.Dec.{eqb}
use lib.ListN.{length}
use borrow.Author.Tests.{eq-eqb, ne_eqb}
use Rattle.laws.specs.{Choice.pick, Update.update, Count.count}
use Rattle.laws.proofs.Choice.{by_equal, either_way, equal?}
use Rattle.laws.proofs.Update.{update_same, update_other, update_id}
use Rattle.laws.proofs.Count.{count_none, count_same, count_other}
use Rattle.chains.proofs.Listed.{Chain, head}
use Rattle.chains.proofs.Walk.{walk, if_counted, walk_changes}
use Rattle.lock_rules.proofs.Changes.{sent_back}
use Rattle.lock_rules.specs.declared.ThreadState.{ThreadState}
use Rattle.lock_rules.specs.declared.ThreadState.TheVariants.{Idle}
use Rattle.lock_rules.specs.declared.Taken.TheVariants.{First}
use Rattle.lock_rules.specs.PlainMonitor.{above_zero}
use Rattle.lock_rules.proofs.Perform.{taken, changed_states}
use Rattle.lock_rules.proofs.Tables.{ListThread, seen_from, seen_here}
use Rattle.lock_records.proofs.Moves.{change, sent_from}

module _ (o : ℕ) (threads : ℕ → ListThread) where
  -- the threads as o sees them
  abbrev pub sees : ℕ → ThreadState
  sees n = seen_from o (threads n)

  -- these states put back into the threads at o
  abbrev pub placed : (ℕ → ThreadState) → ℕ → ListThread
  placed states n = pick (eqb (threads n).object o) (record { object = o; state = states n }) (threads n)

  placed_by : (changed : ℕ → ListThread) (states : ℕ → ThreadState)
      → ((n : ℕ) → (threads n).object ≡ o → changed n ≡ record { object = o; state = states n })
      → ((n : ℕ) → (threads n).object ≢ o → changed n ≡ threads n) → changed ≡ placed states
  placed_by changed states here away =
      fun_ext (λ n. by_equal (λ thread. changed n ≡ thread) (threads n).object o (here n) (away n))

  as_seen : (n : ℕ) → (threads n).object ≡ o → threads n ≡ record { object = o; state = sees n }
  as_seen n e = λ j. record { object = e j; state = sym (seen_here o (threads n) e) j }

  -- nothing changed
  pub placed_none : threads ≡ placed sees
  placed_none = placed_by threads sees as_seen (λ n away. refl)

  -- what is shown of threads with any states put back is shown of the threads as they are
  pub placed_before : (P : (ℕ → ListThread) → Type 0) → P (placed sees) → P threads
  placed_before P = subst P (sym placed_none)

  -- one thread at o changed, whatever states stand there
  pub placed_one : (f : ThreadState → ThreadState) (states : ℕ → ThreadState) (x : ℕ) → (threads x).object ≡ o
      → update (placed states) x (change f (placed states x)) ≡ placed (changed_states f states (x ∷ []))
  placed_one f states x home =
      let new = change f (placed states x) in
      placed_by (update (placed states) x new) (changed_states f states (x ∷ []))
      (λ n e. either_way (equal? n x) (λ q. rw (q, update_same (placed states) x new, count_same x [], eq-eqb (threads x).object o home))
      (λ away. rw (update_other (placed states) x new n away, count_other n x [] away, count_none n, eq-eqb (threads n).object o e)))
      (λ n away. update_other (placed states) x new n (λ e. away (ap (λ (m : ℕ). (threads m).object) e ∙ home)) ∙ rw (ne_eqb (threads n).object o away))

  -- the first of a list changed; of an empty one that is thread 0, which is idle and stays so
  pub placed_first : (f : ThreadState → ThreadState) (states : ℕ → ThreadState) (list : List ℕ) (first : ℕ) → first ≡ head list → (placed states 0).state ≡ Idle
      → f Idle ≡ Idle → ((n : ℕ) → 0 < count n list → (threads n).object ≡ o)
      → update (placed states) first (change f (placed states first)) ≡ placed (changed_states f states (taken First list))
  placed_first f states [] first e nobody fixed home =
      let idle : (placed states first).state ≡ Idle = ap (λ (n : ℕ). (placed states n).state) e ∙ nobody in
      let same : placed states first ≡ change f (placed states first) =
      λ j. record { object = (placed states first).object; state = (idle ∙ sym (ap f idle ∙ fixed)) j } in
      update_id (placed states) first (change f (placed states first)) same ∙ ap placed (fun_ext (λ n. rw (count_none n)))
  placed_first f states (x ∷ rest) first e nobody fixed home = rw e (placed_one f states x (home x (omega (arith, count_same x rest))))

  -- each of a list changed, whatever states stand there
  pub placed_each : (f : ThreadState → ThreadState) (states : ℕ → ThreadState) (next : ℕ → ℕ) (list : List ℕ) (fuel first : ℕ) → Chain next first list
      → length list ≤ fuel → ((n : ℕ) → 0 < count n list → (threads n).object ≡ o)
      → walk fuel next (change f) (placed states) first ≡ placed (changed_states f states list)
  placed_each f states next list fuel first chain short home =
      placed_by (walk fuel next (change f) (placed states) first) (changed_states f states list)
      (λ n e. changes n ∙ (rw (eq-eqb (threads n).object o e) (here n (count n list))))
      (λ n away. changes n ∙ (rw (ne_eqb (threads n).object o away) (elsewhere n (count n list) refl away)))
    where
      changes : (n : ℕ) → walk fuel next (change f) (placed states) first n ≡ if_counted (count n list) (change f) (placed states n)
      changes = walk_changes fuel next (change f) (placed states) first list chain short

      here : (n k : ℕ)
          → if_counted k (change f) (record { object = o; state = states n }) ≡ record { object = o; state = pick (above_zero k) (f (states n)) (states n) }
      here n zero = refl
      here n (suc k) = refl

      elsewhere : (n k : ℕ) → count n list ≡ k → (threads n).object ≢ o → if_counted k (change f) (threads n) ≡ threads n
      elsewhere n zero e away = refl
      elsewhere n (suc k) e away = absurd (away (home n (omega (arith, e))))

  -- and where nothing was changed before
  pub placed_all : (f : ThreadState → ThreadState) (next : ℕ → ℕ) (list : List ℕ) (fuel first : ℕ) → Chain next first list → length list ≤ fuel
      → ((n : ℕ) → 0 < count n list → (threads n).object ≡ o) → walk fuel next (change f) threads first ≡ placed (changed_states f sees list)
  placed_all f next list fuel first chain short home =
      placed_before (λ before. walk fuel next (change f) before first ≡ placed (changed_states f sees list)) (placed_each f sees next list fuel first chain short home)

  -- one thread sent back, if it is at o
  pub placed_sent : (x : ℕ) → update threads x (sent_from o (threads x)) ≡ placed (changed_states sent_back sees (x ∷ []))
  placed_sent x =
      either_way (equal? (threads x).object o) (λ home. rw (eq-eqb (threads x).object o home) (placed_before (λ before. update before x (change sent_back (before x)) ≡ placed (changed_states sent_back sees (x ∷ []))) (placed_one sent_back sees x home)))
      (λ away. rw (ne_eqb (threads x).object o away)
      (update_id threads x (threads x) refl
      ∙ placed_by threads (changed_states sent_back sees (x ∷ []))
      (λ n e. rw (count_other n x [] (λ q. away (ap (λ (m : ℕ). (threads m).object) (sym q) ∙ e)), count_none n) (as_seen n e)) (λ n gone. refl)))

  -- and with the state of thread i, which is at o
  pub placed_own : (states : ℕ → ThreadState) (i : ℕ) (state : ThreadState) → (threads i).object ≡ o
      → update (placed states) i (record { object = o; state = state }) ≡ placed (update states i state)
  placed_own states i state home =
      let own : ListThread = record { object = o; state = state } in
      placed_by (update (placed states) i own) (update states i state)
      (λ n e. either_way (equal? n i) (λ q. rw (q, update_same (placed states) i own, update_same states i state))
      (λ away. rw (update_other (placed states) i own n away, update_other states i state n away, eq-eqb (threads n).object o e)))
      (λ n away. update_other (placed states) i own n (λ e. away (ap (λ (m : ℕ). (threads m).object) e ∙ home)) ∙ rw (ne_eqb (threads n).object o away))
