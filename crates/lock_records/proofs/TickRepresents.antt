-- A tick on the records represents the tick on the table with lists: the objects one after the other against all at once. It names whom that unparks.
use Prim.Native.Nat.{ℕ, zero, suc, ◌≤◌, ◌<◌}
use mathlib.Core.Path.{◌≡◌, refl, sym, ap, ◌∙◌, subst, fun_ext}
use mathlib.Core.Logic.{◌≢◌, ◌⊎◌, inl, inr}
use mathlib.Core.Bool.{Bool, true, false, not}
use mathlib.Core.List.{List, [], ◌∷◌}
use native.Mathlib.Omega.{arith}
use lib.Dec.{eqb, leb}
use borrow.Author.Tests.{eq-eqb, ne_eqb, le-leb, lt-leb, leb-true, leb-false}
use Rattle.laws.specs.{Choice.pick, Choice.both, Choice.either, Update.update, Count.count}
use Rattle.laws.proofs.Choice.{either_way, equal?, split, both_no, either_no}
use Rattle.laws.proofs.Count.{count_same}
use Rattle.laws.proofs.Update.{update_same, update_other, update_id}
use Rattle.chains.specs.declared.named.Chain.{Chain}
use Rattle.lock_rules.specs.declared.ThreadState.{ThreadState}
use Rattle.lock_rules.proofs.Objects.{empty}
use Rattle.lock_rules.proofs.Tick.{Ticked, tick_at, expired, handed_if_free, tick_unparks}
use Rattle.lock_rules.proofs.{Status.unparked, Perform.is_handed, Unparks.tick_passed}
use Rattle.lock_rules.proofs.Invariant.{in_waiting}
use Rattle.lock_rules.proofs.{ListSound.SoundTable, ListChains.member_at, SoundKept.sound_tick, Lift.tick_seen}
use Rattle.lock_rules.proofs.Tables.{ListThread, ListTable, states_at, seen_here, seen_idle, seen_elsewhere, ticked_at, tick_where, tick_all, tick_all_unparks}
use Rattle.lock_table.specs.Limits.{object_limit}
use Rattle.lock_table.specs.Access.{object_at}
use Rattle.lock_table.specs.declared.record.{ObjectRecord.ObjectRecord, Table.Table}
use Rattle.lock_work.specs.WorkDone.{WorkDone}
use Rattle.lock_work.specs.Tick.{tick_waited, untouched, tick_object, tick_to, tick}
use Rattle.lock_perform.specs.ThreadSet.{has_thread}
use Rattle.lock_perform.proofs.ThreadSets.{has_none, has_either}
use Rattle.lock_records.proofs.Represents.{Represents}
use Rattle.lock_records.proofs.Readings.{chain_empty}
use Rattle.lock_records.proofs.Placing.{placed, placed_none}
use Rattle.lock_records.proofs.TickWaited.{waited_represents, waited_names}

-- where nobody waits, a tick changes nothing
unwaited : (lists : ListTable) (o : ℕ) → (lists.objects o).waiting ≡ [] → ticked_at lists o ≡ record { states = states_at lists o; object = lists.objects o }
unwaited lists o none =
    let here = lists.objects o in
    let states = states_at lists o in
    ap (λ (b : Bool). pick b (record { states = states; object = here }) (handed_if_free states here (expired states here))) (ap empty none)

-- and nobody is unparked there
abbrev unparks_at : ListTable → ℕ → ℕ → Bool
unparks_at lists o = tick_unparks (states_at lists o) (lists.objects o)

unwaited_unnamed : (lists : ListTable) (o n : ℕ) → (lists.objects o).waiting ≡ [] → unparks_at lists o n ≡ false
unwaited_unnamed lists o n none = rw (ap empty none) refl

-- so it makes no difference whether such an object is ticked
tick_same : (lists : ListTable) (which which' : ℕ → Bool) → ((o : ℕ) → ((lists.objects o).waiting ≡ []) ⊎ (which o ≡ which' o))
    → tick_where which lists ≡ tick_where which' lists
tick_same lists which which' alike =
    λ j. record { threads = λ n. record { object = (lists.threads n).object; state = at_thread n j }; objects = λ o. at_object o j }
  where
    either_same : {A : Type 0} (b c : Bool) (x y : A) → x ≡ y → pick b x y ≡ pick c x y
    either_same true true x y e = refl
    either_same true false x y e = e
    either_same false true x y e = sym e
    either_same false false x y e = refl

    at_thread : (n : ℕ)
        → let home = (lists.threads n).object in
        pick (which home) ((ticked_at lists home).states n) (lists.threads n).state ≡ pick (which' home) ((ticked_at lists home).states n) (lists.threads n).state
    at_thread n =
        let home = (lists.threads n).object in
        either_way (alike home)
        (λ none. either_same (which home) (which' home) ((ticked_at lists home).states n) (lists.threads n).state
        (ap (λ (after : Ticked). after.states n) (unwaited lists home none) ∙ seen_here home (lists.threads n) refl))
        (ap (λ (b : Bool). pick b ((ticked_at lists home).states n) (lists.threads n).state))

    at_object : (o : ℕ) → pick (which o) (ticked_at lists o).object (lists.objects o) ≡ pick (which' o) (ticked_at lists o).object (lists.objects o)
    at_object o =
        either_way (alike o)
        (λ none. either_same (which o) (which' o) (ticked_at lists o).object (lists.objects o) (ap (λ (after : Ticked). after.object) (unwaited lists o none)))
        (ap (λ (b : Bool). pick b (ticked_at lists o).object (lists.objects o)))

-- a tick at one object
abbrev tick_one : ListTable → ℕ → ListTable
tick_one lists o = record { threads = placed o lists.threads (ticked_at lists o).states; objects = update lists.objects o (ticked_at lists o).object }

-- after those up to k the next one is ticked as if it were the first
module _ (lists : ListTable) (k : ℕ) where
  abbrev so_far : ListTable
  so_far = tick_where (λ o. leb o k) lists

  not_yet : leb (suc k) k ≡ false
  not_yet = lt-leb (suc k) k (omega arith)

  seen_then : states_at so_far (suc k) ≡ states_at lists (suc k)
  seen_then =
      fun_ext (tick_seen (λ o. leb o k) lists (suc k))
      ∙ ap (λ (b : Bool). pick b (ticked_at lists (suc k)).states (states_at lists (suc k))) not_yet

  object_then : so_far.objects (suc k) ≡ lists.objects (suc k)
  object_then = ap (λ (b : Bool). pick b (ticked_at lists (suc k)).object (lists.objects (suc k))) not_yet

  same_here : ticked_at so_far (suc k) ≡ ticked_at lists (suc k)
  same_here = λ j. tick_at (seen_then j) (object_then j)

  -- and names the same
  so_far_unparks : (n : ℕ) → unparks_at so_far (suc k) n ≡ unparks_at lists (suc k) n
  so_far_unparks n = λ j. tick_unparks (seen_then j) (object_then j) n

  others : (p : ℕ) → p ≢ suc k → leb p k ≡ leb p (suc k)
  others p away =
      split (leb p k) (λ e. e ∙ sym (le-leb p (suc k) (omega (arith, leb-true p k e))))
      (λ e. e ∙ sym (lt-leb p (suc k) (omega (arith, away, leb-false p k e))))

  next_thread : (n home : ℕ) (state : ThreadState)
      → pick {A = ListThread} (eqb home (suc k)) (record { object = suc k; state = (ticked_at so_far (suc k)).states n })
      (record { object = home; state = pick (leb home k) ((ticked_at lists home).states n) state })
      ≡ record { object = home; state = pick (leb home (suc k)) ((ticked_at lists home).states n) state }
  next_thread n home state =
      either_way (equal? home (suc k))
      (λ e. rw (e, eq-eqb (suc k) (suc k) refl, le-leb (suc k) (suc k) (omega arith)) (ap (λ (after : Ticked). record { object = suc k; state = after.states n }) same_here))
      (λ away. rw (ne_eqb home (suc k) away, others home away))

  next_object : (p : ℕ) → update so_far.objects (suc k) (ticked_at so_far (suc k)).object p ≡ (tick_where (λ o. leb o (suc k)) lists).objects p
  next_object p =
      either_way (equal? p (suc k))
      (λ e. rw (e, update_same so_far.objects (suc k) (ticked_at so_far (suc k)).object, le-leb (suc k) (suc k) (omega arith))
      (ap (λ (after : Ticked). after.object) same_here))
      (λ away. rw (update_other so_far.objects (suc k) (ticked_at so_far (suc k)).object p away, others p away))

  next_ticked : tick_one so_far (suc k) ≡ tick_where (λ o. leb o (suc k)) lists
  next_ticked =
      λ j. record { threads = λ n. next_thread n (lists.threads n).object (lists.threads n).state j; objects = λ p. next_object p j }

module _ (threads objects : ℕ) where
  -- only at an object of the table does anybody wait
  waited_in : (lists : ListTable) → SoundTable threads objects lists → (o : ℕ) → ((lists.objects o).waiting ≡ []) ⊎ ((1 ≤ o) × (o ≤ objects))
  waited_in lists sound o = at (lists.objects o).waiting refl
    where
      at : (waiting : List ℕ) → (lists.objects o).waiting ≡ waiting → ((lists.objects o).waiting ≡ []) ⊎ ((1 ≤ o) × (o ≤ objects))
      at [] is = inl is
      at (x ∷ rest) is =
          let here : 0 < count x (lists.objects o).waiting = omega (arith, ap (count x) is, count_same x rest) in
          let home : (lists.threads x).object ≡ o = member_at threads objects lists sound Chain.Waiting o x here in
          either_way (sound.range x)
          (λ idle. absurd (omega (arith, here, ((sound.sound o).placed x).waiting, ap in_waiting (seen_idle o (lists.threads x) idle))))
          (λ bounds. inr (omega (arith, bounds.1, home), omega (arith, bounds.2, home)))

  -- whether anybody waits there is seen by the first of the chain
  waited_or_not : (t : Table) (lists : ListTable) → Represents threads objects t lists → SoundTable threads objects lists → (o : ℕ) → 1 ≤ o → o ≤ objects
      → eqb (object_at t o).monitor.waiting 0 ≡ empty (lists.objects o).waiting
  waited_or_not t lists represents sound o real small =
      ap (λ (object : ObjectRecord). eqb object.monitor.waiting 0) (represents.object_is o real small) ∙ chain_empty threads objects t lists represents sound o Chain.Waiting

  -- one object of the table
  object_represents : (t : Table) (lists : ListTable) → Represents threads objects t lists → SoundTable threads objects lists → (o : ℕ) → 1 ≤ o → o ≤ objects
      → Represents threads objects (tick_object t o).table (tick_one lists o)
  unfolding tick_object
  object_represents t lists represents sound o real small =
      rw (waited_or_not t lists represents sound o real small) (at (empty (lists.objects o).waiting))
    where
      at : (b : Bool)
          → let here = lists.objects o in
          let states = states_at lists o in
          let after : Ticked = pick b (record { states = states; object = here }) (handed_if_free states here (expired states here)) in
          Represents threads objects (pick b (untouched t) (tick_waited t o)).table
          (record { threads = placed o lists.threads after.states; objects = update lists.objects o after.object })
      at true =
          subst (Represents threads objects t)
          (λ j. record { threads = placed_none o lists.threads j; objects = sym (update_id lists.objects o (lists.objects o) refl) j }) represents
      at false = waited_represents threads objects t lists represents sound o real small

  object_names : (t : Table) (lists : ListTable) → Represents threads objects t lists → SoundTable threads objects lists → (o : ℕ) → 1 ≤ o → o ≤ objects → (n : ℕ)
      → has_thread (tick_object t o).unparked n ≡ unparks_at lists o n
  unfolding tick_object
  object_names t lists represents sound o real small n =
      rw (waited_or_not t lists represents sound o real small) (at (empty (lists.objects o).waiting))
    where
      at : (b : Bool)
          → let after = expired (states_at lists o) (lists.objects o) in
          has_thread (pick b (untouched t) (tick_waited t o)).unparked n
          ≡ pick b false (pick (eqb after.object.holder 0) (is_handed after.object n) false)
      at true = has_none n
      at false = waited_names threads objects t lists represents sound o real small n

  -- who is at another object is not named there
  elsewhere_unnamed : (lists : ListTable) → SoundTable threads objects lists → (o n : ℕ) → (lists.threads n).object ≢ o → unparks_at lists o n ≡ false
  elsewhere_unnamed lists sound o n away =
      (tick_passed threads (states_at lists o) (lists.objects o) (sound.sound o) n).names
      ∙ ap (λ (state : ThreadState). both (not (unparked state)) (unparked ((ticked_at lists o).states n))) (seen_elsewhere o (lists.threads n) away)

  module _ (t : Table) (lists : ListTable) (represents : Represents threads objects t lists) (sound : SoundTable threads objects lists) where
    -- the objects up to k
    tick_to_represents : (k : ℕ) → Represents threads objects (tick_to k t).table (tick_where (λ o. leb o k) lists)
    unfolding tick_to tick_object
    tick_to_represents zero =
        subst (Represents threads objects t)
        (tick_same lists (λ o. false) (λ o. leb o 0) (λ o. either_way (waited_in lists sound o) inl (λ bounds. inr (sym (lt-leb o 0 bounds.0))))) represents
    tick_to_represents (suc k) =
        let lists_then = tick_where (λ o. leb o k) lists in
        let before = tick_to_represents k in
        split (leb (suc k) objects)
        (λ e. subst (Represents threads objects (tick_object (tick_to k t).table (suc k)).table) (next_ticked lists k)
        (object_represents (tick_to k t).table lists_then before (sound_tick threads objects lists sound (λ o. leb o k)) (suc k) (omega arith) (leb-true (suc k) objects e)))
        (λ e. past k before (leb-false (suc k) objects e))
      where
        -- there are no objects past the table's
        past : (k : ℕ) → Represents threads objects (tick_to k t).table (tick_where (λ o. leb o k) lists) → objects < suc k
            → Represents threads objects (tick_object (tick_to k t).table (suc k)).table (tick_where (λ o. leb o (suc k)) lists)
        past k before far =
            let still : tick_object (tick_to k t).table (suc k) ≡ untouched (tick_to k t).table =
            ap (λ (object : ObjectRecord). pick (eqb object.monitor.waiting 0) (untouched (tick_to k t).table) (tick_waited (tick_to k t).table (suc k))) (before.object_past (suc k) far) in
            subst (λ (done : WorkDone). Represents threads objects done.table (tick_where (λ o. leb o (suc k)) lists)) (sym still)
            (subst (Represents threads objects (tick_to k t).table)
            (tick_same lists (λ o. leb o k) (λ o. leb o (suc k))
            (λ o. either_way (waited_in lists sound o) inl (λ bounds. inr (others lists k o (λ e. omega (arith, e, bounds.1, far)))))) before)

    pub tick_represents : Represents threads objects (tick t).table (tick_all lists)
    tick_represents =
        subst (Represents threads objects (tick t).table)
        (tick_same lists (λ o. leb o object_limit) (λ o. true)
        (λ o. either_way (waited_in lists sound o) inl (λ bounds. inr (le-leb o object_limit (omega (arith, bounds.1, represents.object_room))))))
        (tick_to_represents object_limit)

    -- whom the objects up to k unparked: of those at them, whom each unparks
    module _ (n : ℕ) where
      abbrev home : ℕ
      home = (lists.threads n).object

      abbrev named : Bool
      named = unparks_at lists home n

      -- where nobody waits it makes no difference which objects were ticked
      alike : {a b : Bool} → ((1 ≤ home) → (home ≤ objects) → a ≡ b) → both a named ≡ both b named
      alike {a} {b} same =
          either_way (waited_in lists sound home) (λ none. rw (unwaited_unnamed lists home n none) (both_no a ∙ sym (both_no b)))
          (λ bounds. ap (λ (x : Bool). both x named) (same bounds.0 bounds.1))

      next_named : (k : ℕ) → either (both (leb home k) named) (unparks_at lists (suc k) n) ≡ both (leb home (suc k)) named
      next_named k =
          either_way (equal? home (suc k))
          (λ e. rw (e, not_yet lists k, le-leb (suc k) (suc k) (omega arith)) refl)
          (λ away. rw (elsewhere_unnamed lists sound (suc k) n away, either_no (both (leb home k) named), others lists k home away) refl)

      tick_to_names : (k : ℕ) → has_thread (tick_to k t).unparked n ≡ both (leb home k) named
      unfolding tick_to tick_object
      tick_to_names zero = has_none n ∙ alike {a = false} (λ real small. sym (lt-leb home 0 real))
      tick_to_names (suc k) =
          has_either (tick_to k t).unparked (tick_object (tick_to k t).table (suc k)).unparked n
          ∙ split (leb (suc k) objects)
          (λ e. rw (
            tick_to_names k,
            object_names (tick_to k t).table (tick_where (λ o. leb o k) lists) (tick_to_represents k) (sound_tick threads objects lists sound (λ o. leb o k))
                (suc k) (omega arith) (leb-true (suc k) objects e) n,
            so_far_unparks lists k n,
          )
          (next_named k))
          (λ e. past (leb-false (suc k) objects e) (tick_to_names k))
        where
          past : objects < suc k → has_thread (tick_to k t).unparked n ≡ both (leb home k) named
              → either (has_thread (tick_to k t).unparked n) (has_thread (tick_object (tick_to k t).table (suc k)).unparked n) ≡ both (leb home (suc k)) named
          past far before =
              rw ((tick_to_represents k).object_past (suc k) far, has_none n, either_no (has_thread (tick_to k t).unparked n))
              (before ∙ alike (λ real small. others lists k home (λ e. omega (arith, e, small, far))))

      pub tick_names : has_thread (tick t).unparked n ≡ tick_all_unparks lists n
      tick_names = tick_to_names object_limit ∙ alike {b = true} (λ real small. le-leb home object_limit (omega (arith, small, represents.object_room)))
