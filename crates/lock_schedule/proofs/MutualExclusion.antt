-- Mutual exclusion: how often a thread is inside is what the plain monitors say, and these agree with the engine.
use Prim.Native.Nat.{ℕ, ◌+◌, ◌≤◌, ◌<◌}
use mathlib.Core.Path.{◌≡◌, sym, ◌∙◌, subst}
use mathlib.Core.Logic.{◌≢◌}
use mathlib.Core.List.{List}
use native.Mathlib.Omega.{arith}
use lib.Dec.{eqb}
use Rattle.laws.specs.Choice.{pick}
use Rattle.laws.proofs.Choice.{by_equal}
use Rattle.lock_table.proofs.FreshTables.{fresh_rank}
use Rattle.lock_rules.specs.Events.{Shown}
use Rattle.lock_rules.specs.Feed.{Plain, feed_all, blank}
use Rattle.lock_rules.specs.PlainMonitor.{PlainMonitor}
use Rattle.lock_rules.specs.Presence.{absent, presence_run, times_of, times_inside}
use Rattle.lock_rules.specs.declared.event.Event.{Event}
use Rattle.lock_rules.proofs.Tables.{fresh}
use Rattle.lock_rules.proofs.Lift.{world_fresh}
use Rattle.lock_rules.proofs.SoundKept.{sound_fresh}
use Rattle.lock_rules.proofs.Presence.{owned, Matches, run_matches, blank_matches}
use Rattle.lock_table.specs.Fresh.{InRange, table_of}
use Rattle.lock_table.specs.declared.fresh_table.FreshRequest.{FreshRequest}
use Rattle.lock_records.proofs.Claim.{schedule_represents}
use Rattle.lock_schedule.specs.Schedule.{shown_of}
use Rattle.lock_schedule.specs.MutualExclusion.{MutualExclusion, InsideIsDepth}
use Rattle.lock_schedule.proofs.Theorem.{from_fresh, demand_three}

-- whom a plain monitor has as owner is one thread
owned_one : (t : ℕ) (monitor : PlainMonitor) → 0 < owned t monitor → monitor.owner ≡ t
owned_one t monitor = by_equal (λ depth. 0 < depth → monitor.owner ≡ t) monitor.owner t (λ e some. e) (λ other none. absurd (omega (arith, none)))

module _ (request : FreshRequest) (in_range : InRange request) (events : List Event) (o : ℕ) where
  abbrev shown : List Shown
  shown = shown_of (table_of request) events

  abbrev plain : Plain
  plain = feed_all blank shown

  entered_is : (t : ℕ) → 1 ≤ t → let was = times_of t o shown in was.entered ≡ was.left + owned t (plain.monitors o)
  entered_is t low =
      let real : t ≢ 0 = λ e. omega (arith, low, e) in
      let (represents, sound, same) = schedule_represents request in_range events in
      let shows = (from_fresh request in_range events).1 ∙ same in
      (subst (λ (list : List Shown). Matches t o (presence_run t o absent list) (feed_all blank list)) (sym shows)
      (run_matches request.threads request.objects events (fresh request.reserved (fresh_rank request)) blank t o real absent
      (sound_fresh request.threads request.objects request.reserved (fresh_rank request)) (world_fresh request.reserved (fresh_rank request)) (blank_matches t o real))).holds.entered

  inside_owns : (t : ℕ) → 1 ≤ t → 0 < times_inside t o shown → (plain.monitors o).owner ≡ t
  inside_owns t low inside = owned_one t (plain.monitors o) (omega (arith, entered_is t low, inside))

pub mutual_exclusion : MutualExclusion
mutual_exclusion request in_range events o t u low real inside there =
    sym (inside_owns request in_range events o t low inside) ∙ inside_owns request in_range events o u real there

pub inside_is_depth : InsideIsDepth
inside_is_depth request in_range events o t real small low =
    let (represents, sound, same) = schedule_represents request in_range events in
    let (owner, depth) = (demand_three request in_range events).0.owners o real (rw ((from_fresh request in_range events).0, represents.objectcount) small) in
    let was = times_of t o (shown_of (table_of request) events) in
    entered_is request in_range events o t low ∙ (λ j. was.left + pick (eqb (owner j) t) (depth j) 0)
