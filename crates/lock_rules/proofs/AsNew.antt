-- An object that nobody owns and at which no thread has an operation is as a new one, but for a reservation: after every schedule, on tables with lists.
use Prim.Native.Nat.{ℕ, ◌≤◌, ◌<◌}
use mathlib.Core.Path.{◌≡◌, refl, sym, ap, ◌∙◌, subst, subst₂, fun_ext}
use mathlib.Core.Logic.{◌≢◌, ◌⊎◌, inl, inr}
use mathlib.Core.Bool.{Bool, true, false}
use mathlib.Core.List.{List, [], ◌∷◌}
use native.Mathlib.Omega.{arith}
use lib.Dec.{T}
use Rattle.laws.specs.{Count.count}
use Rattle.laws.proofs.Choice.{equal?, either_way, by_equal, split, false≢true, holds}
use Rattle.laws.proofs.Count.{count_same}
use Rattle.laws.proofs.Update.{update_same, update_other}
use Rattle.lock_word.specs.{Meaning.owner_of}
use Rattle.lock_rules.specs.Operations.{Operation}
use Rattle.lock_rules.specs.Rules.{decide}
use Rattle.lock_rules.specs.declared.{Limit.Limit, Doing.Doing, ThreadState.ThreadState}
use Rattle.lock_rules.specs.declared.ThreadState.TheVariants.{Idle, Running}
use Rattle.lock_word.specs.declared.meaning.WordSeen.{WordSeen}
use Rattle.lock_rules.proofs.Each.{each_word}
use Rattle.lock_rules.proofs.Objects.{ListObject, sight_of, object_owner}
use Rattle.lock_rules.specs.declared.event.Event.{Event}
use Rattle.lock_rules.specs.Feed.{Plain, feed, blank}
use Rattle.lock_rules.proofs.TableKinds.{by_event}
use Rattle.lock_rules.proofs.Tables.{ListThread, ListTable, seen_from, states_at, perform_at, begin_at, step_at, ticked_at, tick_all, list_kind, turn, final}
use Rattle.lock_rules.proofs.Tables.{fresh_word, fresh, seen_idle, seen_here}
use Rattle.lock_rules.proofs.ListSound.{SoundTable}
use Rattle.lock_rules.proofs.SoundKept.{elsewhere, sound_turn, sound_fresh}
use Rattle.lock_rules.proofs.Lift.{ghost_at, World, seen_there, seen_as_before, tick_seen, world_turn, world_fresh}
use Rattle.lock_rules.proofs.Invariant.{outside, seat, Seated, Placed, IsFat, MonitorOk, Ghost, Invariant}
use Rattle.lock_rules.proofs.Attended.{flagging, entering, Somebody, Attended, performed_attended, decide_attends, known_of, ticked_attended}

-- every object of a table
abbrev pub AllAttended : ListTable → Type 0
AllAttended table = (o : ℕ) → Attended (states_at table o) (table.objects o)

module _ (threads objects : ℕ) (table : ListTable) (sound : SoundTable threads objects table) (plain : Plain) (world : World table plain) (attended : AllAttended table) where
  -- a thread that begins was idle, so it saw to nothing
  begin_attended : (operation : Operation) (limit : Limit) (t b : ℕ) → (table.threads t).state ≡ Idle → AllAttended (begin_at table operation limit t b)
  begin_attended operation limit t b idle o =
      record { flag = λ up. still flagging refl ((attended o).flag up); fat = λ fat none. still entering refl ((attended o).fat fat none) }
    where
      still : (test : ThreadState → Bool) → test Idle ≡ false → Somebody test (states_at table o) → Somebody test (states_at (begin_at table operation limit t b) o)
      still test never (u, is) =
          let away : u ≢ t = λ e. false≢true (sym never ∙ (ap test (sym (seen_idle o (table.threads t) idle)) ∙ (ap (λ (x : ℕ). test (states_at table o x)) (sym e) ∙ holds (test (states_at table o u)) is))) in
          (u, subst (λ (thread : ListThread). T (test (seen_from o thread))) (sym (update_other table.threads t _ u away)) is)

  step_attended : (t : ℕ) (doing : Doing) → 1 ≤ t → t ≤ threads → (table.threads t).state ≡ Running doing → AllAttended (step_at table t doing).table
  step_attended t doing real low running b = at (equal? b (table.threads t).object)
    where
      at : (b ≡ (table.threads t).object) ⊎ (b ≢ (table.threads t).object)
          → Attended (states_at (step_at table t doing).table b) ((step_at table t doing).table.objects b)
      at (inl e) =
          let home = (table.threads t).object in
          let states = states_at table home in
          let object = table.objects home in
          let result = perform_at table home t doing in
          rw e
          (subst₂ Attended (fun_ext (seen_there table home result (elsewhere threads objects table sound t doing real low running)))
          (sym (update_same table.objects home result.object))
          (performed_attended t states object (attended home) doing (seen_here home (table.threads t) refl ∙ running) (decide t (sight_of object) doing)
          (decide_attends t states object doing (rw running at (sound.fine t)) (known_of states object (ghost_at plain home) (world.inv home) (attended home) t))))
      at (inr away) =
          let home = (table.threads t).object in
          let result = perform_at table home t doing in
          subst₂ Attended (fun_ext (seen_as_before table home result b away)) (sym (update_other table.objects home result.object b away)) (attended b)

  tick_attended : AllAttended (tick_all table)
  tick_attended o =
      subst (λ (states : ℕ → ThreadState). Attended states (ticked_at table o).object) (sym (fun_ext (tick_seen (λ b. true) table o)))
      (ticked_attended (states_at table o) (table.objects o) (ghost_at plain o) (world.inv o) (attended o) (sound.sound o).shallow)

  turn_attended : (event : Event) → AllAttended (turn threads objects table event).table
  turn_attended =
      by_event list_kind threads objects table (λ event result. AllAttended result.table) (λ event refusal high. attended)
      (λ number limit operation given t o asked fits low high real small idle. begin_attended operation given t o idle) step_attended tick_attended

run_attended : (threads objects : ℕ) (events : List Event) (table : ListTable) (plain : Plain) → SoundTable threads objects table → World table plain → AllAttended table
    → AllAttended (final threads objects table events)
run_attended threads objects [] table plain sound world attended = attended
run_attended threads objects (event ∷ rest) table plain sound world attended =
    let turned = turn threads objects table event in
    run_attended threads objects rest turned.table (feed plain event turned.reply) (sound_turn threads objects table sound event)
    (world_turn threads objects table plain world event) (turn_attended threads objects table sound plain world attended event)

fresh_attended : (reserved : Bool) (rank : ℕ → ℕ) → AllAttended (fresh reserved rank)
fresh_attended reserved rank o = record { flag = λ up. false≢true up; fat = λ fat none. absurd (never reserved fat) }
  where
    never : (reserved : Bool) → IsFat (fresh_word reserved) → ⊥
    never true fat = fat
    never false fat = fat

-- after every schedule
pub schedule_attended : (threads objects : ℕ) (reserved : Bool) (rank : ℕ → ℕ) (events : List Event) → AllAttended (final threads objects (fresh reserved rank) events)
schedule_attended threads objects reserved rank events =
    run_attended threads objects events (fresh reserved rank) blank (sound_fresh threads objects reserved rank) (world_fresh reserved rank) (fresh_attended reserved rank)

-- an object as new, but for a reservation
pub record AsNew (o : ListObject) : Type 0 where
  pub word : IsFat o.word → ⊥
  pub flag : o.flag ≡ false
  pub holder : o.holder ≡ 0
  pub depth : o.depth ≡ 0
  pub entry : o.entry ≡ []
  pub contention : o.contention ≡ []
  pub waiting : o.waiting ≡ []

nobody_in : (list : List ℕ) → ((t : ℕ) → count t list ≡ 0) → list ≡ []
nobody_in [] none = refl
nobody_in (first ∷ rest) none = absurd (omega (arith, none first, count_same first rest))

-- Nobody owns it and nobody is at it.
module _ (states : ℕ → ThreadState) (o : ListObject) (ghost : Ghost) (inv : Invariant states o ghost) (attended : Attended states o)
    (free : object_owner o ≡ 0) (away : (t : ℕ) → states t ≡ Idle) where
  nobody_at : (test : ThreadState → Bool) → test Idle ≡ false → Somebody test states → ⊥
  nobody_at test never (t, is) = false≢true (sym never ∙ (sym (ap test (away t)) ∙ holds (test (states t)) is))

  -- a depth goes with a fat word and an owner
  unowned_depth : (holder depth : ℕ) (word : WordSeen) → MonitorOk word holder depth → owner_of word holder depth ≡ 0 → depth ≡ 0
  unowned_depth holder depth =
      each_word _ (
        λ ok none. ok,
        λ ok none. ok,
        λ ok. by_equal (λ owner. owner ≡ 0 → depth ≡ 0) depth 0 (λ zero none. zero) (λ some none. absurd (ok.1 (omega (arith, some)) none)),
        λ owner c ok none. ok.0,
        λ owner c ok none. ok.0,
      )

  -- and a holder at rest with a depth
  seated : (t : ℕ) → Seated (seat (states t)) t t o.depth → t ≢ 0 → 0 < o.depth
  seated t sits some = let rests : Seated outside t t o.depth = rw (away t) at sits in rests refl some

  pub as_new : AsNew o
  as_new =
      let none : o.depth ≡ 0 = unowned_depth o.holder o.depth o.word inv.whole.monitor free in
      let placed : (t : ℕ) → Placed Idle t o.entry o.contention o.waiting = λ t. rw (away t) at (inv.threads t).placed in
      record {
        word = λ fat. nobody_at entering refl (attended.fat fat none);
        flag = split o.flag (λ up. absurd (nobody_at flagging refl (attended.flag up))) (λ down. down);
        holder = either_way (equal? o.holder 0) (λ e. e) (λ some. absurd (omega (arith, none, seated o.holder (inv.threads o.holder).seated some)));
        depth = none;
        entry = nobody_in o.entry (λ t. (placed t).entry);
        contention = nobody_in o.contention (λ t. (placed t).contention);
        waiting = nobody_in o.waiting (λ t. (placed t).waiting);
      }
