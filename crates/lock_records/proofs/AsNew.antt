-- A free number is as new: what the records say is what the table with lists says.
use Prim.Native.Nat.{ℕ}
use mathlib.Core.Path.{◌≡◌, refl, sym, ap, ◌∙◌}
use mathlib.Core.Bool.{true}
use lib.Dec.{T}
use Rattle.laws.proofs.Choice.{either_way, equal?}
use Rattle.chains.proofs.Listed.{head}
use Rattle.chains.specs.declared.named.Chain.{Chain}
use Rattle.lock_word.specs.declared.meaning.{WordSeen.WordSeen, Ownership.Ownership}
use Rattle.lock_rules.specs.Feed.{Plain}
use Rattle.lock_rules.specs.declared.ThreadState.{ThreadState}
use Rattle.lock_rules.specs.declared.ThreadState.TheVariants.{Idle}
use Rattle.lock_rules.proofs.Each.{each_state, each_word}
use Rattle.lock_rules.proofs.Status.{unfinished}
use Rattle.lock_rules.proofs.Invariant.{IsFat}
use Rattle.lock_rules.proofs.Tables.{ListTable, states_at, seen_idle, seen_elsewhere}
use Rattle.lock_rules.proofs.ListSound.{SoundTable}
use Rattle.lock_rules.proofs.Lift.{ghost_at, World}
use Rattle.lock_rules.proofs.AsNew.{AllAttended, as_new}
use Rattle.lock_table.specs.declared.record.{ObjectRecord.ObjectRecord, Table.Table}
use Rattle.lock_records.specs.AsNew.{FreeNumber, thin_seen, thin_word, AsNew}
use Rattle.lock_records.proofs.Written.{seen_written}
use Rattle.lock_records.proofs.Represents.{Represents}
use Rattle.lock_records.proofs.Readings.{home_is, first_is, word_is}
use Rattle.lock_records.proofs.Claim.{ownership_is}

thin_is : (word : WordSeen) → (IsFat word → ⊥) → thin_seen word ≡ true
thin_is = each_word _ (search, search, λ thin. absurd (thin tt), search, search)

idle_or_busy : (P : Type 0) (state : ThreadState) → (state ≡ Idle → P) → (T (unfinished state) → P) → P
idle_or_busy P = each_state _ (λ idle busy. idle refl, λ doing idle busy. busy tt, λ carried idle busy. busy tt, λ idle busy. busy tt, λ suspension idle busy. busy tt)

module _ (threads objects : ℕ) (t : Table) (lists : ListTable) (represents : Represents threads objects t lists) (sound : SoundTable threads objects lists) where
  -- no thread is at it in the lists either
  away : (o : ℕ) → FreeNumber t o → (n : ℕ) → states_at lists o n ≡ Idle
  away o free n =
      either_way (equal? (lists.threads n).object o)
      (λ here. idle_or_busy (states_at lists o n ≡ Idle) (lists.threads n).state (seen_idle o (lists.threads n))
      (λ busy. absurd (free.unused n (home_is threads objects t lists represents sound n busy ∙ here))))
      (seen_elsewhere o (lists.threads n))

  pub represents_as_new : (plain : Plain) → World lists plain → AllAttended lists → (o : ℕ) → FreeNumber t o → AsNew t o
  represents_as_new plain world attended o free =
      let real = free.real.0 in
      let small = rw represents.objectcount at free.real.1 in
      let new = as_new (states_at lists o) (lists.objects o) (ghost_at plain o) (world.inv o) (attended o)
      (sym (ap (λ (x : Ownership). x.thread) (ownership_is threads objects t lists represents sound o real small)) ∙ free.unowned) (away o free) in
      let is = represents.object_is o real small in
      record {
        word = ap thin_word (word_is threads objects t lists represents sound o real small)
            ∙ (ap thin_seen (seen_written o (lists.objects o).word) ∙ thin_is (lists.objects o).word new.word);
        flag = ap (λ (object : ObjectRecord). object.flag) is ∙ new.flag;
        holder = ap (λ (object : ObjectRecord). object.monitor.holder) is ∙ new.holder;
        depth = ap (λ (object : ObjectRecord). object.monitor.depth) is ∙ new.depth;
        entry = ap (λ (object : ObjectRecord). object.monitor.entry) is ∙ (first_is threads objects t lists represents sound o Chain.Entry ∙ ap head new.entry);
        contention = ap (λ (object : ObjectRecord). object.monitor.contention) is
            ∙ (first_is threads objects t lists represents sound o Chain.Contention ∙ ap head new.contention);
        waiting = ap (λ (object : ObjectRecord). object.monitor.waiting) is ∙ (first_is threads objects t lists represents sound o Chain.Waiting ∙ ap head new.waiting);
      }
