-- An object replaced, with its chains and the threads at it: what stands for the rest of the table goes on to stand for it.
use Prim.Native.Nat.{ℕ, ◌≤◌}
use mathlib.Core.Path.{◌≡◌, sym, ap, ◌∙◌, fun_ext}
use mathlib.Core.Logic.{◌≢◌, ◌⊎◌, inl, inr}
use mathlib.Core.List.{List}
use native.Mathlib.Omega.{arith}
use lib.ListN.{length}
use Rattle.laws.specs.{Update.update}
use Rattle.laws.proofs.Choice.{equal?}
use Rattle.laws.proofs.Update.{update_same, update_other}
use Rattle.chains.proofs.Listed.{by_update, head}
use Rattle.chains.proofs.Links.{Links, LinksRepresent, first_head}
use Rattle.lock_rules.specs.declared.{ThreadState.ThreadState}
use Rattle.lock_rules.proofs.Objects.{ListObject, chain_of}
use Rattle.lock_rules.proofs.Tables.{ListTable}
use Rattle.chains.specs.declared.named.Chain.{Chain}
use Rattle.lock_table.specs.Limits.{thread_limit, object_limit}
use Rattle.lock_table.specs.Record.{no_thread, no_object}
use Rattle.lock_table.specs.Access.{thread_at, object_at, set_object}
use Rattle.lock_table.proofs.Records.{read_at, BesideObjects, object_set, object_beside}
use Rattle.lock_table.specs.declared.record.{ThreadRecord.ThreadRecord, ObjectRecord.ObjectRecord, Table.Table}
use Rattle.lock_records.proofs.Numbering.{number, lists_of, list_at}
use Rattle.lock_records.proofs.Represents.{object_record, Represents}
use Rattle.lock_records.proofs.Moves.{Moves}
use Rattle.lock_records.proofs.Placing.{placed}

-- a table with the same list of records has the same records
threads_of : (t u : Table) → u.threads ≡ t.threads → thread_at u ≡ thread_at t
unfolding thread_at
threads_of t u same = fun_ext (λ n. ap (λ (records : List ThreadRecord). read_at ThreadRecord no_thread thread_limit records n) same)

pub objects_of : (t u : Table) → u.objects ≡ t.objects → object_at u ≡ object_at t
unfolding object_at
objects_of t u same = fun_ext (λ n. ap (λ (records : List ObjectRecord). read_at ObjectRecord no_object object_limit records n) same)

module _ (threads objects : ℕ) (t : Table) (lists : ListTable) (represents : Represents threads objects t lists) (o : ℕ) (real : 1 ≤ o) (small : o ≤ objects)
    (new : ListObject) (links : Links) (table : Table) (states : ℕ → ThreadState) (object_written : ObjectRecord)
    (represented : LinksRepresent links (lists_of (update lists.objects o new)))
    (threads_after : Moves represents.given.thread t table (placed o lists.threads states) links.next)
    (written_is : object_written ≡ object_record o new links (represents.given.object o)) (same_ranks : new.rank ≡ (lists.objects o).rank) where
  objects_after : object_at (set_object table o object_written) ≡ update (object_at t) o object_written
  objects_after =
      let same : table.objects ≡ t.objects = threads_after.beside.objects in
      object_set table o object_written (ap length same ∙ represents.objects_full) real (omega (arith, small, represents.object_room))
      ∙ ap (λ (f : ℕ → ObjectRecord). update f o object_written) (objects_of t table same)

  -- the chains of another object begin as before
  other_first : (p : ℕ) → p ≢ o → (chain : Chain) → links.first (number p chain) ≡ represents.links.first (number p chain)
  other_first p away chain =
      first_head links (lists_of (update lists.objects o new)) represented (number p chain)
      ∙ (ap head
      (list_at (update lists.objects o new) p chain
      ∙ (ap (chain_of chain) (update_other lists.objects o new p away) ∙ sym (list_at lists.objects p chain)))
      ∙ sym (first_head represents.links (lists_of lists.objects) represents.chains (number p chain)))

  object_after_at : (p : ℕ) → 1 ≤ p → p ≤ objects → (p ≡ o) ⊎ (p ≢ o)
      → update (object_at t) o object_written p ≡ object_record p (update lists.objects o new p) links (represents.given.object p)
  object_after_at p first last (inl e) = rw (e, update_same (object_at t) o object_written, update_same lists.objects o new) written_is
  object_after_at p first last (inr away) =
      rw (
        update_other (object_at t) o object_written p away,
        update_other lists.objects o new p away,
        other_first p away Chain.Entry,
        other_first p away Chain.Contention,
        other_first p away Chain.Waiting,
      ) (represents.object_is p first last)

  pub replaced_represents : Represents threads objects (set_object table o object_written)
      (record { threads = placed o lists.threads states; objects = update lists.objects o new })
  replaced_represents =
      record {
        threadcount = beside.threadcount ∙ (threads_after.beside.threadcount ∙ represents.threadcount);
        objectcount = beside.objectcount ∙ (threads_after.beside.objectcount ∙ represents.objectcount);
        thread_room = represents.thread_room;
        object_room = represents.object_room;
        given = represents.given;
        links = links;
        chains = represented;
        written = record {
          records = threads_of table (set_object table o object_written) beside.threads ∙ threads_after.written.records;
          full = ap length beside.threads ∙ threads_after.written.full;
        };
        objects_full = beside.length_kept ∙ (ap length threads_after.beside.objects ∙ represents.objects_full);
        object_is = λ p first last. ap (λ (f : ℕ → ObjectRecord). f p) objects_after ∙ object_after_at p first last (equal? p o);
        object_past = λ p past. ap (λ (f : ℕ → ObjectRecord). f p) objects_after
            ∙ (update_other (object_at t) o object_written p (λ e. omega (arith, e, past, small)) ∙ represents.object_past p past);
        ranked = λ p. by_update (λ object. object.rank ≡ (λ n. (represents.given.thread n).rank)) lists.objects o new p (λ e. same_ranks ∙ represents.ranked o) (λ away. represents.ranked p);
      }
    where
      beside : BesideObjects table (set_object table o object_written)
      beside = object_beside table o object_written
