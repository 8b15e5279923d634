-- Access by number: a record read in place, reading after writing, and what a write leaves as it was.
use Prim.Native.Nat.{ℕ, ◌-◌, ◌<◌, ◌≤◌}
use mathlib.Core.Path.{◌≡◌, refl, ap, fun_ext}
use mathlib.Core.Logic.{◌≢◌, ◌⊎◌, inl, inr}
use mathlib.Core.Bool.{Bool, true, false}
use mathlib.Core.List.{List}
use native.Mathlib.Omega.{arith}
use lib.ListN.{length, get_or, set, length-set}
use lib.Seq.{get_or-set_same, get_or-set_other, set-get_or}
use lib.Dec.{eqb, ltb}
use borrow.Author.Tests.{eq-eqb, ne_eqb, lt-ltb, le-ltb}
use Rattle.laws.specs.{Choice.pick, Update.update}
use Rattle.laws.proofs.Choice.{equal?, Equal, equal}
use Rattle.laws.proofs.Update.{update_same, update_other}
use Rattle.lock_table.specs.Limits.{thread_limit, object_limit}
use Rattle.lock_table.specs.Record.{no_thread, no_object}
use Rattle.lock_table.specs.Access.{thread_at, set_thread, object_at, set_object, next_of}
use Rattle.lock_table.specs.declared.record.{ThreadRecord.ThreadRecord, ObjectRecord.ObjectRecord, Table.Table}

-- any list of records, by number from 1 to `limit`: `none` is the empty record
module _ (A : Type 0) (none : A) (limit : ℕ) where
  abbrev pub read_at : List A → ℕ → A
  read_at list number = pick (eqb number 0) none (pick (ltb limit number) none (get_or list (number - 1) none))

  abbrev pub write_at : List A → ℕ → A → List A
  write_at list number value = pick (eqb number 0) list (pick (ltb limit number) list (set list (number - 1) value))

  pub read_written : (list : List A) (number : ℕ) (value : A) → length list ≡ limit → 0 < number → number ≤ limit
      → read_at (write_at list number value) ≡ update (read_at list) number value
  read_written list number value full low high =
      rw (ne_eqb number 0 (λ q. omega (arith, q, low)), le-ltb limit number high) (fun_ext (λ m. at m (equal? m number)))
    where
      at : (m : ℕ) → (m ≡ number) ⊎ (m ≢ number) → read_at (set list (number - 1) value) m ≡ update (read_at list) number value m
      at m (inl q) =
          rw (q, update_same (read_at list) number value, ne_eqb number 0 (λ q. omega (arith, q, low)), le-ltb limit number high)
          (get_or-set_same list (number - 1) value none (omega (arith, full, low, high)))
      at m (inr away) = rw (update_other (read_at list) number value m away) (by (eqb m 0) (equal m 0))
        where
          by : (zero? : Bool) → Equal zero? m 0
              → pick zero? none (pick (ltb limit m) none (get_or (set list (number - 1) value) (m - 1) none))
              ≡ pick zero? none (pick (ltb limit m) none (get_or list (m - 1) none))
          by true q = refl
          by false q = ap (λ x. pick (ltb limit m) none x) (get_or-set_other list (number - 1) (m - 1) value none (λ e. away (apart e q)))
            where
              apart : m - 1 ≡ number - 1 → m ≢ 0 → m ≡ number
              apart e q = omega (arith, e, q, low)

-- a record that is read or written in place is that of its number
pub thread_in : (t : Table) (n : ℕ) → n ≢ 0 → n ≤ thread_limit → thread_at t n ≡ get_or t.threads (n - 1) no_thread
unfolding thread_at
thread_in t n some high = simp (ne_eqb n 0 some, le-ltb thread_limit n high)

pub object_in : (t : Table) (n : ℕ) → n ≢ 0 → n ≤ object_limit → object_at t n ≡ get_or t.objects (n - 1) no_object
unfolding object_at
object_in t n some high = simp (ne_eqb n 0 some, le-ltb object_limit n high)

pub next_in : (t : Table) (n : ℕ) → n ≢ 0 → n ≤ thread_limit → next_of t n ≡ (get_or t.threads (n - 1) no_thread).next
next_in t n some high = ap (λ (thread : ThreadRecord). thread.next) (thread_in t n some high)

pub set_thread_in : (t : Table) (n : ℕ) (thread : ThreadRecord) → n ≢ 0 → n ≤ thread_limit
    → set_thread t n thread ≡ record { threadcount = t.threadcount; objectcount = t.objectcount; threads = set t.threads (n - 1) thread; objects = t.objects }
unfolding set_thread
set_thread_in t n thread some high = simp (ne_eqb n 0 some, le-ltb thread_limit n high)

pub set_object_in : (t : Table) (n : ℕ) (object : ObjectRecord) → n ≢ 0 → n ≤ object_limit
    → set_object t n object ≡ record { threadcount = t.threadcount; objectcount = t.objectcount; threads = t.threads; objects = set t.objects (n - 1) object }
unfolding set_object
set_object_in t n object some high = simp (ne_eqb n 0 some, le-ltb object_limit n high)

-- numbers out of range
pub thread_none : (t : Table) → thread_at t 0 ≡ no_thread
unfolding thread_at
thread_none t = refl

pub thread_past : (t : Table) (n : ℕ) → thread_limit < n → thread_at t n ≡ no_thread
unfolding thread_at
thread_past t n past = simp (ne_eqb n 0 (λ q. omega (arith, q, past)), lt-ltb thread_limit n past)

pub object_beyond : (t : Table) (o : ℕ) → object_limit < o → object_at t o ≡ no_object
unfolding object_at
object_beyond t o past = rw (ne_eqb o 0 (λ q. omega (arith, q, past)), lt-ltb object_limit o past)

pub set_thread_out : (t : Table) (n : ℕ) (thread : ThreadRecord) → (n ≡ 0) ⊎ (thread_limit < n) → set_thread t n thread ≡ t
unfolding set_thread
set_thread_out t n thread (inl none) = rw (eq-eqb n 0 none)
set_thread_out t n thread (inr past) = rw (ne_eqb n 0 (λ q. omega (arith, q, past)), lt-ltb thread_limit n past)

pub set_object_out : (t : Table) (n : ℕ) (object : ObjectRecord) → (n ≡ 0) ⊎ (object_limit < n) → set_object t n object ≡ t
unfolding set_object
set_object_out t n object (inl none) = rw (eq-eqb n 0 none)
set_object_out t n object (inr past) = rw (ne_eqb n 0 (λ q. omega (arith, q, past)), lt-ltb object_limit n past)

-- reading after writing, the same number and others
pub thread_set : (t : Table) (n : ℕ) (thread : ThreadRecord) → length t.threads ≡ thread_limit → 0 < n → n ≤ thread_limit
    → thread_at (set_thread t n thread) ≡ update (thread_at t) n thread
unfolding thread_at set_thread
thread_set t n thread full low high =
    rw (ne_eqb n 0 (λ q. omega (arith, q, low)), le-ltb thread_limit n high)
    (rw (ne_eqb n 0 (λ q. omega (arith, q, low)), le-ltb thread_limit n high) at
    (read_written ThreadRecord no_thread thread_limit t.threads n thread full low high))

pub object_set : (t : Table) (n : ℕ) (object : ObjectRecord) → length t.objects ≡ object_limit → 0 < n → n ≤ object_limit
    → object_at (set_object t n object) ≡ update (object_at t) n object
unfolding object_at set_object
object_set t n object full low high =
    rw (ne_eqb n 0 (λ q. omega (arith, q, low)), le-ltb object_limit n high)
    (rw (ne_eqb n 0 (λ q. omega (arith, q, low)), le-ltb object_limit n high) at
    (read_written ObjectRecord no_object object_limit t.objects n object full low high))

-- what a write to a thread leaves: the sizes, the objects, and how many thread records there are
pub record BesideThreads (before after : Table) : Type 0 where
  pub threadcount : after.threadcount ≡ before.threadcount
  pub objectcount : after.objectcount ≡ before.objectcount
  pub objects : after.objects ≡ before.objects
  pub length_kept : length after.threads ≡ length before.threads

pub thread_beside : (t : Table) (n : ℕ) (thread : ThreadRecord) → BesideThreads t (set_thread t n thread)
unfolding set_thread
thread_beside t n thread = at (eqb n 0) (ltb thread_limit n)
  where
    at : (a b : Bool)
        → BesideThreads t (pick a t (pick b t
        (record { threadcount = t.threadcount; objectcount = t.objectcount; threads = set t.threads (n - 1) thread; objects = t.objects })))
    at true b = record { threadcount = refl; objectcount = refl; objects = refl; length_kept = refl }
    at false true = record { threadcount = refl; objectcount = refl; objects = refl; length_kept = refl }
    at false false = record { threadcount = refl; objectcount = refl; objects = refl; length_kept = length-set t.threads (n - 1) thread }

-- what a write to an object leaves: the sizes, the threads, and how many object records there are
pub record BesideObjects (before after : Table) : Type 0 where
  pub threadcount : after.threadcount ≡ before.threadcount
  pub objectcount : after.objectcount ≡ before.objectcount
  pub threads : after.threads ≡ before.threads
  pub length_kept : length after.objects ≡ length before.objects

pub object_beside : (t : Table) (n : ℕ) (object : ObjectRecord) → BesideObjects t (set_object t n object)
unfolding set_object
object_beside t n object = at (eqb n 0) (ltb object_limit n)
  where
    at : (a b : Bool)
        → BesideObjects t (pick a t (pick b t
        (record { threadcount = t.threadcount; objectcount = t.objectcount; threads = t.threads; objects = set t.objects (n - 1) object })))
    at true b = record { threadcount = refl; objectcount = refl; threads = refl; length_kept = refl }
    at false true = record { threadcount = refl; objectcount = refl; threads = refl; length_kept = refl }
    at false false = record { threadcount = refl; objectcount = refl; threads = refl; length_kept = length-set t.objects (n - 1) object }

-- an object written as it stands
pub object_unchanged : (t : Table) (o : ℕ) → set_object t o (object_at t o) ≡ t
unfolding set_object object_at
object_unchanged t o = at (eqb o 0) (ltb object_limit o)
  where
    at : (none past : Bool)
        → let object = pick none no_object (pick past no_object (get_or t.objects (o - 1) no_object)) in
        pick none t (pick past t
        (record { threadcount = t.threadcount; objectcount = t.objectcount; threads = t.threads; objects = set t.objects (o - 1) object }))
        ≡ t
    at true past = refl
    at false true = refl
    at false false =
        ap
        (λ (objects : List ObjectRecord).
        record { threadcount = t.threadcount; objectcount = t.objectcount; threads = t.threads; objects = objects })
        (set-get_or t.objects (o - 1) no_object)

-- a thread written as it stands
pub thread_unchanged : (t : Table) (n : ℕ) → set_thread t n (thread_at t n) ≡ t
unfolding set_thread thread_at
thread_unchanged t n = at (eqb n 0) (ltb thread_limit n)
  where
    at : (none past : Bool)
        → let thread = pick none no_thread (pick past no_thread (get_or t.threads (n - 1) no_thread)) in
        pick none t (pick past t
        (record { threadcount = t.threadcount; objectcount = t.objectcount; threads = set t.threads (n - 1) thread; objects = t.objects }))
        ≡ t
    at true past = refl
    at false true = refl
    at false false =
        ap
        (λ (threads : List ThreadRecord).
        record { threadcount = t.threadcount; objectcount = t.objectcount; threads = threads; objects = t.objects })
        (set-get_or t.threads (n - 1) no_thread)

-- writing a thread leaves every object
pub object_beside_thread : (t : Table) (n o : ℕ) (thread : ThreadRecord) → object_at (set_thread t n thread) o ≡ object_at t o
unfolding object_at
object_beside_thread t n o thread =
    ap (λ (objects : List ObjectRecord). pick (eqb o 0) no_object (pick (ltb object_limit o) no_object (get_or objects (o - 1) no_object)))
    (thread_beside t n thread).objects

-- a write to an object leaves every thread
pub thread_beside_object : (t : Table) (n o : ℕ) (object : ObjectRecord) → thread_at (set_object t o object) n ≡ thread_at t n
unfolding thread_at
thread_beside_object t n o object =
    ap (λ (threads : List ThreadRecord). pick (eqb n 0) no_thread (pick (ltb thread_limit n) no_thread (get_or threads (n - 1) no_thread)))
    (object_beside t o object).threads
