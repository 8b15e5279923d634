-- Fresh tables (document 01, "The table", last sentence, and 22 of "Returned first"; document 02, L8, for ranks and 27).
use Rattle.std.specs.Prelude.{ℕ, ◌≤◌, ◌<◌, ◌≡◌, Bool, false, not, List, ltb, leb, get_or, replicate, Result, Ok, Err}
use Rattle.laws.specs.Choice.{pick, both, within}
use Rattle.laws.specs.Sequence.{tabulate}
use Rattle.laws.specs.Every.{all_below}
use Rattle.lock_word.specs.Write.{free_word, anonymous_word}
use Rattle.lock_table.specs.Limits.{thread_limit, object_limit, rank_limit}
use Rattle.lock_table.specs.Record.{no_thread, with_rank, no_object, with_word}
use Rattle.lock_table.specs.declared.record.ThreadRecord.{ThreadRecord}
use Rattle.lock_table.specs.declared.record.ObjectRecord.{ObjectRecord}
use Rattle.lock_table.specs.declared.record.Table.{Table}
use Rattle.lock_table.specs.declared.fresh_table.ThreadGiven.{ThreadGiven}
use Rattle.lock_table.specs.declared.fresh_table.ObjectGiven.{ObjectGiven}
use Rattle.lock_table.specs.declared.fresh_table.FreshRequest.{FreshRequest}
use Rattle.lock_table.specs.declared.fresh_table.FreshRefusal.{FreshRefusal}
use Rattle.lock_table.specs.declared.fresh_table.FreshRefusal.TheVariants.{SizeOutOfRange, RankOutOfRange}

-- nothing given: every field is 0
abbrev pub no_thread_given : ThreadGiven
no_thread_given = record { rank = 0 }

abbrev pub no_object_given : ObjectGiven
no_object_given = record { reserved = false }

-- a request of sizes, of the kind of words and of what the threads are given; and one by which no thread is given anything
abbrev pub request_of : ℕ → ℕ → Bool → List ThreadGiven → FreshRequest
request_of threads objects reserved tothreads = record { threads = threads; objects = objects; reserved = reserved; tothreads = tothreads }

abbrev pub sized_request : ℕ → ℕ → Bool → FreshRequest
sized_request threads objects reserved = request_of threads objects reserved (replicate thread_limit no_thread_given)

-- every word anonymously reserved or free, as asked
unfoldable pub first_word : Bool → ℕ
first_word reserved = pick reserved anonymous_word free_word

-- what the record at a place is given, which counts from 0: what a request has past T or N is "dropped unread"
abbrev pub given_at : {A : Type 0} → ℕ → ℕ → A → (ℕ → A) → ℕ → A
given_at size limit none given place = pick (ltb place size) (pick (ltb place limit) (given place) none) none

abbrev pub asked_for : FreshRequest → ℕ → ThreadGiven
asked_for request place = get_or request.tothreads place no_thread_given

unfoldable pub thread_given : FreshRequest → ℕ → ThreadGiven
thread_given request place = given_at request.threads thread_limit no_thread_given (asked_for request) place

unfoldable pub object_given : FreshRequest → ℕ → ObjectGiven
object_given request place = given_at request.objects object_limit no_object_given (λ n. record { reserved = request.reserved }) place

-- each thread idle, and each object owned by nobody, with what it is given
abbrev pub fresh_thread : ThreadGiven → ThreadRecord
fresh_thread given = with_rank no_thread given.rank

abbrev pub fresh_object : ObjectGiven → ObjectRecord
fresh_object given = with_word no_object (first_word given.reserved)

abbrev pub thread_from : FreshRequest → ℕ → ThreadRecord
thread_from request place = fresh_thread (thread_given request place)

abbrev pub object_from : FreshRequest → ℕ → ObjectRecord
object_from request place = fresh_object (object_given request place)

abbrev pub table_of : FreshRequest → Table
table_of request =
    record {
      threadcount = request.threads;
      objectcount = request.objects;
      threads = tabulate thread_limit (thread_from request);
      objects = tabulate object_limit (object_from request);
    }

-- the table of no threads and no objects, all zero
abbrev pub no_table : Table
no_table = table_of (sized_request 0 0 false)

-- T from 1 to 32 and N from 1 to 64
unfoldable pub in_range : FreshRequest → Bool
in_range request = both (within 1 thread_limit request.threads) (within 1 object_limit request.objects)

-- every rank that is given is 0 to 3
unfoldable pub ranks_fit : FreshRequest → Bool
ranks_fit request = all_below thread_limit (λ place. leb (thread_given request place).rank rank_limit)

-- what is asked can be made
abbrev pub InRange : FreshRequest → Type 0
InRange request =
    (1 ≤ request.threads) × (request.threads ≤ thread_limit) × (1 ≤ request.objects) × (request.objects ≤ object_limit)
    × ((place : ℕ) → (thread_given request place).rank ≤ rank_limit)

-- 22, and after it 27
unfoldable pub fresh_answer : FreshRequest → Result (Unit {0}) FreshRefusal
fresh_answer request =
    pick (not (in_range request)) (Err SizeOutOfRange)
    (pick (not (ranks_fit request)) (Err RankOutOfRange)
    (Ok tt))

-- refused, none is made
unfoldable pub made_by : Result (Unit {0}) FreshRefusal → FreshRequest → Result Table FreshRefusal
made_by (Ok _) request = Ok (table_of request)
made_by (Err refusal) request = Err refusal

unfoldable pub fresh_of : FreshRequest → Result Table FreshRefusal
fresh_of request = made_by (fresh_answer request) request

-- document 01's number for the answer
unfoldable pub refusal_returned : FreshRefusal → ℕ
refusal_returned SizeOutOfRange = 22
refusal_returned RankOutOfRange = 27

unfoldable pub fresh_returned : {A : Type 0} → Result A FreshRefusal → ℕ
fresh_returned (Ok _) = 0
fresh_returned (Err refusal) = refusal_returned refusal

-- "What a fresh table is given, here and later, .. is dropped unread past T or N" (document 02, L8): two requests of the same sizes and words that agree in
-- what they have for the threads up to T are answered alike, and the same table is made
abbrev pub PastUnread : Type 0
PastUnread =
    (request other : FreshRequest) → request.threads ≡ other.threads → request.objects ≡ other.objects → request.reserved ≡ other.reserved
    → ((place : ℕ) → place < request.threads → asked_for request place ≡ asked_for other place) → fresh_of request ≡ fresh_of other
