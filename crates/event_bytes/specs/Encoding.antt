-- How events are written in bytes, eight for each: kind, thread, operation's number, object, and a limit in four bytes, the lowest first.
use Rattle.std.specs.Prelude.{ℕ, zero, suc, ◌+◌, ◌*◌, ◌/◌, List, [], ◌∷◌, eqb, length, get_or}
use Rattle.laws.specs.Choice.{pick}
use Rattle.lock_rules.specs.declared.event.Event.{Event}
use Rattle.lock_rules.specs.declared.event.Event.TheVariants.{Begin, Step, Tick}

abbrev pub event_size : ℕ
event_size = 8

abbrev pub begin_kind : ℕ
begin_kind = 0

abbrev pub step_kind : ℕ
step_kind = 1

-- a tick reads no other byte
abbrev pub tick_kind : ℕ
tick_kind = 2

unfoldable pub limit_from : ℕ → ℕ → ℕ → ℕ → ℕ
limit_from first second third fourth = first + second * 256 + third * 65536 + fourth * 16777216

-- any other kind is the begin of no operation, which is refused with 17 unless 11 or 12 applies
unfoldable pub event_from : ℕ → ℕ → ℕ → ℕ → ℕ → Event
event_from kind thread operation object limit =
    pick (eqb kind begin_kind) (Begin operation thread object limit)
    (pick (eqb kind step_kind) (Step thread) (pick (eqb kind tick_kind) Tick (Begin 0 thread object limit)))

abbrev pub limit_at : List ℕ → ℕ → ℕ
limit_at bytes at = limit_from (get_or bytes (at + 4) 0) (get_or bytes (at + 5) 0) (get_or bytes (at + 6) 0) (get_or bytes (at + 7) 0)

abbrev pub event_at : List ℕ → ℕ → Event
event_at bytes at = event_from (get_or bytes at 0) (get_or bytes (at + 1) 0) (get_or bytes (at + 2) 0) (get_or bytes (at + 3) 0) (limit_at bytes at)

-- so many events from a place on
unfoldable pub events_from : ℕ → List ℕ → ℕ → List Event
events_from zero bytes at = []
events_from (suc count) bytes at = event_at bytes at ∷ events_from count bytes (at + event_size)

-- as many as there are; fewer than eight bytes at the end are none
abbrev pub event_count : List ℕ → ℕ
event_count bytes = length bytes / event_size

abbrev pub events_of : List ℕ → List Event
events_of bytes = events_from (event_count bytes) bytes 0
