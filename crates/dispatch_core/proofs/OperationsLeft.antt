-- The operations that threads have still to begin, added up one thread at a time.
use Prim.Native.Nat.{ℕ, ◌+◌, ◌-◌}
use mathlib.Core.Path.{◌≡◌, refl}
use mathlib.Core.List.{List}
use native.Mathlib.Numerals.{add-one}
use Rattle.dispatch_rules.specs.Script.{cursor_at}
use Rattle.dispatch_rules.specs.Dispatch.{operations_left}
use Rattle.dispatch_rules.specs.declared.ScriptCursor.{ScriptCursor}

pub left_none : (cursors : List ScriptCursor) → 0 ≡ operations_left 0 cursors
unfolding operations_left
left_none cursors = refl

pub left_next : (n : ℕ) (cursors : List ScriptCursor)
    → let cursor = cursor_at cursors (n + 1) in operations_left (n + 1) cursors ≡ operations_left n cursors + (cursor.length - cursor.cursor)
unfolding operations_left
left_next n cursors = rw (add-one n) refl
