-- Events from a place on, one at a time.
use Prim.Native.Nat.{ℕ, zero, suc, ◌+◌, ◌-◌, ◌≤◌, ◌<◌}
use mathlib.Core.Path.{◌≡◌, refl}
use mathlib.Core.List.{List, [], ◌∷◌}
use native.Mathlib.Nat.{not-suc-le-zero}
use native.Mathlib.Numerals.{sub-one}
use Rattle.event_bytes.specs.Encoding.{event_size, event_at, events_from}

pub events_next : {left : ℕ} → 0 < left → (bytes : List ℕ) (at : ℕ)
    → events_from left bytes at ≡ event_at bytes at ∷ events_from (left - 1) bytes (at + event_size)
unfolding events_from
events_next {left = zero} some bytes at = absurd (not-suc-le-zero some)
events_next {left = suc left} some bytes at = simp sub-one

pub events_end : {left : ℕ} → left ≤ 0 → (bytes : List ℕ) (at : ℕ) → events_from left bytes at ≡ []
unfolding events_from
events_end {left = zero} none bytes at = refl
events_end {left = suc left} none bytes at = absurd (not-suc-le-zero none)
