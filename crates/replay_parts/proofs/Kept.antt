-- What stands at the front of a buffer whose rest was kept.
use Prim.Native.Nat.{ℕ, ◌+◌, ◌-◌, ◌≤◌}
use mathlib.Core.Path.{◌≡◌, ap, sym, ◌∙◌}
use mathlib.Core.List.{List, ◌++◌}
use native.Mathlib.Omega.{arith}
use borrow.Author.Tests.{le-ltb}
use lib.ListN.{length, take, drop, length-drop, length-append}
use lib.Seq.{length-take-le, take_at, drop_at, take-add}
use Rattle.replay_parts.specs.Keeping.{keep_rest, move_down}

module _ (from to : ℕ) (bytes : List ℕ) (order : from ≤ to) (fits : to ≤ length bytes) where
  part_length : length (take (to - from) (drop from bytes)) ≡ to - from
  part_length = length-take-le (to - from) (drop from bytes) (rw (length-drop from bytes) (omega arith))

  kept_moved : keep_rest from to bytes ≡ move_down from (to - from) bytes
  unfolding keep_rest
  kept_moved = simp (le-ltb _ _ fits, le-ltb _ _ order)

  -- what was left of the bytes up to `to`
  pub kept_front : take (to - from) (keep_rest from to bytes) ≡ drop from (take to bytes)
  kept_front =
      let whole : from + (to - from) ≡ to = omega arith in
      let cut : take to bytes ≡ take from bytes ++ take (to - from) (drop from bytes) =
      ap (λ (n : ℕ). take n bytes) (sym whole) ∙ take-add from (to - from) bytes in
      ap (take (to - from)) kept_moved ∙ take_at (take (to - from) (drop from bytes)) (drop (to - from) bytes) (to - from) part_length
      ∙ sym (ap (drop from) cut ∙ drop_at (take from bytes) (take (to - from) (drop from bytes)) from (length-take-le from bytes (omega arith)))

  pub kept_length : length (keep_rest from to bytes) ≡ length bytes
  kept_length =
      ap length kept_moved ∙ length-append (take (to - from) (drop from bytes)) (drop (to - from) bytes)
      ∙ rw (part_length, length-drop (to - from) bytes) (omega arith)
