-- Events in chunks of eight bytes: the one of a chunk is the one at its place.
use Prim.Native.Nat.{ℕ, zero, suc, ◌+◌, ◌*◌, ◌<◌}
use mathlib.Core.Path.{◌≡◌, refl, ap, sym, ◌∙◌}
use mathlib.Core.List.{List}
use native.Mathlib.Omega.{arith}
use native.Mathlib.Nat.{not-suc-le-zero, add-zero}
use lib.Dec.{lit<}
use lib.ListN.{get_or, take, drop}
use lib.Seq.{get_or-drop, drop-drop}
use Rattle.std.specs.Simd.{first_chunks}
use Rattle.std.proofs.lemmas.List.{get_or-take, get_or_default}
use Rattle.event_bytes.specs.Encoding.{event_size, limit_from, event_from, event_at}

chunk_at : (count : ℕ) (bytes : List ℕ) (i : ℕ) (none : List ℕ) → i < count
    → get_or (first_chunks event_size count bytes) i none ≡ take event_size (drop (i * event_size) bytes)
chunk_at zero bytes i none low = absurd (not-suc-le-zero low)
chunk_at (suc count) bytes zero none low = refl
chunk_at (suc count) bytes (suc i) none low =
    let next : event_size + i * event_size ≡ suc i * event_size = omega arith in
    chunk_at count (drop event_size bytes) i none (omega (arith, low))
    ∙ ap (take event_size) (drop-drop (i * event_size) event_size bytes ∙ ap (λ (n : ℕ). drop n bytes) next)

module _ (bytes : List ℕ) (at : ℕ) where
  abbrev chunk : List ℕ
  chunk = take event_size (drop at bytes)

  byte_there : (j : ℕ) → j < event_size → get_or chunk j 0 ≡ get_or bytes (at + j) 0
  byte_there j low = get_or-take event_size (drop at bytes) j 0 low ∙ get_or-drop at bytes j 0

  event_there : event_at chunk 0 ≡ event_at bytes at
  event_there =
      let first : get_or chunk 0 0 ≡ get_or bytes at 0 = byte_there 0 (lit< tt) ∙ ap (λ (n : ℕ). get_or bytes n 0) (add-zero at) in
      λ k. event_from (first k) (byte_there 1 (lit< tt) k) (byte_there 2 (lit< tt) k) (byte_there 3 (lit< tt) k)
      (limit_from (byte_there 4 (lit< tt) k) (byte_there 5 (lit< tt) k) (byte_there 6 (lit< tt) k) (byte_there 7 (lit< tt) k))

-- the event of a chunk, as a loop reads it
pub chunk_event : (count : ℕ) (bytes : List ℕ) (i : ℕ) (none : List ℕ) → i < count
    → event_at (get_or (first_chunks event_size count bytes) i none) 0 ≡ event_at bytes (i * event_size)
chunk_event count bytes i none low = ap (λ (c : List ℕ). event_at c 0) (chunk_at count bytes i none low) ∙ event_there bytes (i * event_size)
