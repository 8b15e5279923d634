-- The objects of the session that a header opens are those that it asks for, if it is good, and none if not.
use Prim.Native.Nat.{ℕ, ◌≤◌}
use mathlib.Core.Path.{◌≡◌, refl, sym, ◌∙◌}
use mathlib.Core.Bool.{true, false}
use mathlib.Core.List.{List}
use native.Mathlib.Omega.{arith}
use borrow.Author.Tests.{leb-true}
use lib.Dec.{leb}
use Rattle.laws.specs.Choice.{pick, both, within}
use Rattle.laws.proofs.Choice.{split, both_second, false≢true}
use Rattle.lock_table.specs.Limits.{thread_limit, object_limit}
use Rattle.lock_table.specs.Fresh.{sized_request, in_range, ranks_fit, fresh_answer, made_by, fresh_of, no_table}
use Rattle.lock_table.specs.declared.fresh_table.FreshRequest.{FreshRequest}
use Rattle.lock_table.proofs.FreshTables.{sized_ranks_fit}
use Rattle.replay_lines.specs.Bytes.{letter_L}
use Rattle.replay_lines.specs.Grammar.{is_header, read_line}
use Rattle.replay_lines.specs.LineText.{begins_with}
use Rattle.replay_lines.specs.declared.reading.Line.{Line}
use Rattle.replay_lines.specs.declared.reading.Line.TheVariants.{Header, Begin, Step, Tick, BadHeader, Malformed}
use Rattle.replay_lines.proofs.Headers.{header_begins}
use Rattle.replay_session.specs.Session.{fresh_session, opened_by, open_by, react_at_stage, react_of}
use Rattle.report_counts.specs.Enters.{good_objects, opened_objects}

made_objects : (request : FreshRequest) → ranks_fit request ≡ true
    → (opened_by (fresh_of request)).session.table.objectcount
    ≡ pick (both (within 1 thread_limit request.threads) (within 1 object_limit request.objects)) request.objects 0
unfolding opened_by fresh_of fresh_answer made_by in_range
made_objects request ranked =
    split (both (within 1 thread_limit request.threads) (within 1 object_limit request.objects)) (λ sized. rw (sized, ranked) refl) (λ outside. rw outside refl)

header_objects : (line : Line) → is_header line ≡ true → (open_by no_table line).session.table.objectcount ≡ good_objects line
unfolding open_by is_header good_objects fresh_of fresh_answer made_by in_range
header_objects (Header threads objects reserved) is =
    made_objects (sized_request threads objects reserved) (sized_ranks_fit threads objects reserved)
header_objects (Begin operation thread object limit) other = false≢true other
header_objects (Step thread) other = false≢true other
header_objects Tick other = false≢true other
header_objects BadHeader is = refl
header_objects Malformed other = false≢true other

other_objects : (line : Line) → is_header line ≡ false → good_objects line ≡ 0
unfolding is_header good_objects
other_objects (Header threads objects reserved) header = false≢true (sym header)
other_objects (Begin operation thread object limit) other = refl
other_objects (Step thread) other = refl
other_objects Tick other = refl
other_objects BadHeader header = false≢true (sym header)
other_objects Malformed other = refl

good_small : (line : Line) → good_objects line ≤ object_limit
unfolding good_objects
good_small (Header threads objects reserved) =
    split (both (within 1 thread_limit threads) (within 1 object_limit objects))
    (λ good.
    let fits = both_second (leb 1 objects) _ (both_second (within 1 thread_limit threads) _ good) in
    rw good (leb-true objects object_limit fits))
    (λ bad. rw bad (omega arith))
good_small (Begin operation thread object limit) = omega arith
good_small (Step thread) = omega arith
good_small Tick = omega arith
good_small BadHeader = omega arith
good_small Malformed = omega arith

module _ (line : List ℕ) where
  pub header_opens : begins_with letter_L line ≡ true → (react_of fresh_session (read_line line)).session.table.objectcount ≡ opened_objects line
  unfolding react_at_stage
  header_opens header = header_objects (read_line line) (header_begins line ∙ header)

  pub other_opens : begins_with letter_L line ≡ false → opened_objects line ≡ 0
  other_opens other = other_objects (read_line line) (header_begins line ∙ other)

  -- no header opens more than a table has
  pub opened_small : opened_objects line ≤ object_limit
  opened_small = good_small (read_line line)
