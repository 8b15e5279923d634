-- An answer has the number that its event returned, whether it was refused or not.
use Prim.Native.Nat.{ℕ}
use mathlib.Core.Path.{◌≡◌, refl}
use lib.Dec.{leb}
use Rattle.laws.proofs.Choice.{split}
use Rattle.lock_rules.specs.Numbers.{first_refusal}
use Rattle.replay_session.specs.Session.{answer_from, answer_with}
use Rattle.program_state.specs.Take.{returned_in}

pub answer_returned : (number phase woken word unparked : ℕ) → returned_in (answer_with number phase woken word unparked) ≡ number
unfolding answer_from returned_in
answer_returned number phase woken word unparked = split (leb first_refusal number) (λ refused. rw refused refl) (λ accepted. rw accepted refl)
