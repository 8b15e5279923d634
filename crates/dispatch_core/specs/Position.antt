-- Where a run is, and where it goes on: the turns and rounds of a run as one loop takes them.
use Rattle.std.specs.Prelude.{ℕ, ◌+◌, ◌-◌, Bool, false, Ok, Err, ltb}
use Rattle.laws.specs.Choice.{pick, both, either}
use Rattle.dispatch_rules.specs.Dispatch.{DispatchAnswer}
use Rattle.dispatch_core.specs.declared.position.Position.{Position}

-- a cursor has 32 bits
abbrev pub cursor_room : ℕ
cursor_room = 4294967296

-- so a thread's part of the rounds is less than this
abbrev pub round_room : ℕ
round_room = 1099511627776

abbrev pub turn_of : ℕ → ℕ → Bool → ℕ → Position
turn_of thread left stepped rounds = record { thread = thread; left = left; stepped = stepped; rounds = rounds }

-- a turn that may take no step
abbrev pub over : Position
over = turn_of 1 0 false 0

unfoldable pub first_position : DispatchAnswer → ℕ → ℕ → Position
first_position (Ok ended) quantum rounds = turn_of 1 quantum false rounds
first_position (Err refusal) quantum rounds = over

-- the next thread's turn, or the first one's in another round, if this round had a step
unfoldable pub after_turn : ℕ → ℕ → ℕ → Bool → ℕ → Position
after_turn threads quantum thread stepped rounds =
    pick (ltb thread threads) (turn_of (thread + 1) quantum stepped rounds)
    (pick stepped (pick (ltb 0 rounds) (turn_of 1 quantum false (rounds - 1)) over) over)

-- after the thread took a step or not, and its turn may go on or not
unfoldable pub next_position : ℕ → ℕ → Position → Bool → Bool → Position
next_position threads quantum position took on =
    let stepped = either position.stepped took in
    let next = after_turn threads quantum position.thread stepped position.rounds in
    pick (both took on) (pick (ltb 1 position.left) (turn_of position.thread (position.left - 1) stepped position.rounds) next) next
