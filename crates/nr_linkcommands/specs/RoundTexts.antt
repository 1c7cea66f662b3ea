-- The text of a command that follows a schedule by its processes: lines for each transmission, and lines at the end of
-- each round. If a schedule names no processes, block n has process n - 1: its round is all of the block's
-- transmissions, and ends with the schedule.
use Rattle.std.specs.Prelude.{◌≡◌, ℕ, ◌+◌, ◌-◌, ◌==◌, Bool, true, false, if◌then◌else◌, length, List, []}
use Rattle.std.specs.Prelude.{◌∷◌, ◌++◌, Option, Some, None, slice_get, flat_map, map}
use Rattle.std.specs.List.{filter, range_with_len}
use Rattle.nr_blockdesk.specs.Sent.{SenderView}
use Rattle.nr_files.specs.{Rounds.round_continued, Rounds.of_process, Rounds.round_of, declared.schedule.Transmission.Transmission}

-- What a command says about a transmission, by the sender of its block and the round that it goes on with. Then what it
-- says about a round of process p, by the number of its block and that block's sender.
pub record Words : Type 0 where
  pub transmission : SenderView → List Transmission → Transmission → List ℕ
  pub round : ℕ → ℕ → SenderView → List Transmission → List ℕ

-- lines, and the process that they are about
abbrev pub Piece : Type 0
Piece = ℕ × List ℕ

-- the sender of block n, which counts from 1
abbrev pub sender_of : List SenderView → ℕ → Option SenderView
sender_of senders n = slice_get senders (n - 1)

-- what the sender of a block gives; there is one for each block
abbrev pub by_sender : {X : Type 0} → Option SenderView → (SenderView → List X) → List X
by_sender None given = []
by_sender (Some sender) given = given sender

-- how many processes a schedule has, from 0: sixteen HARQ processes, or one for each block
abbrev pub process_count : Bool → ℕ → ℕ
process_count true blocks = 16
process_count false blocks = blocks

-- the processes
abbrev pub processes : Bool → ℕ → List ℕ
processes by_process blocks = range_with_len 0 (process_count by_process blocks)

-- The lines of a round of process p, by the block that it names first; a process that is in no round has none. If no
-- processes are named, that is block p + 1, which has lines even without a transmission.
abbrev pub round_lines : Bool → Words → List SenderView → ℕ → List Transmission → List ℕ
round_lines true words senders p [] = []
round_lines true words senders p (x ∷ more) =
    by_sender (sender_of senders x.block) (λ sender. words.round p x.block sender (x ∷ more))
round_lines false words senders p round = by_sender (sender_of senders (p + 1)) (λ sender. words.round p (p + 1) sender round)

-- the lines of the round that a transmission ends, and then its own
abbrev pub turn_lines : Bool → Words → List SenderView → List Transmission → Transmission → List ℕ
turn_lines by_process words senders before x =
    (if x.fresh then round_lines by_process words senders x.process (round_of x.process before) else [])
    ++ by_sender (sender_of senders x.block) (λ sender. words.transmission sender (round_continued before x) x)

-- the lines of the transmissions after those before
unfoldable pub turns : Bool → Words → List SenderView → List Transmission → List Transmission → List Piece
turns by_process words senders before [] = []
turns by_process words senders before (x ∷ more) =
    (x.process, turn_lines by_process words senders before x) ∷ turns by_process words senders (before ++ x ∷ []) more

-- the lines of the rounds that no transmission ends, by process
abbrev pub last_rounds : Bool → Words → List SenderView → List Transmission → List Piece
last_rounds by_process words senders schedule =
    map (λ p. (p, round_lines by_process words senders p (round_of p schedule))) (processes by_process (length senders))

-- all lines of a schedule
abbrev pub written : Bool → Words → List SenderView → List Transmission → List Piece
written by_process words senders schedule =
    turns by_process words senders [] schedule ++ last_rounds by_process words senders schedule

-- a round, and its process
abbrev pub ProcessRound : Type 0
ProcessRound = ℕ × List Transmission

-- the round that a transmission ends, if it is fresh
abbrev pub ended_with : List Transmission → Transmission → List ProcessRound
ended_with before x = if x.fresh then (x.process, round_of x.process before) ∷ [] else []

-- the rounds that transmissions end, in their order, after those before
unfoldable pub rounds_ended : List Transmission → List Transmission → List ProcessRound
rounds_ended before [] = []
rounds_ended before (x ∷ more) = ended_with before x ++ rounds_ended (before ++ x ∷ []) more

-- all rounds of a schedule for so many blocks, in the order in which they end
abbrev pub rounds_of : Bool → ℕ → List Transmission → List ProcessRound
rounds_of by_process blocks schedule =
    rounds_ended [] schedule ++ map (λ p. (p, round_of p schedule)) (processes by_process blocks)

-- all pieces, one after the other
abbrev pub pieces_joined : List Piece → List ℕ
pieces_joined pieces = flat_map (λ piece. piece.1) pieces

-- the lines are about process p
abbrev pub is_about : ℕ → Piece → Bool
is_about p piece = piece.0 == p

-- the lines about a process are those of a schedule that has only its transmissions, with their numbers
abbrev pub LinesAreOwn : Type 0
LinesAreOwn = (words : Words) (senders : List SenderView) (schedule : List Transmission) (p : ℕ)
    → filter (is_about p) (written true words senders schedule)
    ≡ filter (is_about p) (written true words senders (of_process p schedule))
