-- What sending and receiving several transport blocks of one size returns: the blocks' rows follow one another.
use Rattle.std.specs.Prelude.{ℕ, ◌+◌, ◌*◌, ◌/◌, ◌<◌, ◌==◌, ◌&&◌, nat_le, Bool, Result, Ok, List, []}
use Rattle.std.specs.Prelude.{◌∷◌, length, map, flat_map}
use Rattle.std.specs.Prelude.{slice_range, slice_index_or, sum_by}
use Rattle.std.specs.List.{range_with_len}
use Rattle.nr_bitvec.specs.BitList.{bits_of}
use Rattle.nr_refusal.specs.Refusal.{◌>>=◌, with_fault}
use Rattle.nr_shifttable.specs.Accepted.{Entries}
use Rattle.nr_blockdesk.specs.Link.{err_unless, link_said}
use Rattle.nr_blockdesk.specs.Sent.{sent}
use Rattle.nr_transmission.specs.declared.fault.DeskFault.TheVariants as desk
use Rattle.nr_transmission.specs.declared.settings.Settings.{Settings}
use Rattle.nr_calls.specs.Crossing.{tx_of}
use Rattle.nr_calls.specs.Entries.{table_by}
use Rattle.nr_calls.specs.Findings.{AreWritten, Findings, Places, places}
use Rattle.nr_calls.specs.Plan.{planned_said}
use Rattle.nr_calls.specs.Receiving.{heard_said}
use Rattle.nr_calls.specs.Simulating.{txs_said}
use Rattle.nr_calls.specs.declared.crossing.NrTx.{NrTx}
use Rattle.nr_shifttable.specs.declared.entry.KeptEntry.{KeptEntry}
use Rattle.nr_calls.specs.declared.fault.Fault.{Fault}
use Rattle.nr_calls.specs.declared.fault.Fault.TheVariants as fault
use Rattle.nr_calls.specs.declared.findings.Room.{Room}

-- row k of a list in rows of `size` items
abbrev pub nth_row : {X : Type 0} → ℕ → ℕ → List X → List X
nth_row size k xs = slice_range xs (k * size) (k * size + size)

-- the first n rows
abbrev pub first_rows : {X : Type 0} → ℕ → ℕ → List X → List (List X)
first_rows size n xs = map (λ k. nth_row size k xs) (range_with_len 0 n)

-- what each item gives, or the first fault
unfoldable pub each_said : {X Y : Type 0} → (X → Result Y Fault) → List X → Result (List Y) Fault
each_said f [] = Ok []
each_said f (x ∷ xs) = f x >>= λ y. each_said f xs >>= λ ys. Ok (y ∷ ys)

-- how many places some transmissions have
abbrev pub places_sent : List NrTx → ℕ
places_sent ts = sum_by (λ (t : NrTx). t.g) ts

-- the room of one of n blocks
abbrev pub room_of_each : ℕ → ℕ → List NrTx → Room
room_of_each c a ts = record { outcomes = length ts; left = c; block = a / 8 }

-- room for n times as much
abbrev pub is_room_for : ℕ → Room → Room → Bool
is_room_for n each room =
    (room.outcomes == n * each.outcomes) && ((room.left == n * each.left) && (room.block == n * each.block))

-- What is found of each block, and how much room each has in its caller's places.
pub record ManyFindings : Type 0 where
  pub each : Room
  pub found : List Findings

-- What is found of each of n transport blocks of a bits by a shift table, or the first fault. With no block all but the
-- transmissions is judged.
unfoldable pub receive_many_by : Entries → Settings → ℕ → ℕ → List NrTx → List ℕ → Room
    → Result ManyFindings Fault
receive_many_by table settings n a ts octets room = do
  few ← err_unless fault.Many (nat_le (length ts) 1000)
  p ← planned_said settings.rate2048 a
  fits ← err_unless fault.Room (is_room_for n (room_of_each p.plan.c a ts) room)
  whole ← err_unless (fault.Desk desk.Length) (length octets == n * places_sent ts)
  link ← with_fault fault.Desk (link_said table settings a)
  found ← each_said (heard_said link [] ts) (first_rows (places_sent ts) n octets)
  Ok (record { each = room_of_each p.plan.c a ts; found = found })

-- what is found by a shift table's entries, or the first fault
unfoldable pub receive_many_said : List KeptEntry → Settings → ℕ → ℕ → List NrTx → List ℕ → Room
    → Result ManyFindings Fault
receive_many_said entries settings n a ts octets room =
    table_by entries >>= λ table. receive_many_by table settings n a ts octets room

-- a caller's places have a row for what is found of each block, as `AreWritten` has it
abbrev pub AreAllWritten : List ℕ → ManyFindings → Places → Type 0
AreAllWritten before f new = (k : ℕ) (d : Findings) → k < length f.found
    → AreWritten (nth_row f.each.block k before) (slice_index_or f.found k d)
    (places (nth_row f.each.outcomes k new.outcomes) (nth_row f.each.left k new.left) (nth_row f.each.block k new.block))

-- The bits that transmissions send of each of n transport blocks of a bits by a shift table, or the first fault. They come
-- block by block, and of each transmission by transmission. All is judged before the first block is read.
unfoldable pub send_many_by : Entries → Settings → ℕ → ℕ → List NrTx → List ℕ → ℕ → Result (List Bool) Fault
send_many_by table settings n a ts octets room = do
  few ← err_unless fault.Many (nat_le (length ts) 1000)
  whole ← err_unless (fault.Desk desk.Size) (length octets == n * (a / 8))
  link ← with_fault fault.Desk (link_said table settings a)
  sound ← txs_said link ts
  fits ← err_unless fault.Room (room == n * places_sent ts)
  Ok (flat_map (λ row. flat_map (λ t. sent link (tx_of t) (bits_of row)) ts) (first_rows (a / 8) n octets))

-- these bits by a shift table's entries, or the first fault
unfoldable pub send_many_said : List KeptEntry → Settings → ℕ → ℕ → List NrTx → List ℕ → ℕ
    → Result (List Bool) Fault
send_many_said entries settings n a ts octets room =
    table_by entries >>= λ table. send_many_by table settings n a ts octets room
