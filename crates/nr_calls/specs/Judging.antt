-- The verdict on a shift table, and the list of its entries (TS 38.212, 5.3.2).
use Rattle.std.specs.Prelude.{ℕ, ◌==◌, if◌then◌else◌, Result, Ok, Err, List, length}
use Rattle.nr_shifttable.specs.{Accepted.Entries, declared.fault.TableFault.TableFault}
use Rattle.nr_shifttable.specs.declared.fault.TableFault.TheVariants as table
use Rattle.nr_shifttable.specs.{Listed.graph_number, Listed.kept_listed, declared.entry.KeptEntry.KeptEntry}
use Rattle.nr_calls.specs.{Statuses.table_status, declared.table.NrReport.NrReport}

-- the place of a fault: the number of a record or of a base graph; 0 if it has none
abbrev pub fault_place : TableFault → ℕ
fault_place (table.Csv k) = k
fault_place (table.Number k) = k
fault_place (table.Range k) = k
fault_place (table.Twice k) = k
fault_place (table.Core graph) = graph_number graph
fault_place (table.Extension graph) = graph_number graph
fault_place (table.MissingRow graph) = graph_number graph
fault_place table.Read = 0
fault_place table.Fields = 0
fault_place table.Empty = 0
fault_place table.TooLong = 0
fault_place table.Memory = 0

-- how many entries an accepted table has of each base graph, or the place of a refused table's fault
abbrev pub report_of : Result Entries TableFault → NrReport
report_of (Ok t) = record { one = length t.one; two = length t.two; place = 0; reserved = 0 }
report_of (Err e) = record { one = 0; two = 0; place = fault_place e; reserved = 0 }

-- the number of a table's fault, and 0 for none
abbrev pub judged_status : Result Entries TableFault → ℕ
judged_status (Ok t) = 0
judged_status (Err e) = table_status e

-- a caller's places: for entries, and for how many there are
pub record Listing : Type 0 where
  pub room : List KeptEntry
  pub count : ℕ

abbrev pub listing : List KeptEntry → ℕ → Listing
listing room count = record { room = room; count = count }

-- the number that a call returns if it lists a table for a room of so many entries: 2 if the length differs
abbrev pub listed_status : ℕ → Result Entries TableFault → ℕ
listed_status room (Ok t) = if length (kept_listed t) == room then 0 else 2
listed_status room (Err e) = table_status e

-- What the call leaves in its places: how many entries the table has, and the entries if the room has their length. A
-- refused table leaves nothing.
abbrev pub listing_after : Listing → Result Entries TableFault → Listing
listing_after old (Ok t) =
    record { room = if length (kept_listed t) == length old.room then kept_listed t else old.room; count = length (kept_listed t) }
listing_after old (Err e) = old
