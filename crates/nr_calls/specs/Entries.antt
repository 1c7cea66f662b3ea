-- The table of entries that a caller in C keeps (TS 38.212, 5.3.2).
use Rattle.std.specs.Prelude.{Bool, is_ok, Result, List}
use Rattle.nr_refusal.specs.Refusal.{with_fault}
use Rattle.nr_shifttable.specs.declared.{entry.KeptEntry.KeptEntry, fault.EntriesFault.EntriesFault}
use Rattle.nr_shifttable.specs.declared.fault.EntriesFault.TheVariants as kept
use Rattle.nr_shifttable.specs.{Accepted.Entries, Listed.entries_said, Listed.places_said}
use Rattle.nr_calls.specs.declared.fault.Fault.{Fault}
use Rattle.nr_calls.specs.declared.fault.Fault.TheVariants as fault

-- Each entry is within its base graph, and after the one before it. Base graph 1 comes before base graph 2, and each
-- base graph goes row by row.
abbrev pub are_placed : List KeptEntry → Bool
are_placed es = is_ok (places_said es)

-- the fault of a call whose entries have this one
abbrev pub fault_of : EntriesFault → Fault
fault_of (kept.Range k) = fault.Entries
fault_of (kept.Order k) = fault.Entries
fault_of (kept.Table e) = fault.Table e
fault_of kept.Memory = fault.Memory

-- the table of entries, or the first fault
unfoldable pub table_by : List KeptEntry → Result Entries Fault
table_by es = with_fault fault_of (entries_said es)
