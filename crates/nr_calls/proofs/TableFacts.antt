-- What simulating returns by a shift table's entries is what it returns by the table that they are read as.
use Rattle.nr_calls.proofs.Common.{◌≡◌, ℕ, List, Ok, Entries, NrTx, Settings, refl}
use Rattle.nr_shifttable.specs.declared.entry.KeptEntry.{KeptEntry}
use Rattle.nr_calls.specs.Entries.{table_by}
use Rattle.nr_calls.specs.Simulating.{simulating_by, simulating_said}
use Rattle.nr_calls.specs.declared.simulating.RoundRoom.{RoundRoom}

pub simulating-read : (entries : List KeptEntry) (table : Entries) (settings : Settings) (a : ℕ) → table_by entries ≡ Ok table
    → (txs : List NrTx) (thresholds seeds : List ℕ) (room : RoundRoom)
    → simulating_said entries settings a txs thresholds seeds room
    ≡ simulating_by table settings a txs thresholds seeds room
unfolding simulating_said
simulating-read entries table settings a read txs thresholds seeds room = rw read refl
