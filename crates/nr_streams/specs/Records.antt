-- The records of a text, as the crate `csv` reads it. Commas separate fields, a field may be in double quotes, and each
-- record is a line. A blank line is no record. No record is taken as a header here.
use Rattle.std.specs.Prelude.{◌≡◌, ◌+◌, ℕ, Bool, if◌then◌else◌, List, [], ◌∷◌, length, MatchBool, Option}
use Rattle.std.specs.{Prelude.Some, Prelude.None, Borrow.Bor}
use Rattle.csv.specs.Reading.{default_config, reader_state, records, records_from, source_of, strip_bom}
use Rattle.csv.specs.declared.{parser.State.State, reader.Reader.Reader}

-- a record is the list of its fields, and a field its octets
abbrev pub Record : Type 0
Record = List (List ℕ)

-- the records of a text, after a byte order mark if it has one
abbrev pub records_of : List ℕ → List Record
records_of text = records default_config (strip_bom text)

-- the records in the rest of a text, from the state after the records before it
unfoldable pub records_left : State → List ℕ → List Record
records_left s text = records_from default_config (length text + 1) s text

-- what a reader over octets in memory has left of them
abbrev pub text_left : Reader (Bor (List ℕ)) → Option (List ℕ)
text_left r = source_of (λ s. Some s.now) r

-- the records that a reader has left, if its text is known
abbrev pub records_known : State → Option (List ℕ) → List Record
records_known s None = []
records_known s (Some text) = records_left s text

-- the records that a reader has left; none after it has come to the end
abbrev pub rows_before_end : Bool → Reader (Bor (List ℕ)) → List Record
rows_before_end ended r = if ended then [] else records_known (reader_state r) (text_left r)

-- The next record is taken off those left, or there is none.
abbrev pub TakesRow : List Record → List Record → Bool → Record → Type 0
TakesRow old new found row = MatchBool found (old ≡ row ∷ new) ((old ≡ []) × (new ≡ []))
