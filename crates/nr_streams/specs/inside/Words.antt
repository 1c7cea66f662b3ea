-- Definitions that only the proofs need.
use Rattle.std.specs.{Prelude.ℕ, Prelude.List, Prelude.◌≡◌, Prelude.true, Prelude.false, Borrow.Bor}
use Rattle.csv.specs.{Machine.ends_at_end, declared.reader.Reader.Reader}
use Rattle.csv.specs.Reading.{Ready, default_config, has_failed, is_flexible, reader_config, reader_state, reader_trim}
use Rattle.csv.specs.declared.reader.Trim.TheVariants as trim

-- a reader that goes on, with no header, no trimming and records of any length, between two records
pub record IsPlainReader (r : Reader (Bor (List ℕ))) : Type 0 where
  pub alive : has_failed r ≡ false
  pub config : reader_config r ≡ default_config
  pub trim : reader_trim r ≡ trim.None
  pub flexible : is_flexible r ≡ true
  pub ready : Ready r
  pub between : ends_at_end (reader_state r) ≡ false
