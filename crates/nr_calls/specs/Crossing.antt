-- What crosses between C and the chain: settings, transmissions, and bits as octets.
use Rattle.std.specs.Prelude.{◌≡◌, ℕ, ◌*◌, ◌<◌, ◌==◌, Bool, if◌then◌else◌, Some, None, List, drop, length}
use Rattle.std.specs.Prelude.{slice_index_or}
use Rattle.nr_bitvec.specs.{Bit.bit, BitList.number_of}
use Rattle.nr_transmission.specs.declared.{settings.Settings.Settings, tx.Tx.Tx}
use Rattle.nr_ratematch.specs.declared.mask.Mask.TheVariants as mask
use Rattle.nr_calls.specs.declared.crossing.{NrSettings.NrSettings, NrTx.NrTx}

-- settings: a limit of 0 is none
abbrev pub settings_in : NrSettings → Settings
settings_in s = record { rate2048 = s.rate2048; lbrm = if s.lbrm == 0 then None else Some s.lbrm }

-- a transmission: every code block is scheduled if `some` is 0
abbrev pub tx_of : NrTx → Tx
tx_of t = record { rv = t.rv; g = t.g; qm = t.qm; nl = t.nl; mask = if t.some == 0 then mask.All else mask.Only t.blocks }

-- a bit, as an octet
abbrev pub digit : Bool → ℕ
digit b = if b then 1 else 0

-- octets that have a bit each
pub record AreBits (bits : List Bool) (octets : List ℕ) : Type 0 where
  pub long : length octets ≡ length bits
  pub each : (m : ℕ) → m < length bits → slice_index_or octets m 0 ≡ digit (bit bits m)

-- octets that have eight bits each, the first one most significant (TS 38.212, 6.2.1 and 7.2.1)
pub record AreOctets (bits : List Bool) (octets : List ℕ) : Type 0 where
  pub long : length bits ≡ 8 * length octets
  pub each : (i : ℕ) → i < length octets → slice_index_or octets i 0 ≡ number_of 8 (drop (8 * i) bits)
