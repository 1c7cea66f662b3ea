-- A reception as two lists of bits. One marks the places at which a bit was received, and the other has the bits.
use Rattle.std.specs.Prelude.{ℕ, Bool, true, false, List, length, map}
use Rattle.std.specs.List.{range_with_len}
use Rattle.nr_bitvec.specs.Bit.{bit}
use Rattle.nr_blockdesk.specs.{Explains.Reception, Explains.reception, declared.heard.Heard.Heard}
use Rattle.nr_blockdesk.specs.declared.heard.Heard.TheVariants as heard
use Rattle.nr_transmission.specs.declared.tx.Tx.{Tx}

-- what a mark and a bit say: without a mark the place was erased, whatever the bit is
abbrev pub place_heard : Bool → Bool → Heard
place_heard false b = heard.Erased
place_heard true false = heard.Zero
place_heard true true = heard.One

-- n places from place `from` on
unfoldable pub heards_from : List Bool → List Bool → ℕ → ℕ → List Heard
heards_from marks bits from n = map (λ m. place_heard (bit marks m) (bit bits m)) (range_with_len from n)

-- all places
abbrev pub heards : List Bool → List Bool → List Heard
heards marks bits = heards_from marks bits 0 (length marks)

-- a transmission, and what two lists say was received of it
abbrev pub reception_by : Tx → List Bool → List Bool → Reception
reception_by tx marks bits = reception tx (heards marks bits)
