use Rattle.nr_bitvec.proofs.RoundTrip.{octets-round_trip}
use Rattle.nr_bitvec.proofs.laws.octets_round_trip.Goals as goal

pub returns : goal.returns
returns c = octets-round_trip
