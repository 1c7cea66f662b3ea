use Rattle.nr_calls.proofs.RoomOctetFacts.{rooms-read}
use Rattle.nr_calls.proofs.rooms.rooms_are_read.Goals as goal

pub returns : goal.returns
returns c = rooms-read
