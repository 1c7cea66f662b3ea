use Rattle.nr_interleave.proofs.{Common.◌+◌, Common.◌*◌, OctetFacts.only-comes, OctetFacts.then-gets}
use Rattle.nr_interleave.proofs.octets.row_octets.Goals as goal

pub returns : goal.returns
returns g c =
    let columns = then-gets (then-gets c.apart-halves.ensures c.apart-quarters.ensures) c.apart-columns.ensures in
    let gets = then-gets (then-gets (then-gets columns c.exchanged-pairs.ensures) c.exchanged-fours.ensures) c.exchanged.ensures in
    λ r k row column. only-comes (8 * r + k) (g.row.QM * k + r) gets (c.requires.octets r k row column)
