use Rattle.nr_calls.proofs.Common.{◌<◌, ◌-◌, ◌*◌, refl, cols_of}
use Rattle.nr_ratematch.proofs.BufferFacts.{coded_within}
use Rattle.nr_calls.proofs.encoding.octet_at.Goals as goal

pub get-requires : goal.get-requires
get-requires c =
    let p = c.args.coded.now.plan in
    let below : c.args.n < (cols_of p.graph - 2) * p.z = rw p.sound.coded at c.requires in
    rw c.args.coded.now.long (coded_within p.graph c.args.n p.z below)

pub returns-then-octets-at-eq-FILLER : goal.returns-then-octets-at-eq-FILLER
returns-then-octets-at-eq-FILLER c = rw c.if-octets-at-eq-FILLER.true refl
