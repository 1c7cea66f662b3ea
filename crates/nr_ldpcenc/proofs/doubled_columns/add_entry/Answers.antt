use Rattle.nr_ldpcenc.proofs.{Common.arith, Common.value_in, DoubledSumFacts.rotated_bit}
use Rattle.nr_ldpcenc.proofs.doubled_columns.add_entry.Goals as goal

pub returns : goal.returns
returns g c = λ t lt.
    let z = g.row.Z in
    let e = c.args.entry.now in
    let cols = c.args.cols.now in
    let gain = rw (c.from.ensures) at (c.add_window.ensures t (omega (arith, lt))) in
    let rotated = rotated_bit z cols e.col t _
    (value_in c.args.set e) c.requires.twice lt c.rotation_by.ensures.value c.rotation_by.ensures.below in
    grind (arith, gain, rotated)
