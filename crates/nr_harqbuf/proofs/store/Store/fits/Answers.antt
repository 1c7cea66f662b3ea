use Rattle.nr_harqbuf.proofs.Common.{bit, Marks, marks_with}
use Rattle.nr_harqbuf.proofs.KeptBitFacts.{firsts-by-marks, marks-by-firsts}
use Rattle.nr_harqbuf.proofs.store.Store.fits.Goals as goal

pub returns : goal.returns
returns c =
    let m : Marks = marks_with c.self.inside.marks.heard.items c.self.inside.marks.value.items in
    rw (← c.self.view_is) (
      (λ yes. firsts-by-marks m c.self.inside.clash (bit c.args.word.now.items) (c.agrees.ensures.0 yes)),
      (λ has. c.agrees.ensures.1 (marks-by-firsts m c.self.inside.clash (bit c.args.word.now.items) has)),
    )
