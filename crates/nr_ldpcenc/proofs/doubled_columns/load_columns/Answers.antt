use Rattle.nr_ldpcenc.proofs.{Common.sym, Common.◌∙◌, DoubledSumFacts.column_put}
use Rattle.nr_ldpcenc.proofs.doubled_columns.load_columns.Goals as goal

pub loop-j-preserved : goal.loop-j-preserved
loop-j-preserved g c = record {
  twice = c.put_column.ensures.twice;
  same = column_put g.row.Z g.row.W c.loop-j.j _ _ _ _ c.requires.below c.requires.most c.requires.some c.loop-j.invariant.same
      c.put_column.ensures.before
      (λ t lt. sym (c.load-lane.ensures.bits t lt)) c.put_column.ensures.column;
  words = c.put_column.ensures.words ∙ c.loop-j.invariant.words;
}
