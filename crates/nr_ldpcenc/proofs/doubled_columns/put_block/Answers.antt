use Rattle.nr_ldpcenc.proofs.{Common.sym, Common.◌∙◌, DoubledSumFacts.column_put}
use Rattle.nr_ldpcenc.proofs.doubled_columns.put_block.Goals as goal

-- Columns and word get the same block, so they still agree.
pub returns-clause-columns : goal.returns-clause-columns
returns-clause-columns g c = record {
  twice = c.put_column.ensures.twice;
  same = column_put g.row.Z g.row.W c.args.j c.write_block.new.bits.items c.args.lane.now c.args.cols.now c.put_column.new.cols
      c.requires.below c.requires.most c.requires.some
      (λ q lt. sym (c.write_block.ensures.before q lt) ∙ c.requires.columns.same q lt)
      c.put_column.ensures.before
      c.write_block.ensures.block
      c.put_column.ensures.column;
  ready = c.write_block.ensures.ready;
  words = c.put_column.ensures.words ∙ c.requires.columns.words;
}
