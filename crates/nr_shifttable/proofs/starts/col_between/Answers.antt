use Rattle.nr_shifttable.proofs.{Common.Entry, SliceBoundFacts.starts-order, SliceBoundFacts.starts-slice}
use Rattle.nr_shifttable.proofs.starts.col_between.Goals as goal

pub slice_bounds-result-count : goal.slice_bounds-result-count
slice_bounds-result-count c = starts-order (λ (e : Entry). e.col) c.args.entries.now c.args.starts.now 69 c.args.col c.from.result
    c.from-2.result c.requires.starts c.requires.col c.from.ensures c.from-2.ensures

pub slice_bounds-result-start : goal.slice_bounds-result-start
slice_bounds-result-start c = starts-order (λ (e : Entry). e.col) c.args.entries.now c.args.starts.now 69 c.args.col c.from.result
    c.from-2.result c.requires.starts c.requires.col c.from.ensures c.from-2.ensures

pub returns : goal.returns
returns c = starts-slice (λ (e : Entry). e.col) c.args.entries.now c.args.starts.now 69 c.args.col c.from.result c.from-2.result
    c.requires.starts c.requires.col c.from.ensures c.from-2.ensures
