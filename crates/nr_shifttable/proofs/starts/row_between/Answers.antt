use Rattle.nr_shifttable.proofs.{Common.Entry, SliceBoundFacts.starts-order, SliceBoundFacts.starts-slice}
use Rattle.nr_shifttable.proofs.starts.row_between.Goals as goal

pub slice_bounds-result-count : goal.slice_bounds-result-count
slice_bounds-result-count c = starts-order (λ (e : Entry). e.row) c.args.entries.now c.args.starts.now 47 c.args.row c.from.result
    c.from-2.result c.requires.starts c.requires.row c.from.ensures c.from-2.ensures

pub slice_bounds-result-start : goal.slice_bounds-result-start
slice_bounds-result-start c = starts-order (λ (e : Entry). e.row) c.args.entries.now c.args.starts.now 47 c.args.row c.from.result
    c.from-2.result c.requires.starts c.requires.row c.from.ensures c.from-2.ensures

pub returns : goal.returns
returns c = starts-slice (λ (e : Entry). e.row) c.args.entries.now c.args.starts.now 47 c.args.row c.from.result c.from-2.result
    c.requires.starts c.requires.row c.from.ensures c.from-2.ensures
