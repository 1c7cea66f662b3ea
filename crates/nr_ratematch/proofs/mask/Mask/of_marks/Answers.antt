use Rattle.nr_ratematch.proofs.Common.{◌/◌, ◌%◌, ◌==◌, ap, sym, ◌∙◌, arith, slice_index, bit_at}
use Rattle.nr_ratematch.proofs.MaskWordFacts.{six-words, words_of-bit}
use Rattle.std.proofs.lemmas.List.{length-take-le}
use Rattle.nr_ratematch.proofs.mask.Mask.of_marks.Goals as goal

pub slice_bounds-word_of-end : goal.slice_bounds-word_of-end
slice_bounds-word_of-end c = sym (length-take-le 64 c.args.marks.now (omega (arith, c.requires)))

pub returns-clause-marked : goal.returns-clause-marked
returns-clause-marked c = λ r h.
    ap (λ words. bit_at (slice_index words (r / 64)) (r % 64) == 1)
    (six-words c.word_of.ensures c.word_of-2.ensures c.word_of-3.ensures c.word_of-4.ensures c.word_of-5.ensures
    c.word_of-6.ensures)
    ∙ words_of-bit c.args.marks.now r h
