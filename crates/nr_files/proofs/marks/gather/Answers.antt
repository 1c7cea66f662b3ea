use Rattle.nr_files.proofs.Common.{refl, arith, length-drop, low_first, take_more}
use Rattle.nr_bitvec.proofs.WordDigitFacts.{none-zero}
use Rattle.std.proofs.lemmas.List.{get_or-drop}
use Rattle.nr_drawing.proofs.MarkWordFacts.{low-more, mark-none}
use Rattle.nr_files.proofs.marks.gather.Goals as goal

pub loop-j-init : goal.loop-j-init
unfolding low_first
loop-j-init c = record { told = refl; none = none-zero }

pub loop-j-preserved : goal.loop-j-preserved
loop-j-preserved c =
    let inv = c.loop-j.invariant in
    let more = low-more c.loop-j.word _ c.from.result c.loop-j.j _ (omega (arith, c.requires.count)) c.from.ensures refl inv.none in
    record {
      told = grind (arith, get_or-drop, take_more, length-drop);
      none = mark-none c.loop-j.word _ c.from.result c.loop-j.j _ (omega (arith, c.requires.count)) c.from.ensures refl inv.none;
    }

pub returns : goal.returns
returns c = grind arith
