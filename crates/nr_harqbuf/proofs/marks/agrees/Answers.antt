use Rattle.nr_harqbuf.proofs.Common.{◌+◌, ◌*◌, arith}
use Rattle.nr_harqbuf.proofs.MarkWordFacts.{agrees-more, agrees-always, agrees-all}
use Rattle.nr_harqbuf.proofs.marks.agrees.Goals as goal

-- The windows have zeros past the end of their lists, so the last of them needs no mask.
pub loop-i-preserved : goal.loop-i-preserved
loop-i-preserved c = record {
  so_far = agrees-more c.args.marks.now.heard.items c.args.marks.now.value.items c.args.word.now.items (64 * c.loop-i.i)
      (64 * (c.loop-i.i + 1)) c.window.result c.window-in-loop-i.result c.window-in-loop-i-2.result c.loop-i.agreed
      (omega arith) c.window.ensures c.window-in-loop-i.ensures c.window-in-loop-i-2.ensures c.loop-i.invariant.so_far;
  always =
      λ h. agrees-always c.args.marks.now.heard.items c.args.marks.now.value.items c.args.word.now.items
      (64 * c.loop-i.i) c.window.result c.window-in-loop-i.result c.window-in-loop-i-2.result c.loop-i.agreed
      c.window.type_inv c.window-in-loop-i.type_inv c.window-in-loop-i-2.type_inv c.window.ensures c.window-in-loop-i.ensures
      c.window-in-loop-i-2.ensures h (c.loop-i.invariant.always h);
}

pub returns : goal.returns
returns c = (
  agrees-all c.args.marks.now.heard.items c.args.marks.now.value.items c.args.word.now.items (64 * c.loop-i.i) c.loop-i.agreed
      (omega (arith, c.loop-i-test.false, c.div_ceil-i-end.ensures, c.len.ensures.value)) c.loop-i.invariant.so_far,
  c.loop-i.invariant.always,
)
