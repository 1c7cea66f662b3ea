use Rattle.nr_harqbuf.proofs.Common.{◌≡◌, ◌+◌, ◌*◌, min, length, ap, refl, ◌∙◌, arith, HeardBits}
use Rattle.nr_harqbuf.proofs.KeptBitFacts.{length-kept}
use Rattle.nr_harqbuf.proofs.MergedListFacts.{merged-done, merged-idle, merged-more, merged-none, merged-step, news-done}
use Rattle.nr_harqbuf.proofs.store.Store.hear_all.Goals.{then-now-ne0, else-now-ne0}
use Rattle.nr_harqbuf.proofs.store.Store.hear_all.Goals as goal

pub loop-i-init : goal.loop-i-init
loop-i-init c = record { merged = merged-none _ _ c.args.marks.now.value.items (omega arith); bits = refl; room = refl }

pub put-requires-clause-inside : goal.put-requires-clause-inside
put-requires-clause-inside c = grind (arith, length-kept)

pub put-requires-then-now-ne0-clause-inside : goal.put-requires-then-now-ne0-clause-inside
put-requires-then-now-ne0-clause-inside c = grind (arith, length-kept)

pub put_changed-requires-clause-inside : goal.put_changed-requires-clause-inside
put_changed-requires-clause-inside c = grind (arith, length-kept)

-- Two ways lead to the next word: some of its positions are heard again, or no position of it is marked.
pub loop-i-preserved : goal.loop-i-preserved
loop-i-preserved c =
    let at = 64 * c.loop-i.i in
    let marks = c.args.marks.now in
    let here : min at (length marks.heard.items) ≡ at =
    omega (arith, c.loop-i-test.true, c.div_ceil-i-end.ensures, c.len.ensures.value) in
    let so_far = rw here at c.loop-i.invariant.merged in
    elim c.if-now-ne0.branch [
      | then-now-ne0 w ↦
          let count = w.min-count.result in
          let next : min (64 * (c.loop-i.i + 1)) (length marks.heard.items) ≡ at + count =
          omega (arith, here, c.loop-i.invariant.merged.marks_long, w.len-then-now-ne0.ensures.value, w.min-count.ensures) in
          rw (next, w.marks-is, w.self-inside-is) (record {
            merged = merged-more at (at + count) _ _ marks.value.items _ (omega arith) so_far
                (merged-step at count w.window-before.result w.window-old.result c.window-now.result w.window-bits.result
                w.of-word.result.heard w.of-word.result.value w.of-word.result.news w.of-word.result.agreed
                _ marks.value.items _ (record {
                  few = omega (arith, w.min-count.ensures);
                  whole = λ j lt past. omega (arith, lt, past, w.min-count.ensures, w.len-then-now-ne0.ensures.value);
                  reads_before = w.window-before.ensures;
                  reads_old = w.window-old.ensures;
                  reads_now = c.window-now.ensures;
                  reads_bits = rw c.loop-i.invariant.bits at w.window-bits.ensures;
                  first = w.of-word.ensures.first;
                  fresh = w.of-word.ensures.news;
                  same = w.of-word.ensures.agreed;
                  put_heard = record { within = w.put.ensures.within; before = w.put.ensures.before; after = w.put.ensures.after };
                  put_value = record {
                    within = w.put-then-now-ne0.ensures.within;
                    before = w.put-then-now-ne0.ensures.before;
                    after = w.put-then-now-ne0.ensures.after;
                  };
                  put_marks = record {
                    within = w.put_changed.ensures.within;
                    before = w.put_changed.ensures.before;
                    after = w.put_changed.ensures.after;
                  };
                  clash = refl;
                  heard_long = w.put.ensures.long;
                  marks_long = w.put_changed.ensures.long;
                }));
            bits = c.loop-i.invariant.bits;
            room = w.put_changed.ensures.room ∙ c.loop-i.invariant.room;
          })
      | else-now-ne0 w ↦
          let next = min (64 * (c.loop-i.i + 1)) (length marks.heard.items) in
          rw (w.marks-is, w.self-inside-is) (record {
            merged = merged-more at next _ _ marks.value.items _ (omega (arith, here)) so_far
                (merged-idle at next c.window-now.result _ marks.value.items (omega arith) w.if-now-ne0.false c.window-now.ensures);
            bits = c.loop-i.invariant.bits;
            room = c.loop-i.invariant.room;
          })
    ]

-- The last word ends at or past the last position, so all marks are merged.
pub returns-clause-merged : goal.returns-clause-merged
returns-clause-merged c =
    let long : length c.args.marks.now.heard.items ≡ length c.self.inside.marks.heard.items = omega (
      arith,
      length-kept c.self.inside.marks.heard.items c.self.inside.marks.value.items,
      ap (λ (s : HeardBits). length s.first) c.self.view_is,
      c.requires.marks,
    ) in
    rw (← c.self.view_is)
    (merged-done _ c.args.marks.now.value.items _ (min (64 * c.loop-i.i) (length c.args.marks.now.heard.items))
    c.loop-i.invariant.merged
    (omega (arith, long, c.loop-i-test.false, c.div_ceil-i-end.ensures, c.len.ensures.value)))

pub returns-clause-news : goal.returns-clause-news
returns-clause-news c =
    rw (← c.self.view_is)
    (news-done _ c.args.marks.now.value.items _ (min (64 * c.loop-i.i) (length c.args.marks.now.heard.items))
    c.loop-i.invariant.merged
    (omega (arith, c.loop-i-test.false, c.div_ceil-i-end.ensures, c.len.ensures.value)))

pub returns-clause-bits : goal.returns-clause-bits
returns-clause-bits c = c.loop-i.invariant.bits

pub returns-clause-room : goal.returns-clause-room
returns-clause-room c = c.loop-i.invariant.room
