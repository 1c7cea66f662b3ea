use Rattle.nr_blockdesk.proofs.Common.{nat_tests, ◌≡◌, ℕ, ◌+◌, ◌<◌, length, take, sym, ap, ◌∙◌, arith, sum}
use Rattle.nr_blockdesk.proofs.Common.{slice_index, length-set, sum_by_more, sum_by_more_le, heards, heards_from, piece}
use Rattle.nr_blockdesk.proofs.{HearingFacts.done-more, HearingFacts.later-kept, HearingFacts.stored-more, MarkFacts.piece-heards}
use Rattle.nr_blockdesk.proofs.hearing.hear.Goals as goal

-- one store more has received its part, and its code block too if it is there
pub loop-r-preserved : goal.loop-r-preserved
loop-r-preserved g c =
    let inv = c.loop-r.invariant in
    let r = c.loop-r.r in
    let arrival = c.args.arrival.now in
    let lengths = arrival.lengths.now in
    let S = c.loop-r.stores in
    let B = c.loop-r.code_blocks in
    let stored : r < length S = omega (arith, inv.stores, c.requires.all, c.loop-r-test.true) in
    let H = arrival.marks.now.heard.items in
    let V = arrival.marks.now.value.items in
    let part = heards_from H V c.loop-r.from (slice_index lengths r) in
    let together : sum lengths ≡ length H = arrival.shared.together ∙ sym arrival.whole in
    let part-is : part ≡ piece lengths (heards H V) r =
    ap (λ n. heards_from H V n (slice_index lengths r)) inv.from ∙ piece-heards H V lengths r together c.loop-r-test.true in
    let s = c.index-stores-r.result in
    let t = c.hear_part.new.store in
    let heard = c.hear_part.ensures in
    record {
      from =
          let more : sum (take (r + 1) lengths) ≡ sum (take r lengths) + slice_index lengths r =
          sum_by_more (λ (x : ℕ). x) lengths r 0 c.loop-r-test.true in
          omega (arith, more, inv.from);
      stores = length-set S r t ∙ inv.stores;
      blocks = heard.code_blocks ∙ inv.blocks;
      stored = stored-more arrival.buffer.now arrival.tx.now (piece lengths (heards H V)) c.args.stores.now S r part s t stored
          part-is c.index-stores-r.is (rw (c.index-stores-r.is) heard.stored) inv.stored inv.later;
      done = done-more arrival.buffer.now arrival.tx.now (piece lengths (heards H V)) c.args.stores.now S c.args.code_blocks.now B
          c.hear_part.new.code_blocks r part s t stored inv.blocks part-is c.index-stores-r.is
          (rw (c.index-stores-r.is) heard.hears) heard.others inv.done inv.later inv.later_blocks;
      later = later-kept c.args.stores.now S r t inv.later;
      later_blocks = λ q d above. heard.others q d (omega (arith, above)) ∙ inv.later_blocks q d (omega (arith, above));
      empty = heard.empty;
      room = λ n has. heard.room n (inv.room n has);
    }

pub invariant_of-part : goal.invariant_of-part
invariant_of-part g c = grind (arith, nat_tests, sum_by_more_le)

pub hear_part-requires-clause-room : goal.hear_part-requires-clause-room
hear_part-requires-clause-room g c = grind arith
