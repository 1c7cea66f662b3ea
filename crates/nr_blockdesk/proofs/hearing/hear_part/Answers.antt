use Rattle.nr_blockdesk.proofs.Common.{◌≡◌, ◌∙◌, sym, subst, refl, arith, get_or, get_or-set_other, get_or-set_same}
use Rattle.nr_blockdesk.proofs.Common.{CodeBlock, HearsPart, get_or_read, heards_of}
use Rattle.nr_blockdesk.proofs.{HearingFacts.tied-still, MergingFacts.empty-all}
use Rattle.nr_blockdesk.proofs.hearing.hear_part.Goals as goal

-- the code block has learned what is new
pub returns-then-r-code_blocks-clause-hears : goal.returns-then-r-code_blocks-clause-hears
returns-then-r-code_blocks-clause-hears g c = λ d inside.
    let arrival = c.args.part.now.arrival.now in
    let B = c.args.code_blocks.now in
    let p : CodeBlock g.row.K.Denot = c.index-code_blocks-r.result in
    let old : CodeBlock g.row.K.Denot = get_or B c.args.r p in
    let q : CodeBlock g.row.K.Denot = record { peeler = c.learn_masks.new.peeler; word = old.word } in
    let hears : HearsPart arrival.buffer.now arrival.tx.now (heards_of c.args.part.now) c.args.store.now old
    c.store_part.new.store q =
    record {
      stored = c.store_part.ensures.stored;
      tied = λ link tied. c.learn_masks.ensures.tied link c.args.store.now c.store_part.new.store
          c.store_part.ensures.news.news tied;
      visited = c.learn_masks.ensures.visited;
      same = refl;
    } in
    let read : old ≡ get_or B c.args.r d =
    sym c.index-code_blocks-r.is ∙ get_or_read B c.args.r p inside c.index-code_blocks-r.is d in
    subst (λ x. HearsPart arrival.buffer.now arrival.tx.now (heards_of c.args.part.now) c.args.store.now
    (get_or B c.args.r d) c.store_part.new.store x) (sym (get_or-set_same B c.args.r q d inside))
    (subst (λ y. HearsPart arrival.buffer.now arrival.tx.now (heards_of c.args.part.now) c.args.store.now y
    c.store_part.new.store q) read hears)

pub returns-then-r-code_blocks-clause-others : goal.returns-then-r-code_blocks-clause-others
returns-then-r-code_blocks-clause-others g c = grind (arith, get_or-set_other)

-- there is no such code block
pub returns-else-r-code_blocks-clause-hears : goal.returns-else-r-code_blocks-clause-hears
returns-else-r-code_blocks-clause-hears g c = λ d inside. absurd (omega (arith, inside, c.if-r-code_blocks.false))

-- if nothing is new, store and peeler belong together as before
pub returns-else-store_part-clause-hears : goal.returns-else-store_part-clause-hears
returns-else-store_part-clause-hears g c = λ d inside. record {
  stored = c.store_part.ensures.stored;
  tied = λ link tied. tied-still c.args.store.now c.store_part.new.store c.store_part.new.part_masks.heard.items
      c.store_part.new.part_masks.value.items c.store_part.ensures.news.news link
      (get_or c.args.code_blocks.now c.args.r d).peeler tied
      (c.store_part.ensures.none c.if-store_part.false);
  visited = omega arith;
  same = refl;
}

pub returns-else-store_part-clause-empty : goal.returns-else-store_part-clause-empty
returns-else-store_part-clause-empty g c =
    let masks = c.store_part.new.part_masks in
    record {
      marks = empty-all masks.heard.items _ c.store_part.ensures.news.marks (c.store_part.ensures.none c.if-store_part.false);
      bits = c.store_part.ensures.news.bits;
    }
