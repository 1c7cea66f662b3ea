use Rattle.nr_blockdesk.proofs.Common.{Bool, List, ◌∙◌, arith, map-set, codeword, code_bits, numbers, positions_of}
use Rattle.nr_blockdesk.proofs.Common.{kept_words}
use Rattle.nr_blockdesk.proofs.EncodingFacts.{kept-inside, peelers-stay, word-long, words-more, words-set}
use Rattle.nr_blockdesk.proofs.encoder.encode_words.Goals as goal

pub encode_into-requires-clause-long : goal.encode_into-requires-clause-long
encode_into-requires-clause-long g c =
    word-long c.args.plan.now.c (positions_of c.args.plan.now) c.loop-r.code_blocks c.loop-r.r c.index-code_blocks-r.result
    c.loop-r.invariant.words c.loop-r-test.true

-- one code block more has its codeword, and no peeler has changed
pub loop-r-preserved : goal.loop-r-preserved
loop-r-preserved g c =
    let r = c.loop-r.r in
    let plan = c.args.plan.now in
    let inv = c.loop-r.invariant in
    let words : List (List Bool) = kept_words c.loop-r.code_blocks in
    let word = c.encode_into.new.word in
    record {
      words =
          rw map-set (words-set plan.c (positions_of plan) words r word inv.words c.loop-r-test.true c.encode_into.ensures.long);
      peelers = peelers-stay c.loop-r.code_blocks r c.index-code_blocks-r.result word
          (kept-inside plan.c (positions_of plan) c.loop-r.code_blocks r inv.words c.loop-r-test.true) ∙ inv.peelers;
      encoded =
          rw map-set (words-more words r word
          (λ q. codeword c.args.table.now plan.graph (numbers plan) (code_bits (numbers plan) c.args.attached.now.items q))
          (omega (arith, inv.words.many, c.loop-r-test.true)) c.encode_into.ensures.encoded inv.encoded);
    }

pub returns-clause-encoded : goal.returns-clause-encoded
returns-clause-encoded g c = λ r below. c.loop-r.invariant.encoded r (omega (arith, below, c.loop-r-test.false))
