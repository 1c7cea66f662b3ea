use Rattle.nr_blockdesk.proofs.Common.{◌≡◌, ℕ, Bool, List, length, map, false, refl, ap, ◌∙◌, arith, range_with_len}
use Rattle.nr_blockdesk.proofs.Common.{length-replicate, length-map-range_with_len, attached, codeword, code_bits, numbers}
use Rattle.nr_blockdesk.proofs.Common.{positions_of, word}
use Rattle.std.proofs.lemmas.List.FromFn.{map-range_with_len_more}
use Rattle.nr_blockdesk.proofs.sender.words_of.Goals as goal

pub encode_into-requires-clause-whole : goal.encode_into-requires-clause-whole
encode_into-requires-clause-whole c = grind arith

pub encode_into-requires-clause-long : goal.encode_into-requires-clause-long
encode_into-requires-clause-long c = ap length c.in_ok-word.ensures ∙ length-replicate (positions_of c.plan-plan.result.now) false

pub push_reserved-requires : goal.push_reserved-requires
push_reserved-requires c = grind (arith, length-map-range_with_len)

-- one codeword more
pub loop-r-preserved : goal.loop-r-preserved
loop-r-preserved c =
    let plan = c.plan-plan.result.now in
    let r = c.loop-r.r in
    let f : ℕ → List Bool =
    λ r. codeword c.table-table.result.now plan.graph (numbers plan)
    (code_bits (numbers plan) (attached c.args.block.now.items) r) in
    let one : c.encode_into.new.word ≡ f r = rw (c.encode_into.ensures.encoded, c.in_ok-attached.ensures) refl in
    record {
      encoded =
          rw (c.push_reserved.ensures.items, c.loop-r.invariant.encoded, one, map-range_with_len_more f 0 r r (omega arith)) refl;
      room = omega (arith, c.loop-r.invariant.room, c.push_reserved.ensures.capacity);
    }

pub returns-clause-words : goal.returns-clause-words
unfolding word
returns-clause-words c =
    let plan = c.plan-plan.result.now in
    let f : ℕ → List Bool =
    λ r. codeword c.table-table.result.now plan.graph (numbers plan)
    (code_bits (numbers plan) (attached c.args.block.now.items) r) in
    let all : c.loop-r.r ≡ plan.c = omega arith in
    rw (← c.table-table.ensures, ← c.plan-plan.ensures.graph, ← c.plan-plan.ensures.numbers)
    (c.loop-r.invariant.encoded ∙ ap (λ n. map f (range_with_len 0 n)) all)
