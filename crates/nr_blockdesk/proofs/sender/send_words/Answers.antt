use Rattle.nr_blockdesk.proofs.Common.{get_or as slice_index_or, length-append, subst, sym, ap, ◌∙◌, arith, get_or_default}
use Rattle.nr_blockdesk.proofs.Common.{interleaving_of, selection_of, length-selection_of, block_sent, matching_of, sent_of}
use Rattle.nr_blockdesk.proofs.Common.{◌≡◌, ℕ, ◌+◌, ◌<◌, Bool, List, [], ◌++◌, length, slice_index}
use Rattle.nr_blockdesk.proofs.SenderFacts.{front-inside, front-more, front_sent, length-block_sent}
use Rattle.nr_blockdesk.proofs.sender.send_words.Goals as goal

-- the bits that are selected into the list that was cleared
pub spread_onto-requires-clause-whole : goal.spread_onto-requires-clause-whole
spread_onto-requires-clause-whole c = grind (arith, length-selection_of)

-- one code block's part more has room
pub spread_onto-requires-clause-room : goal.spread_onto-requires-clause-room
spread_onto-requires-clause-room c =
    let t = matching_of c.args.buffer.now c.args.tx.now c.args.lengths.now in
    let words : ℕ → List Bool = λ r. slice_index_or c.args.words.now r [] in
    let r = c.loop-r.r in
    let e = slice_index c.args.lengths.now r in
    let chosen = selection_of c.args.buffer.now c.index-words-r.result c.args.tx.now.rv e in
    omega (
      arith,
      ap length (c.select_onto.ensures.items ∙ ap (λ xs. xs ++ chosen) c.clear.ensures.items),
      length-selection_of c.args.buffer.now c.index-words-r.result c.args.tx.now.rv e,
      length-block_sent t (words r) e,
      front-inside t words r c.loop-r-test.true,
      ap length c.loop-r.invariant.joined,
      c.loop-r.invariant.room,
      c.requires.shared.together,
    )

-- one code block's part more is selected, interleaved and put after the others
pub loop-r-preserved : goal.loop-r-preserved
loop-r-preserved c =
    let t = matching_of c.args.buffer.now c.args.tx.now c.args.lengths.now in
    let words : ℕ → List Bool = λ r. slice_index_or c.args.words.now r [] in
    let r = c.loop-r.r in
    let e = slice_index c.args.lengths.now r in
    let chosen = selection_of c.args.buffer.now c.index-words-r.result c.args.tx.now.rv e in
    let is : c.select_onto.new.bits.items ≡ chosen =
    c.select_onto.ensures.items ∙ ap (λ xs. xs ++ chosen) c.clear.ensures.items in
    let there : r < length c.args.words.now = subst (λ n. r < n) c.requires.shared.counted c.loop-r-test.true in
    let here : c.index-words-r.result ≡ words r =
    c.index-words-r.is ∙ get_or_default c.args.words.now r c.index-words-r.result [] there in
    let part : interleaving_of c.args.tx.now.qm c.select_onto.new.bits.items ≡ block_sent t (words r) e =
    ap (interleaving_of c.args.tx.now.qm) (is ∙ ap (λ w. selection_of c.args.buffer.now w c.args.tx.now.rv e) here) in
    let long : length c.select_onto.new.bits.items ≡ e =
    ap length is ∙ length-selection_of c.args.buffer.now c.index-words-r.result c.args.tx.now.rv e in
    let joined : c.spread_onto.new.spread.items ≡ front_sent t words (r + 1) =
    c.spread_onto.ensures.items
    ∙ ap (λ bits. bits ++ interleaving_of c.args.tx.now.qm c.select_onto.new.bits.items) c.loop-r.invariant.joined
    ∙ ap (λ bits. front_sent t words r ++ bits) part
    ∙ front-more t words r in
    record {
      joined = joined;
      room =
          omega (
            arith,
            c.spread_onto.ensures.room,
            c.loop-r.invariant.room,
            long,
            length-block_sent t (words r) e,
            ap length joined,
            ap length (sym (front-more t words r)),
            ap length c.loop-r.invariant.joined,
            length-append (front_sent t words r) (block_sent t (words r) e),
          );
      enough = omega (arith, c.select_onto.ensures.room, c.clear.ensures.room, c.loop-r.invariant.enough, long);
    }

pub returns : goal.returns
unfolding sent_of
returns c = grind arith
