use Rattle.nr_blockdesk.proofs.Common.{◌≡◌, ◌+◌, [], ◌∷◌, Bool, List, length, length-append, ap, ◌∙◌, arith}
use Rattle.nr_blockdesk.proofs.Common.{get_or_read, length-map, map-append, All-push, HeardBits, word_size, heard_of, kept_words}
use Rattle.nr_blockdesk.proofs.{Common.peelers_of, Common.CodeBlock, CandidateFacts.taught-more}
use Rattle.nr_blockdesk.proofs.code_block.code_blocks_of.Goals.{After-index-stores-r}
use Rattle.nr_blockdesk.proofs.code_block.code_blocks_of.Given as given
use Rattle.nr_blockdesk.proofs.code_block.code_blocks_of.Goals as goal

-- the store that is read is that of code block r
read : (g : given.Over) (c : After-index-stores-r g) → c.index-stores-r.result ≡ heard_of c.args.stores.now c.loop-r.r
read g c = grind (arith, get_or_read)

pub new-requires : goal.new-requires
new-requires g c =
    ap (λ (s : HeardBits). length s.first) (read g (goal.at.new-requires g c).After-index-stores-r)
    ∙ c.requires.long c.loop-r.r (rw c.requires.many at c.loop-r-test.true)

-- one code block more is tied to its store, and keeps a word of its length
pub loop-r-preserved : goal.loop-r-preserved
loop-r-preserved g c =
    let inv = c.loop-r.invariant in
    let blocks : List (CodeBlock g.row.K.Denot) = c.loop-r.blocks.items in
    let block : (CodeBlock g.row.K.Denot) = c.in_ok-new.field-0 in
    let is = read g (goal.at.loop-r-preserved g c).After-index-stores-r in
    record {
      many = ap length c.push_reserved.ensures.items ∙ length-append blocks (block ∷ []) ∙ ap (λ n. n + 1) inv.many;
      tied = λ q d below. rw (c.push_reserved.ensures.items, map-append)
          (taught-more c.args.link.now c.args.stores.now (peelers_of blocks) block.peeler c.loop-r.r
          (length-map blocks (λ (b : CodeBlock g.row.K.Denot). b.peeler) ∙ inv.many)
          (rw (← is) c.in_ok-new.ensures.tied) inv.tied q d below);
      words = rw (c.push_reserved.ensures.items, map-append) (record {
        many = length-append (kept_words blocks) (block.word ∷ []) ∙ ap (λ n. n + 1) inv.words.many;
        long = All-push (λ (w : List Bool). length w ≡ word_size c.args.link.now.graph c.args.link.now.plan)
            (kept_words blocks) block.word inv.words.long c.in_ok-new.ensures.word;
      });
      room = omega (arith, inv.room, c.push_reserved.ensures.capacity);
    }
