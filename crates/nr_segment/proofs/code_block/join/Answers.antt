-- The share of one more code block follows those before it.
use Rattle.std.proofs.Common.{Bool, List, ap, append-nil, arith, drop, flat_map, get_or, length, length-append, map, take, ℕ}
use Rattle.std.proofs.Common.{◌++◌, ◌+◌, ◌-◌, ◌<◌, ◌∙◌, ◌≡◌}
use Rattle.std.proofs.lemmas.{Grind.common_steps, Grind.flat_map-append, List.length-take-le, List.map_more, List.take_all}
use Rattle.nr_segment.proofs.CodeBlockLemmas.{share-inside}
use Rattle.nr_segment.proofs.code_block.join.Goals as goal

-- the bits of one more list
one-more : {A : Type 0} (f : A → List Bool) (s : ℕ) (xs : List A) (i : ℕ) (x : A) (before all piece : List Bool)
    → i < length xs → x ≡ get_or xs i x
    → before ≡ flat_map (take s) (map f (take i xs)) → piece ≡ take s (drop 0 (f x)) → all ≡ before ++ piece
    → all ≡ flat_map (take s) (map f (take (i + 1) xs))
one-more f s xs i x before all piece within is so_far is_piece is_all =
    grind (arith, common_steps, append-nil, flat_map-append, map_more)

pub extend-requires : goal.extend-requires
extend-requires c = grind (arith, share-inside, length-take-le)

-- Each code block is K' bits long, so copying its first K' - L bits copies its whole share.
pub loop-block-preserved : goal.loop-block-preserved
loop-block-preserved c =
    let p = c.args.plan.now in
    let long : length c.block-item.result.items ≡ p.kdash = ap (λ b. length b.items) c.block-item.is
    ∙ c.requires.long c.loop-block.block-index c.block-item.result c.loop-block-test.true in
    let piece = ap length c.in_ok-copy_range.ensures ∙ length-take-le (p.kdash - p.l) c.block-item.result.items (omega arith) in
    record {
      items = one-more (λ block. block.items) (p.kdash - p.l) c.args.blocks.now c.loop-block.block-index c.block-item.result
          c.loop-block.bits.items _ _ c.loop-block-test.true c.block-item.is c.loop-block.invariant.items c.in_ok-copy_range.ensures
          c.in_ok-extend.ensures.ok;
      long = ap length c.in_ok-extend.ensures.ok ∙ length-append c.loop-block.bits.items c.in_ok-copy_range.field-0.items
          ∙ omega (arith, piece);
    }

pub returns : goal.returns
returns c = c.loop-block.invariant.items
    ∙ ap (λ blocks. flat_map (take (c.args.plan.now.kdash - c.args.plan.now.l)) (map (λ block. block.items) blocks))
    (take_all _ _ c.loop-block-test.false)
