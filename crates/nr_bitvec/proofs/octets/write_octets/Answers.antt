use Rattle.nr_bitvec.proofs.Common.{◌+◌, ◌*◌, ◌++◌, ap, ◌∙◌, refl, take, arith}
use Rattle.nr_bitvec.proofs.PushedWordFacts.{writes_none, writes_more}
use Rattle.std.proofs.lemmas.{Slice.take-put_mid, List.take_all}
use Rattle.nr_bitvec.proofs.octets.write_octets.Goals as goal

pub loop-i-init : goal.loop-i-init
loop-i-init c = writes_none c.args.words.now _ refl

-- eight octets more
pub loop-i-preserved : goal.loop-i-preserved
loop-i-preserved c =
    writes_more c.args.words.now (take (8 * c.loop-i.i) c.loop-i.octets) _ c.loop-i.i _ c.turned.result c.loop-i.invariant refl
    c.turned.ensures
    (take-put_mid (8 * c.loop-i.i) _ c.loop-i.octets _ (8 * (c.loop-i.i + 1)) (omega arith) (omega arith)
    ∙ ap (λ xs. take (8 * c.loop-i.i) c.loop-i.octets ++ xs) (c.copy_from_slice.ensures.after ∙ c.to_le_bytes.ensures))

pub returns : goal.returns
returns c = grind (arith, take_all)
