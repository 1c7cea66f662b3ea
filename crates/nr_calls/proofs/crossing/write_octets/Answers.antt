use Rattle.nr_calls.proofs.{Common.◌+◌, Common.◌*◌, Common.◌∙◌, Common.arith, WordOctetFacts.octets-more}
use Rattle.std.proofs.lemmas.Slice.{take-put_mid}
use Rattle.nr_calls.proofs.crossing.write_octets.Goals as goal

-- the octets of one more word are written
pub loop-i-preserved : goal.loop-i-preserved
loop-i-preserved c =
    octets-more c.args.bits.now.items c.loop-i.i c.window.result c.reversed-word.result c.window.ensures c.reversed-word.ensures _
    c.loop-i.out c.copy_from_slice.new.self (omega arith)
    (take-put_mid (8 * c.loop-i.i) _ c.loop-i.out c.copy_from_slice.new.self (8 * (c.loop-i.i + 1)) (omega arith) (omega arith))
    (c.copy_from_slice.ensures.after ∙ c.to_be_bytes.ensures) c.loop-i.invariant
