-- One more word enters the register: its bits follow those of the words before it.
use Rattle.nr_crcattach.proofs.Common.{◌≡◌, ◌+◌, ◌*◌, ◌∙◌, ap, arith, drop, sym, take, ◌++◌, pow_pos}
use Rattle.nr_crcattach.proofs.{Common.low_first, Common.degree, Common.residue, FlipFacts.flip-zero}
use Rattle.std.proofs.Common.{drop-drop, take-add}
use Rattle.nr_bitvec.proofs.RangeWordFacts.{range-word}
use Rattle.nr_crcattach.proofs.crc_of_words.Goals as goal

pub loop-i-init : goal.loop-i-init
unfolding residue
loop-i-init c = record { value = flip-zero (degree c.args.poly); fits = pow_pos (degree c.args.poly) }

-- The word is the next 64 bits of the range, so the register has the residue of these and all before.
pub loop-i-preserved : goal.loop-i-preserved
loop-i-preserved c =
    let p = c.args.poly in
    let items = c.args.bits.now.items in
    let rest = drop c.args.from items in
    let seen = take (64 * c.loop-i.i) rest in
    let next : 64 * (c.loop-i.i + 1) ≡ 64 * c.loop-i.i + 64 = omega arith in
    let word : low_first 64 c.window.result ≡ take 64 (drop (64 * c.loop-i.i) rest) =
    range-word items (c.args.from + 64 * c.loop-i.i) 64 c.window.result (omega arith) (omega arith) c.window.ensures
    ∙ ap (take 64) (sym (drop-drop (64 * c.loop-i.i) c.args.from items)) in
    record {
      value = c.with_word-register.ensures.value seen c.loop-i.invariant.value
          ∙ ap (residue p (degree p))
          (sym (ap (λ n. take n rest) next ∙ take-add (64 * c.loop-i.i) 64 rest ∙ ap (λ w. seen ++ w) (sym word)));
      fits = c.with_word-register.ensures.fits;
    }

pub returns-clause-value : goal.returns-clause-value
returns-clause-value c = grind arith
