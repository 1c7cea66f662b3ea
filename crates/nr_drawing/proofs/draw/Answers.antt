use Rattle.nr_bitvec.proofs.WordDigitFacts.{none-zero}
use Rattle.nr_drawing.proofs.Common.{Lcg, append_assoc, arith, first_words, low_first, marks_drawn, nat_lt, nat_tests, pcg32, refl}
use Rattle.nr_drawing.proofs.Common.{suc, ℕ, ◌+◌, ◌-◌, ◌∷◌, ◌≡◌}
use Rattle.nr_drawing.proofs.MarkWordFacts.{low-more, mark-none}
use Rattle.nr_drawing.proofs.draw.Goals as goal

-- one more word
marked-next : (threshold n count : ℕ) (g h : Lcg) (word : ℕ) → n ≡ suc count → (word, h) ≡ pcg32 g
    → nat_lt word threshold ∷ marks_drawn threshold count h ≡ marks_drawn threshold n g
unfolding first_words
marked-next threshold n count g h word one drawn = grind (arith, nat_tests)

pub loop-j-init : goal.loop-j-init
unfolding low_first
loop-j-init c = record { told = λ n. grind arith; none = none-zero }

-- Bit `j` of the word and all above were clear, so the next mark goes there and changes no mark before it.
pub loop-j-preserved : goal.loop-j-preserved
loop-j-preserved c =
    let j = c.loop-j.j in
    let inv = c.loop-j.invariant in
    let more = low-more c.loop-j.word _ c.from.result j _ (omega (arith, c.requires)) c.from.ensures refl inv.none in
    record {
      told = λ n. grind (
        arith,
        append_assoc,
        inv.told n,
        marked-next c.args.threshold (c.args.count - j + n) (c.args.count - (j + 1) + n) c.loop-j.generator c.next_word.new.self
            c.next_word.result (omega arith) c.next_word.ensures,
      );
      none = mark-none c.loop-j.word _ c.from.result j _ (omega (arith, c.requires)) c.from.ensures refl inv.none;
    }

pub returns : goal.returns
returns c = grind arith
