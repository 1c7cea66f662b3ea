use Rattle.std.proofs.{Common.map, Common.w8, lemmas.Simd.bit_mask_l, lemmas.Simd.bitmask_splat, lemmas.List.get_or-map}
use Rattle.nr_bitvec.proofs.NumberFacts.{cond_one}
use Rattle.nr_drawing.proofs.Common.{Bool, List, ap, arith, bit, bit_at, false, ℕ, ◌==◌, ◌∙◌}
use Rattle.nr_drawing.proofs.states.packed.Goals as goal

pub returns : goal.returns
returns c = λ j short.
    let ms : List Bool = map (λ x. x == 1) c.args.marks in
    ap (λ word. bit_at word j == 1) (bitmask_splat w8 (λ a b. a == b) c.args.marks 64 1 c.fits-marks.0 (omega arith))
    ∙ ap (λ m. m == 1) (bit_mask_l ms j) ∙ cond_one (bit ms j)
    ∙ get_or-map (λ (x : ℕ). x == 1) c.args.marks j 0 false (omega (arith, c.fits-marks.0, short))
