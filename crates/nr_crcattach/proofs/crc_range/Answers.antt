-- One more bit enters the register: `residue-next` at the code's numbers.
use Rattle.nr_crcattach.proofs.Common.{nat_tests, ◌≡◌, ℕ, ◌+◌, ◌-◌, ◌*◌, ◌%◌, ◌^◌, Bool, true, false}
use Rattle.nr_crcattach.proofs.Common.{[], ◌∷◌, ◌++◌, length-drop, take, drop, sym, ◌∙◌, ap, arith, bit_xor}
use Rattle.nr_crcattach.proofs.Common.{one_shl, xor_lt, Poly, degree, residue, times_d}
use Rattle.nr_crcattach.proofs.GeneratorFacts.{degree-le, degree-positive}
use Rattle.nr_crcattach.proofs.RegisterFacts.{entering, entering-lt, residue-next}
use Rattle.std.proofs.lemmas.List.{take_more, get_or-drop}
use mir.Val.{bool_byte}
use Rattle.nr_crcattach.proofs.crc_range.Goals as goal

-- the code's bit << top
shl-entering : (p : Poly) (byte top : ℕ) (bit : Bool) → byte ≡ bool_byte bit → top ≡ degree p
    → byte * 2 ^ (top - 1) % 2 ^ 32 ≡ entering (degree p) bit
shl-entering p byte top true is_bit is_top = grind (arith, one_shl, degree-le)
shl-entering p byte top false is_bit is_top = grind arith

pub loop-i-init : goal.loop-i-init
loop-i-init c = record { value = c.crc_of_words-register.ensures.value; fits = c.crc_of_words-register.ensures.fits }

pub times_d-register-requires : goal.times_d-register-requires
times_d-register-requires c = grind (arith, nat_tests, shl-entering, xor_lt, entering-lt, degree-positive)

-- The bit is added at the register's top, and multiplying by D then takes one step of the residue.
pub loop-i-preserved : goal.loop-i-preserved
loop-i-preserved c =
    let p = c.args.poly in
    let l = degree p in
    let rest = drop c.args.from c.args.bits.now.items in
    let seen = take c.loop-i.i rest in
    let bit = c.get.result in
    let shifted : c.from.result * 2 ^ (c.degree-top.result - 1) % 2 ^ 32 ≡ entering l bit =
    shl-entering p c.from.result c.degree-top.result bit c.from.ensures c.degree-top.ensures in
    let more : take (c.loop-i.i + 1) rest ≡ seen ++ bit ∷ [] =
    take_more rest c.loop-i.i false (omega (arith, length-drop c.args.from c.args.bits.now.items))
    ∙ ap (λ b. seen ++ b ∷ []) (get_or-drop c.args.from c.args.bits.now.items c.loop-i.i false ∙ sym c.get.ensures) in
    record {
      value =
          c.times_d-register.ensures.value
          ∙ ap (λ r. times_d p (bit_xor c.loop-i.register r)) shifted
          ∙ ap (λ r. times_d p (bit_xor r (entering l bit))) c.loop-i.invariant.value
          ∙ sym (residue-next p seen bit)
          ∙ ap (residue p l) (sym more);
      fits = c.times_d-register.ensures.fits;
    }

pub returns : goal.returns
returns c = grind arith
