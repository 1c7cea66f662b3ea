use Rattle.nr_blockdesk.proofs.Common.{◌≡◌, ℕ, ◌+◌, ◌-◌, ◌*◌, ◌<◌, ◌≤◌, ◌==◌, inl, inr, Bool}
use Rattle.nr_blockdesk.proofs.Common.{cond, length, nat_lt, take, drop, ap, ◌∙◌, arith, bit_at, cases_lt, bit_at-zero}
use Rattle.nr_blockdesk.proofs.Common.{crc_of, B24, numbers, part_of, share}
use Rattle.nr_blockdesk.proofs.EncodingFacts.{code-checked, code-filled, part-inside}
use Rattle.nr_blockdesk.proofs.encoder.tail_word.Goals.{else-j-eq0-via-then-j-eq0+else-plan-gt0, else-j-eq0-via-else-j-eq0}
use Rattle.std.proofs.lemmas.Nat.Bits.{bit_at_above}
use Rattle.nr_bitvec.proofs.BitFacts.{bit_at_shr}
use Rattle.nr_blockdesk.proofs.encoder.tail_word.Goals as goal

-- L is 24 or 0
short : (several : Bool) (l : ℕ) → l ≡ cond several 24 0 → l ≤ 24
short several l is = grind arith

whole : (several : Bool) (l : ℕ) → l ≡ cond several 24 0 → 0 < l → l ≡ 24
whole several l is some = grind arith

-- the first 24 bits are the CRC's, and fillers follow
pub returns-then-plan-gt0 : goal.returns-then-plan-gt0
returns-then-plan-gt0 c = λ t few inside.
    let plan = c.args.plan.now in
    let bits = c.args.attached.now.items in
    let r = c.args.r in
    let k : ℕ = plan.kdash - plan.l + (64 * c.args.j + t) in
    let l : plan.l ≡ 24 = whole (nat_lt 1 plan.c) plan.l plan.sound.several c.if-plan-gt0.true in
    let end = part-inside plan.c (plan.kdash - plan.l) r c.requires.block in
    let fits : part_of (numbers plan) r 0 + share (numbers plan) ≤ length bits =
    omega (arith, end, plan.sound.shared, c.requires.whole) in
    let is = c.from.ensures ∙ c.crc_range-check.ensures.value
    ∙ ap (λ n. crc_of B24 (take (plan.kdash - plan.l) (drop n bits))) c.part-start.ensures.index in
    ap (λ n. n == 1) (bit_at_shr c.reversed.result 40 t) ∙ elim (cases_lt t 24) [
      | inl low ↦
          let place : 63 - (40 + t) ≡ plan.kdash - 1 - k = omega (arith, low, l, plan.sound.checked, c.if-j-eq0.true) in
          ap (λ n. n == 1) (c.reversed.ensures (40 + t) (omega (arith, low)) ∙ ap (λ n. bit_at n (63 - (40 + t))) is
          ∙ ap (bit_at _) place)
          ∙ code-checked (numbers plan) bits r k fits plan.sound.several plan.sound.checked (omega arith)
          (omega (arith, low, l, plan.sound.checked, c.if-j-eq0.true))
      | inr high ↦
          ap (λ n. n == 1) (bit_at_above c.reversed.result 64 (40 + t) c.reversed.type_inv (omega (arith, high)))
          ∙ code-filled (numbers plan) bits r k
          (c.code_blocks_are_long.ensures.bits plan.graph plan.b
          (numbers plan) bits r plan.planned c.requires.whole c.requires.block)
          (omega (arith, high, l)) inside
    ]

-- all bits past K' are fillers, which are zeros
pub returns-else-j-eq0 : goal.returns-else-j-eq0
returns-else-j-eq0 c = λ t few inside.
    let plan = c.args.plan.now in
    let bits = c.args.attached.now.items in
    let most = short (nat_lt 1 plan.c) plan.l plan.sound.several in
    let behind : plan.kdash ≤ plan.kdash - plan.l + (64 * c.args.j + t) =
    elim c.else-j-eq0.branch [
      | else-j-eq0-via-then-j-eq0+else-plan-gt0 w ↦ omega (arith, w.if-plan-gt0.false)
      | else-j-eq0-via-else-j-eq0 w ↦ omega (arith, most, w.if-j-eq0.false)
    ] in
    ap (λ n. n == 1) (bit_at-zero t)
    ∙ code-filled (numbers plan) bits c.args.r (plan.kdash - plan.l + (64 * c.args.j + t))
    (c.code_blocks_are_long.ensures.bits plan.graph plan.b
    (numbers plan) bits c.args.r plan.planned c.requires.whole c.requires.block) behind inside
