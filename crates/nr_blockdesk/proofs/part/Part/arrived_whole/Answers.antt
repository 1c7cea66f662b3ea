use Rattle.nr_blockdesk.proofs.Common.{◌≡◌, ℕ, ◌+◌, ◌-◌, ◌*◌, ◌/◌, ◌%◌, ◌^◌, ◌<◌, ◌==◌, inl}
use Rattle.nr_blockdesk.proofs.Common.{inr, sym, ap, ◌∙◌, arith, bit_at, cases_lt, eq-eqb, eqb-true, false≢true}
use Rattle.nr_blockdesk.proofs.Common.{bit_at-zero, bit_at_not, bit_at_ones, w64, bit}
use Rattle.nr_blockdesk.proofs.SelectedBitFacts.{marked}
use Rattle.std.proofs.lemmas.Nat.Bits.{same_from_bits_below}
use Rattle.nr_blockdesk.proofs.part.Part.arrived_whole.Goals as goal

-- a word of ones: 64 places more were received
pub loop-i-preserved : goal.loop-i-preserved
loop-i-preserved c = λ m below. elim (cases_lt m (64 * c.loop-i.i)) [
  | inl before ↦ c.loop-i.invariant m before
  | inr past ↦
      let part = c.args.self.now in
      let j = m - 64 * c.loop-i.i in
      let at : part.from + m ≡ part.from + 64 * c.loop-i.i + j = omega (arith, past) in
      let few : j < 64 = omega (arith, below, past) in
      ap (bit part.arrival.now.marks.now.heard.items) at
      ∙ sym (c.window.ensures j few)
      ∙ ap (λ w. bit_at w j == 1) c.if-window.false ∙ ap (λ b. b == 1) (bit_at_ones 64 j few)
]

-- a word of ones
full : (word : ℕ) → word < 2 ^ 64 → ((j : ℕ) → j < 64 → bit_at word j ≡ 1) → word ≡ 18446744073709551615
full word fits ones =
    same_from_bits_below 64 word 18446744073709551615 fits (omega arith) (λ j few. ones j few ∙ sym (bit_at_ones 64 j few))

pub returns-then-window : goal.returns-then-window
returns-then-window c =
    let part = c.args.self.now in
    let n : ℕ = 64 * c.loop-i.i in (
      (λ yes. absurd (false≢true yes)),
      (λ all. absurd (c.if-window.true (full c.window.result c.window.type_inv (λ j few.
          let at : part.from + n + j ≡ part.from + (n + j) = omega arith in
          eqb-true (bit_at c.window.result j) 1 (c.window.ensures j few
          ∙ ap (bit part.arrival.now.marks.now.heard.items) at ∙ all (n + j) (omega (arith, few, c.loop-i-test.true))))))),
    )

-- all whole words are ones, so the last bits decide
pub returns : goal.returns
returns c =
    let part = c.args.self.now in
    let n : ℕ = 64 * (part.count / 64) in (
      (λ none m inside. elim (cases_lt m n) [
        | inl before ↦ c.loop-i.invariant m (omega (arith, before, c.loop-i-test.false))
        | inr past ↦
            let j = m - n in
            let at : part.from + m ≡ part.from + n + j = omega (arith, past) in
            let low : j < part.count % 64 = omega (arith, inside, past) in
            let few : j < 64 = omega (arith, low) in
            ap (bit part.arrival.now.marks.now.heard.items) at
            ∙ sym (c.window-2.ensures j few)
            ∙ marked c.window-2.result j (omega arith) few
            (sym (c.low_bits.ensures.low j low) ∙ ap (λ w. bit_at w j) (eqb-true c.low_bits.result 0 none) ∙ bit_at-zero j)
      ]),
      (λ all. eq-eqb c.low_bits.result 0
          (same_from_bits_below 64 c.low_bits.result 0 c.low_bits.type_inv (omega arith)
          (λ j few. elim (cases_lt j (part.count % 64)) [
            | inl low ↦
                let at : part.from + n + j ≡ part.from + (n + j) = omega arith in
                let one : bit_at c.window-2.result j ≡ 1 =
                eqb-true (bit_at c.window-2.result j) 1 (c.window-2.ensures j few
                ∙ ap (bit part.arrival.now.marks.now.heard.items) at ∙ all (n + j) (omega (arith, low))) in
                omega (
                  arith,
                  c.low_bits.ensures.low j low,
                  bit_at_not w64 c.window-2.result j (omega arith) few,
                  one,
                  bit_at-zero j,
                )
            | inr past ↦ c.low_bits.ensures.high j past ∙ sym (bit_at-zero j)
          ]))),
    )
