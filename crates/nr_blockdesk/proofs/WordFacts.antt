-- Of the words that begin with a code block and have zeros for the fillers, only its codeword meets every row.
use Rattle.nr_blockdesk.proofs.Common.{◌≡◌, ℕ, suc, zero, ◌-◌, ◌<◌, ◌≤◌, Bool, true, false, inl, inr, List}
use Rattle.nr_blockdesk.proofs.Common.{[], ◌∷◌, ◌++◌, length, take, replicate, refl, sym, ap, ◌∙◌, arith, cases_lt}
use Rattle.nr_blockdesk.proofs.Common.{nat_tests, mul-le-mul_right, get_or-take, get_or_past, length-replicate, length-append, bit}
use Rattle.nr_blockdesk.proofs.Common.{same_from_bits, BlocksLengthen, attached, attached_length, CodeBlocksAreLong, PlansAreSound}
use Rattle.nr_blockdesk.proofs.Common.{codeword, filler, code_bits_of, word}
use Rattle.nr_blockdesk.specs.Link.{WordsAreOnly}
use Rattle.std.proofs.lemmas.List.{length-take}
use Rattle.nr_bitvec.proofs.ListFacts.{get_or-replicate_same}
use Rattle.nr_segment.specs.CodeBlock.{with_fillers}
use Rattle.nr_ldpcenc.{proofs.CodewordFacts.columns-are, specs.Codeword.OneCodeword}

is-filler : (kdash k q : ℕ) → kdash ≤ q → q < k → filler kdash k q ≡ true
is-filler kdash k q low high = grind (arith, nat_tests)

-- the fillers change no bit: they are zeros, like all bits past the end
bit-filled : (l : List Bool) (n j : ℕ) → bit (l ++ replicate n false) j ≡ bit l j
bit-filled [] n j = get_or-replicate_same n j false
bit-filled (b ∷ l) n zero = refl
bit-filled (b ∷ l) n (suc j) = bit-filled l n j

-- Such a word begins with the K bits of the code block with its fillers, and only one word does so and meets every row.
pub words_only : PlansAreSound → BlocksLengthen → CodeBlocksAreLong → OneCodeword → WordsAreOnly
unfolding word codeword
words_only plans blocks codes one link block other r is whole inside that =
    let p = link.plan in
    let info : List Bool = code_bits_of link block r in
    let full : List Bool = with_fillers p info in
    let b = attached_length link.a in
    let sound = plans link.graph b p is.planned in
    let attached-long : length (attached block) ≡ b = blocks block ∙ ap attached_length whole in
    let short : length info ≡ p.kdash = codes link.graph b p (attached block) r is.planned attached-long inside in
    let long : length full ≡ p.k = grind (arith, length-append, length-replicate) in
    let room : length (take (length full) other) ≡ length full = grind (arith, mul-le-mul_right, columns-are, length-take) in
    (one link.table link.graph b p full is.table is.there is.planned long).only other (record {
      long = that.long;
      begins = same_from_bits (take (length full) other) full room (λ j lt.
          let low : j < length full = omega (arith, room, lt) in
          get_or-take (length full) other j false low ∙ elim (cases_lt j p.kdash) [
            | inl before ↦ that.begins j before
            | inr beyond ↦ that.plain.zero j (is-filler p.kdash p.k j beyond (omega (arith, low, long)))
                ∙ sym (get_or_past info j false (omega (arith, short, beyond)))
          ] ∙ sym (bit-filled info (p.k - p.kdash) j));
      meets = that.plain.meets;
    })
