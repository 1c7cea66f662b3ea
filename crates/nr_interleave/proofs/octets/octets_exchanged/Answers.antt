use Rattle.nr_interleave.proofs.Common.{◌+◌, ◌*◌, ◌/◌, ◌%◌, ◌++◌, slice_index_or as get_or, ap, ◌∙◌}
use Rattle.nr_interleave.proofs.{Common.arith, Common.bit_at, ExchangedOctetFacts.three-turns}
use Rattle.nr_interleave.proofs.octets.octets_exchanged.Goals as goal

-- Three turns by one bit each exchange the halves of an octet's index, which are its word and its place there.
pub returns : goal.returns
returns c = λ k j in_words in_word.
    let octets = c.octets_of.result.0 ++ c.octets_of.result.1 in
    let once = c.in_turn.result.0 ++ c.in_turn.result.1 in
    let twice = c.in_turn-2.result.0 ++ c.in_turn-2.result.1 in
    let thrice = c.in_turn-3.result.0 ++ c.in_turn-3.result.1 in
    c.words_of.ensures k j in_words in_word
    ∙ ap (λ o. bit_at o (j % 8))
    (three-turns octets once twice thrice k (j / 8) (record { turned = c.in_turn.ensures })
    (record { turned = c.in_turn-2.ensures }) (record { turned = c.in_turn-3.ensures }) in_words (omega (arith, in_word)))
    ∙ c.octets_of.ensures (8 * (j / 8) + k) (j % 8) (omega (arith, in_words, in_word)) (omega arith)
    ∙ ap (λ n. bit_at (get_or c.args.words.now n 0) (8 * ((8 * (j / 8) + k) % 8) + j % 8)) (omega (arith, in_words))
    ∙ ap (λ n. bit_at (get_or c.args.words.now (j / 8) 0) (8 * n + j % 8)) (omega (arith, in_words))
