use Rattle.nr_blockdesk.proofs.Common.{◌+◌, ◌++◌, ◌∷◌, ◌<◌, [], Bool, List, length, length-set}
use Rattle.nr_blockdesk.proofs.Common.{length-map, take, ap, arith, sym, ◌∙◌, CodeBlock, Peeling, get_or-map, kept_words}
use Rattle.nr_blockdesk.proofs.Common.{map-set, peelers_of, set, cases_eq, get_or_read, get_or-set_other, get_or-set_same, inl, inr}
use Rattle.nr_ldpcenc.specs.Rows.{Checks}
use Rattle.nr_peel.specs.Peeling.{checks_for}
use Rattle.nr_blockdesk.proofs.CopyFacts.{taken_more}
use Rattle.std.proofs.lemmas.List.{set-get_or, take_more_set}
use Rattle.nr_blockdesk.proofs.code_block.code_blocks_again.Goals as goal

-- both peelers are of one code
pub know_as-requires : goal.know_as-requires
know_as-requires g c =
    let from : List (CodeBlock g.row.K.Denot) = c.args.from.now in
    let block : CodeBlock g.row.K.Denot = c.index_mut.result.now in
    let checks_in : CodeBlock g.row.K.Denot → Checks = λ b. checks_for b.peeler in
    ap checks_in c.index_mut.ensures.value ∙ c.loop-r.invariant.code c.loop-r.r block c.loop-r-test.true
    ∙ sym (ap checks_in (get_or_read from c.loop-r.r c.index-from-r.result c.loop-r-test.true c.index-from-r.is block))

-- one peeler more
pub loop-r-preserved : goal.loop-r-preserved
loop-r-preserved g c =
    let inv = c.loop-r.invariant in
    let r = c.loop-r.r in
    let blocks : List (CodeBlock g.row.K.Denot) = c.loop-r.blocks.items in
    let from : List (CodeBlock g.row.K.Denot) = c.args.from.now in
    let other : CodeBlock g.row.K.Denot = c.index-from-r.result in
    let block : CodeBlock g.row.K.Denot = c.index_mut.result.now in
    let with : CodeBlock g.row.K.Denot = c.know_as.new.self in
    let peeler_in : CodeBlock g.row.K.Denot → Peeling = λ b. b.peeler in
    let word_in : CodeBlock g.row.K.Denot → List Bool = λ b. b.word in
    let below : r < length from = c.loop-r-test.true in
    let checks_in : CodeBlock g.row.K.Denot → Checks = λ b. checks_for b.peeler in
    record {
      many = length-set blocks r with ∙ inv.many;
      code = λ q d short. elim (cases_eq q r) [
        | inl same ↦
            rw same (ap checks_in (get_or-set_same blocks r with d (omega (arith, inv.many, below)))
            ∙ ap checks_for c.in_ok-know_as.ensures.peeler
            ∙ ap checks_in (get_or_read from r other below c.index-from-r.is d))
        | inr apart ↦ ap checks_in (get_or-set_other blocks r q with d apart) ∙ inv.code q d short
      ];
      peelers = ap (take (r + 1)) (map-set peeler_in blocks r with)
          ∙ take_more_set (peelers_of blocks) r with.peeler (omega (arith, inv.many, below, length-map blocks peeler_in))
          ∙ ap (λ xs. xs ++ with.peeler ∷ []) inv.peelers
          ∙ taken_more (peelers_of from) r other.peeler with.peeler
          (ap peeler_in c.index-from-r.is ∙ sym (get_or-map peeler_in from r other other.peeler below))
          c.in_ok-know_as.ensures.peeler (omega (arith, below, length-map from peeler_in));
      words = map-set word_in blocks r with
          ∙ ap (set (kept_words blocks) r)
          (c.in_ok-know_as.ensures.word ∙ ap word_in c.index_mut.ensures.value
          ∙ sym (get_or-map word_in blocks r block block.word (omega (arith, inv.many, below))))
          ∙ set-get_or (kept_words blocks) r block.word ∙ inv.words;
    }
