-- The peelers so far know every position below K'.
use Rattle.nr_blockdesk.proofs.Common.{◌≡◌, ◌==◌, true, take, list_all, left_of}
use Rattle.nr_blockdesk.proofs.candidate.all_known.Given as goal

abbrev pub invariant-loop-code_block : goal.invariant-loop-code_block
invariant-loop-code_block g l =
    list_all (λ b. left_of b.peeler.numbers.kdash b.peeler.known == 0) (take l.code_block-index l.code_blocks) ≡ true
