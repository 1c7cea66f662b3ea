use Rattle.nr_blockdesk.proofs.Common.{◌≡◌, ◌<◌, [], false, length, get_or, arith, cases_eq, false≢true, get_or-map}
use Rattle.nr_blockdesk.proofs.Common.{get_or_read, heard_of, kept_words, word_at}
use Rattle.nr_blockdesk.proofs.candidate.explains.Goals.{After-index-code_blocks-r}
use Rattle.nr_blockdesk.proofs.candidate.explains.Given as given
use Rattle.nr_blockdesk.proofs.candidate.explains.Goals as goal

-- store and word of code block r are those that are compared
module _ (g : given.Over) (c : After-index-code_blocks-r g) where
  inside : c.loop-r.r < length c.args.stores.now
  inside = c.loop-r-test.true

  stored : c.index-stores-r.result ≡ heard_of c.args.stores.now c.loop-r.r
  stored = get_or_read c.args.stores.now c.loop-r.r c.index-stores-r.result inside c.index-stores-r.is
      (record { first = []; clash = false })

  worded : word_at (kept_words c.args.code_blocks.now) c.loop-r.r
      ≡ (get_or c.args.code_blocks.now c.loop-r.r c.index-code_blocks-r.result).word
  worded = grind (arith, get_or-map, inside)

pub agrees-requires : goal.agrees-requires
agrees-requires g c =
    let at = (goal.at.agrees-requires g c).After-index-code_blocks-r in grind (arith, stored g at, inside g at, worded g at)

pub returns-then-not-agrees : goal.returns-then-not-agrees
returns-then-not-agrees g c =
    let at = (goal.at.returns-then-not-agrees g c).After-index-code_blocks-r in (
      (λ yes. absurd (false≢true yes)),
      (λ all. absurd (c.agrees.ensures.misfits c.if-not-agrees.true
          (rw (stored g at, ← worded g at) (all c.loop-r.r (inside g at))))),
    )

pub loop-r-preserved : goal.loop-r-preserved
loop-r-preserved g c =
    let at = (goal.at.loop-r-preserved g c).After-index-code_blocks-r in grind (arith, stored g at, worded g at, cases_eq)

pub returns : goal.returns
returns g c = grind arith
