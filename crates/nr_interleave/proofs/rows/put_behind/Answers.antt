use Rattle.nr_interleave.proofs.Common.{◌≡◌, ◌+◌, ◌-◌, ◌*◌, ◌/◌, ◌%◌, ◌<◌, ◌==◌, ap, ◌∙◌}
use Rattle.nr_interleave.proofs.Common.{sym, arith, bit}
use Rattle.nr_interleave.proofs.PendingFacts.{pending-first, word-left, word-left-none, word-then}
use Rattle.nr_interleave.proofs.rows.put_behind.Goals as goal

-- The word of the list with bit `at` takes what is pending and then the first bits of `word`, and the others wait.
pub returns-clause-put : goal.returns-clause-put
returns-clause-put c =
    let at = c.args.at in
    let new = c.put.new.self.items in
    let start : at - at % 64 ≡ 64 * (at / 64) = omega arith in
    let turn : at % 64 < 64 = omega arith in
    record {
      first = λ t below.
          ap (λ n. bit new (n + t)) (sym start) ∙ c.put.ensures.within t (omega (arith, below))
          ∙ ap (λ b. b == 1) (pending-first c.args.pending c.args.word (at % 64) t turn below);
      then = λ none t inside.
          let here : at + t ≡ at - at % 64 + (at % 64 + t) = omega arith in
          ap (bit new) here ∙ c.put.ensures.within (at % 64 + t) inside
          ∙ ap (λ b. b == 1) (word-then c.args.pending c.args.word (at % 64) t inside (none (at % 64 + t) (omega arith)));
      before = λ t below. c.put.ensures.before t (omega (arith, below));
      after = λ t past. c.put.ensures.after t (omega (arith, past));
      waits = λ j below. word-left c.args.word (at % 64) j turn;
      none = λ j past. word-left-none c.args.word (at % 64) j c.ranges.word.fits turn past;
    }
