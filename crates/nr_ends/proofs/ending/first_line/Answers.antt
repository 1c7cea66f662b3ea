use Rattle.std.proofs.Common.{◌≢◌, arith}
use Rattle.std.proofs.lemmas.Grind.{common_steps}
use Rattle.std.proofs.lemmas.List.Elements.{All-from_get_or}
use Rattle.std.proofs.lemmas.Str.Pattern.{split_once_first, split_parts}
use Rattle.nr_ends.proofs.ending.first_line.Goals as goal

pub returns-in-Some-clause-first : goal.returns-in-Some-clause-first
returns-in-Some-clause-first c =
    let cut =
    rw c.in-Some.is at (split_once_first 10 c.args.words.now c.split_once.result c.split_once.ensures.cases (omega arith)) in
    cut.1

pub returns-in-Some-clause-one : goal.returns-in-Some-clause-one
returns-in-Some-clause-one c =
    let cut = rw c.in-Some.is at (split_parts 10 c.args.words.now c.split_once.result c.split_once.ensures.cases (omega arith)) in
    All-from_get_or (λ octet. octet ≢ 10) c.in-Some.line.now 0 cut.1

pub returns-in-None-clause-first : goal.returns-in-None-clause-first
returns-in-None-clause-first c =
    let whole =
    rw c.in-None.is at (split_once_first 10 c.args.words.now c.split_once.result c.split_once.ensures.cases (omega arith)) in
    rw whole (grind (arith, common_steps))

pub returns-in-None-clause-one : goal.returns-in-None-clause-one
returns-in-None-clause-one c =
    let whole = rw c.in-None.is at (split_parts 10 c.args.words.now c.split_once.result c.split_once.ensures.cases (omega arith)) in
    All-from_get_or (λ octet. octet ≢ 10) c.args.words.now 0 whole
