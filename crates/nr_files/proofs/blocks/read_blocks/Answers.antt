use Rattle.nr_files.proofs.Common.{[], Err, ap, ◌∙◌, ◌++◌, ℕ, append-nil, append_assoc, length-append}
use Rattle.nr_files.proofs.Common.{length-take-le, take, inl, inr, refl, arith, err_from_is_err_and, blocks_said}
use Rattle.nr_files.proofs.RefusalFacts.{fails_as-never, gives-memory}
use Rattle.nr_files.proofs.BlockLineFacts.{at_end, at_more, blocks_said-empty, blocks_said-lines, blocks_said-too_long}
use Rattle.std.proofs.KnownBytes.{Consumes-kept, Consumes-nil, Consumes-trans}
use Rattle.nr_streams.proofs.FailureFacts.{broken-counted}
use Rattle.nr_files.proofs.blocks.read_blocks.Goals as goal

pub loop-count-init : goal.loop-count-init
loop-count-init g c = record {
  within = omega arith;
  come = ([], Consumes-nil _, refl, c.new-reader.ensures);
  sound = refl;
  room = grind arith;
}

-- a failed pull
pub returns-in-Err-clause-said : goal.returns-in-Err-clause-said
returns-in-Err-clause-said g c same =
    absurd (omega (arith, same, c.loop-count.invariant.sound, broken-counted ℕ c.in-Err.field-0 _ _ c.in-Err.ensures.broken))

pub returns-in-Err-clause-pulled : goal.returns-in-Err-clause-pulled
returns-in-Err-clause-pulled g c =
    inl (refl, omega (arith, c.loop-count.invariant.sound, broken-counted ℕ c.in-Err.field-0 _ _ c.in-Err.ensures.broken))

-- what came before is within the limit
pub returns-in-Err-clause-first : goal.returns-in-Err-clause-first
returns-in-Err-clause-first g c _ =
    let come = c.loop-count.invariant.come in
    (come.0, Consumes-kept _ _ _ _ come.1 c.in-Err.ensures.octets, omega (arith, c.loop-count.invariant.within, come.2))

pub returns-then-count-length-clause-said : goal.returns-then-count-length-clause-said
returns-then-count-length-clause-said g c same =
    let come = c.loop-count.invariant.come in
    let piece = take c.in-Ok.count c.pull.new.buf in
    let all = Consumes-trans _ _ _ _ _ come.1 c.in-Ok.ensures.octets.0 in
    at_more _ _ _ _ all (λ more. inr (blocks_said-too_long _ (omega (
      arith,
      length-append (come.0 ++ piece) more,
      length-append come.0 piece,
      length-take-le c.in-Ok.count c.pull.new.buf c.in-Ok.ensures.within,
      come.2,
    ))))

pub returns-in_err-push-clause-said : goal.returns-in_err-push-clause-said
returns-in_err-push-clause-said g c same =
    let p = err_from_is_err_and c.from_residual-in_err-push.result c.from_residual-in_err-push.ensures.1 in
    gives-memory (g.B.Source.remaining c.args.source.now) _ _ c.from_residual-in_err-push.result blocks_said (p.1 ∙ ap Err p.2)

-- the octets of one more pull are read as lines
pub loop-count-preserved : goal.loop-count-preserved
loop-count-preserved g c =
    let come = c.loop-count.invariant.come in
    let piece = take c.in-Ok.count c.pull.new.buf in
    record {
      within = omega arith;
      come = (
        come.0 ++ piece,
        Consumes-trans _ _ _ _ _ come.1 c.in-Ok.ensures.octets.0,
        omega (arith, length-append come.0 piece, length-take-le c.in-Ok.count c.pull.new.buf c.in-Ok.ensures.within, come.2),
        λ more. c.in_ok-push.ensures _ more (rw (← append_assoc) at (come.3 (piece ++ more))),
      );
      sound = omega (arith, c.in-Ok.ensures.broken, c.loop-count.invariant.sound);
      room = omega arith;
    }

pub returns-then-length-eq0-clause-said : goal.returns-then-length-eq0-clause-said
returns-then-length-eq0-clause-said g c same =
    let come = c.loop-count.invariant.come in
    at_end _ _ _ _ come.0 _ _ come.1 c.in-Ok.ensures.octets c.if-count-eq0.true (omega arith)
    (inr (blocks_said-empty come.0 (omega (arith, come.2))))

pub returns-clause-said : goal.returns-clause-said
returns-clause-said g c same =
    let come = c.loop-count.invariant.come in
    at_end _ _ _ _ come.0 _ _ come.1 c.in-Ok.ensures.octets c.if-count-eq0.true (omega arith)
    (rw (blocks_said-lines come.0 (omega (arith, come.2)) (omega (arith, come.2)))
    (c.finish.ensures.said _ (rw (append-nil, append-nil) at (come.3 []))))

pub returns-clause-pulled : goal.returns-clause-pulled
returns-clause-pulled g c =
    fails_as-never _ c.finish.result _ _ c.finish.ensures.told (omega (arith, c.in-Ok.ensures.broken, c.loop-count.invariant.sound))
