use Rattle.nr_files.proofs.Common.{arith, All-append, err_from_is_err_and}
use Rattle.nr_files.proofs.BlockLineFacts.{end_free, line_ends, rest_free}
use Rattle.nr_files.proofs.blocks.reader.BlockReader.read_lines.Goals as goal

pub end_line-requires : goal.end_line-requires
end_line-requires c = end_free _ _ c.in-Some.ensures.0

pub returns-in_err-end_line-clause-said : goal.returns-in_err-end_line-clause-said
returns-in_err-end_line-clause-said c more =
    let p = err_from_is_err_and c.from_residual.result c.from_residual.ensures.1 in
    rw (
      p.1,
      p.2,
      c.loop-end.invariant.same more,
      line_ends c.loop-end.self.line.items c.loop-end.rest.now more c.in-Some.end c.loop-end.self.begun c.in-Some.ensures,
    ) (c.in_err-end_line.ensures.said _)

pub loop-end-preserved : goal.loop-end-preserved
loop-end-preserved c = record {
  within = omega (arith, c.in-Some.ensures.0.high, c.loop-end.invariant.within);
  same = λ more.
      rw (
        c.loop-end.invariant.same more,
        line_ends c.loop-end.self.line.items c.loop-end.rest.now more c.in-Some.end c.loop-end.self.begun c.in-Some.ensures,
      ) (rw c.in_ok-end_line.ensures.begun (c.in_ok-end_line.ensures.said _));
}

pub invariant_of-self : goal.invariant_of-self
invariant_of-self c = record {
  few = c.loop-end.self.few;
  sizes = c.loop-end.self.sizes;
  begun = grind (arith, All-append, rest_free);
  told = c.loop-end.self.told;
  of_a_line = c.loop-end.self.of_a_line;
}
