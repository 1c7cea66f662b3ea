use Rattle.nr_linkcommands.proofs.Common.{IfOk-weaker, ap, arith, bit, erased_of, length, not, ◌*◌, ◌+◌, ◌<◌, ◌∙◌}
use Rattle.nr_linkcommands.proofs.ReceptionFacts.{erased-long, none-erased, not-marked, turned-all, turned-more}
use Rattle.nr_files.specs.declared.erasure.Erasure.TheVariants as erasure
use Rattle.nr_linkcommands.proofs.channel.unerased.Goals as goal

pub returns-in-Nothing : goal.returns-in-Nothing
returns-in-Nothing c =
    IfOk-weaker c.named.result _ _
    (λ marks is. is ∙ none-erased c.args.erasure.now c.args.count (c.in-Named.is ∙ ap erasure.Named c.in-Nothing.is))
    c.named.ensures

pub loop-i-init : goal.loop-i-init
loop-i-init c = record {
  long = ap length c.in_ok-marks.ensures ∙ erased-long c.args.erasure.now c.args.count;
  so_far = λ m below. absurd (omega (arith, below));
  behind = λ m past. ap (λ l. bit l m) c.in_ok-marks.ensures;
}

-- one more word is negated, and the others are unchanged
pub loop-i-preserved : goal.loop-i-preserved
loop-i-preserved c =
    let inv = c.loop-i.invariant in
    let erased = erased_of c.args.erasure.now c.args.count in
    let n = 64 * c.loop-i.i in
    turned-more (bit erased) (λ m. not (bit erased m)) c.args.count c.loop-i.i c.min-wide.result _ c.loop-i.marks.items
    c.put.new.self.items
    (c.min-wide.ensures) c.put.ensures.within c.put.ensures.before c.put.ensures.after c.put.ensures.long
    (λ t below.
    let short : t < 64 = omega (arith, below, c.min-wide.ensures) in
    not-marked erased n c.window-heard.result t (omega arith) short (c.window-heard.ensures t short
    ∙ inv.behind (n + t) (omega arith)))
    inv

pub returns : goal.returns
returns c =
    turned-all (bit (erased_of c.args.erasure.now c.args.count))
    (λ m. not (bit (erased_of c.args.erasure.now c.args.count) m)) c.args.count c.loop-i.i c.loop-i.marks.items
    (omega (arith, c.loop-i-test.false, c.div_ceil-i-end.ensures)) c.loop-i.invariant
