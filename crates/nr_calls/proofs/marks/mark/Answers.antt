use Rattle.nr_calls.proofs.MarkFacts.{octets-heard}
use Rattle.nr_calls.proofs.marks.mark.Goals as goal

pub returns : goal.returns
returns c = octets-heard c.args.octets.now c.push_marks.new.heard.items c.push_marks.new.value.items
    c.push_marks.ensures.heard c.push_marks.ensures.value
