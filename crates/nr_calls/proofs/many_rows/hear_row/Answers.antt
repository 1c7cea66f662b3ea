use Rattle.std.proofs.Common.{◌∙◌, ap, ◌∷◌, [], map}
use Rattle.std.proofs.lemmas.List.{map-append}
use Rattle.nr_blockdesk.specs.Receiving.{verdict}
use Rattle.nr_calls.specs.inside.Words.{findings_of}
use Rattle.nr_calls.proofs.ManyFacts.{row-filled}
use Rattle.nr_calls.proofs.many_rows.hear_row.Goals as goal

pub returns-clause-added : goal.returns-clause-added
returns-clause-added c =
    let one = c.in_ok-found.field-0 in
    let heard = c.in_ok-found.ensures in
    let added = c.in_ok-add.ensures in
    record {
      found = findings_of one;
      is = heard.said;
      fills = row-filled c.args.txs.now c.args.receiver.now.link one c.requires.sound heard.outcomes heard.left heard.block;
      outcomes = added.outcomes;
      left = added.left;
      last = ap (map verdict) added.last ∙ map-append verdict c.args.many.now.last.items (one.last ∷ []);
    }
