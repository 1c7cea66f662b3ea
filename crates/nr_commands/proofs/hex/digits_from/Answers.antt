use Rattle.nr_commands.proofs.{Common.◌∙◌, HexFacts.words-digits}
use Rattle.nr_commands.proofs.hex.digits_from.Goals as goal

pub returns : goal.returns
returns c = c.digits_of_sixteen.ensures
    ∙ words-digits c.window.result c.window-2.result c.args.at c.args.bits.now.items c.window.type_inv c.window.ensures
    c.window-2.ensures
