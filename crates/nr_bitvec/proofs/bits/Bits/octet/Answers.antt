use Rattle.nr_bitvec.proofs.OctetListFacts.{octet-window}
use Rattle.nr_bitvec.proofs.bits.Bits.octet.Goals as goal

pub returns : goal.returns
returns c = octet-window c.window.result c.turned.result c.args.at c.args.self.now.items c.window.ensures c.turned.ensures
