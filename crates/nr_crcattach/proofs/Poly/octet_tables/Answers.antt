-- Each table holds the remainders of the octets.
use Rattle.nr_crcattach.proofs.Common.{ap, sym, ◌∙◌, octet_tables}
use Rattle.nr_crcattach.proofs.OctetTableFacts.{a24-residues, b24-residues, c16-residues}
use Rattle.nr_crcattach.proofs.Poly.octet_tables.Goals as goal

pub returns-in-A24 : goal.returns-in-A24
returns-in-A24 c = a24-residues ∙ ap octet_tables (sym c.in-A24.is)

pub returns-in-B24 : goal.returns-in-B24
returns-in-B24 c = b24-residues ∙ ap octet_tables (sym c.in-B24.is)

pub returns-in-C16 : goal.returns-in-C16
returns-in-C16 c = c16-residues ∙ ap octet_tables (sym c.in-C16.is)
