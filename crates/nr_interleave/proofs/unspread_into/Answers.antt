use Rattle.nr_interleave.proofs.Common.{◌≡◌, ℕ, ◌+◌, ◌%◌, ◌<◌, ◌≤◌, ◌++◌, List, Bool, length, take}
use Rattle.nr_interleave.proofs.Common.{drop, sym, ap, ◌∙◌, arith, take_all, interleaving_of, row_by_row}
use Rattle.nr_interleave.proofs.{OctetFacts.of-2, OctetFacts.of-4, OctetFacts.of-6, OctetFacts.of-8, SpreadFacts.one-row}
use Rattle.nr_interleave.proofs.UnspreadFacts.{rows-many, rows-unspread}
use Rattle.nr_interleave.proofs.unspread_into.Goals as goal

pub by_rows-requires-clause-octets : goal.by_rows-requires-clause-octets
by_rows-requires-clause-octets c = of-2

pub by_rows-requires-in-4-clause-octets : goal.by_rows-requires-in-4-clause-octets
by_rows-requires-in-4-clause-octets c = of-4

pub by_rows-requires-in-6-clause-octets : goal.by_rows-requires-in-6-clause-octets
by_rows-requires-in-6-clause-octets c = of-6

pub by_rows-requires-in-8-clause-octets : goal.by_rows-requires-in-8-clause-octets
by_rows-requires-in-8-clause-octets c = of-8

-- the rows of the matrix are what was interleaved
rows : (qm from count order : ℕ) (bits new : List Bool) → 0 < qm → count % qm ≡ 0 → from + count ≤ length bits
    → order ≡ qm
    → new ≡ row_by_row order bits from count → interleaving_of qm new ≡ take count (drop from bits)
rows qm from count order bits new some whole inside same is = grind (arith, rows-unspread)

pub returns-in-1-clause-items : goal.returns-in-1-clause-items
returns-in-1-clause-items c =
    let bits = c.args.bits.now.items in
    let new = c.extend_range.new.self.items in
    let one : c.args.qm ≡ 1 = c.in-1.is in
    ap (λ qm. interleaving_of qm new) one ∙ sym (one-row new) ∙ take_all (length new) new (omega arith)
    ∙ c.extend_range.ensures.items ∙ ap (λ xs. xs ++ take c.args.count (drop c.args.from bits)) c.clear.ensures.items

pub returns-in-2-clause-items : goal.returns-in-2-clause-items
returns-in-2-clause-items c = grind (arith, rows)

pub returns-in-4-clause-items : goal.returns-in-4-clause-items
returns-in-4-clause-items c = grind (arith, rows)

pub returns-in-6-clause-items : goal.returns-in-6-clause-items
returns-in-6-clause-items c = grind (arith, rows)

pub returns-in-8-clause-items : goal.returns-in-8-clause-items
returns-in-8-clause-items c = grind (arith, rows)

pub returns-in_default-clause-items : goal.returns-in_default-clause-items
returns-in_default-clause-items c = grind (arith, rows-unspread)

pub returns-in_default-clause-room : goal.returns-in_default-clause-room
returns-in_default-clause-room c = grind (arith, rows-many)
