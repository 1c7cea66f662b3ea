use Rattle.nr_linkcommands.proofs.Common.{List, Totals, [], ap, append_assoc, last_line, ℕ, ◌++◌, ◌∷◌, ◌≡◌, codes}
use Rattle.nr_linkcommands.proofs.Common.{decimal}
use Rattle.nr_linkcommands.proofs.run_command.lines.last_line.Goals as goal

-- two parts of a line, each of several parts
two_parts : (n a x b y c z d p e q f r g : List ℕ)
    → (n ++ (a ++ (x ++ (b ++ (y ++ (c ++ z)))))) ++ (d ++ (p ++ (e ++ (q ++ (f ++ (r ++ g)))))) ≡ n ++ a ++ x ++ b ++ y ++ c
    ++ z ++ d ++ p ++ e ++ q ++ f ++ r ++ g
two_parts n a x b y c z d p e q f r g = simp append_assoc

pub returns : goal.returns
unfolding last_line
returns c =
    let t : Totals = c.args.totals.now in
    rw (c.into_bytes.ensures.value, c.in_ok-writeln.ensures.bytes, c.in_ok-write.ensures.bytes, c.new-line.ensures.bytes)
    (ap (λ ys. codes "total " ++ ys)
    (two_parts c.args.name.now (codes " ") (decimal t.blocks) (codes " delivered ") (decimal t.delivered) (codes " open ")
    (decimal t.open_still)
    (codes " contradiction ") (decimal t.contradiction) (codes " codeblocks ") (decimal t.code_blocks) (codes " failed ")
    (decimal t.failed) (10 ∷ [])))
