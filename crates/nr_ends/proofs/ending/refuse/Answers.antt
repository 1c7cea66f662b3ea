use Rattle.std.proofs.Common.{rules, ◌≡◌, ◌≢◌, codes, refl}
use Rattle.std.proofs.lemmas.Bool.{eqb-false}
use Rattle.std.proofs.lemmas.List.Elements.{All-from_recursion}
use Rattle.std.specs.String.{string_bytes}
use Rattle.nr_ends.specs.Ending.{IsOnOneLine, IsRefusalLine}
use Rattle.nr_streams.specs.Sink.{with_text}
use Rattle.nr_ends.proofs.ending.refuse.Goals as goal
use Rattle.nr_ends.proofs.ending.refuse.Goals.{in-Ok, in-Err}

-- the line that needs no memory is one line
memory_line : IsOnOneLine (codes "memory")
memory_line =
    All-from_recursion (λ octet. octet ≢ 10) (codes "memory") (
      eqb-false 109 10 refl,
      (
        eqb-false 101 10 refl,
        (eqb-false 109 10 refl, (eqb-false 111 10 refl, (eqb-false 114 10 refl, (eqb-false 121 10 refl, tt)))),
      ),
    )

-- the line is made, or it is the one that says that memory ran out
pub returns-clause-line : goal.returns-clause-line
returns-clause-line g c = λ same.
    let line : IsRefusalLine c.match-line.said.now = elim c.match-line.branch [
      | in-Ok w ↦
          let made : IsRefusalLine (string_bytes w.in-Ok.line) = search rules in
          rw (w.said-is, w.as_str-said.ensures.value) made
      | in-Err w ↦ (codes "memory", memory_line, search rules)
    ] in
    let written : g.E.Sink.written c.put_all.new.sink
    ≡ with_text (g.E.Sink.written c.args.errors.now) c.match-line.said.now = search rules in
    (c.match-line.said.now, line, written)
