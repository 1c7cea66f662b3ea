use Rattle.nr_blockdesk.proofs.Common.{◌≡◌, ℕ, ◌+◌, ◌-◌, ◌<◌, ap, ◌∙◌, arith, Circular, place_of}
use Rattle.nr_blockdesk.specs.{inside.Cursors.IsCursor, declared.place_cursors.RowCursor.RowCursor}
use Rattle.nr_blockdesk.proofs.place_cursors.RowCursor.step.Goals.{then-self-eq0, else-self-eq0}
use Rattle.nr_blockdesk.proofs.place_cursors.RowCursor.step.Goals as goal

-- if bits of a run are left, the row goes on with the next of them
one-further : (b : Circular) (rv k : ℕ) (c : RowCursor) → 0 < c.left → IsCursor b rv k c
    → IsCursor b rv (k + 1) (record { position = c.position + 1; left = c.left - 1 })
one-further b rv k c some is = record {
  run = λ j below.
      let at : k + 1 + j ≡ k + (j + 1) = omega arith in
      ap (place_of b rv) at ∙ is.run (j + 1) (omega (arith, below)) ∙ omega arith;
  inside = let inside = is.inside in omega arith;
}

pub overflow_add-self : goal.overflow_add-self
overflow_add-self c = elim c.if-self-eq0.branch [ then-self-eq0 w ↦ grind arith | else-self-eq0 w ↦ grind arith ]

pub returns-clause-cursor : goal.returns-clause-cursor
returns-clause-cursor c = elim c.if-self-eq0.branch [
  | then-self-eq0 w ↦ one-further c.args.buffer.now c.args.rv c.args.k c.if-self-eq0.self (grind arith)
      (rw w.self-is (record { run = w.run-position.ensures.places; inside = w.run-position.ensures.inside }))
  | else-self-eq0 w ↦
      one-further c.args.buffer.now c.args.rv c.args.k c.if-self-eq0.self (grind arith) (rw w.self-is c.requires.cursor)
]
