use Rattle.nr_linkcommands.proofs.Common.{Err, Ok, ap, err-is, refl}
use Rattle.std.proofs.Common.{inr}
use Rattle.nr_commands.specs.declared.fault.RunFault.TheVariants.{Write}
use Rattle.nr_commands.proofs.CommandLemmas.{delivers-refused, delivers-writes, writes-told, writes_said}
use Rattle.nr_linkcommands.specs.FourFiles.{said_over}
use Rattle.nr_linkcommands.specs.Inputs.{LeavesLater, given_by}
use Rattle.nr_linkcommands.proofs.InputLemmas.{said-ready, said-refused, said-unsent, unread-block, by_desk, by_written}
use Rattle.nr_linkcommands.proofs.InputLemmas.{of_block_or_memory, of_four_then}
use Rattle.nr_linkcommands.proofs.ready.over_files.Goals as goal

-- a file is refused: all clauses but the text are those of `read_inputs`, and nothing is put
pub returns-in_err-inputs : goal.returns-in_err-inputs
returns-in_err-inputs g c =
    let e = c.in_err-inputs.field-0.0 in
    rw (err-is c.from_residual.result _ c.from_residual.ensures.1) (record {
      text = of_four_then _ _ _ _ c.in_err-inputs.ensures.said
          (λ files given. delivers-refused {X = Unit {0}} (g.O.Sink.written c.args.out.now) (Err e) e e
          (said_over g.C.Text.text files) refl refl
          (λ is. c.in_err-inputs.ensures.unput (ap Err is)) (said-refused g.C.Text.text files e given));
      table = c.in_err-inputs.ensures.table;
      settings = c.in_err-inputs.ensures.settings;
      blocks = c.in_err-inputs.ensures.blocks;
      schedule = c.in_err-inputs.ensures.schedule;
      later = c.in_err-inputs.ensures.later;
      put = inr ((λ is. c.in_err-inputs.ensures.unput (ap Err is)), refl);
    })

-- a transport block is refused: no file failed, and nothing is put
pub returns-in_err-ready : goal.returns-in_err-ready
returns-in_err-ready g c =
    let e = c.in_err-ready.field-0.0 in
    let given = given_by c.in_ok-inputs.inputs in
    rw (err-is c.from_residual-in_err-ready.result _ c.from_residual-in_err-ready.ensures.1) (record {
      text = of_four_then _ _ _ _ c.in_ok-inputs.ensures.said
          (λ files said. delivers-refused {X = Unit {0}} (g.O.Sink.written c.args.out.now) (Err e) e e
          (said_over g.C.Text.text files) refl refl
          (of_block_or_memory e Write c.in_err-ready.ensures.of_block (λ is. cc) (λ none. none))
          (said-unsent g.C.Text.text files given e said c.in_err-ready.ensures.said));
      table =
          unread-block (Unit {0}) e _ _ _ c.in_err-ready.ensures.of_block (λ is. cc) (λ none. none) c.in_ok-inputs.ensures.table;
      settings = unread-block (Unit {0}) e _ _ _ c.in_err-ready.ensures.of_block (λ is. cc)
          (λ none. none) c.in_ok-inputs.ensures.settings;
      blocks =
          unread-block (Unit {0}) e _ _ _ c.in_err-ready.ensures.of_block (λ is. cc) (λ none. none) c.in_ok-inputs.ensures.blocks;
      schedule = unread-block (Unit {0}) e _ _ _ c.in_err-ready.ensures.of_block (λ is. cc)
          (λ none. none) c.in_ok-inputs.ensures.schedule;
      later =
          by_desk (λ f. LeavesLater f c.args.settings.now c.read_inputs.new.settings c.args.blocks.now c.read_inputs.new.blocks
          c.args.schedule.now c.read_inputs.new.schedule) e c.in_err-ready.ensures.of_block tt (λ n f. tt);
      put = unread-block (Unit {0}) e Write _ _ c.in_err-ready.ensures.of_block (λ is. cc) (λ none. none) refl;
    })

-- what `write` leaves is the text's, and no file failed
pub returns : goal.returns
returns g c =
    let r = c.write.result in
    let given = given_by c.in_ok-inputs.inputs in
    let senders = c.in_ok-ready.ready.senders.items in
    let text = g.C.Text.text senders given.schedule in
    let writes = rw c.in_ok-ready.ensures.schedule at c.write.ensures.text in
    record {
      text = of_four_then _ _ _ _ c.in_ok-inputs.ensures.said
          (λ files said. delivers-writes _ _ r (said_over g.C.Text.text files)
          (writes_said _ _ r text (said_over g.C.Text.text files)
          (said-ready g.C.Text.text files given senders said c.in_ok-ready.ensures.said) writes));
      table = writes-told _ _ r (Ok text) _ _ _ writes (λ is. cc) (λ is. cc) c.in_ok-inputs.ensures.table;
      settings = writes-told _ _ r (Ok text) _ _ _ writes (λ is. cc) (λ is. cc) c.in_ok-inputs.ensures.settings;
      blocks = writes-told _ _ r (Ok text) _ _ _ writes (λ is. cc) (λ is. cc) c.in_ok-inputs.ensures.blocks;
      schedule = writes-told _ _ r (Ok text) _ _ _ writes (λ is. cc) (λ is. cc) c.in_ok-inputs.ensures.schedule;
      later =
          by_written (λ f. LeavesLater f c.args.settings.now _ c.args.blocks.now _ c.args.schedule.now _) r _ _ text writes tt tt;
      put = c.write.ensures.put;
    }
