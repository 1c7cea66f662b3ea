use Rattle.nr_linkcommands.proofs.Common.{Ok, ap, arith, err-is, length, map, refl, sym, ◌∙◌, ◌≡◌}
use Rattle.std.proofs.lemmas.List.{length-map}
use Rattle.nr_files.specs.Schedule.{timetable_by}
use Rattle.nr_linkcommands.specs.{FourFiles.pulls, Inputs.files_said, Inputs.given_by}
use Rattle.nr_linkcommands.proofs.InputLemmas.{by_blocks, by_schedule, by_settings, by_table, refused-blocks, refused-schedule}
use Rattle.nr_linkcommands.proofs.InputLemmas.{refused-settings, refused-table, says, says-table}
use Rattle.nr_linkcommands.proofs.inputs.reading.read_inputs.Given as given
use Rattle.nr_linkcommands.proofs.inputs.reading.read_inputs.Goals as goal
use Rattle.nr_linkcommands.proofs.inputs.reading.read_inputs.Goals.{After-deref}

-- a schedule is read for the number of blocks that there are
many : (g : given.Over) (c : After-deref g)
    → length c.deref.result.now ≡ length (map (λ block. block.items) c.in_ok-blocks.blocks.items)
many g c = ap length c.deref.ensures.value ∙ sym (length-map c.in_ok-blocks.blocks.items (λ block. block.items))

pub returns-in_err-table-clause-said : goal.returns-in_err-table-clause-said
returns-in_err-table-clause-said g c =
    let t = pulls g.T.Source c.args.table.now c.read.new.source in
    let s = pulls g.S.Source c.args.settings.now c.args.settings.now in
    let b = pulls g.B.Source c.args.blocks.now c.args.blocks.now in
    let d = pulls g.D.Source c.args.schedule.now c.args.schedule.now in
    rw (err-is c.from_residual.result _ c.from_residual.ensures.1) (refused-table given_by t s b d c.in_err-table.field-0.0
    c.in_err-table.ensures.pulled c.in_err-table.ensures.said refl refl refl)

pub returns-in_err-settings-clause-said : goal.returns-in_err-settings-clause-said
returns-in_err-settings-clause-said g c =
    let t = pulls g.T.Source c.args.table.now c.read.new.source in
    let s = pulls g.S.Source c.args.settings.now c.read_settings.new.source in
    let b = pulls g.B.Source c.args.blocks.now c.args.blocks.now in
    let d = pulls g.D.Source c.args.schedule.now c.args.schedule.now in
    rw (err-is c.from_residual-in_err-settings.result _ c.from_residual-in_err-settings.ensures.1)
    (refused-settings given_by t s b d c.in_ok-table.table c.in_err-settings.field-0.0
    (says-table t _ c.in_ok-table.table c.in_ok-table.ensures.pulled (λ read. cc) c.in_ok-table.ensures.said)
    c.in_err-settings.ensures.pulled c.in_err-settings.ensures.said refl refl)

pub returns-in_err-blocks-clause-said : goal.returns-in_err-blocks-clause-said
returns-in_err-blocks-clause-said g c =
    let t = pulls g.T.Source c.args.table.now c.read.new.source in
    let s = pulls g.S.Source c.args.settings.now c.read_settings.new.source in
    let b = pulls g.B.Source c.args.blocks.now c.read_blocks.new.source in
    let d = pulls g.D.Source c.args.schedule.now c.args.schedule.now in
    let told = c.in_ok-settings.ensures in
    rw (err-is c.from_residual-in_err-blocks.result _ c.from_residual-in_err-blocks.ensures.1)
    (refused-blocks given_by t s b d c.in_ok-table.table c.in_ok-settings.settings c.in_err-blocks.field-0.0
    (says-table t _ c.in_ok-table.table c.in_ok-table.ensures.pulled (λ read. cc) c.in_ok-table.ensures.said)
    (says s _ _ _ told.pulled (told.said told.pulled))
    c.in_err-blocks.ensures.pulled c.in_err-blocks.ensures.said refl)

pub returns-in_err-schedule-clause-said : goal.returns-in_err-schedule-clause-said
returns-in_err-schedule-clause-said g c =
    let t = pulls g.T.Source c.args.table.now c.read.new.source in
    let s = pulls g.S.Source c.args.settings.now c.read_settings.new.source in
    let b = pulls g.B.Source c.args.blocks.now c.read_blocks.new.source in
    let d = pulls g.D.Source c.args.schedule.now c.schedule_for.new.schedule in
    let second = c.in_ok-settings.ensures in
    let third = c.in_ok-blocks.ensures in
    let schedule = rw (many g (goal.at.returns-in_err-schedule-clause-said g c).After-deref) at c.in_err-schedule.ensures.said in
    rw (err-is c.from_residual-in_err-schedule.result _ c.from_residual-in_err-schedule.ensures.1)
    (refused-schedule given_by t s b d c.in_ok-table.table c.in_ok-settings.settings
    (map (λ block. block.items) c.in_ok-blocks.blocks.items) c.in_err-schedule.field-0.0
    (says-table t _ c.in_ok-table.table c.in_ok-table.ensures.pulled (λ read. cc) c.in_ok-table.ensures.said)
    (says s _ _ _ second.pulled (second.said second.pulled)) (says b _ _ _ third.pulled (third.said third.pulled))
    c.in_err-schedule.ensures.pulled schedule)

-- the four files say what was read from each
pub returns-clause-said : goal.returns-clause-said
unfolding files_said
returns-clause-said g c =
    let t = pulls g.T.Source c.args.table.now c.read.new.source in
    let s = pulls g.S.Source c.args.settings.now c.read_settings.new.source in
    let b = pulls g.B.Source c.args.blocks.now c.read_blocks.new.source in
    let d = pulls g.D.Source c.args.schedule.now c.schedule_for.new.schedule in
    let second = c.in_ok-settings.ensures in
    let third = c.in_ok-blocks.ensures in
    let schedule = rw (many g (goal.at.returns-clause-said g c).After-deref) at c.in_ok-schedule.ensures.said in (
      record {
        table = Ok c.in_ok-table.table;
        settings = Ok c.in_ok-settings.settings;
        blocks = Ok (map (λ block. block.items) c.in_ok-blocks.blocks.items);
        schedule = Ok (timetable_by c.in_ok-schedule.schedule);
      },
      record {
        table = says-table t _ c.in_ok-table.table c.in_ok-table.ensures.pulled (λ read. cc) c.in_ok-table.ensures.said;
        settings = says s _ _ _ second.pulled (second.said second.pulled);
        blocks = says b _ _ _ third.pulled (third.said third.pulled);
        schedule = says d _ _ _ c.in_ok-schedule.ensures.pulled (schedule c.in_ok-schedule.ensures.pulled);
      },
      refl,
    )

pub returns-in_err-table-clause-later : goal.returns-in_err-table-clause-later
returns-in_err-table-clause-later g c = grind (arith, by_table)

pub returns-in_err-settings-clause-later : goal.returns-in_err-settings-clause-later
returns-in_err-settings-clause-later g c = grind (arith, by_settings)

pub returns-in_err-blocks-clause-later : goal.returns-in_err-blocks-clause-later
returns-in_err-blocks-clause-later g c = grind (arith, by_blocks)

pub returns-in_err-schedule-clause-later : goal.returns-in_err-schedule-clause-later
returns-in_err-schedule-clause-later g c = grind (arith, by_schedule)
