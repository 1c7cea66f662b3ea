use Rattle.nr_calls.proofs.Common.{◌∙◌, ap, sym, length}
use Rattle.nr_calls.proofs.simulating.nr_simulate.Goals as goal

pub copy_from_slice-requires : goal.copy_from_slice-requires
copy_from_slice-requires c = sym c.in-Ok.ensures.room.0 ∙ ap length (sym c.deref.ensures.value)

pub copy_from_slice-requires-in-Ok : goal.copy_from_slice-requires-in-Ok
copy_from_slice-requires-in-Ok c = sym c.in-Ok.ensures.room.1.0 ∙ ap length (sym c.deref-in-Ok.ensures.value)

pub copy_from_slice-requires-in-Ok-2 : goal.copy_from_slice-requires-in-Ok-2
copy_from_slice-requires-in-Ok-2 c = sym c.in-Ok.ensures.room.1.1 ∙ ap length (sym c.deref-in-Ok-2.ensures.value)
