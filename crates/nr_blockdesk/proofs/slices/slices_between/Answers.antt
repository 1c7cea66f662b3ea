use Rattle.nr_blockdesk.proofs.SliceFacts.{slices_between}
use Rattle.nr_blockdesk.proofs.slices.slices_between.Goals as goal

pub returns : goal.returns
returns c = slices_between c.parts_are_at.ensures c.places_have_one_owner.ensures c.accepted_are_matched.ensures
    c.places_are_sent.ensures c.checks_are_sound.ensures c.closure_continues.ensures c.closure_is_monotone.ensures
