use Rattle.nr_blockdesk.proofs.SliceFacts.{slices_follow}
use Rattle.nr_blockdesk.proofs.slices.slices_follow.Goals as goal

pub returns : goal.returns
returns c = slices_follow c.parts_are_at.ensures c.places_have_one_owner.ensures c.accepted_are_matched.ensures
    c.places_are_sent.ensures c.checks_are_sound.ensures c.closure_continues.ensures
