use Rattle.nr_calls.proofs.Common.{◌≡◌, List, subst, lefts, room_of, HeardBits, IsDecided, AreStoresFor, verdict}
use Rattle.nr_calls.proofs.KeptReceiverFacts.{room-is}
use Rattle.nr_calls.proofs.keeping.take_on.Goals as goal

-- `resumed` has received the transmission, and the room, what is left and the verdict are all of the stores it leaves.
pub returns-clause-taken : goal.returns-clause-taken
returns-clause-taken c = λ digest begins.
    let link = c.args.link in
    let after = c.in_ok-receiver.receiver.heard in
    let same = c.in_ok-receiver.ensures.link in
    let kept = rw same at c.in_ok-receiver.ensures.kept in
    record {
      sound = c.is_sound.ensures;
      fit = subst (AreStoresFor link) kept (rw same at c.in_ok-room.ensures.fit);
      room = subst (λ (s : List HeardBits). c.in_ok-room.room.items ≡ room_of digest link s) kept
          (room-is digest link c.args.header.items c.in_ok-room.room.items after c.in_ok-room.ensures.octets begins);
      left = subst (λ (s : List HeardBits). c.in_ok-left.left.items ≡ lefts link s) kept (rw same at c.in_ok-left.ensures);
      decided = subst (λ (s : List HeardBits). IsDecided link s (verdict c.in_ok-receiver.last)) kept
          (rw same at c.in_ok-receiver.ensures.decided);
      settled = rw same at c.in_ok-receiver.ensures.outcome;
    }
