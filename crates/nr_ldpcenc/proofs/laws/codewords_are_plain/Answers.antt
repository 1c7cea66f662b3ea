use Rattle.nr_ldpcenc.proofs.Common.{length, entries_in}
use Rattle.nr_ldpcenc.proofs.CodewordFacts.{set_below, has_some, codeword_is}
use Rattle.nr_ldpcenc.proofs.laws.codewords_are_plain.Goals as goal

pub returns : goal.returns
returns c = λ t g b p info table has planned whole.
    let sound = c.plans_are_sound.ensures g b p planned in
    let some = has_some (length (entries_in g t)) has in
    let set = set_below p.z p.set sound.set_is in
    codeword_is t g b p (table.shape g p.set some set) sound info whole
