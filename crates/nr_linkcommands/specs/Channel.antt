-- What the receiver of a run gets. It gets nothing at an erased place, the other bit at a flipped place, and otherwise
-- the bit sent.
use Rattle.std.specs.{Prelude.ℕ, Prelude.Bool, Prelude.List, Prelude.length, Prelude.map, List.range_with_len}
use Rattle.nr_bitvec.specs.Bit.{◌⊕◌, bit}
use Rattle.nr_blockdesk.specs.{ReceiverLaws.arrived_bit, declared.heard.Heard.Heard}
use Rattle.nr_files.specs.{Erasures.erased_of, Erasures.is_named, declared.schedule.Transmission.Transmission}

-- what is received at place m, with the marks of the erased places
abbrev pub arrives_at : Transmission → List Bool → List Bool → ℕ → Heard
arrives_at x erased bits m = arrived_bit (bit erased m) (is_named x.flip m ⊕ bit bits m)

-- what is received of the bits of a transmission, place by place
unfoldable pub heard_through : Transmission → List Bool → List Heard
heard_through x bits =
    map (arrives_at x (erased_of x.erasure (length bits)) bits) (range_with_len 0 (length bits))
