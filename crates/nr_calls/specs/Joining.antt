-- The transport block that the K' bits of its code blocks come to, and which of their CRCs fit (TS 38.212, 5.1, 5.2.2, 6.2.1
-- and 7.2.1), for C.
use Rattle.std.specs.Prelude.{◌≡◌, ℕ, ◌*◌, ◌==◌, nat_lt, Bool, if◌then◌else◌, Result, Ok, List}
use Rattle.std.specs.{Prelude.length, Prelude.map, Prelude.take, List.list_all}
use Rattle.nr_refusal.specs.Refusal.{◌>>=◌}
use Rattle.nr_crcattach.specs.{Attachment.length_poly, Crc.residue, declared.Poly.Poly}
use Rattle.nr_crcattach.specs.declared.Poly.TheVariants.{B24}
use Rattle.nr_segment.specs.{CodeBlock.joined_blocks, Plan.Numbers}
use Rattle.nr_blockdesk.specs.Link.{err_unless}
use Rattle.nr_transmission.specs.declared.fault.DeskFault.TheVariants as desk
use Rattle.nr_calls.specs.{Codeword.is_digit, Codeword.is_one, Crossing.AreBits, Crossing.AreOctets, Crossing.digit}
use Rattle.nr_calls.specs.{Many.first_rows, Plan.planned_said, declared.fault.Fault.Fault}
use Rattle.nr_calls.specs.declared.fault.Fault.TheVariants as fault

-- the K' bits of each code block, from octets that have one each, code block by code block
abbrev pub blocks_in : Numbers → List ℕ → List (List Bool)
blocks_in p octets = map (map is_one) (first_rows p.kdash p.c octets)

-- The polynomial of the CRC at the end of each code block of a transport block of a bits. It is CRC24B, or that of the
-- transport block if this is its only code block.
abbrev pub end_poly : Numbers → ℕ → Poly
end_poly p a = if nat_lt 1 p.c then B24 else length_poly a

-- bits that end with their CRC leave remainder 0
abbrev pub has_crc : Poly → List Bool → Bool
has_crc poly bits = residue poly 0 bits == 0

-- What code blocks come to: the transport block's a bits; whether the CRC of each code block fits, and that of the
-- transport block.
pub record Joined : Type 0 where
  pub block : List Bool
  pub passed : List Bool
  pub block_passed : Bool

abbrev pub joined_of : Numbers → ℕ → List (List Bool) → Joined
joined_of p a blocks = record {
  block = take a (joined_blocks p blocks);
  passed = map (has_crc (end_poly p a)) blocks;
  block_passed = has_crc (length_poly a) (joined_blocks p blocks);
}

-- the plan by which octets that have a bit each are joined, if there is room for what they come to, or the first fault
unfoldable pub joining_said : ℕ → ℕ → List ℕ → ℕ → ℕ → Result Numbers Fault
joining_said rate2048 a octets passed block = do
  p ← planned_said rate2048 a
  whole ← err_unless (fault.Desk desk.Length) (length octets == p.plan.c * p.plan.kdash)
  bits ← err_unless fault.Bit (list_all is_digit octets)
  marks ← err_unless fault.Room (passed == p.plan.c)
  fits ← err_unless fault.Room (8 * block == a)
  Ok p.plan

-- what they come to, or the first fault
abbrev pub joined_said : ℕ → ℕ → List ℕ → ℕ → ℕ → Result Joined Fault
joined_said rate2048 a octets passed block =
    joining_said rate2048 a octets passed block >>= λ p. Ok (joined_of p a (blocks_in p octets))

-- a caller's places: for an octet a code block, for a number, and for the octets of the transport block
pub record JoinPlaces : Type 0 where
  pub passed : List ℕ
  pub block_passed : ℕ
  pub block : List ℕ

abbrev pub join_places : List ℕ → ℕ → List ℕ → JoinPlaces
join_places passed block_passed block = record { passed = passed; block_passed = block_passed; block = block }

-- they have what code blocks come to: 1 where a CRC fits, and the transport block whether it fits or not
pub record AreJoined (j : Joined) (new : JoinPlaces) : Type 0 where
  pub passed : AreBits j.passed new.passed
  pub block_passed : new.block_passed ≡ digit j.block_passed
  pub block : AreOctets j.block new.block
