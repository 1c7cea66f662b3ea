-- Definitions that only the proofs need.
use Rattle.std.specs.Prelude.{Bool, true, false, if◌then◌else◌, Option, Some, None, List, map, ℕ, ◌+◌, ◌*◌}
use Rattle.std.specs.Prelude.{◌≤◌, ◌==◌, ◌&&◌, length, replicate, ◌≡◌}
use Rattle.std.specs.{Bool.beq, List.range_with_len}
use Rattle.nr_bitvec.specs.Marks.{marks_with}
use Rattle.nr_graphpick.specs.Graph.{cols_of}
use Rattle.nr_harqbuf.specs.Marks.{says}
use Rattle.nr_ratematch.specs.Selection.{Circular, place_of}
use Rattle.nr_blockdesk.specs.{Link.IsBlock, Link.IsLink, Link.Link, Link.word, Marks.heards_from, Sent.carried}
use Rattle.nr_blockdesk.specs.declared.{heard.Heard.Heard, part.Part.Part, selected.Selected.Selected}

-- what is received is this bit
abbrev pub tells : Option Bool → Bool → Bool
tells None v = false
tells (Some a) v = beq a v

-- the codewords of a transport block
abbrev pub words_of : Link → List Bool → List (List Bool)
words_of link block = map (word link block) (range_with_len 0 link.plan.c)

-- the places of a code block
abbrev pub heards_of : Part → List Heard
heards_of part = heards_from part.arrival.now.marks.now.heard.items part.arrival.now.marks.now.value.items part.from part.count

-- how many positions the codeword of a code block has
abbrev pub positions_on : Circular → ℕ
positions_on b = cols_of b.graph * b.z

-- selected bit k of a code block was received, has this bit, and is at this position of its codeword
abbrev pub bit_says : Circular → ℕ → List Bool → List Bool → ℕ → Bool → ℕ → Bool
bit_says b rv marks bits p v k = (place_of b rv k == p) && says (marks_with marks bits) k v

-- marks of the selected bits that were received: of all, if every one was
abbrev pub received_marks : Selected → List Bool
received_marks selected = if selected.whole then replicate (length selected.value.items) true else selected.heard.items

-- selected bit k of a code block was received and has this bit
abbrev pub selected_says : Selected → ℕ → Bool → Bool
selected_says selected k v = says (marks_with (received_marks selected) selected.value.items) k v

-- lists that have room for n bits
pub record HasRoomFor (n : ℕ) (selected : Selected) : Type 0 where
  pub marks : n ≤ length selected.heard.items + selected.heard.room
  pub bits : n ≤ length selected.value.items + selected.value.room

-- what a sender keeps: the codewords, and the transport block that they carry
pub record IsSender (link : Link) (words : List (List Bool)) : Type 0 where
  pub is_link : IsLink link
  pub whole : IsBlock link (carried link words)
  pub encoded : words ≡ words_of link (carried link words)

-- the codewords of every transport block carry it
abbrev pub BlocksAreCarried : Type 0
BlocksAreCarried = (link : Link) (block : List Bool) → IsLink link → IsBlock link block
    → carried link (words_of link block) ≡ block
