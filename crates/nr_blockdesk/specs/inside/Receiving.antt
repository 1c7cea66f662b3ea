-- Definitions that only the proofs need, beside those of Receiving.antt.
use Rattle.std.specs.Prelude.{◌≡◌, ℕ, ◌+◌, ◌*◌, ◌/◌, ◌%◌, ◌<◌, ◌≤◌, ◌&&◌, Bool, true, false}
use Rattle.std.specs.Prelude.{not}
use Rattle.std.specs.Prelude.{Option, Some, None, option_map, unwrap_or, List, [], ◌++◌, length, map, take, drop, sum}
use Rattle.std.specs.Prelude.{slice_index}
use Rattle.std.specs.{Prelude.slice_index_or, Prelude.All, Prelude.IsTrue, List.filter_map, List.range_with_len}
use Rattle.nr_crcattach.specs.Attachment.{attached_length}
use Rattle.nr_bitvec.specs.{Bit.bit, BitList.BitList, declared.marks.Marks.Marks}
use Rattle.nr_bitvec.specs.Marks as spec
use Rattle.nr_graphpick.specs.Graph.{cols_of}
use Rattle.nr_harqbuf.specs.Record.{Hearing, HeardBits, HasFirsts, differs, first_at, first_heard, heard_as, is_heard, record_of}
use Rattle.nr_interleave.specs.Interleaving.{seat_of}
use Rattle.nr_ldpcenc.specs.Codeword.{IsPlain}
use Rattle.nr_segment.specs.{Plan.word_size, Plan.Numbers, CodeBlock.share}
use Rattle.nr_peel.specs.Peeling.{AgreesWith, IsPeeled, Peeling, checks_for, known_at}
use Rattle.nr_ratematch.specs.Selection.{Circular, place_of}
use Rattle.nr_blockdesk.specs.{Explains.heard_at, Heard.heard_of, Hearing.heard_bit, Outcome.ExplainedBy, Outcome.given}
use Rattle.nr_blockdesk.specs.{Link.IsBlock, Link.IsLink, Link.Link, Link.word}
use Rattle.nr_blockdesk.specs.inside.PartMasks.{AreEmpty, is_listed}
use Rattle.nr_blockdesk.specs.{Receiving.peelers_of, Receiving.peeling_of, declared.code_block.CodeBlock.CodeBlock}
use Rattle.nr_blockdesk.specs.declared.heard.Heard.{Heard}
use Rattle.nr_transmission.specs.declared.tx.Tx.{Tx}

-- what place m of a code block's part of a transmission tells: the position in the codeword, and the bit received
abbrev pub part_hearing : Circular → Tx → List Heard → ℕ → Option Hearing
part_hearing b tx heard m =
    option_map (λ v. (place_of b tx.rv (seat_of tx.qm (length heard) m), v)) (heard_bit (heard_at heard m))

-- what the first n places tell
abbrev pub part_hearings : Circular → Tx → List Heard → ℕ → List Hearing
part_hearings b tx heard n = filter_map (part_hearing b tx heard) (range_with_len 0 n)

-- the places of code block r among all
abbrev pub piece : List ℕ → List Heard → ℕ → List Heard
piece lengths heard r = take (slice_index lengths r) (drop (sum (take r lengths)) heard)

-- A code block's store and its peeler. What is given to the peeler is what was received, and the fillers. Each plain
-- word with every first bit has the bits that are known.
pub record IsTied (link : Link) (s : HeardBits) (p : Peeling) : Type 0 where
  pub table : p.table ≡ link.table
  pub graph : p.graph ≡ link.graph
  pub numbers : p.numbers ≡ link.plan
  pub long : length s.first ≡ word_size link.graph link.plan
  pub positions : (k : ℕ) → bit p.given k ≡ given link s k
  pub words : (w : ℕ → Bool) → IsPlain link.table link.graph link.plan w → HasFirsts s w → AgreesWith p w
  pub peeled : IsPeeled p

-- from one record of a code block to a later one: marks of the positions received for the first time, and their bits
pub record IsNews (s t : HeardBits) (heard value : List Bool) : Type 0 where
  pub marks : (p : ℕ) → bit heard p ≡ (is_heard (first_at t p) && not (is_heard (first_at s p)))
  pub bits : (p : ℕ) → bit heard p ≡ true → first_at t p ≡ Some (bit value p)
  pub kept : (p : ℕ) (b : Bool) → first_at s p ≡ Some b → first_at t p ≡ Some b
  pub long : length t.first ≡ length s.first

-- masks of n positions have what a later record of a code block has and an earlier one lacked
pub record HasNews (n : ℕ) (s t : HeardBits) (m : Marks) : Type 0 where
  pub marks : length m.heard.items ≡ n
  pub bits : length m.value.items ≡ n
  pub news : IsNews s t m.heard.items m.value.items

-- a code block's store and its peeler have n positions
pub record IsSized {K : Type 0} (n : ℕ) (s : HeardBits) (b : CodeBlock K) : Type 0 where
  pub stored : length s.first ≡ n
  pub peeled : (checks_for b.peeler).size ≡ n

-- the words of code blocks
abbrev pub kept_words : {K : Type 0} → List (CodeBlock K) → List (List Bool)
kept_words {K} blocks = map (λ (b : CodeBlock K). b.word) blocks

-- a store and a peeler of each code block
pub record IsDesk (link : Link) (records : List HeardBits) (peelers : List Peeling) : Type 0 where
  pub stores : length records ≡ link.plan.c
  pub peelings : length peelers ≡ link.plan.c
  pub tied : (r : ℕ) → r < link.plan.c → IsTied link (heard_of records r) (peeling_of link peelers r)

-- a word has every first bit of a record in which no position has both bits
abbrev pub Fits : HeardBits → (ℕ → Bool) → Type 0
Fits s w = (s.clash ≡ false) × HasFirsts s w

-- the word that is kept for code block r
abbrev pub word_at : List (List Bool) → ℕ → List Bool
word_at words r = slice_index_or words r []

-- a word of n bits for each of c code blocks
pub record AreWords (c n : ℕ) (words : List (List Bool)) : Type 0 where
  pub many : length words ≡ c
  pub long : All (λ w. length w ≡ n) words

-- The transport block that a list begins with is the only one that can explain a record, and these are its codewords.
pub record IsCandidate (link : Link) (records : List HeardBits) (list : List Bool) (words : List (List Bool)) : Type 0 where
  pub held : link.a ≤ length list
  pub only : (y : List Bool) → IsBlock link y → ExplainedBy link records y → y ≡ take link.a list
  pub coded : (r : ℕ) → r < link.plan.c → word_at words r ≡ word link (take link.a list) r

-- What a receiver keeps: these, with room for a transport block with its CRC, and a codeword for each code block. It also
-- keeps lists for what a transmission tells one code block.
pub record IsReceiver {K : Type 0} (link : Link) (records : List HeardBits) (blocks : List (CodeBlock K)) (block : BitList)
    (candidate_read : Bool) (part_masks : Marks) : Type 0 where
  pub is_link : IsLink link
  pub desk : IsDesk link records (peelers_of blocks)
  pub room : attached_length link.a ≤ length block.items + block.room
  pub sized : AreWords link.plan.c (word_size link.graph link.plan) (kept_words blocks)
  pub candidate : IsTrue candidate_read → IsCandidate link records block.items (kept_words blocks)
  pub empty : AreEmpty (word_size link.graph link.plan) part_masks

-- Hearings were received into a code block's store: its record is that of the longer list, of as many positions. No
-- word fits that did not fit before.
pub record StoresAll (more : List Hearing) (s t : HeardBits) : Type 0 where
  pub recorded : (hs : List Hearing) → s ≡ record_of (length s.first) hs → t ≡ record_of (length s.first) (hs ++ more)
  pub long : length t.first ≡ length s.first
  pub fewer : (w : ℕ → Bool) → Fits t w → Fits s w

-- Hearings were received of a code block: store and peeler belong together again. No visit of the peeler is forgotten,
-- and the word that is kept is unchanged.
pub record HearsAll {K : Type 0} (more : List Hearing) (s : HeardBits) (p : CodeBlock K) (t : HeardBits)
    (q : CodeBlock K) : Type 0 where
  pub stored : StoresAll more s t
  pub tied : (link : Link) → IsTied link s p.peeler → IsTied link t q.peeler
  pub visited : p.peeler.touches ≤ q.peeler.touches
  pub same : q.word ≡ p.word

-- a code block's part of a transmission was received into its store
abbrev pub StoresPart : Circular → Tx → List Heard → HeardBits → HeardBits → Type 0
StoresPart b tx heard s t = StoresAll (part_hearings b tx heard (length heard)) s t

-- a code block's part of a transmission was received
abbrev pub HearsPart : {K : Type 0} → Circular → Tx → List Heard → HeardBits → CodeBlock K → HeardBits
    → CodeBlock K → Type 0
HearsPart b tx heard s p t q = HearsAll (part_hearings b tx heard (length heard)) s p t q

-- the bit of a position, and zero if it isn't known
abbrev pub known_bit : Peeling → ℕ → Bool
known_bit p k = unwrap_or (known_at p k) false

-- bit i of a list is the bit known of the code block that has it
abbrev pub IsRead : Numbers → List Peeling → List Bool → ℕ → Type 0
IsRead p peelers bits i =
    (d : Peeling) → bit bits i ≡ known_bit (slice_index_or peelers (i / share p) d) (i % share p)

-- The first m places of a part are settled in two lists, of the positions told zero and of those told one: a position that one
-- of these places tells keeps only the bit told first. Of each other one the lists have what all places tell. `both` is a
-- position that all places tell both bits; if there is none, the lists have what all places tell.
pub record AreSettled (b : Circular) (tx : Tx) (heard : List Heard) (m : ℕ) (told : spec.Marks) (both : Option ℕ) : Type 0 where
  pub is : (p : ℕ) (v : Bool) → is_listed told p v ≡ (heard_as (part_hearings b tx heard (length heard)) p v
      && not (differs (first_heard (part_hearings b tx heard m) p) v))
  pub clash : (q : ℕ) → both ≡ Some q
      → (q < length told.at) × ((v : Bool) → heard_as (part_hearings b tx heard (length heard)) q v ≡ true)
  pub none : both ≡ None → (p : ℕ) (v : Bool)
      → is_listed told p v ≡ heard_as (part_hearings b tx heard (length heard)) p v
  pub long : length told.at ≡ cols_of b.graph * b.z
