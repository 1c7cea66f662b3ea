-- The bits sent, code block by code block, which bit is at each of their places, and what is said about a transmission.
use Rattle.nr_blockdesk.proofs.Common.{◌≡◌, ◌∙◌, ◌≤◌, PartsAreAt, SentIsLong, block_sent, block_poly, high_first}
use Rattle.nr_blockdesk.proofs.Common.{ℕ, nat_le, Bool, Result, IsOk, length, rules, false, get_or, share, IsLink, crc_of, degree}
use Rattle.nr_blockdesk.proofs.Common.{◌*◌, ◌++◌, flat_map, nat_tests, code_bits, matching, DeskFault, place_of, attached}
use Rattle.nr_blockdesk.proofs.Common.{◌%◌, ◌<◌, Ok, ◌+◌, cols_of, IsBlock, carried, sent_of, tx_said, bind-ok, seat_of}
use Rattle.nr_blockdesk.proofs.Common.{get_or as slice_index_or, get_or-map-range_with_len, length-map-range_with_len, lengths_said}
use Rattle.nr_blockdesk.proofs.Common.{subst, length-range_with_len, get_or-range_with_len, AcceptedAreMatched, length-selection_of}
use Rattle.nr_blockdesk.proofs.Common.{arith, is_scheduled, code_bits_of, RateMatching, SentBitsAreAt, PlacesAreSent, with_fault-ok}
use Rattle.nr_blockdesk.proofs.Common.{slice_index, fill_by_all, matching_of, tx_said_of, position_at, selection_of, get_or-take}
use Rattle.nr_blockdesk.proofs.Common.{CodeBlocksAreLong, AcceptedSendAll, range_with_len-add, take-append_seam, PlacesHaveOneOwner}
use Rattle.nr_blockdesk.proofs.Common.{JoinUndoesCut, all_code_bits, joined_blocks, PlansAreSound, WordsArePlain, BlocksLengthen}
use Rattle.nr_blockdesk.proofs.Common.{err_unless, range_with_len, length-take-le, sum_by_more_le, attached_length, interleaving_of}
use Rattle.nr_blockdesk.proofs.Common.{Err, List, [], sum, All, refl, sym, ap, suc, zero, take, Link, word, sent, Tx, bit}
use Rattle.nr_blockdesk.specs.inside.Words.{BlocksAreCarried, IsSender, words_of}
use Rattle.nr_blockdesk.specs.Sent.{lengths_or_none, sent_said}
use Rattle.nr_blockdesk.proofs.EncodingFacts.{begins-with, k-fits}
use Rattle.nr_blockdesk.proofs.LinkFacts.{demanded-ok, link-circular, never-bind, never-demanded, never-with_fault}
use Rattle.std.proofs.lemmas.{List.FromFn.take-map-range_with_len, List.flat_map_more, List.map-id, List.take_all}
use Rattle.std.proofs.lemmas.List.{Concat.get_or-flat_map, Concat.length-flat_map, Folds.flat_map-map, Sums.sum-map}
use Rattle.nr_ratematch.{specs.Lengths.IsShared, specs.Lengths.LengthsAreShared, proofs.RunFacts.bit-selection_of}
use Rattle.nr_cbconcat.specs.Concatenation.{owner_of}
use Rattle.nr_interleave.specs.Interleaving.{SeatsAreSeating}
use Rattle.nr_transmission.specs.declared.fault.DeskFault.TheVariants as fault

pub length-interleaved : (qm : ℕ) (bits : List Bool) → length (interleaving_of qm bits) ≡ length bits
unfolding interleaving_of
length-interleaved qm bits = length-map-range_with_len (λ m. bit bits (seat_of qm (length bits) m)) 0 (length bits)

pub bit-interleaved : (qm : ℕ) (bits : List Bool) (p : ℕ) → p < length bits
    → bit (interleaving_of qm bits) p ≡ bit bits (seat_of qm (length bits) p)
unfolding interleaving_of
bit-interleaved qm bits p inside = grind (arith, get_or-map-range_with_len)

pub length-block_sent : (t : RateMatching) (word : List Bool) (e : ℕ) → length (block_sent t word e) ≡ e
length-block_sent t word e =
    length-interleaved t.qm (selection_of t.buffer word t.rv e) ∙ length-selection_of t.buffer word t.rv e

bit-block_sent : (t : RateMatching) (word : List Bool) (e p : ℕ) → p < e → seat_of t.qm e p < e
    → bit (block_sent t word e) p ≡ bit word (place_of t.buffer t.rv (seat_of t.qm e p))
bit-block_sent t word e p inside seat = grind (arith, length-selection_of, bit-interleaved, bit-selection_of)

length-pieces : (f : ℕ → List Bool) (lengths : List ℕ) (n : ℕ) → ((r : ℕ) → length (f r) ≡ slice_index lengths r)
    → n ≤ length lengths → length (flat_map f (range_with_len 0 n)) ≡ sum (take n lengths)
length-pieces f lengths n long within =
    length-flat_map f (range_with_len 0 n) ∙ sym (sum-map (λ r. length (f r)) (range_with_len 0 n))
    ∙ ap sum (sym (fill_by_all (λ r. length (f r)) (take n lengths) n 0 (length-take-le n lengths within)
    (λ k low. get_or-take n lengths k 0 low ∙ sym (long k))))

-- the bits sent of the first n code blocks
abbrev pub front_sent : RateMatching → (ℕ → List Bool) → ℕ → List Bool
front_sent t words n = flat_map (λ r. block_sent t (words r) (slice_index t.lengths r)) (range_with_len 0 n)

pub front-more : (t : RateMatching) (words : ℕ → List Bool) (n : ℕ)
    → front_sent t words n ++ block_sent t (words n) (slice_index t.lengths n) ≡ front_sent t words (n + 1)
front-more t words n = search (rules, flat_map_more, flat_map, range_with_len-add)

pub length-front : (t : RateMatching) (words : ℕ → List Bool) (n : ℕ) → n ≤ length t.lengths
    → length (front_sent t words n) ≡ sum (take n t.lengths)
length-front t words n within = grind (arith, length-pieces, length-block_sent)

-- there is room among all bits for those of one more code block
pub front-inside : (t : RateMatching) (words : ℕ → List Bool) (n : ℕ) → n < length t.lengths
    → length (front_sent t words n) + length (block_sent t (words n) (slice_index t.lengths n)) ≤ sum t.lengths
front-inside t words n within = grind (arith, nat_tests, length-front, length-block_sent, sum_by_more_le)

pub sent_long : SentIsLong
unfolding sent_of
sent_long t words = grind (arith, length-front, take_all)

-- bit p of code block r's part, in the whole
bit-sent : (t : RateMatching) (words : ℕ → List Bool) (r p : ℕ) → r < length t.lengths → p < slice_index t.lengths r
    → bit (sent_of t words) (sum (take r t.lengths) + p) ≡ bit (block_sent t (words r) (slice_index t.lengths r)) p
unfolding sent_of
bit-sent t words r p block inside =
    let f : ℕ → List Bool = λ r. block_sent t (words r) (slice_index t.lengths r) in
    let c : ℕ = length t.lengths in
    let at : get_or (range_with_len 0 c) r 0 ≡ r = get_or-range_with_len 0 c r 0 block ∙ omega arith in
    let there : r < length (range_with_len 0 c) = subst (λ n. r < n) (sym (length-range_with_len 0 c)) block in
    let long : length (f r) ≡ slice_index t.lengths r = length-block_sent t (words r) (slice_index t.lengths r) in
    let short : p < length (f (get_or (range_with_len 0 c) r 0)) =
    subst (λ q. p < length (f q)) (sym at) (subst (λ n. p < n) (sym long) inside) in
    let front : length (flat_map f (take r (range_with_len 0 c))) ≡ sum (take r t.lengths) =
    ap (λ rs. length (flat_map f rs)) (take-range c r (omega arith)) ∙ length-front t words r (omega arith) in
    ap (λ n. bit (flat_map f (range_with_len 0 c)) (n + p)) (sym front)
    ∙ get_or-flat_map f (range_with_len 0 c) r p 0 false there short
    ∙ ap (λ q. bit (f q) p) at
  where
    take-range : (c r : ℕ) → r ≤ c → take r (range_with_len 0 c) ≡ range_with_len 0 r
    take-range c r within = simp map-id at (take-map-range_with_len (λ (x : ℕ). x) 0 c r within)

pub sent-at : PlacesHaveOneOwner → PlacesAreSent → SeatsAreSeating → SentBitsAreAt
unfolding position_at
sent-at owners sents seats t m is inside = grind (arith, bit-sent, bit-block_sent)

pub parts-at : PlacesHaveOneOwner → PartsAreAt
unfolding position_at
parts-at owners t m r p owner =
    let most = sum_by_more_le (λ (x : ℕ). x) t.lengths r 0 owner.block in
    let joined = owner.joined in
    let below = owner.inside in
    let same : owner_of t.lengths m ≡ (r, p) = sym ((owners t.lengths m (omega arith)).only r p owner) in (
      ap (λ (q : ℕ × ℕ). q.0) same,
      ap (λ (q : ℕ × ℕ). place_of t.buffer t.rv (seat_of t.qm (slice_index t.lengths q.0) q.1)) same,
    )

-- codewords that are the same send the same
flat-same : (f g : ℕ → List Bool) (a n : ℕ) → ((r : ℕ) → r < a + n → f r ≡ g r)
    → flat_map f (range_with_len a n) ≡ flat_map g (range_with_len a n)
flat-same f g a zero each = refl
flat-same f g a (suc n) each = rw (each a (omega arith), flat-same f g (a + 1) n (λ r low. each r (omega arith))) refl

pub sent-same : (t : RateMatching) (f g : ℕ → List Bool) → ((r : ℕ) → r < length t.lengths → f r ≡ g r)
    → sent_of t f ≡ sent_of t g
unfolding sent_of
sent-same t f g same = grind (arith, flat-same)

pub length-words : (link : Link) (block : List Bool) → length (words_of link block) ≡ link.plan.c
length-words link block = length-map-range_with_len (word link block) 0 link.plan.c

pub word-at : (link : Link) (block : List Bool) (r : ℕ) (d : List Bool) → r < link.plan.c
    → slice_index_or (words_of link block) r d ≡ word link block r
word-at link block r d inside = get_or-map-range_with_len (word link block) 0 link.plan.c r r d inside (omega arith)

pub words-long : WordsArePlain → (link : Link) (block : List Bool) → IsLink link → IsBlock link block
    → All (λ w. length w ≡ cols_of link.buffer.graph * link.buffer.z) (words_of link block)
words-long plain link block is whole = grind (arith, length-words, word-at)

-- no result for a transmission is `Memory`
pub tx-never_memory : (c : ℕ) (tx : Tx) → tx_said_of c tx ≡ Err fault.Memory → ⊥
unfolding tx_said_of
tx-never_memory c tx = grind (arith, nat_tests, never-bind, never-demanded, never-with_fault)

-- the lengths of an accepted transmission share out its bits
said-shared : LengthsAreShared → (c : ℕ) (tx : Tx) (lengths : List ℕ) → tx_said_of c tx ≡ Ok lengths
    → IsShared c tx.g tx.qm lengths
unfolding tx_said_of
said-shared shared c tx lengths said =
    let first = bind-ok (err_unless fault.Rv (nat_le tx.rv 3)) _ lengths said in
    shared (is_scheduled tx.mask) c tx.g tx.qm tx.nl lengths
    (with_fault-ok fault.Rm (lengths_said (is_scheduled tx.mask) c tx.g tx.qm tx.nl) lengths first.2)

said-version : (c : ℕ) (tx : Tx) (lengths : List ℕ) → tx_said_of c tx ≡ Ok lengths → tx.rv < 4
unfolding tx_said_of
said-version c tx lengths said = grind (arith, nat_tests, bind-ok, demanded-ok)

-- an accepted transmission's matching
pub accepted-matched : LengthsAreShared → AcceptedAreMatched
accepted-matched shared link tx lengths is said =
    let all = said-shared shared link.plan.c tx lengths said in
    let same : (matching link tx).lengths ≡ lengths = ap lengths_or_none said in
    record {
      same = same;
      matched = record {
        circular = link-circular link is;
        version = said-version link.plan.c tx lengths said;
        order_some = all.order_some;
        whole = subst (All (λ e. e % tx.qm ≡ 0)) (sym same) all.whole;
      };
      shared = all;
    }

pub accepted_all : LengthsAreShared → AcceptedSendAll
unfolding sent
accepted_all shared link tx block ok = go (tx_said link tx) refl ok
  where
    go : (said : Result (List ℕ) DeskFault) → tx_said link tx ≡ said → IsOk said → length (sent link tx block) ≡ tx.g
    go (Ok lengths) said some =
        sent_long (matching link tx) (word link block)
        ∙ ap (λ s. sum (lengths_or_none s)) said
        ∙ (said-shared shared link.plan.c tx lengths said).together
    go (Err e) said none = cc none

-- the bits that are sent of a sender's codewords
pub sent-ok : (link : Link) (tx : Tx) (block : List Bool) (lengths : List ℕ) (words : List (List Bool)) (bits : List Bool)
    → tx_said link tx ≡ Ok lengths → length lengths ≡ link.plan.c → words ≡ words_of link block
    → bits ≡ sent_of (matching_of link.buffer tx lengths) (λ r. slice_index_or words r [])
    → sent_said link tx block ≡ Ok bits
unfolding sent
sent-ok link tx block lengths words bits said counted encoded made = grind (arith, slice_index_or, sent-same, word-at)

-- as many bits of a codeword as its code block has of the transport block
begins-shared : PlansAreSound → BlocksLengthen → CodeBlocksAreLong → WordsArePlain → (link : Link) (block : List Bool)
    → IsLink link
    → IsBlock link block → (r : ℕ) → r < link.plan.c
    → take (share link.plan) (word link block r) ≡ take (share link.plan) (code_bits_of link block r)
begins-shared sound blocks codes plain link block is whole r inside =
    let p = link.plan in
    let plan = sound link.graph (attached_length link.a) p is.planned in
    let codeword = plain link block r is whole inside in
    let long = codes link.graph (attached_length link.a) p (attached block) r is.planned
    (blocks block ∙ ap attached_length whole) inside in
    let fits = k-fits link.graph p plan.columns in
    begins-with (word link block r) (take (share p) (code_bits_of link block r)) (share p)
    (omega (arith, codeword.long, plan.held, fits)) (length-take-le (share p) (code_bits_of link block r) (omega (arith, long)))
    (λ k low. codeword.begins k (omega (arith, low)) ∙ sym (get_or-take (share p) (code_bits_of link block r) k false low))

-- the codewords of a transport block carry it
pub blocks_carried : PlansAreSound → BlocksLengthen → JoinUndoesCut → CodeBlocksAreLong → WordsArePlain → BlocksAreCarried
blocks_carried sound blocks joins codes plain link block is whole =
    let p = link.plan in
    let begin : List Bool → List Bool = take (share p) in
    let long : length (attached block) ≡ attached_length link.a = blocks block ∙ ap attached_length whole in
    let same : joined_blocks p (words_of link block) ≡ joined_blocks p (all_code_bits p (attached block)) =
    flat_map-map begin (word link block) (range_with_len 0 p.c)
    ∙ flat-same (λ r. begin (word link block r)) (λ r. begin (code_bits_of link block r)) 0 p.c
    (λ r inside. begins-shared sound blocks codes plain link block is whole r (omega (arith, inside)))
    ∙ sym (flat_map-map begin (code_bits p (attached block)) (range_with_len 0 p.c)) in
    ap (take link.a) (same ∙ joins link.graph (attached_length link.a) p (attached block) is.planned long)
    ∙ ap (λ n. take n (attached block)) (sym whole)
    ∙ take-append_seam block (high_first (degree (block_poly block)) (crc_of (block_poly block) block))

-- what is kept of the codewords of a transport block
pub sender-kept : BlocksAreCarried → (link : Link) (block : List Bool) (words : List (List Bool)) → IsLink link
    → IsBlock link block
    → words ≡ words_of link block → (carried link words ≡ block) × IsSender link words
sender-kept carries link block words is whole encoded = grind arith
