-- What is received of transmissions, place by place and word by word; and that it is accepted and explained.
use Rattle.nr_linkcommands.proofs.Common.{AcceptedSendAll, All, All-head, All-tail, Bool, DeskFault, Err, Link, List, Ok, Reception}
use Rattle.nr_linkcommands.proofs.Common.{Result, SenderView, Transmission, [], ap, arith, bit, erased_of, false, is_named, length}
use Rattle.nr_linkcommands.proofs.Common.{length-map-range_with_len, map, nat_tests, not, range_with_len, received_of}
use Rattle.nr_linkcommands.proofs.Common.{receptions_of, refl, sent_said, subst, sym, true, ℕ, ◌*◌, ◌+◌, ◌-◌, ◌<◌}
use Rattle.nr_linkcommands.proofs.Common.{◌>>=◌, ◌∙◌, ◌∷◌, ◌≡◌, ◌≤◌, ◌⊕◌, ◌^◌, ◌==◌}
use Rattle.nr_linkcommands.proofs.Common.{get_or-map-range_with_len, heard_through, All-append, All-cons, All-nil, IsAccepted}
use Rattle.nr_linkcommands.proofs.Common.{reception, range_all, received_if, OnlyErases}
use Rattle.nr_linkcommands.{specs.Channel.arrives_at, specs.inside.Receptions.reception_of, proofs.RunLineFacts.received_of-sent}
use Rattle.std.{proofs.Common.min, proofs.Common.⊎_elim, proofs.Common.IsOk, specs.Int.bit_at, specs.Int.bit_not, specs.Int.w64}
use Rattle.std.{specs.Int.RustNames.bit_xor, specs.List.list_all, proofs.lemmas.Bool.cases_lt, proofs.lemmas.List.same_lists}
use Rattle.std.proofs.lemmas.{Nat.Bits.bit_at-lt, Nat.Bits.bit_at_xor, List.Folds.list_all-append}
use Rattle.nr_bitvec.{proofs.PlaceFacts.same_from_bits, proofs.BitFacts.bit_at_not-one, specs.declared.marks.Marks.Marks}
use Rattle.nr_blockdesk.specs.{Marks.heards, Marks.heards_from, Explains.all_agree, Explains.explains, Explains.reception_said}
use Rattle.nr_blockdesk.specs.{Sent.sent, Sent.tx_said, declared.heard.Heard.Heard}
use Rattle.nr_drawing.proofs.DrawnWordFacts.{length-marks_drawn}
use Rattle.nr_files.specs.declared.erasure.{Erasure.Erasure, Places.Places}
use Rattle.nr_transmission.specs.declared.tx.Tx.{Tx}
use Rattle.nr_files.specs.declared.erasure.Erasure.TheVariants as erasure
use Rattle.nr_files.specs.declared.erasure.Places.TheVariants as places

-- the first n values of a function
abbrev pub firsts : (ℕ → Bool) → ℕ → List Bool
firsts f n = map f (range_with_len 0 n)

pub bit-firsts : (f : ℕ → Bool) (n m : ℕ) → m < n → bit (firsts f n) m ≡ f m
bit-firsts f n m below = get_or-map-range_with_len f 0 n m m false below (omega arith)

-- there is a mark for each place
pub erased-long : (e : Erasure) (n : ℕ) → length (erased_of e n) ≡ n
erased-long (erasure.Named meant) n = length-map-range_with_len (is_named meant) 0 n
erased-long (erasure.Drawn seed threshold) n = length-marks_drawn threshold n _

-- if nothing is erased every place is marked
pub none-erased : (e : Erasure) (n : ℕ) → e ≡ erasure.Named places.Nothing
    → firsts (is_named places.All) n ≡ firsts (λ m. not (bit (erased_of e n) m)) n
none-erased e n is = grind (arith, same_from_bits, length-map-range_with_len, bit-firsts)

-- if nothing is flipped the bits are unchanged
pub none-flipped : (p : Places) (bits : List Bool) → p ≡ places.Nothing
    → bits ≡ firsts (λ m. is_named p m ⊕ bit bits m) (length bits)
none-flipped p bits is = grind (arith, same_from_bits, length-map-range_with_len, bit-firsts)

-- bits whose words so far have other values, and whose other words have the first ones
pub record IsTurned (first turned : ℕ → Bool) (bits : List Bool) (count i : ℕ) : Type 0 where
  pub long : length bits ≡ count
  pub so_far : (m : ℕ) → m < 64 * i → m < count → bit bits m ≡ turned m
  pub behind : (m : ℕ) → 64 * i ≤ m → bit bits m ≡ first m

-- one more word
pub turned-more : (first turned : ℕ → Bool) (count i wide word : ℕ) (old new : List Bool) → wide ≡ min (count - 64 * i) 64
    → ((t : ℕ) → t < wide → bit new (64 * i + t) ≡ (bit_at word t == 1))
    → ((t : ℕ) → t < 64 * i → bit new t ≡ bit old t)
    → ((t : ℕ) → 64 * i + wide ≤ t → bit new t ≡ bit old t) → length new ≡ length old
    → ((t : ℕ) → t < wide → (bit_at word t == 1) ≡ turned (64 * i + t)) → IsTurned first turned old count i
    → IsTurned first turned new count (i + 1)
turned-more first turned count i wide word old new is within before after long here so_far = record {
  long = long ∙ so_far.long;
  so_far = λ m below inside. ⊎_elim (λ low. before m low ∙ so_far.so_far m low inside)
      (λ high.
      let t : ℕ = m - 64 * i in
      let at : m ≡ 64 * i + t = omega (arith, high) in
      let short : t < wide = omega (arith, is, below, inside, high) in
      subst (λ k. bit new k ≡ turned k) (sym at) (within t short ∙ here t short))
      (cases_lt m (64 * i));
  behind = λ m past. after m (omega (arith, is, past)) ∙ so_far.behind m (omega (arith, past));
}

-- all words
pub turned-all : (first turned : ℕ → Bool) (count i : ℕ) (bits : List Bool) → count ≤ 64 * i
    → IsTurned first turned bits count i → bits ≡ firsts turned count
turned-all first turned count i bits all is = grind (arith, same_from_bits, length-map-range_with_len, bit-firsts)

pub not-marked : (erased : List Bool) (n word j : ℕ) → word < 2 ^ 64 → j < 64 → (bit_at word j == 1) ≡ bit erased (n + j)
    → (bit_at (bit_not w64 word) j == 1) ≡ not (bit erased (n + j))
not-marked erased n word j fits below is = bit_at_not-one word j fits below ∙ ap not is

pub xor-marked : (x y j : ℕ) (f b : Bool) → (bit_at x j == 1) ≡ f → (bit_at y j == 1) ≡ b
    → (bit_at (bit_xor x y) j == 1) ≡ (f ⊕ b)
xor-marked x y j f b is is-too = grind (arith, nat_tests, bit_at-lt, bit_at_xor)

-- all of them
pub heard-all : (x : Transmission) (bits heard value : List Bool) (count : ℕ) → count ≡ length bits
    → heard ≡ firsts (λ m. not (bit (erased_of x.erasure count) m)) count
    → value ≡ firsts (λ m. is_named x.flip m ⊕ bit bits m) (length bits) → heards heard value ≡ heard_through x bits
unfolding heards_from heard_through
heard-all x bits heard value count whole marks are =
    grind (arith, length-map-range_with_len, same_lists, get_or-map-range_with_len, bit-firsts)

-- ---- each reception is accepted, and without flips the sender's block explains it

-- as many places are received as bits are sent
heard-long : (x : Transmission) (bits : List Bool) → length (heard_through x bits) ≡ length bits
unfolding heard_through
heard-long x bits = length-map-range_with_len (arrives_at x (erased_of x.erasure (length bits)) bits) 0 (length bits)

-- a reception of G places of an accepted transmission is accepted
said-whole : (link : Link) (tx : Tx) (places : List Heard) (lengths : List ℕ) → tx_said link tx ≡ Ok lengths
    → length places ≡ tx.g → reception_said link (reception tx places) ≡ Ok lengths
said-whole link tx places lengths said whole = grind (arith, nat_tests)

-- what is received of one transmission, by the specification's result for it
of_said : (sender : SenderView) (x : Transmission) (said : Result (List ℕ) DeskFault) → tx_said sender.link x.tx ≡ said
    → received_of sender x ≡ received_if x (said >>= λ lengths. Ok (sent sender.link x.tx sender.block))
of_said sender x said is =
    ap (λ (r : Result (List ℕ) DeskFault). received_if x (r >>= λ lengths. Ok (sent sender.link x.tx sender.block))) is

sent-long : AcceptedSendAll → (sender : SenderView) (x : Transmission) (lengths : List ℕ)
    → tx_said sender.link x.tx ≡ Ok lengths → length (sent sender.link x.tx sender.block) ≡ x.tx.g
sent-long all sender x lengths is = all sender.link x.tx sender.block (subst IsOk (sym is) refl)

pub one-accepted : AcceptedSendAll → (sender : SenderView) (x : Transmission)
    → All (IsAccepted sender.link) (received_of sender x)
one-accepted all sender x = go (tx_said sender.link x.tx) refl
  where
    go : (said : Result (List ℕ) DeskFault) → tx_said sender.link x.tx ≡ said
        → All (IsAccepted sender.link) (received_of sender x)
    go (Ok lengths) is =
        let bits = sent sender.link x.tx sender.block in
        subst (All (IsAccepted sender.link)) (sym (of_said sender x (Ok lengths) is))
        (All-cons (IsAccepted sender.link) (reception x.tx (heard_through x bits)) [] (
          lengths,
          said-whole sender.link x.tx (heard_through x bits) lengths is (heard-long x bits ∙ sent-long all sender x lengths is),
        )
        (All-nil (IsAccepted sender.link)))
    go (Err e) is = subst (All (IsAccepted sender.link)) (sym (of_said sender x (Err e) is)) (All-nil (IsAccepted sender.link))

pub received-accepted : AcceptedSendAll → (sender : SenderView) (xs : List Transmission)
    → All (IsAccepted sender.link) (receptions_of sender xs)
received-accepted all sender [] = All-nil (IsAccepted sender.link)
received-accepted all sender (x ∷ xs) =
    All-append (IsAccepted sender.link) (received_of sender x) (receptions_of sender xs) (one-accepted all sender x)
    (received-accepted all sender xs)

-- what arrives of the bits that a sender sends is accepted
sent-accepted : AcceptedSendAll → (sender : SenderView) (x : Transmission) (bits : List Bool)
    → sent_said sender.link x.tx sender.block ≡ Ok bits → IsAccepted sender.link (reception x.tx (heard_through x bits))
sent-accepted all sender x bits said =
    All-head (IsAccepted sender.link) (reception x.tx (heard_through x bits)) []
    (subst (All (IsAccepted sender.link)) (received_of-sent sender x bits said) (one-accepted all sender x))

-- what the two lists of it say is accepted
pub arrival-accepted : AcceptedSendAll → (sender : SenderView) (x : Transmission) (bits : List Bool) (arrival : Marks)
    → sent_said sender.link x.tx sender.block ≡ Ok bits
    → heards arrival.heard.items arrival.value.items ≡ heard_through x bits
    → IsAccepted sender.link (reception_of x.tx arrival)
arrival-accepted all sender x bits arrival said same =
    subst (λ (h : List Heard). IsAccepted sender.link (reception x.tx h)) (sym same) (sent-accepted all sender x bits said)

-- the sender's block explains it
abbrev explained : SenderView → List Reception → Bool
explained sender list = list_all (λ (x : Reception). all_agree x.heard (sent sender.link x.tx sender.block)) list

one-explained : AcceptedSendAll → (sender : SenderView) (x : Transmission) → OnlyErases x
    → explained sender (received_of sender x) ≡ true
unfolding heard_through
one-explained all sender x steady = grind (arith, of_said, range_all, get_or-map-range_with_len, heard-long, sent-long)

all-explained : AcceptedSendAll → (sender : SenderView) (xs : List Transmission) → All OnlyErases xs
    → explained sender (receptions_of sender xs) ≡ true
all-explained all sender [] steady = refl
all-explained all sender (x ∷ xs) steady =
    let more = all-explained all sender xs (All-tail OnlyErases x xs steady) in
    rw (list_all-append, one-explained all sender x (All-head OnlyErases x xs steady)) more

pub received-explained : AcceptedSendAll → (sender : SenderView) (xs : List Transmission) → All OnlyErases xs
    → explains sender.link (receptions_of sender xs) sender.block ≡ true
unfolding explains
received-explained all sender xs steady = all-explained all sender xs steady
