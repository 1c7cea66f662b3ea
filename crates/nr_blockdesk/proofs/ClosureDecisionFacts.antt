-- What the closures decide: which transport blocks can explain a list of receptions.
use Rattle.nr_blockdesk.proofs.Common.{rules, ◌≡◌, ℕ, zero, suc, ◌+◌, ◌<◌, ◌≤◌, ◌==◌, Bool, true, false}
use Rattle.nr_blockdesk.proofs.Common.{not, cond, List, length, map, take, refl, sym, ap, subst, ◌∙◌, arith, count_by}
use Rattle.nr_blockdesk.proofs.Common.{range_with_len, eq-eqb, eqb-true, false≢true, ext_get_or, sum_by-zero, take-append_seam}
use Rattle.nr_blockdesk.proofs.Common.{bit, BlocksLengthen, attached, block_poly, attached_length, crc_of, degree, high_first}
use Rattle.nr_blockdesk.proofs.Common.{HeardBits, HasFirsts, block_checks, ChecksAreSound, CodeBlocksAreLong, JoinUndoesCut}
use Rattle.nr_blockdesk.proofs.Common.{all_code_bits, code_bits, joined_blocks, heard_of, heard_record, IsBlock, IsLink, Link}
use Rattle.nr_blockdesk.proofs.Common.{WordsArePlain, code_bits_of, word, ExplainedBy, IsDecided, Verdict, all_fixed, contradiction}
use Rattle.nr_blockdesk.proofs.Common.{delivered, is_fixed_at, given, left, open_still, ExplainsByRecord, OneExplains}
use Rattle.nr_blockdesk.{specs.ReceiverLaws.DecidedIsOnly, specs.ReceiverLaws.ExplainersAgree, proofs.RangeTestFacts.range_each}
use Rattle.std.proofs.lemmas.Bool.{not-false}
use Rattle.nr_ldpcenc.specs.Codeword.{IsPlain}
use Rattle.nr_peel.specs.{Closure.AgreeOn, Laws.WordsAgreeOnClosure}
use Rattle.nr_blockdesk.proofs.LinkFacts.{link-buffer, link-circular}

-- two words with the first bits of a record, and with zeros for the fillers, agree at the given positions
pub given_agree : (link : Link) (s : HeardBits) (v w : ℕ → Bool) → HasFirsts s v → HasFirsts s w
    → IsPlain link.table link.graph link.plan v → IsPlain link.table link.graph link.plan w → AgreeOn (given link s) v w
given_agree link s v w has-v has-w plain-v plain-w p is = grind arith

-- so the words of two transport blocks that explain a record agree at the fixed positions
record_agree : ChecksAreSound → WordsAgreeOnClosure → WordsArePlain → (link : Link) (records : List HeardBits)
    (x y : List Bool) (r : ℕ) → IsLink link → IsBlock link x → IsBlock link y
    → ExplainedBy link records x → ExplainedBy link records y → r < link.plan.c
    → AgreeOn (is_fixed_at link (heard_of records r)) (bit (word link x r)) (bit (word link y r))
record_agree sound agree plain link records x y r is whole-x whole-y ex ey inside =
    let s : HeardBits = heard_of records r in
    let by-x = ex r inside in
    let by-y = ey r inside in
    let plain-x : IsPlain link.table link.graph link.plan (bit (word link x r)) = (plain link x r is whole-x inside).plain in
    let plain-y : IsPlain link.table link.graph link.plan (bit (word link y r)) = (plain link y r is whole-y inside).plain in
    let some : 0 < link.plan.z = subst (λ b. 0 < b.z) (link-buffer link is) (link-circular link is).size_some in
    agree (block_checks link.table link.graph link.plan) (given link s) (bit (word link x r)) (bit (word link y r))
    (sound link.table link.graph link.plan is.table some) plain-x.meets plain-y.meets
    (given_agree link s (bit (word link x r)) (bit (word link y r)) by-x.1 by-y.1 plain-x plain-y)

pub explainers_agree : ChecksAreSound → WordsAgreeOnClosure → WordsArePlain → ExplainsByRecord → ExplainersAgree
explainers_agree sound agree plain by_record link list x y r is accepted whole-x whole-y ex ey inside =
    record_agree sound agree plain link (heard_record link list) x y r is whole-x whole-y
    ((by_record link list x is accepted whole-x).0 ex) ((by_record link list y is accepted whole-y).0 ey) inside

count_none : (t : ℕ → Bool) (a n : ℕ) → count_by t (range_with_len a n) ≡ 0 → (m : ℕ) → a ≤ m → m < a + n
    → t m ≡ false
count_none t a n none m low high =
    go (t m) (range_each (λ x. cond (t x) 1 0 == 0) a n (sym (sum_by-zero (λ x. cond (t x) 1 0) (range_with_len a n))
    ∙ eq-eqb _ 0 none) m low high)
  where
    go : (b : Bool) → (cond b 1 0 == 0) ≡ true → b ≡ false
    go b e = grind arith

-- if all are fixed, each position below K' is
pub every_fixed : (link : Link) (records : List HeardBits) → all_fixed link records ≡ true → (r : ℕ) → r < link.plan.c
    → (p : ℕ) → p < link.plan.kdash → is_fixed_at link (heard_of records r) p ≡ true
every_fixed link records all r inside p low =
    let zero-left : left link records r ≡ 0 =
    eqb-true (left link records r) 0
    (range_each (λ k. left link records k == 0) 0 link.plan.c all r (omega arith) (omega arith)) in
    not-false (is_fixed_at link (heard_of records r) p)
    (count_none (λ k. not (is_fixed_at link (heard_of records r) k)) 0 link.plan.kdash zero-left p (omega arith) (omega arith))

map-same : {X : Type 0} (f g : ℕ → X) (a n : ℕ) → ((m : ℕ) → a ≤ m → m < a + n → f m ≡ g m)
    → map f (range_with_len a n) ≡ map g (range_with_len a n)
map-same f g a zero each = refl
map-same f g a (suc n) each =
    rw (each a (omega arith) (omega arith), map-same f g (a + 1) n (λ m low high. each m (omega arith) (omega arith))) refl

-- transport blocks whose code blocks are the same are the same
pub blocks_make : BlocksLengthen → JoinUndoesCut → (link : Link) (x y : List Bool) → IsLink link
    → IsBlock link x → IsBlock link y → ((r : ℕ) → r < link.plan.c → code_bits_of link x r ≡ code_bits_of link y r)
    → x ≡ y
blocks_make blocks joins link x y is whole-x whole-y each =
    let long-x : length (attached x) ≡ attached_length link.a = blocks x ∙ ap attached_length whole-x in
    let long-y : length (attached y) ≡ attached_length link.a = blocks y ∙ ap attached_length whole-y in
    let blocks : all_code_bits link.plan (attached x) ≡ all_code_bits link.plan (attached y) =
    map-same (code_bits link.plan (attached x)) (code_bits link.plan (attached y)) 0 link.plan.c
    (λ r low high. each r (omega arith)) in
    let all : attached x ≡ attached y =
    sym (joins link.graph (attached_length link.a) link.plan (attached x) is.planned long-x)
    ∙ ap (joined_blocks link.plan) blocks
    ∙ joins link.graph (attached_length link.a) link.plan (attached y) is.planned long-y in
    sym (begins x) ∙ ap (λ n. take n (attached x)) (whole-x ∙ sym whole-y) ∙ ap (take (length y)) all ∙ begins y
  where
    begins : (block : List Bool) → take (length block) (attached block) ≡ block
    begins block = take-append_seam block (high_first (degree (block_poly block)) (crc_of (block_poly block) block))

-- transport blocks whose words agree below K' are the same
pub words_make : BlocksLengthen → JoinUndoesCut → CodeBlocksAreLong → WordsArePlain → (link : Link)
    (x y : List Bool) → IsLink link → IsBlock link x → IsBlock link y
    → ((r p : ℕ) → r < link.plan.c → p < link.plan.kdash → bit (word link x r) p ≡ bit (word link y r) p) → x ≡ y
words_make blocks joins codes plain link x y is whole-x whole-y same = blocks_make blocks joins link x y is whole-x whole-y each
  where
    kept : (block : List Bool) (r : ℕ) → IsBlock link block → r < link.plan.c
        → length (code_bits_of link block r) ≡ link.plan.kdash
    kept block r whole inside = grind arith

    each : (r : ℕ) → r < link.plan.c → code_bits_of link x r ≡ code_bits_of link y r
    each r inside = ext_get_or false (code_bits_of link x r) (code_bits_of link y r)
        (kept x r whole-x inside ∙ sym (kept y r whole-y inside)) (λ k low.
        let below : k < link.plan.kdash = rw (← kept x r whole-x inside) low in
        sym ((plain link x r is whole-x inside).begins k below) ∙ same r k inside below
        ∙ (plain link y r is whole-y inside).begins k below)

pub one_explains : BlocksLengthen → JoinUndoesCut → CodeBlocksAreLong → WordsArePlain
    → ExplainersAgree → OneExplains
one_explains blocks joins codes plain agree link list x y is accepted whole-x whole-y ex ey all =
    search (rules, words_make, every_fixed)

-- and a record decides one outcome
pub decided-only : BlocksLengthen → JoinUndoesCut → CodeBlocksAreLong → WordsArePlain → ChecksAreSound
    → WordsAgreeOnClosure
    → DecidedIsOnly
decided-only blocks joins codes plain sound agree link records v w is by-v by-w = go v w by-v by-w
  where
    go : (v w : Verdict) → IsDecided link records v → IsDecided link records w → v ≡ w
    go open_still open_still a b = refl
    go open_still (delivered y) a b = absurd (false≢true (sym a ∙ b.0))
    go open_still contradiction a b = absurd (false≢true (sym a ∙ b.0))
    go (delivered x) open_still a b = absurd (false≢true (sym b ∙ a.0))
    go (delivered x) (delivered y) a b =
        ap delivered (words_make blocks joins codes plain link x y is a.1 b.1 (λ r p inside low.
        record_agree sound agree plain link records x y r is a.1 b.1 a.2 b.2 inside p
        (every_fixed link records a.0 r inside p low)))
    go (delivered x) contradiction a b = absurd (b.1 x a.1 a.2)
    go contradiction open_still a b = absurd (false≢true (sym b ∙ a.0))
    go contradiction (delivered y) a b = absurd (a.1 y b.1 b.2)
    go contradiction contradiction a b = refl
