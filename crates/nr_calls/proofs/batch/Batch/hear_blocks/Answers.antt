use Rattle.std.proofs.Common.{◌≡◌, ◌≢◌, ◌<◌, ◌≤◌, ◌∙◌, ◌+◌, ◌==◌, [], ℕ}
use Rattle.std.proofs.Common.{List, Bool, ap, arith, false, length, map, not, refl}
use Rattle.std.proofs.Common.{set, subst, sym, take, Vec, Global}
use Rattle.std.proofs.lemmas.List.{get_or-map, get_or-set_other, get_or-set_same, length-map, map-set}
use Rattle.std.specs.List.{count_by, range_with_len, sum}
use Rattle.std.specs.Prelude.{slice_index, slice_index_or}
use Rattle.nr_bitvec.specs.Bit.{bit}
use Rattle.nr_bitvec.proofs.ListFacts.{get_or-replicate_same}
use Rattle.nr_drawing.specs.Drawing.{places_drawn, seeded}
use Rattle.nr_drawing.proofs.DrawnWordFacts.{length-marks_drawn}
use Rattle.nr_drawing.proofs.SideFacts.{among_few}
use Rattle.nr_peel.specs.Slices.{slice}
use Rattle.nr_blockdesk.specs.Sent.{tx_said}
use Rattle.nr_blockdesk.specs.Slices.{IsBetween}
use Rattle.nr_transmission.specs.declared.tx.Tx.{Tx}
use Rattle.nr_calls.specs.inside.Batches.{words_in}
use Rattle.nr_calls.proofs.AcceptedFacts.{said-ok}
use Rattle.nr_calls.proofs.BatchHearFacts.{erased-by, hears-all, hears-more, hears-none, passes-more, passes-none, whole-set}
use Rattle.nr_calls.proofs.DrawnPartFacts.{goes-first, part-counted, part-drawn, part-next}
use Rattle.nr_calls.proofs.PlaceCountFacts.{sum-more, sum-most}
use Rattle.nr_calls.proofs.batch.Batch.hear_blocks.Goals as goal

abbrev items : Vec ℕ Global → List ℕ
items words = words.items

-- No code block of the transmission has been heard yet, and each generator stands at its round's seed.
pub loop-r-init : goal.loop-r-init
loop-r-init c =
    let link = c.args.link.now in
    let batch = c.args.self.now in
    record {
      whole = c.requires.whole;
      still = refl;
      all = c.requires.all;
      next = λ seeds are j among.
          let short = among_few c.args.listed.now j c.requires.listed among in
          goes-first seeds _ c.args.threshold j are
          (omega (arith, short, ap length are, length-map seeds seeded, c.requires.all));
      later = λ s le. refl;
      hears = λ seeds are j list among is between.
          hears-none link list (c.args.tx.now, places_drawn (slice_index seeds j) c.args.threshold c.args.tx.now.g) j _ batch
          (ap not (get_or-replicate_same 64 j false));
      passes = λ j short is. passes-none j batch;
    }

pub hear_block-requires-clause-long : goal.hear_block-requires-clause-long
hear_block-requires-clause-long c =
    let whole = c.loop-r.invariant.whole in
    let known = c.loop-r.self.known.items in
    let block : c.loop-r.r < c.args.link.now.plan.c =
    omega (arith, c.loop-r-test.true, c.len-r-end.ensures.value, c.in_ok-shares.ensures.counted) in
    let inside : c.loop-r.r < length known = omega (arith, block, whole.counted, length-map known items) in
    ap (λ (w : Vec ℕ Global). length w.items) c.index_mut.ensures.value
    ∙ sym (ap length (get_or-map items known c.loop-r.r c.index_mut.result.now [] inside)) ∙ whole.long c.loop-r.r block

-- code block r hears its part: its words and the two rows are new
pub loop-r-preserved : goal.loop-r-preserved
loop-r-preserved c =
    let link = c.args.link.now in
    let tx = c.args.tx.now in
    let r = c.loop-r.r in
    let inv = c.loop-r.invariant in
    let shares = c.in_ok-shares.shares.items in
    let known = c.loop-r.self.known.items in
    let words = c.hear_block.new.known.items in
    let e = length c.fit.new.words.items in
    let from = sum (take r shares) in
    let marks = λ (seeds : List ℕ) (j : ℕ). places_drawn (slice_index seeds j) c.args.threshold tx.g in
    let said = said-ok (tx_said link tx) shares c.in_ok-shares.ensures.said in
    let below : r < length shares = omega (arith, c.loop-r-test.true, c.len-r-end.ensures.value) in
    let block : r < link.plan.c = omega (arith, below, c.in_ok-shares.ensures.counted) in
    let inside : r < length known = omega (arith, block, inv.whole.counted, length-map known items) in
    let share : e ≡ slice_index shares r =
    c.in_ok-fit.ensures ∙ ap (λ (l : List ℕ). slice_index_or l r 0) c.deref.ensures.0 in
    let next-from : sum (take (r + 1) shares) ≡ from + e =
    sum-more shares r below ∙ ap (λ n. from + n) (sym share) in
    let fits : from + e ≤ tx.g = omega (arith, next-from, sum-most shares (r + 1), c.in_ok-shares.ensures.together) in
    -- the words before, and after
    let old-is : c.index_mut.result.now.items ≡ slice_index_or (words_in c.loop-r.self) r [] =
    ap items c.index_mut.ensures.value ∙ sym (get_or-map items known r c.index_mut.result.now [] inside) in
    let new-is : words_in c.push.new.self ≡ set (words_in c.loop-r.self) r words =
    ap (λ (k : Vec (Vec ℕ Global) Global). map items k.items) c.in_ok-push.ensures.known
    ∙ map-set items known r c.hear_block.new.known in
    let own : slice_index_or (words_in c.push.new.self) r [] ≡ words =
    ap (λ (l : List (List ℕ)). slice_index_or l r []) new-is
    ∙ get_or-set_same (words_in c.loop-r.self) r words [] (omega (arith, block, inv.whole.counted)) in
    let other = λ (s : ℕ) (ne : s ≢ r). ap (λ (l : List (List ℕ)). slice_index_or l s []) new-is
    ∙ get_or-set_other (words_in c.loop-r.self) r s words [] ne in
    record {
      whole = whole-set link (words_in c.loop-r.self) _ r words inv.whole new-is
          (c.hear_block.ensures.long ∙ ap length old-is);
      still = c.in_ok-push.ensures.still ∙ inv.still;
      all = c.hear_block.ensures.all;
      next = λ seeds are j among.
          let goes = part-next (slice_index seeds j) c.args.threshold from e tx.g j _ (inv.next seeds are j among) fits
          c.hear_block.new.generators.items (λ n. c.hear_block.ensures.next j n among) in
          rw (← next-from) at goes;
      later = λ s le. other s (omega (arith, le)) ∙ inv.later s (omega (arith, le));
      hears = λ seeds are j list among is between.
          let short = among_few c.args.listed.now j c.requires.listed among in
          let x : Tx × List Bool = (tx, marks seeds j) in
          let goes = inv.next seeds are j among in
          let given = subst (λ (w : List ℕ). IsBetween link list r (slice w j)) (sym (old-is ∙ inv.later r (omega arith)))
          (between r block) in
          let heard = c.hear_block.ensures.hears j r list shares (marks seeds j) among block said
          (length-marks_drawn c.args.threshold tx.g _) (sym share) fits
          (part-drawn (slice_index seeds j) c.args.threshold from e tx.g j c.loop-r.generators.items goes fits) given in
          let counted = c.hear_block.ensures.counted j among
          ∙ part-counted (slice_index seeds j) c.args.threshold from e tx.g j c.loop-r.generators.items goes fits
          ∙ ap (λ n. count_by (bit (marks seeds j)) (range_with_len from n)) share
          ∙ sym (erased-by link tx (marks seeds j) shares r said) in
          let open-still : slice_index c.loop-r.self.delivered j ≡ 0 = ap (λ (l : List ℕ). slice_index l j) inv.still ∙ is in
          hears-more link list x j r (bit c.loop-r.going j) (bit c.keep_going.new.going j) c.args.self.now c.loop-r.self
          c.push.new.self
          (inv.hears seeds are j list among is between) words (slice_index c.hear_block.result.1 j)
          (slice_index c.hear_block.result.0 j)
          own (λ s lt. other s (omega (arith, lt))) heard.0 heard.1 counted
          (rw open-still at (c.in_ok-push.ensures.left j short)) (rw open-still at (c.in_ok-push.ensures.erased j short))
          (c.keep_going.ensures j short);
      passes = λ j short is.
          let closed : (slice_index c.loop-r.self.delivered j == 0) ≡ false =
          ap (λ (l : List ℕ). slice_index l j == 0) inv.still ∙ is in
          passes-more j r c.args.self.now c.loop-r.self c.push.new.self (inv.passes j short is)
          (rw closed at (c.in_ok-push.ensures.left j short)) (rw closed at (c.in_ok-push.ensures.erased j short));
    }

pub returns-clause-hears : goal.returns-clause-hears
returns-clause-hears c = λ seeds are j list among is between.
    let all : c.loop-r.r ≡ c.args.link.now.plan.c =
    omega (arith, c.loop-r-test.false, c.loop-r.auto.r-end, c.len-r-end.ensures.value, c.in_ok-shares.ensures.counted) in
    hears-all c.args.link.now list _ j c.loop-r.r _ _ _ all (c.loop-r.invariant.hears seeds are j list among is between)
