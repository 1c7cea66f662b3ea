use Rattle.nr_blockdesk.proofs.Common.{◌≡◌, ℕ, ◌+◌, ◌*◌, ◌<◌, ◌≤◌, Bool, false, not, Some, None, ◌++◌}
use Rattle.nr_blockdesk.proofs.Common.{List, length, refl, sym, ap, ◌∙◌, arith, rules, true≢false, common_steps}
use Rattle.nr_blockdesk.proofs.Common.{length-replicate, length-set, bit, cols_of, HeardBits, Hearing, first_at, is_heard}
use Rattle.nr_blockdesk.proofs.Common.{record_of, with_hearing, Circular, place_of, seat_of, given_count, place_count, heard_at}
use Rattle.nr_blockdesk.proofs.Common.{heard_bit, place_heard, heards_of, positions_on, Fits, part_hearings, Tx}
use Rattle.nr_blockdesk.proofs.HearingFacts.{first-kept, first-set, fits-before, part-none, part-some, recorded-more, news-again}
use Rattle.nr_blockdesk.{proofs.HearingFacts.news-more, specs.declared.part.Part.Part, proofs.MergingFacts.empty-bit}
use Rattle.nr_blockdesk.proofs.{MarkFacts.heard-at, MarkFacts.length-heards, MarkFacts.some-marked, RecordFacts.heard-some}
use Rattle.nr_blockdesk.proofs.hearing.store_by_places.Goals.{then-get, then-is_none, else-is_none, else-get}
use Rattle.nr_blockdesk.proofs.hearing.store_by_places.Goals as goal

-- before the first place nothing is new, and the masks are empty
pub loop-m-init : goal.loop-m-init
loop-m-init c =
    let b = c.args.part.now.arrival.now.buffer.now in
    let marks : length c.args.part_masks.now.heard.items ≡ cols_of b.graph * b.z = grind (arith, length-replicate) in
    record {
      recorded = grind (arith, common_steps);
      news = grind (arith, common_steps);
      marks = marks;
      bits = search rules;
      none = search rules;
      fewer = search rules;
      cursors = c.new-cursors.ensures.cursors b c.args.part.now.arrival.now.tx.now.rv
          (omega (arith, marks, c.is_short.ensures));
      places = c.new-cursors.ensures.places;
      given = c.new-cursors.ensures.given;
    }

-- one place more, which is received for the first time, or again, or erased
pub loop-m-preserved : goal.loop-m-preserved
loop-m-preserved c =
    let part = c.args.part.now in
    let b = part.arrival.now.buffer.now in
    let tx = part.arrival.now.tx.now in
    let places = heards_of part in
    let H = part.arrival.now.marks.now.heard.items in
    let V = part.arrival.now.marks.now.value.items in
    let m = c.loop-m.m in
    let next = c.next-pos.ensures in
    let pos : ℕ = c.next-pos.result in
    let places-are : place_count tx.qm c.next-pos.new.self ≡ part.count = next.places ∙ c.loop-m.invariant.places in
    let given-are : given_count tx.qm c.next-pos.new.self ≡ m + 1 = next.given ∙ ap (λ n. n + 1) c.loop-m.invariant.given in
    let at : pos ≡ place_of b tx.rv (seat_of tx.qm (length places) m) =
    next.value ∙ rw (c.loop-m.invariant.places, c.loop-m.invariant.given, length-heards H V part.from part.count) refl in
    let here : heard_at places m ≡ place_heard (bit H (part.from + m)) (bit V (part.from + m)) =
    heard-at H V part.from part.count m c.loop-m-test.true in
    let s : HeardBits = c.loop-m.store in
    let inv = c.loop-m.invariant in
    let s₀ : HeardBits = c.args.store.now in
    let n : ℕ = length s₀.first in
    elim c.if-get.branch [
      | then-get w ↦
          let v : Bool = w.get-bit.result in
          let part_masks : heard_bit (heard_at places m) ≡ Some v =
          rw (here, ← c.get.ensures, w.if-get.true, some-marked (bit V (part.from + m)), w.get-bit.ensures) refl in
          let store-is : c.if-get.store ≡ with_hearing s (pos, v) = w.store-is ∙ w.hear.ensures in
          let inside : pos < length s.first = omega (arith, next.inside, inv.news.long, c.requires.long) in
          let recorded : (hs : List Hearing) → s₀ ≡ record_of n hs
          → c.if-get.store ≡ record_of n (hs ++ part_hearings b tx places (m + 1)) =
          λ hs e. recorded-more c.record_continues.ensures n hs (part_hearings b tx places m)
          (part_hearings b tx places (m + 1)) s c.if-get.store pos v
          (omega (arith, inside, inv.news.long)) (inv.recorded hs e) store-is (part-some b tx places m pos v part_masks at) in
          let fewer : (f : ℕ → Bool) → Fits c.if-get.store f
          → Fits s₀ f = λ f fits. inv.fewer f (fits-before s pos v f (rw (← store-is) fits)) in
          let heard-is : is_heard (first_at s pos) ≡ not w.is_none.result =
          ap is_heard (sym w.heard.ensures) ∙ heard-some w.heard.result ∙ w.is_none.ensures in
          elim w.if-is_none.branch [
            | then-is_none u ↦
                let unheard : is_heard (first_at s pos) ≡ false = heard-is ∙ ap not u.if-is_none.true in
                record {
                  recorded = recorded;
                  news = rw (w.part_masks-is, u.part_masks-is, u.set.ensures.items, u.set-then-is_none.ensures.items)
                      (news-more s₀ s c.if-get.store c.loop-m.part_masks.heard.items c.loop-m.part_masks.value.items pos v inside
                      (omega (arith, next.inside, inv.marks)) (omega (arith, next.inside, inv.bits)) unheard
                      (ap (λ (h : HeardBits). h.first) store-is ∙ first-set s pos v unheard) inv.news);
                  marks = rw (w.part_masks-is, u.part_masks-is, u.set.ensures.items, length-set) inv.marks;
                  bits = rw (w.part_masks-is, u.part_masks-is, u.set-then-is_none.ensures.items, length-set) inv.bits;
                  none = λ e. absurd (true≢false (sym (w.any-is ∙ u.any-is) ∙ e));
                  fewer = fewer;
                  cursors = next.cursors;
                  places = places-are;
                  given = given-are;
                }
            | else-is_none u ↦ record {
              recorded = recorded;
              news = rw (w.part_masks-is, u.part_masks-is)
                  (news-again s₀ s c.if-get.store c.loop-m.part_masks.heard.items c.loop-m.part_masks.value.items
                  (ap (λ (h : HeardBits). h.first) store-is
                  ∙ first-kept s pos v (heard-is ∙ ap not u.if-is_none.false)) inv.news);
              marks = rw (w.part_masks-is, u.part_masks-is) inv.marks;
              bits = rw (w.part_masks-is, u.part_masks-is) inv.bits;
              none = rw (w.part_masks-is, u.part_masks-is, w.any-is, u.any-is) inv.none;
              fewer = fewer;
              cursors = next.cursors;
              places = places-are;
              given = given-are;
            }
          ]
      | else-get w ↦
          let none : heard_bit (heard_at places m) ≡ None = rw (here, ← c.get.ensures, w.if-get.false) refl in
          rw (w.store-is, w.part_masks-is, w.any-is) (record {
            recorded = λ hs e. rw (part-none b tx places m none) (inv.recorded hs e);
            news = inv.news;
            marks = inv.marks;
            bits = inv.bits;
            none = inv.none;
            fewer = inv.fewer;
            cursors = next.cursors;
            places = places-are;
            given = given-are;
          })
    ]

-- the record with all places of the part
recorded-whole : (b : Circular) (tx : Tx) (part : Part) (m : ℕ) (s₀ s : HeardBits) → part.count ≤ m → m ≤ part.count
    → ((hs : List Hearing) → s₀ ≡ record_of (length s₀.first) hs
    → s ≡ record_of (length s₀.first) (hs ++ part_hearings b tx (heards_of part) m))
    → (hs : List Hearing) → s₀ ≡ record_of (length s₀.first) hs
    → s ≡ record_of (length s₀.first) (hs ++ part_hearings b tx (heards_of part) (length (heards_of part)))
recorded-whole b tx part m s₀ s least most recorded hs e = grind (arith, length-heards)

pub returns-clause-stored : goal.returns-clause-stored
returns-clause-stored c = record {
  recorded = recorded-whole c.args.part.now.arrival.now.buffer.now c.args.part.now.arrival.now.tx.now c.args.part.now c.loop-m.m
      c.args.store.now c.loop-m.store
      (omega (arith, c.loop-m-test.false)) c.loop-m.auto.m-end c.loop-m.invariant.recorded;
  long = c.loop-m.invariant.news.long;
  fewer = c.loop-m.invariant.fewer;
}

pub returns-clause-news : goal.returns-clause-news
returns-clause-news c =
    record { marks = c.loop-m.invariant.marks; bits = c.loop-m.invariant.bits; news = c.loop-m.invariant.news }

pub returns-clause-none : goal.returns-clause-none
returns-clause-none c = λ nothing k.
    empty-bit c.loop-m.part_masks.heard.items (positions_on c.args.part.now.arrival.now.buffer.now) k
    (c.loop-m.invariant.none nothing).marks
