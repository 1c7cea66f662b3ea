use Rattle.nr_blockdesk.proofs.Common.{◌≡◌, ℕ, ◌<◌, Bool, true, false, List, length, refl, sym, ap, subst, ◌∙◌}
use Rattle.nr_blockdesk.proofs.Common.{arith}
use Rattle.nr_blockdesk.proofs.Common.{Option, Some, None}
use Rattle.nr_blockdesk.proofs.Common.{first_at, is_heard, first_heard, heard_as, HeardBits, Hearing, Fits, Marks, marks_in}
use Rattle.nr_blockdesk.proofs.Common.{marks_with}
use Rattle.nr_blockdesk.proofs.Common.{get_or, length-set, cols_of, ◌*◌, ◌||◌, heards_of, part_hearings, received_marks}
use Rattle.nr_blockdesk.proofs.Common.{with_hearing}
use Rattle.nr_blockdesk.specs.inside.{Receiving.StoresAll}
use Rattle.nr_blockdesk.proofs.{SelectedBitFacts.says-part, HearingFacts.first-kept, HearingFacts.first-set}
use Rattle.nr_blockdesk.proofs.{HearingFacts.fits-before, HearingFacts.news-again}
use Rattle.nr_blockdesk.proofs.MergingFacts.{fewer-merged, marks}
use Rattle.nr_blockdesk.proofs.SettlingFacts.{first-told, marked-told, marks-told, settled-start, twice-recorded}
use Rattle.nr_bitvec.specs.Marks.{marked_bit}
use Rattle.nr_harqbuf.specs.Marks.{merge_of}
use Rattle.nr_blockdesk.proofs.hearing.store_firsts.Goals as goal

-- the two lists have what all places tell
pub settle-both-requires : goal.settle-both-requires
settle-both-requires c =
    let part = c.args.part.now in
    let arrival = part.arrival.now in
    let b = arrival.buffer.now in
    let tx = arrival.tx.now in
    record {
      settled = settled-start b tx (heards_of part) (marks_in c.gather_told.new.told)
          (λ p v. c.gather_told.ensures.told p v
          ∙ says-part b tx arrival.marks.now.heard.items arrival.marks.now.value.items
          (received_marks c.load.new.self) c.load.new.self.value.items part.from part.count arrival.shared.order_some part.whole
          part.inside arrival.marks.now.both c.load.ensures.marks c.load.ensures.bits p v)
          c.gather_told.ensures.long;
    }

-- a position that was told both bits, after the first bits were received
module _ (s s1 s2 t : HeardBits) (m : Marks) (more : List Hearing) (q : ℕ) (long : length m.at ≡ length s.first)
    (inside : q < length s.first)
    (firsts : (p : ℕ) → marked_bit m p ≡ first_heard more p) (both : (v : Bool) → heard_as more q v ≡ true)
    (merged : s1 ≡ merge_of s m) (one : s2 ≡ with_hearing s1 (q, false)) (two : t ≡ with_hearing s2 (q, true)) where
  heard-once : is_heard (first_at s1 q) ≡ true
  heard-once =
      let mark = marked-told more m q firsts (both true) in
      ap (λ x. is_heard (first_at x q)) merged ∙ marks s m long q ∙ ap (λ a. is_heard (first_at s q) || a) mark
      ∙ or-true (is_heard (first_at s q))
    where
      or-true : (a : Bool) → (a || true) ≡ true
      or-true true = refl
      or-true false = refl

  firsts-once : s2.first ≡ s1.first
  firsts-once = ap (λ (x : HeardBits). x.first) one ∙ first-kept s1 q false heard-once

  heard-twice : is_heard (first_at s2 q) ≡ true
  heard-twice = ap (λ (xs : List (Option Bool)). is_heard (get_or xs q None)) firsts-once ∙ heard-once

  same-firsts : t.first ≡ s1.first
  same-firsts = ap (λ (x : HeardBits). x.first) two ∙ first-kept s2 q true heard-twice ∙ firsts-once

  stores-both : length s1.first ≡ length s.first → StoresAll more s t
  stores-both as-long = record {
    recorded = λ hs e.
        two ∙ ap (λ x. with_hearing x (q, true))
        (one ∙ ap (λ x. with_hearing x (q, false)) (merged ∙ ap (λ r. merge_of r m) e))
        ∙ twice-recorded (length s.first) hs more m q firsts inside both;
    long = ap length same-firsts ∙ as-long;
    fewer = λ w fits. fewer-merged s m long w (subst (λ x. Fits x w) merged (fits-before s1 q false w (subst (λ x. Fits x w) one
        (fits-before s2 q true w (subst (λ x. Fits x w) two fits)))));
  }

-- one more hearing is of a record of as many positions
length-more : (s : HeardBits) (q : ℕ) (v : Bool) → length (with_hearing s (q, v)).first ≡ length s.first
length-more s q v = go (is_heard (first_at s q)) refl
  where
    go : (b : Bool) → is_heard (first_at s q) ≡ b → length (with_hearing s (q, v)).first ≡ length s.first
    go true e = ap length (first-kept s q v e)
    go false e = ap length (first-set s q v e) ∙ length-set s.first q (Some v)

-- the record has all positions
pub hear-requires-in-Some : goal.hear-requires-in-Some
hear-requires-in-Some c =
    let settled = c.settle-both.ensures.settled in
    let inside = (settled.clash c.in-Some.pos c.in-Some.is).0 in
    let long = c.absorb-any.ensures.news.news.long in
    let same : length c.hear.new.self.first ≡ length c.absorb-any.new.store.first =
    ap (λ (x : HeardBits). length x.first) c.hear.ensures ∙ length-more c.absorb-any.new.store c.in-Some.pos false in
    omega (arith, inside, settled.long, c.requires.long, long, same)

pub returns-in-Some-clause-stored : goal.returns-in-Some-clause-stored
returns-in-Some-clause-stored c =
    let part = c.args.part.now in
    let b = part.arrival.now.buffer.now in
    let tx = part.arrival.now.tx.now in
    let told = marks_in c.settle-both.new.told in
    let m = marks_with c.union_with.new.self.items c.settle-both.new.told.value.items in
    let settled = c.settle-both.ensures.settled in
    let both = settled.clash c.in-Some.pos c.in-Some.is in
    let more = part_hearings b tx (heards_of part) (length (heards_of part)) in
    stores-both c.args.store.now c.absorb-any.new.store c.hear.new.self c.hear-in-Some.new.self m more c.in-Some.pos
    (c.union_with.ensures.long ∙ settled.long ∙ sym c.requires.long) (omega (arith, both.0, settled.long, c.requires.long))
    (first-told more told m settled.is refl c.union_with.ensures.joined) both.1 c.absorb-any.ensures.merged c.hear.ensures
    c.hear-in-Some.ensures c.absorb-any.ensures.news.news.long

pub returns-in-Some-clause-news : goal.returns-in-Some-clause-news
returns-in-Some-clause-news c =
    let part = c.args.part.now in
    let b = part.arrival.now.buffer.now in
    let tx = part.arrival.now.tx.now in
    let told = marks_in c.settle-both.new.told in
    let m = marks_with c.union_with.new.self.items c.settle-both.new.told.value.items in
    let settled = c.settle-both.ensures.settled in
    let both = settled.clash c.in-Some.pos c.in-Some.is in
    let more = part_hearings b tx (heards_of part) (length (heards_of part)) in
    let news = c.absorb-any.ensures.news in
    let long : length c.union_with.new.self.items ≡ cols_of b.graph * b.z = c.union_with.ensures.long ∙ settled.long in
    record {
      marks = news.marks ∙ long;
      bits = news.bits ∙ long;
      news = news-again c.args.store.now c.absorb-any.new.store c.hear-in-Some.new.self
          c.absorb-any.new.part_masks.heard.items c.absorb-any.new.part_masks.value.items
          (same-firsts c.args.store.now c.absorb-any.new.store c.hear.new.self c.hear-in-Some.new.self m more c.in-Some.pos
          (c.union_with.ensures.long ∙ settled.long ∙ sym c.requires.long)
          (omega (arith, both.0, settled.long, c.requires.long))
          (first-told more told m settled.is refl c.union_with.ensures.joined) both.1 c.absorb-any.ensures.merged
          c.hear.ensures c.hear-in-Some.ensures) news.news;
    }

-- no position is told both bits
pub returns-in_default-clause-stored : goal.returns-in_default-clause-stored
returns-in_default-clause-stored c =
    let part = c.args.part.now in
    let b = part.arrival.now.buffer.now in
    let tx = part.arrival.now.tx.now in
    let told = marks_in c.settle-both.new.told in
    let m = marks_with c.union_with.new.self.items c.settle-both.new.told.value.items in
    let settled = c.settle-both.ensures.settled in
    let more = part_hearings b tx (heards_of part) (length (heards_of part)) in
    c.absorb-any.ensures.stored more (marks-told more told m settled.is refl c.union_with.ensures.joined
    (settled.none c.in_default.is))
