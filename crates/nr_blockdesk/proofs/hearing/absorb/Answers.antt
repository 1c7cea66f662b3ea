use Rattle.nr_blockdesk.proofs.Common.{◌≡◌, ◌∙◌, Bool, List, ap, length, subst, sym, marks_in, Marks, HeardBits, Fits}
use Rattle.nr_blockdesk.proofs.{Common.IsNews, MergingFacts.fewer-merged, MergingFacts.news-merged, MergingFacts.recorded-all}
use Rattle.nr_blockdesk.proofs.hearing.absorb.Goals.{After-hear_all}
use Rattle.nr_bitvec.specs.BitList.{BitList}
use Rattle.nr_blockdesk.proofs.hearing.absorb.Goals as goal

-- only the marks of positions received for the first time are left
news : (c : After-hear_all)
    → IsNews c.args.store.now c.hear_all.new.self c.hear_all.new.marks.heard.items c.hear_all.new.marks.value.items
news c =
    let s : HeardBits = c.args.store.now in
    let m : Marks = marks_in c.args.part_masks.now in
    let bits : m.bits ≡ c.hear_all.new.marks.value.items = ap (λ (v : BitList). v.items) (sym c.hear_all.ensures.bits) in
    subst (λ (l : List Bool). IsNews s c.hear_all.new.self c.hear_all.new.marks.heard.items l) bits
    (subst (λ (t : HeardBits). IsNews s t c.hear_all.new.marks.heard.items m.bits) (sym c.hear_all.ensures.merged)
    (news-merged s m (sym c.requires.long) c.hear_all.new.marks.heard.items c.hear_all.ensures.news))

-- a record with marks merged into it is that of the hearings that they mark
pub returns-clause-stored : goal.returns-clause-stored
returns-clause-stored c = λ more are.
    let s : HeardBits = c.args.store.now in
    let m : Marks = marks_in c.args.part_masks.now in
    let long : length m.at ≡ length s.first = sym c.requires.long in
    let is = c.hear_all.ensures.merged in
    record {
      recorded = recorded-all c.record_merges.ensures s c.hear_all.new.self m more long is are;
      long = (news (goal.at.returns-clause-stored c).After-hear_all).long;
      fewer = λ w fits. fewer-merged s m long w (subst (λ (t : HeardBits). Fits t w) is fits);
    }

pub returns-clause-news : goal.returns-clause-news
returns-clause-news c = record {
  marks = c.hear_all.ensures.long;
  bits = ap (λ (v : BitList). length v.items) c.hear_all.ensures.bits ∙ c.args.part_masks.now.both;
  news = news (goal.at.returns-clause-news c).After-hear_all;
}
