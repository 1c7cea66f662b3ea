use Rattle.nr_harqbuf.proofs.Common.{◌≡◌, ◌∙◌, Bool, List, length, sym, ap, HeardBits, marks_with, record_by}
use Rattle.nr_harqbuf.proofs.KeptBitFacts.{length-kept}
use Rattle.nr_harqbuf.proofs.store.Store.copy_from.Goals as goal

-- what a buffer keeps is as long as its record
kept-long : (heard value : List Bool) (clash : Bool) (s : HeardBits) → record_by (marks_with heard value) clash ≡ s
    → length heard ≡ length s.first
kept-long heard value clash s is = sym (length-kept heard value) ∙ ap (λ (s : HeardBits). length s.first) is

-- both have as many positions
pub copy_bits-requires : goal.copy_bits-requires
copy_bits-requires c = kept-long _ _ _ _ c.self.view_is ∙ c.requires ∙ sym (kept-long _ _ _ _ c.from.view_is)

pub invariant_of-self-inside : goal.invariant_of-self-inside
invariant_of-self-inside c = record {
  both = c.self.inside.marks.both ∙ kept-long _ _ _ _ c.self.view_is ∙ c.requires ∙ sym (kept-long _ _ _ _ c.from.view_is)
      ∙ sym (ap length c.copy_bits.ensures);
}
