-- What a round hears of one code block after the other.
use Rattle.std.proofs.Common.{◌≡◌, ℕ, ◌+◌, ◌<◌, ◌==◌, ◌||◌, ◌&&◌, ◌++◌}
use Rattle.std.proofs.Common.{◌∷◌, [], ◌∙◌, Bool, true, not, List, length}
use Rattle.std.proofs.Common.{ap, sym, subst, arith, inl, inr}
use Rattle.std.proofs.Common.{append_assoc, get_or-set_other, get_or-set_same, replicate, set}
use Rattle.std.proofs.lemmas.Bool.{cases_eq, cases_lt}
use Rattle.std.proofs.lemmas.List.{append-nil, length-set, replicate-append-replicate}
use Rattle.std.specs.List.{count_by, list_all, range_with_len, sum}
use Rattle.std.specs.Prelude.{Ok, slice_index, slice_index_or, take}
use Rattle.nr_bitvec.specs.Bit.{bit}
use Rattle.nr_peel.specs.Slices.{slice}
use Rattle.nr_blockdesk.specs.Explains.{Reception}
use Rattle.nr_blockdesk.specs.Link.{Link}
use Rattle.nr_blockdesk.specs.Sent.{lengths_or_none, tx_said}
use Rattle.nr_blockdesk.specs.Slices.{IsBetween}
use Rattle.nr_transmission.specs.declared.tx.Tx.{Tx}
use Rattle.nr_calls.specs.Simulating.{erased_in}
use Rattle.nr_calls.specs.inside.Batches.{AreWhole, Hears, HearsBelow, PassesBy, column, left_after, words_in}
use Rattle.nr_calls.specs.inside.Simulating.{drawn_reception}
use Rattle.nr_calls.specs.declared.batch.Batch.{Batch}
use Rattle.nr_calls.proofs.PlaceCountFacts.{entry-more}
use Rattle.nr_calls.proofs.RangeFacts.{all-more}

-- nothing has been heard of any code block yet
pub hears-none : (link : Link) (list : List Reception) (x : Tx × List Bool) (j : ℕ) (fixed : Bool) (batch : Batch)
    → fixed ≡ true → HearsBelow link list x j 0 fixed batch batch
hears-none link list x j fixed batch is = record {
  between = λ s lt. absurd (omega (arith, lt));
  left = sym (append-nil (column batch.left.items j));
  erased = sym (append-nil (column batch.erased.items j));
  fixed_is = is;
}

-- a position is left of one more code block, or none
goes-on : (before f now : Bool) (n : ℕ) → now ≡ (before || not (n == 0)) → not before ≡ f → not now ≡ (f && (n == 0))
goes-on before f now n is same = grind arith

-- how many places of a code block are erased, by the lengths of its transmission
pub erased-by : (link : Link) (tx : Tx) (marks : List Bool) (lengths : List ℕ) (r : ℕ) → tx_said link tx ≡ Ok lengths
    → erased_in link (tx, marks) r ≡ count_by (bit marks) (range_with_len (sum (take r lengths)) (slice_index lengths r))
erased-by link tx marks lengths r said =
    ap (λ (l : List ℕ). count_by (bit marks) (range_with_len (sum (take r l)) (slice_index l r))) (ap lengths_or_none said)

-- one more code block
module _ (link : Link) (list : List Reception) (x : Tx × List Bool) (j r : ℕ) (before now : Bool) (old mid new : Batch)
    (h : HearsBelow link list x j r (not before) old mid) (words : List ℕ) (left erased : ℕ)
    (own : slice_index_or (words_in new) r [] ≡ words)
    (others : (s : ℕ) → s < r → slice_index_or (words_in new) s [] ≡ slice_index_or (words_in mid) s [])
    (between : IsBetween link (list ++ drawn_reception x ∷ []) r (slice words j)) (left-is : left ≡ left_after link list x r)
    (erased-is : erased ≡ erased_in link x r)
    (more-left : column new.left.items j ≡ column mid.left.items j ++ left ∷ [])
    (more-erased : column new.erased.items j ≡ column mid.erased.items j ++ erased ∷ [])
    (now-is : now ≡ (before || not (left == 0))) where
  pub hears-more : HearsBelow link list x j (r + 1) (not now) old new
  hears-more = record {
    between = λ s lt. elim (cases_lt s r) [
      | inl below ↦
          subst (λ (w : List ℕ). IsBetween link (list ++ drawn_reception x ∷ []) s (slice w j)) (sym (others s below))
          (h.between s below)
      | inr past ↦
          let e : r ≡ s = omega (arith, lt, past) in
          subst (λ n. IsBetween link (list ++ drawn_reception x ∷ []) n (slice (slice_index_or (words_in new) n []) j)) e
          (subst (λ (w : List ℕ). IsBetween link (list ++ drawn_reception x ∷ []) r (slice w j)) (sym own) between)
    ];
    left = entry-more (left_after link list x) r left (column old.left.items j) (column mid.left.items j) _ more-left h.left
        left-is;
    erased = entry-more (erased_in link x) r erased (column old.erased.items j) (column mid.erased.items j) _ more-erased h.erased
        erased-is;
    fixed_is = goes-on before _ now left now-is h.fixed_is
        ∙ ap (λ n. list_all (λ s. left_after link list x s == 0) (range_with_len 0 r) && (n == 0)) left-is
        ∙ sym (all-more (λ s. left_after link list x s == 0) r);
  }

-- all code blocks
pub hears-all : (link : Link) (list : List Reception) (x : Tx × List Bool) (j r : ℕ) (fixed : Bool) (old new : Batch)
    → r ≡ link.plan.c → HearsBelow link list x j r fixed old new → Hears link list x j fixed old new
hears-all link list x j r fixed old new all h =
    let e : HearsBelow link list x j link.plan.c fixed old new = rw all at h in
    record { between = e.between; left = e.left; erased = e.erased; fixed_is = e.fixed_is }

-- nothing is found in a round that was delivered
pub passes-none : (j : ℕ) (batch : Batch) → PassesBy 0 j batch batch
passes-none j batch =
    record { left = sym (append-nil (column batch.left.items j)); erased = sym (append-nil (column batch.erased.items j)) }

pub passes-more : (j r : ℕ) (old mid new : Batch) → PassesBy r j old mid
    → column new.left.items j ≡ column mid.left.items j ++ 0 ∷ []
    → column new.erased.items j ≡ column mid.erased.items j ++ 0 ∷ [] → PassesBy (r + 1) j old new
passes-more j r old mid new h left erased = record {
  left = left ∙ ap (λ (l : List ℕ). l ++ 0 ∷ []) h.left ∙ append_assoc (column old.left.items j) (replicate r 0) (0 ∷ [])
      ∙ ap (λ (l : List ℕ). column old.left.items j ++ l) (replicate-append-replicate r 1 0);
  erased = erased ∙ ap (λ (l : List ℕ). l ++ 0 ∷ []) h.erased
      ∙ append_assoc (column old.erased.items j) (replicate r 0) (0 ∷ [])
      ∙ ap (λ (l : List ℕ). column old.erased.items j ++ l) (replicate-append-replicate r 1 0);
}

-- the words of one code block are new
pub whole-set : (link : Link) (words new : List (List ℕ)) (r : ℕ) (w : List ℕ) → AreWhole link words → new
    ≡ set words r w
    → length w ≡ length (slice_index_or words r []) → AreWhole link new
whole-set link words new r w whole is long = record {
  counted = ap length is ∙ length-set words r w ∙ whole.counted;
  long = λ s block. elim (cases_eq s r) [
    | inl e ↦
        ap (λ l. length (slice_index_or l s [])) is ∙ ap (λ n. length (slice_index_or (set words r w) n [])) e
        ∙ ap length (get_or-set_same words r w [] (omega (arith, block, whole.counted, e)))
        ∙ long ∙ ap (λ n. length (slice_index_or words n [])) (sym e) ∙ whole.long s block
    | inr ne ↦ ap (λ l. length (slice_index_or l s [])) is ∙ ap length (get_or-set_other words r s w [] ne)
        ∙ whole.long s block
  ];
}
