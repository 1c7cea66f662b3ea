-- The rows of a lane fixed their positions: their counts must know of all of these, and fall to none.
use Rattle.nr_peel.proofs.Common.{◌≡◌, ℕ, ◌+◌, ◌*◌, ◌<◌, ◌≤◌, ◌==◌, ◌&&◌, true, not, cond, List}
use Rattle.nr_peel.proofs.Common.{length, arith, nat_tests, refl, count_by, slice_index, cases_eq, bit, is_set, Checks, Lanes}
use Rattle.nr_peel.proofs.Common.{AreLanes, work_of, cases_Bool, get_or-le-sum_by, DueCounts, CountsOthers, NeedsNoLook, has_seen}
use Rattle.nr_peel.proofs.Common.{is_behind, unseen, RowsSettle, SeenLanes}
use Rattle.nr_peel.proofs.SeenCountFacts.{rested_seen, same_lanes, sum_none}

module _
    {W D : ℕ} {c : Checks} {i : ℕ} {old : Lanes W D} (before : DueCounts) (ones : List ℕ) (ir : i < c.rows)
    (few : c.rows ≤ 64) (lanes : AreLanes c old) (own : NeedsNoLook c i old.seen)
    (counted : CountsOthers c i ones old.seen before.items)
    (one : (t : ℕ) → t < c.lanes → is_set ones t ≡ true → slice_index before.items (i * c.lanes + t) ≡ 1)
    (whole : (t : ℕ) → t < c.lanes → is_set ones t ≡ true
    → count_by (λ p. not (bit old.known.items p)) (c.row i t) ≡ 0) where
  -- all positions of such a row are known, and so the counts know of them
  seen_all : (t m : ℕ) → t < c.lanes → is_set ones t ≡ true → m < length (c.row i t) → has_seen old.seen i m t ≡ true
  seen_all t m tl there ml = grind (
    arith,
    get_or-le-sum_by (λ p. cond (not (bit old.known.items p)) 1 0) (c.row i t) m 0 ml,
    whole t tl there,
    lanes.seen.fresh i t m ir tl ml,
    own t m tl ml,
  )

  unseen_none : (t : ℕ) → t < c.lanes → is_set ones t ≡ true → unseen c old.seen i t ≡ 0
  unseen_none t tl there =
      sum_none (λ m. cond (has_seen old.seen i m t) 0 1) (length (c.row i t)) (λ m ml. rw (seen_all t m tl there ml) refl)

  counted_at : (h t n : ℕ) → h < c.rows → t < c.lanes
      → n + cond ((i == h) && is_set ones t) 1 0 ≡ slice_index before.items (h * c.lanes + t) → n ≡ unseen c old.seen h t
  counted_at h t n hr tl falls =
      grind (arith, nat_tests, cases_eq i h, cases_Bool (is_set ones t), counted h t hr tl, unseen_none t tl, one t tl)

  pub settled : (seen : SeenLanes W) → seen ≡ record old.seen { behind = seen.behind }
      → ((h : ℕ) → h < 64 → is_behind seen h ≡ (is_behind old.seen h && not (i == h))) → (after : DueCounts)
      → ((h t : ℕ) → t < c.lanes
      → slice_index after.items (h * c.lanes + t) + cond ((i == h) && is_set ones t) 1 0
      ≡ slice_index before.items (h * c.lanes + t))
      → length after.items ≡ length before.items → after.lanes ≡ before.lanes → work_of after ≤ work_of before + 2
      → after.operations ≡ before.operations + 1 → RowsSettle c i ones old (record old { seen = seen }) before after
  settled seen same rests after falls counts_long counts_lanes worked paid = record {
    lanes = same_lanes old seen lanes (rw same (rested_seen c i old.known.items old.seen seen.behind lanes.seen few own rests));
    counted = rw same (λ h t hr tl. counted_at h t _ hr tl (falls h t tl));
    falls = falls;
    worked = worked;
    paid = paid;
    known = refl;
    bits = refl;
    counts_lanes = counts_lanes;
    counts_long = counts_long;
  }
