-- The items of a place list, one by one.
use Rattle.nr_files.proofs.Common.{◌≡◌, ℕ, ◌+◌, ◌<◌, Option, Some, None, List, [], ◌∷◌, ◌++◌, length}
use Rattle.nr_files.proofs.Common.{drop, get_or, ap, sym, ◌∙◌, refl, append_assoc, drop_more, ranges_of, PlaceRange}
use Rattle.nr_files.specs.PlaceLists.{range_of}
use Rattle.std.proofs.Common.{option_map}

-- ranges before those of the items that are left
abbrev pub with_ranges : List PlaceRange → Option (List PlaceRange) → Option (List PlaceRange)
with_ranges front said = option_map (λ more. front ++ more) said

with_ranges-more : (front : List PlaceRange) (range : PlaceRange) (said : Option (List PlaceRange))
    → with_ranges (front ++ range ∷ []) said ≡ with_ranges front (option_map (λ ranges. range ∷ ranges) said)
with_ranges-more front range None = refl
with_ranges-more front range (Some more) = ap Some (append_assoc front (range ∷ []) more)

module _ (all : List (List ℕ)) (n : ℕ) (item : List ℕ) (front : List PlaceRange) (within : n < length all)
    (is : item ≡ get_or all n item) (so_far : with_ranges front (ranges_of (drop n all)) ≡ ranges_of all) where
  -- one more item, which is a range
  pub items-more : (range : PlaceRange) → Some range ≡ range_of item
      → with_ranges (front ++ range ∷ []) (ranges_of (drop (n + 1) all)) ≡ ranges_of all
  items-more range told = with_ranges-more front range _ ∙ rw (drop_more all n item within, sym is, sym told) at so_far

  -- one more item, which is no range
  pub items-none : ◌≡◌ {A = Option PlaceRange} None (range_of item)
      → ◌≡◌ {A = Option (List PlaceRange)} None (ranges_of all)
  items-none told = rw (drop_more all n item within, sym is, sym told) at so_far
