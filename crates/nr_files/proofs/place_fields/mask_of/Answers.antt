use Rattle.nr_files.proofs.Common.{Some, false, ap, get_or, sym, refl, ◌∙◌, arith, get_or-map-range_with_len, list_any}
use Rattle.nr_files.{proofs.Common.is_within, specs.Masks.mask_of}
use Rattle.nr_files.proofs.place_fields.mask_of.Goals as goal

-- the marks are those of the code blocks that the places name
pub returns-in_ok-marks-in-Some-Listed-clause-said : goal.returns-in_ok-marks-in-Some-Listed-clause-said
unfolding mask_of
returns-in_ok-marks-in-Some-Listed-clause-said c =
    let places = sym c.in_ok-places_of.ensures ∙ c.in-Some-Listed.is ∙ ap Some c.in-Some-Listed.field-0-is in
    rw (
      places,
      c.of_marks.ensures.words,
      c.deref.ensures.value,
      c.in_ok-marks-in-Some-Listed.ensures,
      c.ranges-in-Some-Listed.ensures,
    ) refl

pub returns-in_ok-marks-in-Some-Listed-clause-schedules : goal.returns-in_ok-marks-in-Some-Listed-clause-schedules
returns-in_ok-marks-in-Some-Listed-clause-schedules c =
    let places = sym c.in_ok-places_of.ensures ∙ c.in-Some-Listed.is ∙ ap Some c.in-Some-Listed.field-0-is in
    let ranges = c.ranges-in-Some-Listed.result.now in
    rw places (λ r few. c.of_marks.ensures.marked r few
    ∙ ap (λ xs. get_or xs r false) (c.deref.ensures.value ∙ c.in_ok-marks-in-Some-Listed.ensures)
    ∙ get_or-map-range_with_len (λ n. list_any (is_within n) ranges) 0 384 r r false few (omega arith)
    ∙ ap (list_any (is_within r)) c.ranges-in-Some-Listed.ensures)
