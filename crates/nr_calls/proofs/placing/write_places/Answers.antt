use Rattle.nr_calls.proofs.Common.{◌≡◌, ◌+◌, ◌*◌, ◌<◌, ◌≤◌, ℕ, get_or, length, sum, take, take_all, sym}
use Rattle.nr_calls.proofs.Common.{ap, subst, ◌∙◌, arith}
use Rattle.nr_calls.proofs.StageFacts.{columns-after}
use Rattle.nr_calls.proofs.PlaceCountFacts.{sum-more, sum-most}
use Rattle.nr_calls.proofs.PlacingFacts.{bit-carried, index-inside, part-more}
use Rattle.nr_interleave.specs.Interleaving.{seat_of}
use Rattle.nr_ratematch.specs.Selection.{place_of}
use Rattle.nr_blockdesk.specs.Sent.{IsMatching, position_at}
use Rattle.nr_calls.specs.{Placing.index_at, Placing.index_by, inside.Placings.placing_of}
use Rattle.nr_calls.proofs.placing.write_places.Goals as goal

-- Place `from + j` of all is place j of the code block's part.
pub loop-r-preserved : goal.loop-r-preserved
loop-r-preserved c =
    let placed = c.args.placed.now in
    let lengths = placed.lengths.items in
    let r = c.loop-r.r in
    let n = c.loop-r.from in
    let inv = c.loop-r.invariant in
    let part = c.write_part.new.out in
    let shares : c.deref.result.now ≡ lengths = c.deref.ensures.0 in
    let block : r < length lengths = omega (arith, c.len-r-end.ensures.value, c.loop-r-test.true, c.loop-r.auto.r-end) in
    let more : sum (take (r + 1) lengths) ≡ sum (take r lengths) + get_or lengths r 0 = sum-more lengths r block in
    let share : get_or c.deref.result.now r 0 ≡ get_or lengths r 0 = ap (λ xs. get_or xs r 0) shares in
    let long : length part ≡ get_or c.deref.result.now r 0 = omega (arith, c.write_part.auto.out) in
    let most = sum-most lengths r in
    let within : n ≤ length c.loop-r.out = omega (arith, inv.from, most, placed.shared.together, c.requires, c.loop-r.auto.out) in
    let p = placing_of placed in
    let at = λ (j : ℕ) (lt : j < length part). c.parts_are_at.ensures p.matching (n + j) r j (record {
      block = block;
      inside = omega (arith, lt, long, share);
      joined = omega (arith, inv.from);
    }) in
    let reach : n + length part ≡ n + get_or c.deref.result.now r 0 = ap (λ k. n + k) long in
    record {
      from = omega (arith, inv.from, more, share);
      each = λ m below. part-more (λ m v. v ≡ index_at p m) n _ c.loop-r.out part within inv.each
          (λ j lt.
          c.write_part.ensures j lt
          ∙ ap (λ e. index_by p r (place_of p.matching.buffer p.matching.rv (seat_of p.matching.qm e j)))
          (sym c.write_part.auto.out ∙ long ∙ share)
          ∙ ap (index_by p r) (sym (at j lt).1)
          ∙ ap (λ s. index_by p s (position_at p.matching (n + j))) (sym (at j lt).0)) m (omega (arith, below, reach));
    }

-- All are written. By the law of sent bits each is the index of the bit that is sent there.
pub returns : goal.returns
returns c =
    let placed = c.args.placed.now in
    let p = placing_of placed in
    let plan = placed.plan in
    let inv = c.loop-r.invariant in
    let lengths = placed.lengths.items in
    let done : c.loop-r.from ≡ sum lengths =
    inv.from ∙ ap sum (take_all c.loop-r.r lengths (omega (arith, c.loop-r-test.false, c.len-r-end.ensures.value))) in
    let all : length c.loop-r.out ≡ sum lengths = c.loop-r.auto.out ∙ c.requires ∙ sym placed.shared.together in
    let columns = placed.columns ∙ columns-after plan.graph plan.z plan.n plan.sound.coded
    ∙ ap (λ z. 2 * z + plan.n) (sym placed.lifted) in
    let matched : IsMatching p.matching = record {
      circular = placed.circular;
      version = placed.version;
      order_some = placed.shared.order_some;
      whole = placed.shared.whole;
    } in
    let written = λ (m : ℕ) (below : m < length c.loop-r.out). inv.each m (omega (arith, below, all, done)) in
    record {
      each = written;
      inside = λ m below.
          subst (λ k. k < length lengths * p.n) (sym (written m below))
          (index-inside p m (c.sent_bits_are_at.ensures p.matching m matched (omega (arith, below, all))) columns);
      carried = λ words m below.
          bit-carried c.sent_bits_are_at.ensures p words m _ matched columns (omega (arith, below, all)) (written m below);
    }
