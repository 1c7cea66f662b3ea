use Rattle.std.proofs.Common.{◌≡◌, ◌<◌, ◌==◌, ℕ, [], List, ap, arith, inl, inr}
use Rattle.std.proofs.Common.{length, map, sym}
use Rattle.std.proofs.Common.{false, subst, Vec, Global}
use Rattle.std.proofs.lemmas.Bool.{cases_eq}
use Rattle.std.proofs.lemmas.Bool.Decides.{nat_tests}
use Rattle.std.specs.Prelude.{slice_index}
use Rattle.nr_segment.specs.Plan.{Numbers}
use Rattle.nr_calls.specs.Simulating.{drawn_round}
use Rattle.nr_calls.specs.inside.Batches.{AreWhole}
use Rattle.nr_calls.proofs.BatchRoundFacts.{between-more, come-more}
use Rattle.nr_calls.proofs.SimulationFacts.{Laws, later-come, none-come}
use Rattle.nr_calls.proofs.batch.Batch.hear_all.Goals as goal
use Rattle.nr_calls.proofs.batch.Batch.hear_all.Goals.{then-is_empty+in_ok-pass, else-is_empty+in_ok-going}

abbrev items : Vec ℕ Global → List ℕ
items words = words.items

pub loop-k-init : goal.loop-k-init
loop-k-init c =
    record {
      whole = c.requires.whole;
      between = λ j lt none. c.requires.between j (omega (arith, lt, c.requires.rounds));
      come = λ j block lt whole.
          let round = drawn_round c.args.txs.now c.args.thresholds.now c.args.seeds.now j in
          rw (c.requires.fresh j, c.requires.left, c.requires.erased) (none-come c.args.link.now block round [] []);
    }

-- each open round hears the transmission, unless all are delivered
pub loop-k-preserved : goal.loop-k-preserved
loop-k-preserved c =
    let link = c.args.link.now in
    let txs = c.args.txs.now in
    let k = c.loop-k.k in
    let old = c.loop-k.self in
    let inv = c.loop-k.invariant in
    let round = λ (j : ℕ). drawn_round txs c.args.thresholds.now c.args.seeds.now j in
    let short = λ (j : ℕ) (lt : j < c.args.count). let s : j < 64 = omega (arith, lt, c.requires.rounds) in s in
    let laws : Laws = record {
      all = c.laws_of_rounds.ensures.all;
      decide = c.laws_of_rounds.ensures.decide;
      safe = c.laws_of_rounds.ensures.safe;
    } in
    elim c.if-is_empty.branch [
      | then-is_empty+in_ok-pass w ↦
          let plan-c = ap (λ (n : Numbers). n.c) w.plan.ensures.numbers in
          let passes = rw plan-c at w.in_ok-pass.ensures.passes in
          let none-listed : length c.open_rounds-listed.result.items ≡ 0 =
          grind (arith, nat_tests, c.is_empty.ensures, w.if-is_empty.true) in
          let some : (j : ℕ) → j < c.args.count → 0 < slice_index old.delivered j = λ j lt.
          elim (cases_eq (slice_index old.delivered j) 0) [
            | inl is ↦ absurd (omega (arith, (c.open_rounds-listed.ensures.among j lt is).1.0, none-listed))
            | inr ne ↦ omega (arith, ne)
          ] in
          rw w.self-is
          (record {
            whole = subst (λ (l : List (List ℕ)). AreWhole link l)
                (sym (ap (λ (v : Vec (Vec ℕ Global) Global). map items v.items) w.in_ok-pass.ensures.known)) inv.whole;
            between = λ j lt none. absurd
                (omega (arith, some j lt, none, ap (λ (l : List ℕ). slice_index l j) w.in_ok-pass.ensures.still));
            come = λ j block lt whole. rw w.in_ok-pass.ensures.still
                (later-come link block (round j) k (slice_index old.delivered j) [] [] _ _ _ _ (inv.come j block lt whole)
                (some j lt)
                (passes j (short j lt)).left (passes j (short j lt)).erased);
          })
      | else-is_empty+in_ok-going w ↦
          let found = w.in_ok-going.ensures in
          let same = λ (j : ℕ). ap (λ (l : List ℕ). slice_index l j) found.still in
          let listed = λ (j : ℕ) (lt : j < c.args.count) (is : slice_index old.delivered j ≡ 0).
          rw (← w.deref.ensures.0) at (c.open_rounds-listed.ensures.among j lt is) in
          let delivered = λ (j : ℕ) (lt : j < c.args.count). rw (same j) at (w.deliver.ensures j (short j lt)) in
          rw w.self-is
          (record {
            whole = found.whole;
            between = λ j lt none. elim (cases_eq (slice_index old.delivered j) 0) [
              | inl is ↦
                  between-more link txs c.args.thresholds.now c.args.seeds.now c.args.count j k _ c.requires.thresholds
                  c.requires.seeds
                  lt c.loop-k-test.true _ _ w.tx.ensures (w.seeds_of-own.ensures j lt) _ old _
                  (found.hears j _ (listed j lt is) is (inv.between j lt is))
              | inr ne ↦ absurd (grind (arith, nat_tests, delivered j lt, ne, none))
            ];
            come = λ j block lt whole. elim (cases_eq (slice_index old.delivered j) 0) [
              | inl is ↦
                  let e = rw is at (delivered j lt) in
                  rw e (come-more link txs c.args.thresholds.now c.args.seeds.now c.args.count j k _ c.requires.thresholds
                  c.requires.seeds lt c.loop-k-test.true _ _ w.tx.ensures (w.seeds_of-own.ensures j lt) _ old _
                  (found.hears j _ (listed j lt is) is (inv.between j lt is)) laws c.is_sound.ensures c.requires.accepted block
                  whole (rw is at (inv.come j block lt whole)))
              | inr ne ↦
                  let not-none : (slice_index old.delivered j == 0) ≡ false = grind (arith, nat_tests) in
                  let e = rw not-none at (delivered j lt) in
                  let passes = found.passes j (short j lt) not-none in
                  rw e (later-come link block (round j) k (slice_index old.delivered j) [] [] _ _ _ _ (inv.come j block lt whole)
                  (omega (arith, ne)) passes.left passes.erased)
            ];
          })
    ]

pub returns-clause-come : goal.returns-clause-come
returns-clause-come c =
    let all : c.loop-k.k ≡ length c.args.txs.now = omega (arith, c.loop-k-test.false, c.loop-k.auto.k-end) in
    rw all at c.loop-k.invariant.come
