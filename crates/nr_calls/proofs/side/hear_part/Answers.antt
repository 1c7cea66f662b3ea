use Rattle.std.proofs.Common.{◌≡◌, ◌∙◌, ℕ, ◌+◌, ◌*◌, ◌^◌, ◌<◌, ◌≤◌, ap, arith, length, not, sym}
use Rattle.std.proofs.Math.Nat.{mul-le-mul_right}
use Rattle.std.proofs.Common.{subst}
use Rattle.std.specs.List.{count_by, range_with_len}
use Rattle.std.specs.Prelude.{slice_index}
use Rattle.nr_drawing.proofs.SideFacts.{among_few}
use Rattle.nr_graphpick.specs.declared.Graph.{Graph}
use Rattle.nr_graphpick.specs.declared.Graph.TheVariants.{One, Two}
use Rattle.nr_graphpick.specs.Graph.{cols_of, info_cols_of}
use Rattle.nr_ldpcenc.specs.Rows.{Checks, block_checks}
use Rattle.nr_peel.specs.Closure.{Within, closure}
use Rattle.nr_peel.specs.Slices.{slice}
use Rattle.nr_segment.specs.CodeBlock.{numbers}
use Rattle.nr_segment.specs.Plan.{Numbers}
use Rattle.nr_ratematch.specs.Selection.{Circular}
use Rattle.nr_blockdesk.proofs.LinkFacts.{link-buffer, link-circular}
use Rattle.nr_calls.proofs.SideHearingFacts.{part-heard}
use Rattle.nr_calls.proofs.side.hear_part.Goals as goal

-- a code block's words are as many as its buffer has positions
pub hear_slices-requires-clause-long : goal.hear_slices-requires-clause-long
hear_slices-requires-clause-long c = c.requires.long ∙ sym (ap (λ (b : Circular). cols_of b.graph * b.z)
    (c.buffer.ensures ∙ link-buffer c.args.link.now c.is_sound.ensures))

few_positions : (graph : Graph) (z : ℕ) → z ≤ 384 → cols_of graph * z < 2 ^ 32
few_positions One z most = omega (arith, most)
few_positions Two z most = omega (arith, most)

pub hear_slices-requires-clause-positions : goal.hear_slices-requires-clause-positions
hear_slices-requires-clause-positions c =
    let b = c.args.link.now.buffer in
    let most = (link-circular c.args.link.now c.is_sound.ensures).size_most in
    subst (λ (x : Circular). cols_of x.graph * x.z < 2 ^ 32) (sym c.buffer.ensures) (few_positions b.graph b.z most)

-- The places that arrived are told, and the words are closed. That holds before the extension columns, and so below K'.
pub returns-clause-hears : goal.returns-clause-hears
returns-clause-hears c = λ j r list lengths marks among block said long share fits same between.
    let short = among_few c.args.listed.now j c.requires.listed among in
    let link = c.args.link.now in
    let plan = c.plan-plan.result.now in
    let arrived = c.draw_side-erased.new.arrived in
    let as-long = c.draw_side-erased.ensures.long in
    let low : plan.kdash ≤ (info_cols_of plan.graph + 4) * plan.z =
    let more : info_cols_of plan.graph * plan.z ≤ (info_cols_of plan.graph + 4) * plan.z = mul-le-mul_right plan.z
    (omega arith) in
    omega (arith, plan.sound.held, plan.sound.columns, more) in
    let kdash : link.plan.kdash ≡ plan.kdash = sym (ap (λ (n : Numbers). n.kdash) c.plan-plan.ensures.numbers) in
    let told = c.hear_slices.new.known in
    let closed = c.close_low.new.known in
    let checks : block_checks c.table.result.now plan.graph (numbers plan) ≡ block_checks link.table link.graph link.plan =
    λ i. block_checks (c.table.ensures i) (c.plan-plan.ensures.graph i) (c.plan-plan.ensures.numbers i) in
    part-heard c.slices_between.ensures c.lacking_is_left.ensures link list c.args.tx.now lengths marks r j
    c.args.known.now arrived told closed (slice_index c.count_lacking-left.result j)
    c.is_sound.ensures said long block (share ∙ sym as-long) (omega (arith, fits, as-long))
    (λ m lt. let inside : m < length c.args.arrived.now = omega (arith, lt, as-long) in
    c.draw_side-erased.ensures.arrived j m among inside ∙ ap not (sym (same m inside)))
    between
    (λ p. (rw c.buffer.ensures at c.hear_slices.ensures.told) j p short)
    (c.close_low.ensures.kept j short)
    (subst (λ (k : Checks). Within (slice closed j) (closure k (slice told j))) checks (c.close_low.ensures.inside j short))
    (λ p lt. c.close_low.ensures.low j p short (omega (arith, low, lt, kdash))
    ∙ ap (λ (k : Checks). closure k (slice told j) p) checks)
    (c.count_lacking-left.ensures j short
    ∙ ap (λ n. count_by (λ p. not (slice closed j p)) (range_with_len 0 n)) (sym kdash))
