-- What a round hears of a code block's part of a transmission, beside the other rounds.
use Rattle.std.proofs.Common.{◌≡◌, ℕ, zero, suc, ◌+◌, ◌<◌, ◌≤◌, ◌||◌, Bool}
use Rattle.std.proofs.Common.{false, not, List, [], ◌∷◌, ◌++◌, Ok}
use Rattle.std.proofs.Common.{length, map, take, refl, sym, ap, ◌∙◌, arith}
use Rattle.std.proofs.lemmas.List.{get_or-map, length-map}
use Rattle.std.specs.List.{count_by, range_with_len, sum}
use Rattle.std.specs.Prelude.{slice_index}
use Rattle.nr_bitvec.specs.Bit.{bit}
use Rattle.nr_ldpcenc.specs.Rows.{block_checks}
use Rattle.nr_peel.specs.Closure.{Within, closure}
use Rattle.nr_peel.specs.Slices.{slice}
use Rattle.nr_ratematch.specs.Selection.{Circular}
use Rattle.nr_blockdesk.specs.Explains.{Reception, heard_at}
use Rattle.nr_blockdesk.specs.Heard.{heard_record}
use Rattle.nr_blockdesk.specs.Link.{IsLink, Link}
use Rattle.nr_blockdesk.specs.Marks.{heards}
use Rattle.nr_blockdesk.specs.Outcome.{left}
use Rattle.nr_blockdesk.specs.PlacesLaws.{is_received}
use Rattle.nr_blockdesk.specs.Sent.{tx_said}
use Rattle.nr_blockdesk.specs.Slices.{IsBetween, LackingIsLeft, SlicesFollowBetween, is_brought}
use Rattle.nr_blockdesk.specs.declared.heard.Heard.TheVariants as heard
use Rattle.nr_transmission.specs.declared.tx.Tx.{Tx}
use Rattle.nr_calls.specs.inside.Simulating.{drawn_reception}
use Rattle.nr_calls.proofs.AcceptedFacts.{long-heards}
use Rattle.nr_calls.proofs.SimulationFacts.{received-heards}

-- places that are alike tell alike, beside what was known
told-same : (b : Circular) (rv qm e : ℕ) (f g : ℕ → Bool) (n p : ℕ) (known : Bool) → ((m : ℕ) → m < n → f m ≡ g m)
    → (known || is_brought b rv qm e f n p) ≡ (known || is_brought b rv qm e g n p)
told-same b rv qm e f g zero p known same = refl
told-same b rv qm e f g (suc n) p known same =
    grind (arith, told-same b rv qm e f g n p known (λ m lt. same m (omega (arith, lt))), same n (omega arith))

-- a bit is received at a place that is not drawn
received-drawn : (marks : List Bool) (m : ℕ) → m < length marks
    → is_received (heard_at (heards (map not marks) marks) m) ≡ not (bit marks m)
received-drawn marks m inside =
    let places = heards (map not marks) marks in
    let long : length places ≡ length marks = long-heards (map not marks) marks ∙ length-map marks not in
    sym (get_or-map is_received places m heard.Erased false (omega (arith, inside, long)))
    ∙ ap (λ (l : List Bool). bit l m) (received-heards (map not marks) marks)
    ∙ get_or-map not marks m false false inside

module _ (follows : SlicesFollowBetween) (lacking : LackingIsLeft) (link : Link) (list : List Reception) (tx : Tx)
    (lengths : List ℕ) (marks : List Bool) (r j : ℕ) (known arrived told closed : List ℕ) (count : ℕ) where
  pub part-heard : IsLink link → tx_said link tx ≡ Ok lengths → length marks ≡ tx.g → r < link.plan.c
      → slice_index lengths r ≡ length arrived → sum (take r lengths) + length arrived ≤ tx.g
      → ((m : ℕ) → m < length arrived → slice arrived j m ≡ not (bit marks (sum (take r lengths) + m)))
      → IsBetween link list r (slice known j)
      → ((p : ℕ) → slice told j p
      ≡ (slice known j p || is_brought link.buffer tx.rv tx.qm (length arrived) (slice arrived j) (length arrived) p))
      → Within (slice told j) (slice closed j)
      → Within (slice closed j) (closure (block_checks link.table link.graph link.plan) (slice told j))
      → ((p : ℕ) → p < link.plan.kdash
      → slice closed j p ≡ closure (block_checks link.table link.graph link.plan) (slice told j) p)
      → count ≡ count_by (λ p. not (slice closed j p)) (range_with_len 0 link.plan.kdash)
      → IsBetween link (list ++ drawn_reception (tx, marks) ∷ []) r (slice closed j)
      × (count ≡ left link (heard_record link (list ++ drawn_reception (tx, marks) ∷ [])) r)
  part-heard is said long block share fits same between told_is up inside low counted =
      let start = sum (take r lengths) in
      let places = heards (map not marks) marks in
      let whole : length places ≡ tx.g = long-heards (map not marks) marks ∙ length-map marks not ∙ long in
      let alike : (m : ℕ) → m < length arrived → slice arrived j m ≡ is_received (heard_at places (start + m)) = λ m lt.
      same m lt ∙ sym (received-drawn marks (start + m) (omega (arith, fits, lt, long))) in
      let now : (p : ℕ) → slice told j p ≡ (slice known j p || is_brought link.buffer tx.rv tx.qm (slice_index lengths r)
      (λ m. is_received (heard_at places (start + m))) (slice_index lengths r) p) = λ p.
      told_is p
      ∙ told-same link.buffer tx.rv tx.qm (length arrived) (slice arrived j)
      (λ m. is_received (heard_at places (start + m))) (length arrived) p (slice known j p) alike
      ∙ ap (λ e. slice known j p || is_brought link.buffer tx.rv tx.qm e (λ m. is_received (heard_at places (start + m))) e p)
      (sym share) in
      let next = follows link list tx lengths places r (slice known j) (slice told j) (slice closed j) is said whole block between
      now up inside in (
        next.0,
        counted ∙ sym (lacking link (list ++ drawn_reception (tx, marks) ∷ []) r (slice closed j)
            (λ p lt. next.1 p (low p lt))),
      )
