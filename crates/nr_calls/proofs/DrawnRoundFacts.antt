-- The transmissions of a round, each with its marks.
use Rattle.nr_calls.proofs.Common.{◌≡◌, ◌≤◌, ◌∷◌, length-drop, length-map, map-append, AreAccepted, drawn_round}
use Rattle.nr_calls.proofs.Common.{◌+◌, ◌*◌, ◌<◌, ◌++◌, add-one, length, ◌∙◌, suc-mul, take_more, drawn_txs}
use Rattle.nr_calls.proofs.Common.{mul-le-mul_right, get_or-map, length-take-le, length-marks_drawn, drawn_reception, erased_counts}
use Rattle.nr_calls.proofs.Common.{ℕ, Bool, List, [], map, take, drop, get_or, sym, ap, subst, arith, Link, Tx, NrTx}
use Rattle.nr_calls.specs.Simulating.{drawn_tx}
use Rattle.std.proofs.{Common.All, lemmas.List.Elements.All-map, lemmas.Slice.Zip.get_or-zip, lemmas.Slice.Zip.length-zip}
use Rattle.std.specs.List.{zip}
use Rattle.nr_blockdesk.specs.ReceiverLaws.{IsMarked}

module _ (txs : List NrTx) (thresholds seeds : List ℕ) (as-many : length thresholds ≡ length txs)
    (as-many-too : length seeds ≡ length txs) where
  abbrev triples : List ((NrTx × ℕ) × ℕ)
  triples = zip (zip txs thresholds) seeds

  long-triples : length triples ≡ length txs
  long-triples = omega (arith, length-zip (zip txs thresholds) seeds, length-zip txs thresholds, as-many, as-many-too)

  triple-at : (k : ℕ) (d : (NrTx × ℕ) × ℕ) → k < length txs
      → get_or triples k d ≡ ((get_or txs k d.0.0, get_or thresholds k d.0.1), get_or seeds k d.1)
  triple-at k d inside =
      get_or-zip (zip txs thresholds) seeds k d (omega (arith, inside, as-many, length-zip txs thresholds))
      (omega (arith, inside, as-many-too))
      ∙ ap (λ (p : NrTx × ℕ). (p, get_or seeds k d.1))
      (get_or-zip txs thresholds k d.0 inside (omega (arith, inside, as-many)))

  pub long-round : length (drawn_txs txs thresholds seeds) ≡ length txs
  long-round = length-map triples drawn_tx ∙ long-triples

  pub round-marked : (link : Link) → AreAccepted link txs → All (IsMarked link) (drawn_txs txs thresholds seeds)
  round-marked link accepted =
      All-map (IsMarked link) drawn_tx triples
      (λ k d inside.
      let below : k < length txs = omega (arith, inside, long-triples) in
      subst (λ (z : (NrTx × ℕ) × ℕ). IsMarked link (drawn_tx z)) (sym (triple-at k d below))
      (accepted k d.0.0 below, length-marks_drawn (get_or thresholds k d.0.1) (get_or txs k d.0.0).g _))

  -- transmission k
  module _ (k : ℕ) (t : NrTx) (inside : k < length txs) where
    abbrev pub own : Tx × List Bool
    own = drawn_tx ((get_or txs k t, get_or thresholds k 0), get_or seeds k 0)

    pub own-at : (d : Tx × List Bool) → get_or (drawn_txs txs thresholds seeds) k d ≡ own
    own-at d = get_or-map drawn_tx triples k ((t, 0), 0) d (omega (arith, inside, long-triples))
        ∙ ap drawn_tx (triple-at k ((t, 0), 0) inside)

    pub heard-more : map drawn_reception (take (k + 1) (drawn_txs txs thresholds seeds))
        ≡ map drawn_reception (take k (drawn_txs txs thresholds seeds)) ++ drawn_reception own ∷ []
    heard-more =
        ap (map drawn_reception) (take_more (drawn_txs txs thresholds seeds) k own (omega (arith, inside, long-round)))
        ∙ map-append drawn_reception (take k (drawn_txs txs thresholds seeds))
        (get_or (drawn_txs txs thresholds seeds) k own ∷ [])
        ∙ ap (λ (x : Tx × List Bool). map drawn_reception (take k (drawn_txs txs thresholds seeds)) ++ drawn_reception x ∷ [])
        (own-at own)

    pub counts-at : (link : Link)
        → get_or (map (erased_counts link) (drawn_txs txs thresholds seeds)) k [] ≡ erased_counts link own
    counts-at link = get_or-map (erased_counts link) (drawn_txs txs thresholds seeds) k own [] (omega (arith, inside, long-round))
        ∙ ap (erased_counts link) (own-at own)

-- each round has a transmission for each that is sent
pub rounds-long : (txs : List NrTx) (thresholds seeds : List ℕ) (n i : ℕ) → length thresholds ≡ length txs
    → length seeds ≡ n * length txs → i < n
    → length (drawn_round txs thresholds seeds i) ≡ length txs
rounds-long txs thresholds seeds n i as-many as-many-too inside =
    let t : ℕ = length txs in
    let next : i + 1 ≤ n = omega (arith, inside) in
    let fits : (i + 1) * t ≤ n * t = mul-le-mul_right t next in
    let split : (i + 1) * t ≡ i * t + t = ap (λ k. k * t) (add-one i) ∙ suc-mul i t in
    let enough : t ≤ length (drop (i * t) seeds) = omega (arith, fits, split, length-drop (i * t) seeds, as-many-too) in
    long-round txs thresholds (take t (drop (i * t) seeds)) as-many (length-take-le t (drop (i * t) seeds) enough)
