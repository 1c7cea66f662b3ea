-- One more transmission of each round of a batch, and all of its rounds.
use Rattle.nr_calls.proofs.Common.{◌≡◌, ℕ, zero, suc, ◌+◌, ◌-◌, ◌*◌, ◌<◌, ◌≤◌, ◌++◌, ◌∷◌}
use Rattle.nr_calls.proofs.Common.{[], ◌∙◌, Bool, if◌then◌else◌, List, length, map, add-one, ap, sym, refl, subst}
use Rattle.nr_calls.proofs.Common.{arith, get_or, take, drop, length-drop, add-mul, mul-le-mul_right, suc-mul, append-nil}
use Rattle.nr_calls.proofs.Common.{drop-drop, get_or-drop, get_or-take, length-take-le, map-range_with_len_more, range_with_len}
use Rattle.nr_calls.proofs.Common.{slice_index, places_drawn, Reception, heard_record, IsBlock, IsLink, Link, Tx, tx_of, Simulation}
use Rattle.nr_calls.proofs.Common.{drawn_round, drawn_txs, erased_counts, simulated, AreBetween, Hears, column, words_in}
use Rattle.nr_calls.proofs.{Common.AreAccepted, Common.drawn_reception, Common.Batch, Common.NrTx, PlaceCountFacts.entry-more}
use Rattle.nr_calls.specs.Simulating.{delivered_within, erased_row, left_row, simulation}
use Rattle.nr_calls.proofs.DrawnRoundFacts.{counts-at, heard-more, own, round-marked}
use Rattle.nr_calls.{specs.inside.Batches.HasCome, proofs.SimulationFacts.Laws, proofs.SimulationFacts.heard-come}
use Rattle.nr_calls.proofs.SimulationFacts.{rows-more}
use Rattle.std.{proofs.Math.Seq.take-take, proofs.lemmas.List.drop-take, specs.List.flat_map}

-- the seeds of round j
own-long : (seeds : List ℕ) (t n j : ℕ) → length seeds ≡ n * t → j < n → length (take t (drop (j * t) seeds)) ≡ t
own-long seeds t n j all inside =
    let next : j + 1 ≤ n = omega (arith, inside) in
    let fits : (j + 1) * t ≤ n * t = mul-le-mul_right t next in
    let split : (j + 1) * t ≡ j * t + t = ap (λ k. k * t) (add-one j) ∙ suc-mul j t in
    length-take-le t (drop (j * t) seeds) (omega (arith, fits, split, length-drop (j * t) seeds, all))

module _ (link : Link) (txs : List NrTx) (thresholds seeds : List ℕ) (n j k : ℕ) (t : NrTx)
    (as-many : length thresholds ≡ length txs) (all : length seeds ≡ n * length txs) (below : j < n) (inside : k < length txs)
    (tx : Tx) (seed : ℕ) (tx-is : tx ≡ tx_of (get_or txs k t)) (seed-is : seed ≡ slice_index seeds (j * length txs + k)) where
  abbrev ours : List ℕ
  ours = take (length txs) (drop (j * length txs) seeds)

  abbrev x : Tx × List Bool
  x = (tx, places_drawn seed (get_or thresholds k 0) tx.g)

  abbrev before : List Reception
  before = map drawn_reception (take k (drawn_round txs thresholds seeds j))

  many-ours : length ours ≡ length txs
  many-ours = own-long seeds (length txs) n j all below

  x-is : x ≡ own txs thresholds ours as-many many-ours k t inside
  x-is =
      let e : seed ≡ get_or ours k 0 =
      seed-is ∙ sym (get_or-take (length txs) (drop (j * length txs) seeds) k 0 inside
      ∙ get_or-drop (j * length txs) seeds k 0) in
      λ i. (tx-is i, places_drawn (e i) (get_or thresholds k 0) (tx-is i).g)

  list-is : map drawn_reception (take (k + 1) (drawn_round txs thresholds seeds j)) ≡ before ++ drawn_reception x ∷ []
  list-is = heard-more txs thresholds ours as-many many-ours k t inside
      ∙ ap (λ (y : Tx × List Bool). before ++ drawn_reception y ∷ []) (sym x-is)

  module _ (fixed : Bool) (old new : Batch) (h : Hears link before x j fixed old new) where
    pub between-more : AreBetween link (map drawn_reception (take (k + 1) (drawn_round txs thresholds seeds j))) j (words_in new)
    between-more = subst (λ (l : List Reception). AreBetween link l j (words_in new)) (sym list-is) h.between

    pub come-more : Laws → IsLink link → AreAccepted link txs → (block : List Bool) → IsBlock link block
        → HasCome link block (drawn_round txs thresholds seeds j) k 0 [] [] (column old.left.items j) (column old.erased.items j)
        → HasCome link block (drawn_round txs thresholds seeds j) (k + 1) (if fixed then k + 1 else 0) [] []
        (column new.left.items j) (column new.erased.items j)
    come-more laws is accepted block whole come =
        heard-come laws link block (drawn_round txs thresholds seeds j) is whole
        (round-marked txs thresholds ours as-many many-ours link accepted) k
        (heard_record link (before ++ drawn_reception x ∷ [])) fixed [] []
        (column old.left.items j) (column old.erased.items j) (column new.left.items j) (column new.erased.items j)
        (erased_counts link x) come (ap (heard_record link) (sym list-is)) h.fixed_is
        (ap (erased_counts link) x-is ∙ sym (counts-at txs thresholds ours as-many many-ours k t inside link))
        h.left h.erased

-- lists of numbers from 0 on that agree
pub same-rows : (f g : ℕ → List ℕ) (n : ℕ) → ((j : ℕ) → j < n → f j ≡ g j)
    → flat_map f (range_with_len 0 n) ≡ flat_map g (range_with_len 0 n)
same-rows f g zero same = refl
same-rows f g (suc n) same =
    let e : suc n ≡ n + 1 = omega arith in
    let before = same-rows f g n (λ j lt. same j (omega (arith, lt))) in
    let last = same n (omega arith) in
    ap (λ m. flat_map f (range_with_len 0 m)) e
    ∙ sym (rows-more f n (f n) [] (flat_map f (range_with_len 0 n)) refl refl)
    ∙ (λ i. before i ++ last i)
    ∙ rows-more g n (g n) [] (flat_map g (range_with_len 0 n)) refl refl
    ∙ sym (ap (λ m. flat_map g (range_with_len 0 m)) e)

pub same-numbers : (f g : ℕ → ℕ) (n : ℕ) → ((j : ℕ) → j < n → f j ≡ g j)
    → map f (range_with_len 0 n) ≡ map g (range_with_len 0 n)
same-numbers f g zero same = refl
same-numbers f g (suc n) same =
    let e : suc n ≡ n + 1 = omega arith in
    let before = same-numbers f g n (λ j lt. same j (omega (arith, lt))) in
    let last = same n (omega arith) in
    ap (λ m. map f (range_with_len 0 m)) e ∙ map-range_with_len_more f 0 n n (omega arith)
    ∙ (λ i. before i ++ last i ∷ [])
    ∙ sym (map-range_with_len_more g 0 n n (omega arith)) ∙ sym (ap (λ m. map g (range_with_len 0 m)) e)

-- ---- one batch after another

-- lists of numbers from 0 on, in two parts
joined-rows : (f : ℕ → List ℕ) (a m : ℕ) → flat_map f (range_with_len 0 (a + m))
    ≡ flat_map f (range_with_len 0 a) ++ flat_map (λ j. f (a + j)) (range_with_len 0 m)
joined-rows f a zero =
    let e : a + 0 ≡ a = omega arith in
    ap (λ n. flat_map f (range_with_len 0 n)) e ∙ sym (append-nil (flat_map f (range_with_len 0 a)))
joined-rows f a (suc m) =
    let e : a + suc m ≡ a + m + 1 = omega arith in
    let last : m + 1 ≡ suc m = omega arith in
    let A = flat_map f (range_with_len 0 a) in
    let B = flat_map (λ j. f (a + j)) (range_with_len 0 m) in
    ap (λ n. flat_map f (range_with_len 0 n)) e
    ∙ sym (rows-more f (a + m) (f (a + m)) [] (flat_map f (range_with_len 0 (a + m))) refl refl)
    ∙ ap (λ l. l ++ f (a + m)) (joined-rows f a m)
    ∙ rows-more (λ j. f (a + j)) m (f (a + m)) A (A ++ B) refl refl
    ∙ ap (λ n. A ++ flat_map (λ j. f (a + j)) (range_with_len 0 n)) last

joined-numbers : (f : ℕ → ℕ) (a m : ℕ)
    → map f (range_with_len 0 (a + m)) ≡ map f (range_with_len 0 a) ++ map (λ j. f (a + j)) (range_with_len 0 m)
joined-numbers f a zero =
    let e : a + 0 ≡ a = omega arith in
    ap (λ n. map f (range_with_len 0 n)) e ∙ sym (append-nil (map f (range_with_len 0 a)))
joined-numbers f a (suc m) =
    let e : a + suc m ≡ a + m + 1 = omega arith in
    let last : m + 1 ≡ suc m = omega arith in
    let A = map f (range_with_len 0 a) in
    ap (λ n. map f (range_with_len 0 n)) e ∙ map-range_with_len_more f 0 (a + m) (a + m) (omega arith)
    ∙ entry-more (λ j. f (a + j)) m (f (a + m)) A (map f (range_with_len 0 (a + m))) _ refl (joined-numbers f a m) refl
    ∙ ap (λ n. A ++ map (λ j. f (a + j)) (range_with_len 0 n)) last

-- no round
pub simulated-none : (link : Link) (block : List Bool) (rounds : ℕ → List (Tx × List Bool)) (t : ℕ)
    → simulation [] [] [] ≡ simulated link block rounds t 0
unfolding simulated
simulated-none link block rounds t = refl

-- m more rounds
pub simulated-joined : (link : Link) (block : List Bool) (rounds own : ℕ → List (Tx × List Bool)) (t n m : ℕ)
    (delivered left erased new-delivered new-left new-erased : List ℕ)
    → simulation delivered left erased ≡ simulated link block rounds t n → ((j : ℕ) → j < m → own j ≡ rounds (n + j))
    → new-delivered ≡ delivered ++ map (λ j. delivered_within link block (own j) t) (range_with_len 0 m)
    → new-left ≡ left ++ flat_map (λ j. flat_map (left_row link block (own j)) (range_with_len 0 t)) (range_with_len 0 m)
    → new-erased ≡ erased ++ flat_map (λ j. flat_map (erased_row link block (own j)) (range_with_len 0 t)) (range_with_len 0 m)
    → simulation new-delivered new-left new-erased ≡ simulated link block rounds t (n + m)
unfolding simulated
simulated-joined link block rounds own t n m delivered left erased new-delivered new-left new-erased so_far same more-delivered
    more-left more-erased =
    let f : ℕ → ℕ = λ i. delivered_within link block (rounds i) t in
    let l : ℕ → List ℕ = λ i. flat_map (left_row link block (rounds i)) (range_with_len 0 t) in
    let e : ℕ → List ℕ = λ i. flat_map (erased_row link block (rounds i)) (range_with_len 0 t) in
    let first : new-delivered ≡ map f (range_with_len 0 (n + m)) =
    more-delivered ∙ ap (λ (s : Simulation). s.delivered ++ map (λ j. delivered_within link block (own j) t)
    (range_with_len 0 m)) so_far
    ∙ ap (λ xs. map f (range_with_len 0 n) ++ xs) (same-numbers (λ j. delivered_within link block (own j) t) (λ j. f (n + j)) m
    (λ j lt. ap (λ r. delivered_within link block r t) (same j lt)))
    ∙ sym (joined-numbers f n m) in
    let second : new-left ≡ flat_map l (range_with_len 0 (n + m)) =
    more-left ∙ ap (λ (s : Simulation). s.left ++ flat_map
    (λ j. flat_map (left_row link block (own j)) (range_with_len 0 t)) (range_with_len 0 m)) so_far
    ∙ ap (λ xs. flat_map l (range_with_len 0 n) ++ xs)
    (same-rows (λ j. flat_map (left_row link block (own j)) (range_with_len 0 t))
    (λ j. l (n + j)) m (λ j lt. ap (λ r. flat_map (left_row link block r) (range_with_len 0 t)) (same j lt)))
    ∙ sym (joined-rows l n m) in
    let third : new-erased ≡ flat_map e (range_with_len 0 (n + m)) =
    more-erased ∙ ap (λ (s : Simulation). s.erased ++ flat_map
    (λ j. flat_map (erased_row link block (own j)) (range_with_len 0 t)) (range_with_len 0 m)) so_far
    ∙ ap (λ xs. flat_map e (range_with_len 0 n) ++ xs)
    (same-rows (λ j. flat_map (erased_row link block (own j)) (range_with_len 0 t))
    (λ j. e (n + j)) m (λ j lt. ap (λ r. flat_map (erased_row link block r) (range_with_len 0 t)) (same j lt)))
    ∙ sym (joined-rows e n m) in
    λ i. simulation (first i) (second i) (third i)

-- round j of a batch is round n + j of all
pub round-of : (txs : List NrTx) (thresholds seeds part : List ℕ) (n m j : ℕ)
    → part ≡ take (m * length txs) (drop (n * length txs) seeds) → j < m
    → drawn_round txs thresholds part j ≡ drawn_round txs thresholds seeds (n + j)
round-of txs thresholds seeds part n m j is below =
    let t : ℕ = length txs in
    let next : j + 1 ≤ m = omega (arith, below) in
    let fits : (j + 1) * t ≤ m * t = mul-le-mul_right t next in
    let split : (j + 1) * t ≡ j * t + t = ap (λ k. k * t) (add-one j) ∙ suc-mul j t in
    let rest : ℕ = m * t - (j + 1) * t in
    let whole : m * t ≡ j * t + (t + rest) = omega (arith, fits, split) in
    let at : n * t + j * t ≡ (n + j) * t = sym (add-mul n j t) in
    ap (drawn_txs txs thresholds)
    (ap (λ (l : List ℕ). take t (drop (j * t) l)) (is ∙ ap (λ k. take k (drop (n * t) seeds)) whole)
    ∙ ap (take t) (drop-take (j * t) (t + rest) (drop (n * t) seeds))
    ∙ take-take t (t + rest) (drop (j * t) (drop (n * t) seeds)) (omega arith)
    ∙ ap (take t) (drop-drop (j * t) (n * t) seeds ∙ ap (λ k. drop k seeds) at))
