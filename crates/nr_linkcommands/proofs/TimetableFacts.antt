-- What a run and an audit use of a schedule that was read: each transmission is of its round's block.
use Rattle.nr_linkcommands.proofs.Common.{All, All-get_or, All-head, Bool, IsOfRound, IsPlaced, List, Some, Timetable, Transmission}
use Rattle.nr_linkcommands.proofs.Common.{[], ap, arith, false, nat_tests, refl, round_of, subst, sym, take, true, ℕ, ◌==◌}
use Rattle.nr_linkcommands.proofs.Common.{◌∙◌, ◌∷◌, ◌≡◌, filter, All-take, fresh_block, EachGoesOn}
use Rattle.nr_linkcommands.specs.inside.Ends.{AreOfRounds}
use Rattle.std.proofs.lemmas.List.Elements.{filter_passes}
use Rattle.nr_files.{specs.Rounds.IsOfBlock, specs.Schedule.IsTimetable, proofs.RoundFacts.blocks_are_rounds}

-- a round that a fresh transmission of a block began
begun-of_round : (round : List Transmission) (x : Transmission) → fresh_block round ≡ Some x.block → IsOfRound round x
begun-of_round [] x is = tt
begun-of_round (y ∷ more) x is = grind arith

-- the transmissions of a block
of_block-of_round : (round : List Transmission) (x : Transmission)
    → All (λ (y : Transmission). (y.block == x.block) ≡ true) round → IsOfRound round x
of_block-of_round [] x all = tt
of_block-of_round (y ∷ more) x all =
    let first : (y.block == x.block) ≡ true = All-head (λ (z : Transmission). (z.block == x.block) ≡ true) y more all in
    grind (arith, nat_tests)

own-of_round : (before : List Transmission) (x : Transmission) → All IsOfBlock before → IsOfBlock x
    → IsOfRound (round_of x.process before) x
own-of_round before x all is =
    let own : round_of x.process before ≡ filter (λ y. y.block == x.block) before =
    blocks_are_rounds before all x.process ∙ ap (λ n. filter (λ (y : Transmission). y.block == n) before) is.process in
    rw own (of_block-of_round _ x (filter_passes (λ (y : Transmission). y.block == x.block) before))

-- each transmission that is not fresh is of its round's block
of_rounds : (b : Bool) (xs : List Transmission) → All (IsPlaced b) xs → (b ≡ true → EachGoesOn xs) → AreOfRounds xs
of_rounds true xs placed goes_on =
    λ i x within at stale. begun-of_round (round_of x.process (take i xs)) x (goes_on refl i x within at stale)
of_rounds false xs placed goes_on = λ i x within at stale.
    own-of_round (take i xs) x (All-take IsOfBlock i xs placed)
    (subst IsOfBlock (sym at) (All-get_or IsOfBlock xs i x within placed))

pub timetable-of_rounds : (n : ℕ) (s : Timetable) → IsTimetable n s → AreOfRounds s.transmissions
timetable-of_rounds n s is = of_rounds s.by_process s.transmissions is.placed is.rounds
