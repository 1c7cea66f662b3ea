-- Loops that test each number below a bound.
use Rattle.nr_shifttable.proofs.Common.{◌≡◌, ℕ, ◌<◌, Bool, true, false, refl, both_ways, false_from_ne_true, each_below}
use Rattle.std.{proofs.Math.Bool.and_comm, proofs.lemmas.Bool.Decides.Decides-below_and, specs.Bool.Decides}

pub each_below-tells : (n : ℕ) (test : ℕ → Bool) → Decides (each_below n test) ((k : ℕ) → k < n → test k ≡ true)
each_below-tells n test = Decides-below_and test (λ k. test k ≡ true) (λ m. each_below m test)
    (λ k. ((λ h. h), (λ h. h))) refl (λ m. and_comm (each_below m test) (test m)) n

-- a number fails the test
pub each_below-not : (n k : ℕ) (test : ℕ → Bool) → k < n → test k ≡ false → each_below n test ≡ false
each_below-not n k test lt fails =
    false_from_ne_true (each_below n test) (λ all. both_ways (test k) fails ((each_below-tells n test).0 all k lt))
