-- Broken is one value, so each failure is counted.
use Rattle.nr_streams.proofs.Common.{◌≡◌, ℕ, ◌+◌, Err, refl}
use Rattle.nr_streams.specs.{Source.broken, declared.source.Broken.Broken}
use Rattle.std.proofs.Common.{inl, inr}
use Rattle.nr_refusal.specs.Refusal.{FailsAs}

pub broken-counted : (X : Type 0) (e : Broken) (old new : ℕ) → FailsAs {X = X} broken (Err e) old new → new ≡ old + 1
broken-counted X e old new (inl rose) = rose.1
broken-counted X e old new (inr kept) = absurd (kept.0 refl)
