-- Definitions that only the proofs need, beside those of Drawing.antt.
use Rattle.std.specs.Prelude.{ℕ}
use Rattle.rand_pcg.specs.Lcg.{Lcg, increment_of}

-- the generator at a state on stream 54
abbrev pub on_stream : ℕ → Lcg
on_stream state = record { state = state; increment = increment_of 64 54 }
