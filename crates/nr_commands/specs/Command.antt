-- What a command does to its Sink, and how its result tells of failures.
use Rattle.std.specs.Prelude.{◌≡◌, ℕ, ◌⊎◌, List, Option, Result, Ok, Err, IsOk, IsOkAnd}
use Rattle.nr_streams.specs.Sink.{with_text, WritesPrefix}
use Rattle.nr_commands.specs.declared.fault.RunFault.{RunFault}
use Rattle.nr_commands.specs.declared.fault.RunFault.TheVariants as fault

-- What a command with this result leaves in its Sink; `said` is the text for its inputs or their first fault. Ok leaves
-- the whole text. A failed put leaves a first part of the text. Out of memory leaves a first part of it, or nothing
-- new. Every other fault is the first one, and leaves nothing new.
abbrev pub Delivers : {X : Type 0} → Option (List ℕ) → Option (List ℕ) → Result X RunFault → Result (List ℕ) RunFault
    → Type 0
Delivers old new (Ok done) said = IsOkAnd said (λ text. new ≡ with_text old text)
Delivers old new (Err fault.Write) said = IsOkAnd said (λ text. WritesPrefix old new text)
Delivers old new (Err fault.Memory) said = (new ≡ old) ⊎ IsOkAnd said (λ text. WritesPrefix old new text)
Delivers old new (Err e) said = (said ≡ Err e) × (new ≡ old)

-- What a call leaves of the text that it was writing: a first part, since a put failed or memory ran out. It has no
-- other fault.
abbrev pub Stops : Option (List ℕ) → Option (List ℕ) → RunFault → List ℕ → Type 0
Stops old new fault.Write text = WritesPrefix old new text
Stops old new fault.Memory text = WritesPrefix old new text
Stops old new e text = ⊥

-- What a call that writes a text leaves in its Sink: the whole text at Ok.
abbrev pub Writes : {X : Type 0} → Option (List ℕ) → Option (List ℕ) → Result X RunFault → List ℕ → Type 0
Writes old new (Ok done) text = new ≡ with_text old text
Writes old new (Err e) text = Stops old new e text

-- A call that judges what another call will say, without saying it.
abbrev pub Judges : {X Y E : Type 0} → Result X E → Result Y E → Type 0
Judges (Ok done) said = IsOk said
Judges (Err e) said = said ≡ Err e

-- the fault is that of a transport block
abbrev pub IsBlockFault : RunFault → Type 0
IsBlockFault (fault.Desk number e) = Unit {0}
IsBlockFault e = ⊥
