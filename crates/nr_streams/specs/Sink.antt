-- What a Sink holds: the octets written to it, if they are known, and the count of its failures. Then a Tape,
-- which is a Sink over memory. It has a room, a step, and a put from which on every put fails.
use Rattle.std.specs.Prelude.{◌≡◌, ℕ, zero, suc, ◌+◌, ◌-◌, ◌<◌, ◌==◌, ◌||◌, Bool, false, List, []}
use Rattle.std.specs.Prelude.{◌++◌, Option, None, Some, length, min, take}
use Rattle.std.specs.Option.{option_map}

-- the octets written, followed by a text
abbrev pub with_text : Option (List ℕ) → List ℕ → Option (List ℕ)
with_text written text = option_map (λ octets. octets ++ text) written

-- the first octets of the text were written after those that were there, and the rest of the text was not
abbrev pub WritesPrefix : Option (List ℕ) → Option (List ℕ) → List ℕ → Type 0
WritesPrefix old new text = (n : ℕ) × (n < length text) × (new ≡ with_text old (take n text))

-- The octets written, the room that is left, and the most octets that one put takes. Then how many puts are left before
-- the first that fails (None: none fails), and the count of failures.
pub record TapeState : Type 0 where
  pub octets : List ℕ
  pub room : ℕ
  pub step : ℕ
  pub puts_left : Option ℕ
  pub failures : ℕ

-- how many puts come before put number `fail`, the first that fails (0: none fails)
abbrev pub puts_before : ℕ → Option ℕ
puts_before zero = None
puts_before (suc n) = Some n

-- a Tape on which nothing is written
abbrev pub blank : ℕ → ℕ → ℕ → TapeState
blank room step fail = record {
  octets = [];
  room = room;
  step = step;
  puts_left = puts_before fail;
  failures = 0;
}

-- every put that is allowed to work is done
abbrev pub is_last_done : Option ℕ → Bool
is_last_done None = false
is_last_done (Some puts) = puts == 0

-- from here on every put fails: the room is used up, or the first put that fails has come
abbrev pub is_spent : TapeState → Bool
is_spent t = (t.room == 0) || is_last_done t.puts_left

-- how many octets of a buffer one put takes
abbrev pub taken_count : TapeState → List ℕ → ℕ
taken_count t buf = min (length buf) (min t.step t.room)

-- the Tape after a put that took these octets
abbrev pub with_octets : TapeState → List ℕ → TapeState
with_octets t octets = record {
  octets = t.octets ++ octets;
  room = t.room - length octets;
  step = t.step;
  puts_left = option_map (λ puts. puts - 1) t.puts_left;
  failures = t.failures;
}

-- the Tape after a put that failed
abbrev pub with_failure : TapeState → TapeState
with_failure t = record t { failures = t.failures + 1 }
