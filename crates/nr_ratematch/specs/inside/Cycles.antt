-- One cycle through the circular buffer in numbers, if the fillers are one contiguous run.
use Rattle.std.specs.Prelude.{ℕ, ◌+◌, ◌%◌, nat_lt, if◌then◌else◌}

-- place i of those without a filler: `front` of them are before `skip` fillers
abbrev pub index_of : ℕ → ℕ → ℕ → ℕ
index_of front skip i = if nat_lt i front then i else i + skip

-- place k round and round a cycle of `count` places, from place `first` on
abbrev pub index_from : ℕ → ℕ → ℕ → ℕ → ℕ → ℕ
index_from front skip count first k = index_of front skip ((first + k % count) % count)
