use Rattle.nr_calls.proofs.Common.{◌≡◌, ◌+◌, ◌*◌, ◌≤◌, length, map, take, is_digit, is_one}
use Rattle.nr_calls.proofs.marks.push_marks.Given as goal

-- what the words of octets so far say
abbrev pub invariant-loop-i : goal.invariant-loop-i
invariant-loop-i l = record {
  marks : l.heard.items ≡ map is_digit (take (64 * l.i) l.octets);
  bits : l.value.items ≡ map is_one (take (64 * l.i) l.octets);
  room : length l.octets ≤ l.heard.room + 64 * l.i;
  room_too : length l.octets ≤ l.value.room + 64 * l.i;
}
