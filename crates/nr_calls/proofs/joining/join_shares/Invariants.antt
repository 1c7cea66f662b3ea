use Rattle.nr_calls.proofs.Common.{◌≡◌, ◌+◌, ◌*◌, ◌≤◌, flat_map, length, map, take, numbers, is_one}
use Rattle.nr_segment.specs.CodeBlock.{share}
use Rattle.nr_calls.specs.{Joining.has_crc, Many.first_rows}
use Rattle.nr_calls.proofs.joining.join_shares.Given as goal

-- the code blocks so far
abbrev pub invariant-loop-r : goal.invariant-loop-r
invariant-loop-r l = record {
  bits : l.bits.items
      ≡ flat_map (λ row. take (share (numbers l.plan)) (map is_one row)) (take l.r (first_rows l.plan.kdash l.plan.c l.octets));
  passed : l.passed.items
      ≡ map (λ row. has_crc l.fn.poly (map is_one row))
      (take l.r (first_rows l.plan.kdash l.plan.c l.octets));
  count : length l.passed.items ≡ l.r;
  long : length l.bits.items ≡ l.r * share (numbers l.plan);
  room : l.plan.b ≤ l.bits.room + l.r * share (numbers l.plan);
}
