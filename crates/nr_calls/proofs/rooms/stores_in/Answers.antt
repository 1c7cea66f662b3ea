use Rattle.nr_calls.proofs.Common.{◌≡◌, ℕ, suc, zero, ◌+◌, ◌-◌, Option, Err, List, inr, ap, ◌∙◌, arith}
use Rattle.nr_calls.proofs.Common.{nat_tests, err_from_is_err_and, HeardBits, or_fault, records_from}
use Rattle.nr_calls.proofs.RoomOctetFacts.{read_all, read_one, read_over, read_short, with_read}
use Rattle.nr_calls.proofs.KeptReceiverFacts.{refused-one, some-of}
use Rattle.nr_refusal.proofs.ResultFacts.{gives-err}
use Rattle.nr_calls.specs.declared.fault.Fault.TheVariants as fault
use Rattle.nr_calls.proofs.rooms.stores_in.Goals as goal

-- with one more code block to read
next-of : (n c i : ℕ) (stores : List HeardBits) (rest : List ℕ) (said : Option (List HeardBits))
    → said ≡ with_read stores (records_from n (c - i) rest) → c - i ≡ suc (c - (i + 1))
    → said ≡ with_read stores (records_from n (suc (c - (i + 1))) rest)
next-of n c i stores rest said read is = read ∙ ap (λ m. with_read stores (records_from n m rest)) is

none-of : (n c i : ℕ) (stores : List HeardBits) (rest : List ℕ) (said : Option (List HeardBits))
    → said ≡ with_read stores (records_from n (c - i) rest) → c - i ≡ zero
    → said ≡ with_read stores (records_from n zero rest)
none-of n c i stores rest said read is = read ∙ ap (λ m. with_read stores (records_from n m rest)) is

pub returns-then-rest-positions : goal.returns-then-rest-positions
returns-then-rest-positions c =
    let read = next-of _ c.args.c c.loop.counter _ _ _ c.loop.invariant.read (omega arith) in
    inr (ap (or_fault fault.State)
    (read_short c.args.positions (c.args.c - (c.loop.counter + 1)) _ _ _ read c.if-rest-positions.true))

pub returns-in_err-store_in : goal.returns-in_err-store_in
returns-in_err-store_in c =
    let p = err_from_is_err_and c.from_residual-in_err-store_in.result c.from_residual-in_err-store_in.ensures.1 in
    let read = next-of _ c.args.c c.loop.counter _ _ _ c.loop.invariant.read (omega arith) in
    gives-err fault.Memory _ _ c.in_err-store_in.field-0.0 _ (p.1 ∙ ap Err p.2)
    (refused-one c.args.positions (c.args.c - (c.loop.counter + 1)) _ _ _ _ read
    (rw c.split_at.ensures.front at c.in_err-store_in.ensures))

-- The definition too takes the next `positions + 1` octets as a record, and reads the others from the rest.
pub loop-preserved : goal.loop-preserved
loop-preserved c =
    let read = next-of _ c.args.c c.loop.counter _ _ _ c.loop.invariant.read (omega arith) in
    record {
      read = rw (c.push_reserved.ensures.items, c.split_at.ensures.back)
          (read_one c.args.positions (c.args.c - (c.loop.counter + 1)) c.loop.stores.items c.in_ok-store_in.field-0
          c.loop.rest.now _ read
          (some-of _ _ (rw c.split_at.ensures.front at c.in_ok-store_in.ensures)));
      many = omega (arith, c.push_reserved.ensures.len, c.loop.invariant.many);
      room = omega (arith, c.push_reserved.ensures.capacity, c.loop.invariant.room);
    }

pub returns-then-not-is_empty : goal.returns-then-not-is_empty
returns-then-not-is_empty c =
    let read = none-of _ c.args.c c.loop.counter _ _ _ c.loop.invariant.read (omega arith) in
    inr (ap (or_fault fault.State) (read_over c.args.positions _ c.loop.rest.now _ read (λ none. grind (arith, nat_tests))))

pub returns : goal.returns
returns c =
    let read = none-of _ c.args.c c.loop.counter _ _ _ c.loop.invariant.read (omega arith) in
    ap (or_fault fault.State) (read_all c.args.positions _ c.loop.rest.now _ read (grind (arith, nat_tests)))
