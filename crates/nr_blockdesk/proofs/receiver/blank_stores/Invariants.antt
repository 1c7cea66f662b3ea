-- A store for each code block so far.
use Rattle.nr_blockdesk.proofs.Common.{◌≡◌, ◌≤◌, [], length, All, vec_capacity, positions_of, record_of}
use Rattle.nr_blockdesk.proofs.receiver.blank_stores.Given as goal

abbrev pub invariant-loop : goal.invariant-loop
invariant-loop l = record {
  stores : length l.stores.items ≡ l.counter;
  empty : All (λ s. s ≡ record_of (positions_of l.plan) []) l.stores.items;
  room : l.plan.c ≤ vec_capacity l.stores;
}
