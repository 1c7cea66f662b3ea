use Rattle.nr_blockdesk.proofs.Common.{ap, length, sym, word_size, ◌∙◌, subst, false≢true, IsDesk, Link, ReceiverView}
use Rattle.nr_blockdesk.proofs.{Common.arith, Common.peelers_of, Common.◌≡◌, CopyFacts.desk_checks, CopyFacts.desk_many}
use Rattle.nr_ldpcenc.specs.Rows.{block_checks}
use Rattle.nr_blockdesk.proofs.receiver.Receiver.restored.Goals as goal

-- both ends have one link, so the stores are as many and as long
pub stores_again-stores-requires : goal.stores_again-stores-requires
stores_again-stores-requires g c =
    let link_in : ReceiverView → Link = λ v. v.link in
    let own = c.self.inside in
    let other = c.from.inside in
    let link : own.link ≡ other.link = ap link_in c.self.view_is ∙ c.requires.link ∙ sym (ap link_in c.from.view_is) in
    let desk = c.self.invariant.desk in
    let there = c.from.invariant.desk in
    let many : length own.stores.items ≡ length other.stores.items =
    desk.stores ∙ ap (λ (l : Link). l.plan.c) link ∙ sym there.stores in
    rw c.deref.ensures.value (record {
      many = many;
      long = λ r below.
          (desk.tied r (omega (arith, below, many, desk.stores))).long ∙ ap (λ (l : Link). word_size l.graph l.plan) link
          ∙ sym (there.tied r (omega (arith, below, there.stores))).long;
    })

-- so the peelers are of one code
pub code_blocks_again-requires : goal.code_blocks_again-requires
code_blocks_again-requires g c =
    let link_in : ReceiverView → Link = λ v. v.link in
    let own = c.self.inside in
    let other = c.from.inside in
    let link : own.link ≡ other.link = ap link_in c.self.view_is ∙ c.requires.link ∙ sym (ap link_in c.from.view_is) in
    let desk = c.self.invariant.desk in
    let there = c.from.invariant.desk in
    let many = desk_many own.link own.stores.items own.code_blocks.items desk ∙ ap (λ (l : Link). l.plan.c) link
    ∙ sym (desk_many other.link other.stores.items other.code_blocks.items there) in
    rw c.deref-2.ensures.value (record {
      many = many;
      code = λ r d below.
          desk_checks own.link own.stores.items own.code_blocks.items desk r d (omega (arith, below, many))
          ∙ ap (λ (l : Link). block_checks l.table l.graph l.plan) link
          ∙ sym (desk_checks other.link other.stores.items other.code_blocks.items there r d below);
    })

-- the stores and their peelers are those of the other one, the words are its own, and no candidate is read
pub invariant_of-result : goal.invariant_of-result
invariant_of-result g c =
    let inv = c.self.invariant in
    let link_in : ReceiverView → Link = λ v. v.link in
    record {
      is_link = inv.is_link;
      desk = rw (
        c.stores_again-stores.ensures,
        c.in_ok-code_blocks.ensures.peelers,
        c.deref.ensures.value,
        c.deref-2.ensures.value,
      ) (subst (λ (l : Link). IsDesk l c.from.inside.stores.items (peelers_of c.from.inside.code_blocks.items))
          (ap link_in c.from.view_is ∙ sym c.requires.link ∙ sym (ap link_in c.self.view_is)) c.from.invariant.desk);
      room = inv.room;
      sized = rw c.in_ok-code_blocks.ensures.words inv.sized;
      candidate = λ read. absurd (false≢true read);
      empty = inv.empty;
    }
