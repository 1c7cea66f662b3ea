use Rattle.nr_blockdesk.proofs.Common.{ℕ, ◌++◌, ◌∷◌, ◌<◌, [], length, length-set, ap, sym, ◌∙◌, arith}
use Rattle.nr_blockdesk.proofs.Common.{HeardBits, cases_eq, get_or_read, get_or-set_other, get_or-set_same, inl, inr}
use Rattle.nr_blockdesk.proofs.CopyFacts.{taken_more}
use Rattle.std.proofs.lemmas.List.{take_more_set}
use Rattle.nr_blockdesk.proofs.receiver.copying.stores_again.Goals as goal

abbrev long_in : HeardBits → ℕ
long_in s = length s.first

-- the two stores are as long
pub copy_from-requires : goal.copy_from-requires
copy_from-requires c =
    let r = c.loop-r.r in
    ap long_in (get_or_read c.loop-r.stores.items r c.index_mut.result.now
    (omega (arith, c.loop-r.invariant.many, c.loop-r-test.true)) c.index_mut.ensures.value _)
    ∙ c.loop-r.invariant.long r c.loop-r-test.true
    ∙ sym (ap long_in (get_or_read c.args.from.now r c.index-from-r.result c.loop-r-test.true c.index-from-r.is _))

-- one store more
pub loop-r-preserved : goal.loop-r-preserved
loop-r-preserved c =
    let inv = c.loop-r.invariant in
    let r = c.loop-r.r in
    let from = c.args.from.now in
    let stores = c.loop-r.stores.items in
    let with = c.copy_from.new.self in
    let below : r < length stores = omega (arith, inv.many, c.loop-r-test.true) in
    record {
      many = length-set stores r with ∙ inv.many;
      long = λ q short. elim (cases_eq q r) [
        | inl same ↦
            rw same (ap long_in (get_or-set_same stores r with _ below) ∙ ap long_in c.copy_from.ensures
            ∙ ap long_in (get_or_read from r c.index-from-r.result c.loop-r-test.true c.index-from-r.is _))
        | inr apart ↦ ap long_in (get_or-set_other stores r q with _ apart) ∙ inv.long q short
      ];
      copied = take_more_set stores r with below ∙ ap (λ xs. xs ++ with ∷ []) inv.copied
          ∙ taken_more from r c.index-from-r.result with c.index-from-r.is c.copy_from.ensures c.loop-r-test.true;
    }
