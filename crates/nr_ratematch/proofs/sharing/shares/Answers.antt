use Rattle.nr_ratematch.proofs.Common.{range_with_len, map-range_with_len_more, is_scheduled, scheduled_count, share_of, length_of}
use Rattle.nr_ratematch.proofs.Common.{◌≡◌, ℕ, ◌+◌, [], ◌∷◌, ◌++◌, length, map, sym, ◌∙◌, ap, arith}
use Rattle.nr_ratematch.proofs.LengthLemmas.{count_yes, count_no, length_on, length_off}
use Rattle.nr_ratematch.proofs.sharing.shares.Goals.{then-has, else-has}
use Rattle.nr_ratematch.proofs.sharing.shares.Goals as goal

-- E_r of a scheduled code block depends on how many scheduled ones come before it, and that of any other is 0.
pub loop-r-preserved : goal.loop-r-preserved
loop-r-preserved c =
    let is_on = is_scheduled c.args.mask.now in
    let all = scheduled_count is_on c.args.c in
    let length_at : ℕ → ℕ = length_of is_on c.args.c c.args.unit c.args.symbols in
    let before = c.loop-r.invariant in
    let r = c.loop-r.r in
    elim c.if-has.branch [
      | then-has w ↦
          let on = sym c.has.ensures ∙ w.if-has.true in
          let here : w.share.result ≡ length_at r =
          w.share.ensures
          ∙ ap (λ n. share_of n c.args.unit c.args.symbols c.loop-r.before) c.scheduled_of-all.ensures
          ∙ ap (share_of all c.args.unit c.args.symbols) before.counted
          ∙ length_on is_on c.args.c c.args.unit c.args.symbols r on in
          record {
            counted = w.before-is ∙ ap (λ n. n + 1) before.counted ∙ sym (count_yes is_on r on);
            shared =
                ap (λ v. v.items) w.lengths-is
                ∙ w.push.ensures.items
                ∙ ap (λ xs. xs ++ w.share.result ∷ []) before.shared
                ∙ ap (λ e. map length_at (range_with_len 0 r) ++ e ∷ []) here
                ∙ sym (map-range_with_len_more length_at 0 r r (omega arith));
            long = ap (λ v. length v.items) w.lengths-is ∙ w.push.ensures.len ∙ ap (λ n. n + 1) before.long;
          }
      | else-has w ↦
          let off = sym c.has.ensures ∙ w.if-has.false in
          record {
            counted = w.before-is ∙ before.counted ∙ sym (count_no is_on r off);
            shared =
                ap (λ v. v.items) w.lengths-is
                ∙ w.push-else-has.ensures.items
                ∙ ap (λ xs. xs ++ 0 ∷ []) before.shared
                ∙ ap (λ e. map length_at (range_with_len 0 r) ++ e ∷ [])
                (length_off is_on c.args.c c.args.unit c.args.symbols r off)
                ∙ sym (map-range_with_len_more length_at 0 r r (omega arith));
            long =
                ap (λ v. length v.items) w.lengths-is
                ∙ w.push-else-has.ensures.len
                ∙ ap (λ n. n + 1) before.long;
          }
    ]
