use Rattle.nr_peel.proofs.Common.{get_or-replicate_same, ℕ, false, ◌≡◌, length-replicate, arith, bit}
use Rattle.nr_peel.proofs.bit_parallel.lanes.Lanes.new.Goals as goal

-- lists of zeros: no position is known, and no bit is set
pub returns : goal.returns
returns g c =
    let l = c.args.lifted.now in
    let unknown : (p : ℕ) → bit c.in_ok-known.known.items p ≡ false =
    λ p. grind (arith, c.in_ok-known.ensures.items, get_or-replicate_same) in
    record {
      lanes = record {
        known_long = grind (arith, c.in_ok-known.ensures.items, length-replicate);
        bits_long = grind (arith, c.in_ok-bits.ensures.items, length-replicate);
        known_lanes = c.in_ok-known.ensures.lanes;
        bits_lanes = c.in_ok-bits.ensures.lanes;
        blank = λ p _. grind (arith, c.in_ok-bits.ensures.items, get_or-replicate_same);
        seen = c.in_ok-seen.ensures.seen c.in_ok-known.known.items unknown;
        words = c.requires.words;
        short = c.requires.short;
        fit = c.requires.fit;
      };
      unknown = unknown;
      none_seen = c.in_ok-seen.ensures;
    }
