-- The lines of `audit`. They say how many positions of a code block peeling fixed, or which ones it left unknown.
use Rattle.std.specs.Prelude.{List, [], codes, count_by, filter, flat_map, if◌then◌else◌, length, not, ℕ, ◌&&◌}
use Rattle.std.specs.{Prelude.◌++◌, Prelude.◌==◌, Prelude.◌∷◌, Fmt.decimal, List.range_with_len}
use Rattle.nr_harqbuf.specs.Record.{HeardBits}
use Rattle.nr_segment.specs.Plan.{word_size}
use Rattle.nr_blockdesk.specs.{Heard.heard_of, Link.Link, Outcome.is_fixed_at, Outcome.given, Outcome.left}

-- how many positions of a code block peeling fixed: those that are fixed, but neither received nor fillers
abbrev pub steps_of : Link → HeardBits → ℕ
steps_of link s =
    count_by (λ p. is_fixed_at link s p && not (given link s p)) (range_with_len 0 (word_size link.graph link.plan))

-- the positions that are not fixed, ascending
abbrev pub unfixed_positions : Link → HeardBits → List ℕ
unfixed_positions link s = filter (λ p. not (is_fixed_at link s p)) (range_with_len 0 (word_size link.graph link.plan))

-- the line of code block r of block n if it is fixed, in so many steps
unfoldable pub order_line : ℕ → ℕ → ℕ → List ℕ
order_line n r steps =
    codes "order " ++ decimal n ++ codes " " ++ decimal r ++ codes " " ++ decimal steps ++ 10 ∷ []

-- a position in a line
abbrev pub position_word : ℕ → List ℕ
position_word p = codes " " ++ decimal p

-- the line of code block r of block n if peeling is stuck on these positions
unfoldable pub stuck_line : ℕ → ℕ → List ℕ → List ℕ
stuck_line n r positions =
    codes "stuck " ++ decimal n ++ codes " " ++ decimal r ++ codes " " ++ decimal (length positions)
    ++ flat_map position_word positions ++ 10 ∷ []

-- The line of code block r of block n by the record of what was received. The code block is fixed if no position below
-- K' is left.
unfoldable pub audit_line : ℕ → Link → List HeardBits → ℕ → List ℕ
audit_line n link records r =
    if left link records r == 0 then order_line n r (steps_of link (heard_of records r))
    else stuck_line n r (unfixed_positions link (heard_of records r))

-- the lines of block n's code blocks, each after these words
abbrev pub audit_block : List ℕ → ℕ → Link → List HeardBits → List ℕ
audit_block head n link records = flat_map (λ r. head ++ audit_line n link records r) (range_with_len 0 link.plan.c)
