-- The lines of `run`, except those that it shares with `send`.
use Rattle.std.specs.Prelude.{Bool, List, [], codes, count_by, false, flat_map, length, not, true, ℕ, ◌++◌, ◌==◌}
use Rattle.std.specs.{Prelude.◌∷◌, Fmt.decimal, List.range_with_len}
use Rattle.nr_harqbuf.specs.Record.{HeardBits}
use Rattle.nr_blockdesk.specs.{Explains.Reception, Heard.heard_record, Link.Link}
use Rattle.nr_blockdesk.specs.Outcome.{Verdict, contradiction, delivered, left, open_still, outcome_of}
use Rattle.nr_commands.specs.Hex.{hex}
use Rattle.nr_linkcommands.specs.declared.run_command.ends.Totals.{Totals}

-- the line of code block r after transmission t of block n: how many positions below K' are not fixed
unfoldable pub left_line : ℕ → ℕ → ℕ → ℕ → List ℕ
left_line t n r count =
    codes "left " ++ decimal t ++ codes " " ++ decimal n ++ codes " " ++ decimal r ++ codes " " ++ decimal count ++ 10 ∷ []

-- the lines of the code blocks, by what was received of them
abbrev pub left_lines : ℕ → ℕ → Link → List HeardBits → List ℕ
left_lines t n link records =
    flat_map (λ r. left_line t n r (left link records r)) (range_with_len 0 link.plan.c)

-- how many code blocks have a position below K' that is not fixed
unfoldable pub unfixed_blocks : Link → List HeardBits → ℕ
unfixed_blocks link records = count_by (λ r. not (left link records r == 0)) (range_with_len 0 link.plan.c)

-- the line of block n of c code blocks after tx transmissions: it is delivered
unfoldable pub delivered_line : ℕ → ℕ → ℕ → List Bool → List ℕ
delivered_line n tx c bits =
    codes "block " ++ decimal n ++ codes " delivered tx " ++ decimal tx ++ codes " failed 0 of " ++ decimal c
    ++ codes " " ++ hex bits ++ 10 ∷ []

-- the line of block n after tx receptions, if it is open: so many code blocks failed
unfoldable pub open_line : ℕ → ℕ → ℕ → ℕ → List ℕ
open_line n tx failed c =
    codes "block " ++ decimal n ++ codes " open tx " ++ decimal tx ++ codes " failed " ++ decimal failed
    ++ codes " of " ++ decimal c ++ 10 ∷ []

-- the line of block n after tx receptions, if no transport block explains what was received
unfoldable pub contradiction_line : ℕ → ℕ → ℕ → List ℕ
contradiction_line n tx c =
    codes "block " ++ decimal n ++ codes " contradiction tx " ++ decimal tx ++ codes " failed 0 of " ++ decimal c ++ 10 ∷ []

-- the line of block n by its outcome, if this was received of it
abbrev pub outcome_line_by : ℕ → Link → List Reception → Verdict → List ℕ
outcome_line_by n link list (delivered bits) = delivered_line n (length list) link.plan.c bits
outcome_line_by n link list open_still =
    open_line n (length list) (unfixed_blocks link (heard_record link list)) link.plan.c
outcome_line_by n link list contradiction = contradiction_line n (length list) link.plan.c

abbrev pub outcome_line : ℕ → Link → List Reception → List ℕ
outcome_line n link list = outcome_line_by n link list (outcome_of link list)

-- the words before each line about a round of process p
abbrev pub process_words : ℕ → List ℕ
process_words p = codes "process " ++ decimal p ++ codes " "

-- the words before a line about process p; none if no processes are named
abbrev pub head_of : Bool → ℕ → List ℕ
head_of true p = process_words p
head_of false p = []

-- the last line: how many blocks or rounds ended, and how
unfoldable pub last_line : List ℕ → Totals → List ℕ
last_line name t =
    codes "total " ++ name ++ codes " " ++ decimal t.blocks ++ codes " delivered " ++ decimal t.delivered
    ++ codes " open " ++ decimal t.open_still ++ codes " contradiction " ++ decimal t.contradiction
    ++ codes " codeblocks " ++ decimal t.code_blocks ++ codes " failed " ++ decimal t.failed ++ 10 ∷ []
