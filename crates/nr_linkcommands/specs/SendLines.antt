-- The lines of `send`.
use Rattle.std.specs.Prelude.{Bool, Err, List, Ok, Result, [], codes, ℕ, ◌++◌, ◌∷◌}
use Rattle.std.specs.Fmt.{decimal}
use Rattle.nr_commands.specs.Hex.{hex}
use Rattle.nr_transmission.specs.declared.fault.DeskFault.{DeskFault}
use Rattle.nr_transmission.specs.declared.fault.DeskFault.TheVariants as desk
use Rattle.nr_ratematch.specs.declared.fault.RmFault.{RmFault}
use Rattle.nr_ratematch.specs.declared.fault.RmFault.TheVariants as rate

-- the line of transmission t of block n: the bits that it sends
unfoldable pub sent_line : ℕ → ℕ → List Bool → List ℕ
sent_line t n bits = codes "sent " ++ decimal t ++ codes " " ++ decimal n ++ codes " " ++ hex bits ++ 10 ∷ []

-- the name of a refusal of rate matching
abbrev pub rate_name : RmFault → List ℕ
rate_name rate.NoBuffer = codes "NoBuffer"
rate_name rate.Order = codes "Order"
rate_name rate.Layers = codes "Layers"
rate_name rate.Total = codes "Total"
rate_name rate.Ragged = codes "Ragged"
rate_name rate.NoneScheduled = codes "NoneScheduled"

-- the name of a refusal; a transmission is refused by Rv, or by rate matching
abbrev pub refusal_name : DeskFault → List ℕ
refusal_name desk.Size = codes "Size"
refusal_name (desk.Pick e) = codes "Pick"
refusal_name (desk.Seg e) = codes "Seg"
refusal_name desk.Graph = codes "Graph"
refusal_name desk.Rv = codes "Rv"
refusal_name (desk.Rm e) = rate_name e
refusal_name desk.Length = codes "Length"
refusal_name desk.Memory = codes "Memory"

-- the line of transmission t of block n if it is refused
unfoldable pub refused_line : ℕ → ℕ → DeskFault → List ℕ
refused_line t n e = codes "refused " ++ decimal t ++ codes " " ++ decimal n ++ codes " " ++ refusal_name e ++ 10 ∷ []

-- the line of a transmission by its sender's result
abbrev pub answer_line : ℕ → ℕ → Result (List Bool) DeskFault → List ℕ
answer_line t n (Ok bits) = sent_line t n bits
answer_line t n (Err e) = refused_line t n e
