-- What a receiver has at one place of a transmission: a bit, or an erasure.
use Rattle.std.specs.Prelude.{Bool, true, false, Option, Some, None}
use Rattle.nr_blockdesk.specs.declared.heard.Heard.{Heard}
use Rattle.nr_blockdesk.specs.declared.heard.Heard.TheVariants as heard

-- the bit that is received, if one is
abbrev pub heard_bit : Heard → Option Bool
heard_bit heard.Zero = Some false
heard_bit heard.One = Some true
heard_bit heard.Erased = None
