-- What both ends of a link agree on, and the codewords of a transport block (TS 38.212, 6.2.1 to 6.2.4 and 7.2.1 to
-- 7.2.4).
use Rattle.std.specs.Prelude.{◌≡◌, ℕ, ◌%◌, ◌<◌, ◌==◌, Bool, true, false, nat_le, ◌&&◌, Result, Ok, Err}
use Rattle.std.specs.Prelude.{List, length, Option}
use Rattle.nr_crcattach.specs.Attachment.{attached, attached_length}
use Rattle.nr_graphpick.specs.{declared.Graph.Graph, Graph.pick_said}
use Rattle.nr_refusal.specs.Refusal.{◌>>=◌, with_fault}
use Rattle.nr_ldpcenc.specs.Codeword.{IsCodeword, codeword}
use Rattle.nr_ratematch.specs.Selection.{Circular, buffer_said}
use Rattle.nr_segment.specs.{CodeBlock.code_bits, CodeBlock.numbers, Plan.Numbers, Plan.plan_of, declared.numbers.Plan.Plan}
use Rattle.nr_shifttable.specs.Accepted.{Entries, has_graph, IsTable}
use Rattle.nr_transmission.specs.declared.fault.DeskFault.{DeskFault}
use Rattle.nr_transmission.specs.declared.fault.DeskFault.TheVariants as fault
use Rattle.nr_transmission.specs.declared.settings.Settings.{Settings}

-- a transport block has whole octets: 8 to 1,310,720 bits
abbrev pub is_size : ℕ → Bool
is_size a = (a % 8 == 0) && (nat_le 8 a && nat_le a 1310720)

-- nothing, or this fault if the test fails
abbrev pub err_unless : {E : Type 0} → E → Bool → Result (Unit {0}) E
err_unless e true = Ok tt
err_unless e false = Err e

-- what both ends agree on: the shift table, the base graph, the plan, A (bits of a transport block), and each code
-- block's circular buffer
pub record Link : Type 0 where
  pub table : Entries
  pub graph : Graph
  pub plan : Numbers
  pub a : ℕ
  pub buffer : Circular

-- the link for transport blocks of a bits, or the first fault
unfoldable pub link_said : Entries → Settings → ℕ → Result Link DeskFault
link_said table settings a = do
  whole ← err_unless fault.Size (is_size a)
  graph ← with_fault fault.Pick (pick_said a settings.rate2048)
  plan ← with_fault fault.Seg (plan_of graph (attached_length a))
  there ← err_unless fault.Graph (has_graph graph table)
  buffer ← with_fault fault.Rm (buffer_said graph plan settings.lbrm)
  Ok (record { table = table; graph = graph; plan = plan; a = a; buffer = buffer })

-- the link of a table, a plan for transport blocks of a bits, and a buffer
abbrev pub link_of : Entries → Plan → ℕ → Circular → Link
link_of table p a buffer = record { table = table; graph = p.graph; plan = numbers p; a = a; buffer = buffer }

-- What is true of every link of a table. Its buffer is the plan's, for some limit or none.
pub record IsLink (link : Link) : Type 0 where
  pub size : is_size link.a ≡ true
  pub table : IsTable link.table
  pub there : has_graph link.graph link.table ≡ true
  pub planned : plan_of link.graph (attached_length link.a) ≡ Ok link.plan
  pub lbrm : Option ℕ
  pub buffered : buffer_said link.graph link.plan lbrm ≡ Ok link.buffer

-- a transport block of the link's size
abbrev pub IsBlock : Link → List Bool → Type 0
IsBlock link block = length block ≡ link.a

-- the K' bits of code block r of a transport block (5.2.2)
abbrev pub code_bits_of : Link → List Bool → ℕ → List Bool
code_bits_of link block r = code_bits link.plan (attached block) r

-- the codeword of code block r of a transport block (5.3.2)
unfoldable pub word : Link → List Bool → ℕ → List Bool
word link block r = codeword link.table link.graph link.plan (code_bits_of link block r)

-- the codewords of a transport block are plain: each begins with its code block, has zeros for the fillers and meets
-- every row (5.3.2)
abbrev pub WordsArePlain : Type 0
WordsArePlain = (link : Link) (block : List Bool) (r : ℕ) → IsLink link → IsBlock link block → r < link.plan.c
    → IsCodeword link.table link.graph link.plan (code_bits_of link block r) (word link block r)

-- the codeword of a code block is the only word that begins with it, has zeros for the fillers and meets every row (5.3.2)
abbrev pub WordsAreOnly : Type 0
WordsAreOnly = (link : Link) (block other : List Bool) (r : ℕ) → IsLink link → IsBlock link block → r < link.plan.c
    → IsCodeword link.table link.graph link.plan (code_bits_of link block r) other → other ≡ word link block r

-- the link of every table is sound
abbrev pub LinksAreSound : Type 0
LinksAreSound = (table : Entries) (settings : Settings) (a : ℕ) (link : Link) → IsTable table
    → link_said table settings a ≡ Ok link → IsLink link
