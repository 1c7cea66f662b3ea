-- The lines of blocks, and of their code blocks, one by one.
use Rattle.nr_commands.proofs.Common.{◌≡◌, ℕ, zero, suc, ◌+◌, ◌*◌, ◌<◌, ◌≤◌, length-append, Bool, Option}
use Rattle.nr_commands.proofs.Common.{Vec, Global, Result, Ok, Err, IfOk, IsOkAnd, codes, List, [], ◌++◌, length, map, flat_map}
use Rattle.nr_commands.proofs.Common.{drop, get_or, ap, sym, ◌∙◌, refl, arith, append-nil, length-map, range_with_len}
use Rattle.nr_commands.proofs.Common.{RunFault, bits_of, Graph, attached, decimal, Stops, Writes, hex, block_line, attached_line}
use Rattle.nr_commands.proofs.Common.{code_line, planned_lines, lines_from, with_text, with_text-nil, with_text-append}
use Rattle.nr_commands.{specs.CutText.block_lines, proofs.CommandLemmas.writes_said}
use Rattle.nr_commands.proofs.WrittenLemmas.{some_at_end, writes_behind, writes_none}
use Rattle.std.proofs.{Common.IsOk, lemmas.List.drop_more, lemmas.List.drop_all, lemmas.List.flat_map_more, Math.ListN.get_or-map}
use Rattle.nr_files.proofs.RefusalFacts.{holds_then, with_front, with_front-more, with_front-none}
use Rattle.nr_bitvec.proofs.ListFacts.{range_with_len-add}
use Rattle.nr_graphpick.specs.Graph.{pick_said}
use Rattle.nr_segment.specs.Plan.{Numbers, plan_of}
use Rattle.nr_refusal.specs.Refusal.{◌>>=◌, with_fault}
use Rattle.nr_commands.specs.declared.fault.RunFault.TheVariants as fault
use Rattle.nr_transmission.specs.declared.fault.DeskFault.TheVariants as desk

-- ---- lines for numbers in turn

-- the lines for the numbers below n, and for n
pub flat_map-range_more : (f : ℕ → List ℕ) (text : List ℕ) (n : ℕ)
    → (text ++ flat_map f (range_with_len 0 n)) ++ f n ≡ text ++ flat_map f (range_with_len 0 (n + 1))
flat_map-range_more f text n = grind (arith, flat_map_more, range_with_len-add 0 n 1)

-- ---- the lines of one block, by its size in bits

module _ (rate number a : ℕ) (octets : List ℕ) (is : a ≡ 8 * length octets) where
  -- no base graph is picked
  pub block_lines-unpicked : (e : RunFault) → Err e ≡ with_fault (λ f. fault.Desk number (desk.Pick f)) (pick_said a rate)
      → block_lines rate number octets ≡ Err e
  unfolding block_lines
  block_lines-unpicked e picks = rw (sym is, sym picks) refl

  -- there is no plan
  pub block_lines-unplanned : (b : ℕ) (graph : Graph) (e : RunFault)
      → Ok graph ≡ with_fault (λ f. fault.Desk number (desk.Pick f)) (pick_said a rate)
      → b ≡ length (attached (bits_of octets))
      → with_fault (λ f. fault.Desk number (desk.Seg f)) (plan_of graph b) ≡ Err e → block_lines rate number octets ≡ Err e
  unfolding block_lines
  block_lines-unplanned b graph e picks long plans = rw (sym is, sym picks, sym long, plans) refl

  -- there is a plan
  pub block_lines-planned : (b : ℕ) (graph : Graph) (plan : Numbers)
      → Ok graph ≡ with_fault (λ f. fault.Desk number (desk.Pick f)) (pick_said a rate)
      → b ≡ length (attached (bits_of octets))
      → plan_of graph b ≡ Ok plan
      → block_lines rate number octets ≡ Ok (planned_lines number a graph plan (attached (bits_of octets)))
  unfolding block_lines
  block_lines-planned b graph plan picks long plans = rw (sym is, sym picks, sym long, plans) refl

-- the octets of the block at index i
pub octets_at : (blocks : List (Vec ℕ Global)) (i : ℕ) (block : Vec ℕ Global) → block ≡ get_or blocks i block
    → block.items ≡ get_or (map (λ b. b.items) blocks) i block.items
octets_at blocks i block is = ap (λ b. b.items) is ∙ sym (get_or-map (λ b. b.items) blocks i block)

-- the lines of the blocks from index n on begin with those of that block, and after the last block there are none
pub lines_next : (rate n : ℕ) (blocks : List (Vec ℕ Global)) (block : Vec ℕ Global) → n < length blocks
    → block ≡ get_or blocks n block
    → lines_from rate (n + 1) (drop n (map (λ b. b.items) blocks)) ≡ (block_lines rate (n + 1) block.items
    >>= λ lines. lines_from rate (n + 1 + 1) (drop (n + 1) (map (λ b. b.items) blocks)) >>= λ more. Ok (lines ++ more))
unfolding lines_from
lines_next rate n blocks block within is =
    let more : n < length (map (λ b. b.items) blocks) = omega (arith, length-map blocks (λ b. b.items)) in
    rw (drop_more (map (λ b. b.items) blocks) n block.items more, sym (octets_at blocks n block is)) refl

pub lines_none : (rate n : ℕ) (blocks : List (Vec ℕ Global)) → length blocks ≤ n
    → lines_from rate (n + 1) (drop n (map (λ b. b.items) blocks)) ≡ Ok []
unfolding lines_from
lines_none rate n blocks done = rw (drop_all n (map (λ b. b.items) blocks) (omega (arith, length-map blocks (λ b. b.items)))) refl

-- ---- a loop over the blocks

-- the value of an Ok
ok_value : {X E : Type 0} (r : Result X E) → IsOk r → (x : X) × (r ≡ Ok x)
ok_value (Ok x) ok = (x, refl)
ok_value (Err e) ok = absurd (cc)

and_value : {X E : Type 0} {P : X → Type 0} (r : Result X E) → IsOkAnd r P → (x : X) × (r ≡ Ok x) × P x
and_value (Ok x) holds = (x, refl, holds)
and_value (Err e) holds = absurd holds

-- a result that is judged is not refused
pub judged-not : {X E : Type 0} (r : Result X E) (e : E) → IsOk r → r ≡ Err e → ⊥
judged-not r e ok is = cc

judged : {X E : Type 0} (r : Result X E) → ((e : E) → r ≡ Err e → ⊥) → IsOk r
judged (Ok x) never = refl
judged (Err e) never = absurd (never e refl)

-- the text of the blocks that are left is the rest of the text of all
abbrev pub Leads : Result (List ℕ) RunFault → Result (List ℕ) RunFault → Type 0
Leads part whole = (front : List ℕ) × (whole ≡ with_front front part)

-- and the lines of the blocks before them are written
abbrev pub Wrote : Option (List ℕ) → Option (List ℕ) → Result (List ℕ) RunFault → Result (List ℕ) RunFault → Type 0
Wrote old new part whole = (front : List ℕ) × (whole ≡ with_front front part) × (new ≡ with_text old front)

pub leads_first : (whole : Result (List ℕ) RunFault) → Leads whole whole
leads_first whole = ([], sym (with_front-none whole))

pub wrote_first : (old : Option (List ℕ)) (whole : Result (List ℕ) RunFault) → Wrote old old whole whole
wrote_first old whole = ([], sym (with_front-none whole), sym (with_text-nil old))

-- a turn, whose block gives `step`
module _ (part step rest whole : Result (List ℕ) RunFault)
    (next : part ≡ (step >>= λ lines. rest >>= λ more. Ok (lines ++ more))) where
  leads_on : (front lines : List ℕ) → whole ≡ with_front front part → step ≡ Ok lines
      → whole ≡ with_front (front ++ lines) rest
  leads_on front lines is said = rw (next, said, with_front-more front lines rest) at is

  pub leads_more : Leads part whole → IsOk step → Leads rest whole
  leads_more (front, is) ok = let v = ok_value step ok in (front ++ v.0, leads_on front v.0 is v.1)

  pub leads_refused : (e : RunFault) → Leads part whole → step ≡ Err e → whole ≡ Err e
  leads_refused e (front, is) said = rw (next, said) at is

  pub wrote_judged : (old new : Option (List ℕ)) → IsOk whole → Wrote old new part whole → IsOk step
  wrote_judged old new ok (front, is, written) = judged step (λ e said. judged-not whole e ok (leads_refused e (front, is) said))

  pub wrote_more : (old mid new : Option (List ℕ)) → Wrote old mid part whole
      → IsOkAnd step (λ lines. new ≡ with_text mid lines) → Wrote old new rest whole
  wrote_more old mid new (front, is, written) said = let v = and_value step said in
      (front ++ v.0, leads_on front v.0 is v.1, v.2 ∙ ap (λ w. with_text w v.0) written ∙ with_text-append old front v.0)

  -- the block's lines were stopped
  pub wrote_stopped : {X : Type 0} (old mid new : Option (List ℕ)) (r : Result X RunFault) (exit e : RunFault) → r ≡ Err exit
      → exit ≡ e → IsOk whole → Wrote old mid part whole
      → IsOkAnd step (λ lines. Stops mid new e lines) → IsOkAnd whole (λ text. Writes old new r text)
  wrote_stopped old mid new r exit e exits same ok (front, is, written) said =
      let v = and_value step said in
      let all = leads_on front v.0 is v.1 in
      let left = ok_value rest (judged rest (λ f refused. judged-not whole f ok (rw refused at all))) in
      writes_said old new r ((front ++ v.0) ++ left.0) whole (rw left.1 at all)
      (writes_behind old mid new r exit e _ front v.0 left.0 exits same refl written v.2)

pub leads_last : (part whole : Result (List ℕ) RunFault) → Leads part whole → part ≡ Ok [] → IsOk whole
leads_last part whole (front, is) none = rw (is, none) refl

pub wrote_last : (part whole : Result (List ℕ) RunFault) (old new : Option (List ℕ)) → Wrote old new part whole
    → part ≡ Ok [] → IsOkAnd whole (λ text. new ≡ with_text old text)
wrote_last part whole old new (front, is, written) none = rw (is, none, append-nil) written

-- ---- lines are not empty

pub block_line-some : (number a b : ℕ) (graph : Graph) (plan : Numbers) → 0 < length (block_line number a b graph plan)
unfolding block_line
block_line-some number a b graph plan = grind (arith, some_at_end, codes)

pub attached_line-some : (number : ℕ) (bits : List Bool) → 0 < length (attached_line number bits)
unfolding attached_line
attached_line-some number bits = some_at_end (codes "attached " ++ decimal number ++ codes " " ++ hex bits)

pub code_line-some : (number r : ℕ) (bits : List Bool) → 0 < length (code_line number r bits)
unfolding code_line
code_line-some number r bits = some_at_end (codes "code " ++ decimal number ++ codes " " ++ decimal r ++ codes " " ++ hex bits)

-- nor are the lines of some code blocks
pub code_lines-some : (number c : ℕ) (bits : ℕ → List Bool) → 0 < c
    → 0 < length (flat_map (λ r. code_line number r (bits r)) (range_with_len 0 c))
code_lines-some number zero bits some = absurd (omega (arith, some))
code_lines-some number (suc c) bits some = omega (
  arith,
  code_line-some number 0 (bits 0),
  length-append (code_line number 0 (bits 0)) (flat_map (λ r. code_line number r (bits r)) (range_with_len 1 c)),
)

planned_lines-some : (number a : ℕ) (graph : Graph) (plan : Numbers) (bits : List Bool)
    → 0 < length (planned_lines number a graph plan bits)
unfolding planned_lines
planned_lines-some number a graph plan bits = grind (arith, flat_map, block_line-some, length-append)

pub block_lines-some : (rate number : ℕ) (octets : List ℕ) → IfOk (block_lines rate number octets) (λ text. 0 < length text)
unfolding block_lines
block_lines-some rate number octets = grind (arith, holds_then, planned_lines-some)

-- memory runs out before the lines of a block that was judged
pub judged_none : {X : Type 0} (old : Option (List ℕ)) (r : Result X RunFault) (exit : RunFault)
    (said : Result (List ℕ) RunFault) → IsOk said → IfOk said (λ text. 0 < length text) → r ≡ Err exit
    → exit ≡ fault.Memory → IsOkAnd said (λ text. Writes old old r text)
judged_none old r exit (Ok text) ok some at is = writes_none old r exit text at is some
judged_none old r exit (Err e) ok some at is = absurd (cc)
