-- Lists of which one item more is copied, and the codes of receivers over one link.
use Rattle.nr_blockdesk.proofs.Common.{◌≡◌, ℕ, ◌+◌, ◌++◌, ◌∷◌, ◌<◌, [], List, length, take, get_or}
use Rattle.nr_blockdesk.proofs.Common.{ap, arith, refl, sym, ◌∙◌, CodeBlock, HeardBits, IsDesk, Link, Peeling}
use Rattle.nr_blockdesk.proofs.Common.{get_or-map, length-map}
use Rattle.nr_blockdesk.specs.Receiving.{peelers_of, peeling_of}
use Rattle.nr_ldpcenc.specs.Rows.{block_checks}
use Rattle.nr_peel.specs.Peeling.{checks_for}
use Rattle.std.proofs.lemmas.List.{take_more}

-- the first items of a list, and a copy of the next
pub taken_more : {X : Type 0} → (xs : List X) (r : ℕ) (x y : X) → x ≡ get_or xs r x → y ≡ x → r < length xs
    → take r xs ++ y ∷ [] ≡ take (r + 1) xs
taken_more xs r x y read same below = ap (λ z. take r xs ++ z ∷ []) (same ∙ read) ∙ sym (take_more xs r x below)

-- the code blocks of a receiver over a link
module _ {K : Type 0} (link : Link) (records : List HeardBits) (blocks : List (CodeBlock K))
    (desk : IsDesk link records (peelers_of blocks)) where
  abbrev peeler_in : CodeBlock K → Peeling
  peeler_in b = b.peeler

  pub desk_many : length blocks ≡ link.plan.c
  desk_many = sym (length-map blocks peeler_in) ∙ desk.peelings

  -- the peeler of a code block is of its link's code
  pub desk_checks : (r : ℕ) (d : CodeBlock K) → r < length blocks
      → checks_for (get_or blocks r d).peeler ≡ block_checks link.table link.graph link.plan
  desk_checks r d below =
      let tied = desk.tied r (omega (arith, below, desk_many)) in
      let is : (get_or blocks r d).peeler ≡ peeling_of link (peelers_of blocks) r =
      sym (get_or-map peeler_in blocks r d _ below) in
      ap checks_for is ∙ rw (tied.table, tied.graph, tied.numbers) refl
