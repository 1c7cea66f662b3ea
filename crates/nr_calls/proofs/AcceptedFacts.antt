-- Transmissions without a fault: what the specification says about a list of them, and that what arrives of them is
-- taken.
use Rattle.nr_calls.proofs.Common.{◌≡◌, ◌⊎◌, inl, inr, ℕ, ◌==◌, Bool, Result, Ok, Err, IsOk, List, [], ◌∷◌}
use Rattle.nr_calls.proofs.Common.{length, refl, ap, ◌∙◌, arith, eq-eqb, length-map-range_with_len, bit, ◌>>=◌}
use Rattle.nr_calls.proofs.Common.{with_fault, Reception, reception, reception_said, Link, err_unless, heards, heards_from}
use Rattle.nr_calls.proofs.Common.{place_heard, tx_said, DeskFault, Tx, tx_of, AreAccepted, txs_said, NrTx, Fault}
use Rattle.std.proofs.lemmas.List.Elements.{All-cons}
use Rattle.nr_blockdesk.specs.{Explains.IsAccepted, declared.heard.Heard.Heard}
use Rattle.nr_transmission.specs.declared.fault.DeskFault.TheVariants as desk
use Rattle.nr_calls.specs.declared.fault.Fault.TheVariants as fault

-- a transmission of a list is judged
pub judged-ok : (link : Link) (all : List NrTx) (t : NrTx) (rest : List NrTx) (lengths : List ℕ) → all ≡ t ∷ rest
    → with_fault fault.Desk (tx_said link (tx_of t)) ≡ Ok lengths
    → txs_said link all ≡ txs_said link rest
unfolding txs_said
judged-ok link all t rest lengths is said = rw (is, said) refl

pub judged-err : (link : Link) (all : List NrTx) (t : NrTx) (rest : List NrTx) (e : Fault) → all ≡ t ∷ rest
    → with_fault {X = List ℕ} fault.Desk (tx_said link (tx_of t)) ≡ Err e
    → txs_said link all ≡ Err e
unfolding txs_said
judged-err link all t rest e is said = rw (is, said) refl

pub judged-none : (link : Link) (rest : List NrTx) → length rest ≡ 0 → txs_said link rest ≡ Ok tt
unfolding txs_said
judged-none link [] none = refl
judged-none link (t ∷ rest) none = absurd (omega (arith, none))

is-some : (said : Result (List ℕ) DeskFault) (next : Result (Unit {0}) Fault)
    → (with_fault fault.Desk said >>= λ _. next) ≡ Ok tt
    → IsOk said
is-some (Ok lengths) next said = refl
is-some (Err e) next said = cc said

next-some : (said : Result (List ℕ) DeskFault) (next : Result (Unit {0}) Fault)
    → (with_fault fault.Desk said >>= λ _. next) ≡ Ok tt
    → next ≡ Ok tt
next-some (Ok lengths) next said = said
next-some (Err e) next said = cc said

pub all-accepted-by : (link : Link) (txs : List NrTx) → txs_said link txs ≡ Ok tt → AreAccepted link txs
unfolding txs_said
all-accepted-by link [] said = λ k d inside. absurd (omega (arith, inside))
all-accepted-by link (t ∷ ts) said =
    All-cons (λ t. IsOk (tx_said link (tx_of t))) t ts (is-some (tx_said link (tx_of t)) (txs_said link ts) said)
    (all-accepted-by link ts (next-some (tx_said link (tx_of t)) (txs_said link ts) said))

-- as many places are taken as are sent
pub accepted-places : (link : Link) (tx : Tx) (places : List Heard) → IsOk (tx_said link tx) → length places ≡ tx.g
    → IsAccepted link (reception tx places)
accepted-places link tx places some long = go (tx_said link tx) refl some
  where
    go : (said : Result (List ℕ) DeskFault) → tx_said link tx ≡ said → IsOk said → IsAccepted link (reception tx places)
    go (Ok lengths) said some = (
      lengths,
      ap (λ s. s >>= λ es. (err_unless desk.Length (length places == tx.g) >>= λ w. Ok es)) said
          ∙ ap (λ b. err_unless desk.Length b >>= λ w. Ok lengths) (eq-eqb (length places) tx.g long),
    )
    go (Err e) said none = cc none

pub long-heards : (marks bits : List Bool) → length (heards marks bits) ≡ length marks
unfolding heards_from
long-heards marks bits = length-map-range_with_len (λ m. place_heard (bit marks m) (bit bits m)) 0 (length marks)

-- what can be taken is refused only for memory
pub taken : (link : Link) (x : Reception) (e : Fault) → IsAccepted link x
    → (e ≡ fault.Memory) ⊎ (with_fault {X = List ℕ} fault.Desk (reception_said link x) ≡ Err e) → e ≡ fault.Memory
taken link x e accepted (inl memory) = memory
taken link x e accepted (inr refused) = cc (accepted.1, refused)

pub said-ok : (said : Result (List ℕ) DeskFault) (shares : List ℕ) → with_fault fault.Desk said ≡ Ok shares → said
    ≡ Ok shares
said-ok (Ok lengths) shares is = cc is
said-ok (Err e) shares is = cc is
