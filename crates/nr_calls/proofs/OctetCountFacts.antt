-- How many octets a transport block has.
use Rattle.nr_calls.proofs.Common.{nat_tests, ◌≡◌, ℕ, ◌*◌, ◌<◌, ◌&&◌, Bool, true, false, Result, Err, refl}
use Rattle.nr_calls.proofs.Common.{arith, lt-leb, ◌>>=◌, err_unless, Planned, planned_said, Fault}
use Rattle.nr_transmission.specs.declared.fault.DeskFault.TheVariants as desk
use Rattle.nr_calls.specs.declared.fault.Fault.TheVariants as fault

last-false : (a b c : Bool) → c ≡ false → (a && (b && c)) ≡ false
last-false true true c is = is
last-false true false c is = refl
last-false false b c is = refl

refused : (b : Bool) (next : Unit {0} → Result Planned Fault) → b ≡ false
    → (err_unless (fault.Desk desk.Size) b >>= next) ≡ Err (fault.Desk desk.Size)
refused false next is = refl
refused true next is = cc

-- a transport block of more octets is too large
pub too_long : (rate2048 n : ℕ) → 163840 < n → planned_said rate2048 (8 * n) ≡ Err (fault.Desk desk.Size)
unfolding planned_said
too_long rate2048 n long = grind (arith, nat_tests, refused, last-false, lt-leb)
