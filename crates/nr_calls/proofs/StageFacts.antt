-- The word that has d after its first two columns, and the faults of d.
use Rattle.nr_calls.proofs.Common.{◌≡◌, ℕ, ◌+◌, ◌-◌, ◌*◌, ◌<◌, ◌≤◌, ◌==◌, Bool, true, false}
use Rattle.nr_calls.proofs.Common.{◌&&◌, Option, Result, Ok, List, length, map, replicate, get_or, refl, sym, ap, ◌∙◌}
use Rattle.nr_calls.proofs.Common.{⊎_elim, arith, cases_lt, eq-eqb, nat_tests, ext_get_or, get_or-append_right}
use Rattle.nr_calls.proofs.Common.{get_or_append_left, get_or-map, get_or-replicate, length-append, length-map, length-replicate}
use Rattle.nr_calls.proofs.Common.{nat_le, bit, cols_of, Graph, One, Two, ◌>>=◌, with_fault, Numbers, Circular, err_unless}
use Rattle.nr_calls.proofs.Common.{Settings, is_one, Planned, planned_said, Fault}
use Rattle.nr_calls.specs.Stages.{is_told, selecting_said, full_word}
use Rattle.nr_ratematch.specs.{Selection.buffer_said, declared.fault.RmFault.RmFault}
use Rattle.nr_transmission.specs.declared.fault.DeskFault.TheVariants as desk
use Rattle.nr_calls.specs.declared.fault.Fault.TheVariants as fault

-- d fills the columns past the first two
pub columns-after : (g : Graph) (z n : ℕ) → n ≡ (cols_of g - 2) * z → cols_of g * z ≡ 2 * z + n
columns-after One z n is = omega (arith, is)
columns-after Two z n is = omega (arith, is)

-- a word with these bits is the word that has d
pub word-is : (word : List Bool) (z n : ℕ) (d : List ℕ) → length word ≡ 2 * z + n → length d ≡ n
    → ((p : ℕ) → p < 2 * z → bit word p ≡ false)
    → ((k : ℕ) → k < n → bit word (2 * z + k) ≡ is_one (get_or d k 0)) → word ≡ full_word z d
word-is word z n d long whole front behind =
    let front_long : length (replicate (2 * z) false) ≡ 2 * z = length-replicate (2 * z) false in
    let made : length (map is_one d) ≡ length d = length-map d is_one in
    let all : length (full_word z d) ≡ length (replicate (2 * z) false) + length (map is_one d) =
    length-append (replicate (2 * z) false) (map is_one d) in
    ext_get_or false word (full_word z d) (omega (arith, long, whole, front_long, made, all))
    (λ i lt. ⊎_elim
    (λ low. front i low
    ∙ sym (get_or_append_left (replicate (2 * z) false) (map is_one d) false i (omega (arith, low, front_long))
    ∙ get_or-replicate (2 * z) i false false low))
    (λ high.
    let k : ℕ = i - 2 * z in
    let place : i ≡ 2 * z + k = omega (arith, high) in
    let below : k < n = omega (arith, lt, long, high) in
    let inside : k < length d = omega (arith, below, whole) in
    ap (bit word) place ∙ behind k below
    ∙ sym (get_or-append_right (replicate (2 * z) false) (map is_one d) (2 * z) i false front_long high
    ∙ get_or-map is_one d k 0 false inside))
    (cases_lt i (2 * z)))

-- the result for d, after its block, its redundancy version and its length are right
steps : (said : Result Planned Fault) (p : Planned) (buffer : Planned → Result Circular RmFault) (b : Circular) (version : Bool)
    (whole : Planned → Bool) (told : Circular → Bool) (few : Bool)
    → said ≡ Ok p → buffer p ≡ Ok b → version ≡ true → whole p ≡ true
    → (said >>= λ p. with_fault (λ e. fault.Desk (desk.Rm e)) (buffer p)
    >>= λ b. err_unless (fault.Desk desk.Rv) version >>= λ _.
    err_unless (fault.Desk desk.Length) (whole p) >>= λ _. err_unless fault.Bit
    (told b) >>= λ _. err_unless fault.Many few >>= λ _. Ok b)
    ≡ (err_unless fault.Bit (told b) >>= λ _. err_unless fault.Many few >>= λ _. Ok b)
steps said p buffer b version whole told few planned kept right long = rw (planned, kept, right, long) refl

pub selecting-steps : (settings : Settings) (a rv : ℕ) (d : List ℕ) (e : ℕ) (p : Planned) (b : Circular)
    → planned_said settings.rate2048 a ≡ Ok p
    → buffer_said p.graph p.plan settings.lbrm ≡ Ok b → nat_le rv 3 ≡ true → (length d == p.plan.n) ≡ true
    → selecting_said settings a rv d e
    ≡ (err_unless fault.Bit (is_told b d) >>= λ _. err_unless fault.Many (nat_le e 4194304) >>= λ _. Ok b)
unfolding selecting_said
selecting-steps settings a rv d e p b planned kept right long =
    steps (planned_said settings.rate2048 a) p (λ p. buffer_said p.graph p.plan settings.lbrm) b (nat_le rv 3)
    (λ p. length d == p.plan.n) (λ b. is_told b d) (nat_le e 4194304) planned kept right long

-- a buffer has the numbers of its plan
pub buffer-kept : (g : Graph) (p : Numbers) (lbrm : Option ℕ) (b : Circular) → buffer_said g p lbrm ≡ Ok b
    → b ≡ record { graph = g; z = p.z; kdash = p.kdash; k = p.k; ncb = b.ncb }
buffer-kept g p lbrm b said = grind (arith, nat_tests)

-- so the result depends on the test of d, and on how many bits are selected
pub said-so-far : (settings : Settings) (a rv : ℕ) (d : List ℕ) (e : ℕ) (p : Planned) (b : Circular) (told : Bool)
    → planned_said settings.rate2048 a ≡ Ok p
    → buffer_said p.graph p.plan settings.lbrm ≡ Ok b → rv ≤ 3 → length d ≡ p.plan.n
    → ((c : Circular) → c.z ≡ p.plan.z → c.kdash ≡ p.plan.kdash → c.k ≡ p.plan.k → told ≡ is_told c d)
    → selecting_said settings a rv d e
    ≡ (err_unless fault.Bit told >>= λ _. err_unless fault.Many (nat_le e 4194304) >>= λ _. Ok b)
said-so-far settings a rv d e p b told planned kept version long tests =
    let is : b ≡ record { graph = p.graph; z = p.plan.z; kdash = p.plan.kdash; k = p.plan.k; ncb = b.ncb } =
    buffer-kept p.graph p.plan settings.lbrm b kept in
    let right : nat_le rv 3 ≡ true = grind (arith, nat_tests) in
    selecting-steps settings a rv d e p b planned kept right (eq-eqb (length d) p.plan.n long)
    ∙ ap (λ t. err_unless fault.Bit t >>= λ _. err_unless fault.Many (nat_le e 4194304) >>= λ _. Ok b)
    (sym (tests b (ap (λ (k : Circular). k.z) is) (ap (λ (k : Circular). k.kdash) is) (ap (λ (k : Circular). k.k) is)))

-- one more test
pub told-more : (before now so_far here : Bool) → before ≡ true → before ≡ so_far → now ≡ here
    → now ≡ (so_far && here)
told-more before now so_far here was is is-too = grind arith

pub told-less : (before now so_far here : Bool) → before ≡ false → before ≡ so_far → now ≡ false
    → now ≡ (so_far && here)
told-less before now so_far here was is is-too = grind arith
