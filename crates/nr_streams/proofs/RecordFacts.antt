-- How the reads of a reader, one after another, give the records of its text.
use Rattle.nr_streams.proofs.Common.{nat_tests, ◌≡◌, ℕ, ◌+◌, ◌-◌, ◌<◌, ◌≤◌, zero, suc, List, []}
use Rattle.nr_streams.proofs.Common.{◌∷◌, ◌++◌, length, Option, Some, None, Bool, true, false, drop, take, refl, ap, sym}
use Rattle.nr_streams.proofs.Common.{◌∙◌, arith, ◌&&◌, Err, records_left}
use Rattle.nr_streams.specs.{Records.Record, Records.rows_before_end, Records.text_left, inside.Words.IsPlainReader}
use Rattle.std.proofs.Common.{Bor, cond, not, add-one}
use Rattle.std.specs.Prelude.{◌==◌, Result, Ok, is_ok, IfOk, MatchResult}
use Rattle.csv.specs.Reading.{Reached, ReadRecord, ReadsOn, Ready, default_config, has_failed, reader_trim, records_from}
use Rattle.csv.specs.Machine.{Read, ends_at_end, field_after, fields_after, is_end, next_record, step}
use Rattle.csv.{proofs.ReadFacts.rows-end, proofs.ReadFacts.rows-more, specs.Reading.records_next, specs.Reading.strip_bom}
use Rattle.csv.specs.declared.{parser.State.State, reader.Reader.Reader}
use Rattle.csv.specs.declared.reader.Trim.TheVariants as trim

-- an octet that ends a record leaves the machine between two records
pub step-between : (s : State) (c : ℕ) → is_end (step default_config s c).1 ≡ true
    → ends_at_end (step default_config s c).0 ≡ false
step-between s c h = grind (arith, nat_tests)

-- what is left after a record: the machine between two records, and no more text than after its first octet
pub record Behind (text : List ℕ) (p : Read) : Type 0 where
  pub between : ends_at_end p.1 ≡ false
  pub less : length p.2 ≤ length text - 1

pub next-behind : (s : State) (fields : Record) (field text : List ℕ) (p : Read)
    → next_record default_config s fields field text ≡ Some p → Behind text p
unfolding next_record
next-behind s fields field [] p e = grind arith
next-behind s fields field (c ∷ rest) p e =
    grind (
      arith,
      step-between,
      next-behind (step default_config s c).0 (fields_after (step default_config s c).1 fields field)
          (field_after (step default_config s c).1 c field) rest p,
    )

-- between two records a record takes at least one octet
pub next-less : (s : State) (text : List ℕ) (p : Read) → ends_at_end s ≡ false
    → next_record default_config s [] [] text ≡ Some p → length p.2 < length text
unfolding next_record
next-less s [] p b e = cc (rw b at e)
next-less s (c ∷ rest) p b e = let q : Behind (c ∷ rest) p = next-behind s [] [] (c ∷ rest) p e in omega arith

-- two ways to go on that agree after the next record agree
go-on : (f g : State → List ℕ → List Record) (o : Option Read) → ((p : Read) → o ≡ Some p → f p.1 p.2 ≡ g p.1 p.2)
    → records_next f o ≡ records_next g o
go-on f g None h = refl
go-on f g (Some p) h = ap (λ rs. p.0 ∷ rs) (h p refl)

-- more turns than there are octets are enough
enough : (n m : ℕ) (s : State) (text : List ℕ) → ends_at_end s ≡ false → length text < n → length text < m
    → records_from default_config n s text ≡ records_from default_config m s text
unfolding records_from
enough zero m s text b h k = absurd (omega arith)
enough (suc n) zero s text b h k = absurd (omega arith)
enough (suc n) (suc m) s text b h k =
    go-on (records_from default_config n) (records_from default_config m) (next_record default_config s [] [] text)
    (λ p e. let less : length p.2 < length text = next-less s text p b e in
    enough n m p.1 p.2 (next-behind s [] [] text p e).between (omega arith) (omega arith))

count-next : (f : State → List ℕ → List Record) (o : Option Read) (n : ℕ)
    → ((p : Read) → o ≡ Some p → length (f p.1 p.2) < n) → length (records_next f o) ≤ n
count-next f None n h = omega arith
count-next f (Some p) n h = let less : length (f p.1 p.2) < n = h p refl in omega arith

-- a text has no more records than octets
few : (n : ℕ) (s : State) (text : List ℕ) → ends_at_end s ≡ false
    → length (records_from default_config n s text) ≤ length text
unfolding records_from
few zero s text b = omega arith
few (suc n) s text b = count-next (records_from default_config n) (next_record default_config s [] [] text) (length text)
    (λ p e. let less : length p.2 < length text = next-less s text p b e in
    let rest : length (records_from default_config n p.1 p.2) ≤ length p.2 =
    few n p.1 p.2 (next-behind s [] [] text p e).between in omega arith)

pub records-few : (s : State) (text : List ℕ) → ends_at_end s ≡ false → length (records_left s text) ≤ length text
unfolding records_left
records-few s text b = few (length text + 1) s text b

-- what is left, by whether there is a next record
pub left-some : (s : State) (text : List ℕ) (p : Read) → ends_at_end s ≡ false
    → next_record default_config s [] [] text ≡ Some p → records_left s text ≡ p.0 ∷ records_left p.1 p.2
unfolding records_left records_from
left-some s text p b e =
    let less : length p.2 < length text = next-less s text p b e in
    rw (add-one (length text), e)
    (ap (λ rs. p.0 ∷ rs)
    (enough (length text) (length p.2 + 1) p.1 p.2 (next-behind s [] [] text p e).between less (omega arith)))

pub left-none : (s : State) (text : List ℕ) → next_record default_config s [] [] text ≡ None → records_left s text ≡ []
unfolding records_left records_from
left-none s text e = rw (add-one (length text), e) refl

-- leaving a byte order mark out makes no text longer
pub strip-length : (text : List ℕ) → length (strip_bom text) ≤ length text
unfolding strip_bom
strip-length [] = omega arith
strip-length (a ∷ []) = omega arith
strip-length (a ∷ b ∷ []) = omega arith
strip-length (a ∷ b ∷ c ∷ rest) = grind (arith, nat_tests)

-- a reader over octets in memory that has not failed knows what it has left
text-known : (r : Reader (Bor (List ℕ))) → has_failed r ≡ false → (text : List ℕ) × (text_left r ≡ Some text)
text-known r alive = rw alive (by (not r.bom_checked && (r.at == 0) && (r.filled == 0)))
  where
    by : (first : Bool) → (text : List ℕ)
        × (cond first (Some (strip_bom r.rdr.now)) (Some (drop r.at (take r.filled r.buffer) ++ r.rdr.now)) ≡ Some text)
    by true = (strip_bom r.rdr.now, refl)
    by false = (drop r.at (take r.filled r.buffer) ++ r.rdr.now, refl)

-- one record of those left
reached-one : (s s2 : State) (text rest : List ℕ) (fields : Record) → ends_at_end s ≡ false
    → Reached default_config s text (fields ∷ []) s2 rest
    → (records_left s text ≡ fields ∷ records_left s2 rest) × (ends_at_end s2 ≡ false)
unfolding Reached
reached-one s s2 text rest fields b h = (
  left-some s text h.0 b h.1 ∙ cc (h.2, h.3.0, h.3.1),
  ap ends_at_end (sym h.3.0) ∙ (next-behind s [] [] text h.0 h.1).between,
)

-- a read that found a record takes the first of those left, and leaves the reader to go on
pub reads-one : (a b : Reader (Bor (List ℕ))) (fields : Record) → IsPlainReader a
    → ReadRecord (λ s. Some s.now) a b true fields
    → ReadsOn a b → has_failed b ≡ has_failed a
    → (rows_before_end false a ≡ fields ∷ rows_before_end false b) × IsPlainReader b
unfolding Reached
reads-one a b fields plain read on alive =
    let known = text-known a plain.alive in
    let found = rows-more (λ (s : Bor (List ℕ)). Some s.now) a b fields default_config a.state known.0 known.0 [] plain.config
    known.1 (refl, refl) read in
    let one = reached-one a.state b.state known.0 found.0 fields plain.between found.2 in (
      rw (known.1, found.1) one.0,
      record {
        alive = alive ∙ plain.alive;
        config = on.0 ∙ plain.config;
        trim = on.1 ∙ plain.trim;
        flexible = on.2 ∙ plain.flexible;
        ready = (on.4 plain.ready).0;
        between = one.1;
      },
    )

-- a read that found no record was at the end
pub reads-none : (a b : Reader (Bor (List ℕ))) (fields : Record) → IsPlainReader a
    → ReadRecord (λ s. Some s.now) a b false fields → rows_before_end false a ≡ []
reads-none a b fields plain read = grind (arith, text-known, rows-end, left-none)

-- A read's result, with its error replaced by another one. What was left is the record and what is left now, or
-- nothing. If there was a record, the reader goes on.
pub row-read : {E F : Type 0} (Q : E → Type 0) (a b : Reader (Bor (List ℕ))) (fields : Record) (r : Result Bool E)
    (s : Result Bool F)
    → MatchResult r (λ x. s ≡ Ok x) Q → is_ok s ≡ is_ok r → IsPlainReader a
    → IfOk r (λ found. reader_trim a ≡ trim.None → Ready a → ReadRecord (λ s. Some s.now) a b found fields)
    → IfOk r (λ _. has_failed b ≡ has_failed a) → IfOk r (λ found. found ≡ true → ReadsOn a b)
    → IfOk s (λ found. found ≡ true → IsPlainReader b)
    × IfOk s (λ found. rows_before_end false a ≡ cond found (fields ∷ rows_before_end false b) [])
row-read Q a b fields (Ok true) s m v plain read alive on = grind (arith, reads-one)
row-read Q a b fields (Ok false) s m v plain read alive on =
    (rw m (λ h. cc h), rw m (reads-none a b fields plain (read plain.trim plain.ready)))
row-read Q a b fields (Err e) (Ok y) m v plain read alive on = cc v
row-read Q a b fields (Err e) (Err d) m v plain read alive on = (tt, tt)
