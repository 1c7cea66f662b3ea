-- What the results of clap's calls say of the options.
use Rattle.nr_job.proofs.Common.{◌≡◌, ◌∙◌, true, List, None, Some, ap, codes, sym, subst, slice_get, Row, found_of}
use Rattle.nr_job.proofs.Common.{rows_of, IsGivenBy, IsJobOf, app_of}
use Rattle.nr_job.specs.{Jobs.IsNumberAt, inside.Jobs.name_of, inside.Jobs.named_app, declared.command_line.apps.Name.Name}
use Rattle.nr_job.specs.declared.jobs.Job.{Job}
use Rattle.nr_job.specs.declared.jobs.Job.TheVariants.{Audit, Check, Cut, Run, Send}
use Rattle.std.{proofs.lemmas.Option.same_Some, specs.Prelude.IsSomeAnd, specs.Prelude.bytes_eq, specs.Prelude.if◌then◌else◌}
use Rattle.std.proofs.Common.{◌≢◌, ◌⊎◌, inl, inr, ℕ, ◌^◌, ◌<◌, [], Option, refl}
use Rattle.std.specs.Str.Parse.{IsNumeral, digits_value, without_leading_plus}
use Rattle.std.proofs.lemmas.Bool.{and_parts}
use Rattle.clap.{proofs.OnLiterals.clap_on_literals, proofs.WalkLemmas.one_text-rows, specs.declared.parser.matches.Found.Found}
use Rattle.clap.specs.Words.{App, HasMatchesOf, Text, fault_of, is_simple, is_simple_and_free, matches_of, one_of, one_text, takes}
use Rattle.clap.specs.declared.parser.matches.ArgMatches.{ArgMatches}
use Rattle.nr_job.specs.declared.command_line.apps.Name.TheVariants as names

-- the command of a job is that of its name
own-app : (job : Job) → named_app (name_of job) ≡ app_of job
own-app (Cut rate path) = refl
own-app (Check path) = refl
own-app (Send files) = refl
own-app (Run files) = refl
own-app (Audit files) = refl

pub same-app : (a : App) (name : Name) (job : Job) → a ≡ named_app name → name_of job ≡ name → a ≡ app_of job
same-app a name job app is = app ∙ ap named_app (sym is) ∙ own-app job

-- the name of a command, by its word
abbrev name_at : Text → Option Name
name_at word =
    if bytes_eq word (codes "cut") then Some names.Cut
    else if bytes_eq word (codes "check") then Some names.Check
    else if bytes_eq word (codes "send") then Some names.Send
    else if bytes_eq word (codes "run") then Some names.Run
    else Some names.Audit

at-name : (name : Name) → name_at (named_app name).top.name ≡ Some name
at-name names.Cut = refl
at-name names.Check = refl
at-name names.Send = refl
at-name names.Run = refl
at-name names.Audit = refl

-- a job that words ask for has the name that they begin with
pub asked-name : (name : Name) (words : List Text) (job : Job) → slice_get words 0 ≡ Some (named_app name).top.name
    → IsJobOf words job → name_of job ≡ name
unfolding IsJobOf
asked-name name words job first asked =
    let word = same_Some _ _ (sym asked.0 ∙ first) in
    same_Some _ _ (sym (at-name (name_of job)) ∙ ap (λ (app : App). name_at app.top.name) (own-app job) ∙ ap name_at word
    ∙ at-name name)

-- words that begin with no command's name ask for no job
pub unasked : (words : List Text) (job : Job) (word : Text) → slice_get words 0 ≡ Some word
    → word ≢ codes "cut" → word ≢ codes "check"
    → word ≢ codes "send" → word ≢ codes "run" → word ≢ codes "audit" → IsJobOf words job → ⊥
unfolding IsJobOf
unasked words (Cut rate path) word first cut check send run audit asked = cut (same_Some _ _ (sym first ∙ asked.0))
unasked words (Check path) word first cut check send run audit asked = check (same_Some _ _ (sym first ∙ asked.0))
unasked words (Send files) word first cut check send run audit asked = send (same_Some _ _ (sym first ∙ asked.0))
unasked words (Run files) word first cut check send run audit asked = run (same_Some _ _ (sym first ∙ asked.0))
unasked words (Audit files) word first cut check send run audit asked = audit (same_Some _ _ (sym first ∙ asked.0))

-- the words that begin with a command's name ask for the job that its options give
pub named-job : (name : Name) (words : List Text) (job : Job) → slice_get words 0 ≡ Some (named_app name).top.name
    → name_of job ≡ name → IsGivenBy (matches_of (app_of job) words) job → IsJobOf words job
unfolding IsJobOf
named-job name words job first is given =
    (first ∙ ap (λ (app : App). Some app.top.name) (ap named_app (sym is) ∙ own-app job), given)

-- clap's functions of the words describe each command
pub job_free : (job : Job) → is_simple_and_free (app_of job) ≡ true
unfolding clap_on_literals
job_free (Cut rate path) = refl
job_free (Check path) = refl
job_free (Send files) = refl
job_free (Run files) = refl
job_free (Audit files) = refl

-- what clap says of a command holds of an equal one that its functions describe
module _ (a b : App) (words : List Text) (is : a ≡ b) (free : is_simple_and_free b ≡ true) where
  pub rows_from : (m : ArgMatches) → HasMatchesOf a words m → rows_of (found_of m) ≡ matches_of b words
  rows_from m matches = (matches (and_parts (is_simple a) _ (ap is_simple_and_free is ∙ free)).0).0
      ∙ ap (λ app. matches_of app words) is

  pub faultless_from : (is_simple_and_free a ≡ true → fault_of a words ≡ []) → fault_of b words ≡ []
  faultless_from none = ap (λ app. fault_of app words) (sym is) ∙ none (ap is_simple_and_free is ∙ free)

  -- it takes the words by its test, or because it finds no fault in them
  pub taken_from : {P : Type 0} → (takes a words ≡ true → P)
      → (is_simple_and_free a ≡ true → fault_of a words ≡ [] → P)
      → (takes b words ≡ true) ⊎ (fault_of b words ≡ []) → P
  taken_from tested faultless (inl taken) = tested (ap (λ app. takes app words) is ∙ taken)
  taken_from tested faultless (inr none) =
      faultless (ap is_simple_and_free is ∙ free) (ap (λ app. fault_of app words) is ∙ none)

-- the text is a numeral that fits 32 bits
abbrev pub IsWord : Text → Type 0
IsWord text = IsNumeral 10 (without_leading_plus text) × (digits_value 10 (without_leading_plus text) < 2 ^ 32)

-- the text is a numeral of this number
abbrev IsNumeralOf : ℕ → Text → Type 0
IsNumeralOf n text = IsNumeral 10 (without_leading_plus text) × (n ≡ digits_value 10 (without_leading_plus text))

-- the number that `get_one` reads is the option's
pub number_from : (f : Found) (id : Text) (n : ℕ) → (one_text f id ≡ None → Some n ≡ None)
    → ((t : Text) → one_text f id ≡ Some t → IsWord t × (n ≡ digits_value 10 (without_leading_plus t)))
    → IsNumberAt id (rows_of f) n
number_from f id n none some =
    let P : Option Text → Type 0 = λ o. IsSomeAnd o (IsNumeralOf n) in
    subst P (one_text-rows f id) (go (one_text f id) refl)
  where
    go : (o : Option Text) → one_text f id ≡ o → IsSomeAnd o (IsNumeralOf n)
    go None is =
        let bad : Some n ≡ None = none is in
        cc
    go (Some t) is =
        let read = some t is in
        (read.0.0, read.1)

-- an option has one number
pub number-same : (id : Text) (rows : List Row) (a b : ℕ) → IsNumberAt id rows a → IsNumberAt id rows b → a ≡ b
number-same id rows a b = go (one_of id rows)
  where
    go : (o : Option Text) → IsSomeAnd o (IsNumeralOf a) → IsSomeAnd o (IsNumeralOf b) → a ≡ b
    go None first second = absurd first
    go (Some t) first second = first.1 ∙ sym second.1

-- if `get_one` reads no number, the option has none that fits 32 bits
pub no_number : (f : Found) (id : Text) (n : ℕ) → n < 2 ^ 32
    → ((t : Text) → one_text f id ≡ Some t → IsWord t → ⊥) → IsNumberAt id (rows_of f) n → ⊥
no_number f id n small some given =
    let P : Option Text → Type 0 = λ o. IsSomeAnd o (IsNumeralOf n) in
    go (one_text f id) refl (subst P (sym (one_text-rows f id)) given)
  where
    go : (o : Option Text) → one_text f id ≡ o → IsSomeAnd o (IsNumeralOf n) → ⊥
    go None is at = at
    go (Some t) is at =
        let below : digits_value 10 (without_leading_plus t) < 2 ^ 32 = rw (← at.1) small in
        some t is (at.0, below)
