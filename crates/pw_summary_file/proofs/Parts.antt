-- The fields behind the module's name are those of two parts, one behind the other.
use Rattle.std.proofs.Common.{◌≡◌, ℕ, List, length, refl, ap, sym, ◌∙◌}
use Rattle.std.specs.Prelude.{Bool, Option, Result, Ok, Err}
use Rattle.pw_fields.specs.Fields.{◌>>=◌, after, done, repeated}
use Rattle.pw_fields.specs.FieldFaults.{Fails}
use Rattle.pw_fields.specs.FieldFrame.{here, ended}
use Rattle.pw_fields.specs.FieldNames.{name_at}
use Rattle.pw_fields.specs.declared.fault.FieldFault.{FieldFault}
use Rattle.pw_fields.specs.declared.fault.FieldFault.TheVariants as field
use Rattle.pw_value.specs.declared.value.Kind.{Kind}
use Rattle.pw_value.specs.declared.program_names.StartName.TheVariants.{Allowed, Refused}
use Rattle.pw_files.specs.Rising.{rising_at}
use Rattle.pw_files.specs.Names.{name_list_at, shaped_list_at}
use Rattle.pw_files.specs.Contents.{Contents}
use Rattle.pw_summary.specs.declared.summary.Defined.{Defined}
use Rattle.pw_summary.specs.declared.summary.Used.{Used}
use Rattle.pw_summary.specs.declared.summary.Summary.{Summary}
use Rattle.pw_summary.specs.declared.summary.Uses.{Uses}
use Rattle.pw_summary_parts.specs.Reading.{global_at, uses_at}
use Rattle.pw_summary_file.specs.Reading.{defined_at, used_at, fields_at}
use Rattle.pw_summary.specs.Summary.{whole_summary}

-- ---- what stands behind several fields

after_twice : {A B C : Type 0} (r : Result (A × List ℕ) ℕ) (next : A → List ℕ → Result (B × List ℕ) ℕ) (more : B → List ℕ → Result (C × List ℕ) ℕ)
    → after (after r next) more ≡ after r (λ a. next a >>= more)
after_twice (Ok x) next more = refl
after_twice (Err left) next more = refl

same_after : {A B : Type 0} (r : Result (A × List ℕ) ℕ) (next others : A → List ℕ → Result (B × List ℕ) ℕ)
    → ((a : A) (rest : List ℕ) → next a rest ≡ others a rest) → after r next ≡ after r others
same_after (Ok x) next others e = e x.0 x.1
same_after (Err left) next others e = refl

one : {D X Y : Type 0} (s : List ℕ → Result (D × List ℕ) ℕ) (make : D → X) (more : X → List ℕ → Result (Y × List ℕ) ℕ) (others : D → List ℕ → Result (Y × List ℕ) ℕ)
    → ((d : D) (rest : List ℕ) → more (make d) rest ≡ others d rest) → (bytes : List ℕ)
    → ((s >>= λ d. done (make d)) >>= more) bytes ≡ (s >>= others) bytes
one s make more others e bytes = after_twice (s bytes) (λ d. done (make d)) more ∙ same_after (s bytes) (λ d. more (make d)) others e

two : {C D X Y : Type 0} (r : List ℕ → Result (C × List ℕ) ℕ) (s : List ℕ → Result (D × List ℕ) ℕ) (make : C → D → X) (more : X → List ℕ → Result (Y × List ℕ) ℕ) (others : C → D → List ℕ → Result (Y × List ℕ) ℕ)
    → ((c : C) (d : D) (rest : List ℕ) → more (make c d) rest ≡ others c d rest) → (bytes : List ℕ)
    → ((r >>= λ c. s >>= λ d. done (make c d)) >>= more) bytes ≡ (r >>= λ c. s >>= others c) bytes
two r s make more others e bytes =
    after_twice (r bytes) (λ c. s >>= λ d. done (make c d)) more
    ∙ same_after (r bytes) (λ c. (s >>= λ d. done (make c d)) >>= more) (λ c. s >>= others c) (λ c rest. one s (make c) more (others c) (e c) rest)

three : {B C D X Y : Type 0} (q : List ℕ → Result (B × List ℕ) ℕ) (r : List ℕ → Result (C × List ℕ) ℕ) (s : List ℕ → Result (D × List ℕ) ℕ) (make : B → C → D → X) (more : X → List ℕ → Result (Y × List ℕ) ℕ) (others : B → C → D → List ℕ → Result (Y × List ℕ) ℕ)
    → ((b : B) (c : C) (d : D) (rest : List ℕ) → more (make b c d) rest ≡ others b c d rest) → (bytes : List ℕ)
    → ((q >>= λ b. r >>= λ c. s >>= λ d. done (make b c d)) >>= more) bytes ≡ (q >>= λ b. r >>= λ c. s >>= others b c) bytes
three q r s make more others e bytes =
    after_twice (q bytes) (λ b. r >>= λ c. s >>= λ d. done (make b c d)) more
    ∙ same_after (q bytes) (λ b. (r >>= λ c. s >>= λ d. done (make b c d)) >>= more) (λ b. r >>= λ c. s >>= others b c) (λ b rest. two r s (make b) more (others b) (e b) rest)

four : {A B C D X Y : Type 0} (p : List ℕ → Result (A × List ℕ) ℕ) (q : List ℕ → Result (B × List ℕ) ℕ) (r : List ℕ → Result (C × List ℕ) ℕ) (s : List ℕ → Result (D × List ℕ) ℕ) (make : A → B → C → D → X) (more : X → List ℕ → Result (Y × List ℕ) ℕ) (others : A → B → C → D → List ℕ → Result (Y × List ℕ) ℕ)
    → ((a : A) (b : B) (c : C) (d : D) (rest : List ℕ) → more (make a b c d) rest ≡ others a b c d rest) → (bytes : List ℕ)
    → ((p >>= λ a. q >>= λ b. r >>= λ c. s >>= λ d. done (make a b c d)) >>= more) bytes ≡ (p >>= λ a. q >>= λ b. r >>= λ c. s >>= others a b c) bytes
four p q r s make more others e bytes =
    after_twice (p bytes) (λ a. q >>= λ b. r >>= λ c. s >>= λ d. done (make a b c d)) more
    ∙ same_after (p bytes) (λ a. (q >>= λ b. r >>= λ c. s >>= λ d. done (make a b c d)) >>= more) (λ a. q >>= λ b. r >>= λ c. s >>= others a b c) (λ a rest. three q r s (make a) more (others a) (e a) rest)

-- ---- the two parts

abbrev contents : List (List ℕ) → Summary → Contents Summary
contents names s = record { names = names; value = s }

abbrev end_at : ℕ → List (List ℕ) → (Summary → ℕ → Option ℕ) → List ℕ → Defined × ℕ → Used → List ℕ → Result (Contents Summary × List ℕ) ℕ
end_at version names late m d u = ended (late (whole_summary version m d.0 u) d.1) (contents names (whole_summary version m d.0 u))

abbrev behind_defined : ℕ → List (List ℕ) → (Summary → ℕ → Option ℕ) → List ℕ → Defined × ℕ → List ℕ → Result (Contents Summary × List ℕ) ℕ
behind_defined version names late m d = used_at version names (length d.0.functions) >>= end_at version names late m d

abbrev behind_name : ℕ → List (List ℕ) → (Summary → ℕ → Option ℕ) → List ℕ → List ℕ → Result (Contents Summary × List ℕ) ℕ
behind_name version names late m = defined_at names >>= behind_defined version names late m

abbrev defined : List (List ℕ × List ℕ × Option Kind × Bool) → ℕ → List (List ℕ × List ℕ) → List (List ℕ × List ℕ) → Defined × ℕ
defined globals count functions declared = (record { globals = globals; functions = functions; declared = declared }, count)

abbrev used_names : List (List ℕ) → List (List ℕ × List ℕ) → List (List ℕ) → List Uses → Used
used_names used taken escaped uses = record { used = used; taken = taken; escaped = escaped; uses = uses }

-- the fields in a row
abbrev pub row_at : ℕ → List (List ℕ) → (Summary → ℕ → Option ℕ) → List ℕ → Result (Contents Summary × List ℕ) ℕ
row_at version names late = do
  name ← name_at names
  globals ← rising_at (λ g. g.0) (global_at names)
  count ← here
  functions ← shaped_list_at names Allowed
  declared ← shaped_list_at names Allowed
  used ← name_list_at names Allowed
  taken ← shaped_list_at names Refused
  escaped ← name_list_at names Allowed
  uses ← repeated (uses_at version names) (length functions)
  end_at version names late name (defined globals count functions declared) (used_names used taken escaped uses)

pub in_a_row : (version : ℕ) (names : List (List ℕ)) (late : Summary → ℕ → Option ℕ) (bytes : List ℕ) → fields_at version names late bytes ≡ row_at version names late bytes
unfolding fields_at defined_at used_at
in_a_row version names late bytes =
    same_after (name_at names bytes) (behind_name version names late) _ (λ m rest.
    four (rising_at (λ g. g.0) (global_at names)) here (shaped_list_at names Allowed) (shaped_list_at names Allowed) defined (behind_defined version names late m) _
    (λ globals count functions declared behind.
    four (name_list_at names Allowed) (shaped_list_at names Refused) (name_list_at names Allowed) (repeated (uses_at version names) (length functions)) used_names (end_at version names late m (defined globals count functions declared)) _
    (λ used taken escaped uses last. refl) behind) rest)

-- ---- what the parts give and where they fail

passes : {A B : Type 0} (r : Result (A × List ℕ) ℕ) (next : A → List ℕ → Result (B × List ℕ) ℕ) (x : A) (rest : List ℕ) → r ≡ Ok (x, rest) → after r next ≡ next x rest
passes r next x rest e = ap (λ f. after f next) e

stops : {A B : Type 0} (r : Result (A × List ℕ) ℕ) (next : A → List ℕ → Result (B × List ℕ) ℕ) (left : ℕ) → r ≡ Err left → after r next ≡ Err left
stops r next left e = ap (λ f. after f next) e

pub found_in_parts : (version : ℕ) (names : List (List ℕ)) (late : Summary → ℕ → Option ℕ) (bytes m first : List ℕ) (d : Defined) (count n : ℕ) (second : List ℕ) (u : Used) (rest name : List ℕ) (s : Summary)
    → name_at names bytes ≡ Ok (m, first) → defined_at names first ≡ Ok ((d, count), second) → n ≡ length d.functions → used_at version names n second ≡ Ok (u, rest)
    → name ≡ m → s ≡ whole_summary version name d u → fields_at version names late bytes ≡ ended (late s count) (contents names s) rest
unfolding fields_at
found_in_parts version names late bytes m first d count n second u rest name s e1 e2 en e3 em es =
    passes (name_at names bytes) (behind_name version names late) m first e1
    ∙ passes (defined_at names first) (behind_defined version names late m) (d, count) second e2
    ∙ passes (used_at version names (length d.functions) second) (end_at version names late m (d, count)) u rest (ap (λ k. used_at version names k second) (sym en) ∙ e3)
    ∙ ap (λ x. ended (late x count) (contents names x) rest) (sym (es ∙ ap (λ x. whole_summary version x d u) em))

pub fault_in_name : (version : ℕ) (names : List (List ℕ)) (late : Summary → ℕ → Option ℕ) (bytes : List ℕ) (e : FieldFault) → Fails e (name_at names bytes) → Fails e (fields_at version names late bytes)
unfolding fields_at
fault_in_name version names late bytes field.NoMemory h = tt
fault_in_name version names late bytes (field.Fault left) h = stops (name_at names bytes) (behind_name version names late) left h

pub fault_in_defined : (version : ℕ) (names : List (List ℕ)) (late : Summary → ℕ → Option ℕ) (bytes m first : List ℕ) (e : FieldFault)
    → name_at names bytes ≡ Ok (m, first) → Fails e (defined_at names first) → Fails e (fields_at version names late bytes)
unfolding fields_at
fault_in_defined version names late bytes m first field.NoMemory e1 h = tt
fault_in_defined version names late bytes m first (field.Fault left) e1 h =
    passes (name_at names bytes) (behind_name version names late) m first e1
    ∙ stops (defined_at names first) (behind_defined version names late m) left h

pub fault_in_used : (version : ℕ) (names : List (List ℕ)) (late : Summary → ℕ → Option ℕ) (bytes m first : List ℕ) (d : Defined) (count n : ℕ) (second : List ℕ) (e : FieldFault)
    → name_at names bytes ≡ Ok (m, first) → defined_at names first ≡ Ok ((d, count), second) → n ≡ length d.functions → Fails e (used_at version names n second) → Fails e (fields_at version names late bytes)
unfolding fields_at
fault_in_used version names late bytes m first d count n second field.NoMemory e1 e2 en h = tt
fault_in_used version names late bytes m first d count n second (field.Fault left) e1 e2 en h =
    passes (name_at names bytes) (behind_name version names late) m first e1
    ∙ passes (defined_at names first) (behind_defined version names late m) (d, count) second e2
    ∙ stops (used_at version names (length d.functions) second) (end_at version names late m (d, count)) left (ap (λ k. used_at version names k second) (sym en) ∙ h)
