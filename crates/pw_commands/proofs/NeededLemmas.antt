-- Reading needed files, one after another.
use Rattle.std.proofs.Common.{◌≡◌, ℕ, suc, ◌+◌, ◌<◌, ◌≤◌, Bool, true, false, cond, List, [], ◌∷◌, ◌++◌, length, get_or, drop, map, codes, Option, Some, None, Result, Ok, Err, refl, sym, ap, ◌∙◌, subst, append_assoc, append-nil, arith}
use Rattle.std.specs.Prelude.{IfSome, nat_le}
use Rattle.std.proofs.lemmas.Bool.Decides.{nat_tests}
use Rattle.std.proofs.lemmas.List.{drop-map}
use Rattle.std.proofs.Math.Seq.{drop-cons}
use Rattle.pw_commands.specs.Linking.{few_names, of_names}
use Rattle.pw_io.specs.Files.{Files, Told, Keeps}
use Rattle.pw_io.specs.declared.StoreError.TheVariants as store
use Rattle.pw_value.specs.Limits.{module_limit}
use Rattle.pw_value.specs.declared.fault.LinkFault.TheVariants.{TooMany}
use Rattle.pw_value.specs.declared.fault.What.TheVariants.{Modules}
use Rattle.pw_store_modules.specs.Few.{IsFewFault}
use Rattle.pw_store_texts.specs.Named.{names_of_texts}
use Rattle.pw_store_modules.specs.declared.few.ModulesFault.{ModulesFault}
use Rattle.pw_store_modules.specs.declared.few.ModulesFault.TheVariants as modules
use Rattle.pw_top_answer.specs.Outcomes.{modules_answer}
use Rattle.pw_top_answer.specs.declared.answer.Answer.{Answer}
use Rattle.pw_top_answer.specs.declared.answer.Answer.TheVariants.{LinkRefused, StoreFault, NoMemory}
use Rattle.pw_commands.specs.Needed.{Adds, StopsAs, Needs, all_needed, before_others, needed}

-- what was read, before what the files that are left hold
abbrev pub behind_read : {V : Type 0} → List V → Result (List V) Answer → Result (List V) Answer
behind_read read (Ok values) = Ok (read ++ values)
behind_read read (Err answer) = Err answer

behind_more : {V : Type 0} (old : List V) (value : V) (rest : Result (List V) Answer) → behind_read (old ++ value ∷ []) rest ≡ behind_read old (before_others (Ok value) rest)
behind_more old value (Ok values) = ap Ok (append_assoc old (value ∷ []) values)
behind_more old value (Err answer) = refl

-- one more value was read
pub needed_step : {V : Type 0} (old new : List V) (first : Result V Answer) (rest all : Result (List V) Answer) → behind_read old (before_others first rest) ≡ all → Adds first old new → behind_read new rest ≡ all
needed_step old new (Ok value) rest all inv added = ap (λ xs. behind_read xs rest) added ∙ behind_more old value rest ∙ inv
needed_step old new (Err answer) rest all inv added = absurd added

-- nothing is left
pub needed_end : {V : Type 0} (read : List V) (all : Result (List V) Answer) → behind_read read (Ok []) ≡ all → all ≡ Ok read
needed_end read all inv = sym inv ∙ ap Ok (append-nil read)

-- an answer in place of the first is one in place of all
stops_first : {V : Type 0} (answer other : Answer) (old : List V) (rest : Result (List V) Answer) → ◌≡◌ {A = Result V Answer} (Err other) (Err answer) → behind_read old (before_others (Err other) rest) ≡ Err answer
stops_first answer other old rest e = cc

no_value : {V : Type 0} (answer : Answer) (value : V) → ◌≡◌ {A = Result V Answer} (Ok value) (Err answer) → ⊥
no_value answer value e = cc

pub by_first : {V : Type 0} (answer : Answer) (old : List V) (first : Result V Answer) (rest all : Result (List V) Answer) → behind_read old (before_others first rest) ≡ all → first ≡ Err answer → all ≡ Err answer
by_first answer old (Ok value) rest all inv e = absurd (no_value answer value e)
by_first answer old (Err other) rest all inv e = sym inv ∙ stops_first answer other old rest e

-- an answer in place of one value is one in place of another that it decides
stops_on : {V W : Type 0} (answer : Answer) (first : Result V Answer) (all : Result W Answer) → StopsAs answer first → (first ≡ Err answer → all ≡ Err answer) → StopsAs answer all
stops_on StoreFault first all h f = tt
stops_on NoMemory first all h f = tt
stops_on _ first all h f = f h

pub needed_stop : {V : Type 0} (answer : Answer) (old : List V) (first : Result V Answer) (rest all : Result (List V) Answer) → behind_read old (before_others first rest) ≡ all → StopsAs answer first → StopsAs answer all
needed_stop answer old first rest all inv h = stops_on answer first all h (by_first answer old first rest all inv)

-- ---- a loop over the modules' files of one kind, at a store that tells the same in each turn

-- what was read and what the files that are left hold is what all hold
abbrev pub ReadSoFar : {V : Type 0} → (List ℕ → Result V ℕ) → Option Told → List (List ℕ) → List V → List (List ℕ) → Type 0
ReadSoFar reader told all read left = IfSome told (λ t. behind_read read (all_needed reader t.files left) ≡ all_needed reader t.files all)

pub read_turn : {V : Type 0} (reader : List ℕ → Result V ℕ) (first now : Option Told) (all left rest : List (List ℕ)) (name : List ℕ) (old new : List V) →
    ReadSoFar reader first all old left → Keeps first now → IfSome now (λ t. Adds (needed reader t.files name) old new) → left ≡ name ∷ rest → ReadSoFar reader first all new rest
read_turn reader None now all left rest name old new inv same added e = tt
read_turn reader (Some told) now all left rest name old new inv same added e =
    let P : Option Told → Type 0 = λ o. IfSome o (λ t. Adds (needed reader t.files name) old new) in
    let Q : List (List ℕ) → Type 0 = λ names. behind_read old (all_needed reader told.files names) ≡ all_needed reader told.files all in
    needed_step old new (needed reader told.files name) (all_needed reader told.files rest) (all_needed reader told.files all) (subst Q e inv) (subst P same added)

pub read_stop : {V : Type 0} (reader : List ℕ → Result V ℕ) (answer : Answer) (first now : Option Told) (all left rest : List (List ℕ)) (name : List ℕ) (old : List V) →
    ReadSoFar reader first all old left → Keeps first now → IfSome now (λ t. StopsAs answer (needed reader t.files name)) → left ≡ name ∷ rest → IfSome first (λ t. StopsAs answer (all_needed reader t.files all))
read_stop reader answer None now all left rest name old inv same stops e = tt
read_stop reader answer (Some told) now all left rest name old inv same stops e =
    let P : Option Told → Type 0 = λ o. IfSome o (λ t. StopsAs answer (needed reader t.files name)) in
    let Q : List (List ℕ) → Type 0 = λ names. behind_read old (all_needed reader told.files names) ≡ all_needed reader told.files all in
    needed_stop answer old (needed reader told.files name) (all_needed reader told.files rest) (all_needed reader told.files all) (subst Q e inv) (subst P same stops)

pub read_end : {V : Type 0} (reader : List ℕ → Result V ℕ) (first : Option Told) (all left : List (List ℕ)) (read : List V) → ReadSoFar reader first all read left → left ≡ [] → IfSome first (λ t. all_needed reader t.files all ≡ Ok read)
read_end reader None all left read inv e = tt
read_end reader (Some told) all left read inv e =
    let Q : List (List ℕ) → Type 0 = λ names. behind_read read (all_needed reader told.files names) ≡ all_needed reader told.files all in
    needed_end read (all_needed reader told.files all) (subst Q e inv)

-- the store tells as before through two calls
pub keeps_on : (first now later : Option Told) → Keeps first now → Keeps now later → Keeps first later
keeps_on None now later h k = tt
keeps_on (Some told) now later h k = let P : Option Told → Type 0 = λ o. Keeps o later in subst P h k

-- the name that is next, and those behind it
pub next_left : {A B : Type 0} (f : A → B) (xs : List A) (i : ℕ) (x : A) → i < length xs → x ≡ get_or xs i x → drop i (map f xs) ≡ f x ∷ drop (i + 1) (map f xs)
next_left f xs i x h e =
    let more : suc i ≡ i + 1 = omega arith in
    drop-map f i xs ∙ ap (map f) (drop-cons xs i x h) ∙ ap (λ v. f v ∷ map f (drop (suc i) xs)) (sym e)
    ∙ ap (λ l. f x ∷ l) (sym (drop-map f (suc i) xs)) ∙ ap (λ k. f x ∷ drop k (map f xs)) more

-- what all modules have, by the names of the modules
pub needed_of_names : {V T : Type 0} (view : T → List V) (reader : List ℕ → Result V ℕ) (ending : List ℕ) (first now : Option Told) (names files : List (List ℕ)) (result : Result T Answer) →
    IfSome first (λ t. few_names t.files ≡ Ok names) → Keeps first now → files ≡ map (λ name. name ++ ending) names
    → IfSome now (λ t. Needs view result (all_needed reader t.files files))
    → IfSome first (λ t. Needs view result (of_names reader ending t.files (few_names t.files)))
needed_of_names view reader ending None now names files result few same e h = tt
needed_of_names {V = V} view reader ending (Some told) now names files result few same e h =
    let P : Option Told → Type 0 = λ o. IfSome o (λ t. Needs view result (all_needed reader t.files files)) in
    let Q : Result (List V) Answer → Type 0 = λ w. Needs view result w in
    subst Q (ap (all_needed reader told.files) e ∙ sym (ap (of_names reader ending told.files) few)) (subst P same h)

-- ---- the modules' names

within_limit : (n : ℕ) → n ≤ module_limit → nat_le n module_limit ≡ true
within_limit n h = grind (arith, nat_tests, h)

beyond_limit : (n : ℕ) → module_limit < n → nat_le n module_limit ≡ false
beyond_limit n h = grind (arith, nat_tests, h)

few_when : (files : Files) (b : Bool) → nat_le (length (names_of_texts files)) module_limit ≡ b
    → few_names files ≡ cond b (Ok (names_of_texts files)) (Err (LinkRefused (TooMany Modules (length (names_of_texts files)))))
few_when files b e = ap (λ (c : Bool). cond c (Ok (names_of_texts files)) (Err (LinkRefused (TooMany Modules (length (names_of_texts files)))))) e

-- the names that are told are all, and not too many
pub names_told : (first : Option Told) (names : List (List ℕ)) → IfSome first (λ t. names ≡ names_of_texts t.files) → IfSome first (λ t. length (names_of_texts t.files) ≤ module_limit) → IfSome first (λ t. few_names t.files ≡ Ok names)
names_told None names e few = tt
names_told (Some told) names e few = few_when told.files true (within_limit _ few) ∙ ap Ok (sym e)

stops_by : (files : Files) (fault : ModulesFault) → IsFewFault (length (names_of_texts files)) fault → StopsAs (modules_answer fault) (few_names files)
stops_by files (modules.TooMany count) h = few_when files false (beyond_limit _ h.1) ∙ ap (λ (n : ℕ). Err (LinkRefused (TooMany Modules n))) (sym h.0)
stops_by files (modules.Store store.Failed) h = tt
stops_by files (modules.Store store.NoMemory) h = tt

-- the answer where they are not told
pub names_stop : (first : Option Told) (fault : ModulesFault) (answer : Answer) → IfSome first (λ t. IsFewFault (length (names_of_texts t.files)) fault) → answer ≡ modules_answer fault → IfSome first (λ t. StopsAs answer (few_names t.files))
names_stop None fault answer few e = tt
names_stop (Some told) fault answer few e = subst (λ (a : Answer). StopsAs a (few_names told.files)) (sym e) (stops_by told.files fault few)
