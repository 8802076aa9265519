-- What the command did, told of the file in which an undefined operation stands.
use Rattle.std.proofs.Common.{◌≡◌, ℕ, Bool, true, false, if◌then◌else◌, ◌⊎◌, ⊎_elim, inl, inr, List, [], ◌∷◌, ◌++◌, ◌||◌, map, Option, Some, None, refl, sym, ap, ◌∙◌, subst}
use Rattle.std.specs.Prelude.{IfSome, String, string_bytes}
use Rattle.std.specs.declared.alloc.Global.{Global}
use Rattle.std.specs.List.{list_any}
use Rattle.std.specs.Str.{bytes_eq}
use Rattle.std.specs.FinMap as finite
use Rattle.std.specs.FinMap.{contains_key-keys}
use Rattle.std.specs.Ordering.{nat_cmp, eq_by_cmp, is_eq}
use Rattle.std.specs.Cmp.Lexicographic.{slice_cmp}
use Rattle.std.proofs.lemmas.Map.Text.{is_eq-slice_cmp}
use Rattle.pw_cmean.specs.declared.undefined.Undef.{Undef}
use Rattle.pw_io.specs.Files.{Files, Told, Keeps}
use Rattle.pw_io.specs.declared.StoreError.{StoreError}
use Rattle.pw_io.specs.declared.StoreError.TheVariants as store
use Rattle.pw_store_modules.specs.Modules.{modules_of}
use Rattle.pw_store_texts.specs.Names.{source_name}
use Rattle.pw_store_texts.specs.Seen.{IsSeen}
use Rattle.pw_build_opts.specs.declared.opts.RunOpts.{RunOpts}
use Rattle.pw_commands.specs.Outcome.{IsFound}
use Rattle.pw_top_answer.specs.declared.answer.Answer.{Answer}
use Rattle.pw_top_answer.specs.declared.answer.Answer.TheVariants.{ReadFault, WriteFault, StoreFault, NoMemory, Undefined, UndefinedSource}
use Rattle.pw_top_answer.specs.Effects.{Effect}
use Rattle.pw_top_answer.specs.Outcomes.{Answers, InputCount, IsLineDue, LeavesInput, LeavesStreams, OutputCount, PutsOut, StoreCount, WasReadInPart, store_answer}
use Rattle.pw_interp_runs.specs.Running.{TellsToken}
use Rattle.pw_commands_interp.specs.Interpreting.{Did, DidPlain, InterpEffect, IsInterpAnswer, IsToldEnd, PlainEffect, ToldAny, has_source, told_effect, told_end, told_line}
use Rattle.pw_commands_interp.proofs.BuildLemmas.{effect_ends}
use Rattle.pw_interp_runs.proofs.RunLemmas.{appends_none, untouched}

-- ---- whether there is a C source, by the names of all files

any_is : (names : List (String Global)) (file : List ℕ) → list_any (λ name. bytes_eq file (string_bytes name)) names ≡ list_any (eq_by_cmp (slice_cmp nat_cmp) file) (map string_bytes names)
any_is [] file = refl
any_is (name ∷ names) file =
    ap (λ (b : Bool). b || list_any (λ n. bytes_eq file (string_bytes n)) names) (sym (is_eq-slice_cmp file (string_bytes name)))
    ∙ ap (λ (b : Bool). is_eq (slice_cmp nat_cmp file (string_bytes name)) || b) (any_is names file)

there_is : (names : List (String Global)) (files : Files) (file : List ℕ) → map string_bytes names ≡ finite.keys files → list_any (λ name. bytes_eq file (string_bytes name)) names ≡ finite.contains_key files file
there_is names files file e = any_is names file ∙ ap (list_any (eq_by_cmp (slice_cmp nat_cmp) file)) e ∙ sym (contains_key-keys files file)

source_is : (names : List (String Global)) (files : Files) (home file : List ℕ) (b : Bool) → map string_bytes names ≡ finite.keys files → file ≡ source_name home → b ≡ list_any (λ name. bytes_eq file (string_bytes name)) names → b ≡ has_source files home
source_is names files home file b e f is = is ∙ there_is names files file e ∙ ap (finite.contains_key files) f

chosen : (b c : Bool) (x y : Answer) → b ≡ c → (if b then x else y) ≡ (if c then x else y)
chosen b c x y e = ap (λ (z : Bool). if z then x else y) e

pub told_there : (names : List (String Global)) (files : Files) (operation : Undef) (home : List ℕ) (token : ℕ) (file : List ℕ) (b : Bool) → map string_bytes names ≡ finite.keys files → file ≡ source_name home → b ≡ list_any (λ name. bytes_eq file (string_bytes name)) names → b ≡ true
    → UndefinedSource operation home token ≡ told_end files (Undefined operation home token)
told_there names files operation home token file b e f is there =
    chosen true (has_source files home) (UndefinedSource operation home token) (Undefined operation home token) (sym there ∙ source_is names files home file b e f is)

pub told_absent : (names : List (String Global)) (files : Files) (operation : Undef) (home : List ℕ) (token : ℕ) (file : List ℕ) (b : Bool) → map string_bytes names ≡ finite.keys files → file ≡ source_name home → b ≡ list_any (λ name. bytes_eq file (string_bytes name)) names → b ≡ false
    → Undefined operation home token ≡ told_end files (Undefined operation home token)
told_absent names files operation home token file b e f is not =
    chosen false (has_source files home) (UndefinedSource operation home token) (Undefined operation home token) (sym not ∙ source_is names files home file b e f is)

-- every other answer is told as it is
abbrev pub IsNoOperation : Answer → Type 0
IsNoOperation answer = (operation : Undef) (home : List ℕ) (token : ℕ) → answer ≡ Undefined operation home token → ⊥

pub told_plain : (files : Files) (answer : Answer) → IsNoOperation answer → answer ≡ told_end files answer
told_plain files (Undefined operation home token) not = absurd (not operation home token refl)
told_plain files _ not = refl

pub any_plain : (answer : Answer) → IsNoOperation answer → ToldAny answer answer
any_plain (Undefined operation home token) not = absurd (not operation home token refl)
any_plain _ not = refl

pub any_memory : (answer : Answer) → TellsToken answer → ToldAny answer NoMemory
any_memory (Undefined operation home token) t = inr (inr refl)
any_memory _ t = absurd t

-- of a reply
pub reply_told : (names : List (String Global)) (answer told : Answer) → ((files : Files) → map string_bytes names ≡ finite.keys files → told ≡ told_end files answer) → (files : Files) → map string_bytes names ≡ finite.keys files → IsToldEnd files answer told
reply_told names answer told h = λ files e. inl (h files e)

pub reply_memory : (names : List (String Global)) (answer : Answer) → TellsToken answer → (files : Files) → map string_bytes names ≡ finite.keys files → IsToldEnd files answer NoMemory
reply_memory names answer t = λ files e. inr (refl, t)

-- ---- what holds of an answer holds of what is told of it

end_by : (P : Answer → Type 0) (b : Bool) (x y : Answer) → P x → P y → P (if b then x else y)
end_by P true x y p q = p
end_by P false x y p q = q

told_case : (P : Answer → Type 0) → ((operation : Undef) (home : List ℕ) (token : ℕ) → P (Undefined operation home token) → P (UndefinedSource operation home token)) → (files : Files) (a : Answer) → P a → P (told_end files a)
told_case P f files (Undefined operation home token) p = end_by P (has_source files home) (UndefinedSource operation home token) (Undefined operation home token) (f operation home token p) p
told_case P f files _ p = p

by_any : (P : Answer → Type 0) → ((operation : Undef) (home : List ℕ) (token : ℕ) → P (Undefined operation home token) → P (UndefinedSource operation home token) × P NoMemory) → (a told : Answer) → ToldAny a told → P a → P told
by_any P f (Undefined operation home token) told h p =
    ⊎_elim {C = P told} (λ e. subst P (sym e) p) (λ q. ⊎_elim {C = P told} (λ e. subst P (sym e) (f operation home token p).0) (λ e. subst P (sym e) (f operation home token p).1) q) h
by_any P f _ told h p = subst P (sym h) p

pub kind_told : (a told : Answer) → ToldAny a told → IsInterpAnswer a → IsInterpAnswer told
kind_told a told h p = by_any IsInterpAnswer (λ operation home token k. (tt, tt)) a told h p

pub store_told : (before mid now : ℕ) (a told : Answer) → mid ≡ before → ToldAny a told → StoreCount mid now a → StoreCount before now told
store_told before mid now a told e h p = subst (λ (n : ℕ). StoreCount n now told) e (by_any (StoreCount mid now) (λ operation home token k. (k, k)) a told h p)

pub read_told : (before now : ℕ) (a told : Answer) → ToldAny a told → InputCount before now a → InputCount before now told
read_told before now a told h p = by_any (InputCount before now) (λ operation home token k. (k, k)) a told h p

pub write_told : (before now : ℕ) (a told : Answer) → ToldAny a told → OutputCount before now a → OutputCount before now told
write_told before now a told h p = by_any (OutputCount before now) (λ operation home token k. (k, k)) a told h p

pub streams_told : (i i' o o' : Option (List ℕ)) (a told : Answer) → ToldAny a told → LeavesStreams a i i' o o' → LeavesStreams told i i' o o'
streams_told i i' o o' a told h p = by_any (λ x. LeavesStreams x i i' o o') (λ operation home token k. (tt, tt)) a told h p

line_of : (shown : Files) (a told : Answer) (line : Option ℕ) → ToldAny a told → IsLineDue (told_line (modules_of shown) a) a line → IsLineDue (told_line (modules_of shown) told) told line
line_of shown a told line h p = by_any (λ x. IsLineDue (told_line (modules_of shown) x) x line) (λ operation home token k. (k, tt)) a told h p

pub line_told : (first mid : Option Told) (a told : Answer) (number line : Option ℕ) → Keeps first mid → ToldAny a told → line ≡ number → IfSome mid (λ t. (shown : Files) → IsSeen t.files shown → IsLineDue (told_line (modules_of shown) a) a number)
    → IfSome first (λ t. (shown : Files) → IsSeen t.files shown → IsLineDue (told_line (modules_of shown) told) told line)
line_told None mid a told number line same h e p = tt
line_told (Some t) mid a told number line same h e p =
    let P : Option Told → Type 0 = λ o. IfSome o (λ u. (shown : Files) → IsSeen u.files shown → IsLineDue (told_line (modules_of shown) a) a number) in
    λ shown is. line_of shown a told line h (subst (λ (n : Option ℕ). IsLineDue (told_line (modules_of shown) a) a n) (sym e) (subst P same p shown is))

pub kept_told : (first mid new : Option Told) → Keeps first mid → Keeps mid new → Keeps first new
kept_told None mid new h k = tt
kept_told (Some t) mid new h k = let P : Option Told → Type 0 = λ o. Keeps o new in subst P h k

-- ---- what was done

-- what the command leaves of its input is a rest of it
plain_ends : (files : Files) (opts : RunOpts) (input : List ℕ) (e : Effect) → PlainEffect files opts input e → (more : List ℕ) × (input ≡ more ++ e.rest)
plain_ends files opts input e d = effect_ends d.0 opts input d.2.0 e d.2.2

pub interp_ends : (files : Files) (opts : RunOpts) (input : List ℕ) (e : Effect) → InterpEffect files opts input e → (more : List ℕ) × (input ≡ more ++ e.rest)
interp_ends files opts input e d =
    let m = plain_ends files opts input d.0 d.1 in (m.0, subst (λ (x : Effect). input ≡ m.0 ++ x.rest) (sym d.2) m.1)

itself : (a : Answer) → Answers a a
itself ReadFault = tt
itself WriteFault = tt
itself StoreFault = tt
itself NoMemory = tt
itself _ = refl

same_answers : (wanted a : Answer) → wanted ≡ a → Answers wanted a
same_answers wanted a e = subst (λ (x : Answer). Answers x a) (sym e) (itself a)

same_told : (files : Files) (wanted a : Answer) → wanted ≡ a → Answers (told_end files wanted) (told_end files a)
same_told files wanted a e = same_answers (told_end files wanted) (told_end files a) (ap (told_end files) e)

answers_told : (files : Files) (wanted a : Answer) → Answers wanted a → Answers (told_end files wanted) (told_end files a)
answers_told files wanted ReadFault h = tt
answers_told files wanted WriteFault h = tt
answers_told files wanted StoreFault h = tt
answers_told files wanted NoMemory h = tt
answers_told files wanted _ h = same_told files wanted _ h

found_is : (comes : Effect → Type 0) (a : Answer) (e : Effect) → comes e → e.answer ≡ a → IsFound comes a
found_is comes ReadFault e c is = (e, c)
found_is comes WriteFault e c is = (e, c)
found_is comes StoreFault e c is = tt
found_is comes NoMemory e c is = tt
found_is comes _ e c is = (e, c, is)

found_same : (files : Files) (opts : RunOpts) (input : List ℕ) (a : Answer) (e : Effect) → PlainEffect files opts input e → e.answer ≡ a → IsFound (InterpEffect files opts input) (told_end files a)
found_same files opts input a e c is = found_is (InterpEffect files opts input) (told_end files a) (told_effect files e) (e, c, refl) (ap (told_end files) is)

found_told : (files : Files) (opts : RunOpts) (input : List ℕ) (a : Answer) → IsFound (PlainEffect files opts input) a → IsFound (InterpEffect files opts input) (told_end files a)
found_told files opts input ReadFault h = (told_effect files h.0, (h.0, h.1, refl))
found_told files opts input WriteFault h = (told_effect files h.0, (h.0, h.1, refl))
found_told files opts input StoreFault h = tt
found_told files opts input NoMemory h = tt
found_told files opts input _ h = found_same files opts input _ h.0 h.1 h.2

end_did : (files : Files) (opts : RunOpts) (input : List ℕ) (a : Answer) (rest' taken taken' : Option (List ℕ)) → DidPlain files opts input a rest' taken taken' → Did files opts input (told_end files a) rest' taken taken'
end_did files opts input a rest' taken taken' h = record {
  answers = λ e d. subst (λ (x : Effect). Answers x.answer (told_end files a)) (sym d.2) (answers_told files d.0.answer a (h.answers d.0 d.1));
  output = λ e d. subst (λ (x : Effect). PutsOut x.output (told_end files a) taken taken') (sym d.2)
      (told_case (λ x. PutsOut d.0.output x taken taken') (λ operation home token p. record { output = p.output; more = p.more; taken = p.taken; front = p.front; whole = p.whole }) files a (h.output d.0 d.1));
  rest = λ e d. subst (λ (x : Effect). LeavesInput x.rest input (told_end files a) rest') (sym d.2) (told_case (λ x. LeavesInput d.0.rest input x rest') (λ operation home token p. p) files a (h.rest d.0 d.1));
  found = found_told files opts input a h.found;
}

-- the rest is there
read_all : (front wanted input : List ℕ) (rest' : Option (List ℕ)) → input ≡ front ++ wanted → rest' ≡ Some wanted → WasReadInPart wanted input rest'
read_all front wanted input rest' is e = subst (WasReadInPart wanted input) (sym e) (front, [], (is, refl))

-- memory ran out for the file
memory_end : (files : Files) (opts : RunOpts) (input : List ℕ) (a : Answer) (rest' taken taken' : Option (List ℕ)) → TellsToken a → DidPlain files opts input a rest' taken taken' → Did files opts input NoMemory rest' taken taken'
memory_end files opts input (Undefined operation home token) rest' taken taken' t h = record {
  answers = λ e d. tt;
  output = λ e d.
      let p = h.output d.0 d.1 in
      subst (λ (x : Effect). PutsOut x.output NoMemory taken taken') (sym d.2) (record { output = p.output; more = p.more; taken = p.taken; front = p.front; whole = tt });
  rest = λ e d.
      let m = plain_ends files opts input d.0 d.1 in
      subst (λ (x : Effect). LeavesInput x.rest input NoMemory rest') (sym d.2) (read_all m.0 d.0.rest input rest' m.1 (h.rest d.0 d.1));
  found = tt;
}
memory_end files opts input _ rest' taken taken' t h = absurd t

told_here : (files : Files) (opts : RunOpts) (input : List ℕ) (a told : Answer) (rest' taken taken' : Option (List ℕ)) → IsToldEnd files a told → DidPlain files opts input a rest' taken taken' → Did files opts input told rest' taken taken'
told_here files opts input a told rest' taken taken' t h =
    ⊎_elim {C = Did files opts input told rest' taken taken'} (λ e. subst (λ (x : Answer). Did files opts input x rest' taken taken') (sym e) (end_did files opts input a rest' taken taken' h))
    (λ m. subst (λ (x : Answer). Did files opts input x rest' taken taken') (sym m.0) (memory_end files opts input a rest' taken taken' m.1 h)) t

over_rest : (rest : Option (List ℕ)) (P Q : List ℕ → Type 0) → ((input : List ℕ) → P input → Q input) → IfSome rest P → IfSome rest Q
over_rest None P Q f h = tt
over_rest (Some input) P Q f h = f input h

pub did_told : (first mid : Option Told) (names : List (String Global)) (opts : RunOpts) (rest rest' taken taken' : Option (List ℕ)) (a told : Answer) → IfSome first (λ t. map string_bytes names ≡ finite.keys t.files) → Keeps first mid
    → ((files : Files) → map string_bytes names ≡ finite.keys files → IsToldEnd files a told) → IfSome mid (λ t. IfSome rest (λ input. DidPlain t.files opts input a rest' taken taken'))
    → IfSome first (λ t. IfSome rest (λ input. Did t.files opts input told rest' taken taken'))
did_told None mid names opts rest rest' taken taken' a told listed same t h = tt
did_told (Some s) mid names opts rest rest' taken taken' a told listed same t h =
    let P : Option Told → Type 0 = λ o. IfSome o (λ u. IfSome rest (λ input. DidPlain u.files opts input a rest' taken taken')) in
    over_rest rest (λ input. DidPlain s.files opts input a rest' taken taken') (λ input. Did s.files opts input told rest' taken taken')
    (λ input d. told_here s.files opts input a told rest' taken taken' (t s.files listed) d) (subst P same h)

-- ---- the names were not listed

stored_here : (files : Files) (opts : RunOpts) (input : List ℕ) (taken : Option (List ℕ)) (error : StoreError) → Did files opts input (store_answer error) (Some input) taken taken
stored_here files opts input taken store.Failed = record {
  answers = λ e d. tt;
  output = λ e d. record { output = []; more = e.output; taken = appends_none taken; front = refl; whole = tt };
  rest = λ e d. let m = interp_ends files opts input e d in untouched e.rest m.0 input m.1;
  found = tt;
}
stored_here files opts input taken store.NoMemory = record {
  answers = λ e d. tt;
  output = λ e d. record { output = []; more = e.output; taken = appends_none taken; front = refl; whole = tt };
  rest = λ e d. let m = interp_ends files opts input e d in untouched e.rest m.0 input m.1;
  found = tt;
}

pub did_stored : (first : Option Told) (opts : RunOpts) (rest taken : Option (List ℕ)) (error : StoreError) (a : Answer) → a ≡ store_answer error → IfSome first (λ t. IfSome rest (λ input. Did t.files opts input a rest taken taken))
did_stored None opts rest taken error a e = tt
did_stored (Some t) opts None taken error a e = tt
did_stored (Some t) opts (Some input) taken error a e = subst (λ (x : Answer). Did t.files opts input x (Some input) taken taken) (sym e) (stored_here t.files opts input taken error)

no_line : (shown : Files) (error : StoreError) (line : Option ℕ) → IsLineDue (told_line (modules_of shown) (store_answer error)) (store_answer error) line
no_line shown store.Failed line = tt
no_line shown store.NoMemory line = tt

pub line_stored : (first : Option Told) (error : StoreError) (line : Option ℕ) → IfSome first (λ t. (shown : Files) → IsSeen t.files shown → IsLineDue (told_line (modules_of shown) (store_answer error)) (store_answer error) line)
line_stored None error line = tt
line_stored (Some t) error line = λ shown is. no_line shown error line

pub kind_stored : (error : StoreError) → IsInterpAnswer (store_answer error)
kind_stored store.Failed = tt
kind_stored store.NoMemory = tt

pub read_stored : (count : ℕ) (error : StoreError) → InputCount count count (store_answer error)
read_stored count store.Failed = refl
read_stored count store.NoMemory = refl

pub write_stored : (count : ℕ) (error : StoreError) → OutputCount count count (store_answer error)
write_stored count store.Failed = refl
write_stored count store.NoMemory = refl

pub streams_stored : (i o : Option (List ℕ)) (error : StoreError) → LeavesStreams (store_answer error) i i o o
streams_stored i o store.Failed = (refl, refl)
streams_stored i o store.NoMemory = tt
