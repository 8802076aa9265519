-- What directives do, by what their calls answer.
use Rattle.std.proofs.Common.{◌≡◌, ℕ, ◌≤◌, ◌==◌, Bool, true, false, not, if◌then◌else◌, List, [], ◌∷◌, ◌++◌, length, Option, Some, None, IfOk, IfErr, Result, Ok, Err, inl, inr, ◌⊎◌, refl, sym, ap, ◌∙◌, subst, reverse, arith}
use Rattle.std.proofs.lemmas.Bool.{eqb-true, false≢true}
use Rattle.std.proofs.lemmas.List.{nil_from_length, reverse-append}
use Rattle.std.specs.Prelude.{is_some}
use Rattle.pw_token.specs.declared.token.Token.{Token}
use Rattle.pw_cpp_directives.specs.Obeying.{AnswersEffect, AnswersJudgement, IsBeside, IsDoneBy, IsFaultOf, IsJudgedBy, IsKept, OpensIf, fault_of_verdict, standing_of}
use Rattle.pw_cpp_directives.specs.Conditions.{Judges, Verdict, Holds, Faulty}
use Rattle.pw_cpp_directives.specs.Conditions as condition
use Rattle.pw_cpp_directives.specs.Directives.{Effect, Becomes, Does, DoesWord, Fails, Standing, TurnsElif, alone, elif_effect, else_effect, endif_effect, errs, fault, fault_of_expansion, if_effect, judged, kind_of_define, kind_of_macro, late, standing, taken, with_definition, with_macros, with_test, with_undefined, word_of}
use Rattle.pw_cpp_directives.specs.Groups.{Sections, with_elif, with_else}
use Rattle.pw_cpp_directives.specs.Groups.{section as section_of}
use Rattle.pw_cpp_directives.specs.declared.condition.Digits.{Digits}
use Rattle.pw_cpp_directives.specs.declared.condition.Verdict.{Verdict as Judged}
use Rattle.pw_cpp_directives.specs.declared.condition.Verdict.TheVariants as judgement
use Rattle.pw_cpp_directives.specs.declared.directive.Directive.{Directive}
use Rattle.pw_cpp_directives.specs.declared.directive.Fault.{Fault}
use Rattle.pw_cpp_directives.specs.declared.directive.Standing.{Standing as Kept}
use Rattle.pw_cpp_directives.specs.declared.directive.Word.{Word}
use Rattle.pw_cpp_directives.specs.declared.directive.Word.TheVariants as word_is
use Rattle.pw_cpp_directives.specs.declared.fault.CppKind.TheVariants as kind
use Rattle.pw_cpp_directives.specs.declared.groups.Section.{Section}
use Rattle.pw_cpp_expand.specs.Expansion.{produced_limit}
use Rattle.pw_cpp_expand.specs.Numbered.{HaveEmpty}
use Rattle.pw_cpp_expand.specs.declared.progress.ExpandFault.{ExpandFault}
use Rattle.pw_cpp_macros.specs.Definitions as define
use Rattle.pw_cpp_macros.specs.Macros as table
use Rattle.pw_cpp_macros.specs.Macros.{Macros}
use Rattle.pw_cpp_macros.specs.declared.definition.DefineFault.{DefineFault}
use Rattle.pw_cpp_macros.specs.declared.definition.Definition.{Definition}
use Rattle.pw_cpp_macros.specs.declared.definition.Macro.{Macro}
use Rattle.pw_cpp_macros.specs.declared.table.MacroFault.{MacroFault}
use Rattle.pw_cpp_macros.specs.declared.table.MacroFault.TheVariants as no
use Rattle.pw_cpp_sets.specs.Sets.{Keeps, Known}

-- ---- definitions

module _ (source : List ℕ) (s : Standing) (hash : ℕ) (found : Result Definition DefineFault) where
  pub define-fault : (f : DefineFault) → define.Answers found (Err f) → IsFaultOf (fault (kind_of_define f) hash) (λ x. Fails x ≡ with_definition source s hash found)
  define-fault f (inl e) = inl (ap kind_of_define e)
  define-fault f (inr e) = inr (sym (ap (with_definition source s hash) e))

  pub macro-fault : (definition : Definition) (f : MacroFault) (old new : Macros) → found ≡ Ok definition → old ≡ s.macros → table.Defines source definition old new (Err f)
      → IsFaultOf (fault (kind_of_macro f) hash) (λ x. Fails x ≡ with_definition source s hash found)
  macro-fault definition f old new e same (unchanged, inl n) = inl (ap kind_of_macro n)
  macro-fault definition f old new e same (unchanged, inr d) =
      inr (sym (ap (with_definition source s hash) e ∙ ap (with_macros s hash) (ap (λ m. table.defined source m definition) (sym same) ∙ d)))

  pub macro-defined : (definition : Definition) (old new : Macros) → found ≡ Ok definition → old ≡ s.macros → table.Defines source definition old new (Ok tt)
      → Becomes (standing new s.sections s.produced) ≡ with_definition source s hash found
  macro-defined definition old new e same d = sym (ap (with_definition source s hash) e ∙ ap (with_macros s hash) (ap (λ m. table.defined source m definition) (sym same) ∙ d))

-- a macro that is not added
pub macro-failed : (s : Standing) (place : ℕ) (found : Result Macros MacroFault) (f : MacroFault) → (f ≡ no.NoMemory) ⊎ (found ≡ Err f)
    → IsFaultOf (fault (kind_of_macro f) place) (λ x. Fails x ≡ with_macros s place found)
macro-failed s place found f (inl e) = inl (ap kind_of_macro e)
macro-failed s place found f (inr e) = inr (sym (ap (with_macros s place) e))

-- a name that a directive has not
pub no-name : (named : Option (List ℕ) → Effect) (hash : ℕ) (name : Option (List ℕ)) (f : Fault) → name ≡ None → f ≡ fault kind.Directive hash → named None ≡ Fails (fault kind.Directive hash)
    → IsFaultOf f (λ x. Fails x ≡ named name)
no-name named hash name f none is fails = inr (ap Fails is ∙ sym fails ∙ ap named (sym none))

-- ---- sections

-- the innermost section is the first
pub innermost-first : (outer : List Section) (section : Section) → reverse (outer ++ section ∷ []) ≡ section ∷ reverse outer
innermost-first outer section = reverse-append outer (section ∷ [])

module _ (source : List ℕ) (digits : Digits) (s : Standing) (hash : ℕ) (tokens : List Token) where
  pub elif-alone : (sections : Sections) → sections ≡ [] → TurnsElif source digits s hash tokens sections (Fails (fault kind.Condition hash))
  elif-alone sections e = let P : Sections → Type 0 = λ x. TurnsElif source digits s hash tokens x (Fails (fault kind.Condition hash)) in subst P (sym e) alone

  module _ (sections outer : Sections) (section : Section) (e : sections ≡ section ∷ outer) where
    with_sections : (effect : Effect) → TurnsElif source digits s hash tokens (section ∷ outer) effect → TurnsElif source digits s hash tokens sections effect
    with_sections effect h = let P : Sections → Type 0 = λ x. TurnsElif source digits s hash tokens x effect in subst P (sym e) h

    pub elif-late : section.behind_else ≡ true → TurnsElif source digits s hash tokens sections (Fails (fault kind.Condition hash))
    elif-late b = with_sections (Fails (fault kind.Condition hash)) (late section outer b)

    pub elif-taken : section.behind_else ≡ false → section.taken ≡ true
        → TurnsElif source digits s hash tokens sections (Becomes (standing s.macros (with_elif false section ∷ outer) s.produced))
    elif-taken b t = with_sections (Becomes (standing s.macros (with_elif false section ∷ outer) s.produced)) (taken section outer (Becomes (standing s.macros (with_elif false section ∷ outer) s.produced)) b t refl)

    pub elif-judged : (holds : Bool) (produced : ℕ) → section.behind_else ≡ false → section.taken ≡ false → Judges source s.macros digits tokens s.produced (Holds holds produced)
        → TurnsElif source digits s hash tokens sections (Becomes (standing s.macros (with_elif holds section ∷ outer) produced))
    elif-judged holds produced b t j =
        with_sections (Becomes (standing s.macros (with_elif holds section ∷ outer) produced))
        (judged section outer (Holds holds produced) (Becomes (standing s.macros (with_elif holds section ∷ outer) produced)) b t j refl)

    pub elif-fault : (found : Fault) → section.behind_else ≡ false → section.taken ≡ false
        → IsFaultOf found (λ f. (verdict : Verdict) × Judges source s.macros digits tokens s.produced verdict × (fault_of_verdict hash verdict ≡ Some f))
        → IsFaultOf found (λ f. TurnsElif source digits s hash tokens sections (Fails f))
    elif-fault found b t (inl n) = inl n
    elif-fault found b t (inr (verdict, j, e)) = inr (with_sections (Fails found) (judged section outer verdict (Fails found) b t j (effect_is verdict e)))
      where
        same : {f g : Fault} → Some f ≡ Some g → f ≡ g
        same e = cc

        none : {f : Fault} → None ≡ Some f → ⊥
        none e = cc

        effect_is : (verdict : Verdict) → fault_of_verdict hash verdict ≡ Some found → Fails found ≡ elif_effect s hash section outer verdict
        effect_is (Holds holds produced) e = absurd (none e)
        effect_is Faulty e = ap Fails (sym (same e))
        effect_is (condition.Stops f) e = ap Fails (sym (same e))

-- ---- what stands, behind what is done to it

-- a fault that is handed on
pub handed-on : {A : Type 0} (Answers : Result A Fault → Type 0) (f : Fault) (result : Result A Fault) → result ≡ Err f → Answers (Err f) → Answers result
handed-on Answers f result is h = subst Answers (sym is) h

-- an effect of one kind is one of another
pub done-weaker : (Is Was : Effect → Type 0) (new : Kept) (result : Result (Unit {0}) Fault) → ((effect : Effect) → Is effect → Was effect) → IsDoneBy Is new result → IsDoneBy Was new result
done-weaker Is Was new (Ok done) w h = w (Becomes (standing_of new)) h
done-weaker Is Was new (Err found) w (inl n) = inl n
done-weaker Is Was new (Err found) w (inr h) = inr (w (Fails found) h)

-- what is so whatever a call answers
pub always : {A : Type 0} (P : A → Type 0) (result : Result A Fault) → ((a : A) → P a) → IfOk result P
always P (Ok a) h = h a
always P (Err f) h = tt

-- a section is put within the others
pub opened-done : (Is : Effect → Type 0) (old new : Kept) (section : Section) (result : Result (Unit {0}) Fault)
    → IfOk result (λ _. new ≡ record old { sections = old.sections ++ section ∷ [] }) → IfErr result (λ f. f.kind ≡ kind.NoMemory)
    → Is (Becomes (standing old.macros (section ∷ reverse old.sections) old.produced)) → IsDoneBy Is new result
opened-done Is old new section (Ok done) e f h =
    let P : Kept → Type 0 = λ k. Is (Becomes (standing_of k)) in
    let Q : List Section → Type 0 = λ x. Is (Becomes (standing old.macros x old.produced)) in
    subst P (sym e) (subst Q (sym (innermost-first old.sections section)) h)
opened-done Is old new section (Err found) e f h = inl f

-- ---- what directives leave

keeps-sets : (a b : Known) → b ≡ a → Keeps a b
keeps-sets a b e = let P : Known → Type 0 = λ x. Keeps a x in subst P (sym e) (record { count = omega arith; same = λ number l. refl })

keeps-on : (a b c : Known) → Keeps a b → Keeps b c → Keeps a c
keeps-on a b c h k = record { count = omega (arith, h.count, k.count); same = λ number l. k.same number (omega (arith, l, h.count)) ∙ h.same number l }

pub kept-beside : (old new : Kept) → old.produced ≤ produced_limit → IsBeside old new → IsKept old new
kept-beside old new l b = (keeps-sets old.sets new.sets b.0, omega (arith, l, b.2), b.1)

pub kept-on : (a b c : Kept) → IsKept a b → IsBeside b c → IsKept a c
kept-on a b c h k = (keeps-on a.sets b.sets c.sets h.0 (keeps-sets b.sets c.sets k.0), omega (arith, h.1, k.2), k.1 ∙ h.2)

pub kept-both : (a b c : Kept) → IsBeside a b → IsKept b c → IsKept a c
kept-both a b c h k = (keeps-on a.sets b.sets c.sets (keeps-sets a.sets b.sets h.0) k.0, k.1, k.2 ∙ h.1)

-- behind a condition that was judged
pub kept-judged : (old new : Kept) → Keeps old.sets new.sets → new.produced ≤ produced_limit → new ≡ record old { sets = new.sets; produced = new.produced } → IsKept old new
kept-judged old new k l e = (k, l, ap (λ (x : Kept). x.nested) e)

-- sets that there are stay
pub empty-beside : (old new : Kept) → IsBeside old new → HaveEmpty old.sets → HaveEmpty new.sets
empty-beside old new b h = let P : Known → Type 0 = λ x. HaveEmpty x in subst P (sym b.0) h

-- ---- names

pub undefined-does : (s : Standing) (hash : ℕ) (name : Option (List ℕ)) (n : List ℕ) (m : Macros) → name ≡ Some n → m ≡ table.without s.macros n
    → Becomes (standing m s.sections s.produced) ≡ with_undefined s hash name
undefined-does s hash name n m is e = ap (λ x. Becomes (standing x s.sections s.produced)) e ∙ sym (ap (with_undefined s hash) is)

pub name-missing : (named : Option (List ℕ) → Effect) (new : Kept) (hash : ℕ) (name : Option (List ℕ)) (f : Fault) (result : Result (Unit {0}) Fault) → result ≡ Err f → name ≡ None
    → f ≡ fault kind.Directive hash → named None ≡ Fails (fault kind.Directive hash) → IsDoneBy (λ effect. effect ≡ named name) new result
name-missing named new hash name f result is none f_is fails =
    handed-on (IsDoneBy (λ effect. effect ≡ named name) new) f result is (no-name named hash name f none f_is fails)

pub as-wanted-some : (wanted : Bool) (m : Macro) (found : Option Macro) → Some m ≡ found → wanted ≡ (if wanted then is_some found else not (is_some found))
as-wanted-some true m found e = ap is_some e
as-wanted-some false m found e = ap (λ x. not (is_some x)) e

pub as-wanted-none : (wanted : Bool) (found : Option Macro) → None ≡ found → not wanted ≡ (if wanted then is_some found else not (is_some found))
as-wanted-none true found e = ap is_some e
as-wanted-none false found e = ap (λ x. not (is_some x)) e

pub tested : (s : Standing) (wanted : Bool) (hash : ℕ) (name : Option (List ℕ)) (n : List ℕ) (holds : Bool) (made : Section) → name ≡ Some n
    → holds ≡ (if wanted then is_some (table.find s.macros n) else not (is_some (table.find s.macros n))) → made ≡ section_of holds holds false
    → Becomes (standing s.macros (made ∷ s.sections) s.produced) ≡ with_test wanted s hash name
tested s wanted hash name n holds made is h m =
    ap (λ x. Becomes (standing s.macros (x ∷ s.sections) s.produced)) (m ∙ ap (λ b. section_of b b false) h) ∙ sym (ap (with_test wanted s hash) is)

-- ---- conditions

module _ (source : List ℕ) (digits : Digits) (s : Standing) (hash : ℕ) (tokens : List Token) where
  pub opens-judged : (holds : Bool) (produced : ℕ) (made : Section) → Judges source s.macros digits tokens s.produced (Holds holds produced) → made ≡ section_of holds holds false
      → OpensIf source digits s hash tokens (Becomes (standing s.macros (made ∷ s.sections) produced))
  opens-judged holds produced made j m = (Holds holds produced, j, ap (λ x. Becomes (standing s.macros (x ∷ s.sections) produced)) m)

  pub opens-fault : (new : Kept) (found : Fault) (result : Result (Unit {0}) Fault) → result ≡ Err found
      → IsFaultOf found (λ f. (verdict : Verdict) × Judges source s.macros digits tokens s.produced verdict × (fault_of_verdict hash verdict ≡ Some f))
      → IsDoneBy (OpensIf source digits s hash tokens) new result
  opens-fault new found result is h = handed-on (IsDoneBy (OpensIf source digits s hash tokens) new) found result is (by h)
    where
      same : {f g : Fault} → Some f ≡ Some g → f ≡ g
      same e = cc

      none : {f : Fault} → None ≡ Some f → ⊥
      none e = cc

      effect_is : (verdict : Verdict) → fault_of_verdict hash verdict ≡ Some found → Fails found ≡ if_effect s hash verdict
      effect_is (Holds holds produced) e = absurd (none e)
      effect_is Faulty e = ap Fails (sym (same e))
      effect_is (condition.Stops f) e = ap Fails (sym (same e))

      by : IsFaultOf found (λ f. (verdict : Verdict) × Judges source s.macros digits tokens s.produced verdict × (fault_of_verdict hash verdict ≡ Some f))
          → IsFaultOf found (λ f. OpensIf source digits s hash tokens (Fails f))
      by (inl n) = inl n
      by (inr (verdict, j, e)) = inr (verdict, j, effect_is verdict e)

-- what stands behind a condition that was judged opens the section
pub opens-behind : (source : List ℕ) (digits : Digits) (hash : ℕ) (tokens : List Token) (old mid : Kept) (holds : Bool) (made : Section) → mid ≡ record old { sets = mid.sets; produced = mid.produced }
    → Judges source old.macros digits tokens old.produced (Holds holds mid.produced) → made ≡ section_of holds holds false
    → OpensIf source digits (standing_of old) hash tokens (Becomes (standing mid.macros (made ∷ reverse mid.sections) mid.produced))
opens-behind source digits hash tokens old mid holds made e j m =
    let P : Kept → Type 0 = λ k. OpensIf source digits (standing_of old) hash tokens (Becomes (standing k.macros (made ∷ reverse k.sections) mid.produced)) in
    subst P (sym e) (opens-judged source digits (standing_of old) hash tokens holds mid.produced made j m)

-- what was judged of a condition
module _ (source : List ℕ) (macros : Macros) (digits : Digits) (tokens : List Token) (hash before after : ℕ) where
  pub judged-holds : (verdict : Judged) (holds : Bool) → verdict ≡ judgement.Holds holds → AnswersJudgement source macros digits tokens before after (Ok verdict)
      → Judges source macros digits tokens before (Holds holds after)
  judged-holds verdict holds e h = let P : Judged → Type 0 = λ x. AnswersJudgement source macros digits tokens before after (Ok x) in subst P e h

  pub judged-faulty : (verdict : Judged) (f : Fault) (new : ℕ) → verdict ≡ judgement.Faulty → f ≡ fault kind.Condition hash → AnswersJudgement source macros digits tokens before after (Ok verdict)
      → IsJudgedBy (Judges source macros digits tokens before) hash new (Err f)
  judged-faulty verdict f new e f_is h =
      let P : Judged → Type 0 = λ x. AnswersJudgement source macros digits tokens before after (Ok x) in
      inr (Faulty, subst P e h, ap Some (sym f_is))

  pub judged-stopped : (stop : ExpandFault) (f : Fault) (new : ℕ) → f ≡ fault_of_expansion stop → AnswersJudgement source macros digits tokens before after (Err stop)
      → IsJudgedBy (Judges source macros digits tokens before) hash new (Err f)
  judged-stopped stop f new f_is (inl n) = inl (ap (λ (x : Fault). x.kind) f_is ∙ ap (λ x. (fault_of_expansion x).kind) n)
  judged-stopped stop f new f_is (inr h) = inr (condition.Stops stop, h, ap Some (sym f_is))

-- ---- the innermost section

-- what stood before it was taken off
abbrev pub with_innermost : Kept → Section → Kept
with_innermost mid section = record mid { sections = mid.sections ++ section ∷ [] }

module _ (old mid : Kept) (section : Section) (is : old ≡ with_innermost mid section) where
  module _ (hash : ℕ) (tokens : List Token) where
    else_is : tokens ≡ [] → else_effect (standing_of old) hash tokens (reverse old.sections)
        ≡ (if section.behind_else then Fails (fault kind.Condition hash) else Becomes (standing mid.macros (with_else section ∷ reverse mid.sections) mid.produced))
    else_is none =
        ap (λ k. else_effect (standing_of k) hash tokens (reverse k.sections)) is
        ∙ ap (else_effect (standing_of (with_innermost mid section)) hash tokens) (innermost-first mid.sections section)
        ∙ ap (λ x. else_effect (standing_of (with_innermost mid section)) hash x (section ∷ reverse mid.sections)) none

    pub else-late : (f : Fault) → tokens ≡ [] → section.behind_else ≡ true → f ≡ fault kind.Condition hash
        → IsFaultOf f (λ x. Fails x ≡ else_effect (standing_of old) hash tokens (reverse old.sections))
    else-late f none behind f_is =
        inr (ap Fails f_is ∙ sym (else_is none ∙ ap (λ b. if b then Fails (fault kind.Condition hash) else Becomes (standing mid.macros (with_else section ∷ reverse mid.sections) mid.produced)) behind))

    pub else-done : (new : Kept) (made : Section) (result : Result (Unit {0}) Fault) → tokens ≡ [] → section.behind_else ≡ false → made ≡ with_else section
        → IfOk result (λ _. new ≡ record mid { sections = mid.sections ++ made ∷ [] }) → IfErr result (λ f. f.kind ≡ kind.NoMemory)
        → IsDoneBy (λ effect. effect ≡ else_effect (standing_of old) hash tokens (reverse old.sections)) new result
    else-done new made result none early m e f =
        opened-done (λ effect. effect ≡ else_effect (standing_of old) hash tokens (reverse old.sections)) mid new made result e f
        (ap (λ x. Becomes (standing mid.macros (x ∷ reverse mid.sections) mid.produced)) m
        ∙ sym (else_is none ∙ ap (λ b. if b then Fails (fault kind.Condition hash) else Becomes (standing mid.macros (with_else section ∷ reverse mid.sections) mid.produced)) early))

    pub end-done : tokens ≡ [] → Becomes (standing_of mid) ≡ endif_effect (standing_of old) hash tokens (reverse old.sections)
    end-done none =
        sym (
        ap (λ k. endif_effect (standing_of k) hash tokens (reverse k.sections)) is
        ∙ ap (endif_effect (standing_of (with_innermost mid section)) hash tokens) (innermost-first mid.sections section)
        ∙ ap (λ x. endif_effect (standing_of (with_innermost mid section)) hash x (section ∷ reverse mid.sections)) none
        )

    module _ (source : List ℕ) (digits : Digits) (new : Kept) where
      abbrev Turns_of : Kept → Effect → Type 0
      Turns_of k effect = TurnsElif source digits (standing_of k) hash tokens (reverse k.sections) effect

      first : reverse (with_innermost mid section).sections ≡ section ∷ reverse mid.sections
      first = innermost-first mid.sections section

      pub elif-late-done : (f : Fault) → section.behind_else ≡ true → f ≡ fault kind.Condition hash → IsFaultOf f (λ x. Turns_of old (Fails x))
      elif-late-done f behind f_is =
          let P : Kept → Type 0 = λ k. Turns_of k (Fails f) in
          let Q : Fault → Type 0 = λ x. Turns_of (with_innermost mid section) (Fails x) in
          inr (subst P (sym is) (subst Q (sym f_is)
          (elif-late source digits (standing_of (with_innermost mid section)) hash tokens (reverse (with_innermost mid section).sections) (reverse mid.sections) section first behind)))

      pub elif-taken-done : (made : Section) (result : Result (Unit {0}) Fault) → section.behind_else ≡ false → section.taken ≡ true → made ≡ with_elif false section
          → IfOk result (λ _. new ≡ record mid { sections = mid.sections ++ made ∷ [] }) → IfErr result (λ f. f.kind ≡ kind.NoMemory) → IsDoneBy (Turns_of old) new result
      elif-taken-done made result early taken_is m e f =
          let P : Kept → Type 0 = λ k. IsDoneBy (Turns_of k) new result in
          let Q : Section → Type 0 = λ x. Turns_of (with_innermost mid section) (Becomes (standing mid.macros (x ∷ reverse mid.sections) mid.produced)) in
          subst P (sym is) (opened-done (Turns_of (with_innermost mid section)) mid new made result e f (subst Q (sym m)
          (elif-taken source digits (standing_of (with_innermost mid section)) hash tokens (reverse (with_innermost mid section).sections) (reverse mid.sections) section first early taken_is)))

      pub elif-judged-done : (made : Section) (holds : Bool) (behind : Kept) (result : Result (Unit {0}) Fault) → section.behind_else ≡ false → section.taken ≡ false → made ≡ with_elif holds section
          → behind ≡ record mid { sets = behind.sets; produced = behind.produced } → Judges source mid.macros digits tokens mid.produced (Holds holds behind.produced)
          → IfOk result (λ _. new ≡ record behind { sections = behind.sections ++ made ∷ [] }) → IfErr result (λ f. f.kind ≡ kind.NoMemory) → IsDoneBy (Turns_of old) new result
      elif-judged-done made holds behind result early untaken m b j e f =
          let P : Kept → Type 0 = λ k. IsDoneBy (Turns_of k) new result in
          let Q : Section → Type 0 = λ x. Turns_of (with_innermost mid section) (Becomes (standing mid.macros (x ∷ reverse mid.sections) behind.produced)) in
          let R : Kept → Type 0 = λ k. Turns_of (with_innermost mid section) (Becomes (standing k.macros (made ∷ reverse k.sections) behind.produced)) in
          subst P (sym is) (opened-done (Turns_of (with_innermost mid section)) behind new made result e f (subst R (sym b) (subst Q (sym m)
          (elif-judged source digits (standing_of (with_innermost mid section)) hash tokens (reverse (with_innermost mid section).sections) (reverse mid.sections) section first
          holds behind.produced early untaken j))))

      pub elif-fault-done : (found : Fault) (result : Result (Unit {0}) Fault) → result ≡ Err found → section.behind_else ≡ false → section.taken ≡ false
          → IsFaultOf found (λ f. (verdict : Verdict) × Judges source mid.macros digits tokens mid.produced verdict × (fault_of_verdict hash verdict ≡ Some f)) → IsDoneBy (Turns_of old) new result
      elif-fault-done found result result_is early untaken h =
          let P : Kept → Type 0 = λ k. IsDoneBy (Turns_of k) new result in
          subst P (sym is) (handed-on (IsDoneBy (Turns_of (with_innermost mid section)) new) found result result_is
          (elif-fault source digits (standing_of (with_innermost mid section)) hash tokens (reverse (with_innermost mid section).sections) (reverse mid.sections) section first found early untaken h))

-- whether tokens stand behind a word
pub none-there : (tokens : List Token) (b : Bool) → b ≡ (length tokens == 0) → b ≡ true → tokens ≡ []
none-there tokens b e t = nil_from_length tokens (eqb-true (length tokens) 0 (sym e ∙ t))

pub some-there : (tokens : List Token) (b : Bool) → b ≡ (length tokens == 0) → b ≡ false → tokens ≡ [] → ⊥
some-there tokens b e f n = false≢true (sym f ∙ e ∙ ap (λ x. length x == 0) n)

-- tokens behind a word that has none
pub else-tokens : (s : Standing) (hash : ℕ) (tokens : List Token) (sections : Sections) → (tokens ≡ [] → ⊥) → else_effect s hash tokens sections ≡ Fails (fault kind.Directive hash)
else-tokens s hash [] sections h = absurd (h refl)
else-tokens s hash (token ∷ tokens) sections h = refl

pub end-tokens : (s : Standing) (hash : ℕ) (tokens : List Token) (sections : Sections) → (tokens ≡ [] → ⊥) → endif_effect s hash tokens sections ≡ Fails (fault kind.Directive hash)
end-tokens s hash [] sections h = absurd (h refl)
end-tokens s hash (token ∷ tokens) sections h = refl

-- no section is open
module _ (old : Kept) (hash : ℕ) (f : Fault) (alone_is : old.sections ≡ []) (f_is : f ≡ fault kind.Condition hash) where
  pub else-alone : (tokens : List Token) → tokens ≡ [] → IsFaultOf f (λ x. Fails x ≡ else_effect (standing_of old) hash tokens (reverse old.sections))
  else-alone tokens none = inr (ap Fails f_is ∙ sym (ap (λ x. else_effect (standing_of old) hash x (reverse old.sections)) none ∙ ap (λ x. else_effect (standing_of old) hash [] (reverse x)) alone_is))

  pub end-alone : (tokens : List Token) → tokens ≡ [] → IsFaultOf f (λ x. Fails x ≡ endif_effect (standing_of old) hash tokens (reverse old.sections))
  end-alone tokens none = inr (ap Fails f_is ∙ sym (ap (λ x. endif_effect (standing_of old) hash x (reverse old.sections)) none ∙ ap (λ x. endif_effect (standing_of old) hash [] (reverse x)) alone_is))

  pub elif-alone-fault : (source : List ℕ) (digits : Digits) (tokens : List Token) → IsFaultOf f (λ x. TurnsElif source digits (standing_of old) hash tokens (reverse old.sections) (Fails x))
  elif-alone-fault source digits tokens =
      let P : Fault → Type 0 = λ x. TurnsElif source digits (standing_of old) hash tokens (reverse old.sections) (Fails x) in
      inr (subst P (sym f_is) (elif-alone source digits (standing_of old) hash tokens (reverse old.sections) (ap reverse alone_is)))

-- ---- words

module _ (source : List ℕ) (digits : Digits) (d : Directive) (old new : Kept) (result : Result (Unit {0}) Fault) (found : Option Word) (named : found ≡ word_of d.name.now) where
  -- what a word does is what its directive does
  pub word-done : (word other : Word) (Is : Effect → Type 0) → found ≡ Some word → word ≡ other → ((effect : Effect) → Is effect → Does source digits (standing_of old) d.hash d.tokens.now other effect)
      → IsDoneBy Is new result → AnswersEffect source digits d old new result
  word-done word other Is e w does h =
      let P : Option Word → Type 0 = λ x. IsDoneBy (DoesWord source digits (standing_of old) d.hash d.tokens.now x) new result in
      subst P (ap Some (sym w) ∙ sym e ∙ named) (done-weaker Is (Does source digits (standing_of old) d.hash d.tokens.now other) new result does h)

  pub word-none : (f : Fault) → found ≡ None → f ≡ fault kind.Directive d.hash → AnswersEffect source digits d old new (Err f)
  word-none f e f_is =
      let P : Option Word → Type 0 = λ x. DoesWord source digits (standing_of old) d.hash d.tokens.now x (Fails f) in
      inr (subst P (sym e ∙ named) (ap Fails f_is))

  pub word-error : (word : Word) (f : Fault) → found ≡ Some word → word ≡ word_is.Error → f ≡ fault kind.Error d.hash → AnswersEffect source digits d old new (Err f)
  word-error word f e w f_is =
      let P : Option Word → Type 0 = λ x. DoesWord source digits (standing_of old) d.hash d.tokens.now x (Fails f) in
      let Q : Fault → Type 0 = λ x. Does source digits (standing_of old) d.hash d.tokens.now word_is.Error (Fails x) in
      inr (subst P (ap Some (sym w) ∙ sym e ∙ named) (subst Q (sym f_is) errs))
