-- Directives that are read (ISO/IEC 9899:1990, 6.8): what each does to the macros and the open sections, or why it is none. A line lexes
-- before its directive is looked at; of the faults of one directive the one at the earlier token comes first, then the one whose kind
-- comes first.
use Rattle.std.specs.Prelude.{◌≡◌, ℕ, ◌+◌, Bool, true, false, not, ◌&&◌, ◌||◌, ◌==◌, if◌then◌else◌, List, [], ◌∷◌, ◌++◌, drop, length, codes, bytes_eq, is_some, Option, Some, None, Result, Ok, Err}
use Rattle.pw_token.specs.Roles.{spelling}
use Rattle.pw_token.specs.declared.token.Token.{Token}
use Rattle.pw_cpp_directives.specs.Conditions.{Judges, Verdict, Holds, Faulty, Stops}
use Rattle.pw_cpp_directives.specs.Groups.{Sections, opened, with_elif, with_else}
use Rattle.pw_cpp_directives.specs.declared.directive.Fault.{Fault}
use Rattle.pw_cpp_directives.specs.declared.directive.Word.{Word}
use Rattle.pw_cpp_directives.specs.declared.directive.Word.TheVariants.{Define, Undef, If, Ifdef, Ifndef, Elif, Else, Endif, Error}
use Rattle.pw_cpp_directives.specs.declared.fault.CppKind.{CppKind}
use Rattle.pw_cpp_directives.specs.declared.fault.CppKind.TheVariants as kind
use Rattle.pw_cpp_directives.specs.declared.fault.CppWhich.TheVariants as which
use Rattle.pw_cpp_directives.specs.declared.groups.Section.{Section}
use Rattle.pw_cpp_directives.specs.declared.condition.Digits.{Digits}
use Rattle.pw_cpp_expand.specs.Expansion.{produced_limit}
use Rattle.pw_cpp_expand.specs.Lookahead.{output_limit}
use Rattle.pw_cpp_expand.specs.declared.progress.ExpandFault.{ExpandFault}
use Rattle.pw_cpp_expand.specs.declared.progress.ExpandFault.TheVariants as stop
use Rattle.pw_cpp_macros.specs.Definitions.{definition_of, is_word}
use Rattle.pw_cpp_macros.specs.Limits.{macro_limit, parameter_limit}
use Rattle.pw_cpp_macros.specs.Macros.{Macros, defined, find, without}
use Rattle.pw_cpp_macros.specs.declared.definition.DefineFault.{DefineFault}
use Rattle.pw_cpp_macros.specs.declared.definition.DefineFault.TheVariants as define
use Rattle.pw_cpp_macros.specs.declared.definition.Definition.{Definition}
use Rattle.pw_cpp_macros.specs.declared.table.MacroFault.{MacroFault}
use Rattle.pw_cpp_macros.specs.declared.table.MacroFault.TheVariants as table

-- a fault of a file, at a place of the source
abbrev pub fault : CppKind → ℕ → Fault
fault kind place = record { kind = kind; place = place }

-- ---- kinds of faults

abbrev pub kind_of_define : DefineFault → CppKind
kind_of_define define.Form = kind.Directive
kind_of_define define.Repeated = kind.Macro
kind_of_define define.Hash = kind.Macro
kind_of_define define.TooMany = kind.Limit which.Parameters (parameter_limit + 1)
kind_of_define define.NoMemory = kind.NoMemory

abbrev pub kind_of_macro : MacroFault → CppKind
kind_of_macro table.Differs = kind.Macro
kind_of_macro table.Full = kind.Limit which.Macros (macro_limit + 1)
kind_of_macro table.NoMemory = kind.NoMemory

-- a fault of expansion has its own place
abbrev pub fault_of_expansion : ExpandFault → Fault
fault_of_expansion (stop.Lex at) = fault kind.Lex at
fault_of_expansion (stop.Call at) = fault kind.Macro at
fault_of_expansion (stop.Produced at) = fault (kind.Limit which.Produced (produced_limit + 1)) at
fault_of_expansion (stop.Length at) = fault (kind.Limit which.Length (output_limit + 1)) at
fault_of_expansion stop.NoMemory = fault kind.NoMemory 0

-- ---- names

-- the one name behind a directive's word
abbrev pub one_name : List ℕ → List Token → Option (List ℕ)
one_name source (token ∷ []) = if is_word token then Some (spelling source token) else None
one_name source _ = None

-- ---- what a directive does

pub record Standing : Type 0 where
  pub macros : Macros
  pub sections : Sections
  pub produced : ℕ

abbrev pub standing : Macros → Sections → ℕ → Standing
standing macros sections produced = record { macros = macros; sections = sections; produced = produced }

pub data Effect : Type 0 where
  Becomes : Standing → Effect
  Fails : Fault → Effect

abbrev pub with_macros : Standing → ℕ → Result Macros MacroFault → Effect
with_macros s hash (Ok macros) = Becomes (standing macros s.sections s.produced)
with_macros s hash (Err f) = Fails (fault (kind_of_macro f) hash)

abbrev pub with_definition : List ℕ → Standing → ℕ → Result Definition DefineFault → Effect
with_definition source s hash (Ok definition) = with_macros s hash (defined source s.macros definition)
with_definition source s hash (Err f) = Fails (fault (kind_of_define f) hash)

abbrev pub with_undefined : Standing → ℕ → Option (List ℕ) → Effect
with_undefined s hash (Some name) = Becomes (standing (without s.macros name) s.sections s.produced)
with_undefined s hash None = Fails (fault kind.Directive hash)

-- `#ifdef`, and `#ifndef` where `wanted` is false
abbrev pub with_test : Bool → Standing → ℕ → Option (List ℕ) → Effect
with_test wanted s hash (Some name) = Becomes (standing s.macros (opened (if wanted then is_some (find s.macros name) else not (is_some (find s.macros name))) s.sections) s.produced)
with_test wanted s hash None = Fails (fault kind.Directive hash)

-- ---- `#else`, `#endif` and `#elif` of the innermost section

abbrev pub else_effect : Standing → ℕ → List Token → Sections → Effect
else_effect s hash (token ∷ others) sections = Fails (fault kind.Directive hash)
else_effect s hash [] [] = Fails (fault kind.Condition hash)
else_effect s hash [] (section ∷ outer) =
    if section.behind_else then Fails (fault kind.Condition hash) else Becomes (standing s.macros (with_else section ∷ outer) s.produced)

abbrev pub endif_effect : Standing → ℕ → List Token → Sections → Effect
endif_effect s hash (token ∷ others) sections = Fails (fault kind.Directive hash)
endif_effect s hash [] [] = Fails (fault kind.Condition hash)
endif_effect s hash [] (section ∷ outer) = Becomes (standing s.macros outer s.produced)

-- what the condition of a `#if`, or of an `#elif` of this section, does
abbrev pub if_effect : Standing → ℕ → Verdict → Effect
if_effect s hash (Holds holds produced) = Becomes (standing s.macros (opened holds s.sections) produced)
if_effect s hash Faulty = Fails (fault kind.Condition hash)
if_effect s hash (Stops f) = Fails (fault_of_expansion f)

abbrev pub elif_effect : Standing → ℕ → Section → Sections → Verdict → Effect
elif_effect s hash section outer (Holds holds produced) = Becomes (standing s.macros (with_elif holds section ∷ outer) produced)
elif_effect s hash section outer Faulty = Fails (fault kind.Condition hash)
elif_effect s hash section outer (Stops f) = Fails (fault_of_expansion f)

-- An `#elif` behind a group that was taken is not evaluated.
pub data TurnsElif (source : List ℕ) (digits : Digits) (s : Standing) (hash : ℕ) (tokens : List Token) : Sections → Effect → Type 0 where
  alone : TurnsElif source digits s hash tokens [] (Fails (fault kind.Condition hash))
  late : (section : Section) (outer : Sections) → section.behind_else ≡ true → TurnsElif source digits s hash tokens (section ∷ outer) (Fails (fault kind.Condition hash))
  taken : (section : Section) (outer : Sections) (effect : Effect) → section.behind_else ≡ false → section.taken ≡ true
      → effect ≡ Becomes (standing s.macros (with_elif false section ∷ outer) s.produced) → TurnsElif source digits s hash tokens (section ∷ outer) effect
  judged : (section : Section) (outer : Sections) (verdict : Verdict) (effect : Effect) → section.behind_else ≡ false → section.taken ≡ false
      → Judges source s.macros digits tokens s.produced verdict → effect ≡ elif_effect s hash section outer verdict → TurnsElif source digits s hash tokens (section ∷ outer) effect

-- ---- words

-- the words that have a meaning of their own, besides `pragma` and `include`
abbrev pub word_of : List ℕ → Option Word
word_of name =
    if bytes_eq name (codes "define") then Some Define
    else (if bytes_eq name (codes "undef") then Some Undef
    else (if bytes_eq name (codes "if") then Some If
    else (if bytes_eq name (codes "ifdef") then Some Ifdef
    else (if bytes_eq name (codes "ifndef") then Some Ifndef
    else (if bytes_eq name (codes "elif") then Some Elif
    else (if bytes_eq name (codes "else") then Some Else
    else (if bytes_eq name (codes "endif") then Some Endif
    else (if bytes_eq name (codes "error") then Some Error
    else None))))))))

-- What the directive of a line does whose tokens behind its word are these; `hash` is the place of its `#`.
pub data Does (source : List ℕ) (digits : Digits) (s : Standing) (hash : ℕ) (tokens : List Token) : Word → Effect → Type 0 where
  defines : (effect : Effect) → effect ≡ with_definition source s hash (definition_of source tokens) → Does source digits s hash tokens Define effect
  undefines : (effect : Effect) → effect ≡ with_undefined s hash (one_name source tokens) → Does source digits s hash tokens Undef effect
  opens : (verdict : Verdict) (effect : Effect) → Judges source s.macros digits tokens s.produced verdict → effect ≡ if_effect s hash verdict
      → Does source digits s hash tokens If effect
  tests : (effect : Effect) → effect ≡ with_test true s hash (one_name source tokens) → Does source digits s hash tokens Ifdef effect
  tests_not : (effect : Effect) → effect ≡ with_test false s hash (one_name source tokens) → Does source digits s hash tokens Ifndef effect
  goes_on : (effect : Effect) → TurnsElif source digits s hash tokens s.sections effect → Does source digits s hash tokens Elif effect
  turns : (effect : Effect) → effect ≡ else_effect s hash tokens s.sections → Does source digits s hash tokens Else effect
  ends : (effect : Effect) → effect ≡ endif_effect s hash tokens s.sections → Does source digits s hash tokens Endif effect
  errs : Does source digits s hash tokens Error (Fails (fault kind.Error hash))

-- a directive without a meaning is a fault
abbrev pub DoesWord : List ℕ → Digits → Standing → ℕ → List Token → Option Word → Effect → Type 0
DoesWord source digits s hash tokens (Some word) effect = Does source digits s hash tokens word effect
DoesWord source digits s hash tokens None effect = effect ≡ Fails (fault kind.Directive hash)
