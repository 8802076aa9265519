-- The form of `#define` (ISO/IEC 9899:1990, 6.8.3): from the tokens of the line behind the word `define` to the macro, or the first
-- fault in the order of the tokens.
use Rattle.std.specs.Prelude.{◌≡◌, ℕ, ◌+◌, ◌≤◌, Bool, true, false, not, ◌&&◌, ◌||◌, ◌==◌, ◌⊎◌, if◌then◌else◌, nat_le, List, [], ◌∷◌, ◌++◌, drop, length, map, codes, bytes_eq, Option, Some, None, Result, Ok, Err}
use Rattle.std.specs.List.{list_any}
use Rattle.pw_token.specs.Roles.{spelling}
use Rattle.pw_token.specs.declared.token.Token.{Token}
use Rattle.pw_token.specs.declared.token.TokenKind.{TokenKind}
use Rattle.pw_token.specs.declared.token.TokenKind.TheVariants as kind
use Rattle.pw_cpp_macros.specs.Limits.{parameter_limit}
use Rattle.pw_cpp_macros.specs.declared.definition.DefineFault.{DefineFault}
use Rattle.pw_cpp_macros.specs.declared.definition.DefineFault.TheVariants.{Form, Repeated, Hash, TooMany, NoMemory}
use Rattle.pw_cpp_macros.specs.declared.definition.Definition.{Definition}
use Rattle.pw_cpp_macros.specs.declared.definition.Macro.{Macro}

-- a word, which may be a keyword: what a macro or a parameter may be named
abbrev pub is_word_kind : TokenKind → Bool
is_word_kind kind.Identifier = true
is_word_kind kind.Keyword = true
is_word_kind kind.Number = false
is_word_kind kind.Floating = false
is_word_kind kind.Character = false
is_word_kind kind.Text = false
is_word_kind kind.Wide = false
is_word_kind kind.Mark = false
is_word_kind kind.Directive = false

abbrev pub is_word : Token → Bool
is_word token = is_word_kind token.kind

-- the token is spelled so
abbrev pub is_spelled : List ℕ → List ℕ → Token → Bool
is_spelled text bytes token = bytes_eq (spelling text token) bytes

-- one of the tokens has this one's spelling
abbrev pub is_among : List ℕ → List Token → Token → Bool
is_among text tokens token = list_any (is_spelled text (spelling text token)) tokens

abbrev pub is_hash : List ℕ → Token → Bool
is_hash text token = is_spelled text (codes "#") token || is_spelled text (codes "##") token

-- ---- parameters

-- what these parameters become with one more
abbrev pub with_parameter : List ℕ → List Token → Token → Result (List Token) DefineFault
with_parameter text before token =
    if not (is_word token) then Err Form
    else (if is_among text before token then Err Repeated
    else (if nat_le parameter_limit (length before) then Err TooMany
    else Ok (before ++ token ∷ [])))

-- parameters, and the tokens behind the `)` that closes their list
abbrev pub Parameters : Type 0
Parameters = List Token × List Token

-- the next step where there was no fault
abbrev pub and_then : {A B : Type 0} → Result A DefineFault → (A → Result B DefineFault) → Result B DefineFault
and_then (Ok a) next = next a
and_then (Err fault) next = Err fault

-- Names with commas between them and a `)` behind the last; `before` are those that stand before.
abbrev pub further_parameters : List ℕ → List Token → List Token → Result Parameters DefineFault
further_parameters text before [] = Err Form
further_parameters text before (name ∷ []) = and_then (with_parameter text before name) (λ parameters. Err Form)
further_parameters text before (name ∷ mark ∷ rest) =
    and_then (with_parameter text before name) (λ parameters.
    if is_spelled text (codes ")") mark then Ok (parameters, rest)
    else (if is_spelled text (codes ",") mark then further_parameters text parameters rest
    else Err Form))

-- the list of parameters behind its `(`, which may be empty
abbrev pub parameter_list : List ℕ → List Token → Result Parameters DefineFault
parameter_list text [] = Err Form
parameter_list text (first ∷ rest) = if is_spelled text (codes ")") first then Ok ([], rest) else further_parameters text [] (first ∷ rest)

-- ---- definitions

-- A replacement has no `#` and no `##`.
abbrev pub with_replacement : List ℕ → Token → Option (List Token) → List Token → Result Definition DefineFault
with_replacement text name parameters replacement =
    if list_any (is_hash text) replacement then Err Hash
    else Ok (record { name = name; meaning = record { parameters = parameters; replacement = replacement } })

-- a `(` directly behind the name
abbrev pub opens_parameters : List ℕ → Token → List Token → Bool
opens_parameters text name [] = false
opens_parameters text name (first ∷ rest) = is_spelled text (codes "(") first && first.at == name.at + name.len

abbrev pub definition_of : List ℕ → List Token → Result Definition DefineFault
definition_of text [] = Err Form
definition_of text (name ∷ rest) =
    if not (is_word name) then Err Form
    else (if opens_parameters text name rest
    then and_then (parameter_list text (drop 1 rest)) (λ list. with_replacement text name (Some list.0) list.1)
    else with_replacement text name None rest)

-- a call's answer: this one, unless memory ran out
abbrev pub Answers : {A : Type 0} → Result A DefineFault → Result A DefineFault → Type 0
Answers answer (Ok a) = answer ≡ Ok a
Answers answer (Err fault) = (fault ≡ NoMemory) ⊎ (answer ≡ Err fault)

-- ---- what parameters are like

-- no two have one spelling
abbrev pub AreApart : List ℕ → List Token → Type 0
AreApart text [] = Unit {0}
AreApart text (name ∷ names) = (is_among text names name ≡ false) × AreApart text names

abbrev pub AreWords : List Token → Type 0
AreWords [] = Unit {0}
AreWords (name ∷ names) = (is_word name ≡ true) × AreWords names

-- words, no two alike, and not too many
abbrev pub AreParameters : List ℕ → List Token → Type 0
AreParameters text names = AreWords names × AreApart text names × (length names ≤ parameter_limit)
