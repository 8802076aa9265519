-- The macros at a place of a text (ISO/IEC 9899:1990, 6.8.3): a list of names with what they stand for, no name twice.
use Rattle.std.specs.Prelude.{◌≡◌, ℕ, Bool, true, false, ◌&&◌, ◌⊎◌, if◌then◌else◌, nat_le, List, [], ◌∷◌, ◌++◌, length, bytes_eq, Option, Some, None, Result, Ok, Err}
use Rattle.pw_token.specs.Roles.{spelling}
use Rattle.pw_token.specs.declared.token.Token.{Token}
use Rattle.pw_cpp_macros.specs.Limits.{macro_limit}
use Rattle.pw_cpp_macros.specs.declared.definition.Definition.{Definition}
use Rattle.pw_cpp_macros.specs.declared.definition.Macro.{Macro}
use Rattle.pw_cpp_macros.specs.declared.table.MacroFault.{MacroFault}
use Rattle.pw_cpp_macros.specs.declared.table.MacroFault.TheVariants.{Differs, Full, NoMemory}

abbrev pub Macros : Type 0
Macros = List (List ℕ × Macro)

-- what a name stands for
abbrev pub find : Macros → List ℕ → Option Macro
find [] name = None
find (entry ∷ others) name = if bytes_eq name entry.0 then Some entry.1 else find others name

-- the macros without one of this name
abbrev pub without : Macros → List ℕ → Macros
without [] name = []
without (entry ∷ others) name = if bytes_eq name entry.0 then others else entry ∷ without others name

-- ---- definitions

-- the same spellings in the same order
abbrev pub is_spelled_alike : List ℕ → List Token → List Token → Bool
is_spelled_alike text [] [] = true
is_spelled_alike text [] (b ∷ bs) = false
is_spelled_alike text (a ∷ as') [] = false
is_spelled_alike text (a ∷ as') (b ∷ bs) = bytes_eq (spelling text a) (spelling text b) && is_spelled_alike text as' bs

abbrev pub has_parameters_alike : List ℕ → Option (List Token) → Option (List Token) → Bool
has_parameters_alike text None None = true
has_parameters_alike text None (Some b) = false
has_parameters_alike text (Some a) None = false
has_parameters_alike text (Some a) (Some b) = is_spelled_alike text a b

-- the same kind of macro with the same parameters and the same replacement, token by token
abbrev pub is_alike : List ℕ → Macro → Macro → Bool
is_alike text a b = has_parameters_alike text a.parameters b.parameters && is_spelled_alike text a.replacement b.replacement

-- A name that is a macro's may be defined again only alike; any other name becomes a macro's, as long as there is room.
abbrev pub defined_again : List ℕ → Macros → Definition → Option Macro → Result Macros MacroFault
defined_again text macros definition (Some old) = if is_alike text old definition.meaning then Ok macros else Err Differs
defined_again text macros definition None =
    if nat_le macro_limit (length macros) then Err Full else Ok (macros ++ (spelling text definition.name, definition.meaning) ∷ [])

-- the macros behind a definition
abbrev pub defined : List ℕ → Macros → Definition → Result Macros MacroFault
defined text macros definition = defined_again text macros definition (find macros (spelling text definition.name))

-- what a call made of macros, and its answer: those behind a definition; or none, where there is a fault, or memory ran out
abbrev pub Defines : List ℕ → Definition → Macros → Macros → Result (Unit {0}) MacroFault → Type 0
Defines text definition old new (Ok done) = defined text old definition ≡ Ok new
Defines text definition old new (Err fault) = (new ≡ old) × ((fault ≡ NoMemory) ⊎ (defined text old definition ≡ Err fault))
