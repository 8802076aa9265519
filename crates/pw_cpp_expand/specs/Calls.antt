-- Calls of macros that take arguments (ISO/IEC 9899:1990, 6.8.3).
use Rattle.std.specs.Prelude.{ℕ, ◌+◌, ◌-◌, ◌==◌, ◌&&◌, Bool, if◌then◌else◌, List, [], ◌∷◌, ◌++◌, codes}
use Rattle.std.specs.List.{list_any}
use Rattle.pw_token.specs.Roles.{spelling}
use Rattle.pw_token.specs.declared.token.Token.{Token}
use Rattle.pw_cpp_macros.specs.Definitions.{is_spelled, is_word}
use Rattle.pw_cpp_macros.specs.declared.definition.Macro.{Macro}
use Rattle.pw_cpp_expand.specs.Lookahead.{Ahead, At, Faulty, Lexeme, LooksAhead}
use Rattle.pw_cpp_expand.specs.declared.arguments.Cut.{Cut}
use Rattle.pw_cpp_expand.specs.declared.arguments.Cut.TheVariants as cut
use Rattle.pw_cpp_expand.specs.declared.arguments.Part.{Part}
use Rattle.pw_cpp_expand.specs.declared.arguments.Part.TheVariants as part
use Rattle.pw_cpp_expand.specs.declared.progress.ExpandFault.{ExpandFault}
use Rattle.pw_cpp_expand.specs.declared.progress.Mode.{Mode}
use Rattle.pw_cpp_expand.specs.declared.progress.Progress.{Progress}

abbrev pub is_mark : List ℕ → List ℕ → Lexeme → Bool
is_mark source bytes lexeme = is_spelled source bytes lexeme.token

-- ---- the arguments

-- an argument with one more token, the last of these; and one more argument, behind these
abbrev pub lengthened : List (List Lexeme) → Lexeme → List (List Lexeme)
lengthened [] lexeme = (lexeme ∷ []) ∷ []
lengthened (argument ∷ []) lexeme = (argument ++ lexeme ∷ []) ∷ []
lengthened (argument ∷ next ∷ more) lexeme = argument ∷ lengthened (next ∷ more) lexeme

-- The arguments behind the `(` of a call, cut at the commas outside inner parentheses, of which so many are open; the `)` that closes
-- the call; and what stands behind it. The text may end before, or a line that has to be read has a fault.
pub data Called : Type 0 where
  Closed : List (List Lexeme) → Lexeme → List Lexeme → Progress → Called
  Open : Called
  Fails : ExpandFault → Called

-- what a token is among arguments
abbrev pub part_of : List ℕ → Lexeme → Part
part_of source t =
    if is_mark source (codes "(") t then part.Opens else (if is_mark source (codes ")") t then part.Closes else (if is_mark source (codes ",") t then part.Parts else part.GoesOn))

-- What it does where so many inner parentheses are open: it is part of the argument, with so many open behind it; it parts two arguments;
-- or it closes the call.
abbrev pub cut_of : Part → ℕ → Cut
cut_of part.Opens depth = cut.Within (depth + 1)
cut_of part.Closes depth = if depth == 0 then cut.Ends else cut.Within (depth - 1)
cut_of part.Parts depth = if depth == 0 then cut.Next else cut.Within depth
cut_of part.GoesOn depth = cut.Within depth

mutual
  pub data Collects (source text : List ℕ) (mode : Mode) : ℕ → List (List Lexeme) → List Lexeme → Progress → Called → Type 0 where
    looks : (depth : ℕ) (arguments : List (List Lexeme)) (pending : List Lexeme) (p : Progress) (ahead : Ahead) (called : Called) → LooksAhead text mode pending p ahead
        → CollectsFrom source text mode depth arguments ahead called → Collects source text mode depth arguments pending p called

  pub data CollectsFrom (source text : List ℕ) (mode : Mode) : ℕ → List (List Lexeme) → Ahead → Called → Type 0 where
    open_end : (depth : ℕ) (arguments : List (List Lexeme)) (q : Progress) → CollectsFrom source text mode depth arguments (At [] q) Open
    faulty : (depth : ℕ) (arguments : List (List Lexeme)) (fault : ExpandFault) → CollectsFrom source text mode depth arguments (Faulty fault) (Fails fault)
    one_token : (depth : ℕ) (arguments : List (List Lexeme)) (t : Lexeme) (rest : List Lexeme) (q : Progress) (called : Called)
        → CollectsCut source text mode (cut_of (part_of source t) depth) arguments t rest q called → CollectsFrom source text mode depth arguments (At (t ∷ rest) q) called

  pub data CollectsCut (source text : List ℕ) (mode : Mode) : Cut → List (List Lexeme) → Lexeme → List Lexeme → Progress → Called → Type 0 where
    within : (depth : ℕ) (arguments : List (List Lexeme)) (t : Lexeme) (rest : List Lexeme) (q : Progress) (called : Called)
        → Collects source text mode depth (lengthened arguments t) rest q called → CollectsCut source text mode (cut.Within depth) arguments t rest q called
    next : (arguments : List (List Lexeme)) (t : Lexeme) (rest : List Lexeme) (q : Progress) (called : Called)
        → Collects source text mode 0 (arguments ++ [] ∷ []) rest q called → CollectsCut source text mode cut.Next arguments t rest q called
    ends : (arguments : List (List Lexeme)) (t : Lexeme) (rest : List Lexeme) (q : Progress) → CollectsCut source text mode cut.Ends arguments t rest q (Closed arguments t rest q)

-- Behind the `(` stands one argument, at first empty; of a macro without parameters one that is empty is none.
abbrev pub arguments_of : List Token → List (List Lexeme) → List (List Lexeme)
arguments_of [] ([] ∷ []) = []
arguments_of parameters arguments = arguments

-- ---- the result

-- a token of the replacement of a macro whose name stands at a place
abbrev pub made : List (List ℕ) → ℕ → Token → Lexeme
made hidden place token = record { token = token; hidden = hidden; place = place }

-- a token of an argument, which keeps its own set besides
abbrev pub passed : List (List ℕ) → ℕ → Lexeme → Lexeme
passed hidden place lexeme = record { token = lexeme.token; hidden = hidden ++ lexeme.hidden; place = place }

-- the parameter stands in the replacement
abbrev pub is_used : List ℕ → List Token → Token → Bool
is_used source replacement parameter = list_any (λ token. is_word token && is_spelled source (spelling source parameter) token) replacement
