-- Macro expansion (ISO/IEC 9899:1990, 6.8.3): a token carries the names that it may not be replaced by.
use Rattle.std.specs.Prelude.{◌≡◌, ℕ, ◌+◌, ◌≤◌, ◌<◌, Bool, true, false, not, ◌||◌, if◌then◌else◌, List, [], ◌∷◌, ◌++◌, length, map, codes, bytes_eq, Option, Some, None}
use Rattle.std.specs.List.{flat_map, list_any}
use Rattle.pw_token.specs.Roles.{spelling}
use Rattle.pw_token.specs.declared.token.Token.{Token}
use Rattle.pw_cpp_macros.specs.Definitions.{is_spelled, is_word}
use Rattle.pw_cpp_macros.specs.Macros.{Macros, find}
use Rattle.pw_cpp_macros.specs.declared.definition.Macro.{Macro}
use Rattle.pw_cpp_expand.specs.Calls.{Called, Closed, Open, Fails, Collects, arguments_of, is_mark, is_used, made, passed}
use Rattle.pw_cpp_expand.specs.Lookahead.{Ahead, At, Faulty, Lexeme, LooksAhead, output_limit}
use Rattle.pw_cpp_expand.specs.declared.progress.ExpandFault.{ExpandFault}
use Rattle.pw_cpp_expand.specs.declared.progress.ExpandFault.TheVariants.{Call, Length, Produced}
use Rattle.pw_cpp_expand.specs.declared.progress.Mode.{Mode}
use Rattle.pw_cpp_expand.specs.declared.progress.Mode.TheVariants.{InText, Alone}
use Rattle.pw_cpp_expand.specs.declared.progress.Progress.{Progress}
use Rattle.pw_cpp_sets.specs.Sets.{contains, shared}

-- tokens that replacements may produce
abbrev pub produced_limit : ℕ
produced_limit = 1000000

-- so many tokens more are produced
abbrev pub producing : Progress → ℕ → Progress
producing p count = record { next = p.next; rows = p.rows; produced = p.produced + count; size = p.size }

-- What a token takes of the output where it is put out: its bytes and a space. In an argument by itself and in `#if` nothing is put out.
abbrev pub room : Mode → Lexeme → ℕ
room InText lexeme = lexeme.token.len + 1
room Alone lexeme = 0

abbrev pub putting : Mode → Lexeme → Progress → Progress
putting mode lexeme p = record { next = p.next; rows = p.rows; produced = p.produced; size = p.size + room mode lexeme }

-- what comes of tokens: those that stand in their place, or a fault
pub data Outcome : Type 0 where
  Done : List Lexeme → Progress → Outcome
  Stopped : ExpandFault → Outcome

abbrev pub with_first : Lexeme → Outcome → Outcome
with_first lexeme (Done out p) = Done (lexeme ∷ out) p
with_first lexeme (Stopped fault) = Stopped fault

-- what the arguments of a call come to, one behind the other, of those whose parameter stands in the replacement
pub data Arguments : Type 0 where
  Expanded : List (List ℕ × List Lexeme) → Progress → Arguments
  Refused : ExpandFault → Arguments

abbrev pub with_argument : List ℕ → List Lexeme → Arguments → Arguments
with_argument name tokens (Expanded arguments p) = Expanded ((name, tokens) ∷ arguments) p
with_argument name tokens (Refused fault) = Refused fault

abbrev pub argument_of : List (List ℕ × List Lexeme) → List ℕ → Option (List Lexeme)
argument_of [] name = None
argument_of (entry ∷ others) name = if bytes_eq name entry.0 then Some entry.1 else argument_of others name

-- what a token of the replacement becomes: a parameter the argument's tokens, any other token itself
abbrev pub replaced : List (List ℕ) → ℕ → Token → Option (List Lexeme) → List Lexeme
replaced hidden place token (Some argument) = map (passed hidden place) argument
replaced hidden place token None = made hidden place token ∷ []

abbrev pub argument_for : List ℕ → List (List ℕ × List Lexeme) → Token → Option (List Lexeme)
argument_for source arguments token = if is_word token then argument_of arguments (spelling source token) else None

abbrev pub result_of : List ℕ → List (List ℕ) → ℕ → List (List ℕ × List Lexeme) → List Token → List Lexeme
result_of source hidden place arguments replacement = flat_map (λ token. replaced hidden place token (argument_for source arguments token)) replacement

-- the macro whose name a token is, unless the token may not be replaced by it
abbrev pub macro_of : List ℕ → Macros → Lexeme → Option Macro
macro_of source macros lexeme =
    if not (is_word lexeme.token) || contains lexeme.hidden (spelling source lexeme.token) then None else find macros (spelling source lexeme.token)

-- What the first of the tokens at hand comes to: it stands, and these are ahead of it; it is replaced by some, with others behind them;
-- or there is a fault.
pub data Turn : Type 0 where
  Stands : List Lexeme → Progress → Turn
  Becomes : List Lexeme → List Lexeme → Progress → Turn
  Faults : ExpandFault → Turn

-- a call whose arguments come to these, with the names that its result may not be replaced by, and what stands behind it
abbrev pub replaced_call : List ℕ → List (List ℕ) → ℕ → List Token → List Lexeme → Arguments → Turn
replaced_call source hidden place replacement behind (Expanded arguments p) = Becomes (result_of source hidden place arguments replacement) behind p
replaced_call source hidden place replacement behind (Refused fault) = Faults fault

abbrev pub begins_call : List ℕ → List Lexeme → Bool
begins_call source [] = false
begins_call source (first ∷ rest) = is_mark source (codes "(") first

mutual
  -- Tokens are expanded, the first of them first, and what replaces it is read again together with what stands behind it. Where they
  -- end, they end, unless a call is looked for.
  pub data Expands (source text : List ℕ) (macros : Macros) : Mode → List Lexeme → Progress → Outcome → Type 0 where
    ends : (mode : Mode) (p : Progress) → Expands source text macros mode [] p (Done [] p)
    turns : (mode : Mode) (t : Lexeme) (rest : List Lexeme) (p : Progress) (turn : Turn) (outcome : Outcome)
        → Turns source text macros mode t rest p (macro_of source macros t) turn → Follows source text macros mode t turn outcome
        → Expands source text macros mode (t ∷ rest) p outcome

  -- what follows the turn of a token
  pub data Follows (source text : List ℕ) (macros : Macros) : Mode → Lexeme → Turn → Outcome → Type 0 where
    stands : (mode : Mode) (t : Lexeme) (ahead : List Lexeme) (q : Progress) (outcome more : Outcome) → q.size + room mode t ≤ output_limit
        → Expands source text macros mode ahead (putting mode t q) more → outcome ≡ with_first t more → Follows source text macros mode t (Stands ahead q) outcome
    too_long : (mode : Mode) (t : Lexeme) (ahead : List Lexeme) (q : Progress) → output_limit < q.size + room mode t
        → Follows source text macros mode t (Stands ahead q) (Stopped (Length t.place))
    becomes : (mode : Mode) (t : Lexeme) (result behind : List Lexeme) (q : Progress) (outcome : Outcome) → q.produced + length result ≤ produced_limit
        → Expands source text macros mode (result ++ behind) (producing q (length result)) outcome → Follows source text macros mode t (Becomes result behind q) outcome
    too_many : (mode : Mode) (t : Lexeme) (result behind : List Lexeme) (q : Progress) → produced_limit < q.produced + length result
        → Follows source text macros mode t (Becomes result behind q) (Stopped (Produced t.place))
    faults : (mode : Mode) (t : Lexeme) (fault : ExpandFault) → Follows source text macros mode t (Faults fault) (Stopped fault)

  -- A token that is no macro's name, or may not be replaced, stands. One that is a macro's is replaced, or what is ahead is looked at.
  pub data Turns (source text : List ℕ) (macros : Macros) : Mode → Lexeme → List Lexeme → Progress → Option Macro → Turn → Type 0 where
    no_macro : (mode : Mode) (t : Lexeme) (rest : List Lexeme) (p : Progress) → Turns source text macros mode t rest p None (Stands rest p)
    object : (mode : Mode) (t : Lexeme) (rest : List Lexeme) (p : Progress) (m : Macro) (result : List Lexeme) → m.parameters ≡ None
        → result ≡ map (made (spelling source t.token ∷ t.hidden) t.place) m.replacement → Turns source text macros mode t rest p (Some m) (Becomes result rest p)
    looks : (mode : Mode) (t : Lexeme) (rest : List Lexeme) (p : Progress) (m : Macro) (parameters : List Token) (ahead : Ahead) (turn : Turn) → m.parameters ≡ Some parameters
        → LooksAhead text mode rest p ahead → Meets source text macros mode t m parameters ahead turn → Turns source text macros mode t rest p (Some m) turn

  -- The name of a macro that takes arguments stands where no `(` is ahead, and begins a call where one is.
  pub data Meets (source text : List ℕ) (macros : Macros) : Mode → Lexeme → Macro → List Token → Ahead → Turn → Type 0 where
    unread : (mode : Mode) (t : Lexeme) (m : Macro) (parameters : List Token) (fault : ExpandFault) → Meets source text macros mode t m parameters (Faulty fault) (Faults fault)
    uncalled : (mode : Mode) (t : Lexeme) (m : Macro) (parameters : List Token) (ahead : List Lexeme) (q : Progress) → begins_call source ahead ≡ false
        → Meets source text macros mode t m parameters (At ahead q) (Stands ahead q)
    called : (mode : Mode) (t first : Lexeme) (m : Macro) (parameters : List Token) (behind : List Lexeme) (q : Progress) (found : Called) (turn : Turn)
        → is_mark source (codes "(") first ≡ true → Collects source text mode 0 ([] ∷ []) behind q found → Calls source text macros m parameters t found turn
        → Meets source text macros mode t m parameters (At (first ∷ behind) q) turn

  -- A call that closes has as many arguments as parameters. Each is expanded by itself, and the result may not be replaced by the names
  -- that the macro's name and the closing `)` may both not be replaced by, nor by the macro's.
  pub data Calls (source text : List ℕ) (macros : Macros) : Macro → List Token → Lexeme → Called → Turn → Type 0 where
    open_call : (m : Macro) (parameters : List Token) (t : Lexeme) → Calls source text macros m parameters t Open (Faults (Call t.place))
    unread_call : (m : Macro) (parameters : List Token) (t : Lexeme) (fault : ExpandFault) → Calls source text macros m parameters t (Fails fault) (Faults fault)
    miscounted : (m : Macro) (parameters : List Token) (t close : Lexeme) (arguments : List (List Lexeme)) (behind : List Lexeme) (p : Progress)
        → (length (arguments_of parameters arguments) ≡ length parameters → ⊥) → Calls source text macros m parameters t (Closed arguments close behind p) (Faults (Call t.place))
    closed : (m : Macro) (parameters : List Token) (t close : Lexeme) (arguments : List (List Lexeme)) (behind : List Lexeme) (p : Progress) (found : Arguments) (turn : Turn)
        → length (arguments_of parameters arguments) ≡ length parameters
        → ExpandsArguments source text macros m.replacement parameters (arguments_of parameters arguments) p found
        → turn ≡ replaced_call source (spelling source t.token ∷ shared t.hidden close.hidden) t.place m.replacement behind found
        → Calls source text macros m parameters t (Closed arguments close behind p) turn

  -- The arguments of a call, in the order of the parameters: one whose parameter stands in the replacement is expanded by itself.
  pub data ExpandsArguments (source text : List ℕ) (macros : Macros) : List Token → List Token → List (List Lexeme) → Progress → Arguments → Type 0 where
    none : (replacement : List Token) (p : Progress) → ExpandsArguments source text macros replacement [] [] p (Expanded [] p)
    unused : (replacement : List Token) (parameter : Token) (parameters : List Token) (argument : List Lexeme) (arguments : List (List Lexeme)) (p : Progress) (found : Arguments)
        → is_used source replacement parameter ≡ false → ExpandsArguments source text macros replacement parameters arguments p found
        → ExpandsArguments source text macros replacement (parameter ∷ parameters) (argument ∷ arguments) p found
    used : (replacement : List Token) (parameter : Token) (parameters : List Token) (argument out : List Lexeme) (arguments : List (List Lexeme)) (p q : Progress) (found more : Arguments)
        → is_used source replacement parameter ≡ true → Expands source text macros Alone argument p (Done out q)
        → ExpandsArguments source text macros replacement parameters arguments q more → found ≡ with_argument (spelling source parameter) out more
        → ExpandsArguments source text macros replacement (parameter ∷ parameters) (argument ∷ arguments) p found
    refused : (replacement : List Token) (parameter : Token) (parameters : List Token) (argument : List Lexeme) (arguments : List (List Lexeme)) (p : Progress) (fault : ExpandFault)
        → is_used source replacement parameter ≡ true → Expands source text macros Alone argument p (Stopped fault)
        → ExpandsArguments source text macros replacement (parameter ∷ parameters) (argument ∷ arguments) p (Refused fault)
