-- The condition of `#if` and `#elif` (ISO/IEC 9899:1990, 6.8.1): `defined` is taken first, then macros are expanded, and what is left is
-- evaluated.
use Rattle.std.specs.Prelude.{◌≡◌, ℕ, Bool, true, false, not, ◌&&◌, ◌==◌, if◌then◌else◌, List, [], ◌∷◌, ◌++◌, map, codes, is_some, Option, Some, None, Result, Ok, Err, option_and_then, option_map}
use Rattle.pw_token.specs.Roles.{spelling}
use Rattle.pw_token.specs.declared.token.Token.{Token}
use Rattle.pw_cpp_directives.specs.declared.condition.Digits.{Digits}
use Rattle.pw_cpp_condition.specs.Grammar.{Means}
use Rattle.pw_cpp_condition.specs.Words.{item_of}
use Rattle.pw_cpp_condition.specs.declared.word.Item.{Item}
use Rattle.pw_cpp_expand.specs.Expansion.{Expands, Outcome, Done, Stopped}
use Rattle.pw_cpp_expand.specs.Lookahead.{Lexeme, fresh}
use Rattle.pw_cpp_expand.specs.declared.progress.Mode.TheVariants.{Alone}
use Rattle.pw_cpp_expand.specs.declared.progress.Progress.{Progress}
use Rattle.pw_cpp_expand.specs.declared.progress.ExpandFault.{ExpandFault}
use Rattle.pw_cpp_macros.specs.Definitions.{is_spelled, is_word}
use Rattle.pw_cpp_macros.specs.Macros.{Macros, find}
use Rattle.pw_cpp_values.specs.Arithmetic.{is_true}
use Rattle.pw_cpp_values.specs.declared.arithmetic.Number.{Number}

-- the token that stands for what `defined` says: the digit 1 or 0, which stand in the source before all files
abbrev pub truth_token : Digits → Macros → List ℕ → Token
truth_token digits macros name = if is_some (find macros name) then digits.one else digits.zero

-- a digit in the place of a `defined`
abbrev pub said : List ℕ → Macros → Digits → Token → Token → Lexeme
said source macros digits defined name = record { token = truth_token digits macros (spelling source name); hidden = []; place = defined.at }

-- the name behind a `defined`, with the count of its tokens
abbrev pub name_in_parentheses : List ℕ → Token → List Token → Option (Token × ℕ)
name_in_parentheses source first (name ∷ close ∷ rest) = if is_spelled source (codes "(") first && is_word name && is_spelled source (codes ")") close then Some (name, 3) else None
name_in_parentheses source first (name ∷ []) = None
name_in_parentheses source first [] = None

abbrev pub defined_name : List ℕ → List Token → Option (Token × ℕ)
defined_name source [] = None
defined_name source (name ∷ rest) = if is_word name then Some (name, 1) else name_in_parentheses source name rest

-- what the first of some tokens becomes, with the count of those behind it that it takes; None where it is a `defined` that has neither form
abbrev pub taken_at : List ℕ → Macros → Digits → Token → List Token → Option (Lexeme × ℕ)
taken_at source macros digits t rest =
    if is_spelled source (codes "defined") t then option_map (λ found. (said source macros digits t found.0, found.1)) (defined_name source rest) else Some (fresh t, 0)

-- the tokens with each `defined X` and `defined ( X )` taken; None where a `defined` has neither form
abbrev pub with_defined : List ℕ → Macros → Digits → List Token → Option (List Lexeme)
with_defined source macros digits [] = Some []
with_defined source macros digits (t ∷ []) = if is_spelled source (codes "defined") t then None else Some (fresh t ∷ [])
with_defined source macros digits (t ∷ name ∷ []) =
    if is_spelled source (codes "defined") t
    then (if is_word name then Some (said source macros digits t name ∷ []) else None)
    else option_map (λ later. fresh t ∷ later) (with_defined source macros digits (name ∷ []))
with_defined source macros digits (t ∷ name ∷ third ∷ []) =
    if is_spelled source (codes "defined") t
    then (if is_word name then option_map (λ later. said source macros digits t name ∷ later) (with_defined source macros digits (third ∷ [])) else None)
    else option_map (λ later. fresh t ∷ later) (with_defined source macros digits (name ∷ third ∷ []))
with_defined source macros digits (t ∷ first ∷ name ∷ close ∷ rest) =
    if is_spelled source (codes "defined") t
    then (if is_word first then option_map (λ later. said source macros digits t first ∷ later) (with_defined source macros digits (name ∷ close ∷ rest))
    else (if is_spelled source (codes "(") first && is_word name && is_spelled source (codes ")") close
    then option_map (λ later. said source macros digits t name ∷ later) (with_defined source macros digits rest)
    else None))
    else option_map (λ later. fresh t ∷ later) (with_defined source macros digits (first ∷ name ∷ close ∷ rest))

-- the items that tokens are; None where one of them is none
abbrev pub items_of : List ℕ → List Lexeme → Option (List Item)
items_of source [] = Some []
items_of source (t ∷ rest) = option_and_then (λ item. option_map (λ later. item ∷ later) (items_of source rest)) (item_of t.token.kind (spelling source t.token))

-- what a condition comes to: whether it holds, it is none, or the expansion of its macros stops
pub data Verdict : Type 0 where
  Holds : Bool → ℕ → Verdict
  Faulty : Verdict
  Stops : ExpandFault → Verdict

-- a number that has a value decides; one that has none does not
abbrev pub decided_by : Option ℕ → ℕ → Verdict
decided_by (Some n) produced = Holds (is_true n) produced
decided_by None produced = Faulty

abbrev pub decided : Number → ℕ → Verdict
decided number produced = decided_by number.word produced

-- items that are an expression come to its number; where they are none, or there is no item for a token, there is no value
pub data JudgesItems : Option (List Item) → ℕ → Verdict → Type 0 where
  no_items : (produced : ℕ) → JudgesItems None produced Faulty
  no_expression : (items : List Item) (produced : ℕ) → ((number : Number) → Means items number → ⊥) → JudgesItems (Some items) produced Faulty
  evaluated : (items : List Item) (produced : ℕ) (number : Number) (verdict : Verdict) → Means items number → verdict ≡ decided number produced
      → JudgesItems (Some items) produced verdict

pub data JudgesOutcome (source : List ℕ) : Outcome → Verdict → Type 0 where
  stopped : (fault : ExpandFault) → JudgesOutcome source (Stopped fault) (Stops fault)
  done : (out : List Lexeme) (q : Progress) (verdict : Verdict) → JudgesItems (items_of source out) q.produced verdict → JudgesOutcome source (Done out q) verdict

pub data JudgesTaken (source : List ℕ) (macros : Macros) (p : Progress) : Option (List Lexeme) → Verdict → Type 0 where
  malformed : JudgesTaken source macros p None Faulty
  expanded : (taken : List Lexeme) (outcome : Outcome) (verdict : Verdict) → Expands source source macros Alone taken p outcome → JudgesOutcome source outcome verdict
      → JudgesTaken source macros p (Some taken) verdict

-- what the tokens of a condition come to, where so many tokens were produced before
abbrev pub Judges : List ℕ → Macros → Digits → List Token → ℕ → Verdict → Type 0
Judges source macros digits tokens produced verdict =
    JudgesTaken source macros (record { next = 0; rows = []; produced = produced; size = 0 }) (with_defined source macros digits tokens) verdict
