-- Tokens with the numbers of their sets, as the code keeps them; and what its calls answer.
use Rattle.std.specs.Prelude.{◌≡◌, ℕ, ◌+◌, ◌<◌, List, [], ◌∷◌, ◌++◌, map, reverse, length, All, ◌⊎◌, Option, Some, None, Result, Ok, Err}
use Rattle.pw_token.specs.declared.token.Token.{Token}
use Rattle.pw_cpp_expand.specs.Calls.{Called, Closed, Open, Fails, Collects}
use Rattle.pw_cpp_expand.specs.Lookahead.{At, Faulty, Further, Nothing, Tokens, Fault, Lexeme, LooksAhead, ReadsOn}
use Rattle.pw_cpp_expand.specs.declared.arguments.Arguments.{Arguments}
use Rattle.pw_cpp_expand.specs.declared.arguments.Cut.{Cut}
use Rattle.pw_cpp_expand.specs.declared.arguments.Cut.TheVariants as cut
use Rattle.pw_cpp_expand.specs.declared.progress.ExpandFault.{ExpandFault}
use Rattle.pw_cpp_expand.specs.declared.progress.ExpandFault.TheVariants.{NoMemory}
use Rattle.pw_cpp_expand.specs.declared.progress.Lexeme.{Lexeme as Numbered}
use Rattle.pw_cpp_expand.specs.declared.progress.Mode.{Mode}
use Rattle.pw_cpp_expand.specs.declared.progress.Mode.TheVariants.{InText, Alone}
use Rattle.pw_cpp_expand.specs.declared.progress.Progress.{Progress}
use Rattle.pw_cpp_expand.specs.declared.result.Joined.{Joined}
use Rattle.pw_cpp_sets.specs.Sets.{Keeps, Known, set_at}

-- ---- sets by their numbers

abbrev pub named : Known → Numbered → Lexeme
named known l = record { token = l.token; hidden = set_at known l.hidden; place = l.place }

abbrev pub all_named : Known → List Numbered → List Lexeme
all_named known ls = map (named known) ls

-- tokens at hand are kept with the first one last
abbrev pub at_hand : Known → List Numbered → List Lexeme
at_hand known ls = all_named known (reverse ls)

-- the set of each token is known
abbrev pub AreKnown : Known → List Numbered → Type 0
AreKnown known ls = All (λ l. l.hidden < length known) ls

-- a token as it is read
abbrev pub fresh : Token → Numbered
fresh token = record { token = token; hidden = 0; place = token.at }

-- and of each token of a call's arguments, with the `)` that closes it
abbrev pub AreArgumentsKnown : Known → Arguments → Type 0
AreArgumentsKnown known found = All (AreKnown known) found.arguments × (found.close.hidden < length known)

-- the sets by their numbers, of which number 0 is the empty one
abbrev pub HaveEmpty : Known → Type 0
HaveEmpty known = (0 < length known) × (set_at known 0 ≡ [])

-- what a token takes of the output where it is put out: its bytes and a space
abbrev pub room_of : Mode → Numbered → ℕ
room_of InText l = l.token.len + 1
room_of Alone l = 0

-- ---- what is made of tokens

-- the set of a number has the names of one set in front of those of its own
abbrev pub IsJoined : Known → ℕ → Joined → Type 0
IsJoined known hidden joined = (joined.own < length known) × (joined.number < length known) × (set_at known joined.number ≡ set_at known hidden ++ set_at known joined.own)

-- these tokens, where the sets that were known keep their numbers
abbrev pub IsMade : Known → Known → List Numbered → List Lexeme → Type 0
IsMade known new made tokens = Keeps known new × AreKnown new made × (all_named new made ≡ tokens)

-- and these behind others
abbrev pub IsAdded : Known → List Numbered → Known → List Numbered → List Lexeme → Type 0
IsAdded known before new made tokens = IsMade known new made (all_named known before ++ tokens)

-- what a token did to the arguments, of which the last one is not whole, and how many inner parentheses are open behind it
abbrev pub IsPut : Cut → Numbered → List (List Numbered) → List Numbered → List (List Numbered) → List Numbered → ℕ → Type 0
IsPut (cut.Within inner) l whole last whole' last' depth = (whole' ≡ whole) × (last' ≡ last ++ l ∷ []) × (depth ≡ inner)
IsPut cut.Next l whole last whole' last' depth = (whole' ≡ whole ++ last ∷ []) × (last' ≡ []) × (depth ≡ 0)
IsPut cut.Ends l whole last whole' last' depth = Unit {0}

-- ---- answers of calls

-- a fault, unless memory ran out
abbrev pub IsFault : ExpandFault → (ExpandFault → Type 0) → Type 0
IsFault fault Is = (fault ≡ NoMemory) ⊎ Is fault

-- what a call made of how far the text has come, and its answer: what comes of the line at a place
abbrev pub AnswersTextLine : List ℕ → ℕ → Progress → Progress → Result (List Token) ExpandFault → Type 0
AnswersTextLine text at old new (Ok tokens) = ReadsOn text at old (Tokens tokens new)
AnswersTextLine text at old new (Err fault) = IsFault fault (λ f. ReadsOn text at old (Fault f))

abbrev pub AnswersFurther : List ℕ → Progress → Progress → Result (Option (List Token)) ExpandFault → Type 0
AnswersFurther text old new (Ok (Some tokens)) = ReadsOn text old.next old (Tokens tokens new)
AnswersFurther text old new (Ok None) = (new ≡ old) × ReadsOn text old.next old Nothing
AnswersFurther text old new (Err fault) = IsFault fault (λ f. ReadsOn text old.next old (Fault f))

-- the tokens at hand before and behind a call that looks ahead
abbrev pub AnswersAhead : List ℕ → Mode → List Numbered → Progress → List Numbered → Progress → Result (Unit {0}) ExpandFault → Type 0
AnswersAhead text mode old p new q (Ok done) = (known : Known) → HaveEmpty known → LooksAhead text mode (at_hand known old) p (At (at_hand known new) q)
AnswersAhead text mode old p new q (Err fault) = IsFault fault (λ f. (known : Known) → HaveEmpty known → LooksAhead text mode (at_hand known old) p (Faulty f))

-- and of one that reads the arguments of a call
abbrev pub AnswersCall : List ℕ → List ℕ → Mode → List Numbered → Progress → List Numbered → Progress → Result (Option Arguments) ExpandFault → Type 0
AnswersCall source text mode old p new q (Ok (Some found)) =
    (known : Known) → HaveEmpty known
    → Collects source text mode 0 ([] ∷ []) (at_hand known old) p (Closed (map (all_named known) found.arguments) (named known found.close) (at_hand known new) q)
AnswersCall source text mode old p new q (Ok None) = (known : Known) → HaveEmpty known → Collects source text mode 0 ([] ∷ []) (at_hand known old) p Open
AnswersCall source text mode old p new q (Err fault) =
    IsFault fault (λ f. (known : Known) → HaveEmpty known → Collects source text mode 0 ([] ∷ []) (at_hand known old) p (Fails f))
