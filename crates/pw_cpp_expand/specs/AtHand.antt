-- What is at hand while tokens are expanded, on a stack of open calls; and what it comes to.
use Rattle.std.specs.Prelude.{◌≡◌, ℕ, ◌+◌, ◌≤◌, ◌<◌, true, if◌then◌else◌, List, [], ◌∷◌, ◌++◌, map, reverse, length, codes, All, ◌⊎◌, Option, Some, None, Result, Ok, Err}
use Rattle.pw_token.specs.Roles.{spelling}
use Rattle.pw_token.specs.declared.token.Token.{Token}
use Rattle.pw_cpp_macros.specs.Macros.{Macros}
use Rattle.pw_cpp_macros.specs.declared.definition.Macro.{Macro}
use Rattle.pw_cpp_expand.specs.Expansion.{Arguments, Expanded, Refused, Expands, Outcome, Done, Stopped, produced_limit, producing, result_of, with_argument}
use Rattle.pw_cpp_expand.specs.Calls.{Called, Closed, Open, Fails, Collects, arguments_of, is_mark, is_used}
use Rattle.pw_cpp_expand.specs.Lookahead.{At, Lexeme, LooksAhead, output_limit}
use Rattle.pw_cpp_expand.specs.Numbered.{AreKnown, HaveEmpty, IsFault, all_named, at_hand, named, room_of}
use Rattle.pw_cpp_expand.specs.declared.expansion.Call.{Call}
use Rattle.pw_cpp_expand.specs.declared.expansion.Expander.{Expander}
use Rattle.pw_cpp_expand.specs.declared.expansion.Raw.{Raw}
use Rattle.pw_cpp_expand.specs.declared.expansion.Read.{Read}
use Rattle.pw_cpp_expand.specs.declared.progress.ExpandFault.{ExpandFault}
use Rattle.pw_cpp_expand.specs.declared.progress.ExpandFault.TheVariants as no
use Rattle.pw_cpp_expand.specs.declared.progress.ExpandFault.TheVariants.{Length, Produced}
use Rattle.pw_cpp_expand.specs.declared.progress.Lexeme.{Lexeme as Numbered}
use Rattle.pw_cpp_expand.specs.declared.progress.Mode.{Mode}
use Rattle.pw_cpp_expand.specs.declared.progress.Mode.TheVariants.{Alone}
use Rattle.pw_cpp_expand.specs.declared.progress.Progress.{Progress}
use Rattle.pw_cpp_expand.specs.declared.result.Expanded.{Expanded as Argument}
use Rattle.pw_cpp_sets.specs.Sets.{Keeps, Known, set_at}

-- an argument for the parameter of this name
abbrev pub Named : Type 0
Named = List ℕ × List Lexeme

abbrev pub argument_named : List ℕ → Known → Argument → Named
argument_named source known argument = (spelling source argument.parameter, all_named known argument.tokens)

abbrev pub raw_named : List ℕ → Known → Raw → Named
raw_named source known raw = (spelling source raw.parameter, all_named known raw.tokens)

-- An open call: its macro, the names that its result may not be replaced by, and the place of the macro's name; the parameter whose
-- argument is at hand, the arguments that wait and those that are expanded; and what stood at hand behind the call, and before it.
pub record Opened : Type 0 where
  pub meaning : Macro
  pub hidden : List (List ℕ)
  pub place : ℕ
  pub parameter : List ℕ
  pub waiting : List Named
  pub expanded : List Named
  pub behind : List Lexeme
  pub before : List Lexeme

abbrev pub opened : List ℕ → Known → Call → Opened
opened source known call = record {
  meaning = call.meaning.now;
  hidden = set_at known call.replaced.hidden;
  place = call.replaced.place;
  parameter = spelling source call.parameter;
  waiting = map (raw_named source known) (reverse call.waiting);
  expanded = map (argument_named source known) call.expanded;
  behind = at_hand known call.behind;
  before = all_named known call.before;
}

-- Arguments that wait are expanded one by one, each by itself.
pub data ExpandsWaiting (source text : List ℕ) (macros : Macros) : List Named → Progress → Arguments → Type 0 where
  none : (p : Progress) → ExpandsWaiting source text macros [] p (Expanded [] p)
  one : (name : List ℕ) (tokens out : List Lexeme) (others : List Named) (p q : Progress) (found more : Arguments)
      → Expands source text macros Alone tokens p (Done out q) → ExpandsWaiting source text macros others q more → found ≡ with_argument name out more
      → ExpandsWaiting source text macros ((name, tokens) ∷ others) p found
  refused_one : (name : List ℕ) (tokens : List Lexeme) (others : List Named) (p : Progress) (fault : ExpandFault)
      → Expands source text macros Alone tokens p (Stopped fault) → ExpandsWaiting source text macros ((name, tokens) ∷ others) p (Refused fault)

-- behind tokens that stand
abbrev pub with_before : List Lexeme → Outcome → Outcome
with_before out (Done more p) = Done (out ++ more) p
with_before out (Stopped fault) = Stopped fault

-- What is at hand comes to: the tokens that are to be expanded, those that stand before them, and the open calls, the innermost first.
pub data Comes (source text : List ℕ) (macros : Macros) (mode : Mode) : List Opened → List Lexeme → List Lexeme → Progress → Outcome → Type 0 where
  alone : (pending out : List Lexeme) (p : Progress) (outcome more : Outcome) → Expands source text macros mode pending p more → outcome ≡ with_before out more
      → Comes source text macros mode [] pending out p outcome
  stopped : (call : Opened) (calls : List Opened) (pending out : List Lexeme) (p : Progress) (fault : ExpandFault)
      → Expands source text macros Alone pending p (Stopped fault) → Comes source text macros mode (call ∷ calls) pending out p (Stopped fault)
  refused : (call : Opened) (calls : List Opened) (pending out more : List Lexeme) (p q : Progress) (fault : ExpandFault)
      → Expands source text macros Alone pending p (Done more q) → ExpandsWaiting source text macros call.waiting q (Refused fault)
      → Comes source text macros mode (call ∷ calls) pending out p (Stopped fault)
  too_many : (call : Opened) (calls : List Opened) (pending out more : List Lexeme) (p q r : Progress) (others : List Named)
      → Expands source text macros Alone pending p (Done more q) → ExpandsWaiting source text macros call.waiting q (Expanded others r)
      → produced_limit < r.produced + length (result_of source call.hidden call.place (call.expanded ++ (call.parameter, out ++ more) ∷ others) call.meaning.replacement)
      → Comes source text macros mode (call ∷ calls) pending out p (Stopped (Produced call.place))
  replaced : (call : Opened) (calls : List Opened) (pending out more result : List Lexeme) (p q r : Progress) (others : List Named) (outcome : Outcome)
      → Expands source text macros Alone pending p (Done more q) → ExpandsWaiting source text macros call.waiting q (Expanded others r)
      → result ≡ result_of source call.hidden call.place (call.expanded ++ (call.parameter, out ++ more) ∷ others) call.meaning.replacement
      → r.produced + length result ≤ produced_limit
      → Comes source text macros mode calls (result ++ call.behind) call.before (producing r (length result)) outcome
      → Comes source text macros mode (call ∷ calls) pending out p outcome

-- what an expander comes to
abbrev pub ComesTo : List ℕ → List ℕ → Macros → Mode → Known → Expander → Progress → Outcome → Type 0
ComesTo source text macros mode known e p outcome =
    Comes source text macros mode (map (opened source known) (reverse e.calls)) (at_hand known e.pending) (all_named known e.out) p outcome

-- the sets of all that is at hand are known
abbrev pub IsCallKnown : Known → Call → Type 0
IsCallKnown known call =
    (call.replaced.hidden < length known) × All (λ raw. AreKnown known raw.tokens) call.waiting × All (λ argument. AreKnown known argument.tokens) call.expanded
    × AreKnown known call.behind × AreKnown known call.before

abbrev pub IsKnown : Known → Expander → Type 0
IsKnown known e = AreKnown known e.pending × AreKnown known e.out × All (IsCallKnown known) e.calls

-- arguments are expanded alone
abbrev pub mode_of : Mode → List Call → Mode
mode_of mode [] = mode
mode_of mode (call ∷ calls) = Alone

-- what has come of a text is within the limits
abbrev pub IsWithinLimits : Progress → Type 0
IsWithinLimits p = (p.produced ≤ produced_limit) × (p.size ≤ output_limit)

-- What is at hand may be expanded: the next line is one of the text, the sets are known, and what has come of the text is within the
-- limits.
pub record IsReady (text : List ℕ) (known : Known) (e : Expander) (p : Progress) : Type 0 where
  pub place : p.next ≤ length text
  pub sets : IsKnown known e
  pub limits : IsWithinLimits p
  pub empty : HaveEmpty known

-- ---- steps

-- What was at hand comes to whatever is at hand behind the step comes to; a fault is what it comes to.
abbrev pub IsStepTo : {A : Type 0} → (Outcome → Type 0) → List ℕ → List ℕ → Macros → Mode → Known → Expander → Progress → Result A ExpandFault → Type 0
IsStepTo Before source text macros mode known e p (Ok done) = (outcome : Outcome) → ComesTo source text macros mode known e p outcome → Before outcome
IsStepTo Before source text macros mode known e p (Err fault) = IsFault fault (λ f. Before (Stopped f))

-- And what is at hand behind it may be expanded, where the sets that were known keep their numbers.
abbrev pub IsStep : {A : Type 0} → List ℕ → List ℕ → Macros → Mode → Known → (Outcome → Type 0) → Known → Expander → Progress → Result A ExpandFault → Type 0
IsStep source text macros mode old Before known e p (Ok done) =
    Keeps old known × IsReady text known e p × ((outcome : Outcome) → ComesTo source text macros mode known e p outcome → Before outcome)
IsStep source text macros mode old Before known e p (Err fault) = IsFault fault (λ f. Before (Stopped f))

-- a token that is put out, if the output has room for it
abbrev pub PutsOut : Mode → Numbered → Expander → Progress → Expander → Progress → Result (Unit {0}) ExpandFault → Type 0
PutsOut mode l e p f q (Ok done) =
    (f ≡ record e { out = e.out ++ l ∷ [] }) × (q ≡ record p { size = p.size + room_of (mode_of mode e.calls) l }) × (p.size + room_of (mode_of mode e.calls) l ≤ output_limit)
PutsOut mode l e p f q (Err fault) = IsFault fault (λ x. (x ≡ Length l.place) × (output_limit < p.size + room_of (mode_of mode e.calls) l))

-- what replaces a name or a call is put in front of the tokens at hand, if so many may be produced
abbrev pub PutsResult : List Numbered → ℕ → Expander → Progress → Expander → Progress → Result (Unit {0}) ExpandFault → Type 0
PutsResult made place e p f q (Ok done) = (f ≡ record e { pending = e.pending ++ reverse made }) × (q ≡ producing p (length made)) × (p.produced + length made ≤ produced_limit)
PutsResult made place e p f q (Err fault) = IsFault fault (λ x. (x ≡ Produced place) × (produced_limit < p.produced + length made))

-- a call whose arguments are all expanded comes to
abbrev pub IsReplacedBy : List ℕ → List ℕ → Macros → Mode → Known → Expander → Call → Progress → Outcome → Type 0
IsReplacedBy source text macros mode known e call p outcome =
    let result = result_of source (set_at known call.replaced.hidden) call.replaced.place (map (argument_named source known) call.expanded) call.meaning.now.replacement in
    ((produced_limit < p.produced + length result) × (outcome ≡ Stopped (Produced call.replaced.place)))
    ⊎ ((p.produced + length result ≤ produced_limit)
    × Comes source text macros mode (map (opened source known) (reverse e.calls)) (result ++ at_hand known call.behind) (all_named known call.before) (producing p (length result)) outcome)

-- the call of a name whose `(` was read comes to
abbrev pub IsCallOpened : List ℕ → List ℕ → Macros → Mode → Known → Expander → Numbered → Progress → Outcome → Type 0
IsCallOpened source text macros mode known e name p outcome =
    (first : Lexeme) (rest : List Lexeme) (start : Progress) → LooksAhead text (mode_of mode e.calls) rest start (At (first ∷ at_hand known e.pending) p) → is_mark source (codes "(") first ≡ true
    → Comes source text macros mode (map (opened source known) (reverse e.calls)) (named known name ∷ rest) (all_named known e.out) start outcome

-- ---- the arguments of a call that are expanded

abbrev pub waiting_for : List ℕ → List Token → List Token → List (List Lexeme) → List Named
waiting_for source replacement (parameter ∷ parameters) (argument ∷ arguments) =
    (if is_used source replacement parameter then (spelling source parameter, argument) ∷ waiting_for source replacement parameters arguments else waiting_for source replacement parameters arguments)
waiting_for source replacement _ _ = []

-- of so many arguments as parameters those that are expanded, the first one last; none where there are more or fewer
abbrev pub IsWaiting : List ℕ → Known → List Token → List Token → List (List Numbered) → Option (List Raw) → Type 0
IsWaiting source known parameters replacement arguments (Some raws) =
    (length (arguments_of parameters (map (all_named known) arguments)) ≡ length parameters)
    × (map (raw_named source known) (reverse raws) ≡ waiting_for source replacement parameters (arguments_of parameters (map (all_named known) arguments)))
IsWaiting source known parameters replacement arguments None = length (arguments_of parameters (map (all_named known) arguments)) ≡ length parameters → ⊥

-- ---- a call that is read, from behind its `(` on

-- its arguments, as many as its macro has parameters, with those of them that are expanded
abbrev pub IsCallRead : List ℕ → List ℕ → Mode → List Token → List Token → List Numbered → Progress → List Numbered → Progress → Read → Known → Type 0
IsCallRead source text mode parameters replacement old p new q read known =
    (arguments : List (List Lexeme)) × Collects source text mode 0 ([] ∷ []) (at_hand known old) p (Closed arguments (named known read.close) (at_hand known new) q)
    × (length (arguments_of parameters arguments) ≡ length parameters)
    × (map (raw_named source known) (reverse read.waiting) ≡ waiting_for source replacement parameters (arguments_of parameters arguments))

-- what is wrong with a call whose name stands at a place
abbrev pub IsFaultOfCall : ℕ → List Token → Called → ExpandFault → Type 0
IsFaultOfCall place parameters Open fault = fault ≡ no.Call place
IsFaultOfCall place parameters (Fails f) fault = fault ≡ f
IsFaultOfCall place parameters (Closed arguments close behind q) fault = (fault ≡ no.Call place) × (length (arguments_of parameters arguments) ≡ length parameters → ⊥)

abbrev pub AnswersRead : List ℕ → List ℕ → Mode → List Token → List Token → ℕ → List Numbered → Progress → List Numbered → Progress → Result Read ExpandFault → Type 0
AnswersRead source text mode parameters replacement place old p new q (Ok read) = (known : Known) → HaveEmpty known → IsCallRead source text mode parameters replacement old p new q read known
AnswersRead source text mode parameters replacement place old p new q (Err fault) =
    IsFault fault (λ f. (known : Known) → HaveEmpty known → (called : Called) × Collects source text mode 0 ([] ∷ []) (at_hand known old) p called × IsFaultOfCall place parameters called f)

-- the sets of what is read are known
abbrev pub IsReadKnown : Known → Read → Type 0
IsReadKnown known read = (read.close.hidden < length known) × All (λ raw. AreKnown known raw.tokens) read.waiting

-- ---- the whole

-- What a call answers to tokens that are to be expanded: what they come to, with the sets by their new numbers, where those that were
-- known keep theirs, and how far the text has come, within its bounds.
abbrev pub AnswersExpansion : List ℕ → List ℕ → Macros → Mode → Known → List Lexeme → Progress → Known → Progress → Result (List Numbered) ExpandFault → Type 0
AnswersExpansion source text macros mode known tokens p new q (Ok out) =
    Expands source text macros mode tokens p (Done (all_named new out) q) × Keeps known new × AreKnown new out × (q.next ≤ length text) × IsWithinLimits q
AnswersExpansion source text macros mode known tokens p new q (Err fault) = IsFault fault (λ f. Expands source text macros mode tokens p (Stopped f))
