-- What the calls answer that judge conditions and do directives.
use Rattle.std.specs.Prelude.{◌≡◌, ◌≤◌, ℕ, Bool, true, not, reverse, ◌⊎◌, List, [], Option, Some, None, Result, Ok, Err}
use Rattle.pw_token.specs.declared.token.Token.{Token}
use Rattle.pw_cpp_directives.specs.Conditions.{Judges, Verdict, Holds, Faulty}
use Rattle.pw_cpp_directives.specs.Conditions as condition
use Rattle.pw_cpp_directives.specs.Directives.{Becomes, DoesWord, Effect, Fails, Standing, fault, fault_of_expansion, if_effect, standing, word_of}
use Rattle.pw_cpp_directives.specs.declared.condition.Verdict.{Verdict as Judged}
use Rattle.pw_cpp_directives.specs.declared.condition.Verdict.TheVariants as judged
use Rattle.pw_cpp_directives.specs.declared.directive.Directive.{Directive}
use Rattle.pw_cpp_directives.specs.declared.directive.Fault.{Fault}
use Rattle.pw_cpp_directives.specs.declared.directive.Standing.{Standing as Kept}
use Rattle.pw_cpp_directives.specs.declared.fault.CppKind.TheVariants as kind
use Rattle.pw_cpp_directives.specs.declared.condition.Digits.{Digits}
use Rattle.pw_cpp_condition.specs.Grammar.{Means}
use Rattle.pw_cpp_condition.specs.declared.word.Item.{Item}
use Rattle.pw_cpp_expand.specs.Expansion.{produced_limit}
use Rattle.pw_cpp_expand.specs.Numbered.{IsFault}
use Rattle.pw_cpp_expand.specs.declared.progress.ExpandFault.{ExpandFault}
use Rattle.pw_cpp_expand.specs.declared.progress.Progress.{Progress}
use Rattle.pw_cpp_macros.specs.Macros.{Macros}
use Rattle.pw_cpp_sets.specs.Sets.{Keeps}
use Rattle.pw_cpp_values.specs.Arithmetic.{is_true}
use Rattle.pw_cpp_values.specs.declared.arithmetic.Number.{Number}

-- ---- conditions

-- items spell an expression with a value that is true or not; or none, or one without a value; or there are none
abbrev pub IsVerdictOf : Option (List Item) → Judged → Type 0
IsVerdictOf (Some items) (judged.Holds holds) = (number : Number) × Means items number × (word : ℕ) × (number.word ≡ Some word) × (holds ≡ is_true word)
IsVerdictOf (Some items) judged.Faulty = ((number : Number) → Means items number → ⊥) ⊎ ((number : Number) × Means items number × (number.word ≡ None))
IsVerdictOf None (judged.Holds holds) = ⊥
IsVerdictOf None judged.Faulty = Unit {0}

-- how far a condition has come before it is judged: nothing but tokens produced before
abbrev pub IsJudging : Progress → Type 0
IsJudging p = p ≡ record { next = 0; rows = []; produced = p.produced; size = 0 }

abbrev pub AnswersJudgement : List ℕ → Macros → Digits → List Token → ℕ → ℕ → Result Judged ExpandFault → Type 0
AnswersJudgement source macros digits tokens before after (Ok (judged.Holds holds)) = Judges source macros digits tokens before (Holds holds after)
AnswersJudgement source macros digits tokens before after (Ok judged.Faulty) = Judges source macros digits tokens before Faulty
AnswersJudgement source macros digits tokens before after (Err fault) = IsFault fault (λ f. Judges source macros digits tokens before (condition.Stops f))

-- ---- directives

-- what stands, with the innermost section first
abbrev pub standing_of : Kept → Standing
standing_of kept = standing kept.macros (reverse kept.sections) kept.produced

-- a fault, unless memory ran out
abbrev pub IsFaultOf : Fault → (Fault → Type 0) → Type 0
IsFaultOf f Is = (f.kind ≡ kind.NoMemory) ⊎ Is f

-- what a call made of what stands, and its answer: an effect that the directive has, unless memory ran out
abbrev pub IsDoneBy : (Effect → Type 0) → Kept → Result (Unit {0}) Fault → Type 0
IsDoneBy Does new (Ok done) = Does (Becomes (standing_of new))
IsDoneBy Does new (Err found) = IsFaultOf found (λ f. Does (Fails f))

abbrev pub AnswersEffect : List ℕ → Digits → Directive → Kept → Kept → Result (Unit {0}) Fault → Type 0
AnswersEffect source digits d old new result = IsDoneBy (DoesWord source digits (standing_of old) d.hash d.tokens.now (word_of d.name.now)) new result

-- what a directive leaves that neither opens sections nor expands tokens
abbrev pub IsBeside : Kept → Kept → Type 0
IsBeside old new = (new.sets ≡ old.sets) × (new.nested ≡ old.nested) × (new.produced ≡ old.produced)

-- what any directive leaves: sets that were known keep their numbers, no more tokens are produced than may be, and what is passed over is
-- the same
abbrev pub IsKept : Kept → Kept → Type 0
IsKept old new = Keeps old.sets new.sets × (new.produced ≤ produced_limit) × (new.nested ≡ old.nested)

-- what a `#if` does
abbrev pub OpensIf : List ℕ → Digits → Standing → ℕ → List Token → Effect → Type 0
OpensIf source digits s hash tokens effect = (verdict : Verdict) × Judges source s.macros digits tokens s.produced verdict × (effect ≡ if_effect s hash verdict)

-- the fault that a verdict is
abbrev pub fault_of_verdict : ℕ → Verdict → Option Fault
fault_of_verdict hash (Holds holds produced) = None
fault_of_verdict hash Faulty = Some (fault kind.Condition hash)
fault_of_verdict hash (condition.Stops f) = Some (fault_of_expansion f)

-- whether a condition holds, with the tokens produced so far; or the fault that its verdict is, unless memory ran out
abbrev pub IsJudgedBy : (Verdict → Type 0) → ℕ → ℕ → Result Bool Fault → Type 0
IsJudgedBy Is hash produced (Ok holds) = Is (Holds holds produced)
IsJudgedBy Is hash produced (Err found) = IsFaultOf found (λ f. (verdict : Verdict) × Is verdict × (fault_of_verdict hash verdict ≡ Some f))
