-- The operand of an expression that is evaluated first, and the act that evaluates what is asked (ISO C90 6.3).
use Rattle.std.specs.Prelude.{ℕ, Option, Some, None}
use Rattle.pw_value.specs.declared.value.Value.{Value}
use Rattle.pw_typed.specs.Views.{view_expr}
use Rattle.pw_types.specs.TypedTrees.{Expression, Form, form_of, Unary, Binary, Logic, Cond, Comma, Assign, Compound, Step, Cast, Member, Deref, CallValue}
use Rattle.pw_cmean.specs.Acts.{Act, give, ◌>>=◌}
use Rattle.pw_cmean.specs.Evaluation.{Env, answer_of, place_of}
use Rattle.pw_cmean.specs.SourceRun.{calls}
use Rattle.pw_interp_todo.specs.declared.asked.Asked.{Asked}
use Rattle.pw_interp_todo.specs.declared.asked.Asked.TheVariants as A

-- an expression, of which the result is asked, or the place that it denotes
pub data Question : Type 0 where
  Answer : Expression → Question
  Place : Expression → Question

abbrev pub view_asked : Asked → Question
view_asked (A.Answer a) = Answer (view_expr a.now)
view_asked (A.Place a) = Place (view_expr a.now)

-- the act that evaluates it, where calls have a bound; a place is a result that is never missing
abbrev pub placed : Expression → Env → ℕ → Act (Option Value)
placed a e bound = place_of a (calls e.world bound) e >>= λ place. give (Some place)

abbrev pub answered : Expression → Env → ℕ → Act (Option Value)
answered a e bound = answer_of a (calls e.world bound) e

abbrev pub question_act : Question → Env → ℕ → Act (Option Value)
question_act (Answer a) = answered a
question_act (Place a) = placed a

abbrev pub asked_act : Asked → Env → ℕ → Act (Option Value)
asked_act asked = question_act (view_asked asked)

-- What is evaluated first for the result of an expression of the form. What takes an address has the place itself as its
-- result, and a call of a function that is named has a list of arguments.
abbrev pub answer_first : Form → Option Question
answer_first (Unary op a) = Some (Answer a)
answer_first (Binary op a b) = Some (Answer a)
answer_first (Logic op a b) = Some (Answer a)
answer_first (Cond a b c) = Some (Answer a)
answer_first (Comma a b) = Some (Answer a)
answer_first (Assign a b) = Some (Place a)
answer_first (Compound op working a b) = Some (Place a)
answer_first (Step op a) = Some (Place a)
answer_first (Cast a) = Some (Answer a)
answer_first (Member a offset) = Some (Place a)
answer_first (Deref a) = Some (Answer a)
answer_first (CallValue a args) = Some (Answer a)
answer_first _ = None

-- and for its place
abbrev pub place_first : Form → Option Question
place_first (Member a offset) = Some (Place a)
place_first (Assign a b) = Some (Place a)
place_first (Deref a) = Some (Answer a)
place_first (Cond a b c) = Some (Answer a)
place_first (Comma a b) = Some (Answer a)
place_first _ = None

abbrev pub first_of : Question → Option Question
first_of (Answer a) = answer_first (form_of a)
first_of (Place a) = place_first (form_of a)
