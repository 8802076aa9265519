-- An expression is what is evaluated first for it, and what follows behind that.
use Rattle.std.proofs.Common.{ℕ, ◌≡◌, refl, subst, ◌∙◌, Option, Some, None}
use Rattle.pw_value.specs.declared.value.Value.{Value}
use Rattle.pw_types.specs.TypeTrees.{QType, type_of}
use Rattle.pw_types.specs.TypedTrees.{Expression, Form, Node, Number, Str, Local, Global, Function, Unary, Binary, Logic, Cond, Comma, Assign, Compound, Step, Cast, Decay, Member, Deref, Address, Call, CallValue, type_at}
use Rattle.pw_cmean.specs.Acts.{State, give, ◌>>=◌, ◌>>◌}
use Rattle.pw_cmean.specs.Access.{Assigning, put}
use Rattle.pw_cmean.specs.Operators.{binary}
use Rattle.pw_cmean.specs.Evaluation.{Env, Calls, site, records_of, used, answer_of, place_of, assigned, old_value, update, decides}
use Rattle.pw_cmean.specs.SourceRun.{calls}
use Rattle.pw_interp_todo.specs.Asking.{Question, placed, answered, question_act, answer_first, place_first}
use Rattle.pw_interp_todo.specs.Operands.{tested, right_behind, second_behind, assigned_behind, stored_behind, updated_behind, answer_behind, place_behind}
use Rattle.pw_interp_todo.proofs.ActLaws.{grouped, follow_same, given_on, branch_same, branch_then}
use Rattle.pw_interp_todo.proofs.Firsts.{used_first, tested_first, used_last, placed_first}

module _ (e : Env) (bound : ℕ) (t : ℕ) (ty : QType) where
  abbrev cs : Calls
  cs = calls e.world bound

  abbrev Split : Form → Option Question → Type 0
  Split form None = Unit {0}
  Split form (Some q) = (s : State) → answered (Node t ty form) e bound s ≡ (question_act q e bound >>= λ given. answer_behind (Node t ty form) given e bound) s

  split : (form : Form) → Split form (answer_first form)
  unfolding answer_of answer_behind right_behind second_behind assigned_behind updated_behind
  split (Number n) = tt
  split (Str k) = tt
  split (Local k) = tt
  split (Global symbol) = tt
  split (Function symbol) = tt
  split (Unary op a) = λ s. used_first e bound t a _ s
  split (Binary op a b) = λ s.
      used_first e bound t a _ s
      ∙ follow_same (answered a e bound) _ _ s (λ given u. follow_same (used (site e t) given) _ _ u (λ v x. used_last e bound t b (op, type_of (type_at a), type_of (type_at b)) (λ p w. binary (site e t) (records_of e) p.0 p.1 p.2 v w >>= λ result. give (Some result)) x))
  split (Logic op a b) = λ s.
      tested_first e bound t a _ s
      ∙ follow_same (answered a e bound) _ _ s (λ given u. follow_same (tested e t given) _ _ u (λ first x. branch_same (decides op first) _ _ _ _ x refl (tested_first e bound t b _ x)))
  split (Cond c a b) = λ s. tested_first e bound t c _ s
  split (Comma a b) = λ s. refl
  split (Assign a b) = λ s.
      follow_same (place_of a cs e) _ _ s (λ place u. used_last e bound t b (type_of (type_at a)) (λ target v. put Assigning (site e t) (records_of e) target place v >> give (Some (assigned target place v))) u)
      ∙ placed_first e bound t a _ s
  split (Compound op working a b) = λ s.
      follow_same (place_of a cs e) _ _ s (λ place u. follow_same (old_value e t (type_of (type_at a)) working place) _ _ u (λ old x.
      used_last e bound t b (op, working, type_of (type_at a), type_of (type_at b)) (λ p w. update e t p.2 p.1 place p.0 p.3 old w >>= λ result. give (Some result)) x))
      ∙ placed_first e bound t a _ s
  split (Step op a) = λ s. placed_first e bound t a _ s
  split (Cast a) = λ s. refl
  split (Decay a) = tt
  split (Member a offset) = λ s. grouped (place_of a cs e) _ _ s ∙ placed_first e bound t a _ s
  split (Deref a) = λ s. used_first e bound t a _ s
  split (Address a) = tt
  split (Call symbol args) = tt
  split (CallValue a args) = λ s. used_first e bound t a _ s

  -- the right operand of an assignment whose place is asked
  storing : (a b : Expression) (place : Value) (s : State)
      → (((answer_of b cs e >>= used (site e t)) >>= λ v. put Assigning (site e t) (records_of e) (type_of (type_at a)) place v >> give place) >>= λ p. give (Some p)) s
      ≡ (answered b e bound >>= λ right. stored_behind (Node t ty (Assign a b)) place right e bound) s
  unfolding stored_behind
  storing a b place s =
      let target = type_of (type_at a) in
      grouped (answer_of b cs e >>= used (site e t)) (λ v. put Assigning (site e t) (records_of e) target place v >> give place) (λ p. give (Some p)) s
      ∙ follow_same (answer_of b cs e >>= used (site e t)) (λ v. (put Assigning (site e t) (records_of e) target place v >> give place) >>= λ p. give (Some p)) (λ v. put Assigning (site e t) (records_of e) target place v >> give (Some place)) s
      (λ v u.
      grouped (put Assigning (site e t) (records_of e) target place v) (λ _. give place) (λ p. give (Some p)) u
      ∙ follow_same (put Assigning (site e t) (records_of e) target place v) (λ _. give place >>= λ p. give (Some p)) (λ _. give (Some place)) u (λ d x. given_on place (λ p. give (Some p)) x))
      ∙ used_last e bound t b target (λ ty' v. put Assigning (site e t) (records_of e) ty' place v >> give (Some place)) s

  abbrev SplitPlace : Form → Option Question → Type 0
  SplitPlace form None = Unit {0}
  SplitPlace form (Some q) = (s : State) → placed (Node t ty form) e bound s ≡ (question_act q e bound >>= λ given. place_behind (Node t ty form) given e bound) s

  split_place : (form : Form) → SplitPlace form (place_first form)
  unfolding answer_of place_behind stored_behind
  split_place (Number n) = tt
  split_place (Str k) = tt
  split_place (Local k) = tt
  split_place (Global symbol) = tt
  split_place (Function symbol) = tt
  split_place (Unary op a) = tt
  split_place (Binary op a b) = tt
  split_place (Logic op a b) = tt
  split_place (Cond c a b) = λ s.
      grouped _ _ _ s
      ∙ tested_first e bound t c _ s
      ∙ follow_same (answered c e bound) _ _ s (λ given u. follow_same (tested e t given) _ _ u (λ chosen x. branch_then chosen _ _ _ x))
  split_place (Comma a b) = λ s. grouped (answer_of a cs e) _ _ s
  split_place (Assign a b) = λ s.
      grouped (place_of a cs e) _ _ s
      ∙ follow_same (place_of a cs e) _ _ s (storing a b)
      ∙ placed_first e bound t a _ s
  split_place (Compound op working a b) = tt
  split_place (Step op a) = tt
  split_place (Cast a) = tt
  split_place (Decay a) = tt
  split_place (Member a offset) = λ s. grouped (place_of a cs e) _ _ s ∙ placed_first e bound t a _ s
  split_place (Deref a) = λ s. used_first e bound t a _ s
  split_place (Address a) = tt
  split_place (Call symbol args) = tt
  split_place (CallValue a args) = tt

-- behind what is evaluated first
pub split_answer : {q : Question} (e : Env) (bound t : ℕ) (ty : QType) (form : Form) → answer_first form ≡ Some q
    → (s : State) → answered (Node t ty form) e bound s ≡ (question_act q e bound >>= λ given. answer_behind (Node t ty form) given e bound) s
split_answer {q = q} e bound t ty form is = subst (Split e bound t ty form) is (split e bound t ty form)

pub split_places : {q : Question} (e : Env) (bound t : ℕ) (ty : QType) (form : Form) → place_first form ≡ Some q
    → (s : State) → placed (Node t ty form) e bound s ≡ (question_act q e bound >>= λ given. place_behind (Node t ty form) given e bound) s
split_places {q = q} e bound t ty form is = subst (SplitPlace e bound t ty form) is (split_place e bound t ty form)
