-- What is evaluated first, and then this.
use Rattle.std.proofs.Common.{ℕ, ◌≡◌, sym, ◌∙◌, Bool, Some}
use Rattle.pw_value.specs.declared.value.Value.{Value}
use Rattle.pw_types.specs.TypedTrees.{Expression}
use Rattle.pw_cmean.specs.Acts.{Act, State, ◌>>=◌, need}
use Rattle.pw_cmean.specs.Operators.{truth}
use Rattle.pw_cmean.specs.Evaluation.{Env, Calls, site, used, answer_of, place_of}
use Rattle.pw_cmean.specs.SourceRun.{calls}
use Rattle.pw_interp_todo.specs.Asking.{placed, answered}
use Rattle.pw_interp_todo.specs.Operands.{tested}
use Rattle.pw_interp_todo.proofs.ActLaws.{grouped, follow_same, through_place, needed}

module _ (e : Env) (bound t : ℕ) where
  abbrev cs : Calls
  cs = calls e.world bound

  -- the value of an operand
  pub used_first : {B : Type 0} (a : Expression) (f : Value → Act B) (s : State)
      → ((answer_of a cs e >>= used (site e t)) >>= f) s ≡ (answered a e bound >>= λ given. used (site e t) given >>= f) s
  used_first a f s = grouped (answer_of a cs e) (used (site e t)) f s

  -- whether it is unlike 0
  pub tested_first : {B : Type 0} (a : Expression) (f : Bool → Act B) (s : State)
      → (((answer_of a cs e >>= used (site e t)) >>= truth (site e t)) >>= f) s ≡ (answered a e bound >>= λ given. tested e t given >>= f) s
  unfolding tested
  tested_first a f s =
      grouped (answer_of a cs e >>= used (site e t)) (truth (site e t)) f s
      ∙ grouped (answer_of a cs e) (used (site e t)) (λ v. truth (site e t) v >>= f) s
      ∙ follow_same (answer_of a cs e) _ _ s (λ given u. sym (grouped (used (site e t) given) (truth (site e t)) f u))

  -- the value of the last operand, with what the operator asks of its node
  pub used_last : {A B : Type 0} (a : Expression) (p : A) (f : A → Value → Act B) (s : State)
      → ((answer_of a cs e >>= used (site e t)) >>= f p) s ≡ (answered a e bound >>= λ given. used (site e t) given >>= λ v. need (Some p) >>= λ q. f q v) s
  used_last a p f s = used_first a (f p) s ∙ follow_same (answered a e bound) _ _ s (λ given u. follow_same (used (site e t) given) _ _ u (λ v x. sym (needed p (λ q. f q v) x)))

  -- its place
  pub placed_first : {B : Type 0} (a : Expression) (f : Value → Act B) (s : State)
      → (place_of a cs e >>= f) s ≡ (placed a e bound >>= λ given. need given >>= f) s
  placed_first a f s = sym (through_place (place_of a cs e) f s)
