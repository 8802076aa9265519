-- The label of a value in a switch.
use Rattle.std.proofs.Common.{ℕ, ◌≡◌, refl, ap, Option, Some, None, List, [], ◌∷◌}
use Rattle.pw_value.specs.declared.value.Value.{Value}
use Rattle.pw_value.specs.declared.value.Value.TheVariants as V
use Rattle.pw_types.specs.TypedTrees.{CaseValue, Statement, Switch}
use Rattle.pw_cmean.specs.Acts.{give}
use Rattle.pw_cmean.specs.Evaluation.{Env, Calls}
use Rattle.pw_cmean.specs.Execution.{At_label, Normal, label_for, meaning, switch_to}
use Rattle.pw_interp_todo.specs.Going.{switched}
use Rattle.pw_interp_flows.specs.Numbers.{number_in}
use Rattle.pw_interp_flows.specs.Switches.{switch_in}

pub no_case : (cases : List CaseValue) (default : Option ℕ) (v : Value) → number_in v ≡ None → label_for cases default v ≡ default
no_case [] default V.Undefined e = refl
no_case [] default V.Null e = refl
no_case [] default (V.At p) e = refl
no_case [] default (V.Piece p i) e = refl
no_case [] default (V.Num n) e = refl
no_case (c ∷ rest) default V.Undefined e = refl
no_case (c ∷ rest) default V.Null e = refl
no_case (c ∷ rest) default (V.At p) e = refl
no_case (c ∷ rest) default (V.Piece p i) e = refl
no_case (c ∷ rest) default (V.Num n) e = cc e

pub with_number : (cases : List CaseValue) (default : Option ℕ) (v : Value) (n : ℕ) → number_in v ≡ Some n → label_for cases default v ≡ label_for cases default (V.Num n)
with_number cases default V.Undefined n e = cc e
with_number cases default V.Null n e = cc e
with_number cases default (V.At p) n e = cc e
with_number cases default (V.Piece p i) n e = cc e
with_number cases default (V.Num m) n e = let same : m ≡ n = cc e in ap (λ k. label_for cases default (V.Num k)) same

-- ---- a switch by what it holds

module _ (e : Env) (cs : Calls) (v : Value) where
  pub switched_some : (a : Statement) (cases : List CaseValue) (default : Option ℕ) (body : Statement) → switch_in a ≡ Some (cases, default, body)
      → switched a e cs v ≡ switch_to (label_for cases default v) (λ l. meaning body (At_label l) cs e)
  unfolding switched
  switched_some (Switch t x cs' d b) cases default body is =
      let here : List CaseValue × Option ℕ × Statement = (cs', d, b) in
      let wanted : List CaseValue × Option ℕ × Statement = (cases, default, body) in
      let same : here ≡ wanted = cc is in
      ap (λ (p : List CaseValue × Option ℕ × Statement). switch_to (label_for p.0 p.1 v) (λ l. meaning p.2 (At_label l) cs e)) same
  switched_some _ cases default body is = cc is

  pub switched_none : (a : Statement) → switch_in a ≡ None → switched a e cs v ≡ give Normal
  unfolding switched
  switched_none (Switch t x cs' d b) is = cc is
  switched_none _ is = refl
