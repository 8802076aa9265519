-- What calls come to, by what they call.
use Rattle.std.proofs.Common.{◌≡◌, refl, ap, ◌∙◌, Bool, true, false, Option, Some, None, List, [], ◌∷◌}
use Rattle.std.specs.Prelude.{ℕ, is_none, not}
use Rattle.std.specs.Option.{option_map_or}
use Rattle.std.specs.Str.{bytes_eq}
use Rattle.pw_value.specs.declared.value.Value.{Value}
use Rattle.pw_types.specs.TypeTrees.{CType}
use Rattle.pw_types.specs.Shapes.{shape_of}
use Rattle.pw_cmean.specs.declared.undefined.Undef.TheVariants.{NotAFunction, FunctionShape}
use Rattle.pw_cmean.specs.Undefined.{◌when◌}
use Rattle.pw_cmean.specs.Worlds.{World, Callable}
use Rattle.pw_cmean.specs.Acts.{Act, State, ◌>>=◌, ◌>>◌, give, stop, go_on, need, judge, told, undefined}
use Rattle.pw_cmean.specs.Evaluation.{Env, Calls, site, records_of, take_room, library_call, call_body, call, call_value, callee_of, pointed}
use Rattle.pw_interp_world.specs.Views.{view_library}
use Rattle.pw_interp_world.specs.declared.program.LibraryFunction.{LibraryFunction}
use Rattle.pw_interp_world.specs.declared.program.LibraryFunction.TheVariants as L
use Rattle.pw_interp_world.specs.declared.program.Body.TheVariants as B
use Rattle.pw_interp_calls.specs.Functions.{callable_of}

pub library_is : (world : World) (cs : Calls) (g : LibraryFunction) (args : List Value)
    → call world cs (callable_of (B.Library g)) args ≡ (take_room world (callable_of (B.Library g)).name >> library_call (view_library g) args)
unfolding call call_body
library_is world cs L.ExitRun args = refl
library_is world cs L.GetChar args = refl
library_is world cs L.PutChar args = refl

-- ---- calls through a value

-- what is judged of the function to which a pointer points
judging : Env → CType → Option Callable → Bool
judging e ty callee = option_map_or (λ f. not (bytes_eq f.shape (shape_of (records_of e) (pointed ty) false))) callee false

-- a call through a pointer to such a function, or to none
through : Env → Calls → ℕ → CType → Option Callable → List Value → Act (Option Value)
through e cs token ty callee args = do
  judge (site e token) (NotAFunction when is_none callee ∷ FunctionShape when judging e ty callee ∷ [])
  f ← need callee
  call e.world cs f args

module _ (e : Env) (cs : Calls) (token : ℕ) (ty : CType) (p : Value) (args : List Value) where
  pub no_function : callee_of e.world.program p ≡ None → (s : State) → call_value e cs token ty p args s ≡ undefined (site e token) NotAFunction s
  unfolding call_value through judging judge told undefined need give stop ◌>>=◌ go_on
  no_function none s = ap (λ c. through e cs token ty c args s) none

  pub other_shape : (f : Callable) → callee_of e.world.program p ≡ Some f → bytes_eq f.shape (shape_of (records_of e) (pointed ty) false) ≡ false
      → (s : State) → call_value e cs token ty p args s ≡ undefined (site e token) FunctionShape s
  unfolding call_value through judging judge told undefined need give stop ◌>>=◌ go_on
  other_shape f is differs s = ap (λ c. through e cs token ty c args s) is ∙ ap (λ same. go_on (judge (site e token) (NotAFunction when false ∷ FunctionShape when not same ∷ []) s) (λ done. call e.world cs f args)) differs

  pub that_shape : (f : Callable) → callee_of e.world.program p ≡ Some f → bytes_eq f.shape (shape_of (records_of e) (pointed ty) false) ≡ true
      → (s : State) → call_value e cs token ty p args s ≡ call e.world cs f args s
  unfolding call_value through judging judge told undefined need give stop ◌>>=◌ go_on
  that_shape f is agrees s = ap (λ c. through e cs token ty c args s) is ∙ ap (λ same. go_on (judge (site e token) (NotAFunction when false ∷ FunctionShape when not same ∷ []) s) (λ done. call e.world cs f args)) agrees
