-- A value put into a local.
use Rattle.std.proofs.Common.{ℕ, ◌≡◌, refl, sym, subst, Result, Err, Some, None}
use Rattle.std.specs.Prelude.{slice_get}
use Rattle.pw_value.specs.declared.value.Value.{Value}
use Rattle.pw_types.specs.TypeTrees.{type_of}
use Rattle.pw_types.specs.TypedTrees.{LocalValue}
use Rattle.pw_cmean.specs.Worlds.{World}
use Rattle.pw_cmean.specs.Acts.{Act, Site, Wrong, need, give, stop, wrong, ◌>>=◌}
use Rattle.pw_cmean.specs.Access.{Initialising, put}
use Rattle.pw_cmean.specs.Evaluation.{Env, records_of, local_place}
use Rattle.pw_cmean.specs.Execution.{set_local}
use Rattle.pw_interp_state.specs.Shown.{Shown}
use Rattle.pw_interp_state.proofs.RunLaws.{given, stopped, goes_on, ends}
use Rattle.pw_interp_calls.specs.declared.ending.Ending.TheVariants as E
use Rattle.pw_interp_calls.specs.declared.ending.Stop.{Stop}
use Rattle.pw_interp_calls.specs.declared.ending.Stop.TheVariants as S
use Rattle.pw_interp_calls.specs.Answers.{Answers}
use Rattle.pw_interp_calls.proofs.AnswerLaws.{then_ok, gives}

module _ (world : World) (at : Site) (k : ℕ) (v : Value) (e : Env) (w : Shown) where
  -- behind the local's declaration
  abbrev behind_local : LocalValue → Act (Unit {0})
  behind_local l = local_place e k >>= λ place. put Initialising at (records_of e) (type_of l.ty) place v

  pub local_none : slice_get e.locals k ≡ None → Answers {B = Unit {0}} (λ d. tt) world (set_local at k v e) w (Err (S.Ended E.Wrong)) w
  unfolding set_local need wrong
  local_none is =
      subst (λ o. Answers {B = Unit {0}} (λ d. tt) world (need o >>= behind_local) w (Err (S.Ended E.Wrong)) w) (sym is)
      (record { given = tt; stopped = ends world (stop Wrong) behind_local w w Wrong (stopped world Wrong w) })

  pub local_some : (l : LocalValue) (u : Shown) (r : Result (Unit {0}) Stop) → slice_get e.locals k ≡ Some l → Answers (λ d. tt) world (behind_local l) w r u → Answers (λ d. tt) world (set_local at k v e) w r u
  unfolding set_local need
  local_some l u r is a =
      subst (λ o. Answers (λ d. tt) world (need o >>= behind_local) w r u) (sym is)
      (then_ok {seen = λ (x : LocalValue). x} behind_local (gives l) refl a)
