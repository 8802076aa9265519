-- The arguments of a call, put into the parameters.
use Rattle.std.proofs.Common.{ℕ, suc, ◌+◌, ◌≡◌, ◌<◌, ◌≤◌, sym, ap, ◌∙◌, add-one, length, drop, get_or, List}
use Rattle.std.proofs.lemmas.List.{at_drop_more, at_drop_all}
use Rattle.pw_value.specs.declared.value.Value.{Value}
use Rattle.pw_cmean.specs.Acts.{Site, give, ◌>>◌}
use Rattle.pw_cmean.specs.Evaluation.{Env}
use Rattle.pw_cmean.specs.Execution.{set_local}
use Rattle.pw_cmean.specs.SourceRun.{set_parameters}

pub parameters_at : (at : Site) (e : Env) (args : List Value) (i k : ℕ) (v : Value) → i < length args → k ≡ i → v ≡ get_or args i v
    → set_parameters at i (drop i args) e ≡ (set_local at k v e >> set_parameters at (i + 1) (drop (i + 1) args) e)
unfolding set_parameters
parameters_at at e args i k v within same is =
    at_drop_more (λ vs. set_parameters at i vs e) args i v within
    ∙ ap (λ x. set_local at i x e >> set_parameters at (suc i) (drop (i + 1) args) e) (sym is)
    ∙ ap (λ n. set_local at i v e >> set_parameters at n (drop (i + 1) args) e) (sym (add-one i))
    ∙ ap (λ n. set_local at n v e >> set_parameters at (i + 1) (drop (i + 1) args) e) (sym same)

pub parameters_past : (at : Site) (e : Env) (args : List Value) (i k : ℕ) → length args ≤ i → set_parameters at k (drop i args) e ≡ give tt
unfolding set_parameters
parameters_past at e args i k past = at_drop_all (λ vs. set_parameters at k vs e) args i past
