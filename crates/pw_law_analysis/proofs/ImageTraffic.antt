-- The law of traffic goes from a covered global to each of those of which it is to speak.
use Rattle.std.specs.Prelude.{ℕ, List, [], ◌∷◌}
use Rattle.pw_db.specs.declared.database.Directives.{Directives}
use Rattle.pw_run_languages.specs.Traces.{Event, Called, Refused, Returned, Loaded, Stored}
use Rattle.pw_run_languages.specs.Traffic.{Open, active, ObeysFor, ObeysTrafficFor}

fewer : {B V : Type 0} (P Q : List ℕ → Type 0) (d : List (List ℕ × Directives)) → ((v : List ℕ) → Q v → P v)
    → (e : Event B V) (calls : List (Open B V)) → ObeysFor P d e calls → ObeysFor Q d e calls
fewer P Q d from (Called f gs rs) calls o = λ v q. o v (from v q)
fewer P Q d from (Refused f) calls o = λ v q. o v (from v q)
fewer P Q d from (Returned f k gs rs ss) calls o = tt
fewer P Q d from (Loaded v) calls o = λ q. o (from v q)
fewer P Q d from (Stored v) calls o = λ q. o (from v q)

-- the law of some globals holds of fewer
pub of_fewer : {B V : Type 0} (P Q : List ℕ → Type 0) (d : List (List ℕ × Directives)) → ((v : List ℕ) → Q v → P v)
    → (l : List (Event B V)) → ObeysTrafficFor P d l → ObeysTrafficFor Q d l
of_fewer P Q d from [] o = tt
of_fewer P Q d from (e ∷ l) o = (fewer P Q d from e (active l) o.0, of_fewer P Q d from l o.1)
