-- The places that allocation gives the functions of a lawful program are lawful.
use Rattle.std.proofs.Common.{ℕ, List, [], ◌∷◌, map, refl, inl, inr}
use Rattle.std.specs.List.{AllByRecursion}
use Rattle.pw_files.proofs.Standing.{Has}
use Rattle.pw_db.specs.declared.database.Directives.{Directives}
use Rattle.pw_db.specs.Database.{IsDirectives}
use Rattle.pw_flow.specs.declared.flow.FlowFn.{FlowFn}
use Rattle.pw_flow.specs.ValidFlow.{IsFunction}
use Rattle.pw_webflow.specs.declared.web.WebFn.{WebFn}
use Rattle.pw_webflow.specs.ValidWebs.{IsWebFn}
use Rattle.pw_webflow.proofs.DirectionLaws.{directed_lawful}
use Rattle.pw_alloc.specs.ValidPlaces.{IsLocated}
use Rattle.pw_alloc_temps.specs.Temporaries.{allocated}
use Rattle.pw_run_languages.specs.Direction.{directed_by, directives_of}
use Rattle.pw_law_selection.proofs.Given.{directives_lawful}

pub all_located : (db : List (List ℕ × Directives)) → AllByRecursion (λ f. IsDirectives f.1) db → ((f : WebFn) → IsWebFn f → IsLocated (allocated f)) → (fs : List FlowFn) → ((f : FlowFn) → Has f fs → IsFunction f)
    → AllByRecursion IsLocated (map allocated (map (directed_by db) fs))
all_located db lawful law [] each = tt
all_located db lawful law (f ∷ fs) each = (
  law (directed_by db f) (directed_lawful f (directives_of db f.name) (each f (inl refl)) (directives_lawful db f.name lawful)),
  all_located db lawful law fs (λ g h. each g (inr h)),
)
