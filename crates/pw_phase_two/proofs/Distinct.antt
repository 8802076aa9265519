-- The functions of a lawful module have names of their own.
use Rattle.std.proofs.Common.{◌≢◌, List, ℕ, [], ◌∷◌, map, sym}
use Rattle.std.specs.List.{AllByRecursion}
use Rattle.pw_flow.specs.declared.flow.FlowModule.{FlowModule}
use Rattle.pw_flow.specs.FlowGraph.{global_names, function_names}
use Rattle.pw_flow.specs.ValidFlow.{AreDistinct, IsValid}
use Rattle.pw_flow.proofs.Once.{distinct_right}
use Rattle.pw_db.specs.Database.{EachTwo}

turned : (name : List ℕ) (names : List (List ℕ)) → AllByRecursion (λ other. other ≢ name) names → AllByRecursion (λ other. name ≢ other) names
turned name [] h = tt
turned name (n ∷ names) h = ((λ e. h.0 (sym e)), turned name names h.1)

each_two : (names : List (List ℕ)) → AreDistinct names → EachTwo (λ f g. f ≢ g) names
each_two [] h = tt
each_two (n ∷ names) h = (turned n names h.0, each_two names h.1)

pub functions_differ : (m : FlowModule) → IsValid m → EachTwo (λ f g. f ≢ g) (map (λ f. f.name) m.functions)
functions_differ m is = each_two (function_names m) (distinct_right (global_names m) (function_names m) is.names.distinct.defined)
