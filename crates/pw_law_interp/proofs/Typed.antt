-- The modules that `interp` runs are those of the program of the texts.
use Rattle.std.specs.Prelude.{ℕ, ◌≡◌, ◌↔◌, List, [], ◌∷◌, Ok}
use Rattle.pw_types.specs.TypedTrees.{ModuleValue}
use Rattle.pw_tree.specs.Trees.{Module}
use Rattle.pw_front_end.specs.Fronts.{HasTree}
use Rattle.pw_check_rules.specs.Checks.{Checks}
use Rattle.pw_store_modules.specs.Modules.{Source}
use Rattle.pw_cmean.specs.Worlds.{ProgramModule}
use Rattle.pw_phase_one.specs.FirstPhase.{typed_text}
use Rattle.pw_commands_interp.specs.Interpreting.{AreTyped}
use Rattle.pw_law_whole.specs.Programs.{AreModulesOf}

-- a text has a typed tree exactly where checking answers it for the text's tree
abbrev pub TypedExactly : Type 0
TypedExactly = (text : List ℕ) (typed : ModuleValue) → (typed_text text ≡ Ok typed) ↔ ((tree : Module) × HasTree text tree × Checks tree (Ok typed))

pub are_modules : TypedExactly → (sources : List Source) (ms : List ProgramModule) → AreTyped sources ms → AreModulesOf sources ms
are_modules exact [] [] are = tt
are_modules exact [] (m ∷ ms) are = absurd are
are_modules exact (source ∷ sources) [] are = absurd are
are_modules exact (source ∷ sources) (m ∷ ms) are =
    let has = (exact source.1 m.tree).0 are.1 in
    (record { name = are.0; tree = has.0; has_tree = has.1; checks = has.2 }, are_modules exact sources ms are.2)
