-- The laws, from what holds of all that the walks make.
use Rattle.std.specs.Prelude.{All, List, Ok, refl, AllPairs, ◌≢◌}
use Rattle.pw_tree.specs.Trees.{Expr, Module}
use Rattle.pw_types.specs.Records.{IsLaid, IsObjectType}
use Rattle.pw_types.specs.TypedModules.{IsDeclaredIfExternal}
use Rattle.pw_types.specs.TypeTrees.{type_of}
use Rattle.pw_check_rules.specs.Checks.{Checks, checking}
use Rattle.pw_law_checked.proofs.Modules.{IsSound, checking_sound}
use Rattle.pw_types.specs.TypedTrees.{LocalValue, ModuleValue}
use Rattle.pw_types.specs.WellTyped.{IsKnownType, IsTyped}
use Rattle.pw_check_walk.specs.Answers.{Answers}
use Rattle.pw_check_rules.specs.Operands.{Operand}
use Rattle.pw_check_rules.specs.Phrases.{expr_rule}
use Rattle.pw_check_rules.specs.States.{State, start}
use Rattle.pw_law_checked.specs.Lawful.{AreWords, Denotes, IsLawful}
use Rattle.pw_law_checked.proofs.Walking.{post_end}
use Rattle.pw_law_checked.proofs.Lists.{never_some}
use Rattle.pw_law_checked.proofs.States.{Fine, Grows}
use Rattle.pw_law_checked.proofs.Phrases.{expr_post}

pub start_lawful : IsLawful start
start_lawful = record {
  contents = λ n c e. never_some e;
  begun = λ n c e. never_some e;
  counted = refl;
  entities = λ k e h. never_some h;
  tags = λ i t h. never_some h;
  linked = λ i l h. never_some h;
  laid = λ n c e. never_some e;
  apart = λ i j x y e f g. never_some e;
  depths = λ i e h. never_some h;
}

ends : (e : Expr) (s t : State) (a : Operand) → IsLawful s → Answers (expr_rule e s) (Ok (a, t)) → IsLawful t × Grows s t × Fine t a
ends e s t a l h = post_end (expr_rule e s) (a, t) (λ r. IsLawful r.1 × Grows s r.1 × Fine r.1 r.0) h (expr_post e s l)

pub expression_lawful : (e : Expr) (s t : State) (a : Operand) → IsLawful s → Answers (expr_rule e s) (Ok (a, t)) → IsLawful t
expression_lawful e s t a l h = (ends e s t a l h).0

pub expression_typed : (e : Expr) (s t : State) (a : Operand) → IsLawful s → Answers (expr_rule e s) (Ok (a, t))
    → (m : ModuleValue) (locals : List LocalValue) → Denotes t m locals → AreWords a.node → IsTyped m locals a.node
expression_typed e s t a l h m locals d w = ((ends e s t a l h).2 m locals d w).typed

accepted : (tree : Module) (m : ModuleValue) → Checks tree (Ok m) → IsSound m
unfolding checking
accepted tree m h = post_end (checking tree) m IsSound h (checking_sound tree start_lawful)

pub module_laid : (tree : Module) (m : ModuleValue) → Checks tree (Ok m) → IsLaid m.records
module_laid tree m h = (accepted tree m h).laid

pub module_known : (tree : Module) (m : ModuleValue) → Checks tree (Ok m) → All (λ d. IsKnownType m.records (type_of d.ty)) m.declared
module_known tree m h = (accepted tree m h).known

pub module_apart : (tree : Module) (m : ModuleValue) → Checks tree (Ok m) → AllPairs (λ d e. d.name ≢ e.name) m.declared
module_apart tree m h = (accepted tree m h).one_declared

pub module_once : (tree : Module) (m : ModuleValue) → Checks tree (Ok m) → AllPairs (λ f g. f.name ≢ g.name) m.functions
module_once tree m h = (accepted tree m h).one_function

pub module_objects_apart : (tree : Module) (m : ModuleValue) → Checks tree (Ok m) → AllPairs (λ g h. g.name ≢ h.name) m.globals
module_objects_apart tree m h = (accepted tree m h).one_global

pub module_kinds_apart : (tree : Module) (m : ModuleValue) → Checks tree (Ok m) → All (λ g. All (λ f. g.name ≢ f.name) m.functions) m.globals
module_kinds_apart tree m h = (accepted tree m h).one_kind

pub module_functions_declared : (tree : Module) (m : ModuleValue) → Checks tree (Ok m) → All (λ f. IsDeclaredIfExternal m f.name f.ty) m.functions
module_functions_declared tree m h = (accepted tree m h).external

pub module_objects_declared : (tree : Module) (m : ModuleValue) → Checks tree (Ok m) → All (λ g. IsDeclaredIfExternal m g.name g.ty) m.globals
module_objects_declared tree m h = (accepted tree m h).declared

pub module_locals : (tree : Module) (m : ModuleValue) → Checks tree (Ok m)
    → All (λ f. All (λ l. IsObjectType m.records (type_of l.ty) × IsKnownType m.records (type_of l.ty)) f.locals) m.functions
module_locals tree m h = (accepted tree m h).locals
