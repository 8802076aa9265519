-- The parts of what checking promises together: an accepted module is well typed.
use Rattle.std.specs.Prelude.{All, Ok}
use Rattle.pw_tree.specs.Trees.{Module}
use Rattle.pw_types.specs.Records.{IsObjectType}
use Rattle.pw_types.specs.TypeTrees.{type_of}
use Rattle.pw_types.specs.TypedModules.{IsFunction, IsGlobal, WellTyped}
use Rattle.pw_types.specs.TypedTrees.{ModuleValue}
use Rattle.pw_check_rules.specs.Checks.{Checks, checking}
use Rattle.pw_tree.specs.WellFormed.{WellFormedModule}
use Rattle.pw_law_checked.specs.Words.{WordsInStatement, AreWordsInModule, AreShortStrings}
use Rattle.pw_law_checked.proofs.Walking.{post_end}
use Rattle.pw_law_checked.proofs.Bodies.{module_bodies}
use Rattle.pw_law_checked.proofs.FunctionLaws.{module_block, module_labels, module_typed}
use Rattle.pw_law_checked.proofs.Globals.{HasObjects, checking_objects}
use Rattle.pw_law_checked.proofs.Laws.{module_apart, module_functions_declared, module_kinds_apart, module_known, module_laid, module_locals, module_objects_apart, module_objects_declared, module_once, start_lawful}

functions : (tree : Module) (m : ModuleValue) → WellFormedModule tree → Checks tree (Ok m) → All (λ f. WordsInStatement f.body) m.functions → All (IsFunction m) m.functions
functions tree m text h words = λ k d below. record {
  typed = module_typed tree m h k d below;
  locals = module_locals tree m h k d below;
  labels = module_labels tree m h k d below;
  block = module_block tree m h k d below;
  body = module_bodies tree m text h k d below (words k d below);
}

has_objects : (tree : Module) (m : ModuleValue) → Checks tree (Ok m) → HasObjects m
unfolding checking
has_objects tree m h = post_end (checking tree) m HasObjects h (checking_objects tree start_lawful)

pub sizes : (tree : Module) (m : ModuleValue) → Checks tree (Ok m) → AreShortStrings m → All (λ g. IsObjectType m.records (type_of g.ty)) m.globals
sizes tree m h short = (has_objects tree m h).sized short

pub globals : (tree : Module) (m : ModuleValue) → Checks tree (Ok m) → AreWordsInModule m → AreShortStrings m → All (IsGlobal m) m.globals
globals tree m h words short = λ k d below.
    let x = (has_objects tree m h).placed words short k d below in
    record { object = x.0; known = x.1; items = x.2; declared = module_objects_declared tree m h k d below }

pub whole : (tree : Module) (m : ModuleValue) → WellFormedModule tree → Checks tree (Ok m) → AreWordsInModule m → AreShortStrings m → WellTyped m
whole tree m text h words short = record {
  laid = module_laid tree m h;
  known = module_known tree m h;
  globals = globals tree m h words short;
  functions = functions tree m text h words.functions;
  external = module_functions_declared tree m h;
  one_global = module_objects_apart tree m h;
  one_function = module_once tree m h;
  one_kind = module_kinds_apart tree m h;
  one_declared = module_apart tree m h;
}
