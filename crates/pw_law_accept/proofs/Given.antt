-- Each function that a module defines has a name that the text gives.
use Rattle.std.specs.Prelude.{ℕ, ◌≡◌, Bool, true, false, if◌then◌else◌, None, List, slice_get, All, Ok}
use Rattle.std.proofs.Common.{sym, subst}
use Rattle.std.proofs.lemmas.Option.{slice_get-get_or}
use Rattle.pw_tree.specs.Trees.{Module}
use Rattle.pw_tree.specs.WellFormed.{WellFormedModule}
use Rattle.pw_types.specs.TypedTrees.{External, Internal, FunctionValue, ModuleValue}
use Rattle.pw_check_walk.specs.Walks.{Done, bind}
use Rattle.pw_check_rules.specs.Checks.{Checks, checking}
use Rattle.pw_check_rules.specs.Linkage.{symbol_of_linked}
use Rattle.pw_check_rules.specs.Modules.{module_rule, module_in}
use Rattle.pw_check_rules.specs.States.{State, LinkedName, start}
use Rattle.pw_law_checked.proofs.Walking.{Post, post_end, post_bind}
use Rattle.pw_law_checked.proofs.Sound.{Sound}
use Rattle.pw_law_checked.proofs.Texts.{module_text}
use Rattle.pw_law_checked.proofs.Bodies.{IsWhollyStated, module_stated}
use Rattle.pw_law_checked.proofs.Laws.{start_lawful}
use Rattle.pw_law_accept.proofs.Modules.{IsGiven}

linked_given : (l : LinkedName) → IsGiven (symbol_of_linked l)
linked_given l = by l.internal
  where
    by : (b : Bool) → IsGiven (if b then Internal l.name else External l.name)
    by true = tt
    by false = tt

function_given : (t : State) → Sound None t → (i : ℕ) (f : FunctionValue) → slice_get (module_in t).functions i ≡ Rattle.std.specs.Prelude.Some f → IsGiven f.name
function_given t sound i f e =
    let x = sound.functions i f e in
    subst IsGiven (sym x.3) (linked_given x.1)

all_given : (t : State) → Sound None t → All (λ f. IsGiven f.name) (module_in t).functions
all_given t sound = λ k d below. function_given t sound k _ (slice_get-get_or (module_in t).functions k d below)

checking_given : (m : Module) → WellFormedModule m → Post (bind (module_rule m start) (λ r. Done r.0)) (λ v. All (λ f. IsGiven f.name) v.functions)
checking_given m text =
    post_bind (module_rule m start) (λ r. Done r.0) IsWhollyStated (λ v. All (λ f. IsGiven f.name) v.functions)
    (module_stated m start_lawful (module_text m text))
    (λ r h. subst (λ v. All (λ f. IsGiven f.name) v.functions) (sym h.0) (all_given r.1 h.1.1.0))

pub functions_given : (tree : Module) (m : ModuleValue) → WellFormedModule tree → Checks tree (Ok m) → All (λ f. IsGiven f.name) m.functions
unfolding checking
functions_given tree m text h = post_end (checking tree) m (λ v. All (λ f. IsGiven f.name) v.functions) h (checking_given tree text)
