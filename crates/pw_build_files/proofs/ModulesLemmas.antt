-- The fault where the modules of a store are not told: there are too many, or the store had one.
use Rattle.std.proofs.Common.{Result, ◌≡◌, ◌∙◌, ℕ, ◌<◌, ◌≤◌, Bool, true, cond, List, length, map, Option, Some, None, Ok, Err, sym, ap, subst, arith}
use Rattle.std.proofs.lemmas.Bool.Decides.{nat_tests}
use Rattle.pw_build.specs.declared.fault.Unbuilt.{Unbuilt}
use Rattle.std.specs.Prelude.{IfErr, IfSome, nat_lt}
use Rattle.std.specs.Global.{Vec}
use Rattle.pw_io.specs.Files.{Files, Told}
use Rattle.pw_io.specs.declared.StoreError.TheVariants as store
use Rattle.pw_value.specs.Limits.{module_limit}
use Rattle.pw_value.specs.declared.fault.LinkFault.{LinkFault}
use Rattle.pw_value.specs.declared.fault.LinkFault.TheVariants as link
use Rattle.pw_value.specs.declared.fault.What.TheVariants.{Modules}
use Rattle.pw_store_modules.specs.Few.{HasFaultCause}
use Rattle.pw_store_modules.specs.Modules.{Source, modules_of}
use Rattle.pw_store_modules.specs.Views.{source}
use Rattle.pw_store_modules.specs.declared.modules.Module.{Module}
use Rattle.pw_store_texts.specs.Seen.{AnswersSeen}
use Rattle.pw_store_modules.specs.declared.few.ModulesFault.{ModulesFault}
use Rattle.pw_store_modules.specs.declared.few.ModulesFault.TheVariants as modules
use Rattle.pw_top_answer.specs.Outcomes.{StoreCount}
use Rattle.pw_build.specs.declared.fault.BuildFault.{BuildFault}
use Rattle.pw_build.specs.declared.fault.BuildFault.TheVariants as build
use Rattle.pw_build.specs.Builds.{flows_of, within}
use Rattle.pw_build.specs.Phases.{IsLine}
use Rattle.pw_build.specs.Stores.{modules_fault}
use Rattle.pw_build_files.specs.Programs.{IsNoWant, fault_answer}
use Rattle.pw_build_files.specs.Seen.{SeesFault, SeesModules}
use Rattle.pw_build_files.proofs.WantLemmas.{many_no_want}

no_want_by : (fault : ModulesFault) → IsNoWant (modules_fault fault)
no_want_by (modules.TooMany count) = many_no_want Modules count
no_want_by (modules.Store store.Failed) = tt
no_want_by (modules.Store store.NoMemory) = tt

pub modules_no_want : (fault : ModulesFault) (other : BuildFault) → other ≡ modules_fault fault → IsNoWant other
modules_no_want fault other e = subst IsNoWant (sym e) (no_want_by fault)

line_by : (due : Option ℕ) (fault : ModulesFault) (line : Option ℕ) → IsLine due (modules_fault fault) line
line_by due (modules.TooMany count) line = tt
line_by due (modules.Store store.Failed) line = tt
line_by due (modules.Store store.NoMemory) line = tt

pub modules_line : (due : Option ℕ) (fault : ModulesFault) (other : BuildFault) (line : Option ℕ) → other ≡ modules_fault fault → IsLine due other line
modules_line due fault other line e = subst (λ (f : BuildFault). IsLine due f line) (sym e) (line_by due fault line)

count_by : (before now : ℕ) (fault : ModulesFault) → HasFaultCause before now fault → StoreCount before now (fault_answer (modules_fault fault))
count_by before now (modules.TooMany count) h = h
count_by before now (modules.Store store.Failed) h = h
count_by before now (modules.Store store.NoMemory) h = h

pub modules_count : (before now : ℕ) (fault : ModulesFault) (other : BuildFault) → HasFaultCause before now fault → other ≡ modules_fault fault → StoreCount before now (fault_answer other)
modules_count before now fault other h e = subst (λ (f : BuildFault). StoreCount before now (fault_answer f)) (sym e) (count_by before now fault h)

-- ---- too many

passed : (n : ℕ) → module_limit < n → nat_lt module_limit n ≡ true
passed n h = grind (arith, nat_tests, h)

passed_by : (sources : List Source) (b : Bool) (other : Option LinkFault) → b ≡ true → within (cond b (Some (link.TooMany Modules (length sources))) other) (flows_of sources) ≡ Err (build.LinkRefused (link.TooMany Modules (length sources)))
passed_by sources b other e = ap (λ (c : Bool). within (cond c (Some (link.TooMany Modules (length sources))) other) (flows_of sources)) e

fault_by : (files : Files) (fault : ModulesFault) → AnswersSeen files (Err fault) → SeesFault files (modules_fault fault)
fault_by files (modules.TooMany many) h =
    let sources : List Source = modules_of h.0 in
    (h.0, h.1, passed_by sources (nat_lt module_limit (length sources)) _ (passed (length sources) (subst (λ (n : ℕ). module_limit < n) h.2 h.3)) ∙ ap (λ (n : ℕ). Err (build.LinkRefused (link.TooMany Modules n))) (sym h.2))
fault_by files (modules.Store store.Failed) h = tt
fault_by files (modules.Store store.NoMemory) h = tt

-- it is what the first phases of the modules come to
pub modules_faults : (first : Option Told) (fault : ModulesFault) (other : BuildFault) → IfSome first (λ t. AnswersSeen t.files (Err fault)) → other ≡ modules_fault fault → IfSome first (λ t. SeesFault t.files other)
modules_faults None fault other h e = tt
modules_faults (Some told) fault other h e = subst (λ (f : BuildFault). SeesFault told.files f) (sym e) (fault_by told.files fault h)

-- those that are told are the modules as a build sees them
pub modules_seen : (first : Option Told) (found : Vec Module) → IfSome first (λ t. AnswersSeen t.files (Ok found)) → IfSome first (λ t. SeesModules t.files (map source found.items))
modules_seen None found h = tt
modules_seen (Some told) found h = (h.0, h.1, h.2)

-- and not too many
pub modules_few : (first : Option Told) (found : Vec Module) → IfSome first (λ t. AnswersSeen t.files (Ok found)) → IfSome first (λ t. length found.items ≤ module_limit)
modules_few None found h = tt
modules_few (Some told) found h = h.3

told_by : (told : Told) (fault : ModulesFault) (result : Result (Vec Module) Unbuilt) → AnswersSeen told.files (Err fault) → IfErr result (λ u. u.fault ≡ modules_fault fault) → IfErr result (λ u. SeesFault told.files u.fault)
told_by told fault (Ok found) h e = tt
told_by told fault (Err unbuilt) h e = modules_faults (Some told) fault unbuilt.fault h e

-- the same of what is answered in its place
pub told_fault : (first : Option Told) (fault : ModulesFault) (result : Result (Vec Module) Unbuilt) → IfSome first (λ t. AnswersSeen t.files (Err fault)) → IfErr result (λ u. u.fault ≡ modules_fault fault) → IfSome first (λ t. IfErr result (λ u. SeesFault t.files u.fault))
told_fault None fault result h e = tt
told_fault (Some told) fault result h e = told_by told fault result h e
