-- The flow graphs of modules that checking accepts and whose objects link make a program.
use Rattle.std.proofs.Common.{◌≡◌, ℕ, ◌≤◌, List, [], ◌∷◌, map, refl, sym, ap, subst, ◌∙◌}
use Rattle.std.specs.Prelude.{Contains}
use Rattle.std.specs.List.{flat_map}
use Rattle.pw_value.specs.Limits.{stack_limit}
use Rattle.pw_value.specs.ProgramNames.{IsOrdinary}
use Rattle.pw_files.specs.Rising.{IsRising}
use Rattle.pw_flow.specs.FlowGraph.{named_in}
use Rattle.pw_flow.specs.ValidFlow.{IsValid}
use Rattle.pw_flow.specs.declared.flow.FlowFn.{FlowFn}
use Rattle.pw_flow.specs.declared.flow.FlowModule.{FlowModule}
use Rattle.pw_flow.specs.declared.flow.Op.{Op}
use Rattle.pw_files.proofs.Standing.{Has, has_by, has_each, each_by, has_map_back, has_flat_back}
use Rattle.pw_lower.specs.Modules.{lowered}
use Rattle.pw_cmean.specs.Worlds.{Program, ProgramModule}
use Rattle.pw_run_languages.specs.Programs.{functions_of}
use Rattle.pw_run_languages.specs.LawfulPrograms.{IsProgram, NamesRightly, ops_of}
use Rattle.pw_law_source.specs.Lowering.{flow_program}
use Rattle.pw_law_accept.specs.Linked.{AreLinked, HaveRightItems}
use Rattle.pw_law_accept.proofs.Modules.{Known}
use Rattle.pw_law_accept.proofs.Programs.{names_distinct, all_defined, starts, starts_with_nothing}

abbrev flow_of : ProgramModule → FlowModule
flow_of m = lowered m.name m.tree

own_name : (m : ProgramModule) → (flow_of m).name ≡ m.name
unfolding lowered
own_name m = refl

same_names : (ms : List ProgramModule) → map (λ (n : FlowModule). n.name) (map flow_of ms) ≡ map (λ (m : ProgramModule). m.name) ms
same_names [] = refl
same_names (m ∷ ms) =
    ap (λ (x : List ℕ). x ∷ map (λ (n : FlowModule). n.name) (map flow_of ms)) (own_name m)
    ∙ ap (λ (xs : List (List ℕ)). m.name ∷ xs) (same_names ms)

module _ (p : Program) (frame_of : List ℕ → ℕ) (stack : ℕ) (known : (m : ProgramModule) → Has m p.modules → Known m.tree) (linked : AreLinked (flow_program p frame_of stack).modules) where
  pub makes_program : ((m : ProgramModule) → Has m p.modules → IsValid (flow_of m)) → IsRising (map (λ m. m.name) p.modules) → stack ≤ stack_limit → ((f : FlowFn) (o : Op) → Contains (functions_of (flow_program p frame_of stack)) f → Contains (ops_of f) o → NamesRightly (flow_program p frame_of stack) o) → HaveRightItems (flow_program p frame_of stack) → IsProgram (flow_program p frame_of stack)
  makes_program valid rising room ops items = record {
    modules = each_by IsValid (flow_program p frame_of stack).modules of_valid;
    order = subst (λ (ns : List (List ℕ)). IsRising ns) (sym (same_names p.modules)) rising;
    names = names_distinct p frame_of stack known linked;
    defined = λ name c. let h = has_by name (flat_map named_in (flow_program p frame_of stack).modules) c in all_defined p frame_of stack known linked name (ordinary name h) h;
    ops = ops;
    items = items;
    start = starts p frame_of stack known linked;
    start_takes_nothing = λ f h e. starts_with_nothing p frame_of stack known linked f (has_by f (functions_of (flow_program p frame_of stack)) h) e;
    stack = room;
  }
    where
      of_valid : (n : FlowModule) → Has n (flow_program p frame_of stack).modules → IsValid n
      of_valid n h = let m = has_map_back flow_of n p.modules h in subst IsValid m.2 (valid m.0 m.1)

      ordinary : (name : List ℕ) → Has name (flat_map named_in (flow_program p frame_of stack).modules) → IsOrdinary name
      ordinary name h = let n = has_flat_back named_in name (flow_program p frame_of stack).modules h in has_each IsOrdinary (named_in n.0) name (of_valid n.0 n.1).parts.ordinary n.2
