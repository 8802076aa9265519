-- From texts to the modules of their program, and to its flow graphs.
use Rattle.std.proofs.Common.{◌≡◌, ◌↔◌, ℕ, List, [], ◌∷◌, map, Option, Some, None, refl, sym, ap, subst, ◌∙◌, inl, inr}
use Rattle.std.specs.Prelude.{Result, Ok, Err}
use Rattle.std.specs.List.{AllByRecursion}
use Rattle.pw_value.specs.declared.fault.LinkFault.{LinkFault}
use Rattle.pw_flow.specs.declared.flow.FlowModule.{FlowModule}
use Rattle.pw_files.proofs.Standing.{Has}
use Rattle.pw_tree.specs.Trees.{Module}
use Rattle.pw_types.specs.TypedTrees.{ModuleValue}
use Rattle.pw_check_rules.specs.Checks.{Checks, checked}
use Rattle.pw_check_walk.specs.declared.constraints.CheckFault.{CheckFault}
use Rattle.pw_front_end.specs.Fronts.{FrontEnd, FrontEndAnswers, front_end_of}
use Rattle.pw_lower.specs.Modules.{lowered}
use Rattle.pw_build.specs.FromPhaseOne.FirstPhase.{Phase, CompilesTo, Compiles, compiled}
use Rattle.pw_object.specs.declared.object.Object.{Object}
use Rattle.pw_store_modules.specs.Modules.{Source}
use Rattle.pw_build_opts.specs.declared.opts.Opts.{Opts}
use Rattle.pw_build_objects.specs.Programs.{Completes, Parts}
use Rattle.pw_build.specs.Builds.{before_others, flows_of, within, limit_passed, BuildsBy, Builds}
use Rattle.pw_build.specs.declared.fault.BuildFault.{BuildFault}
use Rattle.pw_build.specs.declared.fault.BuildFault.TheVariants.{LinkRefused}
use Rattle.pw_cmean.specs.Worlds.{Program, ProgramModule}
use Rattle.pw_law_source.specs.Lowering.{IsChecked}
use Rattle.pw_law_whole.specs.Programs.{flow_of, IsModuleOf, AreModulesOf}

-- ---- what holds of each module

pub names_same : (sources : List Source) (ms : List ProgramModule) → AreModulesOf sources ms → map (λ m. m.name) ms ≡ map (λ source. source.0) sources
names_same [] [] are = refl
names_same [] (m ∷ ms) are = absurd are
names_same (source ∷ sources) [] are = absurd are
names_same (source ∷ sources) (m ∷ ms) (is, more) =
    ap (λ (name : List ℕ). name ∷ map (λ (n : ProgramModule). n.name) ms) is.name
    ∙ ap (λ (names : List (List ℕ)). source.0 ∷ names) (names_same sources ms more)

pub all_checked : (sources : List Source) (ms : List ProgramModule) → AreModulesOf sources ms → (m : ProgramModule) → Has m ms → IsChecked m
all_checked [] [] are m h = absurd h
all_checked [] (n ∷ ms) are m h = absurd are
all_checked (source ∷ sources) [] are m h = absurd h
all_checked (source ∷ sources) (n ∷ ms) (is, more) m (inl e) = subst IsChecked e (record {
  text = source.1;
  tokens = is.has_tree.tokens;
  syntax = is.tree;
  lexed = is.has_tree.shallow.supported.lexed;
  parsed = is.has_tree.reads;
  is = is.checks;
})
all_checked (source ∷ sources) (n ∷ ms) (is, more) m (inr h) = all_checked sources ms more m h

-- ---- texts have one program

same_ok : {X E : Type 0} (r : Result X E) (x y : X) → Ok x ≡ r → Ok y ≡ r → x ≡ y
same_ok r x y p q = cc

same_module : (m n : ProgramModule) → m.name ≡ n.name → m.tree ≡ n.tree → m ≡ n
same_module m n names trees =
    let make : List ℕ → ModuleValue → ProgramModule = λ name tree. record { name = name; tree = tree } in
    ap (λ (name : List ℕ). make name m.tree) names ∙ ap (λ (tree : ModuleValue). make n.name tree) trees

same_program : (p q : Program) → p.modules ≡ q.modules → p ≡ q
same_program p q same = let make : List ProgramModule → Program = λ ms. record { modules = ms } in ap make same

module _ (fronts : (text : List ℕ) (answer : FrontEnd) → FrontEndAnswers text answer ↔ (answer ≡ front_end_of text))
    (checking : (tree : Module) (answer : Result ModuleValue CheckFault) → Checks tree answer ↔ (answer ≡ checked tree)) where
  one_module : (source : Source) (m n : ProgramModule) → IsModuleOf source m → IsModuleOf source n → m ≡ n
  one_module source m n p q =
      let trees : p.tree ≡ q.tree =
      same_ok (front_end_of source.1) p.tree q.tree ((fronts source.1 (Ok p.tree)).0 p.has_tree) ((fronts source.1 (Ok q.tree)).0 q.has_tree) in
      let typed : m.tree ≡ n.tree =
      same_ok (checked q.tree) m.tree n.tree ((checking p.tree (Ok m.tree)).0 p.checks ∙ ap checked trees) ((checking q.tree (Ok n.tree)).0 q.checks) in
      same_module m n (p.name ∙ sym q.name) typed

  same_modules : (sources : List Source) (ms ns : List ProgramModule) → AreModulesOf sources ms → AreModulesOf sources ns → ms ≡ ns
  same_modules [] [] [] p q = refl
  same_modules [] [] (n ∷ ns) p q = absurd q
  same_modules [] (m ∷ ms) ns p q = absurd p
  same_modules (source ∷ sources) [] ns p q = absurd p
  same_modules (source ∷ sources) (m ∷ ms) [] p q = absurd q
  same_modules (source ∷ sources) (m ∷ ms) (n ∷ ns) (p, ps) (q, qs) =
      ap (λ (x : ProgramModule). x ∷ ms) (one_module source m n p q) ∙ ap (λ (xs : List ProgramModule). n ∷ xs) (same_modules sources ms ns ps qs)

  pub one_program : (sources : List Source) (p q : Program) → AreModulesOf sources p.modules → AreModulesOf sources q.modules → p ≡ q
  one_program sources p q are also = same_program p q (same_modules sources p.modules q.modules are also)

-- ---- the first phases

record AreFirst (name : List ℕ) (c : Phase) (others : Result (List FlowModule) BuildFault) : Type 0 where
  flow : FlowModule
  rest : List FlowModule
  first : c ≡ Ok flow
  more : others ≡ Ok rest

first_and_more : (name : List ℕ) (c : Phase) (others : Result (List FlowModule) BuildFault) (flows : List FlowModule) → before_others name c others ≡ Ok flows → AreFirst name c others
first_and_more name (Err refusal) others flows e = absurd cc
first_and_more name (Ok flow) (Err fault) flows e = absurd cc
first_and_more name (Ok flow) (Ok rest) flows e = record { flow = flow; rest = rest; first = refl; more = refl }

module _ (exact : (name text : List ℕ) (answer : Phase) → Compiles name text answer ↔ (answer ≡ compiled name text)) where
  flow_is : (source : Source) (m : ProgramModule) → IsModuleOf source m → compiled source.0 source.1 ≡ Ok (flow_of m)
  flow_is source m is =
      let comes : CompilesTo source.0 source.1 (flow_of m) = record {
        tree = is.tree;
        typed = m.tree;
        has_tree = is.has_tree;
        checks = is.checks;
        is = ap (λ (name : List ℕ). lowered name m.tree) is.name;
      } in
      sym ((exact source.0 source.1 (Ok (flow_of m))).0 comes)

  pub flows_are : (sources : List Source) (ms : List ProgramModule) → AreModulesOf sources ms → flows_of sources ≡ Ok (map flow_of ms)
  flows_are [] [] are = refl
  flows_are [] (m ∷ ms) are = absurd are
  flows_are (source ∷ sources) [] are = absurd are
  flows_are (source ∷ sources) (m ∷ ms) (is, more) =
      ap (λ (c : Phase). before_others source.0 c (flows_of sources)) (flow_is source m is)
      ∙ ap (λ (r : Result (List FlowModule) BuildFault). before_others source.0 (Ok (flow_of m)) r) (flows_are sources ms more)

  -- what holds of each flow graph of the first phase holds of those of a program
  pub flows_each : (P : FlowModule → Type 0) → ((name text : List ℕ) (flow : FlowModule) → compiled name text ≡ Ok flow → P flow) → (sources : List Source) (ms : List ProgramModule) → AreModulesOf sources ms → AllByRecursion P (map flow_of ms)
  flows_each P each [] [] are = tt
  flows_each P each [] (m ∷ ms) are = absurd are
  flows_each P each (source ∷ sources) [] are = absurd are
  flows_each P each (source ∷ sources) (m ∷ ms) (is, more) = (each source.0 source.1 (flow_of m) (flow_is source m is), flows_each P each sources ms more)

  pub modules_from : (sources : List Source) (flows : List FlowModule) → flows_of sources ≡ Ok flows → (ms : List ProgramModule) × AreModulesOf sources ms
  modules_from [] flows e = ([], tt)
  modules_from (source ∷ sources) flows e =
      let p = first_and_more source.0 (compiled source.0 source.1) (flows_of sources) flows e in
      let comes : CompilesTo source.0 source.1 p.flow = (exact source.0 source.1 (Ok p.flow)).1 (sym p.first) in
      let behind = modules_from sources p.rest p.more in
      let m : ProgramModule = record { name = source.0; tree = comes.typed } in
      (m ∷ behind.0, (record { name = refl; tree = comes.tree; has_tree = comes.has_tree; checks = comes.checks }, behind.1))

-- ---- the build

no_parts : (parts : Parts) (fault : BuildFault) → Ok parts ≡ Err fault → ⊥
no_parts parts fault e = cc

-- a build that gives parts has the flow graphs of all modules
pub flows_within : (o : Option LinkFault) (r : Result (List FlowModule) BuildFault) (kept : List (Option Object)) (opts : Opts) (parts : Parts) →
    BuildsBy (within o r) kept opts (Ok parts) → (flows : List FlowModule) × (r ≡ Ok flows) × Completes flows kept opts (Ok parts)
flows_within (Some fault) r kept opts parts b = absurd (no_parts parts (LinkRefused fault) b)
flows_within None (Err fault) kept opts parts b = absurd (no_parts parts fault b)
flows_within None (Ok flows) kept opts parts b = (flows, refl, b)

pub completes_with : (sources : List Source) (flows : List FlowModule) (opts : Opts) (parts : Parts) → flows_of sources ≡ Ok flows →
    Builds sources [] opts (Ok parts) → Completes flows [] opts (Ok parts)
completes_with sources flows opts parts e b =
    let p = flows_within (limit_passed sources) (flows_of sources) [] opts parts b in
    subst (λ (fs : List FlowModule). Completes fs [] opts (Ok parts)) (same_ok (flows_of sources) p.0 flows (sym p.1) (sym e)) p.2
