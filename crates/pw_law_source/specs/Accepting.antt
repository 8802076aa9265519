-- What acceptance of texts owes: modules that checking and linking accept make an accepted program.
use Rattle.std.specs.Prelude.{ℕ, ◌≡◌, ◌≢◌, ◌≤◌, ◌↔◌, ◌==◌, not, All, Some, List, [], ◌∷◌, map, filter, slice_get, Contains}
use Rattle.std.specs.List.{AllByRecursion, list_any}
use Rattle.pw_value.specs.Limits.{stack_limit}
use Rattle.pw_files.specs.Rising.{IsRising}
use Rattle.pw_types.specs.TypeTrees.{type_of}
use Rattle.pw_types.specs.TypedTrees.{Initialiser, Value, Bytes, Statement, Arms, Otherwise, Statements, LocalValue, FunctionValue}
use Rattle.pw_types.specs.Collected.{collected, collected_among, collected_of_arms, collected_behind}
use Rattle.pw_types.specs.Labels.{labels_in, cases_in}
use Rattle.pw_types.specs.WellTyped.{IsScalar}
use Rattle.pw_flow.specs.declared.flow.Item.TheVariants.{Address}
use Rattle.pw_flow.specs.declared.flow.FlowGlobal.{FlowGlobal}
use Rattle.pw_flow.specs.declared.flow.FlowModule.{FlowModule}
use Rattle.pw_flow.specs.FlowGraph.{function_names, named_in}
use Rattle.pw_object.specs.declared.object.Object.{Object}
use Rattle.pw_object.specs.Object as object
use Rattle.pw_link_interface.specs.Interface.{interface}
use Rattle.pw_link_rules.specs.Linking.{Links}
use Rattle.pw_cmean.specs.Worlds.{Program, ProgramModule}
use Rattle.pw_run_languages.specs.Programs as flows
use Rattle.pw_run_languages.specs.Programs.{globals_of}
use Rattle.pw_run_languages.specs.LinkingLaws.{AreNamesApart}
use Rattle.pw_law_source.specs.Lowering.{flow_program, IsAccepted, AreChecked, HaveParts}

-- ---- what checking makes of a function, beyond what is well typed

-- the initialisers of locals that stand in a statement, in the order of the text
abbrev pub no_own : Statement → List Initialiser → List Initialiser
no_own s rest = rest

abbrev pub themselves : List Initialiser → List Initialiser
themselves initialisers = initialisers

abbrev pub initialisers_in : Statement → List Initialiser
initialisers_in s = collected no_own themselves s

abbrev pub initialisers_among : Statements → List Initialiser
initialisers_among all = collected_among no_own themselves all

abbrev pub initialisers_of_arms : Arms → List Initialiser
initialisers_of_arms arms = collected_of_arms no_own themselves arms

abbrev pub initialisers_behind : Otherwise → List Initialiser
initialisers_behind otherwise = collected_behind no_own themselves otherwise

-- a hidden object gives its bytes to no scalar (6.5.7)
abbrev pub SuitsLocal : List LocalValue → Initialiser → Type 0
SuitsLocal locals (Value k e) = Unit {0}
SuitsLocal locals (Bytes k hidden parts) = (l : LocalValue) → slice_get locals k ≡ Some l → ¬ IsScalar (type_of l.ty)

-- The labels that a `goto` can name are those of the body that are no case's, in the order of the text.
pub record IsFormed (f : FunctionValue) : Type 0 where
  pub initialisers : All (SuitsLocal f.locals) (initialisers_in f.body)
  pub named : f.named ≡ filter (λ l. not (list_any (λ c. c == l) (cases_in f.body))) (labels_in f.body)

abbrev pub AreFormed : Program → Type 0
AreFormed p = (m : ProgramModule) (f : FunctionValue) → Contains p.modules m → Contains m.tree.functions f → IsFormed f

-- an address in an object's initialiser leads into the object that it names, or directly behind it
abbrev pub LeadInside : flows.Program → Type 0
LeadInside p =
    (g h : FlowGlobal) (at offset : ℕ) → Contains (globals_of p) g → Contains (globals_of p) h →
    Contains g.items (at, Address h.name offset) → offset ≤ h.size

-- ---- the law

-- an object shows to linking what its module has
pub record Shows (m : FlowModule) (o : Object) : Type 0 where
  pub name : o.module ≡ m.name
  pub functions : object.function_names o ≡ function_names m
  pub globals : o.globals ≡ m.globals
  pub declared : (d : List ℕ × List ℕ) → Contains m.declared d ↔ Contains o.declared d
  pub used : (name : List ℕ) → Contains (named_in m) name → Contains o.used name

abbrev pub AllShow : List FlowModule → List Object → Type 0
AllShow [] [] = Unit {0}
AllShow (m ∷ ms) (o ∷ os) = Shows m o × AllShow ms os
AllShow ms os = ⊥

-- what is accepted, with all that built programs want of it
pub record IsWhole (p : Program) (frame_of : List ℕ → ℕ) (stack : ℕ) : Type 0 where
  pub accepted : IsAccepted p frame_of stack
  pub parts : HaveParts p
  pub formed : AreFormed p
  pub inside : LeadInside (flow_program p frame_of stack)
  pub names : AreNamesApart (flow_program p frame_of stack)

-- No module has a colon in its name, as no module of a store has: in the full name of what a module has for itself, one
-- stands between the two.
abbrev pub HasNoColon : List ℕ → Type 0
HasNoColon name = AllByRecursion (λ b. b ≢ 58) name

abbrev pub AreNamedPlainly : Program → Type 0
AreNamedPlainly p = (m : ProgramModule) → Contains p.modules m → HasNoColon m.name

-- checked modules in the order of their names, whose objects link, with a stack that may be asked for
abbrev pub CheckedIsAccepted : Type 0
CheckedIsAccepted =
    (p : Program) (frame_of : List ℕ → ℕ) (stack : ℕ) (objects : List Object) →
    AreChecked p → AreNamedPlainly p → IsRising (map (λ m. m.name) p.modules) → stack ≤ stack_limit →
    AllShow (flow_program p frame_of stack).modules objects → Links (map interface objects) → IsWhole p frame_of stack
