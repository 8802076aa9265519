-- The first phase: from a module's text to its flow graph, or to its first refusal.
use Rattle.std.specs.Prelude.{◌≡◌, ℕ, List, Result, Ok, Err}
use Rattle.pw_tree.specs.Trees.{Module}
use Rattle.pw_front_end.specs.Fronts.{FrontEnd, FrontEndAnswers, HasTree, front_end_of}
use Rattle.pw_front_end.specs.declared.refusal.FrontEndFault.{FrontEndFault}
use Rattle.pw_front_end.specs.declared.refusal.FrontEndFault.TheVariants.{Refused, NoMemory}
use Rattle.pw_front_end.specs.declared.refusal.Refusal.{Refusal}
use Rattle.pw_front_end.specs.declared.refusal.Refusal.TheVariants.{Check}
use Rattle.pw_check_walk.specs.declared.constraints.CheckFault.{CheckFault}
use Rattle.pw_check_walk.specs.declared.constraints.CheckKind.{CheckKind}
use Rattle.pw_check_walk.specs.declared.constraints.CheckKind.TheVariants as check
use Rattle.pw_check_rules.specs.Checks.{Checks, checked}
use Rattle.pw_types.specs.TypedTrees.{ModuleValue}
use Rattle.pw_flow.specs.declared.flow.FlowModule.{FlowModule}
use Rattle.pw_lower.specs.Modules.{lowered}

-- what the first phase answers
abbrev pub Phase : Type 0
Phase = Result FlowModule Refusal

-- A module of this name and text comes to this flow graph: that of the typed tree of the text's tree.
pub record CompilesTo (name text : List ℕ) (flow : FlowModule) : Type 0 where
  pub tree : Module
  pub typed : ModuleValue
  pub has_tree : HasTree text tree
  pub checks : Checks tree (Ok typed)
  pub is : flow ≡ lowered name typed

-- The text has a tree, and checking finds this fault.
pub record IsFaulty (text : List ℕ) (fault : CheckFault) : Type 0 where
  pub tree : Module
  pub has_tree : HasTree text tree
  pub checks : Checks tree (Err fault)

-- a module's one answer: the first of lexing, left-out tokens, depth, syntax and checking that has a fault tells it
abbrev pub Compiles : List ℕ → List ℕ → Phase → Type 0
Compiles name text (Ok flow) = CompilesTo name text flow
Compiles name text (Err (Check fault)) = IsFaulty text fault
Compiles name text (Err refusal) = FrontEndAnswers text (Err refusal)

-- ---- the typed tree

-- what checking answers, as the first phase tells it
abbrev pub told : Result ModuleValue CheckFault → Result ModuleValue Refusal
told (Ok typed) = Ok typed
told (Err fault) = Err (Check fault)

abbrev pub typed_by : FrontEnd → Result ModuleValue Refusal
typed_by (Err refusal) = Err refusal
typed_by (Ok tree) = told (checked tree)

-- the typed tree of a text, or the first refusal
unfoldable pub typed_text : List ℕ → Result ModuleValue Refusal
typed_text text = typed_by (front_end_of text)

-- ---- the answer as a function, which the public law `phase_one_is_exact` ties to the relation

abbrev pub by_checking : List ℕ → Result ModuleValue CheckFault → Phase
by_checking name (Err fault) = Err (Check fault)
by_checking name (Ok typed) = Ok (lowered name typed)

abbrev pub by_front_end : List ℕ → FrontEnd → Phase
by_front_end name (Err refusal) = Err refusal
by_front_end name (Ok tree) = by_checking name (checked tree)

unfoldable pub compiled : List ℕ → List ℕ → Phase
compiled name text = by_front_end name (front_end_of text)

-- ---- what a call gives

-- this answer, or memory ran out
abbrev pub AnswersPhaseOne : {V W : Type 0} → (V → W) → Result W Refusal → Result V FrontEndFault → Type 0
AnswersPhaseOne view wanted (Ok v) = wanted ≡ Ok (view v)
AnswersPhaseOne view wanted (Err (Refused refusal)) = wanted ≡ Err refusal
AnswersPhaseOne view wanted (Err NoMemory) = Unit {0}

-- a fault of checking, as the first phase tells it
abbrev pub told_kind : CheckKind → CheckFault → FrontEndFault
told_kind check.NoMemory fault = NoMemory
told_kind kind fault = Refused (Check fault)

abbrev pub error_of : CheckFault → FrontEndFault
error_of fault = told_kind fault.kind fault
