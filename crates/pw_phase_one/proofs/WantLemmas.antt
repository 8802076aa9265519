-- No refusal is for want of memory.
use Rattle.std.proofs.Common.{◌≡◌, ℕ, List, Ok, Err, sym, ap, ◌∙◌}
use Rattle.std.specs.Prelude.{◌↔◌, ◌≢◌}
use Rattle.pw_front_end.specs.Fronts.{FrontEnd, FrontEndAnswers, HoldsNoWant, front_end_of}
use Rattle.pw_front_end.specs.declared.refusal.Refusal.{Refusal}
use Rattle.pw_front_end.specs.declared.refusal.Refusal.TheVariants.{Lex, Unsupported, Parse, Check}
use Rattle.pw_phase_one.specs.FirstPhase.{Compiles, Phase, compiled}
use Rattle.pw_check_walk.specs.declared.constraints.CheckFault.{CheckFault}
use Rattle.pw_check_walk.specs.declared.constraints.CheckKind.TheVariants.{NoMemory}
use Rattle.pw_check_walk.specs.Causes.{Constraint, DeclaredIdentifier, Within, kind_of}
use Rattle.pw_check_walk.specs.Walks.{Walk}
use Rattle.pw_check_walk.specs.Answers.{Stops, AtPoint, AtEnd}

-- ---- a constraint that is broken is no want of memory

kind_no_want : (constraint : Constraint) → kind_of constraint ≢ NoMemory
kind_no_want DeclaredIdentifier = λ e. cc
kind_no_want (Within limit count) = λ e. cc
kind_no_want _ = λ e. cc

stops_no_want : {A : Type 0} (w : Walk A) (fault : CheckFault) → Stops w fault → fault.kind ≢ NoMemory
stops_no_want w fault (AtPoint h) = λ e. kind_no_want h.told.cause.constraint (sym (ap (λ (f : CheckFault). f.kind) h.told.told) ∙ e)
stops_no_want w fault (AtEnd h) = λ e. kind_no_want h.constraint (sym (ap (λ (f : CheckFault). f.kind) h.told) ∙ e)

-- ---- nor is what the first phase refuses

-- what the public laws of the first phase and of the front say
pub record Laws : Type 0 where
  pub phase : (name text : List ℕ) (answer : Phase) → Compiles name text answer ↔ (answer ≡ compiled name text)
  pub front : (text : List ℕ) (answer : FrontEnd) → FrontEndAnswers text answer ↔ (answer ≡ front_end_of text)
  pub no_want : (text : List ℕ) (refusal : Refusal) → front_end_of text ≡ Err refusal → HoldsNoWant refusal

fronts_no_want : Laws → (text : List ℕ) (refusal : Refusal) → FrontEndAnswers text (Err refusal) → HoldsNoWant refusal
fronts_no_want laws text refusal h = laws.no_want text refusal (sym ((laws.front text (Err refusal)).0 h))

compiles_no_want : Laws → (name text : List ℕ) (refusal : Refusal) → Compiles name text (Err refusal) → HoldsNoWant refusal
compiles_no_want laws name text (Check fault) h = stops_no_want _ fault h.checks
compiles_no_want laws name text (Lex fault) h = fronts_no_want laws text (Lex fault) h
compiles_no_want laws name text (Unsupported token feature) h = fronts_no_want laws text (Unsupported token feature) h
compiles_no_want laws name text (Parse fault) h = fronts_no_want laws text (Parse fault) h

pub refused_no_want : Laws → (name text : List ℕ) (refusal : Refusal) → compiled name text ≡ Err refusal → HoldsNoWant refusal
refused_no_want laws name text refusal e = compiles_no_want laws name text refusal ((laws.phase name text (Err refusal)).1 (sym e))
