-- The rules of a summary.
use Rattle.std.specs.Prelude.{ℕ, ◌≡◌, ◌<◌, ◌≤◌, ◌^◌, List, length, map, Contains}
use Rattle.std.specs.List.{AllByRecursion}
use Rattle.pw_value.specs.ProgramNames.{start_name, KeepsStart}
use Rattle.pw_summary.specs.declared.summary.Uses.{Uses}
use Rattle.pw_summary.specs.declared.summary.Defined.{Defined}
use Rattle.pw_summary.specs.declared.summary.Used.{Used}
use Rattle.pw_summary.specs.declared.summary.Summary.{Summary}
use Rattle.pw_files.specs.Rising.{IsRising}

-- ---- the parts

-- what a module defines and declares, with what it uses
abbrev pub whole_summary : ℕ → List ℕ → Defined → Used → Summary
whole_summary version name d u = record { version = version; «module» = name; globals = d.globals; functions = d.functions; declared = d.declared; used = u.used; taken = u.taken; escaped = u.escaped; uses = u.uses }

-- ---- the rules

abbrev pub global_names : Summary → List (List ℕ)
global_names s = map (λ g. g.0) s.globals

abbrev pub function_names : Summary → List (List ℕ)
function_names s = map (λ f. f.0) s.functions

-- what a weight is below
abbrev pub weight_bound : ℕ
weight_bound = 2 ^ 32

-- what a function's need is at most
abbrev pub need_limit : ℕ
need_limit = 4

pub record IsUses (u : Uses) : Type 0 where
  pub calls : IsRising u.calls
  pub no_call : ¬ Contains u.calls start_name
  pub shapes : IsRising u.shapes
  pub refs : IsRising (map (λ r. r.0) u.refs)
  pub weights : AllByRecursion (λ r. (r.1 < weight_bound) × (r.2 < weight_bound)) u.refs
  pub need : u.need ≤ need_limit

-- each list is in byte order without repeats, and each function has its uses
pub record IsSummary (s : Summary) : Type 0 where
  pub globals : IsRising (global_names s)
  pub functions : IsRising (function_names s)
  pub declared : IsRising (map (λ f. f.0) s.declared)
  pub used : IsRising s.used
  pub taken : IsRising (map (λ f. f.0) s.taken)
  pub not_taken : ¬ Contains (map (λ f. f.0) s.taken) start_name
  pub escaped : IsRising s.escaped
  pub uses : AllByRecursion IsUses s.uses
  pub each_uses : length s.uses ≡ length s.functions
  pub start : KeepsStart (function_names s) (global_names s)

-- ---- the kind and the versions of its file

-- PAWS
abbrev pub kind : ℕ
kind = 0x50415753

-- the versions: in the first no function needs registers
abbrev pub first_version : ℕ
first_version = 1

abbrev pub summary_version : ℕ
summary_version = 2

pub record IsVersioned (s : Summary) : Type 0 where
  pub not_below : first_version ≤ s.version
  pub not_above : s.version ≤ summary_version
  pub summary : IsSummary s
  pub needless : s.version ≡ first_version → AllByRecursion (λ u. u.need ≡ 0) s.uses
