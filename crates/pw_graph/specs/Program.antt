-- What summaries say of a program: its functions, who calls whom, how many registers each one needs, and which globals are
-- eligible; and the call graph that says the same by places.
use Rattle.std.specs.Prelude.{ℕ, ◌≡◌, ◌<◌, ◌↔◌, Option, Some, None, if◌then◌else◌, false, List, [], ◌∷◌, ◌++◌, length, map, Contains, slice_get}
use Rattle.std.specs.List.{flat_map, AllByRecursion}
use Rattle.std.specs.List.Sorted.{IsStrictlyIncreasing}
use Rattle.pw_value.specs.declared.value.Kind.{Kind}
use Rattle.pw_value.specs.declared.fault.LinkFault.{LinkFault}
use Rattle.pw_files.specs.Rising.{IsRising}
use Rattle.pw_summary.specs.declared.summary.Summary.{Summary}
use Rattle.pw_summary.specs.declared.summary.Uses.{Uses}
use Rattle.std.specs.Str.{bytes_eq}
use Rattle.pw_value.specs.ProgramNames.{main_name}
use Rattle.pw_link_rules.specs.declared.interface.Interface.{Interface}
use Rattle.pw_link_rules.specs.Linking.{library_declarations, Links, Refusal}
use Rattle.pw_graph.specs.declared.graph.CallGraph.{CallGraph}
use Rattle.pw_graph.specs.CallGraph.{Calls, Weighs}

-- ---- modules that make a program

-- the shape of `main`, where it is one of the functions
abbrev pub main_in : List (List ℕ × List ℕ) → Option (List ℕ)
main_in [] = None
main_in (f ∷ fs) = if bytes_eq f.0 main_name then Some f.1 else main_in fs

-- what the summary's module shows to the others
abbrev pub interface_of : Summary → Interface
interface_of s = record { «module» = s.module; functions = map (λ f. f.0) s.functions; globals = map (λ g. g.0) s.globals; declared = s.declared; used = s.used; main = main_in s.functions }

-- the modules make a program, or they break a rule of linking
abbrev pub AreLinked : List Summary → Type 0
AreLinked ss = Links (map interface_of ss)

abbrev pub AreRefused : List Summary → LinkFault → Type 0
AreRefused ss fault = Refusal (map interface_of ss) fault

-- ---- what summaries say

-- all functions with their shapes, the library's included
abbrev pub functions_of : List Summary → List (List ℕ × List ℕ)
functions_of ss = library_declarations ++ flat_map (λ s. s.functions) ss

-- some module defines the function f, which uses this
pub record IsUseOf (ss : List Summary) (f : List ℕ) (u : Uses) : Type 0 where
  pub summary : Summary
  pub stands : Contains ss summary
  pub place : ℕ
  pub shape : List ℕ
  pub at : slice_get summary.functions place ≡ Some (f, shape)
  pub uses : slice_get summary.uses place ≡ Some u

-- some module takes the address of the function, or of the global, in code or data
pub record IsTaken (ss : List Summary) (name : List ℕ) : Type 0 where
  pub summary : Summary
  pub stands : Contains ss summary
  pub taken : Contains (map (λ f. f.0) summary.taken) name

pub record IsEscaped (ss : List Summary) (name : List ℕ) : Type 0 where
  pub summary : Summary
  pub stands : Contains ss summary
  pub escaped : Contains summary.escaped name

-- f calls g: by its name, or perhaps through a value, which may be each function of the call's shape whose
-- address is taken
pub data IsCall (ss : List Summary) (f g : List ℕ) : Type 0 where
  by_name : (u : Uses) → IsUseOf ss f u → Contains u.calls g → IsCall ss f g
  through_value : (u : Uses) (shape : List ℕ) → IsUseOf ss f u → Contains u.shapes shape → Contains (functions_of ss) (g, shape) → IsTaken ss g → IsCall ss f g

-- f has these weighted reads and weighted writes of the global
pub record HasWeights (ss : List Summary) (f global : List ℕ) (reads writes : ℕ) : Type 0 where
  pub u : Uses
  pub uses : IsUseOf ss f u
  pub stands : Contains u.refs (global, reads, writes)

-- f needs so many registers: what the module tells that defines it, and none where no module does
pub record HasNeed (ss : List Summary) (f : List ℕ) (n : ℕ) : Type 0 where
  pub told : (u : Uses) → IsUseOf ss f u → n ≡ u.need
  pub untold : ((u : Uses) → IsUseOf ss f u → ⊥) → n ≡ 0

-- a scalar global that is not volatile and whose address no module takes
pub record IsEligible (ss : List Summary) (global : List ℕ) (kind : Kind) : Type 0 where
  pub summary : Summary
  pub stands : Contains ss summary
  pub shape : List ℕ
  pub defined : Contains summary.globals (global, shape, Some kind, false)
  pub kept : ¬ IsEscaped ss global
  pub no_function : ¬ IsTaken ss global

-- ---- the same by places

pub record IsGraphOf (ss : List Summary) (g : CallGraph) : Type 0 where
  pub functions : IsRising g.functions
  pub each_function : (f : List ℕ) → Contains g.functions f ↔ Contains (map (λ h. h.0) (functions_of ss)) f
  pub globals : IsRising (map (λ v. v.0) g.globals)
  pub each_global : (v : List ℕ) (kind : Kind) → Contains g.globals (v, kind) ↔ IsEligible ss v kind
  pub call_rows : length g.calls ≡ length g.functions
  pub calls_rise : AllByRecursion IsStrictlyIncreasing g.calls
  pub calls_within : (a b : ℕ) → Calls g a b → b < length g.functions
  pub calls : (a b : ℕ) (f h : List ℕ) → slice_get g.functions a ≡ Some f → slice_get g.functions b ≡ Some h → Calls g a b ↔ IsCall ss f h
  pub ref_rows : length g.refs ≡ length g.functions
  pub refs_rise : AllByRecursion (λ row. IsStrictlyIncreasing (map (λ r. r.0) row)) g.refs
  pub refs_within : (a v reads writes : ℕ) → Weighs g a v reads writes → v < length g.globals
  pub refs : (a v reads writes : ℕ) (f : List ℕ) (global : List ℕ × Kind) → slice_get g.functions a ≡ Some f → slice_get g.globals v ≡ Some global → Weighs g a v reads writes ↔ HasWeights ss f global.0 reads writes
  pub need_rows : length g.needs ≡ length g.functions
  pub needs : (a n : ℕ) (f : List ℕ) → slice_get g.functions a ≡ Some f → slice_get g.needs a ≡ Some n → HasNeed ss f n
