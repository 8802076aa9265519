-- Which module a build refuses, where it refuses one.
use Rattle.std.specs.Prelude.{◌≡◌, ◌≢◌, ℕ, List, ◌∷◌, ◌++◌, Some, None, Err, IsOk}
use Rattle.std.specs.List.{AllByRecursion}
use Rattle.std.specs.Ordering.{nat_cmp}
use Rattle.std.specs.declared.cmp.Ordering.TheVariants.{Greater}
use Rattle.std.specs.Cmp.Lexicographic.{slice_cmp}
use Rattle.pw_front_end.specs.declared.refusal.Refusal.{Refusal}
use Rattle.pw_store_modules.specs.Modules.{Source}
use Rattle.pw_build_files.specs.FromBuild.BuildFault.{BuildFault}
use Rattle.pw_build_files.specs.FromBuild.BuildFault.TheVariants as build
use Rattle.pw_build_files.specs.FromBuild.Builds.{limit_passed}
use Rattle.pw_build_files.specs.FromBuild.FirstPhase.{compiled}

-- The module of this name is the first of these that the first phase refuses, and this is its refusal.
pub record IsFirstRefused (sources : List Source) (name : List ℕ) (refusal : Refusal) : Type 0 where
  pub before : List Source
  pub text : List ℕ
  pub behind : List Source
  pub split : sources ≡ before ++ (name, text) ∷ behind
  pub accepted : AllByRecursion (λ source. IsOk (compiled source.0 source.1)) before
  pub refused : compiled name text ≡ Err refusal

-- A fault that these modules have at this one or before it: they pass a limit; or the first that is refused is this one, or one before it
-- in the byte order of the names.
abbrev pub IsFaultBy : List Source → List ℕ → BuildFault → Type 0
IsFaultBy sources name (build.LinkRefused limit) = limit_passed sources ≡ Some limit
IsFaultBy sources name (build.Refused first refusal) = (limit_passed sources ≡ None) × IsFirstRefused sources first refusal × (slice_cmp nat_cmp first name ≢ Greater)
IsFaultBy sources name _ = ⊥
