-- What both runs say of names of functions: the laws of another crate that names and calls rest on.
use Rattle.std.proofs.Common.{◌≡◌, ℕ, Some, List}
use Rattle.pw_cmean.specs.Worlds as source
use Rattle.pw_cmean.specs.Worlds.{World, Callable}
use Rattle.pw_run_languages.specs.Programs as flows
use Rattle.pw_law_refine.specs.Lowerable.{IsLowerableWorld}
use Rattle.pw_law_refine.specs.Activations.{graphs}
use Rattle.pw_law_refine_start.specs.Named.{IsFoundAs}

pub record NameLaws : Type 0 where
  pub number : (world : World) (name : List ℕ) → IsLowerableWorld world → source.function_number world.program name ≡ flows.function_number (graphs world) name
  pub object : (world : World) (name : List ℕ) → source.global_number world.program name ≡ flows.global_number (graphs world) name
  pub found : (world : World) (name : List ℕ) (f : Callable) → IsLowerableWorld world → source.function_named world.program name ≡ Some f → IsFoundAs world name f
  pub numbered : (world : World) (n : ℕ) (f : Callable) → IsLowerableWorld world → source.function_at world.program n ≡ Some f → flows.function_at (graphs world) n ≡ Some f.name
  pub own : (world : World) (n : ℕ) (f : Callable) → IsLowerableWorld world → source.function_at world.program n ≡ Some f → source.function_named world.program f.name ≡ Some f
