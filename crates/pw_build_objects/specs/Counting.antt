-- How many objects are made anew, and how many are counted, also where no program comes of them.
use Rattle.std.specs.Prelude.{◌≡◌, ℕ, ◌+◌, ◌≤◌, ◌⊎◌, List, Option, count_by}
use Rattle.pw_value.specs.declared.fault.LinkFault.{LinkFault}
use Rattle.pw_flow.specs.declared.flow.FlowModule.{FlowModule}
use Rattle.pw_object.specs.declared.object.Object.{Object}
use Rattle.pw_build_objects.specs.Programs.{AreParts, BreakRule, Parts}
use Rattle.pw_build_opts.specs.declared.opts.Opts.{Opts}

-- no less was counted before, and at most so many more are now
pub record CountsUpTo (most before now : ℕ) : Type 0 where
  pub least : before ≤ now
  pub bound : now ≤ before + most

-- How many objects are made anew of flow graphs and kept objects, under these options: none where the modules break a
-- rule of linking; else those that are marked in their parts, whether these can be linked or not.
abbrev pub MakesAnew : List FlowModule → List (Option Object) → Opts → ℕ → Type 0
MakesAnew flows kept opts made =
    ((fault : LinkFault) × BreakRule flows fault × (made ≡ 0))
    ⊎ ((parts : Parts) × AreParts flows kept opts parts × (made ≡ count_by (λ fresh. fresh) parts.fresh))

-- so many more are counted now as objects are made anew
abbrev pub CountsAnew : List FlowModule → List (Option Object) → Opts → ℕ → ℕ → Type 0
CountsAnew flows kept opts before now = (made : ℕ) × MakesAnew flows kept opts made × (now ≡ before + made)
