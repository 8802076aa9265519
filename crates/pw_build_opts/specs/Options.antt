-- The options that a build may have.
use Rattle.std.specs.Prelude.{◌≤◌}
use Rattle.pw_value.specs.Limits.{stack_least, stack_limit}
use Rattle.pw_db.specs.Limits.{colour_limit}
use Rattle.pw_build_opts.specs.declared.opts.Opts.{Opts}

-- at most 8 registers for webs, and a stack of a size that there may be
pub record AreOpts (opts : Opts) : Type 0 where
  pub colours : opts.colours ≤ colour_limit
  pub least : stack_least ≤ opts.stack
  pub most : opts.stack ≤ stack_limit
