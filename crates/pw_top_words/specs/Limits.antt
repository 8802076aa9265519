-- The limits within which a command's numbers lie.
use Rattle.std.specs.Prelude.{◌<◌, ◌≡◌, ℕ, ◌≤◌, true}
use Rattle.pw_value.specs.Limits.{stack_least, stack_limit}
use Rattle.pw_store_modules.specs.Modules.{is_module_name}
use Rattle.pw_build_opts.specs.Options.{AreOpts}
use Rattle.pw_top_words.specs.declared.commands.Command.{Command}
use Rattle.pw_top_words.specs.declared.commands.Command.TheVariants.{Go, Build, Session, PhaseOne, Analyse, PhaseTwo, Link, Run, List as ListImage, Db, Bench, Where, Preprocess, Interp}
use Rattle.pw_db.specs.Limits.{colour_limit}

-- the bytes of a stack
abbrev pub IsStack : ℕ → Type 0
IsStack stack = (stack_least ≤ stack) × (stack ≤ stack_limit)

-- Webs have so many registers at most, a stack lies within its limits, and a module's name is one.
abbrev pub IsWithin : Command → Type 0
IsWithin (Go opts) = AreOpts opts.build
IsWithin (Build opts) = AreOpts opts
IsWithin (Session opts) = AreOpts opts.build
IsWithin (Preprocess name) = is_module_name name ≡ true
IsWithin (PhaseOne name optimise) = is_module_name name ≡ true
IsWithin (Analyse colours) = colours ≤ colour_limit
IsWithin (PhaseTwo name) = is_module_name name ≡ true
IsWithin (Link stack) = IsStack stack
IsWithin (Run steps) = Unit {0}
IsWithin ListImage = Unit {0}
IsWithin Db = Unit {0}
IsWithin (Bench number opts) = AreOpts opts.build
IsWithin (Where k opts) = (0 < k) × AreOpts opts.build
IsWithin (Interp opts) = AreOpts opts.build
