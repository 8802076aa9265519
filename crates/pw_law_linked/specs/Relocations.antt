-- What the relocations of a function's code are of.
use Rattle.std.specs.Prelude.{ℕ, ◌<◌, List}
use Rattle.pw_inst.specs.Limits.{routine_count}
use Rattle.pw_inst.specs.declared.relocation.FixKind.{FixKind}
use Rattle.pw_inst.specs.declared.relocation.FixKind.TheVariants as kind
use Rattle.pw_inst.specs.declared.relocation.Symbol.{Symbol}
use Rattle.pw_inst.specs.declared.relocation.Symbol.TheVariants as symbol

-- a branch leads to a function whose name is one to call, to a routine that there is, or to a word of its own function
abbrev pub IsTarget : (List ℕ → Type 0) → Symbol → Type 0
IsTarget Called (symbol.Named name) = Called name
IsTarget Called (symbol.Routine k) = k < routine_count
IsTarget Called symbol.StackLimit = ⊥
IsTarget Called (symbol.Word k) = Unit {0}

-- where an address goes that no branch takes, anything may have it
abbrev pub IsRelocation : (List ℕ → Type 0) → FixKind → Symbol → Type 0
IsRelocation Called kind.Bl s = IsTarget Called s
IsRelocation Called k s = Unit {0}
