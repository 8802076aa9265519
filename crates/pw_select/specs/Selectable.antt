-- Functions as selection needs them.
use Rattle.std.specs.Prelude.{◌≤◌, ◌<◌, ◌+◌, ◌*◌, ◌^◌, length}
use Rattle.std.specs.List.{AllByRecursion}
use Rattle.pw_value.specs.Limits.{parameter_limit}
use Rattle.pw_webflow.specs.declared.web.WebBlock.{WebBlock}
use Rattle.pw_alloc.specs.declared.located.Located.{Located}
use Rattle.pw_alloc.specs.Frames.{first_stacked, most_arguments, ops_of, head_size}
use Rattle.pw_select_lines.specs.Selectable.{IsSelectable}

abbrev pub IsSelectableBlock : WebBlock → Type 0
IsSelectableBlock b = AllByRecursion IsSelectable b.ops

-- the offsets of the prologue and the epilogue are numbers of 32 bits
pub record IsFrame (f : Located) : Type 0 where
  pub arguments : most_arguments (ops_of f.body) ≤ parameter_limit
  pub saved : head_size f.body + 4 * length f.saved < 2 ^ 31
  pub frame : f.frame + first_stacked + 4 * f.body.params < 2 ^ 31
