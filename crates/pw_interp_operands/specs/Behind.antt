-- Behind what expressions go on.
use Rattle.std.specs.Prelude.{◌≡◌, true, None}
use Rattle.pw_types.specs.TypedTrees.{Form}
use Rattle.pw_interp_todo.specs.Asking.{answer_first}
use Rattle.pw_interp_operands.specs.declared.answers.Group.{Group}
use Rattle.pw_interp_operands.specs.declared.answers.Group.TheVariants as G
use Rattle.pw_interp_operands.specs.Groups.{is_on_values, is_at_place}

abbrev pub IsGroup : Form → Group → Type 0
IsGroup form G.Value = is_on_values form ≡ true
IsGroup form G.Place = is_at_place form ≡ true
IsGroup form G.Nothing = answer_first form ≡ None
