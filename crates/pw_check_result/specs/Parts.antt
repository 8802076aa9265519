-- What one name with linkage gives of the names that all modules share.
use Rattle.std.specs.Prelude.{if◌then◌else◌, List, [], ◌∷◌}
use Rattle.pw_types.specs.TypedTrees.{DeclaredValue}
use Rattle.pw_check_rules.specs.Modules.{declared_value}
use Rattle.pw_check_rules.specs.States.{LinkedName}

abbrev pub declared_of : LinkedName → List DeclaredValue
declared_of l = if l.internal then [] else declared_value l ∷ []
