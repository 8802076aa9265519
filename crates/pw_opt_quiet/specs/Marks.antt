-- What a module says of its objects: whether their shape has no mark of a volatile type.
use Rattle.std.specs.Prelude.{ℕ, ◌≡◌, ◌==◌, not, Bool, false, Option, List, find, option_map, unwrap_or, bytes_eq}
use Rattle.std.specs.List.{list_any}
use Rattle.pw_flow.specs.declared.flow.FlowGlobal.{FlowGlobal}
use Rattle.pw_flow.specs.declared.flow.FlowModule.{FlowModule}
use Rattle.pw_opt_rules.specs.Dead.{shape_in, is_quiet}
use Rattle.pw_scope.specs.Visible.{visible}

abbrev pub unmarked : List ℕ → Bool
unmarked shape = not (list_any (λ byte. byte == 33) shape)

-- of the first that is declared by a name, and of the first that is defined
abbrev pub declared_mark : List (List ℕ × List ℕ) → List ℕ → Option Bool
declared_mark ds name = option_map (λ d. unmarked d.1) (find (λ d. bytes_eq d.0 name) ds)

abbrev pub defined_mark : List FlowGlobal → List ℕ → Option Bool
defined_mark gs name = option_map (λ g. unmarked g.shape) (find (λ g. bytes_eq g.name name) gs)

-- names tell whether nobody sees that an object is read
abbrev pub TellsQuiet : FlowModule → List (List ℕ × Bool) → Type 0
TellsQuiet m marks = (name : List ℕ) → unwrap_or (visible marks name) false ≡ is_quiet (shape_in m name)
