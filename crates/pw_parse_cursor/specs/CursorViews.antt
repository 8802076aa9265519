-- What the values of the cursor show.
use Rattle.std.specs.Prelude.{ℕ, Bool, List, ◌∷◌, Vec, map, Option, Some, None}
use Rattle.std.specs.Borrow.{Bor}
use Rattle.std.specs.declared.alloc.Global.{Global}
use Rattle.pw_parse_grammar.specs.Input.{Binding}

abbrev pub view_binding : Bor (List ℕ) × Bool → Binding
view_binding b = (b.0.now, b.1)

abbrev pub binding_first : Bor (List ℕ) × Bool → List Binding → List Binding
binding_first b more = view_binding b ∷ more

abbrev pub view_bindings : Vec (Bor (List ℕ) × Bool) Global → List Binding
view_bindings bs = map view_binding bs.items

abbrev pub view_name : Option (Bor (List ℕ)) → Option (List ℕ)
view_name None = None
view_name (Some s) = Some s.now
