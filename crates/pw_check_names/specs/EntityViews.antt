-- The plain data that entities, names with linkage, hidden objects and switches show.
use Rattle.std.specs.Prelude.{ℕ, List, map}
use Rattle.pw_typed.specs.Views.{view_placed}
use Rattle.pw_types.specs.Views.{view_qtype}
use Rattle.pw_check_rules.specs.States as states
use Rattle.pw_check_names.specs.declared.entity.Entity.{Entity}
use Rattle.pw_check_names.specs.declared.entity.Entity.TheVariants as entity
use Rattle.pw_check_names.specs.declared.entity.LinkedName.{LinkedName}
use Rattle.pw_check_names.specs.declared.entity.HiddenObject.{HiddenObject}
use Rattle.pw_check_names.specs.declared.entity.SwitchState.{SwitchState}

abbrev pub view_entity : Entity → states.Entity
view_entity (entity.TypeName q) = states.TypeName (view_qtype q)
view_entity (entity.EnumerationConstant n) = states.EnumerationConstant n
view_entity (entity.LocalObject k q register) = states.LocalObject k (view_qtype q) register
view_entity (entity.StaticObject k q) = states.StaticObject k (view_qtype q)
view_entity (entity.Linked place q) = states.Linked place (view_qtype q)

abbrev pub view_linked : LinkedName → states.LinkedName
view_linked l =
    record {
      name = l.name.now;
      internal = l.internal;
      ty = view_qtype l.ty;
      tentative = l.tentative;
      defined = l.defined;
      items = map view_placed l.items.items;
      token = l.token;
      tag = l.tag;
    }

abbrev pub names_linked : List LinkedName → List (List ℕ)
names_linked items = map (λ l. l.name.now) items

abbrev pub view_hidden : HiddenObject → states.HiddenObject
view_hidden h = record { ty = view_qtype h.ty; writable = h.writable; items = map view_placed h.items.items }

abbrev pub view_switch : SwitchState → states.SwitchState
view_switch w = record { kind = w.kind; cases = w.cases; default = w.default }
