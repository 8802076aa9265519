-- The plain state that the code's state shows.
use Rattle.std.specs.Prelude.{map, reverse}
use Rattle.pw_typed.specs.Views.{view_function, view_locals}
use Rattle.pw_types.specs.Views.{view_qtype}
use Rattle.pw_check_rules.specs.States as states
use Rattle.pw_check_names.specs.EntityViews.{view_entity, view_hidden, view_switch}
use Rattle.pw_check_names.specs.LinkedViews.{linked_names}
use Rattle.pw_check_state.specs.declared.state.TypeState.{TypeState}
use Rattle.pw_check_state.specs.declared.state.ScopeState.{ScopeState}
use Rattle.pw_check_state.specs.declared.state.MadeState.{MadeState}
use Rattle.pw_check_state.specs.declared.state.BodyState.{BodyState}
use Rattle.pw_check_state.specs.declared.state.State.{State}

abbrev pub view_type_state : TypeState → states.TypeState
view_type_state t = record { records = t.records; opened = t.opened.items; linked = linked_names t.linked }

abbrev pub view_scope_state : ScopeState → states.ScopeState
view_scope_state c =
    record { ordinary = c.names.ordinary; tags = c.names.tags; entities = map view_entity c.entities.items; depth = c.names.depth }

abbrev pub view_made_state : MadeState → states.MadeState
view_made_state m =
    record {
      slots = m.slots.items;
      hidden = map view_hidden m.hidden.items;
      functions = map view_function m.functions.items;
      counting = m.counting;
    }

-- the innermost switch stands last
abbrev pub view_body_state : BodyState → states.BodyState
view_body_state b =
    record {
      result = view_qtype b.result;
      locals = view_locals b.locals.items;
      names = b.names;
      met = b.met;
      labels = b.labels;
      switches = reverse (map view_switch b.switches.items);
      loops = b.loops;
    }

unfoldable pub view_state : State → states.State
view_state s =
    record {
      types = view_type_state s.types;
      scopes = view_scope_state s.scopes;
      made = view_made_state s.made;
      body = view_body_state s.body;
    }
