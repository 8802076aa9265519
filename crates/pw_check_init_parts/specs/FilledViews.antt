-- The plain data that contexts and what was filled show.
use Rattle.std.specs.Prelude.{Option, None, Some, List, map}
use Rattle.std.specs.Borrow.{Bor}
use Rattle.pw_tree.specs.declared.expr.Word.{Word}
use Rattle.pw_tree.specs.Views.{view_words}
use Rattle.pw_typed.specs.Views.{view_expr, view_placed}
use Rattle.pw_check_rules.specs.Initialisers as rules
use Rattle.pw_check_init_parts.specs.declared.filled.Context.{Context}
use Rattle.pw_check_init_parts.specs.declared.filled.Filled.{Filled}

abbrev pub view_context : Context → rules.Context
view_context cx = record { token = cx.token; constant = cx.constant; hidden = cx.hidden }

abbrev pub view_filled : Filled → rules.Filled
view_filled f = record { items = map view_placed f.items.items; parts = map view_expr f.parts.items }

abbrev pub view_string_form : Option (Bor (List Word)) → rules.StringForm
view_string_form None = rules.IsOther
view_string_form (Some ws) = rules.IsString (view_words ws.now)
