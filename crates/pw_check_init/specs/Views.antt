-- The plain data that readings of initialisers show.
use Rattle.std.specs.Prelude.{List, map, reverse}
use Rattle.pw_tree.specs.Views.{view_inits}
use Rattle.pw_types.specs.Views.{view_qtype}
use Rattle.pw_check_init_parts.specs.FilledViews.{view_filled}
use Rattle.pw_check_rules.specs.Initialisers as rules
use Rattle.pw_check_init_parts.specs.PlaceViews.{view_cursor}
use Rattle.pw_check_init.specs.declared.lists.Listed.{Listed}
use Rattle.pw_check_init.specs.Readings as readings
use Rattle.pw_check_init.specs.declared.readings.Around.{Around}
use Rattle.pw_check_init.specs.declared.readings.Reading.{Reading}
use Rattle.pw_check_init.specs.declared.object.Initialised.{Initialised}

abbrev pub view_listed : Listed → rules.Cursor × rules.Filled
view_listed l = (view_cursor l.cursor.items, view_filled l.filled)

abbrev pub view_initialised : Initialised → rules.Initialised
view_initialised i = rules.initialised_as (view_qtype i.ty) (view_filled i.filled)

abbrev pub view_around : Around → readings.Around
view_around l = record { items = view_inits l.items.now; cursor = view_cursor l.cursor.items }

-- the innermost list around stands last
abbrev pub view_outer : List Around → List readings.Around
view_outer outer = reverse (map view_around outer)

abbrev pub view_reading : Reading → readings.Reading
view_reading x =
    record {
      items = view_inits x.items.now;
      outer = view_outer x.outer.items;
      cursor = view_cursor x.listed.cursor.items;
      filled = view_filled x.listed.filled;
    }
