-- Filling from the left, item by item: what is done, and the last item, which may still move into the next one.
use Rattle.std.specs.Prelude.{not, ◌&&◌, Bool, false, Option, None, Some, List, ◌++◌}
use Rattle.std.specs.List.{cons_option}
use Rattle.pw_delay.specs.declared.items.Item.{Item}
use Rattle.pw_delay.specs.declared.items.Item.TheVariants.{Plain, Turns}
use Rattle.pw_delay.specs.Filling.{moves, drawn_near, filled}

-- whether an item moves into the next one
abbrev pub is_taken : Bool → Item → Item → Bool
is_taken behind (Plain w) (Turns turn None) = not behind && moves w.inst turn
is_taken behind item next = false

-- the next one with it in its slot
abbrev pub with_word : Item → Item → Item
with_word (Plain w) (Turns turn slot) = Turns (drawn_near turn) (Some w)
with_word item next = next

-- What comes of the items that are done, of a last one that stands behind a COMCLR or not, and of more behind it.
abbrev pub whole : List Item → Bool → Option Item → List Item → List Item
whole done behind last rest = done ++ filled behind (cons_option last rest)
