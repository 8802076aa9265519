-- The plain data that the places of a list show.
use Rattle.std.specs.Prelude.{Bool, List, map, reverse, ◌++◌}
use Rattle.pw_types.specs.TypeTrees.{CType}
use Rattle.pw_types.specs.Views.{view_type, view_qtype}
use Rattle.pw_check_rules.specs.Kinds.{is_character_array}
use Rattle.pw_check_rules.specs.Initialisers as rules
use Rattle.pw_check_rules.specs.Operators.{same_record}
use Rattle.pw_check_init_parts.specs.declared.parts.Frame.{Frame}
use Rattle.pw_check_init_parts.specs.declared.parts.Target.{Target}
use Rattle.pw_check_init_parts.specs.declared.reaching.Reached.{Reached}
use Rattle.pw_check_init_parts.specs.declared.reaching.Takes.{Takes}
use Rattle.pw_check_init_parts.specs.declared.reaching.Takes.TheVariants as takes

abbrev pub view_frame : Frame → rules.Frame
view_frame f = record { ty = view_type f.ty; offset = f.offset; next = f.next }

abbrev pub view_target : Target → rules.Target
view_target t = record { ty = view_qtype t.ty; offset = t.offset }

-- the innermost object stands last
abbrev pub view_cursor : List Frame → rules.Cursor
view_cursor frames = reverse (map view_frame frames)

-- what is reached from a cursor: the part, and the objects around it
abbrev pub view_reached : rules.Cursor → Reached → rules.Reached
view_reached cursor r = record { target = view_target r.target; cursor = view_cursor r.within.items ++ cursor }

abbrev pub view_takes : Takes → CType → Bool
view_takes takes.Characters ty = is_character_array ty
view_takes (takes.Record own) ty = same_record ty (view_type own.now)
