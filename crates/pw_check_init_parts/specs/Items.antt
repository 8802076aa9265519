-- A constant of a pointer's type, as it stands in an object (ISO C90 6.4).
use Rattle.std.specs.Prelude.{if◌then◌else◌, Option, Some, option_map, List}
use Rattle.pw_types.specs.TypeTrees.{RecordValue}
use Rattle.pw_types.specs.TypedTrees.{Expression, ItemValue, ItemBytes}
use Rattle.pw_check_rules.specs.Constants.{is_null_pointer, address_of}
use Rattle.pw_check_rules.specs.Initialisers.{address_item, word_bytes}

abbrev pub pointer_item : List RecordValue → Expression → Option ItemValue
pointer_item records e =
    if is_null_pointer e then Some (ItemBytes (word_bytes 4 0)) else option_map address_item (address_of records e)
