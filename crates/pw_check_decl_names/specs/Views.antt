-- The plain data that sorts of declarations show.
use Rattle.pw_check_rules.specs.Declarations as rules
use Rattle.pw_check_decl_names.specs.declared.sorts.Sort.{Sort}
use Rattle.pw_check_decl_names.specs.declared.sorts.Sort.TheVariants as sort

abbrev pub view_sort : Sort → rules.Sort
view_sort sort.ATypedef = rules.ATypedef
view_sort sort.AFunction = rules.AFunction
view_sort sort.AGlobal = rules.AGlobal
view_sort sort.AnExtern = rules.AnExtern
view_sort sort.AStatic = rules.AStatic
view_sort sort.ALocal = rules.ALocal
