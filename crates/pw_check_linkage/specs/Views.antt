-- How a declaration asks for linkage, as the rules speak of it.
use Rattle.pw_check_rules.specs.Linkage as spec
use Rattle.pw_check_linkage.specs.declared.declare.Asking.{Asking}
use Rattle.pw_check_linkage.specs.declared.declare.Asking.TheVariants as asking

abbrev pub view_asking : Asking → spec.Asking
view_asking asking.AsInternal = spec.AsInternal
view_asking asking.AsBefore = spec.AsBefore
view_asking asking.AsExternal = spec.AsExternal
