-- What expressions are lowered in, as plain data.
use Rattle.pw_lower.specs.Expressions as spec
use Rattle.pw_lower_forms.specs.declared.home.Home.{Home}

abbrev pub view_home : Home → spec.Home
view_home h = record { name = h.name.now; records = h.types.now; places = h.places.now }
