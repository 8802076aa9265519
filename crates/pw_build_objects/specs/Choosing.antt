-- Inside: the choice between what was kept of a module and a new object.
use Rattle.std.specs.Prelude.{◌≡◌, Bool, List, Option, Some, None, map}
use Rattle.pw_object.specs.declared.object.Object.{Object}
use Rattle.pw_build_objects.specs.declared.making.Built.{Built}
use Rattle.pw_build_objects.specs.declared.remade.Made.{Made}
use Rattle.pw_phase_two.specs.declared.origin.Origin.{Origin}
use Rattle.pw_build_objects.specs.Programs.{Parts}

-- the origin stands in the object
abbrev pub HasOrigin : Origin → Object → Type 0
HasOrigin origin o = (o.flow ≡ origin.flow.items) × (o.directives ≡ origin.directives.items)

-- what was kept, where the origin stands in it
abbrev pub IsKept : Origin → Option Object → Option Object → Type 0
IsKept origin None kept = kept ≡ None
IsKept origin (Some o) None = ¬ HasOrigin origin o
IsKept origin (Some o) (Some kept) = (kept ≡ o) × HasOrigin origin o

-- the objects of modules, and which of them are made anew
abbrev pub objects_of : List Made → List Object
objects_of made = map (λ m. m.object) made

abbrev pub marks_of : List Made → List Bool
marks_of made = map (λ m. m.fresh) made

-- the parts of a program that was built
abbrev pub parts_of : Built → Parts
parts_of built = record { database = built.database.functions; objects = objects_of built.made.items; fresh = marks_of built.made.items }
