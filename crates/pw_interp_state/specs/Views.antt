-- The objects of a run that the code holds, as the plain list of objects.
use Rattle.std.specs.Prelude.{ℕ, ◌<◌, ◌^◌, Bool, true, List, map, length, replicate}
use Rattle.pw_value.specs.declared.value.Byte.TheVariants as B
use Rattle.pw_value.specs.Objects as objects
use Rattle.pw_interp_state.specs.declared.objects.Stored.{Stored}

abbrev pub view_object : Stored → objects.Object
view_object o = record { bytes = o.bytes.items; live = o.live; writable = o.writable }

abbrev pub view_objects : List Stored → List objects.Object
view_objects all = map view_object all

-- an offset in the object, or the position behind it, is a word
abbrev pub IsShort : objects.Object → Type 0
IsShort o = length o.bytes < 2 ^ 32

-- a new object of so many undefined bytes
abbrev pub fresh : ℕ → Bool → objects.Object
fresh size writable = record { bytes = replicate size B.Undefined; live = true; writable = writable }
