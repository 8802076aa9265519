-- Locals in their places.
use Rattle.std.specs.Prelude.{ℕ, ◌+◌, Bool, not, ◌&&◌, nat_lt, if◌then◌else◌, List, [], ◌∷◌}
use Rattle.pw_types.specs.TypeTrees.{type_of, is_volatile}
use Rattle.pw_types.specs.TypedTrees.{LocalValue}
use Rattle.pw_flow.specs.declared.flow.Op.TheVariants as op
use Rattle.pw_lower.specs.declared.code.Code.{Code}
use Rattle.pw_lower.specs.declared.place.LocalPlace.{LocalPlace}
use Rattle.pw_lower.specs.declared.place.LocalPlace.TheVariants.{Temp, Slot}
use Rattle.pw_lower.specs.Codes.{emit, fresh, temp_of}
use Rattle.pw_lower.specs.Expressions.{scalar_kind}
use Rattle.pw_lower.specs.Places.{is_scalar}

-- whether a local is kept in a temporary, by whether its address is taken
abbrev pub kept_unless : Bool → LocalValue → Bool
kept_unless addressed local =
    is_scalar (type_of local.ty) && (not (is_volatile local.ty) && not addressed)

-- the places of the locals from number k on, by a mark for each whose address is taken
abbrev pub placed : List Bool → ℕ → ℕ → ℕ → ℕ → List LocalValue → List LocalPlace
placed (mark ∷ marks) params k temp slot (local ∷ rest) =
    if kept_unless mark local
    then (if nat_lt k params
    then Temp k ∷ placed marks params (k + 1) temp slot rest
    else Temp temp ∷ placed marks params (k + 1) (temp + 1) slot rest)
    else Slot slot ∷ placed marks params (k + 1) temp (slot + 1) rest
placed marks params k temp slot locals = []

-- A parameter that stands in a slot is stored there.
abbrev pub parameter_stored : LocalValue → LocalPlace → ℕ → Code → Code
parameter_stored local (Slot s) k c =
    let x = fresh (λ t. op.AddrSlot t s) c in emit (op.Store (scalar_kind (type_of local.ty)) (temp_of x) k) x.code
parameter_stored local (Temp t) k c = c
