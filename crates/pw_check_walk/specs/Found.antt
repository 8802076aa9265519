-- The least broken constraint of a point, as far as its causes are known.
use Rattle.std.specs.Prelude.{Bool, nat_lt, if◌then◌else◌, Option, None, Some, Result, Err, [], ◌∷◌}
use Rattle.pw_check_walk.specs.declared.constraints.CheckFault.{CheckFault}
use Rattle.pw_check_walk.specs.Causes.{Point, rank_of_kind, fault_of}

-- the lesser of a fault and what was found before it, by rank; of two equal ones the earlier
abbrev pub lesser_fault : Option CheckFault → CheckFault → Option CheckFault
lesser_fault None fault = Some fault
lesser_fault (Some best) fault = if nat_lt (rank_of_kind fault.kind) (rank_of_kind best.kind) then Some fault else Some best

-- what is found with one constraint more
abbrev pub with_cause : Option CheckFault → Bool → CheckFault → Option CheckFault
with_cause best broken fault = if broken then lesser_fault best fault else best

-- what is found in these causes behind what was found before them
abbrev pub found_behind : Option CheckFault → Point → Option CheckFault
found_behind best [] = best
found_behind best (c ∷ rest) = found_behind (with_cause best c.broken (fault_of c)) rest

abbrev pub found : Point → Option CheckFault
found p = found_behind None p

-- the lesser of what two points tell
abbrev pub lesser_found : Option CheckFault → Option CheckFault → Option CheckFault
lesser_found best None = best
lesser_found best (Some fault) = lesser_fault best fault

-- the fault, or what follows
abbrev pub told : {A : Type 0} → Option CheckFault → Result A CheckFault → Result A CheckFault
told None rest = rest
told (Some fault) rest = Err fault
