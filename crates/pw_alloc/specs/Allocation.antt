-- The registers that a function saves of its webs, and words of the frame for temporaries.
use Rattle.std.specs.Prelude.{ℕ, zero, suc, ◌+◌, ◌==◌, ◌&&◌, Bool, true, false, if◌then◌else◌, List, [], ◌∷◌}
use Rattle.pw_db.specs.Limits.{first_register, register_count}
use Rattle.pw_db.specs.declared.database.Web.{Web}
use Rattle.pw_db.specs.declared.database.Role.{Role}
use Rattle.pw_db.specs.declared.database.Role.TheVariants.{Entry, Member}
use Rattle.pw_webflow.specs.declared.web.WebFn.{WebFn}
use Rattle.pw_alloc.specs.declared.located.Place.{Place}
use Rattle.pw_alloc.specs.declared.located.Place.TheVariants.{Slot, Reg}
use Rattle.pw_alloc.specs.Frames.{temp_offset}

abbrev pub is_entry : Role → Bool
is_entry Entry = true
is_entry Member = false

-- whether the function enters a web of this register
abbrev pub is_entered : List (Web × Role) → ℕ → Bool
is_entered [] r = false
is_entered (w ∷ rest) r = if (w.0.reg == r) && is_entry w.1 then true else is_entered rest r

-- so many registers from one on, those that are entered
unfoldable pub entered_from : List (Web × Role) → ℕ → ℕ → List ℕ
entered_from webs r zero = []
entered_from webs r (suc more) =
    if is_entered webs r then r ∷ entered_from webs (suc r) more else entered_from webs (suc r) more

-- the registers that a function saves are those of the webs that it enters, of those that a callee keeps
abbrev pub saved_of : WebFn → List ℕ
saved_of f = entered_from f.directives.webs first_register register_count

-- the places of so many temporaries from a number on
abbrev pub slots_from : ℕ → ℕ → ℕ → ℕ → List Place
slots_from head saved i zero = []
slots_from head saved i (suc more) = Slot (temp_offset head saved i) ∷ slots_from head saved (suc i) more

-- the temporaries that stand in the frame
abbrev pub in_frame : List Place → ℕ
in_frame [] = 0
in_frame (Slot offset ∷ rest) = 1 + in_frame rest
in_frame (Reg r ∷ rest) = in_frame rest
