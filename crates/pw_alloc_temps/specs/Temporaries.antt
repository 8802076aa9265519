-- Allocation: temporaries have registers, and those that get none a word of the frame. A function shares some registers with
-- its cluster: those that it is free to use, and those that it saves for others.
use Rattle.std.specs.Prelude.{ℕ, suc, ◌||◌, ◌&&◌, not, ◌++◌, Option, None, Some, Bool, List, [], ◌∷◌, length, map}
use Rattle.std.specs.List.{filter, list_any}
use Rattle.pw_db.specs.Limits.{kept_registers}
use Rattle.pw_webflow.specs.declared.web.WebFn.{WebFn}
use Rattle.pw_webflow.specs.WebOutline.{web_outline}
use Rattle.pw_alloc.specs.declared.located.Place.{Place}
use Rattle.pw_alloc.specs.declared.located.Place.TheVariants.{Slot, Reg}
use Rattle.pw_alloc.specs.declared.located.Located.{Located}
use Rattle.pw_alloc.specs.Frames.{head_size, temp_offset, slots_begin, last_reach}
use Rattle.pw_alloc.specs.Allocation.{is_entered, in_frame}
use Rattle.pw_db.specs.declared.database.Directives.{Directives}
use Rattle.pw_live.specs.Liveness.{has, is_that}
use Rattle.pw_alloc_temps.specs.Registers.{registers}

-- the registers that a function shares with its cluster
abbrev pub cluster_of : Directives → List ℕ
cluster_of d = d.free ++ d.saves

-- the register of each temporary, beside those of the function's webs
abbrev pub registers_in : WebFn → List (Option ℕ)
registers_in f = registers (web_outline f) (map (λ w. w.0.reg) f.directives.webs) (cluster_of f.directives)

-- whether some temporary has the register
abbrev pub is_given : List (Option ℕ) → ℕ → Bool
is_given regs r = list_any (λ o. is_that o r) regs

-- the registers that a function saves: of those that a callee keeps, those of the webs that it enters, those that it saves for
-- others, and those of its temporaries that it is not free to use
abbrev pub is_saved : Directives → List (Option ℕ) → ℕ → Bool
is_saved d regs r = is_entered d.webs r || (has r d.saves || (not (has r d.free) && is_given regs r))

abbrev pub saved_in : WebFn → List (Option ℕ) → List ℕ
saved_in f regs = filter (is_saved f.directives regs) kept_registers

-- a register, or else the next word of the frame for temporaries
abbrev pub placed : ℕ → ℕ → ℕ → List (Option ℕ) → List Place
placed head saved i [] = []
placed head saved i (Some r ∷ rest) = Reg r ∷ placed head saved i rest
placed head saved i (None ∷ rest) = Slot (temp_offset head saved i) ∷ placed head saved (suc i) rest

abbrev pub located : WebFn → List ℕ → List Place → Located
located f saved places = record {
  body = f;
  places = places;
  saved = saved;
  frame = last_reach (slots_begin (head_size f) (length saved) (in_frame places)) f.slots;
}

unfoldable pub allocated : WebFn → Located
allocated f =
    let regs = registers_in f in
    let saved = saved_in f regs in
    located f saved (placed (head_size f) (length saved) 0 regs)
