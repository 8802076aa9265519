-- Which functions have lawful places.
use Rattle.std.specs.Prelude.{ℕ, ◌≡◌, ◌<◌, ◌≤◌, ◌⊎◌, List, length, Contains}
use Rattle.std.specs.List.{AllByRecursion}
use Rattle.pw_db.specs.Database.{EachTwo}
use Rattle.pw_db.specs.Limits.{first_register, last_register, last_temporary}
use Rattle.pw_webflow.specs.declared.web.WebFn.{WebFn}
use Rattle.pw_webflow.specs.ValidWebs.{HasRegister, IsWebFn}
use Rattle.pw_alloc.specs.declared.located.Place.{Place}
use Rattle.pw_alloc.specs.declared.located.Place.TheVariants.{Slot, Reg}
use Rattle.pw_alloc.specs.declared.located.Located.{Located}
use Rattle.pw_alloc.specs.Frames.{head_size, temp_offset, slots_begin, last_reach}
use Rattle.pw_alloc.specs.Allocation.{saved_of, in_frame}

-- A register that a function uses is none of its webs, and it is saved unless every function may change it or it is
-- free for the function. A word of the frame is one of those for temporaries.
abbrev pub IsPlace : Located → Place → Type 0
IsPlace l (Reg r) = (first_register ≤ r) × (r ≤ last_temporary) × ¬ HasRegister l.body.directives r × (r ≤ last_register → Contains l.saved r ⊎ Contains l.body.directives.free r)
IsPlace l (Slot offset) =
    (i : ℕ) × ((i < in_frame l.places) × (offset ≡ temp_offset (head_size l.body) (length l.saved) i))

-- registers that a callee keeps, each once, rising, with those of the webs that the function enters among them
pub record IsSaved (f : WebFn) (saved : List ℕ) : Type 0 where
  pub kept : AllByRecursion (λ r. (first_register ≤ r) × (r ≤ last_register)) saved
  pub rising : EachTwo (λ r q. r < q) saved
  pub entered : (r : ℕ) → Contains (saved_of f) r → Contains saved r

-- each temporary has a place, and the frame is as large as these, the saved registers and the slots need
pub record IsLocated (l : Located) : Type 0 where
  pub body : IsWebFn l.body
  pub count : length l.places ≡ l.body.temps
  pub places : AllByRecursion (IsPlace l) l.places
  pub saved : IsSaved l.body l.saved
  pub frame : l.frame ≡ last_reach (slots_begin (head_size l.body) (length l.saved) (in_frame l.places)) l.body.slots
