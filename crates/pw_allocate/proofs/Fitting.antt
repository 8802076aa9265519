-- The parts of a function with places are those of the definition, and they fit.
use Rattle.std.proofs.Common.{◌≡◌, ◌≤◌, ℕ, List, length, refl, ap, arith}
use Rattle.std.specs.Prelude.{Option}
use Rattle.pw_db.specs.Limits.{register_count}
use Rattle.pw_webflow.specs.declared.web.WebFn.{WebFn}
use Rattle.pw_alloc.specs.declared.located.Place.{Place}
use Rattle.pw_alloc.specs.Allocation.{in_frame}
use Rattle.pw_alloc.specs.Frames.{head_size, slots_begin, last_reach}
use Rattle.pw_alloc.specs.ValidPlaces.{IsLocated}
use Rattle.pw_alloc.proofs.SavedLaws.{few_kept}
use Rattle.pw_alloc.proofs.AllocationLaws.{in_frame_within}
use Rattle.pw_alloc_temps.specs.Temporaries.{registers_in, saved_in, placed, allocated}
use Rattle.pw_alloc_temps.proofs.Places.{each_placed}

pub few_saved : (f : WebFn) (saved : List ℕ) → IsLocated (allocated f) → saved ≡ saved_in f (registers_in f) → length saved ≤ register_count
unfolding allocated
few_saved f saved l is =
    let few = few_kept f (saved_in f (registers_in f)) l.saved in
    let same : length saved ≡ length (saved_in f (registers_in f)) = ap length is in
    omega (arith, few, same)

pub few_words : (head saved count : ℕ) (regs : List (Option ℕ)) → count ≡ in_frame (placed head saved 0 regs) → count ≤ length regs
few_words head saved count regs is =
    let few = in_frame_within (placed head saved 0 regs) in
    let each = each_placed head saved 0 regs in
    omega (arith, few, each, is)

pub built : (f : WebFn) (regs : List (Option ℕ)) (saved slots : List ℕ) (places : List Place) (head kept count begin frame : ℕ)
    → regs ≡ registers_in f → saved ≡ saved_in f (registers_in f) → slots ≡ f.slots → head ≡ head_size f → kept ≡ length saved
    → places ≡ placed head kept 0 regs → count ≡ in_frame (placed head kept 0 regs) → begin ≡ slots_begin head kept count → frame ≡ last_reach begin slots
    → (record { body = f; places = places; saved = saved; frame = frame }) ≡ allocated f
unfolding allocated
built f regs saved slots places head kept count begin frame r s l h k p c b e = rw (e, b, c, p, k, h, l, s, r) refl
