-- Laws of places.
use Rattle.std.proofs.Common.{ℕ, ◌≤◌, List, [], ◌∷◌, length, arith}
use Rattle.pw_alloc.specs.declared.located.Place.{Place}
use Rattle.pw_alloc.specs.declared.located.Place.TheVariants.{Slot, Reg}
use Rattle.pw_alloc.specs.declared.located.Located.{Located}
use Rattle.pw_alloc.specs.Allocation.{in_frame}
use Rattle.pw_alloc.specs.ValidPlaces.{IsLocated}
use Rattle.pw_alloc.proofs.FrameLaws.{Fits, frame_fits}
use Rattle.pw_alloc.proofs.SavedLaws.{few_kept}

-- no more stand in the frame than there are
pub in_frame_within : (places : List Place) → in_frame places ≤ length places
in_frame_within [] = omega arith
in_frame_within (Slot offset ∷ rest) = let h = in_frame_within rest in omega arith
in_frame_within (Reg r ∷ rest) = let h = in_frame_within rest in omega arith

pub located_fits : (l : Located) → IsLocated l → Fits l.body (length l.saved) (in_frame l.places)
located_fits l h =
    let few = few_kept l.body l.saved h.saved in
    let within = in_frame_within l.places in
    let count = h.count in
    frame_fits l.body (length l.saved) (in_frame l.places) h.body few (omega arith)
