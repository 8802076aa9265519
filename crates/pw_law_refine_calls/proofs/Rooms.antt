-- Room on the stack: both runs count the frames of the active functions alike.
use Rattle.std.proofs.Common.{◌≡◌, ℕ, ◌+◌, List, [], ◌∷◌, map, sum_by, refl, ap, sym, ◌∙◌}
use Rattle.std.proofs.lemmas.List.Sums.{sum_by-cons}
use Rattle.pw_cmean.specs.Worlds.{World, depth}
use Rattle.pw_cmean.specs.Acts.{State}
use Rattle.pw_run_languages.specs.FlowRun as flow
use Rattle.pw_run_languages.specs.FlowRun.{Frame, Machine}
use Rattle.pw_law_refine.specs.Activations.{graphs}
use Rattle.pw_law_refine.specs.Matching.{Matches}
use Rattle.pw_law_refine.specs.Standing.{Spot}

abbrev pub name_of : Frame → List ℕ
name_of f = f.function.name

rooms-same : (world : World) (frames : List Frame) → depth world (map name_of frames) ≡ sum_by (λ (f : Frame). world.frame_of f.function.name) frames
rooms-same world [] = refl
rooms-same world (f ∷ fs) =
    ap (λ (k : ℕ). world.frame_of f.function.name + k) (rooms-same world fs) ∙ sym (sum_by-cons (λ (f : Frame). world.frame_of f.function.name) f fs)

pub room-same : (world : World) (spots : List Spot) (s : State) (m : Machine) (name : List ℕ) → Matches world spots s m
    → depth world (name ∷ s.active) ≡ world.frame_of name + flow.depth (graphs world) m
room-same world spots s m name h =
    ap (λ (active : List (List ℕ)). world.frame_of name + depth world active) h.active
    ∙ ap (λ (k : ℕ). world.frame_of name + (world.frame_of m.frame.function.name + k)) (rooms-same world m.callers)
