-- The frames that functions take on the stack, by a list of them.
use Rattle.std.specs.Prelude.{ℕ, List, map, position, slice_get, option_and_then, unwrap_or}
use Rattle.std.specs.Str.{bytes_eq}

-- by a list of names and one of sizes
abbrev pub frame_in : List (List ℕ) → List ℕ → List ℕ → ℕ
frame_in names sizes name = unwrap_or (option_and_then (slice_get sizes) (position (bytes_eq name) names)) 0

-- of several of the same name the first; of a function that is not named 0
abbrev pub frame_among : List (List ℕ × ℕ) → List ℕ → ℕ
frame_among frames = frame_in (map (λ f. f.0) frames) (map (λ f. f.1) frames)
