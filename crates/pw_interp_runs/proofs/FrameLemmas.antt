-- The frames of the image that a map was read of.
use Rattle.std.proofs.Common.{◌≡◌, ℕ, List, [], ◌∷◌, Result, Ok, Err, refl, sym, ap, subst, ◌∙◌, map}
use Rattle.pw_image.specs.declared.image.Function.{Function}
use Rattle.pw_image.specs.declared.image.Image.{Image}
use Rattle.pw_image.specs.declared.load.LoadError.{LoadError}
use Rattle.pw_image.specs.declared.load.LoadError.TheVariants as load
use Rattle.pw_image.specs.declared.load.Map.{Map}
use Rattle.pw_image.specs.Image.{Contents, IsImageFile}
use Rattle.pw_image.specs.Loading.{FailsLoad, function_entry, map_of}
use Rattle.pw_interp_runs.specs.Running.{frame_in, frames_of}

of_entries : (fs : List Function) → map frame_in (map function_entry fs) ≡ map (λ (f : Function). (f.name, f.frame)) fs
of_entries [] = refl
of_entries (f ∷ fs) = ap (λ (zs : List (List ℕ × ℕ)). (f.name, f.frame) ∷ zs) (of_entries fs)

is_map : (one other : Map) → ◌≡◌ {A = Result Map ℕ} (Ok one) (Ok other) → one ≡ other
is_map one other e = cc

pub frames_found : (bytes : List ℕ) (m : Map) → ((c : Contents Image) → IsImageFile bytes c → ◌≡◌ {A = Result Map ℕ} (Ok (map_of c.value)) (Ok m)) → (c : Contents Image) → IsImageFile bytes c → map frame_in m.functions ≡ frames_of c.value
frames_found bytes m only c held = ap (λ (k : Map). map frame_in k.functions) (sym (is_map (map_of c.value) m (only c held))) ∙ of_entries c.value.functions

-- no fault is found in an image file
pub no_fault : (error : LoadError) (at : ℕ) (v : Map) → error ≡ load.LoadFault at → FailsLoad {Y = Map} error (Ok v) → ⊥
no_fault error at v e fails =
    let broken : ◌≡◌ {A = Result Map ℕ} (Ok v) (Err at) = subst (λ (x : LoadError). FailsLoad {Y = Map} x (Ok v)) e fails in
    cc
