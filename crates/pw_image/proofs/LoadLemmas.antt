-- What a call that takes an image file answers is what its image comes to.
use Rattle.std.specs.Prelude.{◌≡◌, ℕ, List, Result, Ok, Err, IfOk}
use Rattle.std.proofs.Common.{refl, ap, subst}
use Rattle.pw_fields.specs.FieldLaws.{AreBytes}
use Rattle.pw_image.specs.declared.image.Image.{Image}
use Rattle.pw_image.specs.declared.load.LoadError.{LoadError}
use Rattle.pw_image.specs.Image.{Contents, IsImageFile}
use Rattle.pw_image.specs.Reading.{image_file_at}
use Rattle.pw_image.specs.Loading.{GivesLoad, loaded_as}
use Rattle.pw_image.proofs.ImageLaws.{image_takes, image_again}

loaded_found : {Y : Type 0} (f : Image → Y) (y : Y) (r : Result (Contents Image) ℕ) → loaded_as f r ≡ Ok y → (c : Contents Image) × (r ≡ Ok c) × (y ≡ f c.value)
loaded_found f y (Ok c) e = (c, refl, cc)
loaded_found f y (Err at) e = absurd cc

-- what is loaded is the image's, and the bytes are its file
pub loads : {X Y : Type 0} (view : X → Y) (f : Image → Y) (bytes : List ℕ) (r : Result X LoadError) → AreBytes bytes → GivesLoad view r (loaded_as f (image_file_at bytes)) → IfOk r (λ x. (c : Contents Image) × IsImageFile bytes c × (view x ≡ f c.value))
loads view f bytes (Ok x) fits given =
    let p = loaded_found f (view x) (image_file_at bytes) given in
    (p.0, image_takes bytes p.0 fits p.1, p.2)
loads view f bytes (Err e) fits given = tt

-- the file of an image is loaded
pub loads_again : {X Y : Type 0} (view : X → Y) (f : Image → Y) (bytes : List ℕ) (r : Result X LoadError) → GivesLoad view r (loaded_as f (image_file_at bytes)) → (c : Contents Image) → IsImageFile bytes c → GivesLoad view r (Ok (f c.value))
loads_again view f bytes r given c is = subst (GivesLoad view r) (ap (loaded_as f) (image_again bytes c is)) given
