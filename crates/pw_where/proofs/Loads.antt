-- Programs that are loaded from the files of images.
use Rattle.std.proofs.Common.{◌≡◌, ℕ, ◌<◌, ◌≤◌, List, [], ◌∷◌, length, Result, Ok, Err, sym, subst, arith}
use Rattle.std.specs.List.{AllByRecursion}
use Rattle.pw_value.specs.Limits.{word_limit}
use Rattle.pw_value.specs.declared.fault.FileError.{FileError}
use Rattle.pw_value.specs.declared.fault.FileError.TheVariants as file
use Rattle.pw_fields.specs.FieldFaults.{FailsFile}
use Rattle.pw_fields.specs.Fields.{FitsU32}
use Rattle.pw_image.specs.declared.image.Image.{Image}
use Rattle.pw_image.specs.declared.image.Function.{Function}
use Rattle.pw_image.specs.Image.{Contents, IsImage, IsInText, IsImageFile}
use Rattle.pw_image.specs.Loading.{FailsLoad}
use Rattle.pw_image.specs.declared.load.LoadError.{LoadError}
use Rattle.pw_image.specs.declared.load.LoadError.TheVariants as load
use Rattle.pw_machine.specs.Stops.{Snapshot, loaded}
use Rattle.pw_where.specs.Calls.{text_end}
use Rattle.pw_where.specs.Looks.{HoldsImage}

pub ok_same : {X Y : Type 0} (x y : X) → ◌≡◌ {A = Result X Y} (Ok x) (Ok y) → y ≡ x
ok_same x y e = cc

-- the file of an image has no fault
pub no_load_fault : (bytes : List ℕ) (error : LoadError) (at : ℕ) → error ≡ load.LoadFault at → HoldsImage bytes → ((c : Contents Image) → IsImageFile bytes c → FailsLoad {Y = Snapshot} error (Ok (loaded c.value))) → ⊥
no_load_fault bytes error at e h only =
    let fails : ◌≡◌ {A = Result Snapshot ℕ} (Ok (loaded h.0.value)) (Err at) = subst (λ (x : LoadError). FailsLoad {Y = Snapshot} x (Ok (loaded h.0.value))) e (only h.0 h.1) in
    cc

pub no_file_fault : (bytes : List ℕ) (error : FileError) (at : ℕ) → error ≡ file.FileFault at → HoldsImage bytes → ((c : Contents Image) → IsImageFile bytes c → FailsFile {Y = Image} error (Ok c.value)) → ⊥
no_file_fault bytes error at e h only =
    let fails : ◌≡◌ {A = Result Image ℕ} (Ok h.0.value) (Err at) = subst (λ (x : FileError). FailsFile {Y = Image} x (Ok h.0.value)) e (only h.0 h.1) in
    cc

all_below : (words : ℕ) (fs : List Function) → words ≤ word_limit → AllByRecursion (λ f. IsInText words f.address × FitsU32 f.frame) fs → AllByRecursion (λ f. f.address < text_end) fs
all_below words [] few all = tt
all_below words (f ∷ fs) few all = (omega (arith, all.0.0.within, few), all_below words fs few all.1)

-- the functions of an image begin in its text
pub functions_within : (bytes : List ℕ) (c : Contents Image) (image : Image) → IsImageFile bytes c → image ≡ c.value → AllByRecursion (λ f. f.address < text_end) image.functions
functions_within bytes c image h same =
    let is : IsImage c.value = h.fits.image in
    subst (λ (v : Image). AllByRecursion (λ f. f.address < text_end) v.functions) (sym same) (all_below (length c.value.memory.words) c.value.functions is.memory.count is.functions)
