-- A text is no object's file, so that its change leaves the kept objects as they are.
use Rattle.std.proofs.Common.{◌≡◌, ◌≢◌, ℕ, List, Option, sym, ap, true, ◌∙◌}
use Rattle.std.specs.FinMap as finite
use Rattle.pw_io.specs.Files.{Files}
use Rattle.pw_store_modules.specs.FileNames.{object_name}
use Rattle.pw_store_texts.specs.Names.{is_text_file}
use Rattle.pw_build_files.specs.Building.{counted, object_in}
use Rattle.pw_build_files.specs.Genuine.{KeepsGenuine}

pub texts_keep : ((file name : List ℕ) → is_text_file file ≡ true → object_name name ≢ file)
    → (file : List ℕ) (old new : Files) → is_text_file file ≡ true → ((other : List ℕ) → other ≢ file → finite.get new other ≡ finite.get old other) → KeepsGenuine old → KeepsGenuine new
texts_keep apart file old new h same kept name object spelled e =
    kept name object spelled (sym (ap (λ (bytes : Option (List ℕ)). object_in (counted bytes)) (same (object_name name) (apart file name h))) ∙ e)
