-- The files of a store as a build sees them, by what comes of its C sources.
use Rattle.std.proofs.Common.{◌≡◌, inl, inr, ℕ, cond, Bool, true, false, if◌then◌else◌, List, [], ◌∷◌, Option, Some, refl, sym, ap, ◌∙◌}
use Rattle.std.specs.Ordering.{nat_cmp, eq_by_cmp}
use Rattle.std.specs.Cmp.Lexicographic.{slice_cmp, nat_list_cmp_total}
use Rattle.std.specs.FinMap as finite
use Rattle.std.specs.FinMap.{get-insert}
use Rattle.pw_io.specs.Files.{Files}
use Rattle.pw_store_modules.specs.FileNames.{database_name, image_name, object_name, text_name}
use Rattle.pw_store_modules.specs.Modules.{Source, modules_of}
use Rattle.pw_store_texts.specs.Bytes.{is_crowded}
use Rattle.pw_store_texts.specs.Seen as seen
use Rattle.pw_store_texts.specs.Seen.{IsSeen, Outputs, StoreComes, first_name, refused, refused_text, seen_text, within_bytes}
use Rattle.pw_build_files.specs.Genuine.{IsBuiltName}

-- the files as a build sees them, where its sources come to these outputs
abbrev pub shown_by : Files → Outputs → Files
shown_by files outputs = within_bytes files (seen.seen files outputs)

pub is_shown : (files : Files) (outputs : Outputs) → StoreComes files outputs → IsSeen files (shown_by files outputs)
is_shown files outputs comes = (outputs, comes, refl)

pub insert_alike : (files others : Files) (name bytes other : List ℕ) → finite.get files other ≡ finite.get others other → finite.get (finite.insert files name bytes) other ≡ finite.get (finite.insert others name bytes) other
insert_alike files others name bytes other e =
    get-insert nat_list_cmp_total files name bytes other ∙ ap (cond (eq_by_cmp (slice_cmp nat_cmp) other name) (Some bytes)) e ∙ sym (get-insert nat_list_cmp_total others name bytes other)

pub seen_alike : (files others : Files) (outputs : Outputs) (name : List ℕ) → finite.get files name ≡ finite.get others name → finite.get (seen.seen files outputs) name ≡ finite.get (seen.seen others outputs) name
seen_alike files others [] name e = e
seen_alike files others (o ∷ outputs) name e =
    seen_alike (finite.insert files (text_name o.0) (seen_text o.1)) (finite.insert others (text_name o.0) (seen_text o.1)) outputs name (insert_alike files others (text_name o.0) (seen_text o.1) name e)

-- the first module has a text that no module may have
refused_alike : (b : Bool) (files others : Files) (other : List ℕ) → modules_of files ≡ modules_of others → finite.get files other ≡ finite.get others other
    → finite.get (if b then refused files else files) other ≡ finite.get (if b then refused others else others) other
refused_alike true files others other same e =
    ap (λ (sources : List Source). finite.get (finite.insert files (text_name (first_name sources)) refused_text) other) same
    ∙ insert_alike files others (text_name (first_name (modules_of others))) refused_text other e
refused_alike false files others other same e = e

-- one file more, which is neither counted nor a module's text
pub shown_alike : (files : Files) (outputs : Outputs) (name bytes other : List ℕ) → is_crowded (finite.insert files name bytes) ≡ is_crowded files
    → modules_of (seen.seen (finite.insert files name bytes) outputs) ≡ modules_of (seen.seen files outputs) → finite.get (finite.insert files name bytes) other ≡ finite.get files other
    → finite.get (shown_by (finite.insert files name bytes) outputs) other ≡ finite.get (shown_by files outputs) other
shown_alike files outputs name bytes other crowded same e =
    let new : Files = seen.seen (finite.insert files name bytes) outputs in
    ap (λ (b : Bool). finite.get (if b then refused new else new) other) crowded
    ∙ refused_alike (is_crowded files) new (seen.seen files outputs) other same (seen_alike (finite.insert files name bytes) files outputs other e)

-- the text in the place of a fault
either : (b : Bool) (o : Option (List ℕ)) → o ≡ Some refused_text → cond b (Some refused_text) o ≡ Some refused_text
either true o e = refl
either false o e = e

refused_still : (b : Bool) (files : Files) (name : List ℕ) → finite.get files name ≡ Some refused_text → finite.get (if b then refused files else files) name ≡ Some refused_text
refused_still true files name e =
    let first : List ℕ = text_name (first_name (modules_of files)) in
    get-insert nat_list_cmp_total files first refused_text name ∙ either (eq_by_cmp (slice_cmp nat_cmp) name first) (finite.get files name) e
refused_still false files name e = e

pub shown_refused : (files : Files) (outputs : Outputs) (name : List ℕ) → finite.get (seen.seen files outputs) (text_name name) ≡ Some refused_text → finite.get (shown_by files outputs) (text_name name) ≡ Some refused_text
shown_refused files outputs name e = refused_still (is_crowded files) (seen.seen files outputs) (text_name name) e

-- ---- what is built stands as in the store

pub record Beside : Type 0 where
  pub object : (files shown : Files) (name : List ℕ) → IsSeen files shown → finite.get shown (object_name name) ≡ finite.get files (object_name name)
  pub database : (files shown : Files) → IsSeen files shown → finite.get shown database_name ≡ finite.get files database_name
  pub image : (files shown : Files) → IsSeen files shown → finite.get shown image_name ≡ finite.get files image_name

pub built_seen : Beside → (files shown : Files) (name : List ℕ) → IsBuiltName name → IsSeen files shown → finite.get shown name ≡ finite.get files name
built_seen beside files shown name (inl m) is = ap (finite.get shown) m.1 ∙ beside.object files shown m.0 is ∙ ap (finite.get files) (sym m.1)
built_seen beside files shown name (inr (inl e)) is = ap (finite.get shown) e ∙ beside.database files shown is ∙ ap (finite.get files) (sym e)
built_seen beside files shown name (inr (inr e)) is = ap (finite.get shown) e ∙ beside.image files shown is ∙ ap (finite.get files) (sym e)
