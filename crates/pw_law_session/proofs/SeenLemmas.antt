-- Builds over the files of a store as a build sees them: what is built stands among these as in the store, before a build and behind it.
use Rattle.std.proofs.Common.{◌≡◌, ℕ, cond, List, [], ◌∷◌, Option, Some, Ok, sym, ap, ◌∙◌}
use Rattle.std.specs.Ordering.{nat_cmp, eq_by_cmp}
use Rattle.std.specs.Cmp.Lexicographic.{slice_cmp, nat_list_cmp_total}
use Rattle.std.specs.FinMap as finite
use Rattle.std.specs.FinMap.{get-insert}
use Rattle.pw_io.specs.Files.{Files, Told, after_put}
use Rattle.pw_store_modules.specs.FileNames.{database_name, image_name, object_name}
use Rattle.pw_store_modules.specs.Modules.{module_map}
use Rattle.pw_store_texts.specs.Seen.{IsSeen}
use Rattle.pw_top_answer.specs.Effects.{NamedFile, after_puts}
use Rattle.pw_law_build.specs.Whole.{HoldsFullBuild}
use Rattle.pw_session.specs.FromBuildFiles.Building.{BuildOutcome, Outcome, counted, object_in}
use Rattle.pw_session.specs.FromBuildFiles.Genuine.{KeepsGenuine}
use Rattle.pw_build_opts.specs.declared.opts.Opts.{Opts}

-- the laws on which it stands
pub record Beside : Type 0 where
  pub object : (files shown : Files) (name : List ℕ) → IsSeen files shown → finite.get shown (object_name name) ≡ finite.get files (object_name name)
  pub database : (files shown : Files) → IsSeen files shown → finite.get shown database_name ≡ finite.get files database_name
  pub image : (files shown : Files) → IsSeen files shown → finite.get shown image_name ≡ finite.get files image_name

-- a store that holds the files as they are seen
abbrev pub seen_told : Told → Files → Told
seen_told told shown = record { files = shown; puts = told.puts }

insert_same : (files shown : Files) (name bytes other : List ℕ) → finite.get shown other ≡ finite.get files other → finite.get (finite.insert shown name bytes) other ≡ finite.get (finite.insert files name bytes) other
insert_same files shown name bytes other e =
    get-insert nat_list_cmp_total shown name bytes other ∙ ap (cond (eq_by_cmp (slice_cmp nat_cmp) other name) (Some bytes)) e ∙ sym (get-insert nat_list_cmp_total files name bytes other)

after_same : (told : Told) (shown : Files) (name : List ℕ) (files : List NamedFile) → finite.get shown name ≡ finite.get told.files name → finite.get (after_puts (seen_told told shown) files).files name ≡ finite.get (after_puts told files).files name
after_same told shown name [] e = e
after_same told shown name (file ∷ files) e = after_same (after_put told file.0 file.1) (finite.insert shown file.0 file.1) name files (insert_same told.files shown file.0 file.1 name e)

same_objects : (old new : Files) → ((name : List ℕ) → finite.get new (object_name name) ≡ finite.get old (object_name name)) → KeepsGenuine old → KeepsGenuine new
same_objects old new same keeps name object named e = keeps name object named (sym (ap (λ (bytes : Option (List ℕ)). object_in (counted bytes)) (same name)) ∙ e)

pub keeps_seen : Beside → (files shown : Files) → IsSeen files shown → KeepsGenuine files → KeepsGenuine shown
keeps_seen beside files shown is keeps = same_objects files shown (λ name. beside.object files shown name is) keeps

pub leaves_seen : Beside → ((told : Told) (opts : Opts) (outcome : Outcome) → KeepsGenuine told.files → BuildOutcome told.files opts (Ok outcome) → KeepsGenuine (after_puts told outcome.puts).files)
    → (told : Told) (opts : Opts) (outcome : Outcome) (shown : Files) → IsSeen told.files shown → KeepsGenuine told.files → BuildOutcome shown opts (Ok outcome) → KeepsGenuine (after_puts told outcome.puts).files
leaves_seen beside leaves told opts outcome shown is keeps h =
    same_objects (after_puts (seen_told told shown) outcome.puts).files (after_puts told outcome.puts).files
    (λ name. sym (after_same told shown (object_name name) outcome.puts (beside.object told.files shown name is)))
    (leaves (seen_told told shown) opts outcome (keeps_seen beside told.files shown is keeps) h)

pub whole_seen : Beside → ((told : Told) (opts : Opts) (outcome : Outcome) → KeepsGenuine told.files → BuildOutcome told.files opts (Ok outcome) → HoldsFullBuild (module_map told.files) opts (after_puts told outcome.puts).files)
    → (told : Told) (opts : Opts) (outcome : Outcome) (shown : Files) → IsSeen told.files shown → KeepsGenuine told.files → BuildOutcome shown opts (Ok outcome) → HoldsFullBuild (module_map shown) opts (after_puts told outcome.puts).files
whole_seen beside whole told opts outcome shown is keeps h =
    let w = whole (seen_told told shown) opts outcome (keeps_seen beside told.files shown is keeps) h in (
      w.0,
      w.1,
      record {
        database = w.2.database;
        database_file = w.2.database_file;
        database_stands = sym (after_same told shown database_name outcome.puts (beside.database told.files shown is)) ∙ w.2.database_stands;
        image = w.2.image;
        image_file = w.2.image_file;
        image_stands = sym (after_same told shown image_name outcome.puts (beside.image told.files shown is)) ∙ w.2.image_stands;
      },
    )
