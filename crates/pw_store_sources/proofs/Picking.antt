-- Files that are picked by their names, read one after another.
use Rattle.std.proofs.Common.{◌≡◌, ℕ, Bool, true, false, if◌then◌else◌, List, [], ◌∷◌, ◌++◌, Option, Some, None, refl, sym, ap, ◌∙◌, subst, append_assoc, append-nil}
use Rattle.std.specs.Prelude.{IfSome, option_to_list}
use Rattle.std.specs.Option.{option_map}
use Rattle.std.specs.List.{cons_option, filter_map}
use Rattle.pw_cpp_sources.specs.Sources.{Texts}
use Rattle.pw_io.specs.Files.{Files, Told, Keeps, prefix_of}
use Rattle.pw_store_modules.specs.Modules.{text_read}

abbrev pub Found : Type 0
Found = Option (List ℕ × List ℕ)

-- a file that is picked, under a name, with its text
abbrev pub picked : Bool → Option (List ℕ) → List ℕ → Found
picked b o name = if b then option_map (λ text. (name, prefix_of text_read text)) o else None

pub picked-found : (b : Bool) (o : Option (List ℕ)) (name items : List ℕ) → b ≡ true → Some items ≡ option_map (prefix_of text_read) o → ◌≡◌ {A = Found} (Some (name, items)) (picked b o name)
picked-found true None name items e f = cc
picked-found true (Some text) name items e f =
    let same : items ≡ prefix_of text_read text = cc in
    let P : List ℕ → Found = λ x. Some (name, x) in ap P same
picked-found false o name items e f = cc

pub picked-gone : (b : Bool) (o : Option (List ℕ)) (name : List ℕ) → ◌≡◌ {A = Option (List ℕ)} None (option_map (prefix_of text_read) o) → picked b o name ≡ None
picked-gone true None name f = refl
picked-gone true (Some text) name f = cc
picked-gone false o name f = refl

pub picked-none : (b : Bool) (o : Option (List ℕ)) (name : List ℕ) → b ≡ false → picked b o name ≡ None
picked-none true o name e = cc
picked-none false o name e = refl

-- nothing comes behind texts
pub nothing-more : (texts : Texts) (found : Found) → found ≡ None → texts ≡ texts ++ option_to_list found
nothing-more texts found e = sym (append-nil texts) ∙ ap (λ f. texts ++ option_to_list f) (sym e)

joined : (o : Found) (texts : Texts) → cons_option o texts ≡ option_to_list o ++ texts
joined None texts = refl
joined (Some s) texts = refl

module _ (pick : Files → List ℕ → Found) where
  -- the texts so far with one more, before those that are left
  picked_step : (files : Files) (file : List ℕ) (rest left : List (List ℕ)) (old new all : Texts) → old ++ filter_map (pick files) left ≡ all → left ≡ file ∷ rest → new ≡ old ++ option_to_list (pick files file)
      → new ++ filter_map (pick files) rest ≡ all
  picked_step files file rest left old new all inv e f =
      ap (λ xs. xs ++ filter_map (pick files) rest) f ∙ append_assoc old (option_to_list (pick files file)) (filter_map (pick files) rest)
      ∙ ap (λ xs. old ++ xs) (sym (joined (pick files file) (filter_map (pick files) rest)) ∙ ap (filter_map (pick files)) (sym e)) ∙ inv

  -- the step of a loop over files, at a store that tells the same in each turn
  pub picked-turn : (first now : Option Told) (file : List ℕ) (names rest left : List (List ℕ)) (old new : Texts) →
      IfSome first (λ told. old ++ filter_map (pick told.files) left ≡ filter_map (pick told.files) names) → Keeps first now
      → IfSome now (λ told. new ≡ old ++ option_to_list (pick told.files file)) → left ≡ file ∷ rest
      → IfSome first (λ told. new ++ filter_map (pick told.files) rest ≡ filter_map (pick told.files) names)
  picked-turn None now file names rest left old new inv same read e = tt
  picked-turn (Some told) now file names rest left old new inv same read e =
      let P : Option Told → Type 0 = λ o. IfSome o (λ t. new ≡ old ++ option_to_list (pick t.files file)) in
      picked_step told.files file rest left old new (filter_map (pick told.files) names) inv e (subst P same read)
