-- A text is no kept object, so that its change leaves the kept objects as they are.
use Rattle.std.proofs.Common.{◌≡◌, ◌≢◌, ℕ, true, List, Option, Some, None, Err, sym, subst}
use Rattle.std.specs.Prelude.{IfSome, IsSomeAnd}
use Rattle.std.specs.FinMap as finite
use Rattle.pw_io.specs.declared.StoreError.{StoreError}
use Rattle.pw_io.specs.declared.StoreError.TheVariants as store
use Rattle.pw_io.specs.Faults.{OnFailed, OnNoMemory}
use Rattle.pw_io.specs.Files.{Files, Keeps, Told, LeavesFile, PutsPart}
use Rattle.pw_store_texts.specs.Names.{is_text_file}
use Rattle.pw_build_files.specs.Genuine.{KeepsGenuine}

-- files of which only one changed
abbrev pub IsSameBut : List ℕ → Files → Files → Type 0
IsSameBut file old new = (other : List ℕ) → other ≢ file → finite.get new other ≡ finite.get old other

-- a text is no kept object
abbrev pub TextsAreNoObjects : Type 0
TextsAreNoObjects = (file : List ℕ) (old new : Files) → is_text_file file ≡ true → IsSameBut file old new → KeepsGenuine old → KeepsGenuine new

-- ---- over what a store tells

some_is : (new : Option Told) (now : Told) → new ≡ Some now → KeepsGenuine now.files → IfSome new (λ t. KeepsGenuine t.files)
some_is new now e k = subst (λ (o : Option Told). IfSome o (λ t. KeepsGenuine t.files)) (sym e) k

-- the store tells the same
pub same_keeps : (first new : Option Told) → IfSome first (λ told. new ≡ Some told) → IfSome first (λ told. KeepsGenuine told.files → IfSome new (λ now. KeepsGenuine now.files))
same_keeps None new e = tt
same_keeps (Some told) new e = λ k. some_is new told e k

-- it tells files of which only that text changed
pub change_keeps : TextsAreNoObjects → (file : List ℕ) (first new : Option Told) (after : Told → Told) → is_text_file file ≡ true → ((told : Told) → IsSameBut file told.files (after told).files) → IfSome first (λ told. new ≡ Some (after told))
    → IfSome first (λ told. KeepsGenuine told.files → IfSome new (λ now. KeepsGenuine now.files))
change_keeps texts file None new after h same e = tt
change_keeps texts file (Some told) new after h same e = λ k. some_is new (after told) e (texts file told.files (after told).files h (same told) k)

part_told : TextsAreNoObjects → (file text : List ℕ) (told : Told) (new : Option Told) → is_text_file file ≡ true → ((old new : Files) (other : List ℕ) → LeavesFile old new file text → other ≢ file → finite.get new other ≡ finite.get old other)
    → IsSomeAnd new (λ left. (left.puts ≡ told.puts) × LeavesFile told.files left.files file text) → KeepsGenuine told.files → IfSome new (λ now. KeepsGenuine now.files)
part_told texts file text told None h law e k = absurd e
part_told texts file text told (Some left) h law e k = texts file told.files left.files h (λ other ne. law told.files left.files other e.1 ne) k

-- or the text was put in part
part_keeps : TextsAreNoObjects → (file text : List ℕ) (first new : Option Told) → is_text_file file ≡ true → ((old new : Files) (other : List ℕ) → LeavesFile old new file text → other ≢ file → finite.get new other ≡ finite.get old other)
    → IfSome first (λ told. IsSomeAnd new (λ left. (left.puts ≡ told.puts) × LeavesFile told.files left.files file text)) → IfSome first (λ told. KeepsGenuine told.files → IfSome new (λ now. KeepsGenuine now.files))
part_keeps texts file text None new h law e = tt
part_keeps texts file text (Some told) new h law e = λ k. part_told texts file text told new h law e k

-- what a put that was not done left
pub put_error_keeps : TextsAreNoObjects → (file text : List ℕ) (error : StoreError) (first new : Option Told) → is_text_file file ≡ true → ((old after : Files) (name bytes other : List ℕ) → LeavesFile old after name bytes → other ≢ name → finite.get after other ≡ finite.get old other)
    → OnFailed {T = Unit {0}} (Err error) (PutsPart first new file text) → OnNoMemory {T = Unit {0}} (Err error) (Keeps first new) → IfSome first (λ told. KeepsGenuine told.files → IfSome new (λ now. KeepsGenuine now.files))
put_error_keeps texts file text store.Failed first new h law part none = part_keeps texts file text first new h (λ old after other l ne. law old after file text other l ne) part
put_error_keeps texts file text store.NoMemory first new h law part none = same_keeps first new none
