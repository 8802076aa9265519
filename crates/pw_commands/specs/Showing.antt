-- What `list` and `db` come to: the text of the file that stands there.
use Rattle.std.specs.Prelude.{◌≡◌, ℕ, List, [], Option, Result, Ok, Err, Vec}
use Rattle.std.specs.declared.alloc.Global.{Global}
use Rattle.pw_io.specs.Files.{Files}
use Rattle.pw_files.specs.Contents.{value_of}
use Rattle.pw_image.specs.declared.image.Image.{Image}
use Rattle.pw_image.specs.Reading.{image_at}
use Rattle.pw_db.specs.declared.database.Directives.{Directives}
use Rattle.pw_db_file.specs.Reading.{database_file_at, functions_in}
use Rattle.pw_store_modules.specs.FileNames.{database_name, image_name}
use Rattle.pw_list.specs.Listing.{IsListing}
use Rattle.pw_list.specs.DatabaseText.{text_of}
use Rattle.pw_top_answer.specs.declared.answer.Answer.{Answer}
use Rattle.pw_top_answer.specs.declared.answer.Answer.TheVariants.{Done, WriteFault, StoreFault, NoMemory, BadFile}
use Rattle.pw_top_answer.specs.Effects.{Effect, answers_alone, prints}
use Rattle.pw_top_answer.specs.Outcomes.{Answers, PutsOut}
use Rattle.pw_commands.specs.Needed.{StopsAs, needed}
use Rattle.pw_commands.specs.Outcome.{IsFound}

-- the program that stands in `prog.img`
abbrev pub image_in : Files → Result Image Answer
image_in files = needed image_at files image_name

abbrev pub ListOver : Result Image Answer → List ℕ → Effect → Type 0
ListOver (Err answer) input effect = effect ≡ answers_alone answer input
ListOver (Ok image) input effect = (text : List ℕ) × IsListing image text × (effect ≡ prints text input)

-- `list` over a store's files
abbrev pub ListEffect : Files → List ℕ → Effect → Type 0
ListEffect files input effect = ListOver (image_in files) input effect

-- the database that stands in `prog.db`
abbrev pub database_at : List ℕ → Result (List (List ℕ × Directives)) ℕ
database_at bytes = functions_in (value_of (database_file_at bytes))

abbrev pub texted : Result (List (List ℕ × Directives)) Answer → Result (List ℕ) Answer
texted (Ok functions) = Ok (text_of functions)
texted (Err answer) = Err answer

abbrev pub database_text : Files → Result (List ℕ) Answer
database_text files = texted (needed database_at files database_name)

abbrev pub printed : Result (List ℕ) Answer → List ℕ → Effect
printed (Ok text) input = prints text input
printed (Err answer) input = answers_alone answer input

-- `db` over a store's files
abbrev pub DatabaseEffect : Files → List ℕ → Effect → Type 0
DatabaseEffect files input effect = effect ≡ printed (database_text files) input

-- what a command that prints comes to is what was answered and put out; a fault and want of memory may come in its place
pub record Shows (comes : Effect → Type 0) (answer : Answer) (taken taken' : Option (List ℕ)) : Type 0 where
  pub answers : (effect : Effect) → comes effect → Answers effect.answer answer
  pub output : (effect : Effect) → comes effect → PutsOut effect.output answer taken taken'
  pub found : IsFound comes answer

-- the answers of a command that prints
abbrev pub IsShowAnswer : Answer → Type 0
IsShowAnswer Done = Unit {0}
IsShowAnswer WriteFault = Unit {0}
IsShowAnswer StoreFault = Unit {0}
IsShowAnswer NoMemory = Unit {0}
IsShowAnswer (BadFile name at) = Unit {0}
IsShowAnswer _ = ⊥

-- ---- inside

-- the listing of the program that is wanted
abbrev pub IsListed : Result Image Answer → List ℕ → Type 0
IsListed (Ok image) text = IsListing image text
IsListed (Err answer) text = ⊥

-- the same, or the answer in its place
abbrev pub ListsOver : Result Image Answer → Result (Vec ℕ Global) Answer → Type 0
ListsOver wanted (Ok text) = IsListed wanted text.items
ListsOver wanted (Err answer) = StopsAs answer wanted
