-- What `link` comes to: the image of the modules' objects.
use Rattle.std.specs.Prelude.{◌≡◌, ℕ, ◌⊎◌, nat_le, List, [], ◌∷◌, ◌++◌, length, map, if◌then◌else◌, Result, Ok, Err, Vec}
use Rattle.std.specs.declared.alloc.Global.{Global}
use Rattle.pw_io.specs.Files.{Files}
use Rattle.pw_value.specs.Limits.{module_limit}
use Rattle.pw_value.specs.declared.fault.LinkFault.{LinkFault}
use Rattle.pw_value.specs.declared.fault.LinkFault.TheVariants.{TooMany}
use Rattle.pw_value.specs.declared.fault.What.TheVariants.{Modules}
use Rattle.pw_files.specs.Contents.{value_of}
use Rattle.pw_object.specs.declared.object.Object.{Object}
use Rattle.pw_object.specs.Reading.{object_file_at}
use Rattle.pw_image.specs.Image.{IsImageFile}
use Rattle.pw_link.specs.Linking.{linked, AreLinked, IsRefusal}
use Rattle.pw_store_modules.specs.FileNames.{image_name, object_ending}
use Rattle.pw_store_texts.specs.Named.{names_of_texts}
use Rattle.pw_top_answer.specs.declared.answer.Answer.{Answer}
use Rattle.pw_top_answer.specs.declared.answer.Answer.TheVariants.{LinkRefused, StoreFault, NoMemory}
use Rattle.pw_top_answer.specs.Effects.{Effect, answers_alone, puts_files}
use Rattle.pw_commands.specs.Needed.{all_needed}

-- the modules' names, in byte order, where there are not too many
abbrev pub few_names : Files → Result (List (List ℕ)) Answer
few_names files =
    if nat_le (length (names_of_texts files)) module_limit
    then Ok (names_of_texts files)
    else Err (LinkRefused (TooMany Modules (length (names_of_texts files))))

-- what stands in the files of one kind of modules with these names, in their order
abbrev pub of_names : {V : Type 0} → (List ℕ → Result V ℕ) → List ℕ → Files → Result (List (List ℕ)) Answer → Result (List V) Answer
of_names reader ending files (Ok names) = all_needed reader files (map (λ name. name ++ ending) names)
of_names reader ending files (Err answer) = Err answer

-- what stands in an object's file
abbrev pub object_at : List ℕ → Result Object ℕ
object_at bytes = value_of (object_file_at bytes)

-- the objects of all modules; or that there are too many modules, or the first object's file that is absent or refused
abbrev pub objects_of : Files → Result (List Object) Answer
objects_of files = of_names object_at object_ending files (few_names files)

-- the file of the linked image
abbrev pub IsImageOf : List Object → ℕ → List ℕ → Type 0
IsImageOf objects stack bytes = (names : List (List ℕ)) × IsImageFile bytes (record { names = names; value = linked objects stack })

-- objects come to their image, which is put, or to the refusal that is due
abbrev pub EffectOfObjects : List Object → ℕ → List ℕ → Effect → Type 0
EffectOfObjects objects stack input effect =
    ((fault : LinkFault) × IsRefusal objects stack fault × (effect ≡ answers_alone (LinkRefused fault) input))
    ⊎ (AreLinked objects stack × ((bytes : List ℕ) × IsImageOf objects stack bytes × (effect ≡ puts_files ((image_name, bytes) ∷ []) input)))

abbrev pub LinkOver : Result (List Object) Answer → ℕ → List ℕ → Effect → Type 0
LinkOver (Err answer) stack input effect = effect ≡ answers_alone answer input
LinkOver (Ok objects) stack input effect = EffectOfObjects objects stack input effect

-- `link` over a store's files, with a stack of so many bytes
abbrev pub LinkEffect : Files → ℕ → List ℕ → Effect → Type 0
LinkEffect files stack input effect = LinkOver (objects_of files) stack input effect

-- ---- inside the command

-- the image's file, or the answer in its place
abbrev pub LinksInto : List Object → ℕ → Result (Vec ℕ Global) Answer → Type 0
LinksInto objects stack (Ok bytes) = AreLinked objects stack × IsImageOf objects stack bytes.items
LinksInto objects stack (Err NoMemory) = Unit {0}
LinksInto objects stack (Err (LinkRefused fault)) = IsRefusal objects stack fault
LinksInto objects stack (Err _) = ⊥

-- the file of the image of the objects that are wanted
abbrev pub LinkedFile : Result (List Object) Answer → ℕ → List ℕ → Type 0
LinkedFile (Ok objects) stack bytes = AreLinked objects stack × IsImageOf objects stack bytes
LinkedFile (Err refusal) stack bytes = ⊥

-- the refusal of the objects that are wanted, or that in their place
abbrev pub RefusesLink : Result (List Object) Answer → ℕ → Answer → Type 0
RefusesLink (Ok objects) stack (LinkRefused fault) = IsRefusal objects stack fault
RefusesLink (Ok objects) stack _ = ⊥
RefusesLink (Err refusal) stack answer = answer ≡ refusal

abbrev pub LinksOver : Result (List Object) Answer → ℕ → Result (Vec ℕ Global) Answer → Type 0
LinksOver wanted stack (Ok bytes) = LinkedFile wanted stack bytes.items
LinksOver wanted stack (Err StoreFault) = Unit {0}
LinksOver wanted stack (Err NoMemory) = Unit {0}
LinksOver wanted stack (Err answer) = RefusesLink wanted stack answer
