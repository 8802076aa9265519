-- What a command that prints answered and put out.
use Rattle.std.proofs.Common.{◌≡◌, ℕ, ◌<◌, List, [], ◌∷◌, length, Option, Some, None, Result, Ok, Err, refl, sym, ap, ◌∙◌, subst, append-nil}
use Rattle.std.specs.Prelude.{IfSome, Vec}
use Rattle.std.specs.declared.alloc.Global.{Global}
use Rattle.pw_io.specs.Files.{Files, Told, Keeps}
use Rattle.pw_io.specs.Streams.{Appends}
use Rattle.pw_files.specs.Contents.{value_of}
use Rattle.pw_image.specs.declared.image.Image.{Image}
use Rattle.pw_image.specs.Image.{Contents}
use Rattle.pw_image.specs.Reading.{image_at, image_file_at}
use Rattle.pw_store_modules.specs.FileNames.{image_name}
use Rattle.pw_list.specs.Listing.{IsListing, IsListingOf}
use Rattle.pw_top_answer.specs.declared.answer.Answer.{Answer}
use Rattle.pw_top_answer.specs.declared.answer.Answer.TheVariants.{Done, WriteFault, ReadFault, StoreFault, NoMemory, BadFile}
use Rattle.pw_top_answer.specs.Effects.{Effect, answers_alone, prints}
use Rattle.pw_top_answer.specs.Outcomes.{Answers, IsPrintAnswer, IsWhole, PutsOut}
use Rattle.pw_commands.specs.Needed.{IsBadFile, StopsAs, found_in, needed_bytes, read_by}
use Rattle.pw_commands.specs.Outcome.{IsFileStop, IsFound}
use Rattle.pw_commands.specs.Showing.{DatabaseEffect, IsListed, IsShowAnswer, ListEffect, ListOver, Shows, database_text, image_in, printed}

-- ---- nothing put out

appends_none : (taken : Option (List ℕ)) → Appends taken taken []
appends_none None = tt
appends_none (Some xs) = sym (append-nil xs)

none_out : (answer : Answer) (taken : Option (List ℕ)) → IsWhole answer [] → PutsOut [] answer taken taken
none_out answer taken w = record { output = []; more = []; taken = appends_none taken; front = refl; whole = w }

fault_out : (wanted : List ℕ) (answer : Answer) (taken : Option (List ℕ)) → IsWhole answer wanted → PutsOut wanted answer taken taken
fault_out wanted answer taken w = record { output = []; more = wanted; taken = appends_none taken; front = refl; whole = w }

-- ---- a command that comes to one effect

found_from : (comes : Effect → Type 0) (one : Effect) (answer : Answer) → comes one → Answers one.answer answer → IsFound comes answer
found_from comes one ReadFault c h = (one, c)
found_from comes one WriteFault c h = (one, c)
found_from comes one StoreFault c h = tt
found_from comes one NoMemory c h = tt
found_from comes one _ c h = (one, c, h)

shows_one : (comes : Effect → Type 0) (one : Effect) (answer : Answer) (old new : Option (List ℕ)) → comes one → ((e : Effect) → comes e → e ≡ one) → Answers one.answer answer → PutsOut one.output answer old new → Shows comes answer old new
shows_one comes one answer old new c same h out = record {
  answers = λ e d. subst (λ (x : Effect). Answers x.answer answer) (sym (same e d)) h;
  output = λ e d. subst (λ (x : Effect). PutsOut x.output answer old new) (sym (same e d)) out;
  found = found_from comes one answer c h;
}

print_answers : (answer : Answer) → IsPrintAnswer answer → Answers Done answer
print_answers Done h = refl
print_answers WriteFault h = tt
print_answers NoMemory h = tt
print_answers _ h = absurd h

-- a stop, whatever the command comes to
stop_shows : {V : Type 0} (comes : Effect → Type 0) (answer : Answer) (wanted : Result V Answer) (taken : Option (List ℕ)) (input : List ℕ) → IsFileStop answer → StopsAs answer wanted
    → ((refusal : Answer) → wanted ≡ Err refusal → comes (answers_alone refusal input) × ((e : Effect) → comes e → e ≡ answers_alone refusal input)) → Shows comes answer taken taken
stop_shows comes StoreFault wanted taken input h stops one = record { answers = λ e d. tt; output = λ e d. fault_out e.output StoreFault taken tt; found = tt }
stop_shows comes NoMemory wanted taken input h stops one = record { answers = λ e d. tt; output = λ e d. fault_out e.output NoMemory taken tt; found = tt }
stop_shows comes (BadFile name at) wanted taken input h stops one =
    shows_one comes (answers_alone (BadFile name at) input) (BadFile name at) taken taken (one (BadFile name at) stops).0 (one (BadFile name at) stops).1 refl (none_out (BadFile name at) taken refl)
stop_shows comes _ wanted taken input h stops one = absurd h

-- ---- list

abbrev pub OneListing : Type 0
OneListing = (image : Image) (one other : List ℕ) → IsListing image one → IsListing image other → one ≡ other

list_alone : OneListing → (image : Image) (input text : List ℕ) → IsListing image text → (e : Effect) → ListOver (Ok image) input e → e ≡ prints text input
list_alone one image input text listing e c = c.2 ∙ ap (λ (t : List ℕ). prints t input) (one image c.0 text c.1 listing)

over_listed : OneListing → (wanted : Result Image Answer) (text : List ℕ) (answer : Answer) (old new : Option (List ℕ)) (input : List ℕ) → IsListed wanted text → IsPrintAnswer answer → PutsOut text answer old new → Shows (ListOver wanted input) answer old new
over_listed one (Ok image) text answer old new input listing h out = shows_one (ListOver (Ok image) input) (prints text input) answer old new (text, listing, refl) (list_alone one image input text listing) (print_answers answer h) out
over_listed one (Err refusal) text answer old new input listing h out = absurd listing

pub lists : OneListing → (told : Option Told) (text : List ℕ) (answer : Answer) (old new : Option (List ℕ)) → IfSome told (λ t. IsListed (image_in t.files) text) → IsPrintAnswer answer → PutsOut text answer old new → IfSome told (λ t. (input : List ℕ) → Shows (ListEffect t.files input) answer old new)
lists one None text answer old new listing h out = tt
lists one (Some t) text answer old new listing h out = λ input. over_listed one (image_in t.files) text answer old new input listing h out

refused_list : (wanted : Result Image Answer) (input : List ℕ) (refusal : Answer) → wanted ≡ Err refusal → ListOver wanted input (answers_alone refusal input) × ((e : Effect) → ListOver wanted input e → e ≡ answers_alone refusal input)
refused_list wanted input refusal is =
    let P : Result Image Answer → Type 0 = λ w. ListOver w input (answers_alone refusal input) × ((e : Effect) → ListOver w input e → e ≡ answers_alone refusal input) in
    subst P (sym is) (refl, (λ e d. d))

pub lists_not : (told : Option Told) (answer : Answer) (taken : Option (List ℕ)) → IfSome told (λ t. StopsAs answer (image_in t.files)) → IsFileStop answer → IfSome told (λ t. (input : List ℕ) → Shows (ListEffect t.files input) answer taken taken)
lists_not None answer taken stops h = tt
lists_not (Some t) answer taken stops h = λ input. stop_shows (ListEffect t.files input) answer (image_in t.files) taken input h stops (refused_list (image_in t.files) input)

-- ---- db

over_printed : (wanted : Result (List ℕ) Answer) (text : List ℕ) (answer : Answer) (old new : Option (List ℕ)) (input : List ℕ) → wanted ≡ Ok text → IsPrintAnswer answer → PutsOut text answer old new → Shows (λ e. e ≡ printed wanted input) answer old new
over_printed wanted text answer old new input is h out =
    let P : Result (List ℕ) Answer → Type 0 = λ w. Shows (λ e. e ≡ printed w input) answer old new in
    subst P (sym is) (shows_one (λ e. e ≡ prints text input) (prints text input) answer old new refl (λ e d. d) (print_answers answer h) out)

pub shows_text : (told : Option Told) (text : List ℕ) (answer : Answer) (old new : Option (List ℕ)) → IfSome told (λ t. database_text t.files ≡ Ok text) → IsPrintAnswer answer → PutsOut text answer old new → IfSome told (λ t. (input : List ℕ) → Shows (DatabaseEffect t.files input) answer old new)
shows_text None text answer old new is h out = tt
shows_text (Some t) text answer old new is h out = λ input. over_printed (database_text t.files) text answer old new input is h out

refused_print : (wanted : Result (List ℕ) Answer) (input : List ℕ) (refusal : Answer) → wanted ≡ Err refusal → (answers_alone refusal input ≡ printed wanted input) × ((e : Effect) → e ≡ printed wanted input → e ≡ answers_alone refusal input)
refused_print wanted input refusal is =
    let same : printed wanted input ≡ answers_alone refusal input = ap (λ (w : Result (List ℕ) Answer). printed w input) is in
    (sym same, (λ e d. d ∙ same))

pub shows_not : (told : Option Told) (answer : Answer) (taken : Option (List ℕ)) → IfSome told (λ t. StopsAs answer (database_text t.files)) → IsFileStop answer → IfSome told (λ t. (input : List ℕ) → Shows (DatabaseEffect t.files input) answer taken taken)
shows_not None answer taken stops h = tt
shows_not (Some t) answer taken stops h = λ input. stop_shows (DatabaseEffect t.files input) answer (database_text t.files) taken input h stops (refused_print (database_text t.files) input)

-- ---- what was read

listed_image : (found : Result (Contents Image) ℕ) (text : List ℕ) → IsListingOf found text → IsListed (found_in image_name (value_of found)) text
listed_image (Ok c) text h = h
listed_image (Err at) text h = absurd h

pub listing_needed : (told : Option Told) (bytes text : List ℕ) → IfSome told (λ t. needed_bytes t.files image_name ≡ Ok bytes) → IsListingOf (image_file_at bytes) text → IfSome told (λ t. IsListed (image_in t.files) text)
listing_needed None bytes text h is = tt
listing_needed (Some t) bytes text h is =
    subst (λ (w : Result (List ℕ) Answer). IsListed (read_by image_at image_name w) text) (sym h) (listed_image (image_file_at bytes) text is)

no_contents : (c : Contents Image) (at : ℕ) → ◌≡◌ {A = Result (Contents Image) ℕ} (Ok c) (Err at) → ⊥
no_contents c at e = cc

err_is : (at other : ℕ) → ◌≡◌ {A = Result (Contents Image) ℕ} (Err at) (Err other) → at ≡ other
err_is at other e = cc

fault_image : (found : Result (Contents Image) ℕ) (at : ℕ) → found ≡ Err at → found_in image_name (value_of found) ≡ Err (BadFile image_name (Some at))
fault_image (Ok c) at e = absurd (no_contents c at e)
fault_image (Err other) at e = ap (λ (n : ℕ). Err (BadFile image_name (Some n))) (err_is other at e)

bad_stops : {V : Type 0} (name : List ℕ) (at : ℕ) (answer : Answer) (wanted : Result V Answer) → IsBadFile name (Some at) answer → wanted ≡ Err (BadFile name (Some at)) → StopsAs answer wanted
bad_stops name at StoreFault wanted h e = tt
bad_stops name at NoMemory wanted h e = tt
bad_stops name at _ wanted h e = e ∙ ap (λ (a : Answer). Err a) (sym h)

pub listing_refused : (told : Option Told) (bytes : List ℕ) (at : ℕ) (answer : Answer) → IfSome told (λ t. needed_bytes t.files image_name ≡ Ok bytes) → image_file_at bytes ≡ Err at → IsBadFile image_name (Some at) answer → IfSome told (λ t. StopsAs answer (image_in t.files))
listing_refused None bytes at answer h e bad = tt
listing_refused (Some t) bytes at answer h e bad =
    bad_stops image_name at answer (image_in t.files) bad (ap (read_by image_at image_name) h ∙ fault_image (image_file_at bytes) at e)
