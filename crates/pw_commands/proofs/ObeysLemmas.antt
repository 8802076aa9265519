-- What a command answered and put, by the one effect to which it comes.
use Rattle.std.proofs.Common.{◌≡◌, ℕ, ⊎_elim, inl, inr, List, [], ◌∷◌, Option, Some, None, Result, Ok, Err, refl, sym, ap, ◌∙◌, subst}
use Rattle.std.specs.Prelude.{IfSome, Vec}
use Rattle.std.specs.declared.alloc.Global.{Global}
use Rattle.pw_io.specs.Files.{Files, Told, Keeps}
use Rattle.pw_value.specs.declared.fault.LinkFault.{LinkFault}
use Rattle.pw_object.specs.declared.object.Object.{Object}
use Rattle.pw_image.specs.declared.image.Image.{Image}
use Rattle.pw_image.specs.Image.{Contents, IsImageFile}
use Rattle.pw_link.specs.Linking.{linked, AreLinked, IsRefusal}
use Rattle.pw_store_modules.specs.FileNames.{image_name}
use Rattle.pw_top_answer.specs.declared.answer.Answer.{Answer}
use Rattle.pw_top_answer.specs.declared.answer.Answer.TheVariants.{Done, LinkRefused, ReadFault, WriteFault, StoreFault, NoMemory, BadFile}
use Rattle.pw_top_answer.specs.Effects.{Effect, NamedFile, PutsFiles, PutPart, PutPrefix, IsLeft, answers_alone, puts_files}
use Rattle.pw_top_answer.specs.Outcomes.{Answers}
use Rattle.pw_commands.specs.Needed.{StopsAs}
use Rattle.pw_commands.specs.Outcome.{IsFound, IsPutAnswer, IsStop, Obeys}
use Rattle.pw_commands.specs.Linking.{EffectOfObjects, IsImageOf, LinkEffect, LinkOver, LinkedFile, LinksInto, LinksOver, RefusesLink, objects_of}

found_from : (comes : Effect → Type 0) (one : Effect) (answer : Answer) → comes one → Answers one.answer answer → IsFound comes answer
found_from comes one ReadFault c h = (one, c)
found_from comes one WriteFault c h = (one, c)
found_from comes one StoreFault c h = tt
found_from comes one NoMemory c h = tt
found_from comes one _ c h = (one, c, h)

-- a command that comes to exactly one effect
pub obeys_one : (comes : Effect → Type 0) (one : Effect) (answer : Answer) (told : Told) (new : Option Told) → comes one → ((e : Effect) → comes e → e ≡ one) → Answers one.answer answer → PutsFiles one.puts answer told new → Obeys comes answer told new
obeys_one comes one answer told new c same h puts = record {
  answers = λ e d. subst (λ (x : Effect). Answers x.answer answer) (sym (same e d)) h;
  puts = λ e d. subst (λ (x : Effect). PutsFiles x.puts answer told new) (sym (same e d)) puts;
  found = found_from comes one answer c h;
}

-- nothing was put so far
none_left : (told : Told) (files : List NamedFile) (new : Option Told) → new ≡ Some told → IsLeft told files new
none_left told [] new e = e
none_left told (file ∷ files) new e = inl e

pub obeys_fault : (comes : Effect → Type 0) (told : Told) (new : Option Told) → new ≡ Some told → Obeys comes StoreFault told new
obeys_fault comes told new e = record {
  answers = λ x d. tt;
  puts = λ x d. record { done = []; more = x.puts; split = refl; left = none_left told x.puts new e };
  found = tt;
}

pub obeys_no_memory : (comes : Effect → Type 0) (told : Told) (new : Option Told) → new ≡ Some told → Obeys comes NoMemory told new
obeys_no_memory comes told new e = record {
  answers = λ x d. tt;
  puts = λ x d. record { done = []; more = x.puts; split = refl; left = e };
  found = tt;
}

-- ---- link

-- two images of one program have one file
abbrev pub OneFile : Type 0
OneFile = (bytes others : List ℕ) (c d : Contents Image) → IsImageFile bytes c → IsImageFile others d → c.value ≡ d.value → bytes ≡ others

abbrev pub NotBoth : Type 0
NotBoth = (objects : List Object) (stack : ℕ) (fault : LinkFault) → AreLinked objects stack → ¬ IsRefusal objects stack fault

abbrev pub OneFault : Type 0
OneFault = (objects : List Object) (stack : ℕ) (fault other : LinkFault) → IsRefusal objects stack fault → IsRefusal objects stack other → fault ≡ other

linked_alone : OneFile → NotBoth → (objects : List Object) (stack : ℕ) (input bytes : List ℕ) → AreLinked objects stack → IsImageOf objects stack bytes → (e : Effect) → EffectOfObjects objects stack input e → e ≡ puts_files ((image_name, bytes) ∷ []) input
linked_alone one not_both objects stack input bytes linked image e c =
    ⊎_elim {C = e ≡ puts_files ((image_name, bytes) ∷ []) input}
    (λ r. absurd (not_both objects stack r.0 linked r.1))
    (λ l. l.1.2 ∙ ap (λ (b : List ℕ). puts_files ((image_name, b) ∷ []) input) (one l.1.0 bytes _ _ l.1.1.1 image.1 refl))
    c

pub put_answers : (answer : Answer) → IsPutAnswer answer → Answers Done answer
put_answers Done h = refl
put_answers StoreFault h = tt
put_answers NoMemory h = tt
put_answers _ h = absurd h

over_linked : OneFile → NotBoth → (wanted : Result (List Object) Answer) (stack : ℕ) (bytes : List ℕ) (answer : Answer) (told : Told) (new : Option Told) (input : List ℕ) → LinkedFile wanted stack bytes → IsPutAnswer answer → PutsFiles ((image_name, bytes) ∷ []) answer told new → Obeys (LinkOver wanted stack input) answer told new
over_linked one not_both (Ok objects) stack bytes answer told new input image h puts =
    obeys_one (LinkOver (Ok objects) stack input) (puts_files ((image_name, bytes) ∷ []) input) answer told new (inr (image.0, (bytes, image.1, refl)))
    (linked_alone one not_both objects stack input bytes image.0 image.1) (put_answers answer h) puts
over_linked one not_both (Err refusal) stack bytes answer told new input image h puts = absurd image

-- the image was put, as far as the store put it
pub obeys_linked : OneFile → NotBoth → (first now new : Option Told) (stack : ℕ) (bytes : List ℕ) (answer : Answer) → IfSome first (λ t. LinkedFile (objects_of t.files) stack bytes) → Keeps first now
    → IfSome now (λ t. PutsFiles ((image_name, bytes) ∷ []) answer t new) → IsPutAnswer answer → IfSome first (λ t. (input : List ℕ) → Obeys (LinkEffect t.files stack input) answer t new)
obeys_linked one not_both None now new stack bytes answer image same puts h = tt
obeys_linked one not_both (Some told) now new stack bytes answer image same puts h =
    let P : Option Told → Type 0 = λ o. IfSome o (λ t. PutsFiles ((image_name, bytes) ∷ []) answer t new) in
    λ input. over_linked one not_both (objects_of told.files) stack bytes answer told new input image h (subst P same puts)

refused_alone : NotBoth → OneFault → (objects : List Object) (stack : ℕ) (input : List ℕ) (fault : LinkFault) → IsRefusal objects stack fault → (e : Effect) → EffectOfObjects objects stack input e → e ≡ answers_alone (LinkRefused fault) input
refused_alone not_both one objects stack input fault refusal e c =
    ⊎_elim {C = e ≡ answers_alone (LinkRefused fault) input}
    (λ r. r.2 ∙ ap (λ (f : LinkFault). answers_alone (LinkRefused f) input) (one objects stack r.0 fault r.1 refusal))
    (λ l. absurd (not_both objects stack fault l.0 refusal))
    c

pub stop_is_answer : (answer : Answer) → IsStop answer → Answers answer answer
stop_is_answer StoreFault h = tt
stop_is_answer NoMemory h = tt
stop_is_answer ReadFault h = tt
stop_is_answer WriteFault h = tt
stop_is_answer _ h = refl

-- what a refusal puts
pub puts_none : (answer : Answer) (told : Told) (new : Option Told) → new ≡ Some told → PutsFiles [] answer told new
puts_none StoreFault told new e = record { done = []; more = []; split = refl; left = e }
puts_none NoMemory told new e = record { done = []; more = []; split = refl; left = e }
puts_none _ told new e = e

over_refused : NotBoth → OneFault → (wanted : Result (List Object) Answer) (stack : ℕ) (answer : Answer) (told : Told) (new : Option Told) (input : List ℕ) → IsStop answer → RefusesLink wanted stack answer → new ≡ Some told → Obeys (LinkOver wanted stack input) answer told new
over_refused not_both one (Err refusal) stack answer told new input h is e =
    obeys_one (LinkOver (Err refusal) stack input) (answers_alone refusal input) answer told new refl (λ x d. d) (subst (λ (a : Answer). Answers a answer) is (stop_is_answer answer h)) (puts_none answer told new e)
over_refused not_both one (Ok objects) stack (LinkRefused fault) told new input h is e =
    obeys_one (LinkOver (Ok objects) stack input) (answers_alone (LinkRefused fault) input) (LinkRefused fault) told new (inl (fault, is, refl)) (refused_alone not_both one objects stack input fault is) refl e
over_refused not_both one (Ok objects) stack _ told new input h is e = absurd is

by_answer : NotBoth → OneFault → (wanted : Result (List Object) Answer) (stack : ℕ) (answer : Answer) (told : Told) (new : Option Told) (input : List ℕ) → IsStop answer → LinksOver wanted stack (Err answer) → new ≡ Some told → Obeys (LinkOver wanted stack input) answer told new
by_answer not_both one wanted stack StoreFault told new input h is e = obeys_fault (LinkOver wanted stack input) told new e
by_answer not_both one wanted stack NoMemory told new input h is e = obeys_no_memory (LinkOver wanted stack input) told new e
by_answer not_both one wanted stack _ told new input h is e = over_refused not_both one wanted stack _ told new input h is e

-- the objects were refused, or something stood in their place
pub obeys_refused : NotBoth → OneFault → (first new : Option Told) (stack : ℕ) (answer : Answer) → IfSome first (λ t. LinksOver (objects_of t.files) stack (Err answer)) → Keeps first new → IsStop answer → IfSome first (λ t. (input : List ℕ) → Obeys (LinkEffect t.files stack input) answer t new)
obeys_refused not_both one None new stack answer is same h = tt
obeys_refused not_both one (Some told) new stack answer is same h = λ input. by_answer not_both one (objects_of told.files) stack answer told new input h is same

-- ---- inside

refused_is : (stack : ℕ) (answer : Answer) (wanted : Result (List Object) Answer) → wanted ≡ Err answer → RefusesLink wanted stack answer
refused_is stack answer wanted e = subst (λ (w : Result (List Object) Answer). RefusesLink w stack answer) (sym e) refl

stops_over : (stack : ℕ) (answer : Answer) (wanted : Result (List Object) Answer) → StopsAs answer wanted → LinksOver wanted stack (Err answer)
stops_over stack StoreFault wanted h = tt
stops_over stack NoMemory wanted h = tt
stops_over stack _ wanted h = refused_is stack _ wanted h

pub stopped_over : (first : Option Told) (stack : ℕ) (answer : Answer) → IfSome first (λ t. StopsAs answer (objects_of t.files)) → IfSome first (λ t. LinksOver (objects_of t.files) stack (Err answer))
stopped_over None stack answer h = tt
stopped_over (Some t) stack answer h = stops_over stack answer (objects_of t.files) h

into_over : (objects : List Object) (stack : ℕ) (result : Result (Vec ℕ Global) Answer) → LinksInto objects stack result → LinksOver (Ok objects) stack result
into_over objects stack (Ok bytes) h = h
into_over objects stack (Err NoMemory) h = tt
into_over objects stack (Err (LinkRefused fault)) h = h
into_over objects stack (Err _) h = absurd h

pub linked_over : (first : Option Told) (stack : ℕ) (objects : List Object) (result : Result (Vec ℕ Global) Answer) → IfSome first (λ t. objects_of t.files ≡ Ok objects) → LinksInto objects stack result → IfSome first (λ t. LinksOver (objects_of t.files) stack result)
linked_over None stack objects result e h = tt
linked_over (Some t) stack objects result e h = subst (λ (w : Result (List Object) Answer). LinksOver w stack result) (sym e) (into_over objects stack result h)
