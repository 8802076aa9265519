-- What `phase2` answered and put, by the one object of the flow graph under the database.
use Rattle.std.proofs.Common.{◌≡◌, ℕ, inl, inr, List, [], ◌∷◌, All, map, Option, Some, None, Result, Ok, Err, refl, sym, ap, ◌∙◌, subst, append-nil}
use Rattle.std.specs.Prelude.{IfOk, IfSome, Vec}
use Rattle.std.specs.declared.alloc.Global.{Global}
use Rattle.pw_io.specs.Files.{Told, Keeps}
use Rattle.pw_flow.specs.declared.flow.FlowModule.{FlowModule}
use Rattle.pw_db.specs.declared.database.Directives.{Directives}
use Rattle.pw_db.specs.Database.{HasDirectives, IsDatabase}
use Rattle.pw_object.specs.declared.object.Object.{Object}
use Rattle.pw_object.specs.Object.{IsObjectFile}
use Rattle.pw_phase_two.specs.Phases.{IsObjectOf}
use Rattle.pw_store_modules.specs.FileNames.{database_name, flow_name, object_name}
use Rattle.pw_top_answer.specs.declared.answer.Answer.{Answer}
use Rattle.pw_top_answer.specs.declared.answer.Answer.TheVariants.{Done, StoreFault, NoMemory, BadFile}
use Rattle.pw_top_answer.specs.Effects.{Effect, IsLeft, NamedFile, PutPrefix, PutPart, PutsFiles, after_puts, answers_alone, puts_files}
use Rattle.pw_top_answer.specs.Outcomes.{Answers}
use Rattle.pw_commands.specs.Needed.{StopsAs, needed}
use Rattle.pw_commands.specs.Outcome.{IsFileStop, IsPutAnswer, IsStoreAnswer, Obeys}
use Rattle.pw_commands.proofs.ObeysLemmas.{obeys_fault, obeys_no_memory, obeys_one, put_answers, puts_none}
use Rattle.pw_commands.specs.Showing.{database_at}
use Rattle.pw_commands_phases.specs.Second.{EffectOfFlow, IsFileOfFlow, IsMade, IsMadeFile, IsObjectUnder, PhaseTwoEffect, PhaseTwoOver, PutsMade, flow_at}
use Rattle.pw_commands_phases.specs.Made.{AnswersFlow, IsOfFlow, MakesObject}

abbrev Db : Type 0
Db = List (List ℕ × Directives)

-- the laws on which it stands: one list of directives, one object, one file of it
pub record Laws : Type 0 where
  pub directives : (fs : Db) → IsDatabase fs → (gs hs : Db) → All (HasDirectives fs) gs → All (HasDirectives fs) hs → map (λ f. f.0) gs ≡ map (λ f. f.0) hs → gs ≡ hs
  pub object : (m : FlowModule) (ds : Db) (o p : Object) → IsObjectOf m ds o → IsObjectOf m ds p → o ≡ p
  pub file : (bytes others : List ℕ) (o : Object) → IsObjectFile bytes o → IsObjectFile others o → bytes ≡ others

one_object : Laws → (flow : FlowModule) (db : Db) (o p : Object) → IsDatabase db → IsObjectUnder flow db o → IsObjectUnder flow db p → p ≡ o
one_object laws flow db o p lawful a b =
    let directives : b.directives ≡ a.directives = laws.directives db lawful b.directives a.directives b.of_database.each a.of_database.each (b.of_database.of_module.functions ∙ sym a.of_database.of_module.functions) in
    laws.object flow a.directives p o (subst (λ (ds : Db). IsObjectOf flow ds p) directives b.of_flow) a.of_flow

one_file : Laws → (flow : FlowModule) (db : Db) (bytes others : List ℕ) → IsFileOfFlow flow db bytes → IsFileOfFlow flow db others → others ≡ bytes
one_file laws flow db bytes others a b =
    laws.file others bytes a.object (subst (IsObjectFile others) (one_object laws flow db a.object b.object a.lawful a.made b.made) b.file) a.file

made_alone : Laws → (name : List ℕ) (flow : FlowModule) (db : Db) (input bytes : List ℕ) → IsFileOfFlow flow db bytes → (e : Effect) → EffectOfFlow name flow db input e → e ≡ puts_files ((object_name name, bytes) ∷ []) input
made_alone laws name flow db input bytes is e (others, file, same) =
    same ∙ ap (λ (b : List ℕ). puts_files ((object_name name, b) ∷ []) input) (one_file laws flow db bytes others is file)

over_made : Laws → (name : List ℕ) (flow : Result FlowModule Answer) (db : Result Db Answer) (bytes : List ℕ) (answer : Answer) (told : Told) (new : Option Told) (input : List ℕ) → IsOfFlow flow db bytes → IsPutAnswer answer
    → PutsFiles ((object_name name, bytes) ∷ []) answer told new → Obeys (PhaseTwoOver name flow db input) answer told new
over_made laws name (Ok flow) (Ok db) bytes answer told new input is h puts =
    obeys_one (PhaseTwoOver name (Ok flow) (Ok db) input) (puts_files ((object_name name, bytes) ∷ []) input) answer told new (bytes, is, refl) (made_alone laws name flow db input bytes is) (put_answers answer h) puts
over_made laws name (Ok flow) (Err refusal) bytes answer told new input is h puts = absurd is
over_made laws name (Err refusal) db bytes answer told new input is h puts = absurd is

-- the object's file was put, as far as the store put it
pub obeys_made : Laws → (first now new : Option Told) (name bytes : List ℕ) (answer : Answer)
    → IfSome first (λ t. IsOfFlow (needed flow_at t.files (flow_name name)) (needed database_at t.files database_name) bytes) → Keeps first now
    → IfSome now (λ t. PutsFiles ((object_name name, bytes) ∷ []) answer t new) → IsPutAnswer answer → IfSome first (λ t. (input : List ℕ) → Obeys (PhaseTwoEffect t.files name input) answer t new)
obeys_made laws None now new name bytes answer is same puts h = tt
obeys_made laws (Some told) now new name bytes answer is same puts h =
    let P : Option Told → Type 0 = λ o. IfSome o (λ t. PutsFiles ((object_name name, bytes) ∷ []) answer t new) in
    λ input. over_made laws name (needed flow_at told.files (flow_name name)) (needed database_at told.files database_name) bytes answer told new input is h (subst P same puts)

-- ---- an answer in place of the file

stop_answers : (answer : Answer) → IsFileStop answer → Answers answer answer
stop_answers StoreFault h = tt
stop_answers NoMemory h = tt
stop_answers (BadFile name at) h = refl
stop_answers _ h = absurd h

alone_stopped : (comes : Effect → Type 0) (wanted answer : Answer) (told : Told) (new : Option Told) (input : List ℕ) → IsFileStop answer → answer ≡ wanted → new ≡ Some told → comes (answers_alone wanted input)
    → ((e : Effect) → comes e → e ≡ answers_alone wanted input) → Obeys comes answer told new
alone_stopped comes wanted answer told new input h is e c one =
    obeys_one comes (answers_alone wanted input) answer told new c one (subst (λ (a : Answer). Answers a answer) is (stop_answers answer h)) (puts_none answer told new e)

over_answered : (name : List ℕ) (flow : Result FlowModule Answer) (db : Result Db Answer) (answer : Answer) (told : Told) (new : Option Told) (input : List ℕ) → IsFileStop answer → AnswersFlow flow db answer → new ≡ Some told
    → Obeys (PhaseTwoOver name flow db input) answer told new
over_answered name (Err wanted) db answer told new input h is e = alone_stopped (PhaseTwoOver name (Err wanted) db input) wanted answer told new input h is e refl (λ x d. d)
over_answered name (Ok flow) (Err wanted) answer told new input h is e = alone_stopped (PhaseTwoOver name (Ok flow) (Err wanted) input) wanted answer told new input h is e refl (λ x d. d)
over_answered name (Ok flow) (Ok db) answer told new input h is e = absurd is

over_stopped : (name : List ℕ) (flow : Result FlowModule Answer) (db : Result Db Answer) (answer : Answer) (told : Told) (new : Option Told) (input : List ℕ) → IsFileStop answer → MakesObject flow db (Err answer) → new ≡ Some told
    → Obeys (PhaseTwoOver name flow db input) answer told new
over_stopped name flow db StoreFault told new input h is e = obeys_fault (PhaseTwoOver name flow db input) told new e
over_stopped name flow db NoMemory told new input h is e = obeys_no_memory (PhaseTwoOver name flow db input) told new e
over_stopped name flow db _ told new input h is e = over_answered name flow db _ told new input h is e

pub obeys_stopped : (first new : Option Told) (name : List ℕ) (answer : Answer)
    → IfSome first (λ t. MakesObject (needed flow_at t.files (flow_name name)) (needed database_at t.files database_name) (Err answer)) → Keeps first new → IsFileStop answer
    → IfSome first (λ t. (input : List ℕ) → Obeys (PhaseTwoEffect t.files name input) answer t new)
obeys_stopped None new name answer is same h = tt
obeys_stopped (Some told) new name answer is same h =
    λ input. over_stopped name (needed flow_at told.files (flow_name name)) (needed database_at told.files database_name) answer told new input h is same

pub stop_is_store : (answer : Answer) → IsFileStop answer → IsStoreAnswer answer
stop_is_store StoreFault h = tt
stop_is_store NoMemory h = tt
stop_is_store (BadFile name at) h = tt
stop_is_store _ h = absurd h

pub put_is_store : (answer : Answer) → IsPutAnswer answer → IsStoreAnswer answer
put_is_store Done h = tt
put_is_store StoreFault h = tt
put_is_store NoMemory h = tt
put_is_store _ h = absurd h

-- ---- inside

first_answers : (flow : Result FlowModule Answer) (db : Result Db Answer) (answer : Answer) → flow ≡ Err answer → AnswersFlow flow db answer
first_answers flow db answer e = subst (λ (f : Result FlowModule Answer). AnswersFlow f db answer) (sym e) refl

flow_over : (flow : Result FlowModule Answer) (db : Result Db Answer) (answer : Answer) → StopsAs answer flow → MakesObject flow db (Err answer)
flow_over flow db StoreFault h = tt
flow_over flow db NoMemory h = tt
flow_over flow db _ h = first_answers flow db _ h

-- the flow graph's file is absent or refused
pub flow_stops : (first : Option Told) (file : List ℕ) (answer : Answer) → IfSome first (λ t. StopsAs answer (needed flow_at t.files file))
    → IfSome first (λ t. MakesObject (needed flow_at t.files file) (needed database_at t.files database_name) (Err answer))
flow_stops None file answer h = tt
flow_stops (Some t) file answer h = flow_over (needed flow_at t.files file) (needed database_at t.files database_name) answer h

-- it was read, and the store tells what it told
pub flow_goes : (first now : Option Told) (file : List ℕ) (flow : FlowModule) (result : Result (Vec ℕ Global) Answer) → Keeps first now → IfSome first (λ t. needed flow_at t.files file ≡ Ok flow)
    → IfSome now (λ t. MakesObject (Ok flow) (needed database_at t.files database_name) result)
    → IfSome first (λ t. MakesObject (needed flow_at t.files file) (needed database_at t.files database_name) result)
flow_goes None now file flow result same e h = tt
flow_goes (Some t) now file flow result same e h =
    let P : Option Told → Type 0 = λ o. IfSome o (λ u. MakesObject (Ok flow) (needed database_at u.files database_name) result) in
    subst (λ (f : Result FlowModule Answer). MakesObject f (needed database_at t.files database_name) result) (sym e) (subst P same h)

then_answers : (flow : FlowModule) (db : Result Db Answer) (answer : Answer) → db ≡ Err answer → AnswersFlow (Ok flow) db answer
then_answers flow db answer d = subst (λ (x : Result Db Answer). AnswersFlow (Ok flow) x answer) (sym d) refl

database_over : (flow : FlowModule) (db : Result Db Answer) (answer : Answer) → StopsAs answer db → MakesObject (Ok flow) db (Err answer)
database_over flow db StoreFault h = tt
database_over flow db NoMemory h = tt
database_over flow db _ h = then_answers flow db _ h

-- the database is absent or refused
pub database_stops : (first : Option Told) (flow : FlowModule) (answer : Answer) → IfSome first (λ t. StopsAs answer (needed database_at t.files database_name))
    → IfSome first (λ t. MakesObject (Ok flow) (needed database_at t.files database_name) (Err answer))
database_stops None flow answer h = tt
database_stops (Some t) flow answer h = database_over flow (needed database_at t.files database_name) answer h

-- the file was made
pub both_made : (first : Option Told) (flow : FlowModule) (db : Db) (bytes : List ℕ) → IfSome first (λ t. needed database_at t.files database_name ≡ Ok db) → IsFileOfFlow flow db bytes
    → IfSome first (λ t. IsOfFlow (Ok flow) (needed database_at t.files database_name) bytes)
both_made None flow db bytes e h = tt
both_made (Some t) flow db bytes e h = subst (λ (x : Result Db Answer). IsOfFlow (Ok flow) x bytes) (sym e) h

pub none_made : (first : Option Told) (flow : FlowModule) → IfSome first (λ t. MakesObject (Ok flow) (needed database_at t.files database_name) (Err NoMemory))
none_made None flow = tt
none_made (Some t) flow = tt

-- the bytes of an object's file are those of the flow graph's
pub file_made : {E : Type 0} → (flow : FlowModule) (db : Db) (object : Object) (result : Result (Vec ℕ Global) E) → IsDatabase db → IsObjectUnder flow db object → IfOk result (λ bytes. IsObjectFile bytes.items object)
    → IfOk result (λ bytes. IsFileOfFlow flow db bytes.items)
file_made flow db object (Ok bytes) lawful made file = record { lawful = lawful; object = object; made = made; file = file }
file_made flow db object (Err error) lawful made file = tt

-- ---- what was put, whatever the answer

part_of_front : (told : Told) (files : List NamedFile) (new : Option Told) → PutPrefix told files new → PutPart told files new
part_of_front told files new h = record { done = h.done; more = h.more; split = h.split; left = left_so (after_puts told h.done) h.more new h.left }
  where
    left_so : (now : Told) (more : List NamedFile) (new : Option Told) → new ≡ Some now → IsLeft now more new
    left_so now [] new e = e
    left_so now (file ∷ more) new e = inl e

part_of_whole : (told : Told) (files : List NamedFile) (new : Option Told) → new ≡ Some (after_puts told files) → PutPart told files new
part_of_whole told files new e = record { done = files; more = []; split = sym (append-nil files); left = e }

part_put : (answer : Answer) (told : Told) (files : List NamedFile) (new : Option Told) → IsPutAnswer answer → PutsFiles files answer told new → PutPart told files new
part_put Done told files new h puts = part_of_whole told files new puts
part_put StoreFault told files new h puts = puts
part_put NoMemory told files new h puts = part_of_front told files new puts
part_put _ told files new h puts = absurd h

-- the object's file was put, as far as the store put it
pub made_put : (first now new : Option Told) (name bytes : List ℕ) (answer : Answer) → IsMadeFile bytes → Keeps first now
    → IfSome now (λ t. PutsFiles ((object_name name, bytes) ∷ []) answer t new) → IsPutAnswer answer → IfSome first (λ t. PutsMade name t new)
made_put None now new name bytes answer made same puts h = tt
made_put (Some told) now new name bytes answer made same puts h =
    let P : Option Told → Type 0 = λ o. IfSome o (λ t. PutsFiles ((object_name name, bytes) ∷ []) answer t new) in
    inr (bytes, made, part_put answer told ((object_name name, bytes) ∷ []) new h (subst P same puts))

-- nothing was put
pub none_put : (first new : Option Told) (name : List ℕ) → Keeps first new → IfSome first (λ t. PutsMade name t new)
none_put None new name same = tt
none_put (Some told) new name same = inl same
