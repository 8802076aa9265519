-- Kept objects stay genuine where no object's file is put, and files that were not put stay as they were.
use Rattle.std.proofs.Common.{◌≡◌, ℕ, ⊎_elim, List, [], ◌∷◌, ◌++◌, Option, Some, None, refl, sym, ap, ◌∙◌, subst, arith, append-nil}
use Rattle.std.specs.Prelude.{IfSome, IsSomeAnd}
use Rattle.std.specs.List.{AllByRecursion}
use Rattle.pw_io.specs.Files.{Told, Keeps}
use Rattle.pw_object.specs.declared.object.Object.{Object}
use Rattle.pw_store_modules.specs.FileNames.{database_name, image_name, flow_name, summary_name, object_name, text_name}
use Rattle.pw_top_answer.specs.declared.answer.Answer.{Answer}
use Rattle.pw_top_answer.specs.declared.answer.Answer.TheVariants.{NoMemory}
use Rattle.pw_top_answer.specs.Effects.{NamedFile, PutPart}
use Rattle.pw_build_objects.specs.Kept.{IsGenuine}
use Rattle.pw_commands.specs.Others.{IsNoneOf, IsOneOf, KeepsOthers, PutsOnly}
use Rattle.pw_store_kept.specs.Kept.{counted, object_in}
use Rattle.pw_law_session.specs.FromSession.FromBuildFiles.Genuine.{IsGenuineFile, KeepsGenuine}
use Rattle.pw_commands_cpp.specs.Command.{cpp_puts}
use Rattle.pw_commands_phases.specs.First.{phase_one_puts}
use Rattle.pw_commands_phases.specs.Second.{IsMade, IsMadeFile, PutsMade}
use Rattle.pw_law_session.specs.FromSession.FromBuildFiles.Driving.{KeepsUnput}
use Rattle.pw_top_words.specs.declared.commands.Command.{Command}
use Rattle.pw_top_words.specs.declared.commands.Command.TheVariants.{Go, Build as BuildAll, Session, Where, Preprocess, PhaseOne, Analyse, PhaseTwo, Link}
use Rattle.pw_law_session.specs.FromSession.Removals.{MayRemove}
use Rattle.pw_top.specs.Commands.{KeepsTheRest, files_put}
use Rattle.pw_top.proofs.SessionLemmas.{changes_none, rest_none}

-- ---- names that are no object's file

abbrev last_of : List ℕ → ℕ
last_of [] = 0
last_of (x ∷ []) = x
last_of (x ∷ y ∷ more) = last_of (y ∷ more)

last_behind : (front : List ℕ) (x : ℕ) (more : List ℕ) → last_of (front ++ x ∷ more) ≡ last_of (x ∷ more)
last_behind [] x more = refl
last_behind (a ∷ []) x more = refl
last_behind (a ∷ b ∷ front) x more = last_behind (b ∷ front) x more

-- the last byte of `.obj` is 106
differs : (name other : List ℕ) (last : ℕ) → last_of other ≡ last → (106 ≡ last → ⊥) → object_name name ≡ other → ⊥
differs name other last e apart same = apart (sym (last_behind name 46 (111 ∷ 98 ∷ 106 ∷ [])) ∙ ap last_of same ∙ e)

pub database_apart : (name : List ℕ) → IsNoneOf (database_name ∷ []) (object_name name)
database_apart name = (differs name database_name 98 refl (λ e. let h : 106 ≡ 98 = e in omega (arith, h)), tt)

pub image_apart : (name : List ℕ) → IsNoneOf (image_name ∷ []) (object_name name)
image_apart name = (differs name image_name 103 refl (λ e. let h : 106 ≡ 103 = e in omega (arith, h)), tt)

pub phase_one_apart : (unit name : List ℕ) → IsNoneOf (phase_one_puts unit) (object_name name)
phase_one_apart unit name = (
  differs name (flow_name unit) 119 (last_behind unit 46 (102 ∷ 108 ∷ 111 ∷ 119 ∷ [])) (λ e. let h : 106 ≡ 119 = e in omega (arith, h)),
  (differs name (summary_name unit) 109 (last_behind unit 46 (115 ∷ 117 ∷ 109 ∷ [])) (λ e. let h : 106 ≡ 109 = e in omega (arith, h)), tt),
)

pub cpp_apart : (unit name : List ℕ) → IsNoneOf (cpp_puts unit) (object_name name)
cpp_apart unit name = (differs name (text_name unit) 105 (last_behind unit 46 (105 ∷ [])) (λ e. let h : 106 ≡ 105 = e in omega (arith, h)), tt)

-- ---- genuine objects

not_one : (names : List (List ℕ)) (name : List ℕ) → IsNoneOf names name → IsOneOf names name → ⊥
not_one [] name n one = one
not_one (other ∷ names) name n one = ⊎_elim {C = ⊥} n.0 (not_one names name n.1) one

none_of_own : (names some : List (List ℕ)) (name : List ℕ) → AllByRecursion (IsOneOf names) some → IsNoneOf names name → IsNoneOf some name
none_of_own names [] name own n = tt
none_of_own names (other ∷ some) name own n = ((λ e. not_one names name n (subst (IsOneOf names) (sym e) own.0)), none_of_own names some name own.1 n)

pub stays_genuine : (names : List (List ℕ)) (answer : Answer) (told new : Option Told) → ((name : List ℕ) → IsNoneOf names (object_name name)) → KeepsOthers names answer told new
    → IfSome told (λ t. KeepsGenuine t.files → IfSome new (λ now. KeepsGenuine now.files))
stays_genuine names answer None new apart h = tt
stays_genuine names answer (Some t) None apart h = λ k. tt
stays_genuine names answer (Some t) (Some now) apart h =
    λ k name object named e. k name object named
    (ap (λ (g : Option (List ℕ)). object_in (counted g)) (sym (h.same (object_name name) (none_of_own names (h.put ++ h.failed) (object_name name) h.own (apart name)))) ∙ e)

-- the command puts the files of its words alone, and none of them is an object's
abbrev pub PutsNoObject : Option Command → Type 0
PutsNoObject (Some (Go opts)) = ⊥
PutsNoObject (Some (BuildAll opts)) = ⊥
PutsNoObject (Some (Where k opts)) = ⊥
PutsNoObject (Some (Session opts)) = ⊥
PutsNoObject (Some (PhaseTwo name)) = ⊥
PutsNoObject _ = Unit {0}

puts_apart : (command : Option Command) → PutsNoObject command → (name : List ℕ) → IsNoneOf (files_put command) (object_name name)
puts_apart (Some (PhaseTwo unit)) h name = absurd h
puts_apart (Some (Preprocess unit)) h name = cpp_apart unit name
puts_apart (Some (PhaseOne unit optimise)) h name = phase_one_apart unit name
puts_apart (Some (Analyse colours)) h name = database_apart name
puts_apart (Some (Link stack)) h name = image_apart name
puts_apart _ h name = tt

others_of : (command : Option Command) (script : Option (List ℕ)) (answer : Answer) (told new : Option Told) → PutsNoObject command → KeepsTheRest command script answer told new → KeepsOthers (files_put command) answer told new
others_of (Some (Go opts)) script answer told new p h = absurd p
others_of (Some (BuildAll opts)) script answer told new p h = absurd p
others_of (Some (Where k opts)) script answer told new p h = absurd p
others_of (Some (Session opts)) script answer told new p h = absurd p
others_of command script answer told new p h = h

pub plain_genuine : (command : Option Command) (script : Option (List ℕ)) (answer : Answer) (told new : Option Told) → PutsNoObject command → KeepsTheRest command script answer told new
    → IfSome told (λ t. KeepsGenuine t.files → IfSome new (λ now. KeepsGenuine now.files))
plain_genuine command script answer told new p h = stays_genuine (files_put command) answer told new (puts_apart command p) (others_of command script answer told new p h)

pub genuine_alone : (told : Option Told) → IfSome told (λ t. KeepsGenuine t.files → IfSome told (λ now. KeepsGenuine now.files))
genuine_alone None = tt
genuine_alone (Some t) = λ k. k

-- ---- `phase2`

abbrev pub FilesKeepGenuine : Type 0
FilesKeepGenuine = (told : Told) (files : List NamedFile) (new : Option Told) → KeepsGenuine told.files → AllByRecursion IsGenuineFile files → PutPart told files new → IfSome new (λ now. KeepsGenuine now.files)

made_genuine : (object : Object) → IsMade object → IsGenuine object
made_genuine object made = record { flow = made.flow; directives = made.directives; of_module = made.of_module; made = made.made }

made_file : (name bytes : List ℕ) → IsMadeFile bytes → IsGenuineFile (object_name name, bytes)
made_file name bytes made = λ other named. (made.object, made.fits, made.file, made_genuine made.object made.made)

pub phase_two_genuine : FilesKeepGenuine → (told new : Option Told) (name : List ℕ) → IfSome told (λ t. PutsMade name t new) → IfSome told (λ t. KeepsGenuine t.files → IfSome new (λ now. KeepsGenuine now.files))
phase_two_genuine law None new name h = tt
phase_two_genuine law (Some t) new name h =
    λ k. ⊎_elim {C = IfSome new (λ now. KeepsGenuine now.files)}
    (λ e. subst (λ (o : Option Told). IfSome o (λ now. KeepsGenuine now.files)) (sym e) k)
    (λ m. law t ((object_name name, m.0) ∷ []) new k (made_file name m.0 m.1, tt) m.2)
    h

-- ---- files that stay

none_put : (names : List (List ℕ)) (answer : Answer) (told : Told) → PutsOnly names answer told told
none_put names answer told = record { put = []; failed = []; own = tt; one = omega arith; none = λ h. refl; told_so = sym (append-nil told.puts); same = λ name n. refl }

pub kept_others : (answer : Answer) (told new : Option Told) → Keeps told new → KeepsOthers [] answer told new
kept_others answer None new h = tt
kept_others answer (Some t) new h = subst (λ (o : Option Told). IsSomeAnd o (PutsOnly [] answer t)) (sym h) (none_put [] answer t)

pub others_alone : (names : List (List ℕ)) (answer : Answer) (told : Option Told) → KeepsOthers names answer told told
others_alone names answer None = tt
others_alone names answer (Some t) = none_put names answer t

unput_alone : (answer : Answer) (told : Told) → KeepsUnput answer told (Some told)
unput_alone answer told = record { put = []; failed = []; own = tt; one = omega arith; none = λ h. refl; told_so = sym (append-nil told.puts); same = λ name n. refl }

pub rest_alone : (command : Option Command) (script : Option (List ℕ)) (told : Option Told) → KeepsTheRest command script NoMemory told told
rest_alone (Some (Go opts)) script None = tt
rest_alone (Some (Go opts)) script (Some t) = unput_alone NoMemory t
rest_alone (Some (BuildAll opts)) script None = tt
rest_alone (Some (BuildAll opts)) script (Some t) = unput_alone NoMemory t
rest_alone (Some (Where k opts)) script None = tt
rest_alone (Some (Where k opts)) script (Some t) = unput_alone NoMemory t
rest_alone (Some (Session opts)) script None = tt
rest_alone (Some (Session opts)) script (Some t) = (changes_none (MayRemove script) t, rest_none (MayRemove script) NoMemory t)
rest_alone command script told = others_alone (files_put command) NoMemory told
