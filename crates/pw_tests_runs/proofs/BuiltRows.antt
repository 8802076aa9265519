-- Built programs exist: of bump and main, where these flow graphs implement a program, the objects that are made of them
-- are built, with a web in a register and each temporary in a word of the frame. With less than the least stack they are
-- not.
use Rattle.std.specs.Prelude.{ℕ, ◌≡◌, ◌≤◌, ◌++◌, None, List, [], ◌∷◌, map, codes}
use Rattle.std.proofs.Common.{arith, ap, refl}
use Rattle.pw_value.specs.Limits.{stack_least}
use Rattle.pw_milli.specs.Library.{routines}
use Rattle.pw_db.specs.declared.database.Directives.{Directives}
use Rattle.pw_webflow.specs.Direction.{directed}
use Rattle.pw_alloc.specs.Allocation.{entered_from}
use Rattle.pw_tests_runs.proofs.InWords.{in_words, words_serve}
use Rattle.pw_alloc.specs.declared.located.Located.{Located}
use Rattle.pw_select.specs.Selection.{selected, entered_lines}
use Rattle.pw_delay.specs.Placement.{laid, placed}
use Rattle.pw_object.specs.declared.object.Object.{Object}
use Rattle.pw_object.specs.Object.{whole_object}
use Rattle.pw_link.specs.Linking.{linked, size_fault}
use Rattle.pw_cmean.specs.Worlds as source
use Rattle.pw_run_languages.specs.Programs.{Program, functions_of, globals_of}
use Rattle.pw_run_languages.specs.LawfulPrograms.{graph_of}
use Rattle.pw_db_sound.specs.Sound.{Sound}
use Rattle.pw_run_languages.specs.Direction.{directed_functions}
use Rattle.pw_run_languages.specs.Serving.{AllServe}
use Rattle.pw_run_languages.specs.LinkingLaws.{AreObjectsOf, AreNamesApart, compiled, frame_in}
use Rattle.pw_law_layers.specs.Whole.{Implements, IsBuilt}
use Rattle.pw_tests_runs.proofs.Programs.{bumping, bump_directives, bump, bump_main, start, global, only}
use Rattle.pw_tests_runs.proofs.ProgramRows.{apart, lawful_bump, lawful_main, lawful_start}
use Rattle.pw_tests_runs.proofs.SoundRows.{n_web, lawful_database, lawful_only, sound_database}
use Rattle.pw_db.specs.Database.{IsDirectives, empty}
use Rattle.pw_db.specs.declared.database.Role.{Role}
use Rattle.pw_db.specs.declared.database.Role.TheVariants.{Entry, Member}

abbrev pub places : List Located
places = map in_words (directed_functions bumping bump_directives)

abbrev pub objects : List Object
objects = whole_object (codes "a") [] [] [] [] (global (codes "n") ∷ []) (map compiled places) ∷ []

-- with the frames of the map, and a stack
abbrev pub graphs : ℕ → Program
graphs stack = record { modules = bumping.modules; frame_of = frame_in (linked objects stack); stack = stack }

pub nothing_lawful : IsDirectives empty
nothing_lawful = record { each = tt; numbers = tt; globals = tt; registers = tt; free = tt; saves = tt; apart = tt }

pub all_serve : AllServe (directed_functions bumping bump_directives) places
all_serve = (
  words_serve bump (only_of Member) (lawful_only Member) refl,
  (
    words_serve bump_main (only_of Entry) (lawful_only Entry) refl,
    (words_serve start empty nothing_lawful refl, tt),
  ),
)
  where
    only_of : Role → Directives
    only_of role = only n_web role

pub small : size_fault objects 4096 ≡ None
unfolding directed in_words entered_from selected entered_lines placed laid
small = refl

pub built : (p : source.Program) → Implements p (graphs 4096) → IsBuilt p (graphs 4096) bump_directives places objects
unfolding graph_of
built p implements = record {
  implements = implements;
  frames = refl;
  names = apart;
  enough = omega arith;
  database = lawful_database;
  sound = sound_database;
  serve = all_serve;
  made = record { modules = refl; globals = refl; code = refl };
  fits = small;
}

-- ---- what is not built

too_little : (p : source.Program) → IsBuilt p (graphs 1000) bump_directives places objects → ⊥
too_little p b = let h : stack_least ≤ 1000 = b.enough in omega (arith, h)
