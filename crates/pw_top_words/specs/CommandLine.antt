-- The words of a command line, and the command that they say.
use Rattle.std.specs.Prelude.{◌≡◌, ℕ, zero, suc, ◌==◌, ◌&&◌, not, Bool, true, false, nat_le, if◌then◌else◌, List, [], ◌∷◌, map, filter, drop, length, codes, Option, Some, None, option_map, option_and_then, Result, Ok, Err}
use Rattle.std.specs.List.{list_any, list_all, before_first, after_first}
use Rattle.std.specs.Char.{is_ascii_digit}
use Rattle.std.specs.Str.{bytes_eq}
use Rattle.std.specs.Str.Parse.{digits_value}
use Rattle.pw_value.specs.Limits.{stack_least, stack_limit}
use Rattle.pw_store_modules.specs.Modules.{is_module_name}
use Rattle.pw_build_opts.specs.declared.opts.Opts.{Opts}
use Rattle.pw_build_opts.specs.declared.opts.RunOpts.{RunOpts}
use Rattle.pw_top_switch.specs.Switch.{Text, is_named, is_equals, has_value, is_switched, unswitched}
use Rattle.pw_top_words.specs.declared.fault.WordsFault.{WordsFault}
use Rattle.pw_top_words.specs.declared.fault.WordsFault.TheVariants.{Usage, NoMemory}
use Rattle.pw_top_words.specs.declared.commands.Command.{Command}
use Rattle.pw_top_words.specs.declared.commands.Command.TheVariants.{Go, Build, Session, PhaseOne, Analyse, PhaseTwo, Link, Run, List as ListImage, Db, Bench, Where, Preprocess, Interp}
use Rattle.pw_db.specs.Limits.{colour_limit}

-- ---- the parts of the words

-- a value that is given to an option, or a word that belongs to none
pub data Part : Type 0 where
  Given : Text → Text → Part
  Plain : Text → Part

-- the word begins with `-` (45), which does not stand alone
abbrev pub is_dashed : Text → Bool
is_dashed (first ∷ second ∷ rest) = first == 45
is_dashed word = false

-- what stands behind `--`, up to the first `=`, and behind it
abbrev pub option_name : Text → Text
option_name word = before_first is_equals (drop 2 word)

abbrev pub option_value : Text → Text
option_value word = after_first is_equals (drop 2 word)

abbrev pub with_part : Part → Option (List Part) → Option (List Part)
with_part part = option_map (λ parts. part ∷ parts)

-- The parts of words, where an option may wait for its value, which is the next word. `--` ends the options.
abbrev pub parts_from : Option Text → List Text → Option (List Part)
parts_from None [] = Some []
parts_from (Some name) [] = None
parts_from (Some name) (word ∷ words) = if is_dashed word then None else with_part (Given name word) (parts_from None words)
parts_from None (word ∷ words) =
    if bytes_eq word (codes "--") then Some (map Plain words) else
    if is_named word then
    (if has_value word then with_part (Given (option_name word) (option_value word)) (parts_from None words)
    else parts_from (Some (option_name word)) words) else
    if is_dashed word then None else with_part (Plain word) (parts_from None words)

-- ---- which parts a command takes

abbrev pub is_among : Text → List Text → Bool
is_among name names = list_any (λ other. bytes_eq other name) names

abbrev pub without_name : Text → List Text → List Text
without_name name names = filter (λ other. not (bytes_eq other name)) names

-- options of these names, each at most once, and so many other words
abbrev pub fits : List Text → ℕ → List Part → Bool
fits names zero [] = true
fits names (suc count) [] = false
fits names count (Given name value ∷ parts) = is_among name names && fits (without_name name names) count parts
fits names zero (Plain word ∷ parts) = false
fits names (suc count) (Plain word ∷ parts) = fits names count parts

abbrev pub fitting : List Text → ℕ → Option (List Part) → Option (List Part)
fitting names count = option_and_then (λ parts. if fits names count parts then Some parts else None)

-- the parts of the words behind a command that takes these options, and so many other words
unfoldable pub parts_of : List Text → ℕ → List Text → Option (List Part)
parts_of names count words = fitting names count (parts_from None words)

-- the value that is given to an option
abbrev pub value_of : Text → List Part → Option Text
value_of name [] = None
value_of name (Given other value ∷ parts) = if bytes_eq other name then Some value else value_of name parts
value_of name (Plain word ∷ parts) = value_of name parts

-- the first word that belongs to no option
abbrev pub plain_word : List Part → Option Text
plain_word [] = None
plain_word (Given name value ∷ parts) = plain_word parts
plain_word (Plain word ∷ parts) = Some word

-- ---- numbers

abbrev pub are_digits : Text → Bool
are_digits text = list_all is_ascii_digit text

-- how many digits a number has at most: with as many it is less than 2^64
abbrev pub digits_limit : ℕ
digits_limit = 19

-- one to nineteen decimal digits
abbrev pub is_numeral : Text → Bool
is_numeral text = nat_le 1 (length text) && (nat_le (length text) digits_limit && are_digits text)

-- the number within limits that a text writes
abbrev pub number_in : ℕ → ℕ → Text → Option ℕ
number_in least most text =
    let n = digits_value 10 text in
    if is_numeral text && (nat_le least n && nat_le n most) then Some n else None

-- the number that is given, or what stands for it where none is
abbrev pub number_or : ℕ → ℕ → ℕ → Option Text → Option ℕ
number_or least most default None = Some default
number_or least most default (Some text) = number_in least most text

-- ---- what stands for a number that is not given, and limits of numbers

-- bytes of the stack
abbrev pub usual_stack : ℕ
usual_stack = 1048576

-- instructions of a run
abbrev pub usual_steps : ℕ
usual_steps = 100000000

abbrev pub steps_limit : ℕ
steps_limit = 4611686018427387904

-- the number from which modules are made
abbrev pub seed_limit : ℕ
seed_limit = 4294967295

-- the number of a call
abbrev pub call_limit : ℕ
call_limit = 4611686018427387904

-- ---- options

abbrev pub colours : Text
colours = codes "colours"

abbrev pub stack : Text
stack = codes "stack"

abbrev pub steps : Text
steps = codes "steps"

-- how many registers webs may have
abbrev pub colours_in : List Part → Option ℕ
colours_in parts = number_or 0 colour_limit colour_limit (value_of colours parts)

-- the bytes of the stack
abbrev pub stack_in : List Part → Option ℕ
stack_in parts = number_or stack_least stack_limit usual_stack (value_of stack parts)

-- how many instructions a run may take
abbrev pub steps_in : List Part → Option ℕ
steps_in parts = number_or 1 steps_limit usual_steps (value_of steps parts)

-- a word that is a module's name
abbrev pub module_named : Text → Option Text
module_named name = if is_module_name name then Some name else None

abbrev pub module_in : List Part → Option Text
module_in parts = option_and_then module_named (plain_word parts)

-- the number from which modules are made
abbrev pub seed_in : List Part → Option ℕ
seed_in parts = option_and_then (number_in 0 seed_limit) (plain_word parts)

-- the number of a call
abbrev pub call_in : List Part → Option ℕ
call_in parts = option_and_then (number_in 1 call_limit) (plain_word parts)

-- ---- commands

-- the options of a build, and of a build and a run, with whether the switch is there
abbrev pub build_opts_in : Bool → List Part → Option Opts
build_opts_in o parts = option_and_then (λ c. option_map (λ s. record { colours = c; stack = s; optimise = o }) (stack_in parts)) (colours_in parts)

abbrev pub run_opts_in : Bool → List Part → Option RunOpts
run_opts_in o parts = option_and_then (λ b. option_map (λ n. record { build = b; budget = n }) (steps_in parts)) (build_opts_in o parts)

-- what the words behind a command's name say, of those that may have a switch the others with whether it is there
abbrev pub go_of : Bool → List Text → Option Command
go_of o words = option_and_then (λ parts. option_map Go (run_opts_in o parts)) (parts_of (colours ∷ stack ∷ steps ∷ []) 0 words)

abbrev pub build_of : Bool → List Text → Option Command
build_of o words = option_and_then (λ parts. option_map Build (build_opts_in o parts)) (parts_of (colours ∷ stack ∷ []) 0 words)

abbrev pub session_of : Bool → List Text → Option Command
session_of o words = option_and_then (λ parts. option_map Session (run_opts_in o parts)) (parts_of (colours ∷ stack ∷ steps ∷ []) 0 words)

abbrev pub preprocess_of : List Text → Option Command
preprocess_of words = option_and_then (λ parts. option_map Preprocess (module_in parts)) (parts_of [] 1 words)

abbrev pub phase_one_of : Bool → List Text → Option Command
phase_one_of o words = option_and_then (λ parts. option_map (λ name. PhaseOne name o) (module_in parts)) (parts_of [] 1 words)

abbrev pub analyse_of : List Text → Option Command
analyse_of words = option_and_then (λ parts. option_map Analyse (colours_in parts)) (parts_of (colours ∷ []) 0 words)

abbrev pub phase_two_of : List Text → Option Command
phase_two_of words = option_and_then (λ parts. option_map PhaseTwo (module_in parts)) (parts_of [] 1 words)

abbrev pub link_of : List Text → Option Command
link_of words = option_and_then (λ parts. option_map Link (stack_in parts)) (parts_of (stack ∷ []) 0 words)

abbrev pub run_of : List Text → Option Command
run_of words = option_and_then (λ parts. option_map Run (steps_in parts)) (parts_of (steps ∷ []) 0 words)

abbrev pub list_of : List Text → Option Command
list_of words = option_map (λ parts. ListImage) (parts_of [] 0 words)

abbrev pub db_of : List Text → Option Command
db_of words = option_map (λ parts. Db) (parts_of [] 0 words)

abbrev pub bench_of : Bool → List Text → Option Command
bench_of o words =
    option_and_then (λ parts. option_and_then (λ x. option_map (Bench x) (run_opts_in o parts)) (seed_in parts)) (parts_of (colours ∷ stack ∷ steps ∷ []) 1 words)

abbrev pub where_of : Bool → List Text → Option Command
where_of o words =
    option_and_then (λ parts. option_and_then (λ k. option_map (Where k) (run_opts_in o parts)) (call_in parts)) (parts_of (colours ∷ stack ∷ steps ∷ []) 1 words)

abbrev pub interp_of : Bool → List Text → Option Command
interp_of o words = option_and_then (λ parts. option_map Interp (run_opts_in o parts)) (parts_of (colours ∷ stack ∷ steps ∷ []) 0 words)

-- the command of a name, and what the words behind it say: all of them, or those without a switch and whether it was there
unfoldable pub command_by_name : Text → Bool → List Text → List Text → Option Command
command_by_name name o others words =
    if bytes_eq name (codes "go") then go_of o others else
    if bytes_eq name (codes "build") then build_of o others else
    if bytes_eq name (codes "session") then session_of o others else
    if bytes_eq name (codes "cpp") then preprocess_of words else
    if bytes_eq name (codes "phase1") then phase_one_of o others else
    if bytes_eq name (codes "analyse") then analyse_of words else
    if bytes_eq name (codes "phase2") then phase_two_of words else
    if bytes_eq name (codes "link") then link_of words else
    if bytes_eq name (codes "run") then run_of words else
    if bytes_eq name (codes "list") then list_of words else
    if bytes_eq name (codes "db") then db_of words else
    if bytes_eq name (codes "bench") then bench_of o others else
    if bytes_eq name (codes "where") then where_of o others else
    if bytes_eq name (codes "interp") then interp_of o others else
    None

-- the command that words say
abbrev pub command_of : List Text → Option Command
command_of [] = None
command_of (name ∷ words) = command_by_name name (is_switched words) (unswitched words) words

-- ---- what a call answers

-- what is read, unless memory ran out
abbrev pub Reads : {X : Type 0} → Option X → Result X WordsFault → Type 0
Reads wanted (Ok x) = wanted ≡ Some x
Reads wanted (Err Usage) = wanted ≡ None
Reads wanted (Err NoMemory) = Unit {0}
