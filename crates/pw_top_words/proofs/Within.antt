-- The numbers that words say lie within their limits.
use Rattle.std.proofs.Common.{◌≡◌, ℕ, ◌<◌, ◌≤◌, ◌&&◌, subst, Bool, true, false, nat_le, List, [], ◌∷◌, codes, Option, Some, None, option_map, option_and_then, refl, if◌then◌else◌, arith}
use Rattle.std.specs.Str.{bytes_eq}
use Rattle.std.specs.Str.Parse.{digits_value}
use Rattle.std.proofs.lemmas.Bool.Decides.{nat_tests}
use Rattle.pw_value.specs.Limits.{stack_least, stack_limit}
use Rattle.pw_store_modules.specs.Modules.{is_module_name}
use Rattle.pw_build_opts.specs.declared.opts.Opts.{Opts}
use Rattle.pw_build_opts.specs.declared.opts.RunOpts.{RunOpts}
use Rattle.pw_build_opts.specs.Options.{AreOpts}
use Rattle.pw_top_words.specs.declared.commands.Command.{Command}
use Rattle.pw_top_words.specs.declared.commands.Command.TheVariants.{Go, Build, Session, PhaseOne, Analyse, PhaseTwo, Link, Run, List as ListImage, Db, Bench, Where, Preprocess, Interp}
use Rattle.pw_top_switch.specs.Switch.{Text, is_switched, unswitched}
use Rattle.pw_top_words.specs.CommandLine.{Part, is_numeral, number_in, number_or, value_of, colours, stack, steps, colours_in, stack_in, steps_in, module_named, module_in, plain_word, parts_of, seed_in, call_in, call_limit, build_opts_in, run_opts_in, go_of, build_of, session_of, analyse_of, link_of, run_of, bench_of, where_of, interp_of, command_by_name, command_of, usual_stack}
use Rattle.pw_top_words.specs.Limits.{IsStack, IsWithin}
use Rattle.pw_db.specs.Limits.{colour_limit}

-- each command that is found is within the limits
abbrev Within : Option Command → Type 0
Within found = (command : Command) → found ≡ Some command → IsWithin command

none_within : Within None
none_within command e = cc

some_within : (one : Command) → IsWithin one → Within (Some one)
some_within one h command e = subst_command one command h e
  where
    some_is : (a b : Command) → ◌≡◌ {A = Option Command} (Some a) (Some b) → a ≡ b
    some_is a b e = cc

    subst_command : (a b : Command) → IsWithin a → ◌≡◌ {A = Option Command} (Some a) (Some b) → IsWithin b
    subst_command a b h e = subst IsWithin (some_is a b e) h

if_within : (test : Bool) (found other : Option Command) → Within found → Within other → Within (if test then found else other)
if_within true found other h k = h
if_within false found other h k = k

-- ---- numbers

abbrev IsIn : ℕ → ℕ → Option ℕ → Type 0
IsIn least most None = Unit {0}
IsIn least most (Some n) = (least ≤ n) × (n ≤ most)

tested_in : (test : Bool) (least most n : ℕ) → test && (nat_le least n && nat_le n most) ≡ true → (least ≤ n) × (n ≤ most)
tested_in test least most n e = grind (arith, nat_tests, e)

number_is_in : (least most : ℕ) (text : Text) → IsIn least most (number_in least most text)
number_is_in least most text = by_test (is_numeral text && (nat_le least (digits_value 10 text) && nat_le (digits_value 10 text) most)) refl
  where
    by_test : (test : Bool) → is_numeral text && (nat_le least (digits_value 10 text) && nat_le (digits_value 10 text) most) ≡ test → IsIn least most (if test then Some (digits_value 10 text) else None)
    by_test true e = tested_in (is_numeral text) least most (digits_value 10 text) e
    by_test false e = tt

number_or_is_in : (least most default : ℕ) (given : Option Text) → least ≤ default → default ≤ most → IsIn least most (number_or least most default given)
number_or_is_in least most default None h k = (h, k)
number_or_is_in least most default (Some text) h k = number_is_in least most text

colours_are_in : (parts : List Part) → IsIn 0 colour_limit (colours_in parts)
colours_are_in parts = number_or_is_in 0 colour_limit colour_limit (value_of colours parts) (omega arith) (omega arith)

stack_is_in : (parts : List Part) → IsIn stack_least stack_limit (stack_in parts)
stack_is_in parts = number_or_is_in stack_least stack_limit usual_stack (value_of stack parts) (omega arith) (omega arith)

-- ---- names

module_is_named : (found : Option Text) (name : Text) → option_and_then module_named found ≡ Some name → is_module_name name ≡ true
module_is_named None name e = cc
module_is_named (Some word) name e = by_test (is_module_name word) refl e
  where
    by_test : (test : Bool) → is_module_name word ≡ test → (if test then Some word else None) ≡ Some name → is_module_name name ≡ true
    by_test true t e = let same : word ≡ name = cc in rw same at t
    by_test false t e = cc

-- ---- the commands

map_within : (make : ℕ → Command) (least most : ℕ) (found : Option ℕ) → IsIn least most found → ((n : ℕ) → least ≤ n → n ≤ most → IsWithin (make n)) → Within (option_map make found)
map_within make least most None h k = none_within
map_within make least most (Some n) h k = some_within (make n) (k n h.0 h.1)

named_within : (make : Text → Command) (found : Option Text) → ((name : Text) → found ≡ Some name → IsWithin (make name)) → Within (option_map make found)
named_within make None k = none_within
named_within make (Some name) k = some_within (make name) (k name refl)

parts_within : (found : Option (List Part)) (say : List Part → Option Command) → ((parts : List Part) → Within (say parts)) → Within (option_and_then say found)
parts_within None say k = none_within
parts_within (Some parts) say k = k parts

listed_within : (found : Option (List Part)) (one : Command) → IsWithin one → Within (option_map (λ parts. one) found)
listed_within None one h = none_within
listed_within (Some parts) one h = some_within one h

-- the steps of a run may be any number
any_within : (make : ℕ → Command) (found : Option ℕ) → ((n : ℕ) → IsWithin (make n)) → Within (option_map make found)
any_within make None k = none_within
any_within make (Some n) k = some_within (make n) (k n)

-- the options of a build, and of a build and a run
abbrev AreIn : Option Opts → Type 0
AreIn None = Unit {0}
AreIn (Some opts) = AreOpts opts

abbrev RunIn : Option RunOpts → Type 0
RunIn None = Unit {0}
RunIn (Some opts) = AreOpts opts.build

stack_with : (o : Bool) (c : ℕ) (given : Option ℕ) → c ≤ colour_limit → IsIn stack_least stack_limit given → AreIn (option_map (λ s. record { colours = c; stack = s; optimise = o }) given)
stack_with o c None few is = tt
stack_with o c (Some s) few is = record { colours = few; least = is.0; most = is.1 }

colours_with : (o : Bool) (found given : Option ℕ) → IsIn 0 colour_limit found → IsIn stack_least stack_limit given
    → AreIn (option_and_then (λ c. option_map (λ s. record { colours = c; stack = s; optimise = o }) given) found)
colours_with o None given few is = tt
colours_with o (Some c) given few is = stack_with o c given few.1 is

build_opts_are : (o : Bool) (parts : List Part) → AreIn (build_opts_in o parts)
build_opts_are o parts = colours_with o (colours_in parts) (stack_in parts) (colours_are_in parts) (stack_is_in parts)

budget_with : (opts : Opts) (given : Option ℕ) → AreOpts opts → RunIn (option_map (λ n. record { build = opts; budget = n }) given)
budget_with opts None are = tt
budget_with opts (Some n) are = are

steps_with : (found : Option Opts) (given : Option ℕ) → AreIn found → RunIn (option_and_then (λ b. option_map (λ n. record { build = b; budget = n }) given) found)
steps_with None given are = tt
steps_with (Some opts) given are = budget_with opts given are

run_opts_are : (o : Bool) (parts : List Part) → RunIn (run_opts_in o parts)
run_opts_are o parts = steps_with (build_opts_in o parts) (steps_in parts) (build_opts_are o parts)

said : (say : RunOpts → Command) (found : Option RunOpts) → ((opts : RunOpts) → AreOpts opts.build → IsWithin (say opts)) → RunIn found → Within (option_map say found)
said say None all are = none_within
said say (Some opts) all are = some_within (say opts) (all opts are)

run_options_within : (say : RunOpts → Command) (o : Bool) (parts : List Part) → ((opts : RunOpts) → AreOpts opts.build → IsWithin (say opts)) → Within (option_map say (run_opts_in o parts))
run_options_within say o parts all = said say (run_opts_in o parts) all (run_opts_are o parts)

go_within : (o : Bool) (words : List Text) → Within (go_of o words)
go_within o words = parts_within (parts_of (colours ∷ stack ∷ steps ∷ []) 0 words) (λ parts. option_map Go (run_opts_in o parts)) (λ parts. run_options_within Go o parts (λ opts are. are))

session_within : (o : Bool) (words : List Text) → Within (session_of o words)
session_within o words = parts_within (parts_of (colours ∷ stack ∷ steps ∷ []) 0 words) (λ parts. option_map Session (run_opts_in o parts)) (λ parts. run_options_within Session o parts (λ opts are. are))

seeded : (o : Bool) (given : Option ℕ) (parts : List Part) → Within (option_and_then (λ x. option_map (Bench x) (run_opts_in o parts)) given)
seeded o None parts = none_within
seeded o (Some x) parts = run_options_within (Bench x) o parts (λ opts are. are)

bench_within : (o : Bool) (words : List Text) → Within (bench_of o words)
bench_within o words =
    parts_within (parts_of (colours ∷ stack ∷ steps ∷ []) 1 words) (λ parts. option_and_then (λ x. option_map (Bench x) (run_opts_in o parts)) (seed_in parts)) (λ parts. seeded o (seed_in parts) parts)

-- the number of a call is one at least
call_is_in : (found : Option Text) → IsIn 1 call_limit (option_and_then (number_in 1 call_limit) found)
call_is_in None = tt
call_is_in (Some text) = number_is_in 1 call_limit text

called : (o : Bool) (given : Option ℕ) (parts : List Part) → IsIn 1 call_limit given → Within (option_and_then (λ k. option_map (Where k) (run_opts_in o parts)) given)
called o None parts h = none_within
called o (Some k) parts h = run_options_within (Where k) o parts (λ opts are. (omega (arith, h.0), are))

where_within : (o : Bool) (words : List Text) → Within (where_of o words)
where_within o words =
    parts_within (parts_of (colours ∷ stack ∷ steps ∷ []) 1 words) (λ parts. option_and_then (λ k. option_map (Where k) (run_opts_in o parts)) (call_in parts))
    (λ parts. called o (call_in parts) parts (call_is_in (plain_word parts)))

interp_within : (o : Bool) (words : List Text) → Within (interp_of o words)
interp_within o words = parts_within (parts_of (colours ∷ stack ∷ steps ∷ []) 0 words) (λ parts. option_map Interp (run_opts_in o parts)) (λ parts. run_options_within Interp o parts (λ opts are. are))

build_said : (found : Option Opts) → AreIn found → Within (option_map Build found)
build_said None are = none_within
build_said (Some opts) are = some_within (Build opts) are

build_within : (o : Bool) (words : List Text) → Within (build_of o words)
build_within o words = parts_within (parts_of (colours ∷ stack ∷ []) 0 words) (λ parts. option_map Build (build_opts_in o parts)) (λ parts. build_said (build_opts_in o parts) (build_opts_are o parts))

phase_within : (make : Text → Command) (words : List Text) → ((name : Text) → is_module_name name ≡ true → IsWithin (make name)) → Within (option_and_then (λ parts. option_map make (module_in parts)) (parts_of [] 1 words))
phase_within make words k =
    parts_within (parts_of [] 1 words) (λ parts. option_map make (module_in parts))
    (λ parts. named_within make (module_in parts) (λ name e. k name (module_is_named (plain_word parts) name e)))

analyse_within : (words : List Text) → Within (analyse_of words)
analyse_within words = parts_within (parts_of (colours ∷ []) 0 words) (λ parts. option_map Analyse (colours_in parts)) (λ parts. map_within Analyse 0 colour_limit (colours_in parts) (colours_are_in parts) (λ n h k. k))

link_within : (words : List Text) → Within (link_of words)
link_within words = parts_within (parts_of (stack ∷ []) 0 words) (λ parts. option_map Link (stack_in parts)) (λ parts. map_within Link stack_least stack_limit (stack_in parts) (stack_is_in parts) (λ n h k. (h, k)))

run_within : (words : List Text) → Within (run_of words)
run_within words = parts_within (parts_of (steps ∷ []) 0 words) (λ parts. option_map Run (steps_in parts)) (λ parts. any_within Run (steps_in parts) (λ n. tt))

name_within : (name : Text) (o : Bool) (others words : List Text) → Within (command_by_name name o others words)
unfolding command_by_name
name_within name o others words =
    if_within (bytes_eq name (codes "go")) _ _ (go_within o others)
    (if_within (bytes_eq name (codes "build")) _ _ (build_within o others)
    (if_within (bytes_eq name (codes "session")) _ _ (session_within o others)
    (if_within (bytes_eq name (codes "cpp")) _ _ (phase_within Preprocess words (λ n h. h))
    (if_within (bytes_eq name (codes "phase1")) _ _ (phase_within (λ n. PhaseOne n o) others (λ n h. h))
    (if_within (bytes_eq name (codes "analyse")) _ _ (analyse_within words)
    (if_within (bytes_eq name (codes "phase2")) _ _ (phase_within PhaseTwo words (λ n h. h))
    (if_within (bytes_eq name (codes "link")) _ _ (link_within words)
    (if_within (bytes_eq name (codes "run")) _ _ (run_within words)
    (if_within (bytes_eq name (codes "list")) _ _ (listed_within (parts_of [] 0 words) ListImage tt)
    (if_within (bytes_eq name (codes "db")) _ _ (listed_within (parts_of [] 0 words) Db tt)
    (if_within (bytes_eq name (codes "bench")) _ _ (bench_within o others)
    (if_within (bytes_eq name (codes "where")) _ _ (where_within o others)
    (if_within (bytes_eq name (codes "interp")) _ _ (interp_within o others)
    none_within)))))))))))))

pub words_within : (words : List Text) → Within (command_of words)
words_within [] = none_within
words_within (name ∷ words) = name_within name (is_switched words) (unswitched words) words
