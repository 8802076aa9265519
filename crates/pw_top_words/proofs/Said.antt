-- What the matches of a command line say of its options.
use Rattle.std.proofs.Common.{◌≡◌, Bool, true, false, List, [], ◌∷◌, map, Some, None, refl, sym, ap, ◌∙◌}
use Rattle.std.specs.Prelude.{codes, option_and_then, if◌then◌else◌}
use Rattle.pw_store_modules.specs.Modules.{is_module_name}
use Rattle.std.specs.Str.{bytes_eq}
use Rattle.std.proofs.lemmas.Slice.Eq.{bytes_eq-Decides}
use Rattle.clap.specs.Walk.{Text, first_of}
use Rattle.clap.specs.Matches.{first_value, found_of}
use Rattle.clap.specs.declared.parser.matches.ArgMatches.{ArgMatches}
use Rattle.clap.proofs.WalkLemmas.{first_value-rows}
use Rattle.pw_top_words.specs.CommandLine.{Part, Given, Plain, command_by_name, module_in, module_named, number_in, plain_word, seed_in, call_in, call_limit, value_of, seed_limit}
use Rattle.pw_top_words.specs.Reading.{HasNoOperand, IsMatchOf, operand_id, part_row}

-- a name that is no word's
first_is : (name : Text) (parts : List Part) → bytes_eq operand_id name ≡ false → first_of name (map part_row parts) ≡ value_of name parts
first_is name [] other = refl
first_is name (Given n value ∷ parts) other = go (bytes_eq n name) refl (first_is name parts other)
  where
    go : (b : Bool) → bytes_eq n name ≡ b → first_of name (map part_row parts) ≡ value_of name parts → first_of name (map part_row (Given n value ∷ parts)) ≡ value_of name (Given n value ∷ parts)
    go true e rest = rw e refl
    go false e rest = rw e rest
first_is name (Plain word ∷ parts) other = rw other (first_is name parts other)

plain_is : (parts : List Part) → HasNoOperand parts → first_of operand_id (map part_row parts) ≡ plain_word parts
plain_is [] none = refl
plain_is (Given n value ∷ parts) none = rw none.0 (plain_is parts none.1)
plain_is (Plain word ∷ parts) none = refl

pub option_said : (name : Text) (parts : List Part) (m : ArgMatches) → bytes_eq operand_id name ≡ false → IsMatchOf parts m → first_value (found_of m) name ≡ value_of name parts
option_said name parts m other same = first_value-rows (found_of m) name ∙ ap (first_of name) same.rows ∙ first_is name parts other

pub module_said : (parts : List Part) (m : ArgMatches) → IsMatchOf parts m → first_value (found_of m) operand_id ≡ plain_word parts
module_said parts m same = first_value-rows (found_of m) operand_id ∙ ap (first_of operand_id) same.rows ∙ plain_is parts same.apart

-- ---- the module

pub module_missing : (parts : List Part) → None ≡ plain_word parts → module_in parts ≡ None
module_missing parts e = ap (option_and_then module_named) (sym e)

pub module_refused : (parts : List Part) (name : Text) → Some name ≡ plain_word parts → is_module_name name ≡ false → module_in parts ≡ None
module_refused parts name e bad = ap (option_and_then module_named) (sym e) ∙ ap (λ (b : Bool). if b then Some name else None) bad

pub module_found : (parts : List Part) (name : Text) → Some name ≡ plain_word parts → is_module_name name ≡ true → module_in parts ≡ Some name
module_found parts name e good = ap (option_and_then module_named) (sym e) ∙ ap (λ (b : Bool). if b then Some name else None) good

pub names_a_module : (parts : List Part) (name : Text) → Some name ≡ plain_word parts → is_module_name name ≡ true → module_in parts ≡ None → ⊥
names_a_module parts name e good none = let found = module_found parts name e good in cc

-- ---- the number from which modules are made

pub seed_missing : (parts : List Part) → None ≡ plain_word parts → seed_in parts ≡ None
seed_missing parts e = ap (option_and_then (number_in 0 seed_limit)) (sym e)

pub seed_said : (parts : List Part) (text : Text) → Some text ≡ plain_word parts → seed_in parts ≡ number_in 0 seed_limit text
seed_said parts text e = ap (option_and_then (number_in 0 seed_limit)) (sym e)

-- ---- the number of a call

pub call_missing : (parts : List Part) → None ≡ plain_word parts → call_in parts ≡ None
call_missing parts e = ap (option_and_then (number_in 1 call_limit)) (sym e)

pub call_said : (parts : List Part) (text : Text) → Some text ≡ plain_word parts → call_in parts ≡ number_in 1 call_limit text
call_said parts text e = ap (option_and_then (number_in 1 call_limit)) (sym e)

-- ---- a word that is no command

pub different : (x y : Text) → (x ≡ y → ⊥) → bytes_eq x y ≡ false
different x y apart = go (bytes_eq x y) refl
  where
    go : (b : Bool) → bytes_eq x y ≡ b → bytes_eq x y ≡ false
    go true e = absurd (apart ((bytes_eq-Decides x y).0 e))
    go false e = e

pub unknown : (word : Text) (o : Bool) (others words : List Text) → bytes_eq word (codes "go") ≡ false → bytes_eq word (codes "build") ≡ false → bytes_eq word (codes "session") ≡ false → bytes_eq word (codes "cpp") ≡ false → bytes_eq word (codes "phase1") ≡ false → bytes_eq word (codes "analyse") ≡ false
    → bytes_eq word (codes "phase2") ≡ false → bytes_eq word (codes "link") ≡ false → bytes_eq word (codes "run") ≡ false → bytes_eq word (codes "list") ≡ false
    → bytes_eq word (codes "db") ≡ false → bytes_eq word (codes "bench") ≡ false → bytes_eq word (codes "where") ≡ false → bytes_eq word (codes "interp") ≡ false → command_by_name word o others words ≡ None
unfolding command_by_name
unknown word o others words a b c d e f g h i j k l m n = rw (a, b, c, d, e, f, g, h, i, j, k, l, m, n) refl
