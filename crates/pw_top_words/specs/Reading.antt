-- What is asked of `clap` for a command line, and what its matches say.
use Rattle.std.specs.Prelude.{◌≡◌, ◌++◌, ◌∷◌, [], ℕ, ◌&&◌, not, Bool, true, false, if◌then◌else◌, List, map, drop, codes, Some, None}
use Rattle.std.specs.Str.{bytes_eq}
use Rattle.clap.specs.Walk.{Row, Rule, rows_of}
use Rattle.clap.specs.Matches.{found_of}
use Rattle.clap.specs.Values.{reading_of}
use Rattle.clap.specs.Simple.{App, new_rule, new_shape}
use Rattle.clap.specs.declared.builder.action.ArgAction.TheVariants.{Set}
use Rattle.clap.specs.declared.builder.value_parser.ValueParser.TheVariants as vp
use Rattle.clap.specs.declared.error.kind.ErrorKind.{ErrorKind}
use Rattle.clap.specs.declared.error.kind.ErrorKind.TheVariants as kind
use Rattle.clap.specs.declared.parser.matches.ArgMatches.{ArgMatches}
use Rattle.clap.specs.declared.parser.matches.ValueSource.TheVariants.{CommandLine}
use Rattle.pw_top_words.specs.declared.fault.WordsFault.{WordsFault}
use Rattle.pw_top_words.specs.declared.fault.WordsFault.TheVariants.{Usage, NoMemory}
use Rattle.pw_top_switch.specs.Switch.{Text}
use Rattle.pw_top_words.specs.CommandLine.{Part, Given, Plain, is_among, parts_of}

-- ---- the arguments that are asked for

-- the argument that a word without an option is
abbrev pub operand_id : Text
operand_id = codes "operand"

abbrev pub option_argument : Text → Rule
option_argument name = record (new_rule name) { long = Some name; action = Some Set }

abbrev pub operand_argument : Rule
operand_argument = record (new_rule operand_id) { action = Some Set; required = true }

abbrev pub operand_arguments : Bool → List Rule
operand_arguments takes = if takes then operand_argument ∷ [] else []

-- a command with these options, that takes one other word or none
abbrev pub app_for : List Text → Bool → App
app_for names takes = record {
  top = record (new_shape (codes "pawc")) {
    rules = map option_argument names ++ operand_arguments takes;
    disable_help_flag = true;
    disable_version_flag = true;
  };
  subs = [];
}

-- ---- what the matches say

abbrev pub row : Text → Text → Row
row id value = record { id = id; values = value ∷ []; count = None; source = Some CommandLine; reading = reading_of vp.String }

abbrev pub part_row : Part → Row
part_row (Given name value) = row name value
part_row (Plain word) = row operand_id word

abbrev pub word_count : Bool → ℕ
word_count takes = if takes then 1 else 0

-- no option has the name of the argument that a word without an option is
abbrev pub HasNoOperand : List Part → Type 0
HasNoOperand [] = Unit {0}
HasNoOperand (Given name value ∷ parts) = (bytes_eq name operand_id ≡ false) × HasNoOperand parts
HasNoOperand (Plain word ∷ parts) = HasNoOperand parts

-- the matches have these parts
pub record IsMatchOf (parts : List Part) (m : ArgMatches) : Type 0 where
  pub rows : rows_of (found_of m) ≡ map part_row parts
  pub apart : HasNoOperand parts

-- the matches have the parts of the words
pub record HasParts (names : List Text) (takes : Bool) (words : List Text) (m : ArgMatches) : Type 0 where
  pub parts : List Part
  pub of : parts_of names (word_count takes) (drop 1 words) ≡ Some parts
  pub same : IsMatchOf parts m

-- the words are refused only where they have no parts
abbrev pub IsRefusal : List Text → Bool → List Text → WordsFault → Type 0
IsRefusal names takes words Usage = parts_of names (word_count takes) (drop 1 words) ≡ None
IsRefusal names takes words NoMemory = Unit {0}

-- what an error of `clap` comes to
abbrev pub fault_of_kind : ErrorKind → WordsFault
fault_of_kind kind.OutOfMemory = NoMemory
fault_of_kind _ = Usage

-- no two names are one, and none is the argument's of a word without an option
abbrev pub are_distinct : List Text → Bool
are_distinct [] = true
are_distinct (name ∷ names) = not (bytes_eq name operand_id) && (not (is_among name names) && are_distinct names)
