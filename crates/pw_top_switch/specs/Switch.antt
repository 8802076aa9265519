-- The switch of a command line: whether its words ask for optimised flow graphs, and the other words.
use Rattle.std.specs.Prelude.{ℕ, suc, ◌==◌, ◌&&◌, not, Bool, true, false, if◌then◌else◌, List, [], ◌∷◌, ◌++◌, drop, take, codes, is_some, Option, Some, None, option_map}
use Rattle.std.specs.List.{list_any}
use Rattle.std.specs.Str.{bytes_eq}

abbrev pub Text : Type 0
Text = List ℕ

-- ---- options

-- the word begins with `--`
abbrev pub is_named : Text → Bool
is_named (first ∷ second ∷ rest) = (first == 45) && (second == 45)
is_named word = false

-- `=`
abbrev pub is_equals : ℕ → Bool
is_equals byte = byte == 61

abbrev pub has_value : Text → Bool
has_value word = list_any is_equals (drop 2 word)

-- ---- the switch

-- the word that asks for optimised flow graphs
abbrev pub switch : Text
switch = codes "-O"

-- The place of the first switch: a word that is no option's value, in front of `--`. It tells whether an option waits for
-- its value, which is the next word.
abbrev pub switch_from : Bool → List Text → Option ℕ
switch_from waits [] = None
switch_from true (word ∷ words) = option_map suc (switch_from false words)
switch_from false (word ∷ words) =
    if bytes_eq word (codes "--") then None else
    if bytes_eq word switch then Some 0 else
    option_map suc (switch_from (is_named word && not (has_value word)) words)

-- whether words ask for optimised flow graphs
abbrev pub is_switched : List Text → Bool
is_switched words = is_some (switch_from false words)

abbrev pub without_place : Option ℕ → List Text → List Text
without_place None words = words
without_place (Some n) words = take n words ++ drop (suc n) words

-- the other words; a second switch among them is no part of theirs
abbrev pub unswitched : List Text → List Text
unswitched words = without_place (switch_from false words) words
