-- The text of a database: a line for each web, then lines for the registers that functions share with others.
use Rattle.std.specs.Prelude.{ℕ, ◌==◌, Bool, true, false, if◌then◌else◌, List, [], ◌∷◌, ◌++◌, length, map, filter, codes, fold}
use Rattle.std.specs.List.{flat_map}
use Rattle.std.specs.Ordering.{nat_cmp}
use Rattle.std.specs.FinMap as finite
use Rattle.std.specs.Fmt.{decimal}
use Rattle.pw_inst.specs.Listing.{parts}
use Rattle.pw_db.specs.declared.database.Web.{Web}
use Rattle.pw_db.specs.declared.database.Role.{Role}
use Rattle.pw_db.specs.declared.database.Role.TheVariants.{Entry, Member}
use Rattle.pw_db.specs.declared.database.Directives.{Directives}
use Rattle.pw_db.specs.Database.{all_webs}

-- ---- the webs, each once

abbrev pub Webs : Type 0
Webs = finite.FinMap nat_cmp Web

abbrev pub with_web : Webs → Web → Webs
with_web webs w = finite.insert webs w.id w

-- the webs of the functions, by their numbers
abbrev pub webs_by_number : List (List ℕ × Directives) → Webs
webs_by_number functions = fold with_web finite.empty (all_webs functions)

-- ---- who uses a web

abbrev pub has_role : Role → Role → Bool
has_role Entry Entry = true
has_role Member Member = true
has_role role other = false

-- the webs in which a function has this role, each by its number beside the function's name
abbrev pub uses_of : Role → List ℕ × Directives → List (ℕ × List ℕ)
uses_of role f = map (λ w. (w.0.id, f.0)) (filter (λ w. has_role role w.1) f.1.webs)

-- the same of all functions, which stand in byte order
abbrev pub uses : Role → List (List ℕ × Directives) → List (ℕ × List ℕ)
uses role functions = flat_map (uses_of role) functions

-- the functions among these that use the web of a number
abbrev pub users : List (ℕ × List ℕ) → ℕ → List (List ℕ)
users all id = map (λ u. u.1) (filter (λ u. u.0 == id) all)

-- ---- the lines

abbrev pub word_and_name : List ℕ → List ℕ → List ℕ
word_and_name word name = word ++ name

abbrev pub access : Bool → List ℕ
access writes = if writes then codes " writes" else codes " reads"

-- a web's line: its global, its register, whether it writes, then its entries and its other members
unfoldable pub web_line : Web → List (List ℕ) → List (List ℕ) → List ℕ
web_line w entries members = parts
    (w.global ∷ codes " r" ∷ decimal w.reg ∷ access w.writes
    ∷ flat_map (word_and_name (codes " entry ")) entries
    ∷ flat_map (word_and_name (codes " member ")) members ∷ codes "\n" ∷ [])

-- the line of a web of the functions
abbrev pub line_in : List (List ℕ × Directives) → Web → List ℕ
line_in functions w = web_line w (users (uses Entry functions) w.id) (users (uses Member functions) w.id)

-- the text of the functions' webs, by their numbers
abbrev pub webs_text : List (List ℕ × Directives) → List ℕ
webs_text functions = flat_map (line_in functions) (finite.values (webs_by_number functions))

-- ---- registers that functions share

abbrev pub register_text : ℕ → List ℕ
register_text r = codes " r" ++ decimal r

-- a line with a function's name, a word and its registers, where it has some
abbrev pub register_line : List ℕ → List ℕ → List ℕ → List ℕ
register_line word name registers = if length registers == 0 then [] else name ++ (word ++ (flat_map register_text registers ++ codes "\n"))

-- those that a function saves for others, and those that it is free to use
abbrev pub shared_lines : List ℕ × Directives → List ℕ
shared_lines f = register_line (codes " saves") f.0 f.1.saves ++ register_line (codes " free") f.0 f.1.free

-- ---- the text

abbrev pub text_of : List (List ℕ × Directives) → List ℕ
text_of functions = webs_text functions ++ flat_map shared_lines functions
