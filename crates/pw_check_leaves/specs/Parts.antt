-- Parts of the rules of names and constants, which are functions of their own in the code.
use Rattle.std.specs.Prelude.{ℕ, Bool, false, not, ◌||◌, Option, is_some, is_none, unwrap_or, List, [], ◌∷◌, ◌++◌}
use Rattle.pw_check_literals.specs.Characters.{string_bytes_of}
use Rattle.pw_tree.specs.Trees.{Word}
use Rattle.pw_types.specs.TypeTrees.{QType, type_of}
use Rattle.pw_check_walk.specs.Causes.{Point, needs, OneKindOfTag, OneContent, EnumeratorFits, VoidAlone, NoRecordByValue}
use Rattle.pw_check_walk.specs.Walks.{meets, pure, asks, change, ◌>>=◌, ◌>>◌}
use Rattle.pw_check_rules.specs.Derivations.{ParameterValue}
use Rattle.pw_check_rules.specs.Kinds.{is_record, is_void}
use Rattle.pw_check_rules.specs.Limits.{Spot, name_within, type_within}
use Rattle.pw_check_rules.specs.Leaves.{string_point, texts_of, is_record_tag, value_after, named_point, says_none, adjusted}
use Rattle.pw_check_rules.specs.SpecifierLists.{Specified}
use Rattle.pw_check_rules.specs.States.{Rule, State, EnumerationConstant, records_in, tag_here, enter}

-- the bytes of a string, whose escapes fit
unfoldable pub string_bytes_rule : List Word → Rule (List ℕ)
string_bytes_rule ws = string_point ws >> pure (string_bytes_of (texts_of ws))

-- what the tag of an enumeration asks whose enumerators follow
abbrev pub enumerating_point : Word → State → Point
enumerating_point w s =
    needs OneKindOfTag w.token (not (is_record_tag (tag_here s w.text)))
    ∷ needs OneContent w.token (is_none (tag_here s w.text))
    ∷ name_within w.token w.text
    ∷ []

-- an enumerator behind the point of its name
abbrev pub counted_enumerator : Word → Option ℕ → Rule (Option ℕ)
counted_enumerator w value =
    meets (needs EnumeratorFits w.token (is_some value) ∷ []) >>
    change (enter w.text (EnumerationConstant (unwrap_or value 0))) >>
    pure (value_after (unwrap_or value 0))

-- what a parameter asks of its name and its type
abbrev pub parameter_point : Bool → Spot → Specified → Option Word → QType → State → Point
parameter_point sole spot b name q s =
    named_point s name ++
    (needs VoidAlone spot.token (not (is_void (type_of q)) || says_none sole b name q)
    ∷ needs NoRecordByValue b.first (not (is_record (type_of q)))
    ∷ type_within (records_in s) spot.token (adjusted q))

-- and then the type that it has as a parameter
unfoldable pub parameter_type : Bool → Spot → Specified → Option Word → QType → Rule QType
parameter_type sole spot b name q = asks (parameter_point sole spot b name q) >>= λ p. meets p >> pure (adjusted q)

-- whether the only parameter is void
abbrev pub alone_is_void : List ParameterValue → Bool
alone_is_void (p ∷ []) = is_void (type_of p.ty)
alone_is_void _ = false
