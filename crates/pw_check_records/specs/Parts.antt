-- Parts of the rules of members, which are functions of their own in the code.
use Rattle.std.specs.Prelude.{ℕ, not, List, [], ◌∷◌, ◌++◌, map}
use Rattle.pw_value.specs.Caps.{capped}
use Rattle.pw_types.specs.TypeTrees.{QType, type_of, MemberValue, RecordValue}
use Rattle.pw_types.specs.declared.record.Member.{Member}
use Rattle.pw_types.specs.declared.contents.RecordFault.{RecordFault}
use Rattle.pw_types.specs.declared.contents.RecordFault.TheVariants as refused
use Rattle.pw_check_walk.specs.declared.constraints.CheckFault.{CheckFault}
use Rattle.pw_check_walk.specs.declared.constraints.CheckKind.TheVariants.{Limit, NoMemory}
use Rattle.pw_check_walk.specs.declared.constraints.Which.{Which}
use Rattle.pw_check_walk.specs.declared.constraints.Which.TheVariants.{ObjectSize, ShapeLength, TypeDepth}
use Rattle.pw_check_walk.specs.Causes.{Point, needs, OneMember, CompleteMember}
use Rattle.pw_check_walk.specs.Walks.{asks, meets, pure, ◌>>=◌, ◌>>◌}
use Rattle.pw_check_rules.specs.Kinds.{is_function}
use Rattle.pw_check_rules.specs.Limits.{Spot, completed, name_within, type_within}
use Rattle.pw_check_rules.specs.Leaves.{has_member}
use Rattle.pw_check_rules.specs.States.{Rule, records_in}

-- what a member asks of its name and its type
abbrev pub member_point : List RecordValue → Spot → List ℕ → QType → List MemberValue → Point
member_point records spot name q members =
    needs OneMember spot.token (not (has_member members name))
    ∷ needs CompleteMember spot.token (not (is_function (type_of q)))
    ∷ completed records spot CompleteMember (type_of q)
    ∷ name_within spot.token name
    ∷ type_within records spot.token q

abbrev pub member_asks : Spot → List ℕ → QType → List MemberValue → Rule (Unit {0})
member_asks spot name q members = asks records_in >>= λ records. meets (member_point records spot name q members)

-- what the rule of a member does behind its type
abbrev pub member_behind : Spot → List ℕ → QType → List MemberValue → Rule (List MemberValue)
member_behind spot name q members =
    asks records_in >>= λ records.
    meets (member_point records spot name q members) >>
    pure (members ++ record { name = name; ty = q } ∷ [])

-- a count that passes a limit, as far as 64 bits can tell it
abbrev pub told_limit : Which → ℕ → ℕ → CheckFault
told_limit limit count token = record { kind = Limit limit (capped count); token = token }

-- the limit that a structure or union passes
abbrev pub fault_of_record : RecordFault → ℕ → CheckFault
fault_of_record (refused.TooLarge size) token = told_limit ObjectSize size token
fault_of_record (refused.ShapeTooLong length) token = told_limit ShapeLength length token
fault_of_record (refused.TooDeep depth) token = told_limit TypeDepth depth token
fault_of_record refused.NoMemory token = record { kind = NoMemory; token = token }

abbrev pub names_of_members : List Member → List (List ℕ)
names_of_members members = map (λ m. m.name) members
