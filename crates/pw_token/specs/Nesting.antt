-- Nesting: how deep a text goes at each of its tokens.
use Rattle.std.specs.Prelude.{ℕ, ◌+◌, Bool, true, false, ◌&&◌, if◌then◌else◌, List, [], ◌∷◌, map}
use Rattle.std.specs.List.{list_any}
use Rattle.pw_token.specs.Roles.{role_in}
use Rattle.pw_token.specs.declared.levels.Level.{Level}
use Rattle.pw_token.specs.declared.levels.Opener.{Opener}
use Rattle.pw_token.specs.declared.levels.Opener.TheVariants as opener
use Rattle.pw_token.specs.declared.roles.Role.{Role}
use Rattle.pw_token.specs.declared.roles.Role.TheVariants as role
use Rattle.pw_token.specs.declared.token.Token.{Token}

-- ---- open levels, the innermost first; the text itself is the outermost

abbrev pub is_bracket : Opener → Bool
is_bracket opener.Bracket = true
is_bracket opener.Text = false
is_bracket opener.Question = false
is_bracket opener.Do = false

abbrev pub is_question : Opener → Bool
is_question opener.Question = true
is_question opener.Text = false
is_question opener.Bracket = false
is_question opener.Do = false

abbrev pub is_do : Opener → Bool
is_do opener.Do = true
is_do opener.Text = false
is_do opener.Bracket = false
is_do opener.Question = false

-- Each open level adds one and its two counts, and the outermost its counts.
abbrev pub nest_of : List Level → ℕ
nest_of [] = 0
nest_of (l ∷ []) = l.expressions + l.controls
nest_of (l ∷ m ∷ ls) = 1 + l.expressions + l.controls + nest_of (m ∷ ls)

abbrev pub opened : Opener → List Level → List Level
opened o ls = record { opener = o; expressions = 0; controls = 0 } ∷ ls

-- one more in the innermost level's first count
abbrev pub with_expression : List Level → List Level
with_expression [] = []
with_expression (l ∷ ls) = record { opener = l.opener; expressions = l.expressions + 1; controls = l.controls } ∷ ls

-- one more in its second count
abbrev pub with_control : List Level → List Level
with_control [] = []
with_control (l ∷ ls) = record { opener = l.opener; expressions = l.expressions; controls = l.controls + 1 } ∷ ls

-- its first count is 0
abbrev pub without_expressions : List Level → List Level
without_expressions [] = []
without_expressions (l ∷ ls) = record { opener = l.opener; expressions = 0; controls = l.controls } ∷ ls

-- its first count is 0, and its second too unless `else` follows
abbrev pub ended : Bool → List Level → List Level
ended else_follows [] = []
ended else_follows (l ∷ ls) = record { opener = l.opener; expressions = 0; controls = if else_follows then l.controls else 0 } ∷ ls

abbrev pub innermost_is : (Opener → Bool) → List Level → Bool
innermost_is p [] = false
innermost_is p (l ∷ ls) = p l.opener

abbrev pub outer_of : List Level → List Level
outer_of [] = []
outer_of (l ∷ ls) = ls

-- without the innermost bracket level and all levels inside it
abbrev pub past_bracket : List Level → List Level
past_bracket [] = []
past_bracket (l ∷ ls) = if is_bracket l.opener then ls else past_bracket ls

-- with no bracket open, as they were
abbrev pub without_bracket : List Level → List Level
without_bracket ls = if list_any (λ l. is_bracket l.opener) ls then past_bracket ls else ls

-- without the `?` levels before any other
abbrev pub without_questions : List Level → List Level
without_questions [] = []
without_questions (l ∷ ls) = if is_question l.opener then without_questions ls else l ∷ ls

-- ---- tokens

abbrev pub is_else : Role → Bool
is_else role.Else = true
is_else _ = false

-- what may begin an operand behind a cast
abbrev pub begins_operand : Role → Bool
begins_operand role.Operand = true
begins_operand role.OpenParen = true
begins_operand role.Step = true
begins_operand role.Unary = true
begins_operand _ = false

-- `;` or `}`
abbrev pub ends_statement : Role → Bool
ends_statement role.Semicolon = true
ends_statement role.CloseBrace = true
ends_statement _ = false

-- Where the walk stands: the token before, whether that is the end of an operand, and the open levels.
pub record State : Type 0 where
  pub before : Role
  pub operand : Bool
  pub levels : List Level

-- a `while` that ends a `do`
abbrev pub ends_do : State → Bool
ends_do s = ends_statement s.before && innermost_is is_do s.levels

-- what a token does to the open levels, where `next` follows it
abbrev pub effect : Role → Role → State → List Level
effect role.OpenParen next s = opened opener.Bracket s.levels
effect role.Open next s = opened opener.Bracket s.levels
effect role.Question next s = opened opener.Question s.levels
effect role.Colon next s = if innermost_is is_question s.levels then with_expression (outer_of s.levels) else s.levels
effect role.CloseParen next s = if begins_operand next then with_expression (without_bracket s.levels) else without_bracket s.levels
effect role.CloseBracket next s = without_bracket s.levels
effect role.CloseBrace next s = ended (is_else next) (without_bracket s.levels)
effect role.Unary next s = if s.operand then s.levels else with_expression s.levels
effect role.Step next s = if s.operand then s.levels else with_expression s.levels
effect role.Assignment next s = with_expression s.levels
effect role.If next s = if is_else s.before then s.levels else with_control s.levels
effect role.Loop next s = with_control s.levels
effect role.While next s = if ends_do s then outer_of s.levels else with_control s.levels
effect role.Do next s = opened opener.Do s.levels
effect role.Comma next s = without_expressions s.levels
effect role.Semicolon next s = ended (is_else next) (without_questions s.levels)
effect role.Operand next s = s.levels
effect role.Else next s = s.levels
effect role.Other next s = s.levels

-- Operands end at an identifier, constant or string, at `)` and `]`, and at a `++` or `--` that is no prefix operator.
abbrev pub operand_after : Role → Bool → Bool
operand_after role.Operand operand = true
operand_after role.CloseParen operand = true
operand_after role.CloseBracket operand = true
operand_after role.Step operand = operand
operand_after _ operand = false

abbrev pub after : Role → Role → State → State
after r next s = record { before = r; operand = operand_after r s.operand; levels = effect r next s }

-- a token that closes a level, at which nesting is taken before its effect
abbrev pub is_closing : Role → State → Bool
is_closing role.CloseParen s = true
is_closing role.CloseBracket s = true
is_closing role.CloseBrace s = true
is_closing role.Colon s = innermost_is is_question s.levels
is_closing role.While s = ends_do s
is_closing _ s = false

abbrev pub nest_at : Role → Role → State → ℕ
nest_at r next s = if is_closing r s then nest_of s.levels else nest_of (effect r next s)

-- the role of the first token, and past the end of the text none
abbrev pub first_role : List Role → Role
first_role [] = role.Other
first_role (r ∷ rs) = r

abbrev pub nests_from : State → List Role → List ℕ
nests_from s [] = []
nests_from s (r ∷ rs) = nest_at r (first_role rs) s ∷ nests_from (after r (first_role rs) s) rs

abbrev pub start : State
start = record { before = role.Other; operand = false; levels = record { opener = opener.Text; expressions = 0; controls = 0 } ∷ [] }

-- the nesting at each token of a text
abbrev pub nests_of : List ℕ → List Token → List ℕ
nests_of text tokens = nests_from start (map (role_in text) tokens)
