-- How an expression is read from front to back with a stack of what waits for an operand.
use Rattle.std.specs.Prelude.{ℕ, ◌+◌, Bool, true, false, if◌then◌else◌, nat_le, List, [], ◌∷◌, Option, None, Some, option_map, option_and_then}
use Rattle.std.specs.Option.{option_or}
use Rattle.pw_token.specs.declared.symbol.Mark.{Mark}
use Rattle.pw_token.specs.declared.symbol.Mark.TheVariants as m
use Rattle.pw_cpp_values.specs.Arithmetic.{unary, conditional}
use Rattle.pw_cpp_values.specs.declared.arithmetic.Number.{Number}
use Rattle.pw_cpp_condition.specs.Grammar.{between, choice_level, prefix_level}
use Rattle.pw_cpp_condition.specs.Words.{infix_of, level, prefix_of}
use Rattle.pw_cpp_condition.specs.declared.frame.Follow.{Follow}
use Rattle.pw_cpp_condition.specs.declared.frame.Follow.TheVariants.{Goes, Asks, Parts, Closes}
use Rattle.pw_cpp_condition.specs.declared.frame.Frame.{Frame}
use Rattle.pw_cpp_condition.specs.declared.frame.Frame.TheVariants.{Group, Prefix, Between, Question, Colon}
use Rattle.pw_cpp_condition.specs.declared.word.Item.{Item}
use Rattle.pw_cpp_condition.specs.declared.word.Item.TheVariants as item

abbrev pub is_open : Mark → Bool
is_open m.OpenParen = true
is_open _ = false

-- what a mark does where an operand is wanted
abbrev pub lead_of : Mark → Option Frame
lead_of mark = if is_open mark then Some Group else option_map Prefix (prefix_of mark)

-- the marks that have a meaning of their own behind an operand
abbrev pub special_follow : Mark → Option Follow
special_follow m.Question = Some Asks
special_follow m.Colon = Some Parts
special_follow m.CloseParen = Some Closes
special_follow _ = None

-- what a mark does behind an operand
abbrev pub follow_of : Mark → Option Follow
follow_of mark = option_or (special_follow mark) (option_map Goes (infix_of mark))

-- ---- frames

-- the frame takes the operand behind it before what binds at this level does
abbrev pub binds : ℕ → Frame → Bool
binds n Group = false
binds n (Prefix op) = nat_le n prefix_level
binds n (Between op a) = nat_le n (level op)
binds n (Question c) = false
binds n (Colon c a) = nat_le n choice_level

abbrev pub applied : Frame → Number → Number
applied Group v = v
applied (Prefix op) v = unary op v
applied (Between op a) v = between op a v
applied (Question c) v = v
applied (Colon c a) v = conditional c a v

-- an operand, and the frames that wait, the innermost first
abbrev pub Held : Type 0
Held = Number × List Frame

abbrev pub reduced : ℕ → Number → List Frame → Held
reduced n v [] = (v, [])
reduced n v (frame ∷ frames) = if binds n frame then reduced n (applied frame v) frames else (v, frame ∷ frames)

-- frames with one more within them, if there is one
abbrev pub with_inner : Option Frame → List Frame → List Frame
with_inner (Some frame) frames = frame ∷ frames
with_inner None frames = frames

-- ---- steps

-- the operand that stands last, if one does, and the frames
abbrev pub State : Type 0
State = Option Number × List Frame

-- the condition of a `?` that waits
abbrev pub asked : Frame → Option Number
asked (Question c) = Some c
asked Group = None
asked (Prefix op) = None
asked (Between op a) = None
asked (Colon c a) = None

abbrev pub is_group : Frame → Bool
is_group Group = true
is_group (Prefix op) = false
is_group (Between op a) = false
is_group (Question c) = false
is_group (Colon c a) = false

-- with one more frame an operand is wanted
abbrev pub waiting_in : List Frame → Frame → State
waiting_in frames frame = (None, frame ∷ frames)

abbrev pub parted : Number → List Frame → Option State
parted v [] = None
parted v (frame ∷ frames) = option_map (λ c. waiting_in frames (Colon c v)) (asked frame)

abbrev pub closed : Number → List Frame → Option State
closed v [] = None
closed v (frame ∷ frames) = if is_group frame then Some (Some v, frames) else None

abbrev pub follow_level : Follow → ℕ
follow_level (Goes op) = level op
follow_level Asks = choice_level + 1
follow_level Parts = choice_level
follow_level Closes = choice_level

-- what follows an operand that was reduced so far
abbrev pub followed : Follow → Number → List Frame → Option State
followed (Goes op) v frames = Some (waiting_in frames (Between op v))
followed Asks v frames = Some (waiting_in frames (Question v))
followed Parts v frames = parted v frames
followed Closes v frames = closed v frames

abbrev pub following : Number → List Frame → Follow → Option State
following v frames follow = let held = reduced (follow_level follow) v frames in followed follow held.0 held.1

abbrev pub step : Option Number → List Frame → Item → Option State
step None frames (item.Operand n) = Some (Some n, frames)
step None frames (item.Mark mark) = option_map (waiting_in frames) (lead_of mark)
step (Some v) frames (item.Operand n) = None
step (Some v) frames (item.Mark mark) = option_and_then (following v frames) (follow_of mark)

abbrev pub whole : Number → List Frame → Option Number
whole v [] = Some v
whole v (frame ∷ frames) = None

abbrev pub finished : Option Number → List Frame → Option Number
finished None frames = None
finished (Some v) frames = let held = reduced choice_level v frames in whole held.0 held.1

abbrev pub run : Option Number → List Frame → List Item → Option Number
run operand frames [] = finished operand frames
run operand frames (i ∷ items) = option_and_then (λ (state : State). run state.0 state.1 items) (step operand frames i)
