-- What a parser reads from, and the steps that each rule is made of.
use Rattle.std.specs.Prelude.{ℕ, zero, suc, ◌+◌, Bool, true, false, if◌then◌else◌, List, [], ◌∷◌, ◌++◌, length, take, drop, Option, Some, None, Result, Ok, Err}
use denote.Enum.Bare.{sameb}
use Rattle.pw_scope.specs.Visible.{visible}
use Rattle.pw_tree.specs.Symbols.{Symbol, Reserved, Sign, Identifier}
use Rattle.pw_tree.specs.Trees.{Word}
use Rattle.pw_token.specs.contracts.symbol.Keyword.{the_type as the_keywords}
use Rattle.pw_token.specs.contracts.symbol.Mark.{the_type as the_marks}
use Rattle.pw_token.specs.declared.symbol.Keyword.{Keyword}
use Rattle.pw_token.specs.declared.symbol.Mark.{Mark}
use Rattle.pw_token.specs.declared.symbol.Mark.TheVariants.{Comma}

-- a name, and whether it is a typedef name
abbrev pub Binding : Type 0
Binding = List ℕ × Bool

pub record Input : Type 0 where
  -- the declarations in scope, the newest last
  pub names : List Binding
  -- what the tokens ahead are for the grammar, None for one that stands in no tree
  pub rest : List (Option Symbol)
  -- the number of the first token ahead, counted from 1
  pub next : ℕ

-- ---- the token ahead

abbrev pub first_of_rest : List (Option Symbol) → Option Symbol
first_of_rest [] = None
first_of_rest (s ∷ rest) = s

-- what the next token is; None at the end of the text too
unfoldable pub ahead : Input → Option Symbol
ahead i = first_of_rest i.rest

abbrev pub is_none_left : List (Option Symbol) → Bool
is_none_left [] = true
is_none_left (s ∷ rest) = false

-- no token is left
unfoldable pub at_end : Input → Bool
at_end i = is_none_left i.rest

abbrev pub step_to : Input → List (Option Symbol) → Input
step_to i [] = i
step_to i (s ∷ rest) = record i { rest = rest; next = i.next + 1 }

-- behind the next token
unfoldable pub step : Input → Input
step i = step_to i i.rest

-- whether two marks are one
unfoldable pub same_mark : Mark → Mark → Bool
same_mark = sameb the_marks

unfoldable pub same_keyword : Keyword → Keyword → Bool
same_keyword = sameb the_keywords

abbrev pub is_mark : Mark → Option Symbol → Bool
is_mark m (Some (Sign other)) = same_mark other m
is_mark m _ = false

abbrev pub is_keyword : Keyword → Option Symbol → Bool
is_keyword k (Some (Reserved other)) = same_keyword other k
is_keyword k _ = false

unfoldable pub sees : Mark → Input → Bool
sees m i = is_mark m (ahead i)

unfoldable pub sees_keyword : Keyword → Input → Bool
sees_keyword k i = is_keyword k (ahead i)

abbrev pub or_false : Option Bool → Bool
or_false None = false
or_false (Some b) = b

-- a name that is visible as a typedef name
unfoldable pub is_typedef_name : Input → List ℕ → Bool
is_typedef_name i name = or_false (visible i.names name)

-- ---- parsers

-- what a parser answers and the input behind it, or the input at the token where it fails
abbrev pub Outcome : Type 0 → Type 0
Outcome A = Result (A × Input) Input

abbrev pub Parser : Type 0 → Type 0
Parser A = Input → Outcome A

abbrev pub and_then : {A B : Type 0} → Outcome A → (A → Parser B) → Outcome B
and_then (Ok p) f = f p.0 p.1
and_then (Err i) f = Err i

infixl 10 ◌>>=◌
abbrev pub ◌>>=◌ : {A B : Type 0} → Parser A → (A → Parser B) → Parser B
p >>= f = λ i. and_then (p i) f

infixl 10 ◌>>◌
abbrev pub ◌>>◌ : {A B : Type 0} → Parser A → Parser B → Parser B
p >> q = p >>= (λ _. q)

abbrev pub pure : {A : Type 0} → A → Parser A
pure a = λ i. Ok (a, i)

infixr 11 ◌<$>◌
abbrev pub ◌<$>◌ : {A B : Type 0} → (A → B) → Parser A → Parser B
f <$> p = p >>= (λ x. pure (f x))

-- no rule goes on with the next token
abbrev pub fault : {A : Type 0} → Parser A
fault = λ i. Err i

-- what the input says
abbrev pub asks : {A : Type 0} → (Input → A) → Parser A
asks f = λ i. Ok (f i, i)

abbrev pub peek : Parser (Option Symbol)
peek = asks ahead

-- the next token's number
abbrev pub here : Parser ℕ
here = asks (λ i. i.next)

abbrev pub skip : Parser (Unit {0})
skip = λ i. Ok (tt, step i)

-- the next token's number, and the token is read
abbrev pub take_number : Parser ℕ
take_number = λ i. Ok (i.next, step i)

-- the next token, which has these bytes
abbrev pub word : List ℕ → Parser Word
word text = λ i. Ok (record { token = i.next; text = text }, step i)

unfoldable pub past : Mark → Input → Input
past m i = if sees m i then step i else i

unfoldable pub past_keyword : Keyword → Input → Input
past_keyword k i = if sees_keyword k i then step i else i

-- reads a mark if it stands next, and says whether it did
abbrev pub eat : Mark → Parser Bool
eat m = λ i. Ok (sees m i, past m i)

abbrev pub eat_keyword : Keyword → Parser Bool
eat_keyword k = λ i. Ok (sees_keyword k i, past_keyword k i)

unfoldable pub expect : Mark → Parser (Unit {0})
expect m = λ i. if sees m i then Ok (tt, step i) else Err i

unfoldable pub expect_keyword : Keyword → Parser (Unit {0})
expect_keyword k = λ i. if sees_keyword k i then Ok (tt, step i) else Err i

-- an identifier, whatever it stands for
unfoldable pub identifier_by : Option Symbol → Parser Word
identifier_by (Some (Identifier s)) = word s
identifier_by _ = fault

abbrev pub identifier : Parser Word
identifier = peek >>= identifier_by

-- an identifier that is not visible as a typedef name
unfoldable pub ordinary_by : Option Symbol → Parser Word
ordinary_by (Some (Identifier s)) = λ i. if is_typedef_name i s then Err i else word s i
ordinary_by _ = fault

abbrev pub ordinary : Parser Word
ordinary = peek >>= ordinary_by

-- ---- scopes

-- how many declarations are in scope
abbrev pub mark : Parser ℕ
mark = asks (λ i. length i.names)

abbrev pub declare : Binding → Parser (Unit {0})
declare b = λ i. Ok (tt, record i { names = i.names ++ b ∷ [] })

abbrev pub declare_all : List Binding → Parser (Unit {0})
declare_all bs = λ i. Ok (tt, record i { names = i.names ++ bs })

-- ends the scope that began at a mark
abbrev pub leave : ℕ → Parser (Unit {0})
leave n = λ i. Ok (tt, record i { names = take n i.names })

-- what was declared since a mark
abbrev pub since : ℕ → Parser (List Binding)
since n = asks (λ i. drop n i.names)

-- ---- lists

-- what a turn of a list reads: an item, which stands before the rest of the list, or the list's end
pub data Turn (L : Type 0) : Type 0 where
  More : (L → L) → Turn L
  Last : L → Turn L

abbrev pub turns : Input → ℕ
turns i = length i.rest + 1

abbrev pub go_on : {L : Type 0} → Parser L → Turn L → Parser L
go_on more (Last l) = pure l
go_on more (More before) = before <$> more

-- Turns up to the last. Each but the last reads a token, so that `turns` of the input are enough.
unfoldable pub repeat : {L : Type 0} → Parser (Turn L) → ℕ → Parser L
repeat turn zero = fault
repeat turn (suc n) = turn >>= go_on (repeat turn n)

abbrev pub list_of : {L : Type 0} → Parser (Turn L) → Parser L
list_of turn = λ i. repeat turn (turns i) i

-- an item where one begins, and else the end of the list
abbrev pub turn_of : {L : Type 0} → L → Option (L → L) → Turn L
turn_of none None = Last none
turn_of none (Some item) = More item

-- an item where one begins
abbrev pub while_some : {L : Type 0} → L → Parser (Option (L → L)) → Parser L
while_some none item = list_of (turn_of none <$> item)

-- what stands behind an item: the end of the list, or another item
abbrev pub turn_with : {L : Type 0} → (L → L) → Option L → Turn L
turn_with item None = More item
turn_with item (Some none) = Last (item none)

-- one item or more; `end` says where the list ends behind an item
abbrev pub one_or_more : {L : Type 0} → Parser (L → L) → Parser (Option L) → Parser L
one_or_more item end = list_of (item >>= λ first. turn_with first <$> end)

-- the list goes on behind a comma
abbrev pub unless_comma : {L : Type 0} → L → Parser (Option L)
unless_comma none = (λ comma. if comma then None else Some none) <$> eat Comma
