-- No rule goes back: what is left behind an answer, or at a fault, is no more than what the rule was given.
use Rattle.std.proofs.Common.{ℕ, zero, suc, ◌≤◌, Bool, true, false, if◌then◌else◌, List, [], ◌∷◌, length, Option, Some, None, Ok, Err, arith}
use Rattle.pw_tree.specs.Symbols.{Symbol, Identifier}
use Rattle.pw_token.specs.declared.symbol.Keyword.{Keyword}
use Rattle.pw_token.specs.declared.symbol.Mark.{Mark}
use Rattle.pw_parse_grammar.specs.declared.place.Place.{Place}
use Rattle.pw_parse_grammar.specs.Input.{Input, Outcome, Parser, and_then, ◌>>=◌, ◌<$>◌, step_to, step, sees, sees_keyword, past, past_keyword, expect, expect_keyword, identifier_by, ordinary_by, Turn, More, Last, turns, go_on, repeat, turn_of, while_some, turn_with, one_or_more, unless_comma}
use Rattle.pw_parse_grammar.specs.Parts.{Parts}

-- the input behind an answer or at a fault
abbrev pub left_of : {A : Type 0} → Outcome A → Input
left_of (Ok p) = p.1
left_of (Err i) = i

-- no more than n tokens are left
pub record Left {A : Type 0} (n : ℕ) (o : Outcome A) : Type 0 where
  pub left : length (left_of o).rest ≤ n

-- what is left was ahead
abbrev pub Forward : {A : Type 0} → Parser A → Type 0
Forward p = (n : ℕ) (i : Input) → length i.rest ≤ n → Left n (p i)

pub left-bind : {A B : Type 0} {n : ℕ} {o : Outcome A} {f : A → Parser B} → Left n o → ((x : A) (j : Input) → length j.rest ≤ n → Left n (f x j)) → Left n (and_then o f)
left-bind {o = Ok p} h g = g p.0 p.1 h.left
left-bind {o = Err i} h g = record { left = h.left }

pub left-answer : {A : Type 0} {n : ℕ} {x : A} {j : Input} → length j.rest ≤ n → Left {A = A} n (Ok (x, j))
left-answer h = record { left = h }

pub left-fault : {A : Type 0} {n : ℕ} {j : Input} → length j.rest ≤ n → Left {A = A} n (Err j)
left-fault h = record { left = h }

pub left-if : {A : Type 0} {n : ℕ} (b : Bool) {x y : Outcome A} → Left n x → Left n y → Left n (if b then x else y)
left-if true h g = h
left-if false h g = g

pub left-parser-if : {A : Type 0} {n : ℕ} (b : Bool) (p q : Parser A) (i : Input) → Left n (p i) → Left n (q i) → Left n ((if b then p else q) i)
left-parser-if true p q i h g = h
left-parser-if false p q i h g = g

pub step-left : (n : ℕ) (i : Input) → length i.rest ≤ n → length (step i).rest ≤ n
unfolding step
step-left n i h = by i.rest h
  where
    by : (rest : List (Option Symbol)) → length rest ≤ n → length (step_to (record i { rest = rest }) rest).rest ≤ n
    by [] h = h
    by (s ∷ rest) h = omega (arith, h)

past-by : (b : Bool) (n : ℕ) (i : Input) → length i.rest ≤ n → length (if b then step i else i).rest ≤ n
past-by true n i h = step-left n i h
past-by false n i h = h

pub past-left : (mark : Mark) (n : ℕ) (i : Input) → length i.rest ≤ n → length (past mark i).rest ≤ n
unfolding past
past-left mark n i h = past-by (sees mark i) n i h

pub past_keyword-left : (word : Keyword) (n : ℕ) (i : Input) → length i.rest ≤ n → length (past_keyword word i).rest ≤ n
unfolding past_keyword
past_keyword-left word n i h = past-by (sees_keyword word i) n i h

pub ruleset left-rules = (left-bind, left-answer, left-fault, left-if, left-parser-if, step-left, past-left, past_keyword-left)

pub expect-left : (mark : Mark) → Forward (expect mark)
unfolding expect
expect-left mark n i h = search left-rules

pub expect_keyword-left : (word : Keyword) → Forward (expect_keyword word)
unfolding expect_keyword
expect_keyword-left word n i h = search left-rules

pub identifier-by-left : (s : Option Symbol) → Forward (identifier_by s)
unfolding identifier_by
identifier-by-left (Some (Identifier x)) n i h = search left-rules
identifier-by-left None n i h = search left-rules
identifier-by-left (Some _) n i h = search left-rules

pub ordinary-by-left : (s : Option Symbol) → Forward (ordinary_by s)
unfolding ordinary_by
ordinary-by-left (Some (Identifier x)) n i h = search left-rules
ordinary-by-left None n i h = search left-rules
ordinary-by-left (Some _) n i h = search left-rules

-- ---- lists

pub go_on-left : {L : Type 0} (more : Parser L) → Forward more → (t : Turn L) → Forward (go_on more t)
go_on-left more g (Last l) n i h = search left-rules
go_on-left more g (More f) n i h = search (left-rules, g)

pub repeat-left : {L : Type 0} (turn : Parser (Turn L)) → Forward turn → (turns : ℕ) → Forward (repeat turn turns)
unfolding repeat
repeat-left turn g zero n i h = left-fault h
repeat-left turn g (suc k) n i h = left-bind (g n i h) (λ t j h. go_on-left (repeat turn k) (repeat-left turn g k) t n j h)

pub while-left : {L : Type 0} (none : L) (item : Parser (Option (L → L))) → Forward item → Forward (while_some none item)
while-left none item g n i h = repeat-left (turn_of none <$> item) (λ n i h. search (left-rules, g)) (turns i) n i h

pub one_or_more-left : {L : Type 0} (item : Parser (L → L)) (end : Parser (Option L)) → Forward item → Forward end → Forward (one_or_more item end)
one_or_more-left item end g e n i h = repeat-left (item >>= λ first. turn_with first <$> end) (λ n i h. search (left-rules, g, e)) (turns i) n i h

pub unless_comma-left : {L : Type 0} (none : L) → Forward (unless_comma none)
unless_comma-left none n i h = search left-rules

-- ---- parts

pub record ForwardParts (parts : Parts) : Type 0 where
  pub expr : (k : ℕ) → Forward (parts.expr k)
  pub specifiers : (storage : Bool) → Forward (parts.specifiers storage)
  pub declarator : (place : Place) (typed : Bool) → Forward (parts.declarator place typed)

pub ruleset forward-rules = (left-rules, expect-left, expect_keyword-left, identifier-by-left, ordinary-by-left, while-left, one_or_more-left, unless_comma-left)
