-- Lists that are read turn by turn, in two texts that are one up to a place.
use Rattle.std.proofs.Common.{ℕ, zero, suc, ◌+◌, ◌<◌, ◌≤◌, Bool, true, false, if◌then◌else◌, List, ◌∷◌, length, Option, Some, None, Ok, arith}
use Rattle.pw_tree.specs.Symbols.{Symbol}
use Rattle.pw_token.specs.declared.symbol.Mark.TheVariants as m
use Rattle.pw_parse_grammar.specs.Input.{Binding, Outcome, Parser, ◌>>=◌, ◌<$>◌, pure, ahead, is_mark, sees, past, step, Turn, More, Last, go_on, repeat, list_of, turn_of, while_some, turns, one_or_more, turn_with, unless_comma}
use Rattle.pw_parse_grammar.proofs.Trees.Base.{no_turns}
use Rattle.pw_parse_grammar.proofs.Progress.Base.{Forward, forward-rules, go_on-left, repeat-left, unless_comma-left}
use Rattle.pw_parse_grammar.proofs.Local.Base.{input, Near, gone, more, Agree, passed, answers, faults, Local, wider, bind-any}

-- a nearer place for the texts: no farther than the tokens ahead, nor than before
pub record Nearer (r w : List (Option Symbol)) (m : ℕ) (t t' : List (Option Symbol)) : Type 0 where
  pub count : ℕ
  pub lower : count ≤ m
  pub left : count ≤ length t + 1
  pub right : count ≤ length t' + 1
  pub near : Near r w count t t'

pub nearer : {r w : List (Option Symbol)} {m : ℕ} {t t' : List (Option Symbol)} → Near r w m t t' → Nearer r w m t t'
nearer gone = record { count = 0; lower = omega arith; left = omega arith; right = omega arith; near = gone }
nearer (more s h) = let k = nearer h in record { count = suc k.count; lower = omega (arith, k.lower); left = omega (arith, k.left); right = omega (arith, k.right); near = more s k.near }

pub farther : {r w : List (Option Symbol)} {t t' : List (Option Symbol)} {k : ℕ} → Near r w k t t' → (m : ℕ) → k ≤ m → Near r w m t t'
farther gone m h = gone
farther (more s g) zero h = no_turns h
farther (more s g) (suc m) h = more s (farther g m (omega (arith, h)))

pub agree-upto : {r w : List (Option Symbol)} {A : Type 0} {k m : ℕ} {o o' : Outcome A} → k ≤ m → Agree r w (λ _. k) o o' → Agree r w (λ _. m) o o'
agree-upto e (passed l) = passed l
agree-upto {m = m} e (answers h) = answers (farther h m e)
agree-upto e (faults h) = faults h

-- behind an item stands a token less
abbrev pub turn_bound : {L : Type 0} → ℕ → Turn L → ℕ
turn_bound m (More f) = m
turn_bound m (Last l) = suc m

abbrev pub item_bound : {L : Type 0} → ℕ → Option (L → L) → ℕ
item_bound m None = suc m
item_bound m (Some f) = m

abbrev pub end_bound : {L : Type 0} → ℕ → Option L → ℕ
end_bound m None = m
end_bound m (Some l) = suc m

module _ (r w : List (Option Symbol)) {L : Type 0} where
  pub repeat-local : (turn turn' : Parser (Turn L)) → Forward turn → (m : ℕ) → ((j : ℕ) → j < m → Local r w (suc j) (turn_bound j) turn turn') → (k : ℕ) → k ≤ m → (n n' : ℕ) → k ≤ n → k ≤ n'
      → Local r w k (λ _. k) (repeat turn n) (repeat turn' n')
  unfolding repeat
  repeat-local turn turn' left m g k c n n' e e' names number t t' gone = passed (repeat-left turn left n (length r) (input names r number) (omega arith))
  repeat-local turn turn' left m g (suc k) c zero n' e e' names number t t' (more s h) = no_turns e
  repeat-local turn turn' left m g (suc k) c (suc n) zero e e' names number t t' (more s h) = no_turns e'
  repeat-local turn turn' left m g (suc k) c (suc n) (suc n') e e' names number t t' (more s h) =
      bind-any (turn_bound k) (go_on (repeat turn' n')) (g k c names number t t' (more s h)) (by (repeat-local turn turn' left m g k (omega (arith, c)) n n' (omega (arith, e)) (omega (arith, e'))))
      (go_on-left (repeat turn n) (repeat-left turn left n))
    where
      by : Local r w k (λ _. k) (repeat turn n) (repeat turn' n') → (v : Turn L) (names : List Binding) (number : ℕ) (t t' : List (Option Symbol)) → Near r w (turn_bound k v) t t'
          → Agree r w (λ _. suc k) (go_on (repeat turn n) v (input names t number)) (go_on (repeat turn' n') v (input names t' number))
      by rest (Last l) names number t t' h = answers h
      by rest (More f) names number t t' h = bind-any (λ _. k) (λ l. pure (f l)) (rest names number t t' h) (λ l names number t t' h. answers (wider h)) (λ l n i h. search forward-rules)

  pub list-local : (turn turn' : Parser (Turn L)) → Forward turn → (m : ℕ) → ((j : ℕ) → j < m → Local r w (suc j) (turn_bound j) turn turn') → Local r w m (λ _. m) (list_of turn) (list_of turn')
  list-local turn turn' left m g names number t t' h =
      let k = nearer h in
      agree-upto k.lower (repeat-local turn turn' left m g k.count k.lower (turns (input names t number)) (turns (input names t' number)) k.left k.right names number t t' k.near)

  -- a list of items where one begins
  pub while-local : (none : L) (item item' : Parser (Option (L → L))) → Forward item → (m : ℕ) → ((j : ℕ) → j < m → Local r w (suc j) (item_bound j) item item')
      → Local r w m (λ _. m) (while_some none item) (while_some none item')
  while-local none item item' left m g = list-local (turn_of none <$> item) (turn_of none <$> item') (λ n i h. search (forward-rules, left)) m (λ j c names number t t' h.
      bind-any (item_bound j) (λ x. pure (turn_of none x)) (g j c names number t t' h) (by j) (λ x n i h. search forward-rules))
    where
      by : (j : ℕ) (x : Option (L → L)) (names : List Binding) (number : ℕ) (t t' : List (Option Symbol)) → Near r w (item_bound j x) t t'
          → Agree r w (turn_bound j) (Ok (turn_of none x, input names t number)) (Ok (turn_of none x, input names t' number))
      by j None names number t t' h = answers h
      by j (Some f) names number t t' h = answers h

  -- one item or more: behind an item a token is read, or the list ends
  pub items-local : (item item' : Parser (L → L)) (end end' : Parser (Option L)) → Forward item → Forward end → (m : ℕ) → ((j : ℕ) → j < m → Local r w (suc j) (λ _. suc j) item item')
      → ((j : ℕ) → j < m → Local r w (suc j) (end_bound j) end end') → Local r w m (λ _. m) (one_or_more item end) (one_or_more item' end')
  items-local item item' end end' left left-end m g e = list-local (item >>= λ first. turn_with first <$> end) (item' >>= λ first. turn_with first <$> end') (λ n i h. search (forward-rules, left, left-end)) m (λ j c names number t t' h.
      bind-any (λ _. suc j) (λ first. turn_with first <$> end') (g j c names number t t' h) (λ first names number t t' h.
      bind-any (end_bound j) (λ x. pure (turn_with first x)) (e j c names number t t' h) (by j first) (λ x n i h. search forward-rules)) (λ first n i h. search (forward-rules, left-end)))
    where
      by : (j : ℕ) (first : L → L) (x : Option L) (names : List Binding) (number : ℕ) (t t' : List (Option Symbol)) → Near r w (end_bound j x) t t'
          → Agree r w (turn_bound j) (Ok (turn_with first x, input names t number)) (Ok (turn_with first x, input names t' number))
      by j first None names number t t' h = answers h
      by j first (Some l) names number t t' h = answers h

  -- one item or more, each of which reads a token
  pub units-local : (item item' : Parser (L → L)) (end end' : Parser (Option L)) → Forward item → Forward end → (m : ℕ) → ((j : ℕ) → j < m → Local r w (suc j) (λ _. j) item item')
      → ((j : ℕ) → j < m → Local r w j (λ _. j) end end') → Local r w m (λ _. m) (one_or_more item end) (one_or_more item' end')
  units-local item item' end end' left left-end m g e = list-local (item >>= λ first. turn_with first <$> end) (item' >>= λ first. turn_with first <$> end') (λ n i h. search (forward-rules, left, left-end)) m (λ j c names number t t' h.
      bind-any (λ _. j) (λ first. turn_with first <$> end') (g j c names number t t' h) (λ first names number t t' h.
      bind-any (λ _. j) (λ x. pure (turn_with first x)) (e j c names number t t' h) (by j first) (λ x n i h. search forward-rules)) (λ first n i h. search (forward-rules, left-end)))
    where
      by : (j : ℕ) (first : L → L) (x : Option L) (names : List Binding) (number : ℕ) (t t' : List (Option Symbol)) → Near r w j t t'
          → Agree r w (turn_bound j) (Ok (turn_with first x, input names t number)) (Ok (turn_with first x, input names t' number))
      by j first None names number t t' h = answers h
      by j first (Some l) names number t t' h = answers (wider h)

  comma-end : (none : L) (j : ℕ) → Local r w (suc j) (end_bound j) (unless_comma none) (unless_comma none)
  unfolding sees past ahead step
  comma-end none j names number t t' gone = passed (unless_comma-left none (length r) (input names r number) (omega arith))
  comma-end none j names number t t' (more {t = u} {t' = u'} s h) = by (is_mark m.Comma s)
    where
      by : (b : Bool)
          → Agree r w (end_bound j) (Ok (if b then None else Some none, if b then input names u (number + 1) else input names (s ∷ u) number)) (Ok (if b then None else Some none, if b then input names u' (number + 1) else input names (s ∷ u') number))
      by true = answers h
      by false = answers (more s h)

  -- one item or more, with commas between them
  pub comma-local : (none : L) (item item' : Parser (L → L)) → Forward item → (m : ℕ) → ((j : ℕ) → j < m → Local r w (suc j) (λ _. suc j) item item')
      → Local r w m (λ _. m) (one_or_more item (unless_comma none)) (one_or_more item' (unless_comma none))
  comma-local none item item' left m g = items-local item item' (unless_comma none) (unless_comma none) left (unless_comma-left none) m g (λ j c. comma-end none j)
