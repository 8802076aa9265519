-- Lists in two texts that are one up to a place, where what stands behind a name right before the place decides whether it belongs to the list: labels and a block's declarations (6.6.1, 6.6.2).
use Rattle.std.proofs.Common.{◌≡◌, ℕ, zero, suc, ◌<◌, ◌≤◌, Bool, true, false, ◌||◌, if◌then◌else◌, List, ◌∷◌, length, Option, Some, None, Ok, arith, refl}
use Rattle.pw_tree.specs.Symbols.{Symbol, Identifier}
use Rattle.pw_parse_grammar.specs.Input.{Binding, Input, Outcome, Parser, and_then, ◌<$>◌, pure, is_typedef_name, Turn, turns, go_on, repeat, turn_of, while_some}
use Rattle.pw_parse_grammar.proofs.Trees.Base.{no_turns, true_is_not_false}
use Rattle.pw_parse_grammar.proofs.Progress.Base.{Left, Forward, forward-rules, left-bind, go_on-left, repeat-left}
use Rattle.pw_parse_grammar.proofs.Local.Base.{input, Near, gone, more, Agree, passed, answers, faults, wider, agree-bind}
use Rattle.pw_parse_grammar.proofs.Local.Lists.{item_bound, nearer, agree-upto}

-- The outcomes agree, or the first stops at a name right before the place, which is visible as a typedef name or not as the flag says.
pub data Upto (r w : List (Option Symbol)) (typed : Bool) {A : Type 0} (m : ℕ) : Outcome A → Outcome A → Type 0 where
  upto : {o o' : Outcome A} → Agree r w (λ _. m) o o' → Upto r w typed m o o'
  at_name : {v : A} {names : List Binding} {n : ℕ} {x : List ℕ} {o' : Outcome A} → 0 < m → is_typedef_name (input names r n) x ≡ typed → Upto r w typed m (Ok (v, input names (Some (Identifier x) ∷ r) n)) o'

pub bind-upto : {r w : List (Option Symbol)} {typed : Bool} (m : ℕ) {A B : Type 0} {c : B → ℕ} {o o' : Outcome A} {f : A → Parser B} (f' : A → Parser B) → Upto r w typed m o o'
    → ((v : A) (names : List Binding) (n : ℕ) (t t' : List (Option Symbol)) → Near r w m t t' → Agree r w c (f v (input names t n)) (f' v (input names t' n)))
    → ((v : A) → Forward (f v)) → ((v : A) (names : List Binding) (n : ℕ) (x : List ℕ) → 0 < m → is_typedef_name (input names r n) x ≡ typed → Left (length r) (f v (input names (Some (Identifier x) ∷ r) n)))
    → Agree r w c (and_then o f) (and_then o' f')
bind-upto {r = r} {w = w} m f' (upto a) g left name = agree-bind r w m f' a g left
bind-upto m f' (at_name {v = v} {names = names} {n = n} {x = x} p e) g left name = passed (name v names n x p e)

mapped : {r w : List (Option Symbol)} {typed : Bool} (k : ℕ) {A : Type 0} {o o' : Outcome A} (f : A → A) → Upto r w typed k o o' → Upto r w typed (suc k) (and_then o (λ l. pure (f l))) (and_then o' (λ l. pure (f l)))
mapped {r = r} {w = w} k f (upto a) = upto (agree-bind r w k _ a (λ l names n t t' h. answers (wider h)) (λ l n i h. search forward-rules))
mapped k f (at_name p e) = at_name (omega arith) e

upto-higher : {r w : List (Option Symbol)} {typed : Bool} {A : Type 0} {k m : ℕ} {o o' : Outcome A} → k ≤ m → Upto r w typed k o o' → Upto r w typed m o o'
upto-higher c (upto a) = upto (agree-upto c a)
upto-higher c (at_name p e) = at_name (omega (arith, p, c)) e

-- An item of such a list: both texts have it or not, or the first has none at a name right before the place.
pub data Settles (r w : List (Option Symbol)) (typed : Bool) {L : Type 0} (d : ℕ) : Outcome (Option (L → L)) → Outcome (Option (L → L)) → Type 0 where
  settled : {o o' : Outcome (Option (L → L))} → Agree r w (item_bound d) o o' → Settles r w typed d o o'
  open_name : {names : List Binding} {n : ℕ} {x : List ℕ} {o' : Outcome (Option (L → L))} → is_typedef_name (input names r n) x ≡ typed → Settles r w typed d (Ok (None, input names (Some (Identifier x) ∷ r) n)) o'

module _ (r w : List (Option Symbol)) (typed : Bool) {L : Type 0} (none : L) (item item' : Parser (Option (L → L))) (left : Forward item) (m : ℕ)
    (settles : (j : ℕ) → j < m → (names : List Binding) (n : ℕ) (t t' : List (Option Symbol)) → Near r w (suc j) t t' → Settles r w typed j (item (input names t n)) (item' (input names t' n))) where
  turn-left : Forward (turn_of none <$> item)
  turn-left n i h = search (forward-rules, left)

  turned : (k n n' : ℕ) → ((names : List Binding) (number : ℕ) (t t' : List (Option Symbol)) → Near r w k t t' → Upto r w typed k (repeat (turn_of none <$> item) n (input names t number)) (repeat (turn_of none <$> item') n' (input names t' number)))
      → {o o' : Outcome (Option (L → L))} → Settles r w typed k o o'
      → Upto r w typed (suc k) (and_then (and_then o (λ x. pure (turn_of none x))) (go_on (repeat (turn_of none <$> item) n))) (and_then (and_then o' (λ x. pure (turn_of none x))) (go_on (repeat (turn_of none <$> item') n')))
  turned k n n' rest {o = o} (settled (passed l)) = upto (passed (left-bind (left-bind l (λ x j h. search forward-rules)) (λ x j h. go_on-left (repeat (turn_of none <$> item) n) (repeat-left (turn_of none <$> item) turn-left n) x (length r) j h)))
  turned k n n' rest (settled (answers {v = None} h)) = upto (answers h)
  turned k n n' rest (settled (answers {v = Some f} {names = names} {n = number} {t = t} {t' = t'} h)) = mapped k f (rest names number t t' h)
  turned k n n' rest (settled (faults h)) = upto (faults h)
  turned k n n' rest (open_name e) = at_name (omega arith) e

  repeat-upto : (k : ℕ) → k ≤ m → (n n' : ℕ) → k ≤ n → k ≤ n' → (names : List Binding) (number : ℕ) (t t' : List (Option Symbol)) → Near r w k t t'
      → Upto r w typed k (repeat (turn_of none <$> item) n (input names t number)) (repeat (turn_of none <$> item') n' (input names t' number))
  unfolding repeat
  repeat-upto k c n n' e e' names number t t' gone = upto (passed (repeat-left (turn_of none <$> item) turn-left n (length r) (input names r number) (omega arith)))
  repeat-upto (suc k) c zero n' e e' names number t t' (more s h) = no_turns e
  repeat-upto (suc k) c (suc n) zero e e' names number t t' (more s h) = no_turns e'
  repeat-upto (suc k) c (suc n) (suc n') e e' names number t t' (more s h) = turned k n n' (repeat-upto k (omega (arith, c)) n n' (omega (arith, e)) (omega (arith, e'))) (settles k c names number t t' (more s h))

  pub while-upto : (names : List Binding) (number : ℕ) (t t' : List (Option Symbol)) → Near r w m t t'
      → Upto r w typed m (while_some none item (input names t number)) (while_some none item' (input names t' number))
  while-upto names number t t' h = let k = nearer h in upto-higher k.lower (repeat-upto k.count k.lower (turns (input names t number)) (turns (input names t' number)) k.left k.right names number t t' k.near)

-- ---- what reads a name at its beginning

-- a choice of which the test is known
pub left-chosen : {A : Type 0} {n : ℕ} (b : Bool) (p q : Parser A) (i : Input) → b ≡ true → Left n (p i) → Left n ((if b then p else q) i)
left-chosen true p q i e h = h
left-chosen false p q i e h = true_is_not_false e

pub or-true : (a b : Bool) → b ≡ true → (a || b) ≡ true
or-true true b e = refl
or-true false b e = e

repeat-first : {L : Type 0} (turn : Parser (Turn L)) → Forward turn → (n k : ℕ) (i : Input) → 0 < k → Left n (turn i) → Left n (repeat turn k i)
unfolding repeat
repeat-first turn g n zero i h l = no_turns h
repeat-first turn g n (suc k) i h l = left-bind l (λ t j h. go_on-left (repeat turn k) (repeat-left turn g k) t n j h)

-- a list reads what its first item reads
pub while-first : {L : Type 0} (none : L) (item : Parser (Option (L → L))) → Forward item → (n : ℕ) (i : Input) → Left n (item i) → Left n (while_some none item i)
while-first none item g n i l = repeat-first (turn_of none <$> item) (λ n i h. search (forward-rules, g)) n (turns i) i (omega arith) (left-bind l (λ x j h. search forward-rules))
