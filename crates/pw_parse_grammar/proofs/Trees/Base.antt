-- An input whose tokens ahead are a tree's, and the steps of parsers on it.
use Rattle.std.proofs.Common.{◌≡◌, ℕ, suc, ◌+◌, ◌<◌, Bool, true, false, if◌then◌else◌, List, [], ◌∷◌, ◌++◌, append_assoc, length, map, take, drop, Option, Some, None, Ok, arith, refl, sym, ap, ◌∙◌}
use Rattle.std.proofs.lemmas.List.{length-map, append-nil}
use Rattle.std.proofs.Math.Seq.{take-append_seam, drop-append_seam}
use Rattle.std.specs.Str.{bytes_eq}
use Rattle.std.proofs.lemmas.Slice.Eq.{bytes_eq-Decides}
use Rattle.pw_scope.proofs.Visibility.{visible-declared}
use Rattle.pw_scope.specs.Visible.{visible}
use Rattle.pw_tree.specs.Scopes as scopes
use Rattle.pw_tree.specs.Scopes.{Env}
use Rattle.pw_tree.specs.Symbols.{Symbol, Sign}
use Rattle.pw_token.specs.declared.symbol.Mark.TheVariants as m
use Rattle.pw_parse_grammar.specs.Input.{Binding, Input, Outcome, Parser, ◌>>=◌, and_then, pure, is_typedef_name, or_false, ahead, step, Turn, More, Last, go_on, repeat, turn_of, turn_with, ◌<$>◌, unless_comma, sees, past, same_mark, is_mark, first_of_rest}

-- the names that are visible, as a parser has them: the newest last
abbrev pub binding : scopes.Binding → Binding
binding b = (b.name, b.is_typedef)

abbrev pub names_of : Env → List Binding
names_of [] = []
names_of (b ∷ env) = names_of env ++ binding b ∷ []

-- where these tokens stand ahead
abbrev pub at : Env → List Symbol → ℕ → Input
at env tokens n = record { names = names_of env; rest = map Some tokens; next = n }

bytes_eq-flip : (x y : List ℕ) → bytes_eq x y ≡ bytes_eq y x
bytes_eq-flip x y = by (bytes_eq x y) (bytes_eq y x) refl refl
  where
    by : (a b : Bool) → bytes_eq x y ≡ a → bytes_eq y x ≡ b → a ≡ b
    by true true e f = refl
    by false false e f = refl
    by true false e f = sym ((bytes_eq-Decides y x).1 (sym ((bytes_eq-Decides x y).0 e))) ∙ f
    by false true e f = sym e ∙ (bytes_eq-Decides x y).1 (sym ((bytes_eq-Decides y x).0 f))

-- a name is one of a typedef for the parser where it is one in the tree's scope
pub names_are : (env : Env) (x : List ℕ) → or_false (visible (names_of env) x) ≡ scopes.is_typedef_name env x
names_are [] x = refl
names_are (b ∷ env) x =
    ap or_false (visible-declared (names_of env) b.name x b.is_typedef) ∙ ap (λ c. or_false (if c then Some b.is_typedef else visible (names_of env) x)) (bytes_eq-flip x b.name)
    ∙ by (names_are env x) (bytes_eq b.name x)
  where
    by : or_false (visible (names_of env) x) ≡ scopes.is_typedef_name env x → (c : Bool) → or_false (if c then Some b.is_typedef else visible (names_of env) x) ≡ (if c then b.is_typedef else scopes.is_typedef_name env x)
    by h true = refl
    by h false = h

pub is_typedef : (env : Env) (s : List Symbol) (n : ℕ) (x : List ℕ) → is_typedef_name (at env s n) x ≡ scopes.is_typedef_name env x
unfolding is_typedef_name
is_typedef env s n x = names_are env x

-- two answers are one
pub same : {A : Type 0} {x y : A} (env : Env) (z : List Symbol) {n k : ℕ} → x ≡ y → n ≡ k → ◌≡◌ {A = Outcome A} (Ok (x, at env z n)) (Ok (y, at env z k))
same {y = y} env z {n = n} e f = ap (λ v. Ok (v, at env z n)) e ∙ ap (λ v. Ok (y, at env z v)) f

-- what goes on behind a part
pub chain : {A B : Type 0} {o : Outcome A} {x : A} {i : Input} (f : A → Parser B) {r : Outcome B} → o ≡ Ok (x, i) → f x i ≡ r → and_then o f ≡ r
chain f e g = ap (λ o. and_then o f) e ∙ g

-- ---- lists

-- a turn that reads an item, and the rest of the list behind it
pub turn_more : {L : Type 0} (turn : Parser (Turn L)) (n : ℕ) (i j k : Input) (item : L → L) (rest : L) → turn i ≡ Ok (More item, j) → repeat turn n j ≡ Ok (rest, k) → repeat turn (suc n) i ≡ Ok (item rest, k)
unfolding repeat
turn_more turn n i j k item rest e f = ap (λ o. and_then o (go_on (repeat turn n))) e ∙ ap (λ o. and_then o (λ l. pure (item l))) f

pub turn_last : {L : Type 0} (turn : Parser (Turn L)) (n : ℕ) (i j : Input) (l : L) → turn i ≡ Ok (Last l, j) → repeat turn (suc n) i ≡ Ok (l, j)
unfolding repeat
turn_last turn n i j l e = ap (λ o. and_then o (go_on (repeat turn n))) e

-- there are turns enough for all tokens
pub turns_enough : (tokens : List Symbol) → length tokens < length (map Some tokens) + 1
turns_enough tokens = omega (arith, length-map tokens Some)

pub no_turns : {A : Type 0} {n : ℕ} → n < 0 → A
no_turns {n = n} h = absurd (no n h)
  where
    no : (n : ℕ) → n < 0 → ⊥
    no n h = omega (arith, h)

pub true_is_not_false : {A : Type 0} → false ≡ true → A
true_is_not_false h = absurd (no h)
  where
    no : false ≡ true → ⊥
    no h = cc

-- a list of items where one begins: an item, and the rest behind it
pub some_more : {L : Type 0} (none : L) (item : Parser (Option (L → L))) (n : ℕ) (i j : Input) (k : Input) (f : L → L) (rest : L) → item i ≡ Ok (Some f, j) → repeat (turn_of none <$> item) n j ≡ Ok (rest, k) → repeat (turn_of none <$> item) (suc n) i ≡ Ok (f rest, k)
some_more none item n i j k f rest e g = turn_more (turn_of none <$> item) n i j k f rest (ap (λ o. and_then o (λ x. pure (turn_of none x))) e) g

pub some_last : {L : Type 0} (none : L) (item : Parser (Option (L → L))) (n : ℕ) (i j : Input) → item i ≡ Ok (None, j) → repeat (turn_of none <$> item) (suc n) i ≡ Ok (none, j)
some_last none item n i j e = turn_last (turn_of none <$> item) n i j none (ap (λ o. and_then o (λ x. pure (turn_of none x))) e)

-- a list of one item or more: an item and what is behind it, and the rest
abbrev pub item_turn : {L : Type 0} → Parser (L → L) → Parser (Option L) → Parser (Turn L)
item_turn item end = item >>= λ first. turn_with first <$> end

pub item_more : {L : Type 0} (item : Parser (L → L)) (end : Parser (Option L)) (n : ℕ) (i j j' k : Input) (f : L → L) (rest : L) → item i ≡ Ok (f, j) → end j ≡ Ok (None, j') → repeat (item_turn item end) n j' ≡ Ok (rest, k) → repeat (item_turn item end) (suc n) i ≡ Ok (f rest, k)
item_more item end n i j j' k f rest e g h = turn_more (item_turn item end) n i j' k f rest (ap (λ o. and_then o (λ first. turn_with first <$> end)) e ∙ ap (λ o. and_then o (λ x. pure (turn_with f x))) g) h

pub item_last : {L : Type 0} (item : Parser (L → L)) (end : Parser (Option L)) (n : ℕ) (i j k : Input) (f : L → L) (none : L) → item i ≡ Ok (f, j) → end j ≡ Ok (Some none, k) → repeat (item_turn item end) (suc n) i ≡ Ok (f none, k)
item_last item end n i j k f none e g = turn_last (item_turn item end) n i k (f none) (ap (λ o. and_then o (λ first. turn_with first <$> end)) e ∙ ap (λ o. and_then o (λ x. pure (turn_with f x))) g)

-- behind an item a comma, or the end of the list
pub comma_more : {L : Type 0} (none : L) (env : Env) (z : List Symbol) (n : ℕ) → unless_comma none (at env (Sign m.Comma ∷ z) n) ≡ Ok (None, at env z (n + 1))
unfolding sees past ahead step same_mark
comma_more none env z n = refl

pub comma_last : {L : Type 0} (none : L) (env : Env) (z : List Symbol) (n : ℕ) → is_mark m.Comma (first_of_rest (map Some z)) ≡ false → unless_comma none (at env z n) ≡ Ok (Some none, at env z n)
unfolding sees past ahead step same_mark
comma_last none env z n h = rw h refl

-- ---- scopes

pub names_of-append : (inner env : Env) → names_of (inner ++ env) ≡ names_of env ++ names_of inner
names_of-append [] env = sym (append-nil (names_of env))
names_of-append (b ∷ inner) env = ap (λ v. v ++ binding b ∷ []) (names_of-append inner env) ∙ append_assoc (names_of env) (names_of inner) (binding b ∷ [])

-- the names before those that were declared since
pub left : (inner env : Env) → take (length (names_of env)) (names_of (inner ++ env)) ≡ names_of env
left inner env = ap (λ v. take (length (names_of env)) v) (names_of-append inner env) ∙ take-append_seam (names_of env) (names_of inner)

pub entered : (inner env : Env) → drop (length (names_of env)) (names_of (inner ++ env)) ≡ names_of inner
entered inner env = ap (λ v. drop (length (names_of env)) v) (names_of-append inner env) ∙ drop-append_seam (names_of env) (names_of inner)
