-- Lists of initialisers one within another, turn by turn.
use Rattle.std.proofs.Common.{◌≡◌, ℕ, ◌+◌, ◌<◌, Bool, true, false, Ok, List, [], ◌∷◌, ◌==◌, length, map, reverse, refl, ap, sym, ◌∙◌, arith}
use Rattle.std.specs.declared.alloc.Global.{Global}
use Rattle.std.specs.declared.vec.Vec.{Vec}
use Rattle.std.proofs.lemmas.Grind.{common_steps}
use Rattle.std.proofs.lemmas.List.{length-reverse}
use Rattle.pw_check_state.proofs.PlaceLemmas.{length_map}
use Rattle.pw_tree.specs.Trees.{Expr, Init, Inits, Word}
use Rattle.pw_tree.specs.Trees as S
use Rattle.pw_tree.specs.Views.{view_expr, view_init, view_inits}
use Rattle.pw_tree.specs.declared.decl.Init as code
use Rattle.pw_tree.specs.declared.expr.Expr as code_expr
use Rattle.pw_types.specs.TypeTrees.{RecordValue, type_of}
use Rattle.pw_check_walk.specs.Walks.{Walk, Done, bind, outcome}
use Rattle.pw_check_walk.proofs.CallLaws.{bind_assoc}
use Rattle.pw_check_rules.specs.Leaves.{is_nil}
use Rattle.pw_check_rules.specs.States.{State, records_in}
use Rattle.pw_check_rules.specs.Initialisers.{Context, Cursor, Filled, Target, braced_by, braced_string, braced_target, fills_characters, frame_of, init_rule, inits_rule, listed_form, passed, string_filled, string_form, words_in}
use Rattle.pw_check_init.specs.Readings.{Around, Reading, around_at, behind_list, braces_turn, count_of_inits, entered_turn, inward, is_none_left, is_over, item_turn, left_of, lists_rule, outward, outward_of, reading_rule, string_turn, turn_of, turn_rule, value_turn}
use Rattle.pw_check_init_parts.proofs.WalkLemmas.{same_behind}

-- ---- a list, and the lists around

lists_begun : (cx : Context) (is : Inits) (cursor : Cursor) (filled : Filled) (s : State) → lists_rule [] cx is cursor filled s ≡ inits_rule is cx cursor filled s
unfolding lists_rule
lists_begun cx is cursor filled s = refl

pub reading_begun : (cx : Context) (x : Reading) (s : State) → x.outer ≡ [] → reading_rule cx x s ≡ inits_rule x.items cx x.cursor x.filled s
reading_begun cx x s e = ap (λ ls. lists_rule ls cx x.items x.cursor x.filled s) e ∙ lists_begun cx x.items x.cursor x.filled s

-- behind the last initialiser of the last list
over_of : (cx : Context) (is : Inits) (outer : List Around) (cursor : Cursor) (filled : Filled) (s : State) → is_over (record { items = is; outer = outer; cursor = cursor; filled = filled }) ≡ true
    → outcome (lists_rule outer cx is cursor filled s) ≡ Ok ((cursor, filled), s)
unfolding lists_rule inits_rule outcome
over_of cx S.NoInit [] cursor filled s e = refl
over_of cx S.NoInit (l ∷ outer) cursor filled s e = absurd (cc)
over_of cx (S.Listed i rest) outer cursor filled s e = absurd (cc)

pub reading_over : (cx : Context) (x : Reading) (s : State) → is_over x ≡ true → outcome (reading_rule cx x s) ≡ Ok ((x.cursor, x.filled), s)
reading_over cx x s e = over_of cx x.items x.outer x.cursor x.filled s e

-- ---- one turn, and what is left behind it

-- the rule of a list's first initialiser, and then that of the others
first_then : (outer : List Around) (cx : Context) (i : Init) (rest : Inits) (cursor : Cursor) (filled : Filled) (s : State)
    → lists_rule outer cx (S.Listed i rest) cursor filled s ≡ bind (init_rule i cx cursor filled s) (λ t. lists_rule outer cx rest t.0.0 t.0.1 t.1)
unfolding lists_rule inits_rule
first_then [] cx i rest cursor filled s = refl
first_then (l ∷ outer) cx i rest cursor filled s = bind_assoc (init_rule i cx cursor filled s) _ _

-- at the end of a list
end_then : (outer : List Around) (cx : Context) (cursor : Cursor) (filled : Filled) (s : State)
    → lists_rule outer cx S.NoInit cursor filled s
    ≡ reading_rule cx (outward_of (records_in s) (record { items = S.NoInit; outer = outer; cursor = cursor; filled = filled }) outer) s
unfolding bind lists_rule inits_rule
end_then [] cx cursor filled s = refl
end_then (l ∷ outer) cx cursor filled s = refl

-- an expression
value_then : (outer : List Around) (cx : Context) (e : Expr) (rest : Inits) (cursor : Cursor) (filled : Filled) (s : State)
    → lists_rule outer cx (S.Listed (S.Value e) rest) cursor filled s
    ≡ bind (value_turn cx (record { items = S.Listed (S.Value e) rest; outer = outer; cursor = cursor; filled = filled }) e rest s) (λ t. reading_rule cx t.0 t.1)
unfolding bind value_turn init_rule
value_then outer cx e rest cursor filled s =
    first_then outer cx (S.Value e) rest cursor filled s
    ∙ sym (bind_assoc (listed_form cx cursor filled e (string_form e) s) _ _)

-- a list in braces within a list, and then what is around
within_then : (l : Around) (outer : List Around) (cx : Context) (is : Inits) (cursor : Cursor) (filled : Filled) (s : State)
    → lists_rule (l ∷ outer) cx is cursor filled s
    ≡ bind (inits_rule is cx cursor filled s) (λ r. lists_rule outer cx l.items (passed (records_in r.1) l.cursor) r.0.1 r.1)
unfolding bind lists_rule
within_then l outer cx is cursor filled s = refl

-- behind a part that was given in braces
abbrev behind_braces : Cursor → (Cursor × Filled) × State → Walk ((Cursor × Filled) × State)
behind_braces cursor r = Done ((passed (records_in r.1) cursor, r.0.1), r.1)

abbrev goes_on : List Around → Context → Inits → (Cursor × Filled) × State → Walk ((Cursor × Filled) × State)
goes_on outer cx rest r = lists_rule outer cx rest r.0.0 r.0.1 r.1

abbrev read_on : Context → Reading × State → Walk ((Cursor × Filled) × State)
read_on cx t = reading_rule cx t.0 t.1

entered_then : (outer : List Around) (cx : Context) (token : ℕ) (is : Inits) (trailing : Bool) (rest : Inits) (cursor : Cursor) (filled : Filled) (t : Target) (s : State) (b : Bool)
    → bind (bind (braced_by b cx t filled (words_in (braced_string is)) (inits_rule is cx (frame_of t ∷ []) filled) s) (behind_braces cursor)) (goes_on outer cx rest)
    ≡ bind (entered_turn b cx (record { items = S.Listed (S.Braces token is trailing) rest; outer = outer; cursor = cursor; filled = filled }) t is rest s) (read_on cx)
unfolding bind entered_turn string_turn braced_by
entered_then outer cx token is trailing rest cursor filled t s true =
    ap (λ w. bind w (goes_on outer cx rest)) (bind_assoc (string_filled cx (words_in (braced_string is)) t filled s) _ (behind_braces cursor))
    ∙ bind_assoc (string_filled cx (words_in (braced_string is)) t filled s) _ (goes_on outer cx rest)
    ∙ sym (bind_assoc (string_filled cx (words_in (braced_string is)) t filled s) _ (read_on cx))
entered_then outer cx token is trailing rest cursor filled t s false =
    bind_assoc (inits_rule is cx (frame_of t ∷ []) filled s) (behind_braces cursor) (goes_on outer cx rest)
    ∙ sym (within_then (record { items = rest; cursor = cursor }) outer cx is (frame_of t ∷ []) filled s)

braces_then : (outer : List Around) (cx : Context) (token : ℕ) (is : Inits) (trailing : Bool) (rest : Inits) (cursor : Cursor) (filled : Filled) (s : State)
    → lists_rule outer cx (S.Listed (S.Braces token is trailing) rest) cursor filled s
    ≡ bind (braces_turn cx (record { items = S.Listed (S.Braces token is trailing) rest; outer = outer; cursor = cursor; filled = filled }) is rest s) (λ t. reading_rule cx t.0 t.1)
unfolding bind braces_turn init_rule
braces_then outer cx token is trailing rest cursor filled s =
    first_then outer cx (S.Braces token is trailing) rest cursor filled s
    ∙ bind_assoc (braced_target cx cursor s) _ _
    ∙ same_behind (braced_target cx cursor s) _ _ (λ t. entered_then outer cx token is trailing rest cursor filled t.0 t.1 (fills_characters (type_of t.0.ty) (braced_string is)))
    ∙ sym (bind_assoc (braced_target cx cursor s) _ _)

turn_of_then : (cx : Context) (is : Inits) (outer : List Around) (cursor : Cursor) (filled : Filled) (s : State)
    → lists_rule outer cx is cursor filled s
    ≡ bind (turn_of is cx (record { items = is; outer = outer; cursor = cursor; filled = filled }) s) (λ t. reading_rule cx t.0 t.1)
unfolding bind turn_of item_turn
turn_of_then cx S.NoInit outer cursor filled s = end_then outer cx cursor filled s
turn_of_then cx (S.Listed (S.Value e) rest) outer cursor filled s = value_then outer cx e rest cursor filled s
turn_of_then cx (S.Listed (S.Braces token is trailing) rest) outer cursor filled s = braces_then outer cx token is trailing rest cursor filled s

pub turn_then : (cx : Context) (x : Reading) (s : State) → reading_rule cx x s ≡ bind (turn_rule cx x s) (λ t. reading_rule cx t.0 t.1)
turn_then cx x s = turn_of_then cx x.items x.outer x.cursor x.filled s

-- ---- turns by the initialiser that the code has

pub end_turn : (cx : Context) (x : Reading) (xs : List code.Init) (s : State) → length xs ≡ 0 → turn_of (view_inits xs) cx x s ≡ Done (outward (records_in s) x, s)
unfolding bind turn_of
end_turn cx x [] s none = refl
end_turn cx x (i ∷ rest) s none = absurd (omega arith)

module _ (cx : Context) (x : Reading) (xs : List code.Init) (s : State) where
  pub first_value : (i : code.Init) (rest : List code.Init) (e : code_expr.Expr) → xs ≡ i ∷ rest → i ≡ code.Value e
      → turn_of (view_inits xs) cx x s ≡ value_turn cx x (view_expr e) (view_inits rest) s
  unfolding view_init turn_of item_turn
  first_value i rest e cut is =
      ap (λ ys. turn_of (view_inits ys) cx x s) cut ∙ ap (λ y. item_turn cx x (view_init y) (view_inits rest) s) is

  pub first_braces : (i : code.Init) (rest : List code.Init) (t : ℕ) (is : Vec code.Init Global) (trailing : Bool) → xs ≡ i ∷ rest → i ≡ code.List t is trailing
      → view_init (code.List t is trailing) ≡ S.Braces t (view_inits is.items) trailing
      → turn_of (view_inits xs) cx x s ≡ braces_turn cx x (view_inits is.items) (view_inits rest) s
  unfolding turn_of item_turn
  first_braces i rest t is trailing cut shape shown =
      ap (λ ys. turn_of (view_inits ys) cx x s) cut
      ∙ ap (λ y. item_turn cx x (view_init y) (view_inits rest) s) shape
      ∙ ap (λ y. item_turn cx x y (view_inits rest) s) shown

module _ (xs : List code.Init) (i : code.Init) (rest : List code.Init) where
  pub count_value : (e : code_expr.Expr) → xs ≡ i ∷ rest → i ≡ code.Value e → count_of_inits (view_inits xs) ≡ 1 + count_of_inits (view_inits rest)
  unfolding view_init
  count_value e cut is =
      ap (λ ys. count_of_inits (view_inits ys)) cut ∙ ap (λ y. count_of_inits (S.Listed (view_init y) (view_inits rest))) is

  pub count_braces : (t : ℕ) (is : Vec code.Init Global) (trailing : Bool) → xs ≡ i ∷ rest → i ≡ code.List t is trailing
      → view_init (code.List t is trailing) ≡ S.Braces t (view_inits is.items) trailing
      → count_of_inits (view_inits xs) ≡ 2 + count_of_inits (view_inits is.items) + count_of_inits (view_inits rest)
  count_braces t is trailing cut shape shown =
      ap (λ ys. count_of_inits (view_inits ys)) cut
      ∙ ap (λ y. count_of_inits (S.Listed (view_init y) (view_inits rest))) shape
      ∙ ap (λ y. count_of_inits (S.Listed y (view_inits rest))) shown

-- ---- braces

pub value_joined : (cx : Context) (x : Reading) (e : Expr) (rest : Inits) (s : State)
    → value_turn cx x e rest s
    ≡ bind (listed_form cx x.cursor x.filled e (string_form e) s) (λ r. Done (record { items = rest; outer = x.outer; cursor = r.0.0; filled = r.0.1 }, r.1))
unfolding value_turn
value_joined cx x e rest s = refl

module _ (cx : Context) (x : Reading) (is rest : Inits) where
  pub braces_joined : (s : State) → braces_turn cx x is rest s
      ≡ bind (braced_target cx x.cursor s) (λ t. entered_turn (fills_characters (type_of t.0.ty) (braced_string is)) cx x t.0 is rest t.1)
  unfolding braces_turn
  braces_joined s = refl

  pub entered_string : (t : Target) (ws : List Word) (b : Bool) (s : State) → b ≡ true → words_in (braced_string is) ≡ ws
      → entered_turn b cx x t is rest s ≡ string_turn cx ws (around_at x rest) x.outer t x.filled s
  unfolding entered_turn
  entered_string t ws b s fills words = rw (fills, words) refl

  pub entered_list : (t : Target) (b : Bool) (s : State) → b ≡ false
      → entered_turn b cx x t is rest s ≡ Done (inward (around_at x rest) x.outer x.filled t is, s)
  unfolding entered_turn
  entered_list t b s fills = rw fills refl

pub string_joined : (cx : Context) (ws : List Word) (l : Around) (outer : List Around) (t : Target) (filled : Filled) (s : State)
    → string_turn cx ws l outer t filled s ≡ bind (string_filled cx ws t filled s) (λ m. Done (behind_list (records_in m.1) l outer m.0, m.1))
unfolding bind string_turn
string_joined cx ws l outer t filled s = refl

-- the innermost list around
pub outward_pop : (records : List RecordValue) (x : Reading) (l : Around) (outer : List Around) → x.outer ≡ l ∷ outer
    → outward records x ≡ behind_list records l outer x.filled
outward_pop records x l outer e = ap (outward_of records x) e

-- ---- what is left grows less

shorter_of : (records : List RecordValue) (is : Inits) (outer : List Around) (cursor : Cursor) (filled : Filled)
    → is_over (record { items = is; outer = outer; cursor = cursor; filled = filled }) ≡ false → count_of_inits is ≡ 0
    → left_of (outward_of records (record { items = is; outer = outer; cursor = cursor; filled = filled }) outer) < left_of (record { items = is; outer = outer; cursor = cursor; filled = filled })
shorter_of records S.NoInit [] cursor filled more none = absurd (cc)
shorter_of records S.NoInit (l ∷ outer) cursor filled more none = omega arith
shorter_of records (S.Listed (S.Value e) rest) outer cursor filled more none = absurd (omega arith)
shorter_of records (S.Listed (S.Braces token is trailing) rest) outer cursor filled more none = absurd (omega arith)

pub shorter_outward : (records : List RecordValue) (x : Reading) → is_over x ≡ false → count_of_inits x.items ≡ 0 → left_of (outward records x) < left_of x
shorter_outward records x more none = shorter_of records x.items x.outer x.cursor x.filled more none

pub count_none : (xs : List code.Init) → length xs ≡ 0 → count_of_inits (view_inits xs) ≡ 0
count_none [] none = refl
count_none (i ∷ rest) none = absurd (omega arith)

-- nothing is left of an empty list
pub none_left : (xs : List code.Init) → (length xs == 0) ≡ is_none_left (view_inits xs)
none_left [] = refl
none_left (i ∷ rest) = grind (arith, common_steps)

none_in : {Y : Type 0} (ys : List Y) → (length ys == 0) ≡ is_nil ys
none_in [] = refl
none_in (y ∷ rest) = grind (arith, common_steps)

pub none_around : {X Y : Type 0} (f : X → Y) (xs : List X) → (length xs == 0) ≡ is_nil (reverse (map f xs))
none_around f xs =
    ap (λ n. n == 0) (sym (length-reverse (map f xs) ∙ length_map f xs)) ∙ none_in (reverse (map f xs))
