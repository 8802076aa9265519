-- The rules of lists of initialisers, as the code joins them.
use Rattle.std.proofs.Common.{◌≡◌, ℕ, true, false, List, refl, ap, sym, ◌∙◌}
use Rattle.pw_tree.specs.FirstTokens.{first_of_expr}
use Rattle.pw_tree.specs.Trees.{Word, Expr}
use Rattle.pw_types.specs.TypedTrees.{Expression}
use Rattle.pw_check_walk.specs.Walks.{Done, bind}
use Rattle.pw_check_walk.proofs.CallLaws.{bind_assoc}
use Rattle.pw_check_rules.specs.States.{State, records_in}
use Rattle.pw_check_rules.specs.Kinds.{is_character_array}
use Rattle.pw_check_rules.specs.Initialisers.{Context, Cursor, Filled, listed_by, listed_expression, listed_form, listed_string, listed_value, passed, string_filled, value_filled, words_in, StringForm, IsOther, IsString}
use Rattle.pw_types.specs.WellTyped.{type_in}
use Rattle.pw_check_rules.specs.Operators.{same_record}
use Rattle.pw_check_rules.specs.Statements.{whole_rule}
use Rattle.pw_check_init.specs.Placing.{comes_whole, reached_rule}

-- ---- the part that an initialiser comes to

pub value_placed : (cx : Context) (cursor : Cursor) (filled : Filled) (first : ℕ) (e : Expression) (s : State)
    → listed_value cx cursor filled first e s
    ≡ bind (reached_rule cx (λ ty. same_record ty (type_in e)) cursor s) (λ r. bind (value_filled cx first r.0.target e filled r.1) (λ m. Done ((passed (records_in s) r.0.cursor, m.0), m.1)))
unfolding bind listed_value reached_rule
value_placed cx cursor filled first e s = refl

pub string_placed : (cx : Context) (cursor : Cursor) (filled : Filled) (ws : List Word) (s : State)
    → listed_string cx cursor filled ws s
    ≡ bind (reached_rule cx (λ ty. is_character_array ty) cursor s) (λ r. bind (string_filled cx ws r.0.target filled r.1) (λ m. Done ((passed (records_in s) r.0.cursor, m.0), m.1)))
unfolding bind listed_string reached_rule
string_placed cx cursor filled ws s = refl

-- ---- expressions

pub expression_listed : (cx : Context) (cursor : Cursor) (filled : Filled) (e : Expr) (s : State)
    → listed_expression cx cursor filled e s ≡ bind (whole_rule e s) (λ r. listed_value cx cursor filled (first_of_expr e) r.0 r.1)
unfolding listed_expression whole_rule
expression_listed cx cursor filled e s = sym (bind_assoc _ _ _)

module _ (cx : Context) (cursor : Cursor) (filled : Filled) (e : Expr) (s : State) where
  by_form : (form : StringForm) → listed_form cx cursor filled e form s ≡ listed_by (comes_whole (records_in s) cursor form) cx cursor filled e (words_in form) s
  unfolding bind listed_form listed_by
  by_form IsOther = refl
  by_form (IsString ws) = refl

  pub string_listed : (form : StringForm) (ws : List Word) → comes_whole (records_in s) cursor form ≡ true → words_in form ≡ ws
      → listed_form cx cursor filled e form s ≡ listed_string cx cursor filled ws s
  unfolding listed_by
  string_listed form ws whole words =
      by_form form
      ∙ ap (λ b. listed_by b cx cursor filled e (words_in form) s) whole
      ∙ ap (λ w. listed_string cx cursor filled w s) words

  pub text_listed : (form : StringForm) → comes_whole (records_in s) cursor form ≡ false → listed_form cx cursor filled e form s ≡ listed_expression cx cursor filled e s
  unfolding listed_by
  text_listed form text = by_form form ∙ ap (λ b. listed_by b cx cursor filled e (words_in form) s) text
