-- Initializers and declarations are read (6.5, 6.5.7).
use Rattle.std.proofs.Common.{◌≡◌, ℕ, zero, suc, ◌+◌, ◌<◌, ◌≤◌, Bool, true, false, not, ◌&&◌, nat_le, if◌then◌else◌, List, [], ◌∷◌, length, map, Option, Some, None, Ok, arith, refl, sym, ap, ◌∙◌}
use Rattle.pw_tree.specs.Numbering.{past_specifiers, past_declarator, past_init, past_inits, past_initializer, past_init_declarators, past_decl, past_decls, NumberedDeclarator, NumberedInit, NumberedInits, NumberedInitializer, NumberedInitDeclarators, NumberedDecl, NumberedDecls}
use Rattle.pw_tree.specs.Scopes.{has_typedef, has_type, name_of, declare_name, after_specifiers, after_declarator, after_init, after_inits, after_initializer, after_name, after_init_declarators, after_decl, after_decls, Env}
use Rattle.pw_tree.specs.Spelling.{trailed, spell_expr, spell_specifiers, spell_declarator, spell_init, spell_inits, spell_initializer, spell_init_declarators, spell_decl, spell_decls}
use Rattle.pw_tree.specs.Symbols as symbol
use Rattle.pw_tree.specs.Symbols.{Symbol, Reserved, Sign, unary_symbol, binary_mark, assign_mark, access_mark, step_mark}
use Rattle.pw_tree.specs.Trees.{Specifiers, NoSpecifier, Storage, Qualified, Basic, TypedefName, RecordTag, Record, EnumTag, Enum, Declarator, Declaring, Absent, Name, Enclosed, Init, Value, Braces, Inits, NoInit, Listed, Initializer, InitDeclarator, Decl}
use Rattle.pw_tree.specs.WellFormed.{NotEmpty, HasPostfix, HasSpecifier, HasMember, HasMemberDeclarator, HasEnumerator, HasParameter, HasInit, NotTypedef, NoneTypedef, MayDeclare, NoStorage, IsSomething, begins_with_typedef, MayEnclose, operand_level, WellFormed, WellFormedPostfixes, WellFormedArguments, WellFormedOperations, WellFormedSpecifiers, WellFormedMembers, WellFormedMemberDeclarators, WellFormedEnumerators, WellFormedDeclarator, WellFormedCore, WellFormedSuffixes, WellFormedParameters, WellFormedOptional, WellFormedInit, WellFormedInits, WellFormedInitializer, WellFormedInitDeclarators, WellFormedDecl, WellFormedDecls, WellFormedLabel, WellFormedLabels, NotLabeled, NotIf, ends_open, alternative_ends_open, MayPrecede, WellFormedStmt, WellFormedAlternative, WellFormedBlock, WellFormedStmts, in_function, WellFormedFunction, WellFormedExternal, WellFormedExternals, WellFormedModule}
use Rattle.pw_tree.specs.WellFormed as tree
use Rattle.pw_token.specs.declared.symbol.Mark.TheVariants as m
use Rattle.pw_parse_grammar.specs.declared.place.Place.TheVariants.{Named}
use Rattle.pw_parse_grammar.specs.Input.{ahead, step, same_mark, is_mark, sees, Parser, ◌<$>◌, past, expect, repeat, turn_of}
use Rattle.std.proofs.lemmas.Bool.{leb-true, leb-false}
use Rattle.pw_parse_grammar.specs.Declarations.{inits_end, inits, braced, init_of, init, initializer, initialized, init_declarator, init_declarators, other_declarator, declaration_with, declaration, declaration_next, declarations}
use Rattle.pw_parse_grammar.specs.Expressions.{some_specifiers}
use Rattle.pw_parse_grammar.specs.Tests.{begins_declaration, begins_specifier, opens_label}
use Rattle.pw_parse_grammar.proofs.Trees.Base.{at, same, true_is_not_false, turns_enough, no_turns, some_more, some_last, item_turn, item_more, item_last}
use Rattle.pw_parse_grammar.proofs.Trees.Follow.{Follow, head}
use Rattle.pw_parse_grammar.proofs.Trees.Heads.{labels_name, expr-begins, expr-no_open_brace, expr-no_close_brace, declarator-ends, specifiers-begin}
use Rattle.pw_parse_grammar.proofs.Written.Knot.{parts-know}
use Rattle.pw_parse_grammar.proofs.Written.Knows.{joins_declarator, ends_specifiers, declared}
use Rattle.pw_parse_grammar.proofs.Trees.Lengths.{length-init, length-inits, length-initializer, length-specifiers, length-declarator, length-init_declarators, length-decl}
use Rattle.pw_parse_grammar.proofs.Written.Parameters.{declare-read}
use Rattle.pw_parse_grammar.proofs.Written.Primaries.{not_empty}

-- ---- 6.5.7

abbrev trail_count : Bool → ℕ
trail_count true = 1
trail_count false = 0

end-last : (trailing : Bool) (env : Env) (z : List Symbol) (n : ℕ) → inits_end (at env (trailed trailing (Sign m.CloseBrace ∷ z)) n) ≡ Ok (Some (NoInit, trailing), at env (Sign m.CloseBrace ∷ z) (n + trail_count trailing))
unfolding inits_end sees past ahead step same_mark
end-last true env z n = refl
end-last false env z n = same env (Sign m.CloseBrace ∷ z) refl (omega arith)

end-more : (env : Env) (z : List Symbol) (n : ℕ) → is_mark m.CloseBrace (head z) ≡ false → inits_end (at env (Sign m.Comma ∷ z) n) ≡ Ok (None, at env z (n + 1))
unfolding inits_end sees past ahead step same_mark
end-more env z n h = rw h refl

init-no_close : (env : Env) (x : Init) (z : List Symbol) → WellFormedInit env x → is_mark m.CloseBrace (head (spell_init x z)) ≡ false
unfolding spell_init WellFormedInit same_mark
init-no_close env (Value e) z w = expr-no_close_brace env (head (spell_expr e z)) (expr-begins env e z w.1)
init-no_close env (Braces t xs trailing) z w = refl

inits-follow : (xs : Inits) (trailing : Bool) (z : List Symbol) → Follow 15 (spell_inits false xs (trailed trailing (Sign m.CloseBrace ∷ z)))
unfolding spell_init
inits-follow NoInit true z = omega arith
inits-follow NoInit false z = omega arith
inits-follow (Listed x xs) trailing z = omega arith

trailing-count : (trailing : Bool) (z : List Symbol) → length (trailed trailing (Sign m.CloseBrace ∷ z)) ≡ trail_count trailing + 1 + length z
trailing-count true z = omega arith
trailing-count false z = omega arith

abbrev ReadsInit : ℕ → Parser Init → Type 0
ReadsInit d p = (env : Env) (x : Init) (z : List Symbol) (n i : ℕ) → WellFormedInit env x → NumberedInit n x → Follow 15 z → length (spell_init x z) < d → i ≡ n → p (at env (spell_init x z) i) ≡ Ok (x, at (after_init env x) z (past_init n x))

abbrev listed : Parser Init → Parser (Inits × Bool → Inits × Bool)
listed p = (λ x more. (Listed x more.0, more.1)) <$> p

inits-turns : (count d : ℕ) (p : Parser Init) (reads : ReadsInit d p) (env : Env) (x : Init) (xs : Inits) (trailing : Bool) (z : List Symbol) (n i : ℕ) → WellFormedInits env (Listed x xs) → NumberedInits true n (Listed x xs)
    → length (spell_inits true (Listed x xs) (trailed trailing (Sign m.CloseBrace ∷ z))) < count → length (spell_inits true (Listed x xs) (trailed trailing (Sign m.CloseBrace ∷ z))) < d → i ≡ n
    → repeat (item_turn (listed p) inits_end) count (at env (spell_inits true (Listed x xs) (trailed trailing (Sign m.CloseBrace ∷ z))) i)
    ≡ Ok ((Listed x xs, trailing), at (after_inits env (Listed x xs)) (Sign m.CloseBrace ∷ z) (past_inits true n (Listed x xs) + trail_count trailing))
unfolding spell_init WellFormedInit NumberedInit after_init
inits-turns zero d p reads env x xs trailing z n i w num enough short at_n = no_turns enough
inits-turns (suc count) d p reads env x NoInit trailing z n i w num enough short at_n =
    let text = trailed trailing (Sign m.CloseBrace ∷ z) in
    item_last (listed p) inits_end count (at env (spell_init x text) i) (at (after_init env x) text (past_init n x)) (at (after_init env x) (Sign m.CloseBrace ∷ z) (past_init n x + trail_count trailing)) (λ more. (Listed x more.0, more.1)) (NoInit, trailing)
    (rw (reads env x text n i w.0 num.0 (inits-follow NoInit trailing z) short at_n) refl) (end-last trailing (after_init env x) z (past_init n x))
    ∙ same (after_init env x) (Sign m.CloseBrace ∷ z) refl (omega arith)
inits-turns (suc count) d p reads env x (Listed y xs) trailing z n i w num enough short at_n =
    let more = spell_inits true (Listed y xs) (trailed trailing (Sign m.CloseBrace ∷ z)) in
    let inner = after_init env x in
    item_more (listed p) inits_end count (at env (spell_init x (Sign m.Comma ∷ more)) i) (at inner (Sign m.Comma ∷ more) (past_init n x)) (at inner more (past_init n x + 1))
    (at (after_inits inner (Listed y xs)) (Sign m.CloseBrace ∷ z) (past_inits true (past_init n x + 1) (Listed y xs) + trail_count trailing)) (λ more. (Listed x more.0, more.1)) (Listed y xs, trailing)
    (rw (reads env x (Sign m.Comma ∷ more) n i w.0 num.0 (omega arith) short at_n) refl)
    (end-more inner more (past_init n x) (init-no_close inner y (spell_inits false xs (trailed trailing (Sign m.CloseBrace ∷ z))) w.1.0))
    (inits-turns count d p reads inner y xs trailing z (past_init n x + 1) (past_init n x + 1) w.1 num.1 (omega (arith, enough, length-init x (Sign m.Comma ∷ more))) (omega (arith, short, length-init x (Sign m.Comma ∷ more))) refl)
    ∙ same (after_inits inner (Listed y xs)) (Sign m.CloseBrace ∷ z) refl (omega (arith, length-init x (Sign m.Comma ∷ spell_inits true (Listed y xs) [])))

braced-read : (d : ℕ) (p : Parser Init) (reads : ReadsInit d p) (env : Env) (xs : Inits) (trailing : Bool) (z : List Symbol) (n i : ℕ) → HasInit xs → WellFormedInits env xs → NumberedInits true (n + 1) xs
    → length (spell_inits true xs (trailed trailing (Sign m.CloseBrace ∷ z))) < d → i ≡ n
    → braced p (at env (Sign m.OpenBrace ∷ spell_inits true xs (trailed trailing (Sign m.CloseBrace ∷ z))) i) ≡ Ok (Braces i xs trailing, at (after_inits env xs) z (past_inits true (n + 1) xs + trail_count trailing + 1))
unfolding braced inits expect sees ahead step same_mark
braced-read d p reads env NoInit trailing z n i has w num short at_n = absurd has
braced-read d p reads env (Listed x xs) trailing z n i has w num short at_n =
    let text = spell_inits true (Listed x xs) (trailed trailing (Sign m.CloseBrace ∷ z)) in
    rw (inits-turns (length (map Some text) + 1) d p reads env x xs trailing z (n + 1) (i + 1) w num (turns_enough text) short (omega (arith, at_n))) refl

-- the smaller of two numbers
abbrev smaller : ℕ → ℕ → ℕ
smaller a b = if nat_le a b then a else b

smaller-left : (a b : ℕ) → smaller a b ≤ a
smaller-left a b = by (nat_le a b) refl
  where
    by : (c : Bool) → nat_le a b ≡ c → (if c then a else b) ≤ a
    by true h = omega arith
    by false h = omega (arith, leb-false a b h)

smaller-right : (a b : ℕ) → smaller a b ≤ b
smaller-right a b = by (nat_le a b) refl
  where
    by : (c : Bool) → nat_le a b ≡ c → (if c then a else b) ≤ b
    by true h = omega (arith, leb-true a b h)
    by false h = omega arith

smaller-is : (a b c : ℕ) → c < a → c < b → c < smaller a b
smaller-is a b c h k = by (nat_le a b)
  where
    by : (d : Bool) → c < (if d then a else b)
    by true = h
    by false = k

init-read : (limit depth : ℕ) (env : Env) (x : Init) (z : List Symbol) (n i : ℕ) → WellFormedInit env x → NumberedInit n x → Follow 15 z → length (spell_init x z) < depth → length (spell_init x z) < limit → i ≡ n
    → init limit depth (at env (spell_init x z) i) ≡ Ok (x, at (after_init env x) z (past_init n x))
unfolding init init_of spell_init WellFormedInit NumberedInit after_init sees ahead same_mark
init-read limit zero env x z n i w num follow deep short at_n = no_turns deep
init-read limit (suc depth) env (Value e) z n i w num follow deep short at_n =
    rw (expr-no_open_brace env (head (spell_expr e z)) (expr-begins env e z w.1))
    (rw ((parts-know limit).expr 15 (omega arith) env e z n i w.1 num w.0 follow short at_n) refl)
init-read limit (suc depth) env (Braces t xs trailing) z n i w num follow deep short at_n =
    braced-read (smaller depth limit) (init limit depth) (λ env y z n i v num follow small at_n. init-read limit depth env y z n i v num follow (omega (arith, small, smaller-left depth limit)) (omega (arith, small, smaller-right depth limit)) at_n)
    env xs trailing z n i w.0 w.1 num.1 (smaller-is depth limit _ (omega (arith, deep)) (omega (arith, short))) at_n
    ∙ same (after_inits env xs) z (ap (λ v. Braces v xs trailing) (at_n ∙ sym num.0)) (omega (arith, length-inits true xs (trailed trailing (Sign m.CloseBrace ∷ [])), trailing-count trailing []))

-- ---- 6.5

-- a declaration has a token
pub decl-long : (env : Env) (x : Decl) → WellFormedDecl env x → 0 < length (spell_decl x [])
decl-long env x w = omega (arith, length-specifiers x.specifiers (spell_init_declarators true x.declarators (Sign m.Semicolon ∷ [])), length-init_declarators true x.declarators (Sign m.Semicolon ∷ []))

module _ (limit : ℕ) where
  initializer-read : (env : Env) (x : Option Initializer) (z : List Symbol) (n i : ℕ) → WellFormedInitializer env x → NumberedInitializer n x → Follow 15 z → is_mark m.Equal (head z) ≡ false → length (spell_initializer x z) < limit → i ≡ n
      → initializer limit (at env (spell_initializer x z) i) ≡ Ok (x, at (after_initializer env x) z (past_initializer n x))
  unfolding initializer sees ahead step same_mark
  initializer-read env None z n i w num follow equal short at_n = rw equal (same env z refl (omega (arith, at_n)))
  initializer-read env (Some x) z n i w num follow equal short at_n =
      rw (init-read limit limit env x.init z (n + 1) (i + 1) w num.1 follow (omega (arith, short)) (omega (arith, short)) (omega (arith, at_n)))
      (same (after_init env x.init) z (ap (λ v. Some (record { token = v; init = x.init })) (at_n ∙ sym num.0)) (omega arith))

  initialized-read : (b : Bool) (env : Env) (x : Declarator) (y : Option Initializer) (z : List Symbol) (n i : ℕ) → WellFormedInitializer (declare_name b (name_of x) env) y → NumberedInitializer n y → Follow 15 z → is_mark m.Equal (head z) ≡ false
      → length (spell_initializer y z) < limit → i ≡ n
      → initialized limit b (declared x) (at env (spell_initializer y z) i) ≡ Ok (record { declarator = x; initializer = y }, at (after_initializer (declare_name b (name_of x) env) y) z (past_initializer n y))
  unfolding initialized
  initialized-read b env x y z n i w num follow equal short at_n =
      rw (declare-read b (name_of x) env (spell_initializer y z) i)
      (rw (initializer-read (declare_name b (name_of x) env) y z n i w num follow equal short at_n) refl)

  -- what stands behind a declarator with its initializer
  others-follow : (ds : List InitDeclarator) (z : List Symbol) → (Follow 15 (spell_init_declarators false ds (Sign m.Semicolon ∷ z))) × (is_mark m.Equal (head (spell_init_declarators false ds (Sign m.Semicolon ∷ z))) ≡ false)
  unfolding same_mark
  others-follow [] z = (omega arith, refl)
  others-follow (x ∷ ds) z = (omega arith, refl)

  pub declarator-follow : (y : Option Initializer) (ds : List InitDeclarator) (z : List Symbol) → joins_declarator Named (head (spell_initializer y (spell_init_declarators false ds (Sign m.Semicolon ∷ z)))) ≡ false
  declarator-follow (Some y) ds z = refl
  declarator-follow None [] z = refl
  declarator-follow None (x ∷ ds) z = refl

  init_declarator-read : (env : Env) (ss : Specifiers) (x : InitDeclarator) (ds : List InitDeclarator) (z : List Symbol) (n i : ℕ) → WellFormedDeclarator env (has_type ss) tree.Named x.declarator → WellFormedInitializer (after_name env ss x.declarator) x.initializer
      → NumberedDeclarator n x.declarator → NumberedInitializer (past_declarator n x.declarator) x.initializer
      → length (spell_declarator x.declarator (spell_initializer x.initializer (spell_init_declarators false ds (Sign m.Semicolon ∷ z)))) < limit → i ≡ n
      → init_declarator limit (has_type ss) (has_typedef ss) (at env (spell_declarator x.declarator (spell_initializer x.initializer (spell_init_declarators false ds (Sign m.Semicolon ∷ z)))) i)
      ≡ Ok (x, at (after_initializer (after_name env ss x.declarator) x.initializer) (spell_init_declarators false ds (Sign m.Semicolon ∷ z)) (past_initializer (past_declarator n x.declarator) x.initializer))
  unfolding init_declarator
  init_declarator-read env ss x ds z n i w v num numi short at_n =
      let more = spell_init_declarators false ds (Sign m.Semicolon ∷ z) in
      rw ((parts-know limit).declarator Named (has_type ss) env x.declarator (spell_initializer x.initializer more) n i w num (declarator-follow x.initializer ds z) short at_n)
      (initialized-read (has_typedef ss) (after_declarator env x.declarator) x.declarator x.initializer more (past_declarator n x.declarator) (past_declarator n x.declarator) v numi ((others-follow ds z).0) ((others-follow ds z).1)
      (omega (arith, short, length-declarator x.declarator (spell_initializer x.initializer more))) refl)

  others-turns : (count : ℕ) (env : Env) (ss : Specifiers) (ds : List InitDeclarator) (z : List Symbol) (n i : ℕ) → WellFormedInitDeclarators env ss ds → NumberedInitDeclarators false n ds
      → length (spell_init_declarators false ds (Sign m.Semicolon ∷ z)) < count → length (spell_init_declarators false ds (Sign m.Semicolon ∷ z)) < limit → i ≡ n
      → repeat (turn_of [] <$> other_declarator limit (has_type ss) (has_typedef ss)) count (at env (spell_init_declarators false ds (Sign m.Semicolon ∷ z)) i) ≡ Ok (ds, at (after_init_declarators env ss ds) (Sign m.Semicolon ∷ z) (past_init_declarators false n ds))
  unfolding other_declarator sees past ahead step same_mark
  others-turns zero env ss ds z n i w num enough short at_n = no_turns enough
  others-turns (suc count) env ss [] z n i w num enough short at_n =
      some_last [] (other_declarator limit (has_type ss) (has_typedef ss)) count (at env (Sign m.Semicolon ∷ z) i) (at env (Sign m.Semicolon ∷ z) i) refl ∙ same env (Sign m.Semicolon ∷ z) refl (omega (arith, at_n))
  others-turns (suc count) env ss (x ∷ ds) z n i w num enough short at_n =
      let inner = after_initializer (after_name env ss x.declarator) x.initializer in
      let behind = past_initializer (past_declarator (n + 1) x.declarator) x.initializer in
      let more = spell_init_declarators false ds (Sign m.Semicolon ∷ z) in
      let long = length-declarator x.declarator (spell_initializer x.initializer more) in
      some_more [] (other_declarator limit (has_type ss) (has_typedef ss)) count (at env (spell_init_declarators false (x ∷ ds) (Sign m.Semicolon ∷ z)) i) (at inner more behind)
      (at (after_init_declarators inner ss ds) (Sign m.Semicolon ∷ z) (past_init_declarators false behind ds)) (λ more. x ∷ more) ds
      (rw (init_declarator-read env ss x ds z (n + 1) (i + 1) w.0 w.1 num.0 num.1 (omega (arith, short)) (omega (arith, at_n))) refl)
      (others-turns count inner ss ds z behind behind w.2 num.2 (omega (arith, enough, long, length-initializer x.initializer more)) (omega (arith, short, long, length-initializer x.initializer more)) refl)
      ∙ same (after_init_declarators inner ss ds) (Sign m.Semicolon ∷ z) refl
      (omega (arith, length-declarator x.declarator (spell_initializer x.initializer (spell_init_declarators false ds [])), length-initializer x.initializer (spell_init_declarators false ds [])))

  others-read : (env : Env) (ss : Specifiers) (x : InitDeclarator) (ds : List InitDeclarator) (z : List Symbol) (n i : ℕ) → WellFormedInitDeclarators env ss ds → NumberedInitDeclarators false n ds → length (spell_init_declarators false ds (Sign m.Semicolon ∷ z)) < limit → i ≡ n
      → init_declarators limit (has_type ss) (has_typedef ss) x (at env (spell_init_declarators false ds (Sign m.Semicolon ∷ z)) i) ≡ Ok (x ∷ ds, at (after_init_declarators env ss ds) (Sign m.Semicolon ∷ z) (past_init_declarators false n ds))
  unfolding init_declarators
  others-read env ss x ds z n i w num short at_n =
      rw (others-turns (length (map Some (spell_init_declarators false ds (Sign m.Semicolon ∷ z))) + 1) env ss ds z n i w num (turns_enough (spell_init_declarators false ds (Sign m.Semicolon ∷ z))) short at_n) refl

  -- a declaration from its first declarator's initializer on
  pub declaration_with-read : (env : Env) (ss : Specifiers) (x : InitDeclarator) (ds : List InitDeclarator) (z : List Symbol) (n i : ℕ) → WellFormedInitializer (declare_name (has_typedef ss) (name_of x.declarator) env) x.initializer
      → WellFormedInitDeclarators (after_initializer (declare_name (has_typedef ss) (name_of x.declarator) env) x.initializer) ss ds
      → NumberedInitializer n x.initializer → NumberedInitDeclarators false (past_initializer n x.initializer) ds
      → length (spell_initializer x.initializer (spell_init_declarators false ds (Sign m.Semicolon ∷ z))) < limit → i ≡ n
      → declaration_with limit ss (declared x.declarator) (at env (spell_initializer x.initializer (spell_init_declarators false ds (Sign m.Semicolon ∷ z))) i)
      ≡ Ok (record { specifiers = ss; declarators = x ∷ ds }, at (after_init_declarators (after_initializer (declare_name (has_typedef ss) (name_of x.declarator) env) x.initializer) ss ds) z (past_init_declarators false (past_initializer n x.initializer) ds + 1))
  unfolding declaration_with expect sees ahead step same_mark
  declaration_with-read env ss x ds z n i w v num nums short at_n =
      let more = spell_init_declarators false ds (Sign m.Semicolon ∷ z) in
      let inner = after_initializer (declare_name (has_typedef ss) (name_of x.declarator) env) x.initializer in
      rw (initialized-read (has_typedef ss) env x.declarator x.initializer more n i w num ((others-follow ds z).0) ((others-follow ds z).1) short at_n)
      (rw (others-read inner ss x ds z (past_initializer n x.initializer) (past_initializer n x.initializer) v nums (omega (arith, short, length-initializer x.initializer more)) refl) refl)

  pub named-no_semicolon : (env : Env) (typed : Bool) (x : Declarator) (z : List Symbol) → WellFormedDeclarator env typed tree.Named x → is_mark m.Semicolon (head (spell_declarator x z)) ≡ false
  unfolding spell_expr WellFormed same_mark
  named-no_semicolon env typed (Declaring (p ∷ ps) c fs) z h = refl
  named-no_semicolon env typed (Declaring [] Absent fs) z h = absurd h.0
  named-no_semicolon env typed (Declaring [] (Name w) fs) z h = refl
  named-no_semicolon env typed (Declaring [] (Enclosed t x) fs) z h = refl

  named-no_colon : (env : Env) (typed : Bool) (x : Declarator) (z : List Symbol) → WellFormedDeclarator env typed tree.Named x → is_mark m.Colon (head (spell_declarator x z)) ≡ false
  unfolding spell_expr WellFormed same_mark
  named-no_colon env typed (Declaring (p ∷ ps) c fs) z h = refl
  named-no_colon env typed (Declaring [] Absent fs) z h = absurd h.0
  named-no_colon env typed (Declaring [] (Name w) fs) z h = refl
  named-no_colon env typed (Declaring [] (Enclosed t x) fs) z h = refl

  init_declarators-no_colon : (env : Env) (ss : Specifiers) (ds : List InitDeclarator) (z : List Symbol) → WellFormedInitDeclarators env ss ds → is_mark m.Colon (head (spell_init_declarators true ds (Sign m.Semicolon ∷ z))) ≡ false
  unfolding same_mark
  init_declarators-no_colon env ss [] z w = refl
  init_declarators-no_colon env ss (x ∷ ds) z w = named-no_colon env (has_type ss) x.declarator (spell_initializer x.initializer (spell_init_declarators false ds (Sign m.Semicolon ∷ z))) w.0

  specifiers-no_colon : (ss : Specifiers) (z : List Symbol) → is_mark m.Colon (head z) ≡ false → is_mark m.Colon (head (spell_specifiers ss z)) ≡ false
  unfolding spell_expr
  specifiers-no_colon NoSpecifier z h = h
  specifiers-no_colon (Storage n c ss) z h = refl
  specifiers-no_colon (Qualified n q ss) z h = refl
  specifiers-no_colon (Basic n b ss) z h = refl
  specifiers-no_colon (TypedefName w ss) z h = refl
  specifiers-no_colon (RecordTag n r tag ss) z h = refl
  specifiers-no_colon (Record n r tag ms ss) z h = refl
  specifiers-no_colon (EnumTag n tag ss) z h = refl
  specifiers-no_colon (Enum n tag es ss) z h = refl

  specifiers-no_label : (ss : Specifiers) (z : List Symbol) → HasSpecifier ss → is_mark m.Colon (head z) ≡ false → labels_name (spell_specifiers ss z) ≡ false
  unfolding spell_expr
  specifiers-no_label NoSpecifier z some h = absurd some
  specifiers-no_label (Storage n c ss) z some h = refl
  specifiers-no_label (Qualified n q ss) z some h = refl
  specifiers-no_label (Basic n b ss) z some h = refl
  specifiers-no_label (TypedefName w ss) z some h = specifiers-no_colon ss z h
  specifiers-no_label (RecordTag n r tag ss) z some h = refl
  specifiers-no_label (Record n r tag ms ss) z some h = refl
  specifiers-no_label (EnumTag n tag ss) z some h = refl
  specifiers-no_label (Enum n tag es ss) z some h = refl

  label-opens : (env : Env) (tokens : List Symbol) (n : ℕ) → opens_label (at env tokens n) ≡ labels_name tokens
  unfolding opens_label sees ahead step
  label-opens env [] n = refl
  label-opens env (symbol.Identifier x ∷ z) n = refl
  label-opens env (_ ∷ z) n = refl

  begins : (a b labels : Bool) → a ≡ true → b ≡ false → (a && not (labels && b)) ≡ true
  begins true false true e f = refl
  begins true false false e f = refl
  begins true true labels e f = true_is_not_false (sym f)
  begins false b labels e f = true_is_not_false e

  -- a declaration begins as one, and not as a label
  decl-begins : (labels : Bool) (env : Env) (x : Decl) (z : List Symbol) (i : ℕ) → WellFormedDecl env x → begins_declaration labels (at env (spell_decl x z) i) ≡ true
  unfolding begins_declaration begins_specifier ahead
  decl-begins labels env x z i w =
      let text = spell_init_declarators true x.declarators (Sign m.Semicolon ∷ z) in
      begins (begins_specifier true (at env (spell_decl x z) i)) (opens_label (at env (spell_decl x z) i)) labels
      (specifiers-begin true env x.specifiers text (spell_decl x z) i w.0 tt w.1)
      (label-opens env (spell_decl x z) i ∙ specifiers-no_label x.specifiers text w.0 (init_declarators-no_colon (after_specifiers env x.specifiers) x.specifiers x.declarators z w.2))

  init_declarators-ends : (env : Env) (typed : Bool) (ss : Specifiers) (x : InitDeclarator) (ds : List InitDeclarator) (z : List Symbol) → WellFormedDeclarator env typed tree.Named x.declarator
      → ends_specifiers true typed env (head (spell_declarator x.declarator (spell_initializer x.initializer (spell_init_declarators false ds (Sign m.Semicolon ∷ z))))) ≡ true
  init_declarators-ends env typed ss x ds z w = declarator-ends true typed Named env x.declarator _ w (behind x.initializer ds)
    where
      behind : (y : Option Initializer) (ds : List InitDeclarator) → ends_specifiers true typed env (head (spell_initializer y (spell_init_declarators false ds (Sign m.Semicolon ∷ z)))) ≡ true
      behind (Some y) ds = refl
      behind None [] = refl
      behind None (x ∷ ds) = refl

  decl-by : (env : Env) (ss : Specifiers) (ds : List InitDeclarator) (z : List Symbol) (n i : ℕ) → WellFormedDecl env (record { specifiers = ss; declarators = ds }) → NumberedDecl n (record { specifiers = ss; declarators = ds })
      → length (spell_decl (record { specifiers = ss; declarators = ds }) z) < limit → i ≡ n
      → declaration limit (at env (spell_decl (record { specifiers = ss; declarators = ds }) z) i) ≡ Ok (record { specifiers = ss; declarators = ds }, at (after_decl env (record { specifiers = ss; declarators = ds })) z (past_decl n (record { specifiers = ss; declarators = ds })))
  unfolding declaration some_specifiers sees past ahead step same_mark
  decl-by env ss [] z n i w num short at_n =
      rw ((parts-know limit).specifiers true env ss (Sign m.Semicolon ∷ z) n i w.1 tt num.0 refl short at_n)
      (rw (not_empty ss w.0) (same (after_specifiers env ss) z refl (omega (arith, length-specifiers ss (Sign m.Semicolon ∷ [])))))
  decl-by env ss (x ∷ ds) z n i w num short at_n =
      let more = spell_init_declarators false ds (Sign m.Semicolon ∷ z) in
      let text = spell_declarator x.declarator (spell_initializer x.initializer more) in
      rw ((parts-know limit).specifiers true env ss text n i w.1 tt num.0 (init_declarators-ends (after_specifiers env ss) (has_type ss) ss x ds z w.2.0) short at_n)
      (rw (not_empty ss w.0)
      (rw (named-no_semicolon (after_specifiers env ss) (has_type ss) x.declarator (spell_initializer x.initializer more) w.2.0)
      (rw ((parts-know limit).declarator Named (has_type ss) (after_specifiers env ss) x.declarator (spell_initializer x.initializer more) (past_specifiers n ss) (past_specifiers n ss) w.2.0 num.1.0 (declarator-follow x.initializer ds z) (omega (arith, short, length-specifiers ss text)) refl)
      (declaration_with-read (after_declarator (after_specifiers env ss) x.declarator) ss x ds z (past_declarator (past_specifiers n ss) x.declarator) (past_declarator (past_specifiers n ss) x.declarator) w.2.1 w.2.2 num.1.1 num.1.2
      (omega (arith, short, length-specifiers ss text, length-declarator x.declarator (spell_initializer x.initializer more))) refl
      ∙ same (after_init_declarators (after_specifiers env ss) ss (x ∷ ds)) z refl
      (omega (
        arith,
        length-specifiers ss (spell_declarator x.declarator (spell_initializer x.initializer (spell_init_declarators false ds (Sign m.Semicolon ∷ [])))),
        length-declarator x.declarator (spell_initializer x.initializer (spell_init_declarators false ds (Sign m.Semicolon ∷ []))),
        length-initializer x.initializer (spell_init_declarators false ds (Sign m.Semicolon ∷ [])),
        length-init_declarators false ds (Sign m.Semicolon ∷ []),
      ))))))

  pub decl-read : (env : Env) (x : Decl) (z : List Symbol) (n i : ℕ) → WellFormedDecl env x → NumberedDecl n x → length (spell_decl x z) < limit → i ≡ n
      → declaration limit (at env (spell_decl x z) i) ≡ Ok (x, at (after_decl env x) z (past_decl n x))
  decl-read env x z n i w num short at_n = decl-by env x.specifiers x.declarators z n i w num short at_n

  -- none stands behind these
  abbrev Ends : Bool → Env → List Symbol → Type 0
  Ends labels env z = (i : ℕ) → begins_declaration labels (at env z i) ≡ false

  decls-turns : (labels : Bool) (count : ℕ) (env : Env) (ds : List Decl) (z : List Symbol) (n i : ℕ) → WellFormedDecls env ds → NumberedDecls n ds → Ends labels (after_decls env ds) z → length (spell_decls ds z) < count → length (spell_decls ds z) < limit → i ≡ n
      → repeat (turn_of [] <$> declaration_next limit labels) count (at env (spell_decls ds z) i) ≡ Ok (ds, at (after_decls env ds) z (past_decls n ds))
  unfolding declaration_next
  decls-turns labels zero env ds z n i w num ends enough short at_n = no_turns enough
  decls-turns labels (suc count) env [] z n i w num ends enough short at_n =
      some_last [] (declaration_next limit labels) count (at env z i) (at env z i) (rw (ends i) refl) ∙ same env z refl (omega (arith, at_n))
  decls-turns labels (suc count) env (x ∷ ds) z n i w num ends enough short at_n =
      let more = spell_decls ds z in
      some_more [] (declaration_next limit labels) count (at env (spell_decls (x ∷ ds) z) i) (at (after_decl env x) more (past_decl n x)) (at (after_decls (after_decl env x) ds) z (past_decls (past_decl n x) ds)) (λ more. x ∷ more) ds
      (rw (decl-begins labels env x more i w.0) (rw (decl-read env x more n i w.0 num.0 short at_n) refl))
      (decls-turns labels count (after_decl env x) ds z (past_decl n x) (past_decl n x) w.1 num.1 ends (omega (arith, enough, length-decl x more, decl-long env x w.0)) (omega (arith, short, length-decl x more)) refl)
      ∙ same (after_decls (after_decl env x) ds) z refl (omega (arith, length-decl x (spell_decls ds [])))

  pub decls-read : (labels : Bool) (env : Env) (ds : List Decl) (z : List Symbol) (n i : ℕ) → WellFormedDecls env ds → NumberedDecls n ds → Ends labels (after_decls env ds) z → length (spell_decls ds z) < limit → i ≡ n
      → declarations limit labels (at env (spell_decls ds z) i) ≡ Ok (ds, at (after_decls env ds) z (past_decls n ds))
  unfolding declarations
  decls-read labels env ds z n i w num ends short at_n = decls-turns labels _ env ds z n i w num ends (turns_enough (spell_decls ds z)) short at_n
