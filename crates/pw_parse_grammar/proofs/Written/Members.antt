-- Members and enumerators are read (6.5.2.1, 6.5.2.2).
use Rattle.std.proofs.Common.{◌≡◌, ℕ, zero, suc, ◌+◌, ◌<◌, ◌≤◌, Bool, true, false, List, [], ◌∷◌, length, map, Option, Some, None, Ok, arith, refl, sym, ap, ◌∙◌, subst}
use Rattle.pw_tree.specs.Levels.{level}
use Rattle.pw_tree.specs.Numbering.{past_expr, past_specifiers, past_members, past_member_declarators, past_enumerators, past_declarator, Numbered, NumberedSpecifiers, NumberedMembers, NumberedMemberDeclarators, NumberedEnumerators, NumberedDeclarator}
use Rattle.pw_tree.specs.Scopes.{declare_plain, has_type, after_expr, after_specifiers, after_members, after_member_declarators, after_enumerators, after_declarator, Env}
use Rattle.pw_tree.specs.Spelling.{identifier, spell_expr, spell_specifiers, spell_members, spell_member_declarators, spell_enumerators, spell_declarator}
use Rattle.pw_tree.specs.Symbols as symbol
use Rattle.pw_tree.specs.Symbols.{Symbol, Reserved, Sign, unary_symbol, binary_mark, assign_mark, access_mark, step_mark}
use Rattle.pw_tree.specs.Trees.{Expr, Specifiers, Members, NoMember, Member, MemberDeclarators, NoMemberDeclarator, PlainMember, BitField, Padding, Enumerators, NoEnumerator, PlainEnumerator, ValuedEnumerator, Declarator, Declaring, Absent, Name, Enclosed}
use Rattle.pw_tree.specs.WellFormed.{NotEmpty, HasPostfix, HasSpecifier, HasMember, HasMemberDeclarator, HasEnumerator, HasParameter, HasInit, NotTypedef, NoneTypedef, MayDeclare, NoStorage, IsSomething, begins_with_typedef, MayEnclose, operand_level, WellFormed, WellFormedPostfixes, WellFormedArguments, WellFormedOperations, WellFormedSpecifiers, WellFormedMembers, WellFormedMemberDeclarators, WellFormedEnumerators, WellFormedDeclarator, WellFormedCore, WellFormedSuffixes, WellFormedParameters, WellFormedOptional, WellFormedInit, WellFormedInits, WellFormedInitializer, WellFormedInitDeclarators, WellFormedDecl, WellFormedDecls, WellFormedLabel, WellFormedLabels, NotLabeled, NotIf, ends_open, alternative_ends_open, MayPrecede, WellFormedStmt, WellFormedAlternative, WellFormedBlock, WellFormedStmts, in_function, WellFormedFunction, WellFormedExternal, WellFormedExternals, WellFormedModule}
use Rattle.pw_tree.specs.WellFormed as tree
use Rattle.pw_token.specs.declared.symbol.Mark.{Mark}
use Rattle.pw_token.specs.declared.symbol.Mark.TheVariants as m
use Rattle.pw_parse_grammar.specs.declared.place.Place.TheVariants.{Named}
use Rattle.pw_parse_grammar.specs.Input.{Input, ahead, step, same_mark, is_mark, sees, Parser, past, expect, identifier_by, repeat, unless_comma, Turn}
use Rattle.pw_parse_grammar.specs.Parts.{Parts}
use Rattle.pw_parse_grammar.specs.Expressions.{some_specifiers}
use Rattle.pw_parse_grammar.specs.Specifiers.{width, padding, named_member, member_declarator, member_declarators, member, members, closes_members, enumerator, some_enumerators, enumerators}
use Rattle.pw_parse_grammar.specs.Tests.{symbol_begins_specifier}
use Rattle.pw_parse_grammar.proofs.Trees.Base.{at, same, turns_enough, no_turns, true_is_not_false, item_turn, item_more, item_last, comma_more, comma_last}
use Rattle.pw_parse_grammar.proofs.Trees.Follow.{Follow, head}
use Rattle.pw_parse_grammar.proofs.Trees.Heads.{declarator-ends, specifiers-begin}
use Rattle.pw_parse_grammar.proofs.Written.Knows.{Knows, joins_declarator, ends_specifiers}
use Rattle.pw_parse_grammar.proofs.Trees.Lengths.{length-expr, length-specifiers, length-declarator, length-member_declarators}
use Rattle.pw_parse_grammar.proofs.Written.Primaries.{not_empty}

-- no mark begins specifiers
pub type-no_mark : (s : Mark) (storage : Bool) (i : Input) (o : Option Symbol) → symbol_begins_specifier storage i o ≡ true → is_mark s o ≡ false
type-no_mark s storage i (Some (Sign other)) h = true_is_not_false h
type-no_mark s storage i (Some (Reserved w)) h = refl
type-no_mark s storage i (Some (symbol.Identifier x)) h = refl
type-no_mark s storage i (Some (symbol.Number x)) h = refl
type-no_mark s storage i (Some (symbol.Floating x)) h = refl
type-no_mark s storage i (Some (symbol.Character x)) h = refl
type-no_mark s storage i (Some (symbol.Wide x)) h = refl
type-no_mark s storage i (Some (symbol.Text x)) h = refl
type-no_mark s storage i None h = refl

-- a declarator with a name begins with no `:`
named-no_colon : (env : Env) (typed : Bool) (x : Declarator) (z : List Symbol) → WellFormedDeclarator env typed tree.Named x → is_mark m.Colon (head (spell_declarator x z)) ≡ false
unfolding spell_expr WellFormed same_mark
named-no_colon env typed (Declaring (p ∷ ps) c fs) z h = refl
named-no_colon env typed (Declaring [] Absent fs) z h = absurd h.0
named-no_colon env typed (Declaring [] (Name w) fs) z h = refl
named-no_colon env typed (Declaring [] (Enclosed t x) fs) z h = refl

-- what stands behind a member declarator, before the `;`
declarators-behind : (ds : MemberDeclarators) (z : List Symbol) → (Follow 14 (spell_member_declarators false ds (Sign m.Semicolon ∷ z))) × (is_mark m.Colon (head (spell_member_declarators false ds (Sign m.Semicolon ∷ z))) ≡ false)
unfolding spell_expr same_mark
declarators-behind NoMemberDeclarator z = (omega arith, refl)
declarators-behind (PlainMember x ds) z = (omega arith, refl)
declarators-behind (BitField x t e ds) z = (omega arith, refl)
declarators-behind (Padding t e ds) z = (omega arith, refl)

enumerators-behind : (es : Enumerators) (z : List Symbol) → (Follow 14 (spell_enumerators false es (Sign m.CloseBrace ∷ z))) × (is_mark m.Equal (head (spell_enumerators false es (Sign m.CloseBrace ∷ z))) ≡ false)
unfolding spell_expr same_mark
enumerators-behind NoEnumerator z = (omega arith, refl)
enumerators-behind (PlainEnumerator w es) z = (omega arith, refl)
enumerators-behind (ValuedEnumerator w e es) z = (omega arith, refl)

-- the comma before the next item
comma : (ds : MemberDeclarators) (z : List Symbol) → HasMemberDeclarator ds → length (spell_member_declarators false ds (Sign m.Semicolon ∷ z)) ≡ 1 + length (spell_member_declarators true ds (Sign m.Semicolon ∷ z))
unfolding spell_expr
comma NoMemberDeclarator z h = absurd h
comma (PlainMember x ds) z h = omega arith
comma (BitField x t e ds) z h = omega arith
comma (Padding t e ds) z h = omega arith

moved : (ds : MemberDeclarators) (n : ℕ) → NumberedMemberDeclarators false n ds → NumberedMemberDeclarators true (n + 1) ds
unfolding Numbered
moved NoMemberDeclarator n h = h
moved (PlainMember x ds) n h = h
moved (BitField x t e ds) n h = h
moved (Padding t e ds) n h = h

plain-follow : (ds : MemberDeclarators) (z : List Symbol) → joins_declarator Named (head (spell_member_declarators false ds (Sign m.Semicolon ∷ z))) ≡ false
unfolding spell_expr
plain-follow NoMemberDeclarator z = refl
plain-follow (PlainMember x ds) z = refl
plain-follow (BitField x t e ds) z = refl
plain-follow (Padding t e ds) z = refl

enum-comma : (es : Enumerators) (z : List Symbol) → HasEnumerator es → length (spell_enumerators false es (Sign m.CloseBrace ∷ z)) ≡ 1 + length (spell_enumerators true es (Sign m.CloseBrace ∷ z))
unfolding spell_expr
enum-comma NoEnumerator z h = absurd h
enum-comma (PlainEnumerator w es) z h = omega arith
enum-comma (ValuedEnumerator w e es) z h = omega arith

enum-moved : (es : Enumerators) (n : ℕ) → NumberedEnumerators false n es → NumberedEnumerators true (n + 1) es
unfolding Numbered
enum-moved NoEnumerator n h = h
enum-moved (PlainEnumerator w es) n h = h
enum-moved (ValuedEnumerator w e es) n h = h

module _ (d : ℕ) (parts : Parts) (known : Knows d parts) where
  -- ---- 6.5.2.1

  abbrev declarator_turn : Bool → Parser (Turn MemberDeclarators)
  declarator_turn typed = item_turn (member_declarator parts typed) (unless_comma NoMemberDeclarator)

  -- a member declarator and those behind it
  declarators-step : (count : ℕ) (typed : Bool) (i : Input) (env : Env) (ds : MemberDeclarators) (f : MemberDeclarators → MemberDeclarators) (z : List Symbol) (n : ℕ)
      → member_declarator parts typed i ≡ Ok (f, at env (spell_member_declarators false ds (Sign m.Semicolon ∷ z)) n)
      → (HasMemberDeclarator ds → repeat (declarator_turn typed) count (at env (spell_member_declarators true ds (Sign m.Semicolon ∷ z)) (n + 1))
      ≡ Ok (ds, at (after_member_declarators env ds) (Sign m.Semicolon ∷ z) (past_member_declarators true (n + 1) ds)))
      → repeat (declarator_turn typed) (suc count) i ≡ Ok (f ds, at (after_member_declarators env ds) (Sign m.Semicolon ∷ z) (past_member_declarators false n ds))
  unfolding spell_expr after_expr same_mark
  declarators-step count typed i env NoMemberDeclarator f z n item rest =
      item_last (member_declarator parts typed) (unless_comma NoMemberDeclarator) count i (at env (Sign m.Semicolon ∷ z) n) (at env (Sign m.Semicolon ∷ z) n) f NoMemberDeclarator item (comma_last NoMemberDeclarator env (Sign m.Semicolon ∷ z) n refl)
      ∙ same env (Sign m.Semicolon ∷ z) refl (omega arith)
  declarators-step count typed i env (PlainMember x ds) f z n item rest =
      let more = spell_member_declarators true (PlainMember x ds) (Sign m.Semicolon ∷ z) in
      item_more (member_declarator parts typed) (unless_comma NoMemberDeclarator) count i (at env (Sign m.Comma ∷ more) n) (at env more (n + 1))
      (at (after_member_declarators env (PlainMember x ds)) (Sign m.Semicolon ∷ z) (past_member_declarators true (n + 1) (PlainMember x ds))) f (PlainMember x ds) item (comma_more NoMemberDeclarator env more n) (rest tt)
      ∙ same (after_member_declarators env (PlainMember x ds)) (Sign m.Semicolon ∷ z) refl (omega arith)
  declarators-step count typed i env (BitField x t e ds) f z n item rest =
      let more = spell_member_declarators true (BitField x t e ds) (Sign m.Semicolon ∷ z) in
      item_more (member_declarator parts typed) (unless_comma NoMemberDeclarator) count i (at env (Sign m.Comma ∷ more) n) (at env more (n + 1))
      (at (after_member_declarators env (BitField x t e ds)) (Sign m.Semicolon ∷ z) (past_member_declarators true (n + 1) (BitField x t e ds))) f (BitField x t e ds) item (comma_more NoMemberDeclarator env more n) (rest tt)
      ∙ same (after_member_declarators env (BitField x t e ds)) (Sign m.Semicolon ∷ z) refl (omega arith)
  declarators-step count typed i env (Padding t e ds) f z n item rest =
      let more = spell_member_declarators true (Padding t e ds) (Sign m.Semicolon ∷ z) in
      item_more (member_declarator parts typed) (unless_comma NoMemberDeclarator) count i (at env (Sign m.Comma ∷ more) n) (at env more (n + 1))
      (at (after_member_declarators env (Padding t e ds)) (Sign m.Semicolon ∷ z) (past_member_declarators true (n + 1) (Padding t e ds))) f (Padding t e ds) item (comma_more NoMemberDeclarator env more n) (rest tt)
      ∙ same (after_member_declarators env (Padding t e ds)) (Sign m.Semicolon ∷ z) refl (omega arith)

  member_declarator-plain : (env : Env) (typed : Bool) (x : Declarator) (z : List Symbol) (n i : ℕ) → WellFormedDeclarator env typed tree.Named x → NumberedDeclarator n x → joins_declarator Named (head z) ≡ false → is_mark m.Colon (head z) ≡ false
      → length (spell_declarator x z) < d → i ≡ n
      → member_declarator parts typed (at env (spell_declarator x z) i) ≡ Ok (PlainMember x, at (after_declarator env x) z (past_declarator n x))
  unfolding member_declarator named_member sees ahead
  member_declarator-plain env typed x z n i w num follow colon short at_n =
      rw (named-no_colon env typed x z w)
      (rw (known.declarator Named typed env x z n i w num follow short at_n)
      (rw colon refl))

  member_declarator-bits : (env : Env) (typed : Bool) (x : Declarator) (e : Expr) (z : List Symbol) (n i : ℕ) → WellFormedDeclarator env typed tree.Named x → level e ≤ 14 → WellFormed (after_declarator env x) e
      → NumberedDeclarator n x → Numbered (past_declarator n x + 1) e → Follow 14 z → length (spell_declarator x (Sign m.Colon ∷ spell_expr e z)) < d → i ≡ n
      → member_declarator parts typed (at env (spell_declarator x (Sign m.Colon ∷ spell_expr e z)) i) ≡ Ok (BitField x (past_declarator n x) e, at (after_expr (after_declarator env x) e) z (past_expr (past_declarator n x + 1) e))
  unfolding member_declarator named_member width sees ahead step same_mark
  member_declarator-bits env typed x e z n i w l v num nume follow short at_n =
      rw (named-no_colon env typed x (Sign m.Colon ∷ spell_expr e z) w)
      (rw (known.declarator Named typed env x (Sign m.Colon ∷ spell_expr e z) n i w num refl short at_n)
      (rw (known.expr 14 (omega arith) (after_declarator env x) e z (past_declarator n x + 1) (past_declarator n x + 1) v nume l follow (omega (arith, short, length-declarator x (Sign m.Colon ∷ spell_expr e z))) refl) refl))

  member_declarator-padding : (env : Env) (typed : Bool) (e : Expr) (z : List Symbol) (n i : ℕ) → level e ≤ 14 → WellFormed env e → Numbered (n + 1) e → Follow 14 z → length (spell_expr e z) < d → i ≡ n
      → member_declarator parts typed (at env (Sign m.Colon ∷ spell_expr e z) i) ≡ Ok (Padding i e, at (after_expr env e) z (past_expr (n + 1) e))
  unfolding member_declarator padding width sees ahead step same_mark
  member_declarator-padding env typed e z n i l v num follow short at_n =
      rw (known.expr 14 (omega arith) env e z (n + 1) (i + 1) v num l follow short (omega (arith, at_n))) refl

  declarators-turns : (count : ℕ) (env : Env) (typed : Bool) (ds : MemberDeclarators) (z : List Symbol) (n i : ℕ) → HasMemberDeclarator ds → WellFormedMemberDeclarators env typed ds → NumberedMemberDeclarators true n ds
      → length (spell_member_declarators true ds (Sign m.Semicolon ∷ z)) < count → length (spell_member_declarators true ds (Sign m.Semicolon ∷ z)) < d → i ≡ n
      → repeat (declarator_turn typed) count (at env (spell_member_declarators true ds (Sign m.Semicolon ∷ z)) i) ≡ Ok (ds, at (after_member_declarators env ds) (Sign m.Semicolon ∷ z) (past_member_declarators true n ds))
  unfolding spell_expr WellFormed Numbered after_expr same_mark
  declarators-turns zero env typed ds z n i has w num enough short at_n = no_turns enough
  declarators-turns (suc count) env typed NoMemberDeclarator z n i has w num enough short at_n = absurd has
  declarators-turns (suc count) env typed (PlainMember x ds) z n i has w num enough short at_n =
      let more = spell_member_declarators false ds (Sign m.Semicolon ∷ z) in
      let behind = declarators-behind ds z in
      declarators-step count typed (at env (spell_declarator x more) i) (after_declarator env x) ds (PlainMember x) z (past_declarator n x)
      (member_declarator-plain env typed x more n i w.0 num.0 (plain-follow ds z) behind.1 short at_n)
      (λ some. declarators-turns count (after_declarator env x) typed ds z (past_declarator n x + 1) (past_declarator n x + 1) some w.1 (moved ds (past_declarator n x) num.1)
      (omega (arith, enough, length-declarator x more, comma ds z some)) (omega (arith, short, length-declarator x more, comma ds z some)) refl)
      ∙ same (after_member_declarators (after_declarator env x) ds) (Sign m.Semicolon ∷ z) refl (omega (arith, length-declarator x (spell_member_declarators false ds [])))
  declarators-turns (suc count) env typed (BitField x t e ds) z n i has w num enough short at_n =
      let more = spell_member_declarators false ds (Sign m.Semicolon ∷ z) in
      let behind = declarators-behind ds z in
      let nume : Numbered (past_declarator n x + 1) e = subst (λ v. Numbered (v + 1) e) num.1 num.2 in
      let nums : NumberedMemberDeclarators false (past_expr (past_declarator n x + 1) e) ds = subst (λ v. NumberedMemberDeclarators false (past_expr (v + 1) e) ds) num.1 num.3 in
      declarators-step count typed (at env (spell_declarator x (Sign m.Colon ∷ spell_expr e more)) i) (after_expr (after_declarator env x) e) ds (BitField x (past_declarator n x) e) z (past_expr (past_declarator n x + 1) e)
      (member_declarator-bits env typed x e more n i w.0 w.1 w.2 num.0 nume behind.0 short at_n)
      (λ some. declarators-turns count (after_expr (after_declarator env x) e) typed ds z (past_expr (past_declarator n x + 1) e + 1) (past_expr (past_declarator n x + 1) e + 1) some w.3 (moved ds (past_expr (past_declarator n x + 1) e) nums)
      (omega (arith, enough, length-declarator x (Sign m.Colon ∷ spell_expr e more), length-expr e more, comma ds z some)) (omega (arith, short, length-declarator x (Sign m.Colon ∷ spell_expr e more), length-expr e more, comma ds z some)) refl)
      ∙ same (after_member_declarators (after_expr (after_declarator env x) e) ds) (Sign m.Semicolon ∷ z) (ap (λ v. BitField x v e ds) (sym num.1))
      (omega (arith, length-declarator x (Sign m.Colon ∷ spell_expr e (spell_member_declarators false ds [])), length-expr e (spell_member_declarators false ds [])))
  declarators-turns (suc count) env typed (Padding t e ds) z n i has w num enough short at_n =
      let more = spell_member_declarators false ds (Sign m.Semicolon ∷ z) in
      let behind = declarators-behind ds z in
      let nume : Numbered (n + 1) e = subst (λ v. Numbered (v + 1) e) num.0 num.1 in
      let nums : NumberedMemberDeclarators false (past_expr (n + 1) e) ds = subst (λ v. NumberedMemberDeclarators false (past_expr (v + 1) e) ds) num.0 num.2 in
      declarators-step count typed (at env (Sign m.Colon ∷ spell_expr e more) i) (after_expr env e) ds (Padding i e) z (past_expr (n + 1) e)
      (member_declarator-padding env typed e more n i w.0 w.1 nume behind.0 (omega (arith, short)) at_n)
      (λ some. declarators-turns count (after_expr env e) typed ds z (past_expr (n + 1) e + 1) (past_expr (n + 1) e + 1) some w.2 (moved ds (past_expr (n + 1) e) nums)
      (omega (arith, enough, length-expr e more, comma ds z some)) (omega (arith, short, length-expr e more, comma ds z some)) refl)
      ∙ same (after_member_declarators (after_expr env e) ds) (Sign m.Semicolon ∷ z) (ap (λ v. Padding v e ds) (at_n ∙ sym num.0)) (omega (arith, length-expr e (spell_member_declarators false ds [])))

  member-ends : (env : Env) (typed : Bool) (ds : MemberDeclarators) (z : List Symbol) → HasMemberDeclarator ds → WellFormedMemberDeclarators env typed ds → ends_specifiers false typed env (head (spell_member_declarators true ds (Sign m.Semicolon ∷ z))) ≡ true
  unfolding spell_expr WellFormed
  member-ends env typed NoMemberDeclarator z has w = absurd has
  member-ends env typed (PlainMember x NoMemberDeclarator) z has w = declarator-ends false typed Named env x (Sign m.Semicolon ∷ z) w.0 refl
  member-ends env typed (PlainMember x (PlainMember y ds)) z has w = declarator-ends false typed Named env x _ w.0 refl
  member-ends env typed (PlainMember x (BitField y t e ds)) z has w = declarator-ends false typed Named env x _ w.0 refl
  member-ends env typed (PlainMember x (Padding t e ds)) z has w = declarator-ends false typed Named env x _ w.0 refl
  member-ends env typed (BitField x t e ds) z has w = declarator-ends false typed Named env x _ w.0 refl
  member-ends env typed (Padding t e ds) z has w = refl

  member-read : (env : Env) (ss : Specifiers) (ds : MemberDeclarators) (z : List Symbol) (n i : ℕ) → HasSpecifier ss → NoStorage ss → WellFormedSpecifiers env false ss → HasMemberDeclarator ds → WellFormedMemberDeclarators (after_specifiers env ss) (has_type ss) ds
      → NumberedSpecifiers n ss → NumberedMemberDeclarators true (past_specifiers n ss) ds → length (spell_specifiers ss (spell_member_declarators true ds (Sign m.Semicolon ∷ z))) < d → i ≡ n
      → member parts (at env (spell_specifiers ss (spell_member_declarators true ds (Sign m.Semicolon ∷ z))) i)
      ≡ Ok (Member ss ds, at (after_member_declarators (after_specifiers env ss) ds) z (past_member_declarators true (past_specifiers n ss) ds + 1))
  unfolding member some_specifiers member_declarators expect sees ahead step same_mark
  member-read env ss ds z n i has none w hasd v num numd short at_n =
      let text = spell_member_declarators true ds (Sign m.Semicolon ∷ z) in
      rw (known.specifiers false env ss text n i w none num (member-ends (after_specifiers env ss) (has_type ss) ds z hasd v) short at_n)
      (rw (not_empty ss has)
      (rw (declarators-turns (length (map Some text) + 1) (after_specifiers env ss) (has_type ss) ds z (past_specifiers n ss) (past_specifiers n ss) hasd v numd (turns_enough text) (omega (arith, short, length-specifiers ss text)) refl) refl))

  members-turns : (count : ℕ) (env : Env) (ms : Members) (z : List Symbol) (n i : ℕ) → HasMember ms → WellFormedMembers env ms → NumberedMembers n ms
      → length (spell_members ms (Sign m.CloseBrace ∷ z)) < count → length (spell_members ms (Sign m.CloseBrace ∷ z)) < d → i ≡ n
      → repeat (item_turn (member parts) closes_members) count (at env (spell_members ms (Sign m.CloseBrace ∷ z)) i) ≡ Ok (ms, at (after_members env ms) z (past_members n ms + 1))
  unfolding spell_expr WellFormed Numbered after_expr sees ahead past step same_mark
  members-turns zero env ms z n i has w num enough short at_n = no_turns enough
  members-turns (suc count) env NoMember z n i has w num enough short at_n = absurd has
  members-turns (suc count) env (Member ss ds NoMember) z n i has w num enough short at_n =
      item_last (member parts) closes_members count (at env (spell_specifiers ss (spell_member_declarators true ds (Sign m.Semicolon ∷ Sign m.CloseBrace ∷ z))) i)
      (at (after_member_declarators (after_specifiers env ss) ds) (Sign m.CloseBrace ∷ z) (past_member_declarators true (past_specifiers n ss) ds + 1))
      (at (after_member_declarators (after_specifiers env ss) ds) z (past_member_declarators true (past_specifiers n ss) ds + 1 + 1)) (Member ss ds) NoMember
      (member-read env ss ds (Sign m.CloseBrace ∷ z) n i w.0 w.1 w.2 w.3 w.4 num.0 num.1 short at_n) refl
      ∙ same (after_member_declarators (after_specifiers env ss) ds) z refl (omega (arith, length-specifiers ss (spell_member_declarators true ds (Sign m.Semicolon ∷ [])), length-member_declarators true ds (Sign m.Semicolon ∷ [])))
  members-turns (suc count) env (Member ss ds (Member rr es ms)) z n i has w num enough short at_n =
      let inner = after_member_declarators (after_specifiers env ss) ds in
      let more = spell_members (Member rr es ms) (Sign m.CloseBrace ∷ z) in
      let text = spell_member_declarators true ds (Sign m.Semicolon ∷ more) in
      item_more (member parts) closes_members count (at env (spell_specifiers ss text) i)
      (at inner more (past_member_declarators true (past_specifiers n ss) ds + 1)) (at inner more (past_member_declarators true (past_specifiers n ss) ds + 1))
      (at (after_members inner (Member rr es ms)) z (past_members (past_member_declarators true (past_specifiers n ss) ds + 1) (Member rr es ms) + 1)) (Member ss ds) (Member rr es ms)
      (member-read env ss ds more n i w.0 w.1 w.2 w.3 w.4 num.0 num.1 short at_n)
      (rw (type-no_mark m.CloseBrace false (at inner more 0) (head more) (specifiers-begin false inner rr (spell_member_declarators true es (Sign m.Semicolon ∷ spell_members ms (Sign m.CloseBrace ∷ z))) more 0 w.5.0 w.5.1 w.5.2)) refl)
      (members-turns count inner (Member rr es ms) z (past_member_declarators true (past_specifiers n ss) ds + 1) (past_member_declarators true (past_specifiers n ss) ds + 1) tt w.5 num.2
      (omega (arith, enough, length-specifiers ss text, length-member_declarators true ds (Sign m.Semicolon ∷ more))) (omega (arith, short, length-specifiers ss text, length-member_declarators true ds (Sign m.Semicolon ∷ more))) refl)
      ∙ same (after_members inner (Member rr es ms)) z refl
      (omega (arith, length-specifiers ss (spell_member_declarators true ds (Sign m.Semicolon ∷ spell_members (Member rr es ms) [])), length-member_declarators true ds (Sign m.Semicolon ∷ spell_members (Member rr es ms) [])))

  -- up to the `}` and with it
  pub members-read : (env : Env) (ms : Members) (z : List Symbol) (n i : ℕ) → HasMember ms → WellFormedMembers env ms → NumberedMembers n ms → length (spell_members ms (Sign m.CloseBrace ∷ z)) < d → i ≡ n
      → members parts (at env (spell_members ms (Sign m.CloseBrace ∷ z)) i) ≡ Ok (ms, at (after_members env ms) z (past_members n ms + 1))
  unfolding members
  members-read env ms z n i has w num short at_n = members-turns _ env ms z n i has w num (turns_enough (spell_members ms (Sign m.CloseBrace ∷ z))) short at_n

  -- ---- 6.5.2.2

  abbrev enumerator_turn : Parser (Turn Enumerators)
  enumerator_turn = item_turn (enumerator parts) (unless_comma NoEnumerator)

  enumerators-step : (count : ℕ) (i : Input) (env : Env) (es : Enumerators) (f : Enumerators → Enumerators) (z : List Symbol) (n : ℕ)
      → enumerator parts i ≡ Ok (f, at env (spell_enumerators false es (Sign m.CloseBrace ∷ z)) n)
      → (HasEnumerator es → repeat enumerator_turn count (at env (spell_enumerators true es (Sign m.CloseBrace ∷ z)) (n + 1)) ≡ Ok (es, at (after_enumerators env es) (Sign m.CloseBrace ∷ z) (past_enumerators true (n + 1) es)))
      → repeat enumerator_turn (suc count) i ≡ Ok (f es, at (after_enumerators env es) (Sign m.CloseBrace ∷ z) (past_enumerators false n es))
  unfolding spell_expr after_expr same_mark
  enumerators-step count i env NoEnumerator f z n item rest =
      item_last (enumerator parts) (unless_comma NoEnumerator) count i (at env (Sign m.CloseBrace ∷ z) n) (at env (Sign m.CloseBrace ∷ z) n) f NoEnumerator item (comma_last NoEnumerator env (Sign m.CloseBrace ∷ z) n refl)
      ∙ same env (Sign m.CloseBrace ∷ z) refl (omega arith)
  enumerators-step count i env (PlainEnumerator w es) f z n item rest =
      let more = spell_enumerators true (PlainEnumerator w es) (Sign m.CloseBrace ∷ z) in
      item_more (enumerator parts) (unless_comma NoEnumerator) count i (at env (Sign m.Comma ∷ more) n) (at env more (n + 1))
      (at (after_enumerators env (PlainEnumerator w es)) (Sign m.CloseBrace ∷ z) (past_enumerators true (n + 1) (PlainEnumerator w es))) f (PlainEnumerator w es) item (comma_more NoEnumerator env more n) (rest tt)
      ∙ same (after_enumerators env (PlainEnumerator w es)) (Sign m.CloseBrace ∷ z) refl (omega arith)
  enumerators-step count i env (ValuedEnumerator w e es) f z n item rest =
      let more = spell_enumerators true (ValuedEnumerator w e es) (Sign m.CloseBrace ∷ z) in
      item_more (enumerator parts) (unless_comma NoEnumerator) count i (at env (Sign m.Comma ∷ more) n) (at env more (n + 1))
      (at (after_enumerators env (ValuedEnumerator w e es)) (Sign m.CloseBrace ∷ z) (past_enumerators true (n + 1) (ValuedEnumerator w e es))) f (ValuedEnumerator w e es) item (comma_more NoEnumerator env more n) (rest tt)
      ∙ same (after_enumerators env (ValuedEnumerator w e es)) (Sign m.CloseBrace ∷ z) refl (omega arith)

  enumerators-turns : (count : ℕ) (env : Env) (es : Enumerators) (z : List Symbol) (n i : ℕ) → HasEnumerator es → WellFormedEnumerators env es → NumberedEnumerators true n es
      → length (spell_enumerators true es (Sign m.CloseBrace ∷ z)) < count → length (spell_enumerators true es (Sign m.CloseBrace ∷ z)) < d → i ≡ n
      → repeat enumerator_turn count (at env (spell_enumerators true es (Sign m.CloseBrace ∷ z)) i) ≡ Ok (es, at (after_enumerators env es) (Sign m.CloseBrace ∷ z) (past_enumerators true n es))
  unfolding spell_expr WellFormed Numbered after_expr enumerator identifier_by sees ahead past step same_mark
  enumerators-turns zero env es z n i has w num enough short at_n = no_turns enough
  enumerators-turns (suc count) env NoEnumerator z n i has w num enough short at_n = absurd has
  enumerators-turns (suc count) env (PlainEnumerator x es) z n i has w num enough short at_n =
      let more = spell_enumerators false es (Sign m.CloseBrace ∷ z) in
      enumerators-step count (at env (identifier x ∷ more) i) (declare_plain x env) es (PlainEnumerator (record { token = i; text = x.text })) z (i + 1)
      (rw ((enumerators-behind es z).1) refl)
      (λ some. enumerators-turns count (declare_plain x env) es z (n + 1 + 1) (i + 1 + 1) some w (enum-moved es (n + 1) num.1)
      (omega (arith, enough, enum-comma es z some)) (omega (arith, short, enum-comma es z some)) (omega (arith, at_n)) ∙ same (after_enumerators (declare_plain x env) es) (Sign m.CloseBrace ∷ z) refl (omega (arith, at_n)))
      ∙ same (after_enumerators (declare_plain x env) es) (Sign m.CloseBrace ∷ z) (ap (λ v. PlainEnumerator (record { token = v; text = x.text }) es) (at_n ∙ sym num.0)) (omega (arith, at_n))
  enumerators-turns (suc count) env (ValuedEnumerator x e es) z n i has w num enough short at_n =
      let more = spell_enumerators false es (Sign m.CloseBrace ∷ z) in
      let inner = declare_plain x (after_expr env e) in
      enumerators-step count (at env (identifier x ∷ Sign m.Equal ∷ spell_expr e more) i) inner es (ValuedEnumerator (record { token = i; text = x.text }) e) z (past_expr (n + 2) e)
      (rw (known.expr 14 (omega arith) env e more (n + 2) (i + 1 + 1) w.1 num.1 w.0 ((enumerators-behind es z).0) (omega (arith, short)) (omega (arith, at_n))) refl)
      (λ some. enumerators-turns count inner es z (past_expr (n + 2) e + 1) (past_expr (n + 2) e + 1) some w.2 (enum-moved es (past_expr (n + 2) e) num.2)
      (omega (arith, enough, length-expr e more, enum-comma es z some)) (omega (arith, short, length-expr e more, enum-comma es z some)) refl)
      ∙ same (after_enumerators inner es) (Sign m.CloseBrace ∷ z) (ap (λ v. ValuedEnumerator (record { token = v; text = x.text }) e es) (at_n ∙ sym num.0)) (omega (arith, length-expr e (spell_enumerators false es [])))

  -- up to the `}` and with it
  pub enumerators-read : (env : Env) (es : Enumerators) (z : List Symbol) (n i : ℕ) → HasEnumerator es → WellFormedEnumerators env es → NumberedEnumerators true n es → length (spell_enumerators true es (Sign m.CloseBrace ∷ z)) < d → i ≡ n
      → enumerators parts (at env (spell_enumerators true es (Sign m.CloseBrace ∷ z)) i) ≡ Ok (es, at (after_enumerators env es) z (past_enumerators true n es + 1))
  unfolding enumerators some_enumerators expect sees ahead step same_mark
  enumerators-read env es z n i has w num short at_n =
      rw (enumerators-turns (length (map Some (spell_enumerators true es (Sign m.CloseBrace ∷ z))) + 1) env es z n i has w num (turns_enough (spell_enumerators true es (Sign m.CloseBrace ∷ z))) short at_n) refl
