-- Translation units are read (6.7): what is written is read.
use Rattle.std.proofs.Common.{◌≡◌, ℕ, zero, suc, ◌+◌, ◌<◌, Bool, true, false, not, ◌&&◌, List, [], ◌∷◌, ◌++◌, append_assoc, length, map, Option, Some, None, Ok, arith, refl, sym, ap, ◌∙◌}
use Rattle.pw_tree.specs.Numbering.{past_specifiers, past_declarator, past_decl, past_decls, past_block, past_external, NumberedSpecifiers, NumberedDeclarator, NumberedDecl, NumberedDecls, NumberedStmt, NumberedBlock, NumberedExternal, NumberedExternals, NumberedModule}
use Rattle.pw_tree.specs.Scopes.{declare_plain, declare_plains, has_typedef, has_type, name_of, declare, after_specifiers, after_declarator, after_parameters, after_name, after_init_declarators, after_decl, after_decls, enter_first, enter, after_external, Env}
use Rattle.pw_tree.specs.Spelling.{spell_expr, spell_specifiers, spell_declarator, spell_initializer, spell_init_declarators, spell_decl, spell_decls, spell_stmt, spell_block, spell_stmts, spell_external, spell_externals, symbols}
use Rattle.pw_tree.specs.Symbols as symbol
use Rattle.pw_tree.specs.Symbols.{Symbol, Reserved, Sign, unary_symbol, binary_mark, assign_mark, access_mark, step_mark}
use Rattle.pw_tree.specs.Trees.{Word, Specifiers, NoSpecifier, Storage, Qualified, Basic, TypedefName, RecordTag, Record, EnumTag, Enum, Declarator, Declaring, Core, Absent, Name, Enclosed, Suffixes, NoSuffix, Array, OpenArray, Prototype, Variadic, Identifiers, Parameters, Initializer, InitDeclarator, Decl, Module, Block, Braced, External, Definition, Declaration}
use Rattle.pw_tree.specs.WellFormed.{NotEmpty, HasPostfix, HasSpecifier, HasMember, HasMemberDeclarator, HasEnumerator, HasParameter, HasInit, NotTypedef, NoneTypedef, MayDeclare, NoStorage, IsSomething, begins_with_typedef, MayEnclose, operand_level, WellFormed, WellFormedPostfixes, WellFormedArguments, WellFormedOperations, WellFormedSpecifiers, WellFormedMembers, WellFormedMemberDeclarators, WellFormedEnumerators, WellFormedDeclarator, WellFormedCore, WellFormedSuffixes, WellFormedParameters, WellFormedOptional, WellFormedInit, WellFormedInits, WellFormedInitializer, WellFormedInitDeclarators, WellFormedDecl, WellFormedDecls, WellFormedLabel, WellFormedLabels, NotLabeled, NotIf, ends_open, alternative_ends_open, MayPrecede, WellFormedStmt, WellFormedAlternative, WellFormedBlock, WellFormedStmts, in_function, WellFormedFunction, WellFormedExternal, WellFormedExternals, WellFormedModule}
use Rattle.pw_tree.specs.WellFormed as tree
use Rattle.pw_token.specs.declared.symbol.Mark.TheVariants as m
use Rattle.pw_parse_grammar.specs.declared.place.Place.TheVariants.{Named}
use Rattle.pw_parse_grammar.specs.Input.{Input, ahead, is_none_left, at_end, step, same_mark, is_mark, sees, Parser, ◌<$>◌, past, repeat, Turn, Binding}
use Rattle.std.specs.Option.{option_or}
use Rattle.std.proofs.lemmas.List.{append-nil}
use Rattle.pw_scope.proofs.Visibility.{option_or-assoc}
use Rattle.pw_tree.specs.Scopes.{behind_name, behind_core}
use Rattle.pw_parse_grammar.specs.Modules.{or_none, goes_on_as_declaration, function, external_with, external_named, external_behind, external, ends_text, externals, read}
use Rattle.pw_parse_grammar.specs.Statements as rules
use Rattle.pw_parse_grammar.specs.Tests.{begins_declaration, begins_specifier, is_empty, symbol_begins_specifier}
use Rattle.pw_parse_grammar.proofs.Trees.Base.{at, same, names_of, names_of-append, left, turns_enough, no_turns, true_is_not_false, item_turn, item_more, item_last}
use Rattle.pw_parse_grammar.proofs.Written.Declarations.{decls-read, declaration_with-read, named-no_semicolon, declarator-follow}
use Rattle.pw_parse_grammar.proofs.Trees.Follow.{head}
use Rattle.pw_parse_grammar.proofs.Trees.Heads.{specifiers-begin}
use Rattle.pw_parse_grammar.proofs.Written.Knot.{parts-know}
use Rattle.pw_parse_grammar.proofs.Written.Knows as knows
use Rattle.pw_parse_grammar.proofs.Written.Knows.{joins_declarator, ends_specifiers, declared, bindings_of, behind_suffixes, behind_of}
use Rattle.pw_parse_grammar.proofs.Trees.Lengths.{length-specifiers, length-declarator, length-decls, length-stmts, length-initializer, length-init_declarators, length-external}
use Rattle.pw_parse_grammar.proofs.Written.Members.{type-no_mark}
use Rattle.pw_parse_grammar.proofs.Written.Parameters.{declare-read}
use Rattle.pw_parse_grammar.proofs.Written.Primaries.{not_empty}
use Rattle.pw_parse_grammar.proofs.Trees.Spreads.{spreads-parameters, spreads-decls, spreads-enter_first}
use Rattle.pw_parse_grammar.proofs.Written.Statements.{stmt-read, block-read}

-- ---- what is visible in a function

plains-names : (ws : List Word) (env : Env) → names_of (declare_plains ws env) ≡ names_of env ++ bindings_of ws
plains-names [] env = sym (append-nil (names_of env))
plains-names (w ∷ ws) env = plains-names ws (declare_plain w env) ∙ append_assoc (names_of env) ((w.text, false) ∷ []) (bindings_of ws)

parameters-names : (env : Env) (ps : Parameters) → names_of (after_parameters env ps) ≡ names_of env ++ names_of (after_parameters [] ps)
parameters-names env ps = ap names_of (spreads-parameters [] env ps) ∙ names_of-append (after_parameters [] ps) env

first-names : (env : Env) (fs : Suffixes) → names_of (enter_first env fs) ≡ names_of env ++ or_none (behind_suffixes fs)
first-names env NoSuffix = sym (append-nil (names_of env))
first-names env (Array t e fs) = sym (append-nil (names_of env))
first-names env (OpenArray t fs) = sym (append-nil (names_of env))
first-names env (Prototype t ps fs) = parameters-names env ps
first-names env (Variadic t ps fs) = parameters-names env ps
first-names env (Identifiers t ws fs) = plains-names ws env

mutual
  declarator-names : (env : Env) (x : Declarator) (outer : Suffixes) → names_of (enter_first env (behind_name x outer)) ≡ names_of env ++ or_none (option_or (behind_of x) (behind_suffixes outer))
  declarator-names env (Declaring ps c NoSuffix) outer =
      core-names env c outer ∙ ap (λ v. names_of env ++ or_none v) (sym (option_or-assoc (knows.behind_core c) None (behind_suffixes outer)))
  declarator-names env (Declaring ps c (Array t e fs)) outer =
      core-names env c (Array t e fs) ∙ ap (λ v. names_of env ++ or_none v) (sym (option_or-assoc (knows.behind_core c) (behind_suffixes (Array t e fs)) (behind_suffixes outer)))
  declarator-names env (Declaring ps c (OpenArray t fs)) outer =
      core-names env c (OpenArray t fs) ∙ ap (λ v. names_of env ++ or_none v) (sym (option_or-assoc (knows.behind_core c) (behind_suffixes (OpenArray t fs)) (behind_suffixes outer)))
  declarator-names env (Declaring ps c (Prototype t qs fs)) outer =
      core-names env c (Prototype t qs fs) ∙ ap (λ v. names_of env ++ or_none v) (sym (option_or-assoc (knows.behind_core c) (behind_suffixes (Prototype t qs fs)) (behind_suffixes outer)))
  declarator-names env (Declaring ps c (Variadic t qs fs)) outer =
      core-names env c (Variadic t qs fs) ∙ ap (λ v. names_of env ++ or_none v) (sym (option_or-assoc (knows.behind_core c) (behind_suffixes (Variadic t qs fs)) (behind_suffixes outer)))
  declarator-names env (Declaring ps c (Identifiers t ws fs)) outer =
      core-names env c (Identifiers t ws fs) ∙ ap (λ v. names_of env ++ or_none v) (sym (option_or-assoc (knows.behind_core c) (behind_suffixes (Identifiers t ws fs)) (behind_suffixes outer)))

  core-names : (env : Env) (c : Core) (outer : Suffixes) → names_of (enter_first env (behind_core c outer)) ≡ names_of env ++ or_none (option_or (knows.behind_core c) (behind_suffixes outer))
  core-names env Absent outer = first-names env outer
  core-names env (Name w) outer = first-names env outer
  core-names env (Enclosed t x) outer = declarator-names env x outer

or-nothing : (o : Option (List Binding)) → option_or o None ≡ o
or-nothing None = refl
or-nothing (Some bs) = refl

pub enter-names : (env : Env) (x : Declarator) → names_of env ++ or_none (behind_of x) ≡ names_of (enter env x)
enter-names env x = ap (λ v. names_of env ++ or_none v) (sym (or-nothing (behind_of x))) ∙ sym (declarator-names env x NoSuffix)

-- what a function declares in it is declared there alone
pub in-function : (env : Env) (x : Declarator) (ds : List Decl) → after_decls (enter env x) ds ≡ after_decls (enter [] x) ds ++ env
in-function env x ds = ap (λ v. after_decls v ds) (spreads-enter_first [] env (behind_name x NoSuffix)) ∙ spreads-decls (enter [] x) env ds

-- ---- what stands behind the first declarator

type-follow : (i : Input) (o : Option Symbol) → symbol_begins_specifier true i o ≡ true → joins_declarator Named o ≡ false
type-follow i (Some (Sign s)) h = true_is_not_false h
type-follow i (Some (Reserved w)) h = refl
type-follow i (Some (symbol.Identifier x)) h = refl
type-follow i (Some _) h = refl
type-follow i None h = refl

-- a function's declarations and its body
abbrev behind_declarator : List Decl → Block → List Symbol → List Symbol
behind_declarator ds b z = spell_decls ds (spell_block b z)

function-follow : (env : Env) (ds : List Decl) (b : Block) (z : List Symbol) → WellFormedDecls env ds → joins_declarator Named (head (behind_declarator ds b z)) ≡ false
unfolding spell_stmt
function-follow env [] (Braced t es ss) z w = refl
function-follow env (x ∷ ds) b z w = type-follow (at env [] 0) (head (behind_declarator (x ∷ ds) b z)) (specifiers-begin true env x.specifiers (spell_init_declarators true x.declarators (Sign m.Semicolon ∷ behind_declarator ds b z)) [] 0 w.0.0 tt w.0.1)

function-no_declaration : (env : Env) (ds : List Decl) (b : Block) (z : List Symbol) (env' : Env) (n : ℕ) → WellFormedDecls env ds → goes_on_as_declaration (at env' (behind_declarator ds b z) n) ≡ false
unfolding goes_on_as_declaration sees ahead same_mark spell_stmt
function-no_declaration env [] (Braced t es ss) z env' n w = refl
function-no_declaration env (x ∷ ds) b z env' n w =
    let o = head (behind_declarator (x ∷ ds) b z) in
    let i = at env [] 0 in
    let begins = specifiers-begin true env x.specifiers (spell_init_declarators true x.declarators (Sign m.Semicolon ∷ behind_declarator ds b z)) [] 0 w.0.0 tt w.0.1 in
    rw (type-no_mark m.Equal true i o begins) (rw (type-no_mark m.Comma true i o begins) (type-no_mark m.Semicolon true i o begins))

declaration-goes_on : (env : Env) (y : Option Initializer) (ds : List InitDeclarator) (z : List Symbol) (n : ℕ) → goes_on_as_declaration (at env (spell_initializer y (spell_init_declarators false ds (Sign m.Semicolon ∷ z))) n) ≡ true
unfolding goes_on_as_declaration sees ahead same_mark
declaration-goes_on env (Some y) ds z n = refl
declaration-goes_on env None [] z n = refl
declaration-goes_on env None (x ∷ ds) z n = refl

named-ends : (storage typed : Bool) (env : Env) (x : Declarator) (z : List Symbol) → WellFormedDeclarator env typed tree.Named x → ends_specifiers storage typed env (head (spell_declarator x z)) ≡ true
unfolding spell_expr WellFormed
named-ends storage typed env (Declaring (p ∷ ps) c fs) z h = refl
named-ends storage typed env (Declaring [] Absent fs) z h = absurd h.0
named-ends storage typed env (Declaring [] (Name w) fs) z h = h.0
named-ends storage typed env (Declaring [] (Enclosed t x) fs) z h = refl

and-false : (b : Bool) → (b && false) ≡ false
and-false true = refl
and-false false = refl

function-block : (env : Env) (b : Block) (z : List Symbol) (i : ℕ) → begins_declaration false (at env (spell_block b z) i) ≡ false
unfolding begins_declaration begins_specifier ahead spell_stmt
function-block env (Braced t ds ss) z i = refl

-- an external declaration has a token
external-long : (x : External) (z : List Symbol) → 0 < length (spell_external x z)
unfolding spell_stmt
external-long (Declaration d) z = omega (arith, length-specifiers d.specifiers (spell_init_declarators true d.declarators (Sign m.Semicolon ∷ z)), length-init_declarators true d.declarators (Sign m.Semicolon ∷ z))
external-long (Definition f) z =
    omega (arith, length-specifiers f.specifiers (spell_declarator f.declarator (behind_declarator f.declarations f.body z)), length-declarator f.declarator (behind_declarator f.declarations f.body z), length-decls f.declarations (spell_block f.body z), block-long f.body z)
  where
    block-long : (b : Block) (z : List Symbol) → 0 < length (spell_block b z)
    block-long (Braced t ds ss) z = omega arith

something-left : (tokens : List Symbol) → 0 < length tokens → is_none_left (map Some tokens) ≡ false
something-left [] h = no_turns h
something-left (s ∷ tokens) h = refl

-- the names visible behind external declarations
abbrev pub after_externals : Env → List External → Env
after_externals env [] = env
after_externals env (x ∷ xs) = after_externals (after_external env x) xs

module _ (limit : ℕ) where
  body-read : (env : Env) (b : Block) (z : List Symbol) (n i : ℕ) → WellFormedBlock env b → NumberedBlock n b → length (spell_block b z) < limit → i ≡ n
      → rules.block limit (rules.stmt limit limit) (at env (spell_block b z) i) ≡ Ok (b, at env z (past_block n b))
  unfolding spell_stmt WellFormedStmt NumberedStmt
  body-read env (Braced t ds ss) z n i w num short at_n =
      block-read limit limit (rules.stmt limit limit) (stmt-read limit limit) env t ds ss z n i w.0 w.1 num.1 num.2 (omega (arith, short)) (omega (arith, short)) at_n
      ∙ same env z (ap (λ v. Braced v ds ss) (at_n ∙ sym num.0)) (omega (arith, length-decls ds (spell_stmts ss (Sign m.CloseBrace ∷ [])), length-stmts ss (Sign m.CloseBrace ∷ [])))

  function-read : (env : Env) (ss : Specifiers) (x : Declarator) (ds : List Decl) (b : Block) (z : List Symbol) (n i : ℕ)
      → WellFormedDecls (enter (declare ss x env) x) ds → WellFormedBlock (after_decls (enter (declare ss x env) x) ds) b → NumberedDecls n ds → NumberedBlock (past_decls n ds) b
      → length (behind_declarator ds b z) < limit → i ≡ n
      → function limit ss (declared x) (at env (behind_declarator ds b z) i) ≡ Ok (Definition (record { specifiers = ss; declarator = x; declarations = ds; body = b }), at (declare ss x env) z (past_block (past_decls n ds) b))
  unfolding function
  function-read env ss x ds b z n i w v num numb short at_n =
      let outer = declare ss x env in
      let entered = enter outer x in
      let text = behind_declarator ds b z in
      rw (declare-read (has_typedef ss) (name_of x) env text i)
      (rw (enter-names outer x)
      (rw (decls-read limit false entered ds (spell_block b z) n i w num (function-block (after_decls entered ds) b z) short at_n)
      (rw (body-read (after_decls entered ds) b z (past_decls n ds) (past_decls n ds) v numb (omega (arith, short, length-decls ds (spell_block b z))) refl)
      (rw (in-function outer x ds) (rw (left (after_decls (enter [] x) ds) outer) refl)))))

  -- behind specifiers stands a declarator
  behind-named : (ss : Specifiers) (env : Env) (tokens : List Symbol) (n : ℕ) → is_mark m.Semicolon (head tokens) ≡ false → external_behind limit ss (at env tokens n) ≡ external_named limit ss (at env tokens n)
  unfolding external_behind sees past ahead
  behind-named NoSpecifier env tokens n h = refl
  behind-named (Storage t c ss) env tokens n h = rw h refl
  behind-named (Qualified t q ss) env tokens n h = rw h refl
  behind-named (Basic t b ss) env tokens n h = rw h refl
  behind-named (TypedefName w ss) env tokens n h = rw h refl
  behind-named (RecordTag t r x ss) env tokens n h = rw h refl
  behind-named (Record t r x ms ss) env tokens n h = rw h refl
  behind-named (EnumTag t x ss) env tokens n h = rw h refl
  behind-named (Enum t x es ss) env tokens n h = rw h refl

  definition-read : (env : Env) (ss : Specifiers) (x : Declarator) (ds : List Decl) (b : Block) (z : List Symbol) (n i : ℕ)
      → WellFormedSpecifiers env false ss → WellFormedDeclarator (after_specifiers env ss) (has_type ss) tree.Named x
      → WellFormedDecls (enter (after_name (after_specifiers env ss) ss x) x) ds → WellFormedBlock (after_decls (enter (after_name (after_specifiers env ss) ss x) x) ds) b
      → NumberedSpecifiers n ss → NumberedDeclarator (past_specifiers n ss) x → NumberedDecls (past_declarator (past_specifiers n ss) x) ds → NumberedBlock (past_decls (past_declarator (past_specifiers n ss) x) ds) b
      → length (spell_specifiers ss (spell_declarator x (behind_declarator ds b z))) < limit → i ≡ n
      → external limit (at env (spell_specifiers ss (spell_declarator x (behind_declarator ds b z))) i)
      ≡ Ok ((λ more. Definition (record { specifiers = ss; declarator = x; declarations = ds; body = b }) ∷ more), at (after_name (after_specifiers env ss) ss x) z (past_block (past_decls (past_declarator (past_specifiers n ss) x) ds) b))
  unfolding external external_named external_with
  definition-read env ss x ds b z n i w v u t num numx numd numb short at_n =
      let more = behind_declarator ds b z in
      let text = spell_declarator x more in
      let e1 = after_specifiers env ss in
      let e2 = after_declarator e1 x in
      let n1 = past_specifiers n ss in
      let n2 = past_declarator n1 x in
      rw ((parts-know limit).specifiers true env ss text n i w tt num (named-ends true (has_type ss) e1 x more v) short at_n)
      (rw (behind-named ss e1 text n1 (named-no_semicolon limit e1 (has_type ss) x more v))
      (rw ((parts-know limit).declarator Named (has_type ss) e1 x more n1 n1 v numx (function-follow (enter (after_name e1 ss x) x) ds b z u) (omega (arith, short, length-specifiers ss text)) refl)
      (rw (function-no_declaration (enter (after_name e1 ss x) x) ds b z e2 n2 u)
      (rw (and-false (not (is_empty ss)))
      (rw (function-read e2 ss x ds b z n2 n2 u t numd numb (omega (arith, short, length-specifiers ss text, length-declarator x more)) refl) refl)))))

  declaration-read : (env : Env) (ss : Specifiers) (ds : List InitDeclarator) (z : List Symbol) (n i : ℕ) → WellFormedDecl env (record { specifiers = ss; declarators = ds }) → NumberedDecl n (record { specifiers = ss; declarators = ds })
      → length (spell_decl (record { specifiers = ss; declarators = ds }) z) < limit → i ≡ n
      → external limit (at env (spell_decl (record { specifiers = ss; declarators = ds }) z) i) ≡ Ok ((λ more. Declaration (record { specifiers = ss; declarators = ds }) ∷ more), at (after_decl env (record { specifiers = ss; declarators = ds })) z (past_decl n (record { specifiers = ss; declarators = ds })))
  unfolding external external_behind external_named external_with sees past ahead step same_mark
  declaration-read env ss [] z n i w num short at_n =
      rw ((parts-know limit).specifiers true env ss (Sign m.Semicolon ∷ z) n i w.1 tt num.0 refl short at_n)
      (rw (not_empty ss w.0) (same (after_specifiers env ss) z refl (omega (arith, length-specifiers ss (Sign m.Semicolon ∷ [])))))
  declaration-read env ss (x ∷ ds) z n i w num short at_n =
      let more = spell_initializer x.initializer (spell_init_declarators false ds (Sign m.Semicolon ∷ z)) in
      let text = spell_declarator x.declarator more in
      let e1 = after_specifiers env ss in
      let n1 = past_specifiers n ss in
      let n2 = past_declarator n1 x.declarator in
      rw ((parts-know limit).specifiers true env ss text n i w.1 tt num.0 (named-ends true (has_type ss) e1 x.declarator more w.2.0) short at_n)
      (rw (not_empty ss w.0)
      (rw (named-no_semicolon limit e1 (has_type ss) x.declarator more w.2.0)
      (rw ((parts-know limit).declarator Named (has_type ss) e1 x.declarator more n1 n1 w.2.0 num.1.0 (declarator-follow limit x.initializer ds z) (omega (arith, short, length-specifiers ss text)) refl)
      (rw (declaration-goes_on (after_declarator e1 x.declarator) x.initializer ds z n2)
      (rw (not_empty ss w.0)
      (rw (declaration_with-read limit (after_declarator e1 x.declarator) ss x ds z n2 n2 w.2.1 w.2.2 num.1.1 num.1.2 (omega (arith, short, length-specifiers ss text, length-declarator x.declarator more)) refl)
      (same (after_init_declarators e1 ss (x ∷ ds)) z refl
      (omega (
        arith,
        length-specifiers ss (spell_declarator x.declarator (spell_initializer x.initializer (spell_init_declarators false ds (Sign m.Semicolon ∷ [])))),
        length-declarator x.declarator (spell_initializer x.initializer (spell_init_declarators false ds (Sign m.Semicolon ∷ []))),
        length-initializer x.initializer (spell_init_declarators false ds (Sign m.Semicolon ∷ [])),
        length-init_declarators false ds (Sign m.Semicolon ∷ []),
      )))))))))

  external-read : (env : Env) (x : External) (z : List Symbol) (n i : ℕ) → WellFormedExternal env x → NumberedExternal n x → length (spell_external x z) < limit → i ≡ n
      → external limit (at env (spell_external x z) i) ≡ Ok ((λ more. x ∷ more), at (after_external env x) z (past_external n x))
  external-read env (Declaration d) z n i w num short at_n = declaration-read env d.specifiers d.declarators z n i w num short at_n
  external-read env (Definition f) z n i w num short at_n =
      definition-read env f.specifiers f.declarator f.declarations f.body z n i w.0 w.1 w.2 w.3 num.0 num.1 num.2 num.3 short at_n
      ∙ same (after_external env (Definition f)) z refl
      (omega (arith, length-specifiers f.specifiers (spell_declarator f.declarator (behind_declarator f.declarations f.body [])), length-declarator f.declarator (behind_declarator f.declarations f.body []), length-decls f.declarations (spell_block f.body [])))

  -- ---- 6.7

  abbrev external_turn : Parser (Turn (List External))
  external_turn = item_turn (external limit) (ends_text limit)

  externals-turns : (count : ℕ) (env : Env) (x : External) (xs : List External) (n i : ℕ) → WellFormedExternals env (x ∷ xs) → NumberedExternals n (x ∷ xs) → length (spell_externals (x ∷ xs) []) < count → length (spell_externals (x ∷ xs) []) < limit → i ≡ n
      → repeat external_turn count (at env (spell_externals (x ∷ xs) []) i) ≡ Ok (x ∷ xs, at (after_externals env (x ∷ xs)) [] (n + length (spell_externals (x ∷ xs) [])))
  unfolding ends_text at_end
  externals-turns zero env x xs n i w num enough short at_n = no_turns enough
  externals-turns (suc count) env x [] n i w num enough short at_n =
      item_last (external limit) (ends_text limit) count (at env (spell_external x []) i) (at (after_external env x) [] (past_external n x)) (at (after_external env x) [] (past_external n x)) (λ more. x ∷ more) []
      (external-read env x [] n i w.0 num.0 short at_n) refl
  externals-turns (suc count) env x (y ∷ xs) n i w num enough short at_n =
      let more = spell_externals (y ∷ xs) [] in
      let inner = after_external env x in
      item_more (external limit) (ends_text limit) count (at env (spell_external x more) i) (at inner more (past_external n x)) (at inner more (past_external n x)) (at (after_externals inner (y ∷ xs)) [] (past_external n x + length more)) (λ more. x ∷ more) (y ∷ xs)
      (external-read env x more n i w.0 num.0 short at_n)
      (rw (something-left more (omega (arith, external-long y (spell_externals xs [])))) refl)
      (externals-turns count inner y xs (past_external n x) (past_external n x) w.1 num.1 (omega (arith, enough, length-external x more, external-long x [])) (omega (arith, short, length-external x more)) refl)
      ∙ same (after_externals inner (y ∷ xs)) [] refl (omega (arith, length-external x more))

-- where a tree's tokens end
abbrev pub behind_all : Module → Input
behind_all tree = at (after_externals [] tree.externals) [] (1 + length (symbols tree))

-- what is written is read
pub module-read : (tree : Module) → WellFormedModule tree → NumberedModule tree → read (map Some (symbols tree)) ≡ Ok (tree, behind_all tree)
unfolding read externals
module-read tree w num = externals-by tree.externals w.0 w.1 num
  where
    externals-by : (xs : List External) → NotEmpty xs → WellFormedExternals [] xs → NumberedExternals 1 xs
        → (◌<$>◌ {B = Module} (λ es. record { externals = es }) (externals (length (map Some (spell_externals xs [])) + 1))) (at [] (spell_externals xs []) 1) ≡ Ok (record { externals = xs }, at (after_externals [] xs) [] (1 + length (spell_externals xs [])))
    externals-by [] has w num = absurd has
    externals-by (x ∷ xs) has w num =
        let text = spell_externals (x ∷ xs) [] in
        rw (externals-turns (length (map Some text) + 1) (length (map Some text) + 1) [] x xs 1 1 w num (turns_enough text) (turns_enough text) refl) refl
