-- What stands behind a part of a tree in its spelling, where the string literals from there on are no longer than an object can be.
use Rattle.std.specs.Prelude.{◌≤◌, Bool, true, false, Option, None, Some, List, [], ◌∷◌}
use Rattle.std.proofs.Common.{arith}
use Rattle.pw_tree.specs.declared.expr.Qualifier.{Qualifier}
use Rattle.pw_tree.specs.Spelling.{separated, trailed, spell_identifiers, spell_strings, spell_tag, spell_qualifiers, spell_pointers, spell_expr, spell_postfixes, spell_arguments, spell_operations, spell_specifiers, spell_members, spell_member_declarators, spell_enumerators, spell_declarator, spell_core, spell_suffixes, spell_parameters, spell_optional, spell_init, spell_inits, spell_initializer, spell_init_declarators, spell_decl, spell_decls, spell_label, spell_labels, spell_stmt, spell_alternative, spell_block, spell_stmts}
use Rattle.pw_tree.specs.Symbols.{Symbol}
use Rattle.pw_tree.specs.Trees.{Word, Pointer, Expr, Postfixes, Arguments, Operations, Specifiers, Members, MemberDeclarators, Enumerators, Declarator, Core, Suffixes, Parameters, Init, Inits, Initializer, InitDeclarator, Decl, Label, Stmt, Alternative, Block, Stmts}
use Rattle.pw_tree.specs.Trees as S
use Rattle.pw_value.specs.Limits.{size_limit}
use Rattle.pw_law_checked.specs.Names.{texts_length}

-- from each place on they are no longer
abbrev pub AreShort : List Symbol → Type 0
AreShort [] = Unit {0}
AreShort (x ∷ z) = (texts_length (x ∷ z) ≤ size_limit) × AreShort z

text_before : (x : Symbol) (z : List Symbol) → texts_length z ≤ texts_length (x ∷ z)
text_before x z = omega arith

pub all_short : (z : List Symbol) → texts_length z ≤ size_limit → AreShort z
all_short [] h = tt
all_short (x ∷ z) h = (h, all_short z (let k : texts_length z ≤ texts_length (x ∷ z) = text_before x z in omega (arith, h, k)))

-- ---- what stands behind a part

pub separated_rest : (first : Bool) (z : List Symbol) → AreShort (separated first z) → AreShort z
separated_rest true z h = h
separated_rest false z h = h.1

pub trailed_rest : (b : Bool) (z : List Symbol) → AreShort (trailed b z) → AreShort z
trailed_rest true z h = h.1
trailed_rest false z h = h

identifiers_rest : (first : Bool) (ws : List Word) (z : List Symbol) → AreShort (spell_identifiers first ws z) → AreShort z
identifiers_rest first [] z h = h
identifiers_rest first (w ∷ ws) z h = identifiers_rest false ws z (separated_rest first _ h).1

pub strings_rest : (ws : List Word) (z : List Symbol) → AreShort (spell_strings ws z) → AreShort z
strings_rest [] z h = h
strings_rest (w ∷ ws) z h = strings_rest ws z h.1

pub tag_rest : (tag : Option Word) (z : List Symbol) → AreShort (spell_tag tag z) → AreShort z
tag_rest None z h = h
tag_rest (Some w) z h = h.1

qualifiers_rest : (qs : List Qualifier) (z : List Symbol) → AreShort (spell_qualifiers qs z) → AreShort z
qualifiers_rest [] z h = h
qualifiers_rest (q ∷ qs) z h = qualifiers_rest qs z h.1

pub pointers_rest : (ps : List Pointer) (z : List Symbol) → AreShort (spell_pointers ps z) → AreShort z
pointers_rest [] z h = h
pointers_rest (p ∷ ps) z h = pointers_rest ps z (qualifiers_rest p.qualifiers _ h.1)

mutual
  unfolding spell_expr

  pub expr_rest : (e : Expr) (z : List Symbol) → AreShort (spell_expr e z) → AreShort z
  expr_rest (S.Identifier w) z h = h.1
  expr_rest (S.Number w) z h = h.1
  expr_rest (S.Floating w) z h = h.1
  expr_rest (S.Character w) z h = h.1
  expr_rest (S.Wide w) z h = h.1
  expr_rest (S.Strings ws) z h = strings_rest ws z h
  expr_rest (S.Paren n e) z h = (expr_rest e _ h.1).1
  expr_rest (S.Postfix e ps) z h = postfixes_rest ps z (expr_rest e _ h)
  expr_rest (S.Unary n op e) z h = expr_rest e z h.1
  expr_rest (S.SizeofType n ss d) z h = (declarator_rest d _ (specifiers_rest ss _ h.1.1)).1
  expr_rest (S.Cast n ss d e) z h = expr_rest e z (declarator_rest d _ (specifiers_rest ss _ h.1)).1
  expr_rest (S.Chain e ops) z h = operations_rest ops z (expr_rest e _ h)
  expr_rest (S.Conditional n c a b) z h = expr_rest b z (expr_rest a _ (expr_rest c _ h).1).1
  expr_rest (S.Assign n op l r) z h = expr_rest r z (expr_rest l _ h).1

  pub postfixes_rest : (ps : Postfixes) (z : List Symbol) → AreShort (spell_postfixes ps z) → AreShort z
  postfixes_rest S.NoPostfix z h = h
  postfixes_rest (S.Index n e ps) z h = postfixes_rest ps z (expr_rest e _ h.1).1
  postfixes_rest (S.Call n es ps) z h = postfixes_rest ps z (arguments_rest true es _ h.1).1
  postfixes_rest (S.Select n a w ps) z h = postfixes_rest ps z h.1.1
  postfixes_rest (S.Step n op ps) z h = postfixes_rest ps z h.1

  pub arguments_rest : (first : Bool) (es : Arguments) (z : List Symbol) → AreShort (spell_arguments first es z) → AreShort z
  arguments_rest first S.NoArgument z h = h
  arguments_rest first (S.Argument e es) z h = arguments_rest false es z (expr_rest e _ (separated_rest first _ h))

  pub operations_rest : (ops : Operations) (z : List Symbol) → AreShort (spell_operations ops z) → AreShort z
  operations_rest S.NoOperation z h = h
  operations_rest (S.Operation n op e rest) z h = operations_rest rest z (expr_rest e _ h.1)

  pub specifiers_rest : (ss : Specifiers) (z : List Symbol) → AreShort (spell_specifiers ss z) → AreShort z
  specifiers_rest S.NoSpecifier z h = h
  specifiers_rest (S.Storage n c ss) z h = specifiers_rest ss z h.1
  specifiers_rest (S.Qualified n q ss) z h = specifiers_rest ss z h.1
  specifiers_rest (S.Basic n b ss) z h = specifiers_rest ss z h.1
  specifiers_rest (S.TypedefName w ss) z h = specifiers_rest ss z h.1
  specifiers_rest (S.RecordTag n r tag ss) z h = specifiers_rest ss z h.1.1
  specifiers_rest (S.Record n r tag ms ss) z h = specifiers_rest ss z (members_rest ms _ (tag_rest tag _ h.1).1).1
  specifiers_rest (S.EnumTag n tag ss) z h = specifiers_rest ss z h.1.1
  specifiers_rest (S.Enum n tag es ss) z h = specifiers_rest ss z (enumerators_rest true es _ (tag_rest tag _ h.1).1).1

  pub members_rest : (ms : Members) (z : List Symbol) → AreShort (spell_members ms z) → AreShort z
  members_rest S.NoMember z h = h
  members_rest (S.Member ss ds ms) z h = members_rest ms z (member_declarators_rest true ds _ (specifiers_rest ss _ h)).1

  pub member_declarators_rest : (first : Bool) (ds : MemberDeclarators) (z : List Symbol) → AreShort (spell_member_declarators first ds z) → AreShort z
  member_declarators_rest first S.NoMemberDeclarator z h = h
  member_declarators_rest first (S.PlainMember d ds) z h = member_declarators_rest false ds z (declarator_rest d _ (separated_rest first _ h))
  member_declarators_rest first (S.BitField d n e ds) z h = member_declarators_rest false ds z (expr_rest e _ (declarator_rest d _ (separated_rest first _ h)).1)
  member_declarators_rest first (S.Padding n e ds) z h = member_declarators_rest false ds z (expr_rest e _ (separated_rest first _ h).1)

  pub enumerators_rest : (first : Bool) (es : Enumerators) (z : List Symbol) → AreShort (spell_enumerators first es z) → AreShort z
  enumerators_rest first S.NoEnumerator z h = h
  enumerators_rest first (S.PlainEnumerator w es) z h = enumerators_rest false es z (separated_rest first _ h).1
  enumerators_rest first (S.ValuedEnumerator w e es) z h = enumerators_rest false es z (expr_rest e _ (separated_rest first _ h).1.1)

  pub declarator_rest : (d : Declarator) (z : List Symbol) → AreShort (spell_declarator d z) → AreShort z
  declarator_rest (S.Declaring ps core ss) z h = suffixes_rest ss z (core_rest core _ (pointers_rest ps _ h))

  pub core_rest : (core : Core) (z : List Symbol) → AreShort (spell_core core z) → AreShort z
  core_rest S.Absent z h = h
  core_rest (S.Name w) z h = h.1
  core_rest (S.Enclosed n d) z h = (declarator_rest d _ h.1).1

  pub suffixes_rest : (ss : Suffixes) (z : List Symbol) → AreShort (spell_suffixes ss z) → AreShort z
  suffixes_rest S.NoSuffix z h = h
  suffixes_rest (S.Array n e ss) z h = suffixes_rest ss z (expr_rest e _ h.1).1
  suffixes_rest (S.OpenArray n ss) z h = suffixes_rest ss z h.1.1
  suffixes_rest (S.Prototype n ps ss) z h = suffixes_rest ss z (parameters_rest true ps _ h.1).1
  suffixes_rest (S.Variadic n ps ss) z h = suffixes_rest ss z (parameters_rest true ps _ h.1).1.1.1
  suffixes_rest (S.Identifiers n ws ss) z h = suffixes_rest ss z (identifiers_rest true ws _ h.1).1

  pub parameters_rest : (first : Bool) (ps : Parameters) (z : List Symbol) → AreShort (spell_parameters first ps z) → AreShort z
  parameters_rest first S.NoParameter z h = h
  parameters_rest first (S.Parameter ss d ps) z h = parameters_rest false ps z (declarator_rest d _ (specifiers_rest ss _ (separated_rest first _ h)))

pub optional_rest : (o : Option Expr) (z : List Symbol) → AreShort (spell_optional o z) → AreShort z
optional_rest None z h = h
optional_rest (Some e) z h = expr_rest e z h

mutual
  unfolding spell_init

  pub init_rest : (i : Init) (z : List Symbol) → AreShort (spell_init i z) → AreShort z
  init_rest (S.Value e) z h = expr_rest e z h
  init_rest (S.Braces n is trailing) z h = (trailed_rest trailing _ (inits_rest true is _ h.1)).1

  pub inits_rest : (first : Bool) (is : Inits) (z : List Symbol) → AreShort (spell_inits first is z) → AreShort z
  inits_rest first S.NoInit z h = h
  inits_rest first (S.Listed i is) z h = inits_rest false is z (init_rest i _ (separated_rest first _ h))

pub initializer_rest : (i : Option Initializer) (z : List Symbol) → AreShort (spell_initializer i z) → AreShort z
initializer_rest None z h = h
initializer_rest (Some i) z h = init_rest i.init z h.1

pub init_declarators_rest : (first : Bool) (ds : List InitDeclarator) (z : List Symbol) → AreShort (spell_init_declarators first ds z) → AreShort z
init_declarators_rest first [] z h = h
init_declarators_rest first (d ∷ ds) z h = init_declarators_rest false ds z (initializer_rest d.initializer _ (declarator_rest d.declarator _ (separated_rest first _ h)))

pub decl_rest : (d : Decl) (z : List Symbol) → AreShort (spell_decl d z) → AreShort z
decl_rest d z h = (init_declarators_rest true d.declarators _ (specifiers_rest d.specifiers _ h)).1

pub decls_rest : (ds : List Decl) (z : List Symbol) → AreShort (spell_decls ds z) → AreShort z
decls_rest [] z h = h
decls_rest (d ∷ ds) z h = decls_rest ds z (decl_rest d _ h)

pub label_rest : (l : Label) (z : List Symbol) → AreShort (spell_label l z) → AreShort z
label_rest (S.CaseLabel n e) z h = (expr_rest e _ h.1).1
label_rest (S.DefaultLabel n) z h = h.1.1
label_rest (S.NameLabel w) z h = h.1.1

pub labels_rest : (ls : List Label) (z : List Symbol) → AreShort (spell_labels ls z) → AreShort z
labels_rest [] z h = h
labels_rest (l ∷ ls) z h = labels_rest ls z (label_rest l _ h)

mutual
  unfolding spell_stmt

  pub stmt_rest : (st : Stmt) (z : List Symbol) → AreShort (spell_stmt st z) → AreShort z
  stmt_rest (S.Compound b) z h = block_rest b z h
  stmt_rest (S.Expression e) z h = (expr_rest e _ h).1
  stmt_rest (S.Empty n) z h = h.1
  stmt_rest (S.Labeled ls st) z h = stmt_rest st z (labels_rest ls _ h)
  stmt_rest (S.If n c st a) z h = alternative_rest a z (stmt_rest st _ (expr_rest c _ h.1.1).1)
  stmt_rest (S.Switch n e st) z h = stmt_rest st z (expr_rest e _ h.1.1).1
  stmt_rest (S.While n e st) z h = stmt_rest st z (expr_rest e _ h.1.1).1
  stmt_rest (S.Do n st e) z h = (expr_rest e _ (stmt_rest st _ h.1).1.1).1.1
  stmt_rest (S.For n a b c st) z h = stmt_rest st z (optional_rest c _ (optional_rest b _ (optional_rest a _ h.1.1).1).1).1
  stmt_rest (S.Goto n w) z h = h.1.1.1
  stmt_rest (S.Return n e) z h = (optional_rest e _ h.1).1
  stmt_rest _ z h = h.1.1

  pub alternative_rest : (a : Alternative) (z : List Symbol) → AreShort (spell_alternative a z) → AreShort z
  alternative_rest S.NoElse z h = h
  alternative_rest (S.Otherwise st) z h = stmt_rest st z h.1
  alternative_rest (S.ElseIf n c st a) z h = alternative_rest a z (stmt_rest st _ (expr_rest c _ h.1.1.1).1)

  pub block_rest : (b : Block) (z : List Symbol) → AreShort (spell_block b z) → AreShort z
  block_rest (S.Braced n ds ss) z h = (stmts_rest ss _ (decls_rest ds _ h.1)).1

  pub stmts_rest : (ss : Stmts) (z : List Symbol) → AreShort (spell_stmts ss z) → AreShort z
  stmts_rest S.NoStmt z h = h
  stmts_rest (S.Next st ss) z h = stmts_rest ss z (stmt_rest st _ h)
