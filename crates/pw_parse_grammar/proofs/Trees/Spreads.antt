-- What a tree declares does not hang on the names before it.
use Rattle.std.proofs.Common.{◌≡◌, Bool, false, List, [], ◌∷◌, ◌++◌, Option, Some, None, refl, ap, ◌∙◌}
use Rattle.pw_tree.specs.Scopes.{Env, declare_plain, declare_plains, declare_name, declare, has_typedef, name_of, enter_first, after_expr, after_postfixes, after_arguments, after_operations, after_specifiers, after_members, after_member_declarators, after_enumerators, after_declarator, after_core, after_suffixes, after_parameter, after_parameters, after_optional, after_init, after_inits, after_initializer, after_name, after_init_declarators, after_decl, after_decls, after_label, after_labels, after_stmt, after_alternative, after_external}
use Rattle.pw_tree.specs.Trees.{Word, Expr, Identifier, Number, Floating, Character, Wide, Strings, Paren, Postfix, Unary, SizeofType, Cast, Chain, Conditional, Assign, Postfixes, NoPostfix, Index, Call, Select, Step, Arguments, NoArgument, Argument, Operations, NoOperation, Operation, Specifiers, NoSpecifier, Storage, Qualified, Basic, TypedefName, RecordTag, Record, EnumTag, Enum, Members, NoMember, Member, MemberDeclarators, NoMemberDeclarator, PlainMember, BitField, Padding, Enumerators, NoEnumerator, PlainEnumerator, ValuedEnumerator, Declarator, Declaring, Core, Absent, Name, Enclosed, Suffixes, NoSuffix, Array, OpenArray, Prototype, Variadic, Identifiers, Parameters, NoParameter, Parameter, Init, Value, Braces, Inits, NoInit, Listed, Initializer, InitDeclarator, Decl, Label, CaseLabel, DefaultLabel, NameLabel, Stmt, Expression, Labeled, If, Switch, While, Do, For, Return, Alternative, NoElse, Otherwise, ElseIf, External, Definition, Declaration}

pub spreads-declare_plain : (more env : Env) (x : Word) → declare_plain x (more ++ env) ≡ declare_plain x more ++ env
spreads-declare_plain more env w = refl

pub spreads-declare_plains : (more env : Env) (x : List Word) → declare_plains x (more ++ env) ≡ declare_plains x more ++ env
spreads-declare_plains more env [] = refl
spreads-declare_plains more env (w ∷ ws) = ap (λ v. declare_plains ws v) (spreads-declare_plain more env w) ∙ spreads-declare_plains (declare_plain w more) env ws

pub spreads-declare_name : (more env : Env) (x : Bool) (y : Option Word) → declare_name x y (more ++ env) ≡ declare_name x y more ++ env
spreads-declare_name more env is_typedef None = refl
spreads-declare_name more env is_typedef (Some w) = refl

pub spreads-declare : (more env : Env) (x : Specifiers) (y : Declarator) → declare x y (more ++ env) ≡ declare x y more ++ env
spreads-declare more env ss d = spreads-declare_name more env (has_typedef ss) (name_of d)

mutual
  unfolding after_expr

  pub spreads-expr : (more env : Env) (x : Expr) → after_expr (more ++ env) x ≡ after_expr more x ++ env
  spreads-expr more env (Identifier w) = refl
  spreads-expr more env (Number w) = refl
  spreads-expr more env (Floating w) = refl
  spreads-expr more env (Character w) = refl
  spreads-expr more env (Wide w) = refl
  spreads-expr more env (Strings ws) = refl
  spreads-expr more env (Paren n e) = spreads-expr more env e
  spreads-expr more env (Postfix e ps) = ap (λ v. after_postfixes v ps) (spreads-expr more env e) ∙ spreads-postfixes (after_expr more e) env ps
  spreads-expr more env (Unary n op e) = spreads-expr more env e
  spreads-expr more env (SizeofType n ss d) = ap (λ v. after_declarator v d) (spreads-specifiers more env ss) ∙ spreads-declarator (after_specifiers more ss) env d
  spreads-expr more env (Cast n ss d e) = ap (λ v. after_expr (after_declarator v d) e) (spreads-specifiers more env ss) ∙ ap (λ v. after_expr v e) (spreads-declarator (after_specifiers more ss) env d) ∙ spreads-expr (after_declarator (after_specifiers more ss) d) env e
  spreads-expr more env (Chain e ops) = ap (λ v. after_operations v ops) (spreads-expr more env e) ∙ spreads-operations (after_expr more e) env ops
  spreads-expr more env (Conditional n c a b) = ap (λ v. after_expr (after_expr v a) b) (spreads-expr more env c) ∙ ap (λ v. after_expr v b) (spreads-expr (after_expr more c) env a) ∙ spreads-expr (after_expr (after_expr more c) a) env b
  spreads-expr more env (Assign n op l r) = ap (λ v. after_expr v r) (spreads-expr more env l) ∙ spreads-expr (after_expr more l) env r

  pub spreads-postfixes : (more env : Env) (x : Postfixes) → after_postfixes (more ++ env) x ≡ after_postfixes more x ++ env
  spreads-postfixes more env NoPostfix = refl
  spreads-postfixes more env (Index n e ps) = ap (λ v. after_postfixes v ps) (spreads-expr more env e) ∙ spreads-postfixes (after_expr more e) env ps
  spreads-postfixes more env (Call n es ps) = ap (λ v. after_postfixes v ps) (spreads-arguments more env es) ∙ spreads-postfixes (after_arguments more es) env ps
  spreads-postfixes more env (Select n a w ps) = spreads-postfixes more env ps
  spreads-postfixes more env (Step n op ps) = spreads-postfixes more env ps

  pub spreads-arguments : (more env : Env) (x : Arguments) → after_arguments (more ++ env) x ≡ after_arguments more x ++ env
  spreads-arguments more env NoArgument = refl
  spreads-arguments more env (Argument e es) = ap (λ v. after_arguments v es) (spreads-expr more env e) ∙ spreads-arguments (after_expr more e) env es

  pub spreads-operations : (more env : Env) (x : Operations) → after_operations (more ++ env) x ≡ after_operations more x ++ env
  spreads-operations more env NoOperation = refl
  spreads-operations more env (Operation n op e rest) = ap (λ v. after_operations v rest) (spreads-expr more env e) ∙ spreads-operations (after_expr more e) env rest

  pub spreads-specifiers : (more env : Env) (x : Specifiers) → after_specifiers (more ++ env) x ≡ after_specifiers more x ++ env
  spreads-specifiers more env NoSpecifier = refl
  spreads-specifiers more env (Storage n c ss) = spreads-specifiers more env ss
  spreads-specifiers more env (Qualified n q ss) = spreads-specifiers more env ss
  spreads-specifiers more env (Basic n b ss) = spreads-specifiers more env ss
  spreads-specifiers more env (TypedefName w ss) = spreads-specifiers more env ss
  spreads-specifiers more env (RecordTag n r tag ss) = spreads-specifiers more env ss
  spreads-specifiers more env (Record n r tag ms ss) = ap (λ v. after_specifiers v ss) (spreads-members more env ms) ∙ spreads-specifiers (after_members more ms) env ss
  spreads-specifiers more env (EnumTag n tag ss) = spreads-specifiers more env ss
  spreads-specifiers more env (Enum n tag es ss) = ap (λ v. after_specifiers v ss) (spreads-enumerators more env es) ∙ spreads-specifiers (after_enumerators more es) env ss

  pub spreads-members : (more env : Env) (x : Members) → after_members (more ++ env) x ≡ after_members more x ++ env
  spreads-members more env NoMember = refl
  spreads-members more env (Member ss ds ms) = ap (λ v. after_members (after_member_declarators v ds) ms) (spreads-specifiers more env ss) ∙ ap (λ v. after_members v ms) (spreads-member_declarators (after_specifiers more ss) env ds) ∙ spreads-members (after_member_declarators (after_specifiers more ss) ds) env ms

  pub spreads-member_declarators : (more env : Env) (x : MemberDeclarators) → after_member_declarators (more ++ env) x ≡ after_member_declarators more x ++ env
  spreads-member_declarators more env NoMemberDeclarator = refl
  spreads-member_declarators more env (PlainMember d ds) = ap (λ v. after_member_declarators v ds) (spreads-declarator more env d) ∙ spreads-member_declarators (after_declarator more d) env ds
  spreads-member_declarators more env (BitField d n e ds) = ap (λ v. after_member_declarators (after_expr v e) ds) (spreads-declarator more env d) ∙ ap (λ v. after_member_declarators v ds) (spreads-expr (after_declarator more d) env e) ∙ spreads-member_declarators (after_expr (after_declarator more d) e) env ds
  spreads-member_declarators more env (Padding n e ds) = ap (λ v. after_member_declarators v ds) (spreads-expr more env e) ∙ spreads-member_declarators (after_expr more e) env ds

  pub spreads-enumerators : (more env : Env) (x : Enumerators) → after_enumerators (more ++ env) x ≡ after_enumerators more x ++ env
  spreads-enumerators more env NoEnumerator = refl
  spreads-enumerators more env (PlainEnumerator w es) = ap (λ v. after_enumerators v es) (spreads-declare_plain more env w) ∙ spreads-enumerators (declare_plain w more) env es
  spreads-enumerators more env (ValuedEnumerator w e es) = ap (λ v. after_enumerators (declare_plain w v) es) (spreads-expr more env e) ∙ ap (λ v. after_enumerators v es) (spreads-declare_plain (after_expr more e) env w) ∙ spreads-enumerators (declare_plain w (after_expr more e)) env es

  pub spreads-declarator : (more env : Env) (x : Declarator) → after_declarator (more ++ env) x ≡ after_declarator more x ++ env
  spreads-declarator more env (Declaring ps core ss) = ap (λ v. after_suffixes v ss) (spreads-core more env core) ∙ spreads-suffixes (after_core more core) env ss

  pub spreads-core : (more env : Env) (x : Core) → after_core (more ++ env) x ≡ after_core more x ++ env
  spreads-core more env Absent = refl
  spreads-core more env (Name w) = refl
  spreads-core more env (Enclosed n d) = spreads-declarator more env d

  pub spreads-suffixes : (more env : Env) (x : Suffixes) → after_suffixes (more ++ env) x ≡ after_suffixes more x ++ env
  spreads-suffixes more env NoSuffix = refl
  spreads-suffixes more env (Array n e ss) = ap (λ v. after_suffixes v ss) (spreads-expr more env e) ∙ spreads-suffixes (after_expr more e) env ss
  spreads-suffixes more env (OpenArray n ss) = spreads-suffixes more env ss
  spreads-suffixes more env (Prototype n ps ss) = spreads-suffixes more env ss
  spreads-suffixes more env (Variadic n ps ss) = spreads-suffixes more env ss
  spreads-suffixes more env (Identifiers n ws ss) = spreads-suffixes more env ss

pub spreads-parameter : (more env : Env) (x : Specifiers) (y : Declarator) → after_parameter (more ++ env) x y ≡ after_parameter more x y ++ env
spreads-parameter more env ss d = ap (λ v. declare_name false (name_of d) (after_declarator v d)) (spreads-specifiers more env ss) ∙ ap (λ v. declare_name false (name_of d) v) (spreads-declarator (after_specifiers more ss) env d) ∙ spreads-declare_name (after_declarator (after_specifiers more ss) d) env false (name_of d)

pub spreads-parameters : (more env : Env) (x : Parameters) → after_parameters (more ++ env) x ≡ after_parameters more x ++ env
spreads-parameters more env NoParameter = refl
spreads-parameters more env (Parameter ss d ps) = ap (λ v. after_parameters v ps) (spreads-parameter more env ss d) ∙ spreads-parameters (after_parameter more ss d) env ps

pub spreads-optional : (more env : Env) (x : Option Expr) → after_optional (more ++ env) x ≡ after_optional more x ++ env
spreads-optional more env None = refl
spreads-optional more env (Some e) = spreads-expr more env e

mutual
  unfolding after_init

  pub spreads-init : (more env : Env) (x : Init) → after_init (more ++ env) x ≡ after_init more x ++ env
  spreads-init more env (Value e) = spreads-expr more env e
  spreads-init more env (Braces n is trailing) = spreads-inits more env is

  pub spreads-inits : (more env : Env) (x : Inits) → after_inits (more ++ env) x ≡ after_inits more x ++ env
  spreads-inits more env NoInit = refl
  spreads-inits more env (Listed i is) = ap (λ v. after_inits v is) (spreads-init more env i) ∙ spreads-inits (after_init more i) env is

pub spreads-initializer : (more env : Env) (x : Option Initializer) → after_initializer (more ++ env) x ≡ after_initializer more x ++ env
spreads-initializer more env None = refl
spreads-initializer more env (Some i) = spreads-init more env i.init

pub spreads-name : (more env : Env) (x : Specifiers) (y : Declarator) → after_name (more ++ env) x y ≡ after_name more x y ++ env
spreads-name more env ss d = ap (λ v. declare ss d v) (spreads-declarator more env d) ∙ spreads-declare (after_declarator more d) env ss d

pub spreads-init_declarators : (more env : Env) (x : Specifiers) (y : List InitDeclarator) → after_init_declarators (more ++ env) x y ≡ after_init_declarators more x y ++ env
spreads-init_declarators more env ss [] = refl
spreads-init_declarators more env ss (d ∷ ds) = ap (λ v. after_init_declarators (after_initializer v d.initializer) ss ds) (spreads-name more env ss d.declarator) ∙ ap (λ v. after_init_declarators v ss ds) (spreads-initializer (after_name more ss d.declarator) env d.initializer) ∙ spreads-init_declarators (after_initializer (after_name more ss d.declarator) d.initializer) env ss ds

pub spreads-decl : (more env : Env) (x : Decl) → after_decl (more ++ env) x ≡ after_decl more x ++ env
spreads-decl more env d = ap (λ v. after_init_declarators v d.specifiers d.declarators) (spreads-specifiers more env d.specifiers) ∙ spreads-init_declarators (after_specifiers more d.specifiers) env d.specifiers d.declarators

pub spreads-decls : (more env : Env) (x : List Decl) → after_decls (more ++ env) x ≡ after_decls more x ++ env
spreads-decls more env [] = refl
spreads-decls more env (d ∷ ds) = ap (λ v. after_decls v ds) (spreads-decl more env d) ∙ spreads-decls (after_decl more d) env ds

pub spreads-label : (more env : Env) (x : Label) → after_label (more ++ env) x ≡ after_label more x ++ env
spreads-label more env (CaseLabel n e) = spreads-expr more env e
spreads-label more env (DefaultLabel n) = refl
spreads-label more env (NameLabel w) = refl

pub spreads-labels : (more env : Env) (x : List Label) → after_labels (more ++ env) x ≡ after_labels more x ++ env
spreads-labels more env [] = refl
spreads-labels more env (l ∷ ls) = ap (λ v. after_labels v ls) (spreads-label more env l) ∙ spreads-labels (after_label more l) env ls

mutual
  unfolding after_stmt

  pub spreads-stmt : (more env : Env) (x : Stmt) → after_stmt (more ++ env) x ≡ after_stmt more x ++ env
  spreads-stmt more env (Expression e) = spreads-expr more env e
  spreads-stmt more env (Labeled ls s) = ap (λ v. after_stmt v s) (spreads-labels more env ls) ∙ spreads-stmt (after_labels more ls) env s
  spreads-stmt more env (If n c s a) = ap (λ v. after_alternative (after_stmt v s) a) (spreads-expr more env c) ∙ ap (λ v. after_alternative v a) (spreads-stmt (after_expr more c) env s) ∙ spreads-alternative (after_stmt (after_expr more c) s) env a
  spreads-stmt more env (Switch n e s) = ap (λ v. after_stmt v s) (spreads-expr more env e) ∙ spreads-stmt (after_expr more e) env s
  spreads-stmt more env (While n e s) = ap (λ v. after_stmt v s) (spreads-expr more env e) ∙ spreads-stmt (after_expr more e) env s
  spreads-stmt more env (Do n s e) = ap (λ v. after_expr v e) (spreads-stmt more env s) ∙ spreads-expr (after_stmt more s) env e
  spreads-stmt more env (For n a b c s) = ap (λ v. after_stmt (after_optional (after_optional v b) c) s) (spreads-optional more env a) ∙ ap (λ v. after_stmt (after_optional v c) s) (spreads-optional (after_optional more a) env b) ∙ ap (λ v. after_stmt v s) (spreads-optional (after_optional (after_optional more a) b) env c) ∙ spreads-stmt (after_optional (after_optional (after_optional more a) b) c) env s
  spreads-stmt more env (Return n e) = spreads-optional more env e
  spreads-stmt more env _ = refl

  pub spreads-alternative : (more env : Env) (x : Alternative) → after_alternative (more ++ env) x ≡ after_alternative more x ++ env
  spreads-alternative more env NoElse = refl
  spreads-alternative more env (Otherwise s) = spreads-stmt more env s
  spreads-alternative more env (ElseIf n c s a) = ap (λ v. after_alternative (after_stmt v s) a) (spreads-expr more env c) ∙ ap (λ v. after_alternative v a) (spreads-stmt (after_expr more c) env s) ∙ spreads-alternative (after_stmt (after_expr more c) s) env a

pub spreads-enter_first : (more env : Env) (x : Suffixes) → enter_first (more ++ env) x ≡ enter_first more x ++ env
spreads-enter_first more env NoSuffix = refl
spreads-enter_first more env (Array n e ss) = refl
spreads-enter_first more env (OpenArray n ss) = refl
spreads-enter_first more env (Prototype n ps ss) = spreads-parameters more env ps
spreads-enter_first more env (Variadic n ps ss) = spreads-parameters more env ps
spreads-enter_first more env (Identifiers n ws ss) = spreads-declare_plains more env ws

pub spreads-external : (more env : Env) (x : External) → after_external (more ++ env) x ≡ after_external more x ++ env
spreads-external more env (Definition f) = ap (λ v. after_name v f.specifiers f.declarator) (spreads-specifiers more env f.specifiers) ∙ spreads-name (after_specifiers more f.specifiers) env f.specifiers f.declarator
spreads-external more env (Declaration d) = spreads-decl more env d
