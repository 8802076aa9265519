-- What well-formedness asks of a tree's shape is kept by a tree with the numbers of its tokens.
use Rattle.std.proofs.Common.{◌≡◌, ℕ, ◌<◌, Bool, true, false, List, [], ◌∷◌, refl, sym, ◌∙◌, subst}
use Rattle.pw_tree.specs.Levels.{level, chain_level}
use Rattle.pw_tree.specs.Scopes.{Env}
use Rattle.pw_tree.specs.Trees.{Word, Expr, Identifier, Number, Floating, Character, Wide, Strings, Paren, Postfix, Unary, SizeofType, Cast, Chain, Conditional, Assign, Postfixes, NoPostfix, Index, Call, Select, Step, Operations, NoOperation, Operation, Specifiers, NoSpecifier, Storage, Qualified, Basic, TypedefName, RecordTag, Record, EnumTag, Enum, Members, NoMember, Member, MemberDeclarators, NoMemberDeclarator, PlainMember, BitField, Padding, Enumerators, NoEnumerator, PlainEnumerator, ValuedEnumerator, Declarator, Declaring, Core, Absent, Name, Enclosed, NoSuffix, Array, OpenArray, Prototype, Variadic, Identifiers, Parameters, NoParameter, Parameter, Inits, NoInit, Listed, Label, Stmt, Labeled, If, Switch, While, For, Alternative, NoElse, Otherwise, ElseIf, External}
use Rattle.pw_tree.specs.WellFormed.{Place, Named, Nameless, Either, is_named, has_name, NotEmpty, HasPostfix, HasSpecifier, HasMember, HasMemberDeclarator, HasEnumerator, HasParameter, HasInit, NotTypedef, NoneTypedef, MayDeclare, NoStorage, IsSomething, begins_with_typedef, MayEnclose, NotLabeled, NotIf, ends_open, alternative_ends_open, MayPrecede}
use Rattle.pw_parse_grammar.specs.TokenNumbers.{number_identifiers, number_strings, number_expr, number_postfixes, number_operations, number_specifiers, number_members, number_member_declarators, number_enumerators, number_declarator, number_core, number_parameters, number_init, number_inits, number_labels, number_stmt, number_alternative, number_externals}

-- ---- levels

pub keeps-chain : (x : Operations) (n : ℕ) → chain_level x ≡ chain_level (number_operations n x)
unfolding number_expr
keeps-chain NoOperation start = refl
keeps-chain (Operation n op e rest) start = refl

pub keeps-level : (x : Expr) (n : ℕ) → level x ≡ level (number_expr n x)
unfolding number_expr
keeps-level (Identifier w) start = refl
keeps-level (Number w) start = refl
keeps-level (Floating w) start = refl
keeps-level (Character w) start = refl
keeps-level (Wide w) start = refl
keeps-level (Strings ws) start = refl
keeps-level (Paren n e) start = refl
keeps-level (Postfix e ps) start = refl
keeps-level (Unary n op e) start = refl
keeps-level (SizeofType n ss d) start = refl
keeps-level (Cast n ss d e) start = refl
keeps-level (Chain e ops) start = keeps-chain ops _
keeps-level (Conditional n c a b) start = refl
keeps-level (Assign n op l r) start = refl

pub below : {a b c d : ℕ} → a ≡ b → c ≡ d → a < c → b < d
below {a = a} {d = d} p q h = subst (λ v. v < d) p (subst (λ v. a < v) q h)

-- ---- lists that are not empty

pub has-postfix : (x : Postfixes) (n : ℕ) → HasPostfix x → HasPostfix (number_postfixes n x)
unfolding number_expr
has-postfix NoPostfix start h = h
has-postfix (Index n e ps) start h = tt
has-postfix (Call n es ps) start h = tt
has-postfix (Select n a w ps) start h = tt
has-postfix (Step n op ps) start h = tt

pub has-specifier : (x : Specifiers) (n : ℕ) → HasSpecifier x → HasSpecifier (number_specifiers n x)
unfolding number_expr
has-specifier NoSpecifier start h = h
has-specifier (Storage n c ss) start h = tt
has-specifier (Qualified n q ss) start h = tt
has-specifier (Basic n b ss) start h = tt
has-specifier (TypedefName w ss) start h = tt
has-specifier (RecordTag n r tag ss) start h = tt
has-specifier (Record n r tag ms ss) start h = tt
has-specifier (EnumTag n tag ss) start h = tt
has-specifier (Enum n tag es ss) start h = tt

pub has-member : (x : Members) (n : ℕ) → HasMember x → HasMember (number_members n x)
unfolding number_expr
has-member NoMember start h = h
has-member (Member ss ds ms) start h = tt

pub has-member_declarator : (x : MemberDeclarators) (n : ℕ) → HasMemberDeclarator x → HasMemberDeclarator (number_member_declarators true n x)
unfolding number_expr
has-member_declarator NoMemberDeclarator start h = h
has-member_declarator (PlainMember d ds) start h = tt
has-member_declarator (BitField d n e ds) start h = tt
has-member_declarator (Padding n e ds) start h = tt

pub has-enumerator : (x : Enumerators) (n : ℕ) → HasEnumerator x → HasEnumerator (number_enumerators true n x)
unfolding number_expr
has-enumerator NoEnumerator start h = h
has-enumerator (PlainEnumerator w es) start h = tt
has-enumerator (ValuedEnumerator w e es) start h = tt

pub has-parameter : (x : Parameters) (n : ℕ) → HasParameter x → HasParameter (number_parameters true n x)
unfolding number_expr
has-parameter NoParameter start h = h
has-parameter (Parameter ss d ps) start h = tt

pub has-init : (x : Inits) (n : ℕ) → HasInit x → HasInit (number_inits true n x)
unfolding number_init
has-init NoInit start h = h
has-init (Listed i is) start h = tt

pub has-identifier : (x : List Word) (n : ℕ) → NotEmpty x → NotEmpty (number_identifiers true n x)
has-identifier [] start h = h
has-identifier (w ∷ ws) start h = tt

pub has-string : (x : List Word) (n : ℕ) → NotEmpty x → NotEmpty (number_strings n x)
has-string [] start h = h
has-string (w ∷ ws) start h = tt

pub has-label : (x : List Label) (n : ℕ) → NotEmpty x → NotEmpty (number_labels n x)
has-label [] start h = h
has-label (l ∷ ls) start h = tt

pub has-external : (x : List External) (n : ℕ) → NotEmpty x → NotEmpty (number_externals n x)
has-external [] start h = h
has-external (e ∷ es) start h = tt

-- ---- specifiers and declarators

pub no-storage : (x : Specifiers) (n : ℕ) → NoStorage x → NoStorage (number_specifiers n x)
unfolding number_expr
no-storage NoSpecifier start h = h
no-storage (Storage n c ss) start h = h
no-storage (Qualified n q ss) start h = no-storage ss _ h
no-storage (Basic n b ss) start h = no-storage ss _ h
no-storage (TypedefName w ss) start h = no-storage ss _ h
no-storage (RecordTag n r tag ss) start h = no-storage ss _ h
no-storage (Record n r tag ms ss) start h = no-storage ss _ h
no-storage (EnumTag n tag ss) start h = no-storage ss _ h
no-storage (Enum n tag es ss) start h = no-storage ss _ h

pub is-something : (x : Declarator) (n : ℕ) → IsSomething x → IsSomething (number_declarator n x)
unfolding number_expr
is-something (Declaring [] Absent NoSuffix) start h = h
is-something (Declaring [] Absent (Array n e ss)) start h = tt
is-something (Declaring [] Absent (OpenArray n ss)) start h = tt
is-something (Declaring [] Absent (Prototype n qs ss)) start h = tt
is-something (Declaring [] Absent (Variadic n qs ss)) start h = tt
is-something (Declaring [] Absent (Identifiers n ws ss)) start h = tt
is-something (Declaring [] (Name w) ss) start h = tt
is-something (Declaring [] (Enclosed n d) ss) start h = tt
is-something (Declaring (p ∷ ps) core ss) start h = tt

keeps-begins : (env : Env) (x : Declarator) (n : ℕ) → begins_with_typedef env x ≡ begins_with_typedef env (number_declarator n x)
unfolding number_expr
keeps-begins env (Declaring [] Absent ss) start = refl
keeps-begins env (Declaring [] (Name w) ss) start = refl
keeps-begins env (Declaring [] (Enclosed n d) ss) start = refl
keeps-begins env (Declaring (p ∷ ps) core ss) start = refl

pub may-enclose : (place : Place) (x : Declarator) (n : ℕ) {env env2 : Env} → env ≡ env2 → MayEnclose env place x → MayEnclose env2 place (number_declarator n x)
may-enclose Named d start same h = h
may-enclose Nameless d start same h = h
may-enclose Either d start {env = env} same h = subst (λ v. begins_with_typedef v (number_declarator start d) ≡ false) same (sym (keeps-begins env d start) ∙ h)

mutual
  unfolding number_expr

  pub keeps-named : (x : Declarator) (n : ℕ) → is_named x ≡ is_named (number_declarator n x)
  keeps-named (Declaring ps core ss) start = keeps-name core _

  pub keeps-name : (x : Core) (n : ℕ) → has_name x ≡ has_name (number_core n x)
  keeps-name Absent start = refl
  keeps-name (Name w) start = refl
  keeps-name (Enclosed n d) start = keeps-named d _

pub none-typedef : (x : List Word) (first : Bool) (n : ℕ) {env env2 : Env} → env ≡ env2 → NoneTypedef env x → NoneTypedef env2 (number_identifiers first n x)
none-typedef [] first start same h = h
none-typedef (w ∷ ws) first start same h = (subst (λ v. NotTypedef v w) same h.0, none-typedef ws _ _ same h.1)

pub may-declare : (w : Word) {env env2 : Env} {typed typed2 : Bool} → env ≡ env2 → typed ≡ typed2 → MayDeclare env typed w → MayDeclare env2 typed2 w
may-declare w {env = env} {typed2 = typed2} same typing h = subst (λ v. MayDeclare v typed2 w) same (subst (λ v. MayDeclare env v w) typing h)

-- ---- statements

pub not-labeled : (x : Stmt) (n : ℕ) → NotLabeled x → NotLabeled (number_stmt n x)
unfolding number_stmt
not-labeled (Labeled ls s) start h = h
not-labeled _ start h = tt

pub not-if : (x : Stmt) (n : ℕ) → NotIf x → NotIf (number_stmt n x)
unfolding number_stmt
not-if (If n c s a) start h = h
not-if _ start h = tt

mutual
  unfolding number_stmt

  keeps-open : (x : Stmt) (n : ℕ) → ends_open x ≡ ends_open (number_stmt n x)
  keeps-open (Labeled ls s) start = keeps-open s _
  keeps-open (If n c s a) start = keeps-open_alternative a _
  keeps-open (Switch n e s) start = keeps-open s _
  keeps-open (While n e s) start = keeps-open s _
  keeps-open (For n a b c s) start = keeps-open s _
  keeps-open _ start = refl

  keeps-open_alternative : (x : Alternative) (n : ℕ) → alternative_ends_open x ≡ alternative_ends_open (number_alternative n x)
  keeps-open_alternative NoElse start = refl
  keeps-open_alternative (Otherwise s) start = keeps-open s _
  keeps-open_alternative (ElseIf n c s a) start = keeps-open_alternative a _

pub may-precede : (s : Stmt) (x : Alternative) (m n : ℕ) → MayPrecede s x → MayPrecede (number_stmt m s) (number_alternative n x)
unfolding number_stmt
may-precede s NoElse m start h = h
may-precede s (Otherwise t) m start h = sym (keeps-open s m) ∙ h
may-precede s (ElseIf n c t a) m start h = sym (keeps-open s m) ∙ h
