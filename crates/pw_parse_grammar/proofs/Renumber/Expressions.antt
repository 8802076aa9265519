-- Expressions, specifiers and declarators that are well formed are so with the numbers of their tokens.
use Rattle.std.proofs.Common.{◌≡◌, ℕ, ◌≤◌, Bool, true, false, Option, Some, None, sym, ap, ◌∙◌, subst}
use Rattle.pw_tree.specs.Levels.{primary, unary, cast, logical_or, conditional, assignment}
use Rattle.pw_tree.specs.Scopes.{Env, is_typedef_name, declare_plain}
use Rattle.pw_tree.specs.Trees.{Expr, Identifier, Number, Floating, Character, Wide, Strings, Paren, Postfix, Unary, SizeofType, Cast, Chain, Conditional, Assign, Postfixes, NoPostfix, Index, Call, Select, Step, Arguments, NoArgument, Argument, Operations, NoOperation, Operation, Specifiers, NoSpecifier, Storage, Qualified, Basic, TypedefName, RecordTag, Record, EnumTag, Enum, Members, NoMember, Member, MemberDeclarators, NoMemberDeclarator, PlainMember, BitField, Padding, Enumerators, NoEnumerator, PlainEnumerator, ValuedEnumerator, Declarator, Declaring, Core, Absent, Name, Enclosed, Suffixes, NoSuffix, Array, OpenArray, Prototype, Variadic, Identifiers, Parameters, NoParameter, Parameter}
use Rattle.pw_tree.specs.WellFormed.{Place, Named, Nameless, Either, NotTypedef, operand_level, WellFormed, WellFormedPostfixes, WellFormedArguments, WellFormedOperations, WellFormedSpecifiers, WellFormedMembers, WellFormedMemberDeclarators, WellFormedEnumerators, WellFormedDeclarator, WellFormedCore, WellFormedSuffixes, WellFormedParameters, WellFormedOptional}
use Rattle.pw_parse_grammar.specs.TokenNumbers.{number_expr, number_postfixes, number_arguments, number_operations, number_specifiers, number_members, number_member_declarators, number_enumerators, number_declarator, number_core, number_suffixes, number_parameters, number_optional}
use Rattle.pw_parse_grammar.proofs.Renumber.Scopes.{keeps-type, declares-parameter, declares-expr, declares-arguments, declares-specifiers, declares-members, declares-member_declarators, declares-enumerators, declares-declarator, declares-core}
use Rattle.pw_parse_grammar.proofs.Renumber.Shapes.{keeps-chain, keeps-level, keeps-name, below, may-enclose, none-typedef, may-declare, has-identifier, has-string, has-postfix, has-specifier, has-member, has-member_declarator, has-enumerator, has-parameter, no-storage, is-something}

mutual
  unfolding WellFormed number_expr

  pub well-expr : (x : Expr) (n : ℕ) {env env2 : Env} → env ≡ env2 → WellFormed env x → WellFormed env2 (number_expr n x)
  well-expr (Identifier w) start same h = subst (λ v. NotTypedef v w) same h
  well-expr (Number w) start same h = tt
  well-expr (Floating w) start same h = tt
  well-expr (Character w) start same h = tt
  well-expr (Wide w) start same h = tt
  well-expr (Strings ws) start same h = has-string ws _ h
  well-expr (Paren n e) start same h = well-expr e _ same h
  well-expr (Postfix e ps) start same h = (subst (λ v. v ≤ primary) (keeps-level e _) h.0, well-expr e _ same h.1, has-postfix ps _ h.2, well-postfixes ps _ (declares-expr e _ same) h.3)
  well-expr (Unary n op e) start same h = (subst (λ v. v ≤ operand_level op) (keeps-level e _) h.0, well-expr e _ same h.1)
  well-expr (SizeofType n ss d) start same h = (has-specifier ss _ h.0, no-storage ss _ h.1, well-specifiers ss _ false same h.2, well-declarator d _ Nameless (declares-specifiers ss _ same) (keeps-type ss _) h.3)
  well-expr (Cast n ss d e) start same h = (has-specifier ss _ h.0, no-storage ss _ h.1, well-specifiers ss _ false same h.2, well-declarator d _ Nameless (declares-specifiers ss _ same) (keeps-type ss _) h.3, subst (λ v. v ≤ cast) (keeps-level e _) h.4, well-expr e _ (declares-declarator d _ (declares-specifiers ss _ same)) h.5)
  well-expr (Chain e ops) start same h = (below (keeps-level e _) (keeps-chain ops _) h.0, well-expr e _ same h.1, well-operations ops _ (declares-expr e _ same) (keeps-chain ops _) h.2)
  well-expr (Conditional n c a b) start same h = (subst (λ v. v ≤ logical_or) (keeps-level c _) h.0, well-expr c _ same h.1, well-expr a _ (declares-expr c _ same) h.2, subst (λ v. v ≤ conditional) (keeps-level b _) h.3, well-expr b _ (declares-expr a _ (declares-expr c _ same)) h.4)
  well-expr (Assign n op l r) start same h = (subst (λ v. v ≤ unary) (keeps-level l _) h.0, well-expr l _ same h.1, subst (λ v. v ≤ assignment) (keeps-level r _) h.2, well-expr r _ (declares-expr l _ same) h.3)

  pub well-postfixes : (x : Postfixes) (n : ℕ) {env env2 : Env} → env ≡ env2 → WellFormedPostfixes env x → WellFormedPostfixes env2 (number_postfixes n x)
  well-postfixes NoPostfix start same h = tt
  well-postfixes (Index n e ps) start same h = (well-expr e _ same h.0, well-postfixes ps _ (declares-expr e _ same) h.1)
  well-postfixes (Call n es ps) start same h = (well-arguments es _ _ same h.0, well-postfixes ps _ (declares-arguments es _ _ same) h.1)
  well-postfixes (Select n a w ps) start same h = well-postfixes ps _ same h
  well-postfixes (Step n op ps) start same h = well-postfixes ps _ same h

  pub well-arguments : (x : Arguments) (first : Bool) (n : ℕ) {env env2 : Env} → env ≡ env2 → WellFormedArguments env x → WellFormedArguments env2 (number_arguments first n x)
  well-arguments NoArgument first start same h = tt
  well-arguments (Argument e es) first start same h = (subst (λ v. v ≤ assignment) (keeps-level e _) h.0, well-expr e _ same h.1, well-arguments es _ _ (declares-expr e _ same) h.2)

  pub well-operations : (x : Operations) (n : ℕ) {env env2 : Env} {k k2 : ℕ} → env ≡ env2 → k ≡ k2 → WellFormedOperations env k x → WellFormedOperations env2 k2 (number_operations n x)
  well-operations NoOperation start same leveled h = tt
  well-operations (Operation n op e rest) start same leveled h = (h.0 ∙ leveled, below (keeps-level e _) leveled h.1, well-expr e _ same h.2, well-operations rest _ (declares-expr e _ same) leveled h.3)

  pub well-specifiers : (x : Specifiers) (n : ℕ) (typed : Bool) {env env2 : Env} → env ≡ env2 → WellFormedSpecifiers env typed x → WellFormedSpecifiers env2 typed (number_specifiers n x)
  well-specifiers NoSpecifier start typed same h = tt
  well-specifiers (Storage n c ss) start typed same h = well-specifiers ss _ typed same h
  well-specifiers (Qualified n q ss) start typed same h = well-specifiers ss _ typed same h
  well-specifiers (Basic n b ss) start typed same h = well-specifiers ss _ true same h
  well-specifiers (TypedefName w ss) start typed same h = (h.0, subst (λ v. is_typedef_name v w.text ≡ true) same h.1, well-specifiers ss _ true same h.2)
  well-specifiers (RecordTag n r tag ss) start typed same h = well-specifiers ss _ true same h
  well-specifiers (Record n r tag ms ss) start typed same h = (has-member ms _ h.0, well-members ms _ same h.1, well-specifiers ss _ true (declares-members ms _ same) h.2)
  well-specifiers (EnumTag n tag ss) start typed same h = well-specifiers ss _ true same h
  well-specifiers (Enum n tag es ss) start typed same h = (has-enumerator es _ h.0, well-enumerators es _ _ same h.1, well-specifiers ss _ true (declares-enumerators es _ _ same) h.2)

  pub well-members : (x : Members) (n : ℕ) {env env2 : Env} → env ≡ env2 → WellFormedMembers env x → WellFormedMembers env2 (number_members n x)
  well-members NoMember start same h = tt
  well-members (Member ss ds ms) start same h = (has-specifier ss _ h.0, no-storage ss _ h.1, well-specifiers ss _ false same h.2, has-member_declarator ds _ h.3, well-member_declarators ds _ _ (declares-specifiers ss _ same) (keeps-type ss _) h.4, well-members ms _ (declares-member_declarators ds _ _ (declares-specifiers ss _ same)) h.5)

  pub well-member_declarators : (x : MemberDeclarators) (first : Bool) (n : ℕ) {env env2 : Env} {typed typed2 : Bool} → env ≡ env2 → typed ≡ typed2 → WellFormedMemberDeclarators env typed x → WellFormedMemberDeclarators env2 typed2 (number_member_declarators first n x)
  well-member_declarators NoMemberDeclarator first start same typing h = tt
  well-member_declarators (PlainMember d ds) first start same typing h = (well-declarator d _ Named same typing h.0, well-member_declarators ds _ _ (declares-declarator d _ same) typing h.1)
  well-member_declarators (BitField d n e ds) first start same typing h = (well-declarator d _ Named same typing h.0, subst (λ v. v ≤ conditional) (keeps-level e _) h.1, well-expr e _ (declares-declarator d _ same) h.2, well-member_declarators ds _ _ (declares-expr e _ (declares-declarator d _ same)) typing h.3)
  well-member_declarators (Padding n e ds) first start same typing h = (subst (λ v. v ≤ conditional) (keeps-level e _) h.0, well-expr e _ same h.1, well-member_declarators ds _ _ (declares-expr e _ same) typing h.2)

  pub well-enumerators : (x : Enumerators) (first : Bool) (n : ℕ) {env env2 : Env} → env ≡ env2 → WellFormedEnumerators env x → WellFormedEnumerators env2 (number_enumerators first n x)
  well-enumerators NoEnumerator first start same h = tt
  well-enumerators (PlainEnumerator w es) first start same h = well-enumerators es _ _ (ap (declare_plain w) same) h
  well-enumerators (ValuedEnumerator w e es) first start same h = (subst (λ v. v ≤ conditional) (keeps-level e _) h.0, well-expr e _ same h.1, well-enumerators es _ _ (ap (declare_plain w) (declares-expr e _ same)) h.2)

  pub well-declarator : (x : Declarator) (n : ℕ) (place : Place) {env env2 : Env} {typed typed2 : Bool} → env ≡ env2 → typed ≡ typed2 → WellFormedDeclarator env typed place x → WellFormedDeclarator env2 typed2 place (number_declarator n x)
  well-declarator (Declaring ps core ss) start place same typing h = (well-core core _ place same typing h.0, well-suffixes ss _ (declares-core core _ same) (keeps-name core _) h.1)

  pub well-core : (x : Core) (n : ℕ) (place : Place) {env env2 : Env} {typed typed2 : Bool} → env ≡ env2 → typed ≡ typed2 → WellFormedCore env typed place x → WellFormedCore env2 typed2 place (number_core n x)
  well-core Absent start Named same typing h = h
  well-core Absent start Nameless same typing h = tt
  well-core Absent start Either same typing h = tt
  well-core (Name w) start Named same typing h = may-declare w same typing h
  well-core (Name w) start Nameless same typing h = h
  well-core (Name w) start Either same typing h = may-declare w same typing h
  well-core (Enclosed n d) start Named same typing h = (is-something d _ h.0, tt, well-declarator d _ Named same typing h.2)
  well-core (Enclosed n d) start Nameless same typing h = (is-something d _ h.0, tt, well-declarator d _ Nameless same typing h.2)
  well-core (Enclosed n d) start Either same typing h = (is-something d _ h.0, may-enclose Either d _ same h.1, well-declarator d _ Either same typing h.2)

  pub well-suffixes : (x : Suffixes) (n : ℕ) {env env2 : Env} {named named2 : Bool} → env ≡ env2 → named ≡ named2 → WellFormedSuffixes env named x → WellFormedSuffixes env2 named2 (number_suffixes n x)
  well-suffixes NoSuffix start same naming h = tt
  well-suffixes (Array n e ss) start same naming h = (subst (λ v. v ≤ conditional) (keeps-level e _) h.0, well-expr e _ same h.1, well-suffixes ss _ (declares-expr e _ same) naming h.2)
  well-suffixes (OpenArray n ss) start same naming h = well-suffixes ss _ same naming h
  well-suffixes (Prototype n ps ss) start same naming h = (well-parameters ps _ _ same h.0, well-suffixes ss _ same naming h.1)
  well-suffixes (Variadic n ps ss) start same naming h = (has-parameter ps _ h.0, well-parameters ps _ _ same h.1, well-suffixes ss _ same naming h.2)
  well-suffixes (Identifiers n ws ss) start same naming h = (sym naming ∙ h.0, has-identifier ws _ h.1, none-typedef ws _ _ same h.2, well-suffixes ss _ same naming h.3)

  pub well-parameters : (x : Parameters) (first : Bool) (n : ℕ) {env env2 : Env} → env ≡ env2 → WellFormedParameters env x → WellFormedParameters env2 (number_parameters first n x)
  well-parameters NoParameter first start same h = tt
  well-parameters (Parameter ss d ps) first start same h = (has-specifier ss _ h.0, well-specifiers ss _ false same h.1, well-declarator d _ Either (declares-specifiers ss _ same) (keeps-type ss _) h.2, well-parameters ps _ _ (declares-parameter ss d _ _ same) h.3)

pub well-optional : (x : Option Expr) (n : ℕ) {env env2 : Env} → env ≡ env2 → WellFormedOptional env x → WellFormedOptional env2 (number_optional n x)
well-optional None start same h = tt
well-optional (Some e) start same h = well-expr e _ same h
