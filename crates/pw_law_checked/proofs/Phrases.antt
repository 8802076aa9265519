-- Expressions, specifiers and declarators: by induction over the tree, what each rule makes of a lawful state is lawful, and the
-- operands of expressions are good.
use Rattle.std.specs.Prelude.{ℕ, true, false, Option, None, Some, List, [], ◌∷◌, ◌++◌, map}
use Rattle.std.specs.Option.{option_or}
use Rattle.std.proofs.Common.{inl, inr}
use Rattle.pw_tree.specs.declared.expr.BasicType.TheVariants as W
use Rattle.pw_tree.specs.declared.expr.Qualifier.{Qualifier}
use Rattle.pw_tree.specs.declared.expr.Qualifier.TheVariants as R
use Rattle.pw_tree.specs.declared.operator.Access.TheVariants.{Dot, Arrow}
use Rattle.pw_tree.specs.declared.operator.StepOperator.TheVariants as J
use Rattle.pw_tree.specs.declared.operator.UnaryOperator.TheVariants as P
use Rattle.pw_tree.specs.FirstTokens.{first_of_expr}
use Rattle.pw_tree.specs.Trees.{Expr, Postfixes, Arguments, Operations, Specifiers, Members, MemberDeclarators, Enumerators, Declarator, Core, Suffixes, Parameters, Word}
use Rattle.pw_tree.specs.Trees as S
use Rattle.pw_types.specs.declared.tree.StepOperator.TheVariants as Q
use Rattle.pw_types.specs.TypeTrees.{QType, type_of, MemberValue, RecordValue}
use Rattle.pw_types.specs.TypedTrees.{Expression}
use Rattle.pw_check_walk.specs.Walks.{Walk, bind}
use Rattle.pw_check_rules.specs.Kinds.{int_type}
use Rattle.pw_check_rules.specs.Operands.{Operand}
use Rattle.pw_check_rules.specs.Operators.{value_rule}
use Rattle.pw_check_rules.specs.States.{State, one_deeper, Entity}
use Rattle.pw_check_rules.specs.SpecifierLists.{Gathered, nothing_gathered, gather_storage, gather_qualifier, gather_word, gather_type, Specified}
use Rattle.pw_check_rules.specs.Derivations.{Bindings, Derivation, ToArray, ToFunction, Suffixed, ParameterValue, pointer_step, spot_of}
use Rattle.pw_check_rules.specs.Leaves.{record_kind, record_spot, is_last, parameter_types, first_of_list, first_of_declaration}
use Rattle.pw_check_rules.specs.Phrases.{expr_rule, postfixes_rule, arguments_rule, operations_rule, specifiers_rule, members_rule, member_declarators_rule, enumerators_rule, declarator_rule, core_rule, suffixes_rule, parameters_rule}
use Rattle.pw_law_checked.specs.Lawful.{IsLawful, IsLawfulType}
use Rattle.pw_law_checked.proofs.Walking.{post_bind, post_weaken}
use Rattle.pw_law_checked.proofs.Lists.{never_some}
use Rattle.pw_law_checked.proofs.States.{Fine, FineValue, fine_later, value_later, Runs, goes_on, Widely, widely, goes_widely, then_widely, Grows, grows_same, grows_trans, widens_so}
use Rattle.pw_law_checked.proofs.Types.{no, lawful_later}
use Rattle.pw_law_checked.proofs.Operations.{value_runs, plus_runs, minus_runs, complement_runs, not_runs, deref_runs, address_runs, step_runs, Whole, size_runs, type_size_runs, cast_runs, operation_runs, conditional_runs, assignment_runs, index_runs, AreFine, call_runs, dot_runs, arrow_runs}
use Rattle.pw_law_checked.proofs.Changes.{in_sizeof, sizeof_lawful, uncounted_runs, deeper_lawful, scoped_runs, Opened, opened_later}
use Rattle.pw_law_checked.proofs.Leaves.{identifier_runs, number_runs, character_runs, string_runs, Nothing, length_runs, enumerator_value_runs, enumerator_name_runs, enumerator_runs, enumerating_runs, GoodType, enumeration_runs, GoodReference, reference_runs, opening_runs, GoodMembers, closing_runs, GoodTypes, types_later, types_more, GoodGathered, GoodSpecified, specified_runs, typedef_runs, GoodSteps, steps_later, steps_more, GoodDeclared, named_type_runs, members_later, member_runs, parameter_storage_runs, AreScalars, scalars_later, GoodParameters, parameter_runs, GoodBindings, GoodIfAny, bindings_later, scalars_types, bindings_runs}

-- an operand, and then its value
pub valued : {B : Type 0} {s : State} (w : Walk (Operand × State)) (next : Expression × State → Walk (B × State)) (Best : State → B → Type 0) → Runs s w Fine
    → ((r : Expression × State) → IsLawful r.1 → Grows s r.1 → FineValue r.1 r.0 → Runs r.1 (next r) Best)
    → Runs s (bind w (λ t. bind (value_rule t.0 t.1) next)) Best
valued {B} {s} w next Best h k =
    goes_on w (λ t. bind (value_rule t.0 t.1) next) Fine Best h
    (λ r l g f. goes_on (value_rule r.0 r.1) next FineValue Best (value_runs r.1 r.0 l f) (λ u m j v. k u m (grows_trans g j) v))

-- what was good before is good behind
pub all_fine_later : {s t : State} → Grows s t → (es : List Expression) → AreFine s es → AreFine t es
all_fine_later g [] h = tt
all_fine_later {s} {t} g (e ∷ es) h = (value_later {s = s} {t = t} {e = e} g h.0, all_fine_later g es h.1)

qualifier_gathered : (s : State) (q : Qualifier) (g : Gathered) → GoodGathered s g → GoodGathered s (gather_qualifier q g)
qualifier_gathered s R.Const g h = h
qualifier_gathered s R.Volatile g h = h

abbrev pub GoodSuffixed : State → Suffixed → Type 0
GoodSuffixed s c = GoodSteps s.types.records c.derivations × GoodIfAny s.types.records s.scopes.entities c.bindings

pointer_steps : (r : List RecordValue) (ps : List S.Pointer) → GoodSteps r (map pointer_step ps)
pointer_steps r [] = tt
pointer_steps r (p ∷ ps) = (tt, pointer_steps r ps)

pub later_type : {s t : State} (q : QType) → Grows s t → IsLawfulType s.types.records (type_of q) → IsLawfulType t.types.records (type_of q)
later_type {s} {t} q g h = lawful_later s.types.records t.types.records g.extends (type_of q) h

later_types : {s t : State} (qs : List QType) → Grows s t → GoodTypes s.types.records qs → GoodTypes t.types.records qs
later_types {s} {t} qs g h = types_later s.types.records t.types.records g.extends qs h

later_steps : {s t : State} (ds : List Derivation) → Grows s t → GoodSteps s.types.records ds → GoodSteps t.types.records ds
later_steps {s} {t} ds g h = steps_later s.types.records t.types.records g.extends ds h

either_bindings : (r : List RecordValue) (es : List Entity) (a b : Option Bindings) → GoodIfAny r es a → GoodIfAny r es b → GoodIfAny r es (option_or a b)
either_bindings r es None b h k = k
either_bindings r es (Some x) b h k = h

pub scalars_only : (r : List RecordValue) (ps : List ParameterValue) → GoodParameters r false ps → AreScalars r ps
scalars_only r ps (inl h) = h
scalars_only r ps (inr h) = no h.1

mutual
  unfolding expr_rule

  pub expr_post : (e : Expr) (s : State) → IsLawful s → Runs s (expr_rule e s) Fine
  expr_post (S.Identifier w) s l = identifier_runs s w l
  expr_post (S.Number w) s l = number_runs s w l
  expr_post (S.Floating w) s l = tt
  expr_post (S.Character w) s l = character_runs s w l
  expr_post (S.Wide w) s l = tt
  expr_post (S.Strings ws) s l = string_runs s ws l
  expr_post (S.Paren t e) s l = expr_post e s l
  expr_post (S.Postfix e rest) s l = goes_on _ _ Fine Fine (expr_post e s l) (λ r m g f. postfixes_post rest r.0 r.1 m f)
  expr_post (S.Unary t P.Sizeof e) s l =
      goes_on _ _ Nothing Fine
      (uncounted_runs s (expr_rule e) (λ a. Unit {0})
      (post_weaken (expr_rule e (in_sizeof s)) (λ r. IsLawful r.1 × Grows (in_sizeof s) r.1 × Fine r.1 r.0) (λ r. IsLawful r.1 × Grows (in_sizeof s) r.1 × Unit {0})
      (expr_post e (in_sizeof s) (sizeof_lawful s l)) (λ r h. (h.0, h.1, tt))))
      (λ r m g f. size_runs r.1 t r.0 m)
  expr_post (S.Unary t P.Address e) s l = goes_on _ _ Fine Fine (expr_post e s l) (λ r m g f. address_runs r.1 t r.0 m f)
  expr_post (S.Unary t P.Increment e) s l = goes_on _ _ Fine Fine (expr_post e s l) (λ r m g f. step_runs r.1 t Q.IncrementBefore r.0 m f)
  expr_post (S.Unary t P.Decrement e) s l = goes_on _ _ Fine Fine (expr_post e s l) (λ r m g f. step_runs r.1 t Q.DecrementBefore r.0 m f)
  expr_post (S.Unary t P.Dereference e) s l = valued _ _ Fine (expr_post e s l) (λ r m g f. deref_runs r.1 t r.0 m f)
  expr_post (S.Unary t P.Plus e) s l = valued _ _ Fine (expr_post e s l) (λ r m g f. plus_runs r.1 t r.0 m f)
  expr_post (S.Unary t P.Minus e) s l = valued _ _ Fine (expr_post e s l) (λ r m g f. minus_runs r.1 t r.0 m f)
  expr_post (S.Unary t P.Complement e) s l = valued _ _ Fine (expr_post e s l) (λ r m g f. complement_runs r.1 t r.0 m f)
  expr_post (S.Unary t P.Not e) s l = valued _ _ Fine (expr_post e s l) (λ r m g f. not_runs r.1 t r.0 m f)
  expr_post (S.SizeofType t specifiers d) s l =
      post_weaken _ (λ r. IsLawful r.1 × Grows s r.1 × Whole r.0) (λ r. IsLawful r.1 × Grows s r.1 × Fine r.1 r.0)
      (uncounted_runs s _ Whole
      (goes_on _ _ GoodGathered (λ u a. Whole a) (specifiers_post specifiers (first_of_declaration specifiers d) nothing_gathered (in_sizeof s) (sizeof_lawful s l) tt) (λ r1 m1 g1 f1.
      goes_on _ _ GoodSpecified (λ u a. Whole a) (specified_runs r1.1 (first_of_declaration specifiers d) r1.0 m1 f1) (λ r2 m2 g2 f2.
      goes_on _ _ GoodDeclared (λ u a. Whole a) (declarator_post d r2.1 m2) (λ r3 m3 g3 f3.
      goes_on _ _ GoodType (λ u a. Whole a) (named_type_runs r3.1 r2.0 r3.0 m3 (later_type r2.0.ty g3 f2) f3) (λ r4 m4 g4 f4.
      type_size_runs r4.1 t (spot_of None r2.0.first r2.0.tag) r4.0 m4))))))
      (λ r h. (h.0, h.1, λ m locals d w. h.2 m locals w))
  expr_post (S.Cast t specifiers d e) s l =
      goes_on _ _ GoodGathered Fine (specifiers_post specifiers (first_of_declaration specifiers d) nothing_gathered s l tt) (λ r1 m1 g1 f1.
      goes_on _ _ GoodSpecified Fine (specified_runs r1.1 (first_of_declaration specifiers d) r1.0 m1 f1) (λ r2 m2 g2 f2.
      goes_on _ _ GoodDeclared Fine (declarator_post d r2.1 m2) (λ r3 m3 g3 f3.
      goes_on _ _ GoodType Fine (named_type_runs r3.1 r2.0 r3.0 m3 (later_type r2.0.ty g3 f2) f3) (λ r4 m4 g4 f4.
      valued _ _ Fine (expr_post e r4.1 m4) (λ r5 m5 g5 f5. cast_runs r5.1 t r4.0 r5.0 m5 (later_type r4.0 g5 f4) f5)))))
  expr_post (S.Chain e rest) s l = goes_on _ _ Fine Fine (expr_post e s l) (λ r m g f. operations_post rest r.0 r.1 m f)
  expr_post (S.Conditional t c a b) s l =
      valued _ _ Fine (expr_post c s l) (λ r1 m1 g1 f1.
      valued _ _ Fine (expr_post a r1.1 m1) (λ r2 m2 g2 f2.
      valued _ _ Fine (expr_post b r2.1 m2) (λ r3 m3 g3 f3.
      conditional_runs r3.1 t r1.0 r2.0 r3.0 m3 (value_later {s = r1.1} {t = r3.1} {e = r1.0} (grows_trans g2 g3) f1) (value_later {s = r2.1} {t = r3.1} {e = r2.0} g3 f2) f3)))
  expr_post (S.Assign t op a b) s l =
      goes_on _ _ Fine Fine (expr_post a s l) (λ r1 m1 g1 f1.
      valued _ _ Fine (expr_post b r1.1 m1) (λ r2 m2 g2 f2.
      assignment_runs r2.1 t op r1.0 r2.0 m2 (fine_later {s = r1.1} {t = r2.1} {a = r1.0} g2 f1) f2))

  postfixes_post : (rest : Postfixes) (a : Operand) (s : State) → IsLawful s → Fine s a → Runs s (postfixes_rule rest a s) Fine
  postfixes_post S.NoPostfix a s l f = (l, grows_same s, f)
  postfixes_post (S.Index t e rest) a s l f =
      goes_on _ _ FineValue Fine (value_runs s a l f) (λ r1 m1 g1 f1.
      valued _ _ Fine (expr_post e r1.1 m1) (λ r2 m2 g2 f2.
      goes_on _ _ Fine Fine (index_runs r2.1 t r1.0 r2.0 m2 (value_later {s = r1.1} {t = r2.1} {e = r1.0} g2 f1) f2) (λ r3 m3 g3 f3.
      postfixes_post rest r3.0 r3.1 m3 f3)))
  postfixes_post (S.Call t args rest) a s l f =
      goes_on _ _ FineValue Fine (value_runs s a l f) (λ r1 m1 g1 f1.
      goes_on _ _ AreFine Fine (arguments_post args r1.1 m1) (λ r2 m2 g2 f2.
      goes_on _ _ Fine Fine (call_runs r2.1 t r1.0 r2.0 m2 (value_later {s = r1.1} {t = r2.1} {e = r1.0} g2 f1) f2) (λ r3 m3 g3 f3.
      postfixes_post rest r3.0 r3.1 m3 f3)))
  postfixes_post (S.Select t Dot w rest) a s l f =
      goes_on _ _ Fine Fine (dot_runs s t w a l f) (λ r m g h. postfixes_post rest r.0 r.1 m h)
  postfixes_post (S.Select t Arrow w rest) a s l f =
      goes_on _ _ FineValue Fine (value_runs s a l f) (λ r1 m1 g1 f1.
      goes_on _ _ Fine Fine (arrow_runs r1.1 t w r1.0 m1 f1) (λ r2 m2 g2 f2. postfixes_post rest r2.0 r2.1 m2 f2))
  postfixes_post (S.Step t J.Increment rest) a s l f =
      goes_on _ _ Fine Fine (step_runs s t Q.IncrementBehind a l f) (λ r m g h. postfixes_post rest r.0 r.1 m h)
  postfixes_post (S.Step t J.Decrement rest) a s l f =
      goes_on _ _ Fine Fine (step_runs s t Q.DecrementBehind a l f) (λ r m g h. postfixes_post rest r.0 r.1 m h)

  pub arguments_post : (args : Arguments) (s : State) → IsLawful s → Runs s (arguments_rule args s) AreFine
  arguments_post S.NoArgument s l = (l, grows_same s, tt)
  arguments_post (S.Argument e rest) s l =
      valued _ _ AreFine (expr_post e s l) (λ r1 m1 g1 f1.
      goes_on _ _ AreFine AreFine (arguments_post rest r1.1 m1) (λ r2 m2 g2 f2.
      (m2, grows_same r2.1, (value_later {s = r1.1} {t = r2.1} {e = r1.0} g2 f1, f2))))

  operations_post : (rest : Operations) (a : Operand) (s : State) → IsLawful s → Fine s a → Runs s (operations_rule rest a s) Fine
  operations_post S.NoOperation a s l f = (l, grows_same s, f)
  operations_post (S.Operation t op e rest) a s l f =
      goes_on _ _ FineValue Fine (value_runs s a l f) (λ r1 m1 g1 f1.
      valued _ _ Fine (expr_post e r1.1 m1) (λ r2 m2 g2 f2.
      goes_on _ _ Fine Fine (operation_runs r2.1 t op r1.0 r2.0 m2 (value_later {s = r1.1} {t = r2.1} {e = r1.0} g2 f1) f2) (λ r3 m3 g3 f3.
      operations_post rest r3.0 r3.1 m3 f3)))

  pub specifiers_post : (specifiers : Specifiers) (first : ℕ) (g : Gathered) (s : State) → IsLawful s → GoodGathered s g
      → Runs s (specifiers_rule specifiers first g s) GoodGathered
  specifiers_post S.NoSpecifier first g s l h = (l, grows_same s, h)
  specifiers_post (S.Storage t storage rest) first g s l h = specifiers_post rest first (gather_storage storage g) s l h
  specifiers_post (S.Qualified t qualifier rest) first g s l h =
      specifiers_post rest first (gather_qualifier qualifier g) s l (qualifier_gathered s qualifier g h)
  specifiers_post (S.Basic t W.Float rest) first g s l h = tt
  specifiers_post (S.Basic t W.Double rest) first g s l h = tt
  specifiers_post (S.Basic t W.Void rest) first g s l h = specifiers_post rest first (gather_word W.Void g) s l h
  specifiers_post (S.Basic t W.Char rest) first g s l h = specifiers_post rest first (gather_word W.Char g) s l h
  specifiers_post (S.Basic t W.Short rest) first g s l h = specifiers_post rest first (gather_word W.Short g) s l h
  specifiers_post (S.Basic t W.Int rest) first g s l h = specifiers_post rest first (gather_word W.Int g) s l h
  specifiers_post (S.Basic t W.Long rest) first g s l h = specifiers_post rest first (gather_word W.Long g) s l h
  specifiers_post (S.Basic t W.Signed rest) first g s l h = specifiers_post rest first (gather_word W.Signed g) s l h
  specifiers_post (S.Basic t W.Unsigned rest) first g s l h = specifiers_post rest first (gather_word W.Unsigned g) s l h
  specifiers_post (S.TypedefName w rest) first g s l h =
      goes_on _ _ GoodType GoodGathered (typedef_runs s w l) (λ r m x f.
      specifiers_post rest first (gather_type r.0 None g) r.1 m (types_more r.1.types.records g.others r.0 (later_types g.others x h) f))
  specifiers_post (S.RecordTag t kind w rest) first g s l h =
      goes_on _ _ GoodReference GoodGathered (reference_runs s (record_kind kind) w l) (λ r m x f.
      specifiers_post rest first (gather_type r.0.0 r.0.1 g) r.1 m (types_more r.1.types.records g.others r.0.0 (later_types g.others x h) f))
  specifiers_post (S.Record t kind w members rest) first g s l h =
      post_bind _ _ (λ r. IsLawful r.1 × Grows s r.1 × Opened s r.1 (record_kind kind) r.0) (λ r. IsLawful r.1 × Grows s r.1 × GoodGathered r.1 r.0) (opening_runs s (record_kind kind) w l) (λ r1 h1.
      post_bind _ _ (λ r. IsLawful r.1 × Grows r1.1 r.1 × GoodMembers r.1 r.0) (λ r. IsLawful r.1 × Grows s r.1 × GoodGathered r.1 r.0)
      (members_post members [] r1.1 h1.0 (λ i m e. never_some e)) (λ r2 h2.
      post_bind _ _ (λ r. IsLawful r.1 × Grows s r.1 × GoodType r.1 r.0) (λ r. IsLawful r.1 × Grows s r.1 × GoodGathered r.1 r.0)
      (closing_runs s r2.1 (record_kind kind) (record_spot w first) r1.0 r2.0 h2.0 (grows_trans h1.1 h2.1) (opened_later {s = s} {t = r1.1} {u = r2.1} {kind = record_kind kind} {n = r1.0} h2.1 h1.2) h2.2) (λ r3 h3.
      post_weaken _ (λ r. IsLawful r.1 × Grows r3.1 r.1 × GoodGathered r.1 r.0) (λ r. IsLawful r.1 × Grows s r.1 × GoodGathered r.1 r.0)
      (specifiers_post rest first (gather_type r3.0 None g) r3.1 h3.0 (types_more r3.1.types.records g.others r3.0 (later_types g.others h3.1 h) h3.2))
      (λ u k. (k.0, grows_trans h3.1 k.1, k.2)))))
  specifiers_post (S.EnumTag t w rest) first g s l h =
      goes_on _ _ GoodType GoodGathered (enumeration_runs s w l) (λ r m x f.
      specifiers_post rest first (gather_type r.0 None g) r.1 m (types_more r.1.types.records g.others r.0 (later_types g.others x h) f))
  specifiers_post (S.Enum t w enumerators rest) first g s l h =
      goes_on _ _ Nothing GoodGathered
      (goes_on _ _ Nothing Nothing (enumerating_runs s w l) (λ r m x f. enumerators_post enumerators (Some 0) r.1 m)) (λ r m x f.
      specifiers_post rest first (gather_type int_type None g) r.1 m (types_more r.1.types.records g.others int_type (later_types g.others x h) tt))

  members_post : (members : Members) (ms : List MemberValue) (s : State) → IsLawful s → GoodMembers s ms → Runs s (members_rule members ms s) GoodMembers
  members_post S.NoMember ms s l h = (l, grows_same s, h)
  members_post (S.Member specifiers ds rest) ms s l h =
      goes_on _ _ GoodGathered GoodMembers (specifiers_post specifiers (first_of_list specifiers) nothing_gathered s l tt) (λ r1 m1 g1 f1.
      goes_on _ _ GoodSpecified GoodMembers (specified_runs r1.1 (first_of_list specifiers) r1.0 m1 f1) (λ r2 m2 g2 f2.
      goes_on _ _ GoodMembers GoodMembers
      (member_declarators_post ds r2.0 ms r2.1 m2 f2 (members_later ms (grows_trans g1 g2) h)) (λ r3 m3 g3 f3.
      members_post rest r3.0 r3.1 m3 f3)))

  member_declarators_post : (ds : MemberDeclarators) (b : Specified) (ms : List MemberValue) (s : State) → IsLawful s → GoodSpecified s b → GoodMembers s ms
      → Runs s (member_declarators_rule ds b ms s) GoodMembers
  member_declarators_post S.NoMemberDeclarator b ms s l k h = (l, grows_same s, h)
  member_declarators_post (S.PlainMember d rest) b ms s l k h =
      goes_on _ _ GoodDeclared GoodMembers (declarator_post d s l) (λ r1 m1 g1 f1.
      goes_on _ _ GoodMembers GoodMembers (member_runs r1.1 b r1.0 ms m1 (later_type b.ty g1 k) f1 (members_later ms g1 h)) (λ r2 m2 g2 f2.
      member_declarators_post rest b r2.0 r2.1 m2 (later_type b.ty (grows_trans g1 g2) k) f2))
  member_declarators_post (S.BitField d t e rest) b ms s l k h = goes_on _ _ GoodDeclared GoodMembers (declarator_post d s l) (λ r m g f. tt)
  member_declarators_post (S.Padding t e rest) b ms s l k h = tt

  enumerators_post : (enumerators : Enumerators) (value : Option ℕ) (s : State) → IsLawful s → Runs s (enumerators_rule enumerators value s) Nothing
  enumerators_post S.NoEnumerator value s l = (l, grows_same s, tt)
  enumerators_post (S.PlainEnumerator w rest) value s l =
      goes_on _ _ Nothing Nothing (enumerator_runs s w value l) (λ r m g f. enumerators_post rest r.0 r.1 m)
  enumerators_post (S.ValuedEnumerator w e rest) value s l =
      goes_on _ _ Nothing Nothing (enumerator_name_runs s w l) (λ r0 m0 g0 f0.
      valued _ _ Nothing (expr_post e r0.1 m0) (λ r1 m1 g1 f1.
      goes_on _ _ Nothing Nothing (enumerator_value_runs r1.1 (first_of_expr e) r1.0 m1) (λ r2 m2 g2 f2.
      goes_on _ _ Nothing Nothing (enumerator_runs r2.1 w (Some r2.0) m2) (λ r3 m3 g3 f3. enumerators_post rest r3.0 r3.1 m3))))

  pub declarator_post : (d : Declarator) (s : State) → IsLawful s → Runs s (declarator_rule d s) GoodDeclared
  declarator_post (S.Declaring pointers core suffixes) s l =
      goes_on _ _ GoodDeclared GoodDeclared (core_post core s l) (λ r1 m1 g1 f1.
      goes_on _ _ GoodSuffixed GoodDeclared (suffixes_post suffixes r1.1 m1) (λ r2 m2 g2 f2. (
        m2,
        grows_same r2.1,
        (
          steps_more r2.1.types.records (map pointer_step pointers) (r2.0.derivations ++ r1.0.derivations) (pointer_steps r2.1.types.records pointers)
              (steps_more r2.1.types.records r2.0.derivations r1.0.derivations f2.0 (later_steps r1.0.derivations g2 f1.0)),
          either_bindings r2.1.types.records r2.1.scopes.entities r1.0.bindings r2.0.bindings (bindings_later r1.1.types.records r2.1.types.records r1.1.scopes.entities r2.1.scopes.entities g2.extends g2.entities r1.0.bindings f1.1) f2.1,
        ),
      )))

  pub core_post : (core : Core) (s : State) → IsLawful s → Runs s (core_rule core s) GoodDeclared
  core_post S.Absent s l = (l, grows_same s, (tt, tt))
  core_post (S.Name w) s l = (l, grows_same s, (tt, tt))
  core_post (S.Enclosed t d) s l = declarator_post d s l

  pub suffixes_post : (suffixes : Suffixes) (s : State) → IsLawful s → Runs s (suffixes_rule suffixes s) GoodSuffixed
  suffixes_post S.NoSuffix s l = (l, grows_same s, (tt, tt))
  suffixes_post (S.Array t e rest) s l =
      valued _ _ GoodSuffixed (expr_post e s l) (λ r1 m1 g1 f1.
      goes_on _ _ Nothing GoodSuffixed (length_runs r1.1 (first_of_expr e) r1.0 m1) (λ r2 m2 g2 f2.
      goes_on _ _ GoodSuffixed GoodSuffixed (suffixes_post rest r2.1 m2) (λ r3 m3 g3 f3.
      (m3, grows_same r3.1, (steps_more r3.1.types.records r3.0.derivations (ToArray (Some r2.0) ∷ []) f3.0 (tt, tt), f3.1)))))
  suffixes_post (S.OpenArray t rest) s l =
      goes_on _ _ GoodSuffixed GoodSuffixed (suffixes_post rest s l) (λ r m g f.
      (m, grows_same r.1, (steps_more r.1.types.records r.0.derivations (ToArray None ∷ []) f.0 (tt, tt), f.1)))
  suffixes_post (S.Prototype t parameters rest) s l =
      goes_on _ _ (λ u b. GoodBindings u.types.records u.scopes.entities b) GoodSuffixed
      (scoped_runs s _ GoodBindings l
      (goes_widely _ _ (λ u ps. GoodParameters u.types.records true ps) (λ u b. GoodBindings u.types.records u.scopes.entities b)
      (parameters_post parameters [] (one_deeper s) (deeper_lawful s l) (inl tt))
      (λ r m g f. widely _ _ (λ u b. GoodBindings u.types.records u.scopes.entities b) (bindings_runs r.1 s true r.0 m l g f)))) (λ r1 m1 g1 f1.
      goes_on _ _ GoodSuffixed GoodSuffixed (suffixes_post rest r1.1 m1) (λ r2 m2 g2 f2. (
        m2,
        grows_same r2.1,
        (
          steps_more r2.1.types.records r2.0.derivations (ToFunction (parameter_types r1.0.parameters) ∷ []) f2.0
              (scalars_types r2.1.types.records r1.0.parameters (scalars_later r1.1.types.records r2.1.types.records g2.extends r1.0.parameters f1.scalars), tt),
          bindings_later r1.1.types.records r2.1.types.records r1.1.scopes.entities r2.1.scopes.entities g2.extends g2.entities (Some r1.0) f1,
        ),
      )))
  suffixes_post (S.Variadic t parameters rest) s l = tt
  suffixes_post (S.Identifiers t ws rest) s l = tt

  pub parameters_post : (rest : Parameters) (ps : List ParameterValue) (s : State) → IsLawful s → GoodParameters s.types.records (is_last rest) ps
      → Widely s (parameters_rule rest ps s) (λ u x. GoodParameters u.types.records true x)
  parameters_post S.NoParameter ps s l h = (l, widens_so (grows_same s), h)
  parameters_post (S.Parameter specifiers d rest) ps s l h =
      then_widely _ _ GoodGathered (λ u x. GoodParameters u.types.records true x)
      (specifiers_post specifiers (first_of_declaration specifiers d) nothing_gathered s l tt) (λ r1 m1 g1 f1.
      then_widely _ _ GoodSpecified (λ u x. GoodParameters u.types.records true x)
      (specified_runs r1.1 (first_of_declaration specifiers d) r1.0 m1 f1) (λ r2 m2 g2 f2.
      then_widely _ _ GoodDeclared (λ u x. GoodParameters u.types.records true x)
      (goes_on _ _ Nothing GoodDeclared (parameter_storage_runs r2.1 r2.0 m2) (λ r m g f. declarator_post d r.1 m)) (λ r3 m3 g3 f3.
      goes_widely _ _ (λ u x. GoodParameters u.types.records (is_last rest) x) (λ u x. GoodParameters u.types.records true x)
      (parameter_runs r3.1 (is_last rest) r2.0 r3.0 ps m3 (later_type r2.0.ty g3 f2) f3
      (scalars_later s.types.records r3.1.types.records (grows_trans g1 (grows_trans g2 g3)).extends ps (scalars_only s.types.records ps h))) (λ r4 m4 g4 f4.
      parameters_post rest r4.0 r4.1 m4 f4))))
