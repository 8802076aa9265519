-- What the code of an expression names the expression names, wherever its code stands.
use Rattle.std.proofs.Common.{◌≡◌, ℕ, ◌⊎◌, inl, inr, Bool, true, false, if◌then◌else◌, Option, None, List, sym, ◌∙◌, subst}
use Rattle.pw_value.specs.declared.value.Kind.{Kind}
use Rattle.pw_types.specs.Kinds.{is_record}
use Rattle.pw_types.specs.TypeTrees.{CType, Void, Array, Record, QType, QTypes, NoType, OneType, type_of}
use Rattle.pw_types.specs.TypedTrees.{Expression, Node, type_at, Number, Str, Local, Global, Function, Unary, Binary, Logic, Cond, Comma, Assign, Compound, Step, Cast, Decay, Member, Deref, Address, Call, CallValue, Expressions, NoExpression, OneExpression, Hidden, LocalValue, ModuleValue}
use Rattle.pw_types.specs.declared.tree.LogicOperator.TheVariants as logic
use Rattle.pw_types.specs.WellTyped.{promoted_type, type_in, IsScalar, IsLvalue, IsTyped, HasForm, AreArguments}
use Rattle.pw_flow.specs.declared.flow.Op.TheVariants as op
use Rattle.pw_flow.specs.declared.flow.End.TheVariants.{Jump}
use Rattle.pw_lower.specs.declared.code.Code.{Code}
use Rattle.pw_lower.specs.Codes.{lowered_as, temp_of, constant, cut_here, value_is}
use Rattle.pw_lower.specs.Operators.{kind_of, step_operator, is_behind}
use Rattle.pw_lower.specs.Expressions.{Home, full_name, shape_at, read, further, stored, copied, scalar_kind, updated, fork, decides, says, gives, is_void, lower, place, arguments}
use Rattle.pw_law_lower.specs.Kept.{Keeps}
use Rattle.pw_law_lower_walk.specs.Folds.{EachNode, EachNodeAmong}
use Rattle.pw_law_lower_walk.specs.Named.{NodeAmong}
use Rattle.pw_law_lower_names.proofs.Backward.{Holds, kept_back, emitted, fresh_back, cut_back, constant_back, combined_back, cast_back, truth_back, unary_back, OfTarget, read_back, further_back, value_at_back, global_named, stored_back, copied_back, updated_back, step_back, fork_back, called_back}

module _ (objects functions : List (List ℕ)) (h : Home) (m : ModuleValue) (locals : List LocalValue) (keeps : (e : Expression) (c : Code) → Keeps c (lower h e c).code) where
  abbrev Names : Expression → Type 0
  Names e = EachNode (NodeAmong objects functions h.name) e

  abbrev Have : Code → Type 0
  Have c = Holds objects functions c

  pub lowered_back : (e : Expression) (c : Code) → Have (lower h e c).code → Have c
  lowered_back e c g = kept_back objects functions c (lower h e c).code (keeps e c) g

  -- by what names an operand, where its code is known
  abbrev Tells : Expression → Type 0
  Tells e = (c : Code) → Have (lower h e c).code → Names e

  and_names : (a b : Expression) (c : Code) → Tells a → Tells b
      → Have
      (let f = fork 1 (lower h a c) in
      let yes = cut_here (Jump f.join) f.if_not (decides f.result (lower h b f.code)) in
      cut_here (Jump f.join) f.join (says f.result 0 yes))
      → Names a × Names b
  and_names a b c first second g =
      let f = fork 1 (lower h a c) in
      let y = lower h b f.code in
      let yes = cut_here (Jump f.join) f.if_not (decides f.result y) in
      let told = cut_back objects functions (Jump f.join) f.join yes.depth (says f.result 0 yes) g in
      let so = cut_back objects functions (Jump f.join) f.if_not (decides f.result y).depth (decides f.result y) (emitted objects functions (op.Const f.result 0) yes told).0 in
      let other = truth_back objects functions f.result (temp_of y) y.code so in
      (first c (fork_back objects functions 1 (lower h a c) (lowered_back b f.code other)), second f.code other)

  or_names : (a b : Expression) (c : Code) → Tells a → Tells b
      → Have
      (let f = fork 1 (lower h a c) in
      let yes = cut_here (Jump f.join) f.if_not (says f.result 1 f.code) in
      cut_here (Jump f.join) f.join (decides f.result (lower h b yes)))
      → Names a × Names b
  or_names a b c first second g =
      let f = fork 1 (lower h a c) in
      let told = says f.result 1 f.code in
      let yes = cut_here (Jump f.join) f.if_not told in
      let y = lower h b yes in
      let other = truth_back objects functions f.result (temp_of y) y.code (cut_back objects functions (Jump f.join) f.join (decides f.result y).depth (decides f.result y) g) in
      let before = (emitted objects functions (op.Const f.result 1) f.code (cut_back objects functions (Jump f.join) f.if_not told.depth told (lowered_back b yes other))).0 in
      (first c (fork_back objects functions 1 (lower h a c) before), second yes other)

  -- by whether the type is void
  cond_names : (v : Bool) (a b d : Expression) (c : Code) → Tells a → Tells b → Tells d
      → Have
      (if v
      then (let f = fork 0 (lower h a c) in
      let yes = cut_here (Jump f.join) f.if_not (lower h b f.code).code in
      lowered_as None (cut_here (Jump f.join) f.join (lower h d yes).code))
      else (let f = fork 1 (lower h a c) in
      let yes = cut_here (Jump f.join) f.if_not (gives f.result (lower h b f.code)) in
      value_is f.result (cut_here (Jump f.join) f.join (gives f.result (lower h d yes))))).code
      → Names a × Names b × Names d
  cond_names true a b d c first second third g =
      let f = fork 0 (lower h a c) in
      let x = lower h b f.code in
      let yes = cut_here (Jump f.join) f.if_not x.code in
      let other = cut_back objects functions (Jump f.join) f.join (lower h d yes).code.depth (lower h d yes).code g in
      let so = cut_back objects functions (Jump f.join) f.if_not x.code.depth x.code (lowered_back d yes other) in
      (first c (fork_back objects functions 0 (lower h a c) (lowered_back b f.code so)), second f.code so, third yes other)
  cond_names false a b d c first second third g =
      let f = fork 1 (lower h a c) in
      let x = lower h b f.code in
      let yes = cut_here (Jump f.join) f.if_not (gives f.result x) in
      let y = lower h d yes in
      let other = (emitted objects functions (op.Copy f.result (temp_of y)) y.code (cut_back objects functions (Jump f.join) f.join (gives f.result y).depth (gives f.result y) g)).0 in
      let so = (emitted objects functions (op.Copy f.result (temp_of x)) x.code (cut_back objects functions (Jump f.join) f.if_not (gives f.result x).depth (gives f.result x) (lowered_back d yes other))).0 in
      (first c (fork_back objects functions 1 (lower h a c) (lowered_back b f.code so)), second f.code so, third yes other)

  -- by whether the type is a record
  assign_names : (v : Bool) (ty : CType) (k : Kind) (a b : Expression) (c : Code) → Tells a → ((c : Code) → Have (place h a c).code → OfTarget objects functions (place h a c).target → Names a) → Tells b
      → Have (if v then copied h.records ty (temp_of (lower h a c)) (lower h b (lower h a c).code) else stored k (place h a c).target (lower h b (place h a c).code)).code → Names a × Names b
  assign_names true ty k a b c first placed second g =
      let x = lower h a c in
      let other = copied_back objects functions h.records ty (temp_of x) (lower h b x.code) g in
      (first c (lowered_back b x.code other), second x.code other)
  assign_names false ty k a b c first placed second g =
      let p = place h a c in
      let other = stored_back objects functions k p.target (lower h b p.code) g in
      (placed c (lowered_back b p.code other.0) other.1, second p.code other.0)

  -- what can be assigned to is no string
  never_string : (ty : CType) (q : QType) (n : Option ℕ) → ty ≡ Array q n → IsScalar ty ⊎ ((number : ℕ) × (ty ≡ Record number)) → ⊥
  never_string ty q n e (inl s) = subst IsScalar e s
  never_string ty q n e (inr s) = (let both : Array q n ≡ Record s.0 = sym e ∙ s.1 in cc)

  mutual
    unfolding lower IsTyped HasForm

    pub expression_names : (e : Expression) → IsTyped m locals e → (c : Code) → Have (lower h e c).code → Names e
    expression_names (Node t y (Number n)) w c g = (tt, tt)
    expression_names (Node t y (Str k)) w c g = ((fresh_back objects functions (λ r. op.AddrGlobal r (full_name h.name (Hidden k)) 0) c g).1, tt)
    expression_names (Node t y (Local k)) w c g = (tt, tt)
    expression_names (Node t y (Global s)) w c g = (global_named objects functions (kind_of (type_of y)) (full_name h.name s) c g, tt)
    expression_names (Node t y (Function s)) w c g = ((fresh_back objects functions (λ r. op.AddrFn r (full_name h.name s)) c g).1, tt)
    expression_names (Node t y (Unary o a)) w c g = (tt, expression_names a w.1.0 c (unary_back objects functions o (temp_of (lower h a c)) (lower h a c).code g))
    expression_names (Node t y (Binary o a b)) w c g =
        let x = lower h a c in
        let z = lower h b x.code in
        let other = combined_back objects functions h.records o (type_of (type_at a)) (type_of (type_at b)) (temp_of x) (temp_of z) z.code g in
        (tt, (expression_names a w.1.0 c (lowered_back b x.code other), expression_names b w.1.1 x.code other))
    expression_names (Node t y (Logic logic.And a b)) w c g = (tt, and_names a b c (λ d. expression_names a w.1.0 d) (λ d. expression_names b w.1.1 d) g)
    expression_names (Node t y (Logic logic.Or a b)) w c g = (tt, or_names a b c (λ d. expression_names a w.1.0 d) (λ d. expression_names b w.1.1 d) g)
    expression_names (Node t y (Cond a b z)) w c g = (tt, cond_names (is_void (type_of y)) a b z c (λ d. expression_names a w.1.0 d) (λ d. expression_names b w.1.1 d) (λ d. expression_names z w.1.2 d) g)
    expression_names (Node t y (Comma a b)) w c g = (tt, (expression_names a w.1.0 c (lowered_back b (lower h a c).code g), expression_names b w.1.1 (lower h a c).code g))
    expression_names (Node t y (Assign a b)) w c g =
        (tt, assign_names (is_record (type_of y)) (type_of y) (scalar_kind (type_of y)) a b c (λ d. expression_names a w.1.0 d) (λ d. place_names a w.1.0 w.1.2.lvalue w.1.2.assigned d) (λ d. expression_names b w.1.1 d) g)
    expression_names (Node t y (Compound o work a b)) w c g =
        let p = place h a c in
        let old = read (scalar_kind (type_of y)) p in
        let other = updated_back objects functions h.records o work (type_of (type_at b)) (scalar_kind (type_of y)) p.target (temp_of old) (lower h b old.code) g in
        let before = read_back objects functions (scalar_kind (type_of y)) p.target p.code (lowered_back b old.code other.0) in
        (tt, (place_names a w.1.0 w.1.2.lvalue w.1.2.assigned c before.0 before.1, expression_names b w.1.1 old.code other.0))
    expression_names (Node t y (Step o a)) w c g =
        let p = place h a c in
        let old = read (scalar_kind (type_of y)) p in
        let one = constant 1 old.code in
        let other = updated_back objects functions h.records (step_operator o) (promoted_type (type_of y)) Void (scalar_kind (type_of y)) p.target (temp_of old) one
        (step_back objects functions (is_behind o) (temp_of old) (updated h.records (step_operator o) (promoted_type (type_of y)) Void (scalar_kind (type_of y)) p.target (temp_of old) one) g) in
        let before = read_back objects functions (scalar_kind (type_of y)) p.target p.code (constant_back objects functions 1 old.code other.0) in
        (tt, place_names a w.1.0 w.1.1.lvalue w.1.1.assigned c before.0 before.1)
    expression_names (Node t y (Cast a)) w c g = (tt, expression_names a w.1.0 c (cast_back objects functions (is_void (type_of y)) (kind_of (type_in a)) (kind_of (type_of y)) (lower h a c) g))
    expression_names (Node t y (Decay a)) w c g = (tt, expression_names a w.1.0 c g)
    expression_names (Node t y (Member a offset)) w c g =
        (tt, expression_names a w.1.0 c (further_back objects functions offset (lower h a c) (value_at_back objects functions (kind_of (type_of y)) (further offset (lower h a c)) g)))
    expression_names (Node t y (Deref a)) w c g = (tt, expression_names a w.1.0 c (value_at_back objects functions (kind_of (type_of y)) (lower h a c) g))
    expression_names (Node t y (Address (Node u own (Local k)))) w c g = (tt, (tt, tt))
    expression_names (Node t y (Address (Node u own (Global s)))) w c g = (tt, ((fresh_back objects functions (λ r. op.AddrGlobal r (full_name h.name s) 0) c g).1, tt))
    expression_names (Node t y (Address (Node u own (Deref a)))) w c g = (tt, (tt, expression_names a w.1.0.1.0 c g))
    expression_names (Node t y (Address (Node u own (Member a offset)))) w c g = (tt, (tt, expression_names a w.1.0.1.0 c (further_back objects functions offset (lower h a c) g)))
    expression_names (Node t y (Address (Node u own form))) w c g = (tt, expression_names (Node u own form) w.1.0 c g)
    expression_names (Node t y (Call s args)) w c g =
        let xs = arguments h args c in
        let r = called_back objects functions (is_void (type_of y)) (λ r. op.Call r (full_name h.name s) xs.temps) xs.code g in
        (r.1.1, arguments_name args w.1.1 w.1.5 c r.0)
    expression_names (Node t y (CallValue a args)) w c g =
        let x = lower h a c in
        let xs = arguments h args x.code in
        let r = called_back objects functions (is_void (type_of y)) (λ r. op.CallInd r (temp_of x) (shape_at h.records (type_at a)) xs.temps) xs.code g in
        (tt, (expression_names a w.1.0 c (arguments_back args x.code r.0), arguments_name args w.1.1.1 w.1.1.7 x.code r.0))

    place_names : (e : Expression) → IsTyped m locals e → IsLvalue e → IsScalar (type_in e) ⊎ ((number : ℕ) × (type_in e ≡ Record number)) → (c : Code) → Have (place h e c).code
        → OfTarget objects functions (place h e c).target → Names e
    place_names (Node t y (Local k)) w l s c g r = (tt, tt)
    place_names (Node t y (Global symbol)) w l s c g r = (r, tt)
    place_names (Node t y (Member a offset)) w l s c g r = (tt, expression_names a w.1.0 c (further_back objects functions offset (lower h a c) g))
    place_names (Node t y (Deref a)) w l s c g r = (tt, expression_names a w.1.0 c g)
    place_names (Node t y (Str k)) w l s c g r = absurd (never_string (type_of y) _ _ w.1.1.3 s)
    place_names (Node t y form) w l s c g r = absurd l

    arguments_name : (args : Expressions) (params : QTypes) → AreArguments m locals args params → (c : Code) → Have (arguments h args c).code → EachNodeAmong (NodeAmong objects functions h.name) args
    arguments_name NoExpression params w c g = tt
    arguments_name (OneExpression e rest) (OneType q more) w c g = (expression_names e w.0 c (arguments_back rest (lower h e c).code g), arguments_name rest more w.3 (lower h e c).code g)
    arguments_name (OneExpression e rest) NoType w c g = absurd w

    arguments_back : (args : Expressions) (c : Code) → Have (arguments h args c).code → Have c
    arguments_back NoExpression c g = g
    arguments_back (OneExpression e rest) c g = lowered_back e c (arguments_back rest (lower h e c).code g)
