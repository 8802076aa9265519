-- An expression is lowered as the part of it that is evaluated first, and the step behind that.
use Rattle.std.proofs.Common.{◌≡◌, ℕ, Bool, true, false, if◌then◌else◌, Option, Some, None, List, [], ◌∷◌, ◌++◌, map, refl, ap, ◌∙◌, sym}
use Rattle.std.proofs.lemmas.List.{map-append}
use Rattle.pw_types.specs.Kinds.{is_record}
use Rattle.pw_types.specs.TypeTrees.{QType, CType, Void, type_of}
use Rattle.pw_types.specs.TypedTrees.{Expression, Node, Form, type_at, form_of, Number, Str, Local, Global, Function, Unary, Binary, Logic, Cond, Comma, Assign, Compound, Step, Cast, Decay, Member, Deref, Address, Call, CallValue}
use Rattle.pw_types.specs.WellTyped.{promoted_type}
use Rattle.pw_types.specs.declared.tree.LogicOperator.TheVariants as logic
use Rattle.pw_flow.specs.declared.flow.End.TheVariants.{Jump}
use Rattle.pw_lower.specs.declared.code.Code.{Code}
use Rattle.pw_lower.specs.Codes.{Lowered, lowered_as, temp_of, constant, cut_here}
use Rattle.pw_lower.specs.Operators.{step_operator}
use Rattle.pw_lower.specs.Expressions.{Home, Placed, read, stored, copied, scalar_kind, updated, step_value, fork, gives, in_result, is_void, lower, place, arguments}
use Rattle.std.specs.declared.alloc.Global.{Global as Heap}
use Rattle.std.specs.declared.boxed.Box.{Box}
use Rattle.std.specs.declared.vec.Vec.{Vec}
use Rattle.pw_typed.specs.Views.{view_exprs, view_form, view_symbol}
use Rattle.pw_types.specs.Views.{view_qtype}
use Rattle.pw_typed.specs.declared.tree.Symbol.{Symbol}
use Rattle.pw_typed.specs.declared.tree.TExpr.{TExpr}
use Rattle.pw_typed.specs.declared.tree.TForm.{TForm}
use Rattle.pw_typed.specs.declared.tree.TForm as node
use Rattle.pw_typed.proofs.Rows.{call_view, call_value_view}
use Rattle.pw_lower_forms.specs.Steps.{target_at, address_at, call_named, call_value}
use Rattle.pw_lexpr.specs.Finish.{address_in, addressed_in, first_evaluated, first_part, lower_first, finish, finish_node, finish_all}

module _ (h : Home) where
  place_is : (a : Expression) (c : Code) → place h a c ≡ target_at h (form_of a) (lower_first h (address_in (form_of a)) c)
  unfolding lower
  place_is (Node t ty (Number n)) c = refl
  place_is (Node t ty (Str k)) c = refl
  place_is (Node t ty (Local k)) c = refl
  place_is (Node t ty (Global s)) c = refl
  place_is (Node t ty (Function s)) c = refl
  place_is (Node t ty (Unary o a)) c = refl
  place_is (Node t ty (Binary o a b)) c = refl
  place_is (Node t ty (Logic o a b)) c = refl
  place_is (Node t ty (Cond a b d)) c = refl
  place_is (Node t ty (Comma a b)) c = refl
  place_is (Node t ty (Assign a b)) c = refl
  place_is (Node t ty (Compound o work a b)) c = refl
  place_is (Node t ty (Step o a)) c = refl
  place_is (Node t ty (Cast a)) c = refl
  place_is (Node t ty (Decay a)) c = refl
  place_is (Node t ty (Member a offset)) c = refl
  place_is (Node t ty (Deref a)) c = refl
  place_is (Node t ty (Address a)) c = refl
  place_is (Node t ty (Call s args)) c = refl
  place_is (Node t ty (CallValue a args)) c = refl

  address_is :
      (t : ℕ) (ty : QType) (a : Expression) (c : Code)
      → lower h (Node t ty (Address a)) c ≡ address_at h (form_of a) (lower_first h (addressed_in a) c)
  unfolding lower
  address_is t ty (Node u own (Number n)) c = refl
  address_is t ty (Node u own (Str k)) c = refl
  address_is t ty (Node u own (Local k)) c = refl
  address_is t ty (Node u own (Global s)) c = refl
  address_is t ty (Node u own (Function s)) c = refl
  address_is t ty (Node u own (Unary o a)) c = refl
  address_is t ty (Node u own (Binary o a b)) c = refl
  address_is t ty (Node u own (Logic o a b)) c = refl
  address_is t ty (Node u own (Cond a b d)) c = refl
  address_is t ty (Node u own (Comma a b)) c = refl
  address_is t ty (Node u own (Assign a b)) c = refl
  address_is t ty (Node u own (Compound o work a b)) c = refl
  address_is t ty (Node u own (Step o a)) c = refl
  address_is t ty (Node u own (Cast a)) c = refl
  address_is t ty (Node u own (Decay a)) c = refl
  address_is t ty (Node u own (Member a offset)) c = refl
  address_is t ty (Node u own (Deref a)) c = refl
  address_is t ty (Node u own (Address a)) c = refl
  address_is t ty (Node u own (Call s args)) c = refl
  address_is t ty (Node u own (CallValue a args)) c = refl

  -- by whether the type is a record
  assign_is :
      (ty : CType) (a b : Expression) (c : Code) (yes : Bool)
      → (if yes
      then copied h.records ty (temp_of (lower h a c)) (lower h b (lower h a c).code)
      else stored (scalar_kind ty) (place h a c).target (lower h b (place h a c).code))
      ≡ (if yes
      then copied h.records ty (temp_of (lower_first h (if yes then Some a else address_in (form_of a)) c)) (lower h b (lower_first h (if yes then Some a else address_in (form_of a)) c).code)
      else stored (scalar_kind ty)
      (target_at h (form_of a) (lower_first h (if yes then Some a else address_in (form_of a)) c)).target
      (lower h b (target_at h (form_of a) (lower_first h (if yes then Some a else address_in (form_of a)) c)).code))
  assign_is ty a b c true = refl
  assign_is ty a b c false = ap (λ (p : Placed). stored (scalar_kind ty) p.target (lower h b p.code)) (place_is a c)

  -- by whether the type is void
  cond_is :
      (b d : Expression) (x : Lowered) (void : Bool)
      → (if void
      then (let f = fork 0 x in
      let yes = cut_here (Jump f.join) f.if_not (lower h b f.code).code in
      lowered_as None (cut_here (Jump f.join) f.join (lower h d yes).code))
      else (let f = fork 1 x in
      let yes = cut_here (Jump f.join) f.if_not (gives f.result (lower h b f.code)) in
      in_result f.result (cut_here (Jump f.join) f.join (gives f.result (lower h d yes)))))
      ≡ (let f = fork (if void then 0 else 1) x in
      let y = lower h b f.code in
      let yes = cut_here (Jump f.join) f.if_not (if void then y.code else gives f.result y) in
      let z = lower h d yes in
      let end = cut_here (Jump f.join) f.join (if void then z.code else gives f.result z) in
      if void then lowered_as None end else in_result f.result end)
  cond_is b d x true = refl
  cond_is b d x false = refl

  form_is :
      (t : ℕ) (ty : QType) (form : Form) (c : Code)
      → lower h (Node t ty form) c ≡ finish h ty form (lower_first h (first_evaluated ty form) c)
  unfolding lower finish
  form_is t ty (Number n) c = refl
  form_is t ty (Str k) c = refl
  form_is t ty (Local k) c = refl
  form_is t ty (Global s) c = refl
  form_is t ty (Function s) c = refl
  form_is t ty (Unary o a) c = refl
  form_is t ty (Binary o a b) c = refl
  form_is t ty (Logic logic.And a b) c = refl
  form_is t ty (Logic logic.Or a b) c = refl
  form_is t ty (Cond a b d) c = cond_is b d (lower h a c) (is_void (type_of ty))
  form_is t ty (Comma a b) c = refl
  form_is t ty (Assign a b) c = assign_is (type_of ty) a b c (is_record (type_of ty))
  form_is t ty (Compound o work a b) c =
      ap
      (λ (p : Placed). updated h.records o work (type_of (type_at b)) (scalar_kind (type_of ty)) p.target (temp_of (read (scalar_kind (type_of ty)) p)) (lower h b (read (scalar_kind (type_of ty)) p).code))
      (place_is a c)
  form_is t ty (Step o a) c =
      ap
      (λ (p : Placed). step_value o (temp_of (read (scalar_kind (type_of ty)) p)) (updated h.records (step_operator o) (promoted_type (type_of ty)) Void (scalar_kind (type_of ty)) p.target (temp_of (read (scalar_kind (type_of ty)) p)) (constant 1 (read (scalar_kind (type_of ty)) p).code)))
      (place_is a c)
  form_is t ty (Cast a) c = refl
  form_is t ty (Decay a) c = refl
  form_is t ty (Member a offset) c = refl
  form_is t ty (Deref a) c = refl
  form_is t ty (Address a) c = address_is t ty a c
  form_is t ty (Call s args) c = refl
  form_is t ty (CallValue a args) c = refl

  -- what is put behind the others is what they stand behind
  pub finish_behind :
      (nodes : List Expression) (e : Expression) (x : Lowered)
      → finish_all h (nodes ++ e ∷ []) x ≡ finish_all h nodes (finish_node h e x)
  finish_behind [] e x = refl
  finish_behind (n ∷ rest) e x = ap (finish_node h n) (finish_behind rest e x)

pub lower_is : (h : Home) (e : Expression) (c : Code) → lower h e c ≡ finish_node h e (lower_first h (first_part e) c)
lower_is h (Node t ty form) c = form_is h t ty form c

-- going down begins at the expression itself
pub edge_begun :
    {A : Type 0} (view : A → Expression) (e : Expression) (nodes : List A)
    → nodes ≡ [] → (h : Home) (c : Code) → finish_node h e (finish_all h (map view nodes) (lower_first h (first_part e) c)) ≡ lower h e c
edge_begun {A} view e nodes empty h c =
    ap (λ (xs : List A). finish_node h e (finish_all h (map view xs) (lower_first h (first_part e) c))) empty ∙ sym (lower_is h e c)

-- and one node further
pub edge_further :
    {A : Type 0} (view : A → Expression) (e : Expression) (nodes more : List A) (node : Expression) (first : A)
    → ((h : Home) (c : Code) → finish_node h e (finish_all h (map view nodes) (lower_first h (first_part node) c)) ≡ lower h e c)
    → Some (view first) ≡ first_part node → more ≡ nodes ++ first ∷ []
    → (h : Home) (c : Code) → finish_node h e (finish_all h (map view more) (lower_first h (first_part (view first)) c)) ≡ lower h e c
edge_further view e nodes more node first before is pushed h c =
    let split : map view more ≡ map view nodes ++ view first ∷ [] = ap (map view) pushed ∙ map-append view nodes (first ∷ []) in
    let below : finish_all h (map view more) (lower_first h (first_part (view first)) c) ≡ finish_all h (map view nodes) (lower_first h (first_part node) c) =
    ap (λ (xs : List Expression). finish_all h xs (lower_first h (first_part (view first)) c)) split
    ∙ finish_behind h (map view nodes) (view first) (lower_first h (first_part (view first)) c)
    ∙ ap (finish_all h (map view nodes)) (sym (lower_is h (view first) c) ∙ ap (λ (o : Option Expression). lower_first h o c) is) in
    ap (finish_node h e) below ∙ before h c

-- the last of the nodes is finished
pub edge_back :
    {A : Type 0} (view : A → Expression) (h : Home) (e : Expression) (nodes rest : List A) (node : A) (x y all : Lowered)
    → finish_node h e (finish_all h (map view nodes) x) ≡ all → nodes ≡ rest ++ node ∷ [] → y ≡ finish_node h (view node) x
    → finish_node h e (finish_all h (map view rest) y) ≡ all
edge_back view h e nodes rest node x y all before popped made =
    let split : map view nodes ≡ map view rest ++ view node ∷ [] = ap (map view) popped ∙ map-append view rest (node ∷ []) in
    let same : finish_all h (map view nodes) x ≡ finish_all h (map view rest) y =
    ap (λ (xs : List Expression). finish_all h xs x) split ∙ finish_behind h (map view rest) (view node) x ∙ ap (finish_all h (map view rest)) (sym made) in
    ap (finish_node h e) (sym same) ∙ before

-- what a node with a list of arguments shows
pub finish_call :
    (h : Home) (ty : QType) (form : TForm) (symbol : Symbol) (args : Vec TExpr Heap) (items : List TExpr) (x : Lowered)
    → form ≡ node.Call symbol args → items ≡ args.items
    → call_named h (type_of ty) (view_symbol symbol) (arguments h (view_exprs items) x.code) ≡ finish h ty (view_form form) x
unfolding finish
finish_call h ty form symbol args items x is there =
    ap (λ (es : List TExpr). call_named h (type_of ty) (view_symbol symbol) (arguments h (view_exprs es) x.code)) there
    ∙ ap (λ (f : Form). finish h ty f x) (sym (call_view symbol args))
    ∙ ap (λ (f : TForm). finish h ty (view_form f) x) (sym is)

pub finish_call_value :
    (h : Home) (ty : QType) (form : TForm) (a : Box TExpr Heap) (inner : TExpr) (args : Vec TExpr Heap) (items : List TExpr) (x : Lowered)
    → form ≡ node.CallValue a args → inner ≡ a.value → items ≡ args.items
    → call_value h (type_of ty) (view_qtype inner.ty) x (arguments h (view_exprs items) x.code) ≡ finish h ty (view_form form) x
unfolding finish
finish_call_value h ty form a inner args items x is inside there =
    ap (λ (e : TExpr). call_value h (type_of ty) (view_qtype e.ty) x (arguments h (view_exprs items) x.code)) inside
    ∙ ap (λ (es : List TExpr). call_value h (type_of ty) (view_qtype a.value.ty) x (arguments h (view_exprs es) x.code)) there
    ∙ ap (λ (f : Form). finish h ty f x) (sym (call_value_view a args))
    ∙ ap (λ (f : TForm). finish h ty (view_form f) x) (sym is)
