-- Each operation in the code of an expression, by the nodes of the expression.
use Rattle.std.proofs.Common.{◌≡◌, ℕ, suc, ◌+◌, ◌==◌, Bool, true, false, if◌then◌else◌, Option, Some, None, List, [], ◌∷◌, length, refl, ap, sym, subst, arith}
use Rattle.std.specs.List.{AllByRecursion}
use Rattle.pw_value.specs.declared.value.Kind.{Kind}
use Rattle.pw_types.specs.Kinds.{is_record}
use Rattle.pw_types.specs.TypeTrees.{CType, Void, type_of, RecordValue}
use Rattle.pw_types.specs.TypedTrees.{Expression, Node, type_at, Number, Str, Local, Global, Function, Unary, Binary, Logic, Cond, Comma, Assign, Compound, Step, Cast, Decay, Member, Deref, Address, Call, CallValue, Expressions, NoExpression, OneExpression, Hidden}
use Rattle.pw_types.specs.declared.tree.UnaryOperator.{UnaryOperator}
use Rattle.pw_types.specs.declared.tree.UnaryOperator.TheVariants as unary
use Rattle.pw_types.specs.declared.tree.BinaryOperator.{BinaryOperator}
use Rattle.pw_types.specs.declared.tree.BinaryOperator.TheVariants as binary
use Rattle.pw_types.specs.declared.tree.LogicOperator.TheVariants as logic
use Rattle.pw_types.specs.WellTyped.{promoted_type, type_in}
use Rattle.pw_flow.specs.declared.flow.Op.{Op}
use Rattle.pw_flow.specs.declared.flow.Op.TheVariants as op
use Rattle.pw_flow.specs.declared.flow.BinKind.{BinKind}
use Rattle.pw_flow.specs.declared.flow.BinKind.TheVariants.{Add, Sub, Mul, DivS, Eq, Ne}
use Rattle.pw_flow.specs.declared.flow.UnKind.TheVariants.{Neg, Not}
use Rattle.pw_flow.specs.declared.flow.ExtKind.{ExtKind}
use Rattle.pw_flow.specs.declared.flow.Block.{Block}
use Rattle.pw_flow.specs.declared.flow.End.{End}
use Rattle.pw_flow.specs.declared.flow.End.TheVariants.{Jump, Branch}
use Rattle.pw_flow.proofs.Lists.{all_append}
use Rattle.pw_lower.specs.declared.code.Code.{Code}
use Rattle.pw_lower.specs.declared.code.Numbered.{Numbered}
use Rattle.pw_lower.specs.declared.place.LocalPlace.{LocalPlace}
use Rattle.pw_lower.specs.declared.place.LocalPlace.TheVariants.{Temp, Slot}
use Rattle.pw_lower.specs.declared.place.Target.{Target}
use Rattle.pw_lower.specs.declared.place.Target.TheVariants.{Kept, Named, Led}
use Rattle.pw_lower.specs.Codes.{Lowered, lowered_as, temp_of, emit, fresh, constant, reserve, reserve_temps, cut, cut_here, leave, value_is}
use Rattle.pw_lower.specs.Places.{place_at}
use Rattle.pw_lower.specs.Operators.{kind_of, with, scaled, moved_by, distance, on_numbers, operation_of, is_turned, sum_or, combined, is_signed, target_size, truth_in, unary_on, extension, extending, extended, converted, step_operator, is_behind, bytes_of, unit_of}
use Rattle.pw_lower.specs.Expressions.{Home, Placed, full_name, shape_at, read_target, read, write, further, address_of_global, address_of_local, target_of_local, value_at, value_of_global, value_of_local, stored, copied, scalar_kind, updated, fork, decides, says, gives, is_void, lower, place, arguments}
use Rattle.pw_law_lower_walk.specs.Parts.{EachExpression, count_of}
use Rattle.pw_law_lower_walk.specs.Given.{IsBare, OfNumber, OfSize, OfCopy, OfObject, Nodes}

-- P is asked of operations, D of the depths of blocks

module _ (P : Op → Type 0) where
  -- a global that is written or read by its name
  abbrev pub RightTarget : Target → Type 0
  RightTarget (Named g) = OfObject P g
  RightTarget _ = Unit {0}

module _ (P : Op → Type 0) (D : ℕ → Type 0) where
  abbrev pub EachBlock : Block → Type 0
  EachBlock b = D b.depth × AllByRecursion P b.ops

  -- code at a depth
  abbrev pub Good : ℕ → Code → Type 0
  Good d c = AllByRecursion P c.ops × AllByRecursion (λ (b : Numbered). EachBlock b.block) c.closed × (c.depth ≡ d)

-- in code at a depth of which D holds
module _ (P : Op → Type 0) (D : ℕ → Type 0) (bare : (o : Op) → IsBare o → P o) (d : ℕ) (deep : D d) where
  abbrev Fine : Code → Type 0
  Fine c = Good P D d c

  pub emits : (o : Op) (c : Code) → P o → Fine c → Fine (emit o c)
  emits o c h g = (all_append P c.ops (o ∷ []) g.0 (h, tt), g.1, g.2)

  pub adds : (o : ℕ → Op) (c : Code) → P (o c.temps) → Fine c → Fine (fresh o c).code
  adds o c h g = emits (o c.temps) (reserve_temps 1 c) h g

  pub emits_bare : (o : Op) (c : Code) → IsBare o → Fine c → Fine (emit o c)
  emits_bare o c h g = emits o c (bare o h) g

  pub adds_bare : (o : ℕ → Op) (c : Code) → IsBare (o c.temps) → Fine c → Fine (fresh o c).code
  adds_bare o c h g = adds o c (bare (o c.temps) h) g

  pub constant_good : (n : ℕ) (c : Code) → OfNumber P n → Fine c → Fine (constant n c).code
  constant_good n c h g = adds (λ t. op.Const t n) c (h c.temps) g

  pub cuts : (end : End) (number depth : ℕ) (c : Code) → Fine c → Good P D depth (cut end number depth c)
  cuts end number depth c g = (
    tt,
    all_append (λ (b : Numbered). EachBlock P D b.block) c.closed (record { number = c.cur; block = record { depth = c.depth; ops = c.ops; end = end } } ∷ []) g.1 ((subst D (sym g.2) deep, g.0), tt),
    refl,
  )

  pub turns : (end : End) (number : ℕ) (c : Code) → Fine c → Fine (cut_here end number c)
  turns end number c g = let h = cuts end number c.depth c g in (h.0, h.1, g.2)

  pub leaves : (end : End) (c : Code) → Fine c → Fine (leave end c)
  leaves end c g = turns end c.blocks (reserve 1 c) g

  -- ---- operators

  pub with_good : (k : BinKind) (a : ℕ) (x : Lowered) → Fine x.code → Fine (with k a x).code
  with_good k a x g = adds_bare (λ t. op.Bin k t a (temp_of x)) x.code tt g

  zero_good : (c : Code) → Fine c → Fine (constant 0 c).code
  zero_good c g = adds_bare (λ t. op.Const t 0) c (omega arith) g

  scaled_good : (b : Bool) (size n : ℕ) (c : Code) → OfNumber P size → Fine c → Fine (if b then value_is n c else with Mul n (constant size c)).code
  scaled_good true size n c h g = g
  scaled_good false size n c h g = with_good Mul n (constant size c) (constant_good size c h g)

  moved_by_good : (k : BinKind) (size a n : ℕ) (c : Code) → OfNumber P size → Fine c → Fine (moved_by k size a n c).code
  moved_by_good k size a n c h g = with_good k a (scaled size n c) (scaled_good (size == 1) size n c h g)

  in_elements_good : (b : Bool) (size : ℕ) (x : Lowered) → OfNumber P size → Fine x.code → Fine (if b then x else with DivS (temp_of x) (constant size x.code)).code
  in_elements_good true size x h g = g
  in_elements_good false size x h g = with_good DivS (temp_of x) (constant size x.code) (constant_good size x.code h g)

  distance_good : (size a b : ℕ) (c : Code) → OfNumber P size → Fine c → Fine (distance size a b c).code
  distance_good size a b c h g = in_elements_good (size == 1) size (fresh (λ t. op.Bin Sub t a b) c) h (adds_bare (λ t. op.Bin Sub t a b) c tt g)

  turned_good : (b : Bool) (k : BinKind) (x y : ℕ) (c : Code) → Fine c → Fine (if b then fresh (λ t. op.Bin k t y x) c else fresh (λ t. op.Bin k t x y) c).code
  turned_good true k x y c g = adds_bare (λ t. op.Bin k t y x) c tt g
  turned_good false k x y c g = adds_bare (λ t. op.Bin k t x y) c tt g

  on_numbers_good : (o : BinaryOperator) (s : Bool) (a b : ℕ) (c : Code) → Fine c → Fine (on_numbers o s a b c).code
  on_numbers_good o s a b c g = turned_good (is_turned o) (operation_of o s) a b c g

  sum_or_good : (o : BinaryOperator) (s : Bool) (left right : Option ℕ) (a b : ℕ) (c : Code) → OfSize P left → OfSize P right → Fine c → Fine (sum_or o s left right a b c).code
  sum_or_good binary.Add s (Some size) right a b c l r g = moved_by_good Add size a b c l g
  sum_or_good binary.Add s None (Some size) a b c l r g = moved_by_good Add size b a c r g
  sum_or_good binary.Add s None None a b c l r g = on_numbers_good binary.Add s a b c g
  sum_or_good binary.Subtract s (Some size) (Some other) a b c l r g = distance_good size a b c l g
  sum_or_good binary.Subtract s (Some size) None a b c l r g = moved_by_good Sub size a b c l g
  sum_or_good binary.Subtract s None right a b c l r g = on_numbers_good binary.Subtract s a b c g
  sum_or_good o s left right a b c l r g = on_numbers_good o s a b c g

  extended_good : (k : Option ExtKind) (t : ℕ) (c : Code) → Fine c → Fine (extended k t c).code
  extended_good None t c g = g
  extended_good (Some k) t c g = adds_bare (extending k t) c tt g

  converted_good : (from to : Option Kind) (x : Lowered) → Fine x.code → Fine (converted from to x).code
  converted_good None to x g = g
  converted_good (Some from) None x g = g
  converted_good (Some from) (Some to) x g = extended_good (extension from to) (temp_of x) x.code g

  truth_good : (r t : ℕ) (c : Code) → Fine c → Fine (truth_in r t c)
  truth_good r t c g = let x = constant 0 c in emits_bare (op.Bin Ne r t (temp_of x)) x.code tt (zero_good c g)

  unary_good : (o : UnaryOperator) (a : ℕ) (c : Code) → Fine c → Fine (unary_on o a c).code
  unary_good unary.Plus a c g = g
  unary_good unary.Minus a c g = adds_bare (λ t. op.Un Neg t a) c tt g
  unary_good unary.Complement a c g = adds_bare (λ t. op.Un Not t a) c tt g
  unary_good unary.Not a c g = with_good Eq a (constant 0 c) (zero_good c g)

  -- ---- lvalues

  read_good : (k : Kind) (target : Target) (c : Code) → RightTarget P target → Fine c → Fine (read_target k target c).code
  read_good k (Kept x) c h g = adds_bare (λ t. op.Copy t x) c tt g
  read_good k (Named v) c h g = adds (λ t. op.LoadG t v k) c (h.read c.temps k) g
  read_good k (Led a) c h g = adds_bare (λ t. op.Load k t a) c tt g

  write_good : (k : Kind) (target : Target) (v : ℕ) (c : Code) → RightTarget P target → Fine c → Fine (write k target v c)
  write_good k (Kept x) v c h g = emits_bare (op.Copy x v) c tt g
  write_good k (Named name) v c h g = emits (op.StoreG name v k) c (h.written v k) g
  write_good k (Led a) v c h g = emits_bare (op.Store k a v) c tt g

  further_by : (b : Bool) (offset : ℕ) (x : Lowered) → OfNumber P offset → Fine x.code → Fine (if b then x else with Add (temp_of x) (constant offset x.code)).code
  further_by true offset x h g = g
  further_by false offset x h g = with_good Add (temp_of x) (constant offset x.code) (constant_good offset x.code h g)

  further_good : (offset : ℕ) (x : Lowered) → OfNumber P offset → Fine x.code → Fine (further offset x).code
  further_good offset x h g = further_by (offset == 0) offset x h g

  pub global_good : (v : List ℕ) (c : Code) → OfObject P v → Fine c → Fine (address_of_global v c).code
  global_good v c h g = adds (λ t. op.AddrGlobal t v 0) c (h.address c.temps) g

  pub address_good : (p : LocalPlace) (c : Code) → Fine c → Fine (address_of_local p c).code
  address_good (Temp x) c g = g
  address_good (Slot s) c g = adds_bare (λ t. op.AddrSlot t s) c tt g

  pub local_good : (p : LocalPlace) (c : Code) → Fine c → Fine (target_of_local p c).code
  local_good (Temp x) c g = g
  local_good (Slot s) c g = address_good (Slot s) c g

  pub local_target : (p : LocalPlace) (c : Code) → RightTarget P (target_of_local p c).target
  local_target (Temp x) c = tt
  local_target (Slot s) c = tt

  value_at_good : (k : Option Kind) (x : Lowered) → Fine x.code → Fine (value_at k x).code
  value_at_good None x g = g
  value_at_good (Some k) x g = adds_bare (λ t. op.Load k t (temp_of x)) x.code tt g

  value_of_global_good : (k : Option Kind) (v : List ℕ) (c : Code) → OfObject P v → Fine c → Fine (value_of_global k v c).code
  value_of_global_good None v c h g = global_good v c h g
  value_of_global_good (Some k) v c h g = read_good k (Named v) c h g

  value_of_local_good : (k : Option Kind) (p : LocalPlace) (c : Code) → Fine c → Fine (value_of_local k p c).code
  value_of_local_good None (Temp x) c g = g
  value_of_local_good (Some k) (Temp x) c g = read_good k (Kept x) c tt g
  value_of_local_good None (Slot s) c g = address_good (Slot s) c g
  value_of_local_good (Some k) (Slot s) c g = value_at_good (Some k) (address_of_local (Slot s) c) (address_good (Slot s) c g)

  -- ---- assignments

  pub stored_good : (k : Kind) (target : Target) (x : Lowered) → RightTarget P target → Fine x.code → Fine (stored k target x).code
  stored_good k target x h g = write_good k target (temp_of x) x.code h g

  pub copied_good : (records : List RecordValue) (ty : CType) (to : ℕ) (x : Lowered) → OfCopy P records ty → Fine x.code → Fine (copied records ty to x).code
  copied_good records ty to x h g = emits (op.Move to (temp_of x) (bytes_of records ty) (unit_of records ty)) x.code (h to (temp_of x)) g

  updated_good : (records : List RecordValue) (o : BinaryOperator) (ty right : CType) (own : Kind) (target : Target) (old : ℕ) (x : Lowered) → OfSize P (target_size records ty) → OfSize P (target_size records right) → RightTarget P target → Fine x.code → Fine (updated records o ty right own target old x).code
  updated_good records o ty right own target old x l r h g =
      let s = combined records o ty right old (temp_of x) x.code in
      stored_good own target (converted (kind_of ty) (Some own) s) h
      (converted_good (kind_of ty) (Some own) s (sum_or_good o (is_signed ty) (target_size records ty) (target_size records right) old (temp_of x) x.code l r g))

  step_good : (b : Bool) (old : ℕ) (x : Lowered) → Fine x.code → Fine (if b then record x { temp = Some old } else x).code
  step_good true old x g = g
  step_good false old x g = g

  cast_good : (b : Bool) (from to : Option Kind) (x : Lowered) → Fine x.code → Fine (if b then lowered_as None x.code else converted from to x).code
  cast_good true from to x g = g
  cast_good false from to x g = converted_good from to x g

  -- ---- `&&`, `||`, `?:`, assignments, calls

  fork_good : (n : ℕ) (x : Lowered) → Fine x.code → Fine (fork n x).code
  fork_good n x g = turns (Branch (temp_of x) x.code.blocks (x.code.blocks + 1)) x.code.blocks (reserve 3 (reserve_temps n x.code)) g

  and_good :
      (x : Lowered) (second : Code → Lowered) → Fine x.code → ((e : Code) → Fine e → Fine (second e).code)
      → Fine
      (let f = fork 1 x in
      let yes = cut_here (Jump f.join) f.if_not (decides f.result (second f.code)) in
      cut_here (Jump f.join) f.join (says f.result 0 yes))
  and_good x second g h =
      let f = fork 1 x in
      let y = second f.code in
      let so = decides f.result y in
      let yes = cut_here (Jump f.join) f.if_not so in
      turns (Jump f.join) f.join (says f.result 0 yes)
      (emits_bare (op.Const f.result 0) yes (omega arith) (turns (Jump f.join) f.if_not so (truth_good f.result (temp_of y) y.code (h f.code (fork_good 1 x g)))))

  or_good :
      (x : Lowered) (second : Code → Lowered) → Fine x.code → ((e : Code) → Fine e → Fine (second e).code)
      → Fine
      (let f = fork 1 x in
      let yes = cut_here (Jump f.join) f.if_not (says f.result 1 f.code) in
      cut_here (Jump f.join) f.join (decides f.result (second yes)))
  or_good x second g h =
      let f = fork 1 x in
      let told = says f.result 1 f.code in
      let yes = cut_here (Jump f.join) f.if_not told in
      let y = second yes in
      turns (Jump f.join) f.join (decides f.result y)
      (truth_good f.result (temp_of y) y.code (h yes (turns (Jump f.join) f.if_not told (emits_bare (op.Const f.result 1) f.code (omega arith) (fork_good 1 x g)))))

  -- by whether the type is void
  cond_good :
      (b : Bool) (x : Lowered) (second third : Code → Lowered) → Fine x.code
      → ((e : Code) → Fine e → Fine (second e).code) → ((e : Code) → Fine e → Fine (third e).code)
      → Fine
      (if b
      then (let f = fork 0 x in
      let yes = cut_here (Jump f.join) f.if_not (second f.code).code in
      lowered_as None (cut_here (Jump f.join) f.join (third yes).code))
      else (let f = fork 1 x in
      let yes = cut_here (Jump f.join) f.if_not (gives f.result (second f.code)) in
      value_is f.result (cut_here (Jump f.join) f.join (gives f.result (third yes))))).code
  cond_good true x second third g h i =
      let f = fork 0 x in
      let so = second f.code in
      let yes = cut_here (Jump f.join) f.if_not so.code in
      turns (Jump f.join) f.join (third yes).code (i yes (turns (Jump f.join) f.if_not so.code (h f.code (fork_good 0 x g))))
  cond_good false x second third g h i =
      let f = fork 1 x in
      let y = second f.code in
      let given = gives f.result y in
      let yes = cut_here (Jump f.join) f.if_not given in
      let other = third yes in
      turns (Jump f.join) f.join (gives f.result other)
      (emits_bare (op.Copy f.result (temp_of other)) other.code tt
      (i yes (turns (Jump f.join) f.if_not given (emits_bare (op.Copy f.result (temp_of y)) y.code tt (h f.code (fork_good 1 x g))))))

  -- by whether the type is a record
  assign_good :
      (b : Bool) (records : List RecordValue) (ty : CType) (k : Kind) (x : Lowered) (q : Placed) (second : Code → Lowered)
      → (b ≡ true → OfCopy P records ty)
      → Fine x.code → Fine q.code → RightTarget P q.target → ((e : Code) → Fine e → Fine (second e).code)
      → Fine (if b then copied records ty (temp_of x) (second x.code) else stored k q.target (second q.code)).code
  assign_good true records ty k x q second w g r h f = copied_good records ty (temp_of x) (second x.code) (w refl) (f x.code g)
  assign_good false records ty k x q second w g r h f = stored_good k q.target (second q.code) h (f q.code r)

  -- by whether the type is void
  called_good :
      (b : Bool) (o : Option ℕ → Op) (c : Code) → ((r : Option ℕ) → P (o r)) → Fine c
      → Fine (if b then lowered_as None (emit (o None) c) else fresh (λ t. o (Some t)) c).code
  called_good true o c h g = emits (o None) c (h None) g
  called_good false o c h g = adds (λ t. o (Some t)) c (h (Some c.temps)) g

-- ---- expressions

-- the expressions of which N holds, at a depth
module _ (P : Op → Type 0) (D : ℕ → Type 0) (h : Home) (N : Expression → Type 0) (give : Nodes P h.name h.records N) (d : ℕ) (deep : D d) where
  place_right : (e : Expression) (c : Code) → N e → RightTarget P (place h e c).target
  unfolding lower
  place_right (Node t y (Local k)) c w = local_target P D give.bare d deep (place_at h.places k) c
  place_right (Node t y (Global s)) c w = give.node t y (Global s) w
  place_right (Node t y (Member a offset)) c w = tt
  place_right (Node t y (Deref a)) c w = tt
  place_right (Node t y form) c w = tt

  arguments_count : (args : Expressions) (c : Code) → length (arguments h args c).temps ≡ count_of args
  unfolding lower
  arguments_count NoExpression c = refl
  arguments_count (OneExpression e rest) c = ap (λ n. suc n) (arguments_count rest (lower h e c).code)

  mutual
    unfolding lower

    pub lower_good : (e : Expression) (c : Code) → N e → Good P D d c → Good P D d (lower h e c).code
    lower_good (Node t y (Number n)) c w g = constant_good P D give.bare d deep n c (give.node t y (Number n) w) g
    lower_good (Node t y (Str k)) c w g = global_good P D give.bare d deep (full_name h.name (Hidden k)) c (give.node t y (Str k) w) g
    lower_good (Node t y (Local k)) c w g = value_of_local_good P D give.bare d deep (kind_of (type_of y)) (place_at h.places k) c g
    lower_good (Node t y (Global s)) c w g = value_of_global_good P D give.bare d deep (kind_of (type_of y)) (full_name h.name s) c (give.node t y (Global s) w) g
    lower_good (Node t y (Function s)) c w g = adds P D give.bare d deep (λ r. op.AddrFn r (full_name h.name s)) c (give.node t y (Function s) w c.temps) g
    lower_good (Node t y (Unary o a)) c w g = let x = lower h a c in unary_good P D give.bare d deep o (temp_of x) x.code (lower_good a c (give.parts t y (Unary o a) w) g)
    lower_good (Node t y (Binary o a b)) c w g =
        let n = give.parts t y (Binary o a b) w in
        let k = give.node t y (Binary o a b) w in
        let x = lower h a c in
        let z = lower h b x.code in
        sum_or_good P D give.bare d deep o (is_signed (type_in a)) (target_size h.records (type_in a)) (target_size h.records (type_in b)) (temp_of x) (temp_of z) z.code k.0 k.1
        (lower_good b x.code n.1 (lower_good a c n.0 g))
    lower_good (Node t y (Logic logic.And a b)) c w g =
        let n = give.parts t y (Logic logic.And a b) w in
        and_good P D give.bare d deep (lower h a c) (λ e. lower h b e) (lower_good a c n.0 g) (λ e q. lower_good b e n.1 q)
    lower_good (Node t y (Logic logic.Or a b)) c w g =
        let n = give.parts t y (Logic logic.Or a b) w in
        or_good P D give.bare d deep (lower h a c) (λ e. lower h b e) (lower_good a c n.0 g) (λ e q. lower_good b e n.1 q)
    lower_good (Node t y (Cond a b z)) c w g =
        let n = give.parts t y (Cond a b z) w in
        cond_good P D give.bare d deep (is_void (type_of y)) (lower h a c) (λ e. lower h b e) (λ e. lower h z e) (lower_good a c n.0 g)
        (λ e q. lower_good b e n.1 q) (λ e q. lower_good z e n.2 q)
    lower_good (Node t y (Comma a b)) c w g = let n = give.parts t y (Comma a b) w in lower_good b (lower h a c).code n.1 (lower_good a c n.0 g)
    lower_good (Node t y (Assign a b)) c w g =
        let n = give.parts t y (Assign a b) w in
        assign_good P D give.bare d deep (is_record (type_of y)) h.records (type_of y) (scalar_kind (type_of y)) (lower h a c) (place h a c) (λ e. lower h b e)
        (give.node t y (Assign a b) w) (lower_good a c n.0 g) (place_good a c n.0 g) (place_right a c n.0) (λ e q. lower_good b e n.1 q)
    lower_good (Node t y (Compound o work a b)) c w g =
        let n = give.parts t y (Compound o work a b) w in
        let k = give.node t y (Compound o work a b) w in
        let q = place h a c in
        let old = read (scalar_kind (type_of y)) q in
        updated_good P D give.bare d deep h.records o work (type_in b) (scalar_kind (type_of y)) q.target (temp_of old) (lower h b old.code) k.0 k.1 (place_right a c n.0)
        (lower_good b old.code n.1 (read_good P D give.bare d deep (scalar_kind (type_of y)) q.target q.code (place_right a c n.0) (place_good a c n.0 g)))
    lower_good (Node t y (Step o a)) c w g =
        let n = give.parts t y (Step o a) w in
        let q = place h a c in
        let old = read (scalar_kind (type_of y)) q in
        let one = constant 1 old.code in
        step_good P D give.bare d deep (is_behind o) (temp_of old)
        (updated h.records (step_operator o) (promoted_type (type_of y)) Void (scalar_kind (type_of y)) q.target (temp_of old) one)
        (updated_good P D give.bare d deep h.records (step_operator o) (promoted_type (type_of y)) Void (scalar_kind (type_of y)) q.target (temp_of old) one
        (give.node t y (Step o a) w) tt (place_right a c n)
        (constant_good P D give.bare d deep 1 old.code (λ r. give.bare (op.Const r 1) (omega arith))
        (read_good P D give.bare d deep (scalar_kind (type_of y)) q.target q.code (place_right a c n) (place_good a c n g))))
    lower_good (Node t y (Cast a)) c w g =
        cast_good P D give.bare d deep (is_void (type_of y)) (kind_of (type_in a)) (kind_of (type_of y)) (lower h a c) (lower_good a c (give.parts t y (Cast a) w) g)
    lower_good (Node t y (Decay a)) c w g = lower_good a c (give.parts t y (Decay a) w) g
    lower_good (Node t y (Member a offset)) c w g =
        value_at_good P D give.bare d deep (kind_of (type_of y)) (further offset (lower h a c))
        (further_good P D give.bare d deep offset (lower h a c) (give.node t y (Member a offset) w) (lower_good a c (give.parts t y (Member a offset) w) g))
    lower_good (Node t y (Deref a)) c w g = value_at_good P D give.bare d deep (kind_of (type_of y)) (lower h a c) (lower_good a c (give.parts t y (Deref a) w) g)
    lower_good (Node t y (Address (Node u own (Local k)))) c w g = address_good P D give.bare d deep (place_at h.places k) c g
    lower_good (Node t y (Address (Node u own (Global s)))) c w g =
        global_good P D give.bare d deep (full_name h.name s) c (give.node u own (Global s) (give.parts t y (Address (Node u own (Global s))) w)) g
    lower_good (Node t y (Address (Node u own (Deref a)))) c w g = lower_good a c (give.parts u own (Deref a) (give.parts t y (Address (Node u own (Deref a))) w)) g
    lower_good (Node t y (Address (Node u own (Member a offset)))) c w g =
        let v = give.parts t y (Address (Node u own (Member a offset))) w in
        further_good P D give.bare d deep offset (lower h a c) (give.node u own (Member a offset) v) (lower_good a c (give.parts u own (Member a offset) v) g)
    lower_good (Node t y (Address (Node u own form))) c w g = lower_good (Node u own form) c (give.parts t y (Address (Node u own form)) w) g
    lower_good (Node t y (Call s args)) c w g =
        let xs = arguments h args c in
        let named = give.node t y (Call s args) w in
        called_good P D give.bare d deep (is_void (type_of y)) (λ r. op.Call r (full_name h.name s) xs.temps) xs.code (λ r. named r xs.temps (arguments_count args c))
        (arguments_good args c (give.parts t y (Call s args) w) g)
    lower_good (Node t y (CallValue a args)) c w g =
        let n = give.parts t y (CallValue a args) w in
        let x = lower h a c in
        let xs = arguments h args x.code in
        let shape = shape_at h.records (type_at a) in
        let called = give.node t y (CallValue a args) w in
        called_good P D give.bare d deep (is_void (type_of y)) (λ r. op.CallInd r (temp_of x) shape xs.temps) xs.code (λ r. called r (temp_of x) shape xs.temps (arguments_count args x.code))
        (arguments_good args x.code n.1 (lower_good a c n.0 g))

    place_good : (e : Expression) (c : Code) → N e → Good P D d c → Good P D d (place h e c).code
    place_good (Node t y (Local k)) c w g = local_good P D give.bare d deep (place_at h.places k) c g
    place_good (Node t y (Global s)) c w g = g
    place_good (Node t y (Member a offset)) c w g =
        further_good P D give.bare d deep offset (lower h a c) (give.node t y (Member a offset) w) (lower_good a c (give.parts t y (Member a offset) w) g)
    place_good (Node t y (Deref a)) c w g = lower_good a c (give.parts t y (Deref a) w) g
    place_good (Node t y form) c w g = g

    arguments_good : (args : Expressions) (c : Code) → EachExpression N args → Good P D d c → Good P D d (arguments h args c).code
    arguments_good NoExpression c w g = g
    arguments_good (OneExpression e rest) c w g = arguments_good rest (lower h e c).code w.1 (lower_good e c w.0 g)
