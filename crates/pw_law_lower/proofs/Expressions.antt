-- What the code of an expression adds: less than four temporaries and arguments of calls for each node.
use Rattle.std.proofs.Common.{◌≡◌, ℕ, ◌+◌, ◌*◌, ◌==◌, Bool, true, false, if◌then◌else◌, Option, Some, None, List, length, refl, arith}
use Rattle.pw_value.specs.declared.value.Kind.{Kind}
use Rattle.pw_types.specs.Rooms.{expr_nodes, nodes_of_all}
use Rattle.pw_types.specs.Kinds.{is_record}
use Rattle.pw_types.specs.TypeTrees.{CType, Void, type_of, RecordValue}
use Rattle.pw_types.specs.TypedTrees.{Expression, Node, type_at, Number, Str, Local, Global, Function, Unary, Binary, Logic, Cond, Comma, Assign, Compound, Step, Cast, Decay, Member, Deref, Address, Call, CallValue, Expressions, NoExpression, OneExpression, Hidden}
use Rattle.pw_types.specs.WellTyped.{promoted_type}
use Rattle.pw_types.specs.declared.tree.UnaryOperator.{UnaryOperator}
use Rattle.pw_types.specs.declared.tree.UnaryOperator.TheVariants as unary
use Rattle.pw_types.specs.declared.tree.BinaryOperator.{BinaryOperator}
use Rattle.pw_types.specs.declared.tree.BinaryOperator.TheVariants as binary
use Rattle.pw_types.specs.declared.tree.LogicOperator.TheVariants as logic
use Rattle.pw_flow.specs.declared.flow.Op.{Op}
use Rattle.pw_flow.specs.declared.flow.Op.TheVariants as op
use Rattle.pw_flow.specs.declared.flow.BinKind.{BinKind}
use Rattle.pw_flow.specs.declared.flow.BinKind.TheVariants.{Add, Sub, Mul, DivS, Eq, Ne}
use Rattle.pw_flow.specs.declared.flow.ExtKind.{ExtKind}
use Rattle.pw_flow.specs.declared.flow.End.TheVariants.{Jump, Branch}
use Rattle.pw_lower.specs.declared.code.Code.{Code}
use Rattle.pw_lower.specs.declared.place.LocalPlace.{LocalPlace}
use Rattle.pw_lower.specs.declared.place.LocalPlace.TheVariants.{Temp, Slot}
use Rattle.pw_lower.specs.declared.place.Target.{Target}
use Rattle.pw_lower.specs.declared.place.Target.TheVariants.{Kept, Named, Led}
use Rattle.pw_lower.specs.Codes.{Lowered, lowered_as, temp_of, emit, fresh, constant, reserve, reserve_temps, cut_here, value_is}
use Rattle.pw_lower.specs.Places.{place_at}
use Rattle.pw_lower.specs.Operators.{kind_of, with, scaled, moved_by, distance, on_numbers, operation_of, is_turned, sum_or, combined, is_signed, target_size, truth_in, unary_on, extension, extending, extended, converted, step_operator, is_behind, bytes_of, unit_of}
use Rattle.pw_flow.specs.FrameRooms.{argument_count}
use Rattle.pw_lower.specs.Expressions.{Home, Placed, full_name, shape_at, read_target, read, write, further, address_of_global, address_of_local, target_of_local, value_at, value_of_global, value_of_local, stored, copied, scalar_kind, updated, fork, in_result, decides, says, gives, is_void, lower, place, arguments}
use Rattle.pw_law_lower.proofs.Growth.{Grows, joins, within, same, emits, reserves_temps, reserves, cuts, turns, adds}

-- ---- steps

pub constant-adds : (n : ℕ) (c : Code) → Grows c (constant n c).code 0 1
constant-adds n c = adds (λ t. op.Const t n) 0 c refl

pub with-adds : (k : BinKind) (a : ℕ) (x : Lowered) → Grows x.code (with k a x).code 0 1
with-adds k a x = adds (λ t. op.Bin k t a (temp_of x)) 0 x.code refl

-- by whether a size is 1
scaled-by : (b : Bool) (size n : ℕ) (c : Code) → Grows c (if b then value_is n c else with Mul n (constant size c)).code 0 2
scaled-by true size n c = within (same c) (omega arith)
scaled-by false size n c = within (joins (constant-adds size c) (with-adds Mul n (constant size c))) (omega arith)

moved_by-adds : (k : BinKind) (size p n : ℕ) (c : Code) → Grows c (moved_by k size p n c).code 0 3
moved_by-adds k size p n c = within (joins (scaled-by (size == 1) size n c) (with-adds k p (scaled size n c))) (omega arith)

in_elements-by : (b : Bool) (size : ℕ) (x : Lowered) → Grows x.code (if b then x else with DivS (temp_of x) (constant size x.code)).code 0 2
in_elements-by true size x = within (same x.code) (omega arith)
in_elements-by false size x = within (joins (constant-adds size x.code) (with-adds DivS (temp_of x) (constant size x.code))) (omega arith)

distance-adds : (size p q : ℕ) (c : Code) → Grows c (distance size p q c).code 0 3
distance-adds size p q c =
    within (joins (adds (λ t. op.Bin Sub t p q) 0 c refl) (in_elements-by (size == 1) size _)) (omega arith)

turned-by : (b : Bool) (k : BinKind) (p q : ℕ) (c : Code) → Grows c (if b then fresh (λ t. op.Bin k t q p) c else fresh (λ t. op.Bin k t p q) c).code 0 3
turned-by true k p q c = within (adds (λ t. op.Bin k t q p) 0 c refl) (omega arith)
turned-by false k p q c = within (adds (λ t. op.Bin k t p q) 0 c refl) (omega arith)

on_numbers-adds : (o : BinaryOperator) (s : Bool) (p q : ℕ) (c : Code) → Grows c (on_numbers o s p q c).code 0 3
on_numbers-adds o s p q c = turned-by (is_turned o) (operation_of o s) p q c

sum_or-adds : (o : BinaryOperator) (s : Bool) (left right : Option ℕ) (p q : ℕ) (c : Code) → Grows c (sum_or o s left right p q c).code 0 3
sum_or-adds binary.Add s (Some size) right p q c = moved_by-adds Add size p q c
sum_or-adds binary.Add s None (Some size) p q c = moved_by-adds Add size q p c
sum_or-adds binary.Add s None None p q c = on_numbers-adds binary.Add s p q c
sum_or-adds binary.Subtract s (Some size) (Some other) p q c = distance-adds size p q c
sum_or-adds binary.Subtract s (Some size) None p q c = moved_by-adds Sub size p q c
sum_or-adds binary.Subtract s None right p q c = on_numbers-adds binary.Subtract s p q c
sum_or-adds o s left right p q c = on_numbers-adds o s p q c

extended-adds : (k : Option ExtKind) (t : ℕ) (c : Code) → Grows c (extended k t c).code 0 1
extended-adds None t c = within (same c) (omega arith)
extended-adds (Some k) t c = adds (extending k t) 0 c refl

converted-adds : (from to : Option Kind) (x : Lowered) → Grows x.code (converted from to x).code 0 1
converted-adds None to x = within (same x.code) (omega arith)
converted-adds (Some from) None x = within (same x.code) (omega arith)
converted-adds (Some from) (Some to) x = extended-adds (extension from to) (temp_of x) x.code

truth_in-adds : (r t : ℕ) (c : Code) → Grows c (truth_in r t c) 0 1
truth_in-adds r t c = within (joins (constant-adds 0 c) (emits (op.Bin Ne r t (temp_of (constant 0 c))) 0 (constant 0 c).code refl)) (omega arith)

unary_on-adds : (o : UnaryOperator) (t : ℕ) (c : Code) → Grows c (unary_on o t c).code 0 2
unary_on-adds unary.Plus t c = within (same c) (omega arith)
unary_on-adds unary.Minus t c = within (adds (λ r. op.Un _ r t) 0 c refl) (omega arith)
unary_on-adds unary.Complement t c = within (adds (λ r. op.Un _ r t) 0 c refl) (omega arith)
unary_on-adds unary.Not t c = within (joins (constant-adds 0 c) (with-adds Eq t (constant 0 c))) (omega arith)

-- ---- lvalues

read_target-adds : (k : Kind) (target : Target) (c : Code) → Grows c (read_target k target c).code 0 1
read_target-adds k (Kept x) c = adds (λ t. op.Copy t x) 0 c refl
read_target-adds k (Named g) c = adds (λ t. op.LoadG t g k) 0 c refl
read_target-adds k (Led p) c = adds (λ t. op.Load k t p) 0 c refl

write-adds : (k : Kind) (target : Target) (v : ℕ) (c : Code) → Grows c (write k target v c) 0 0
write-adds k (Kept x) v c = emits (op.Copy x v) 0 c refl
write-adds k (Named g) v c = emits (op.StoreG g v k) 0 c refl
write-adds k (Led p) v c = emits (op.Store k p v) 0 c refl

further-by : (b : Bool) (offset : ℕ) (x : Lowered) → Grows x.code (if b then x else with Add (temp_of x) (constant offset x.code)).code 0 2
further-by true offset x = within (same x.code) (omega arith)
further-by false offset x = within (joins (constant-adds offset x.code) (with-adds Add (temp_of x) (constant offset x.code))) (omega arith)

further-adds : (offset : ℕ) (x : Lowered) → Grows x.code (further offset x).code 0 2
further-adds offset x = further-by (offset == 0) offset x

pub address_of_global-adds : (g : List ℕ) (c : Code) → Grows c (address_of_global g c).code 0 1
address_of_global-adds g c = adds (λ t. op.AddrGlobal t g 0) 0 c refl

pub address_of_local-adds : (p : LocalPlace) (c : Code) → Grows c (address_of_local p c).code 0 1
address_of_local-adds (Temp x) c = within (same c) (omega arith)
address_of_local-adds (Slot s) c = adds (λ t. op.AddrSlot t s) 0 c refl

pub target_of_local-adds : (p : LocalPlace) (c : Code) → Grows c (target_of_local p c).code 0 1
target_of_local-adds (Temp x) c = within (same c) (omega arith)
target_of_local-adds (Slot s) c = adds (λ t. op.AddrSlot t s) 0 c refl

value_at-adds : (k : Option Kind) (x : Lowered) → Grows x.code (value_at k x).code 0 1
value_at-adds None x = within (same x.code) (omega arith)
value_at-adds (Some k) x = read_target-adds k (Led (temp_of x)) x.code

value_of_global-adds : (k : Option Kind) (g : List ℕ) (c : Code) → Grows c (value_of_global k g c).code 0 1
value_of_global-adds None g c = address_of_global-adds g c
value_of_global-adds (Some k) g c = read_target-adds k (Named g) c

value_of_local-adds : (k : Option Kind) (p : LocalPlace) (c : Code) → Grows c (value_of_local k p c).code 0 2
value_of_local-adds None (Temp x) c = within (same c) (omega arith)
value_of_local-adds (Some k) (Temp x) c = within (read_target-adds k (Kept x) c) (omega arith)
value_of_local-adds None (Slot s) c = within (address_of_local-adds (Slot s) c) (omega arith)
value_of_local-adds (Some k) (Slot s) c =
    within (joins (address_of_local-adds (Slot s) c) (value_at-adds (Some k) (address_of_local (Slot s) c))) (omega arith)

-- ---- assignments

pub stored-adds : (k : Kind) (target : Target) (x : Lowered) → Grows x.code (stored k target x).code 0 0
stored-adds k target x = write-adds k target (temp_of x) x.code

pub copied-adds : (records : List RecordValue) (ty : CType) (to : ℕ) (x : Lowered) → Grows x.code (copied records ty to x).code 0 0
copied-adds records ty to x = emits (op.Move to (temp_of x) (bytes_of records ty) (unit_of records ty)) 0 x.code refl

updated-adds : (records : List RecordValue) (o : BinaryOperator) (ty right : CType) (own : Kind) (target : Target) (old : ℕ) (x : Lowered) → Grows x.code (updated records o ty right own target old x).code 0 4
updated-adds records o ty right own target old x =
    let s = combined records o ty right old (temp_of x) x.code in
    let v = converted (kind_of ty) (Some own) s in
    within (joins (joins (sum_or-adds o (is_signed ty) (target_size records ty) (target_size records right) old (temp_of x) x.code) (converted-adds (kind_of ty) (Some own) s)) (stored-adds own target v)) (omega arith)

step_value-by : {s n : ℕ} (b : Bool) (old : ℕ) (c : Code) (x : Lowered) → Grows c x.code s n → Grows c (if b then record x { temp = Some old } else x).code s n
step_value-by true old c x g = g
step_value-by false old c x g = g

-- ---- the rest

fork-adds : (n : ℕ) (x : Lowered) → Grows x.code (fork n x).code 0 n
fork-adds n x =
    within (joins (joins (reserves_temps n x.code) (reserves 3 (reserve_temps n x.code))) (cuts (Branch (temp_of x) x.code.blocks (x.code.blocks + 1)) x.code.blocks x.code.depth (reserve 3 (reserve_temps n x.code)))) (omega arith)

cast_to-by : (b : Bool) (to from : CType) (x : Lowered) → Grows x.code (if b then lowered_as None x.code else converted (kind_of from) (kind_of to) x).code 0 1
cast_to-by true to from x = within (same x.code) (omega arith)
cast_to-by false to from x = converted-adds (kind_of from) (kind_of to) x

called-by : (b : Bool) (o : Option ℕ → Op) (n : ℕ) (c : Code) → ((r : Option ℕ) → argument_count (o r) ≡ n) → Grows c (if b then lowered_as None (emit (o None) c) else fresh (λ t. o (Some t)) c).code 0 (1 + n)
called-by true o n c h = within (emits (o None) n c (h None)) (omega arith)
called-by false o n c h = adds (λ t. o (Some t)) n c (h (Some c.temps))

-- by whether the type is void
cond-by :
    (v : Bool) (x : Lowered) (first second : Code → Lowered) (n m : ℕ)
    → ((c : Code) → Grows c (first c).code 1 n) → ((c : Code) → Grows c (second c).code 1 m)
    → Grows x.code
    (if v
    then (let f = fork 0 x in
    let yes = cut_here (Jump f.join) f.if_not (first f.code).code in
    lowered_as None (cut_here (Jump f.join) f.join (second yes).code))
    else (let f = fork 1 x in
    let yes = cut_here (Jump f.join) f.if_not (gives f.result (first f.code)) in
    in_result f.result (cut_here (Jump f.join) f.join (gives f.result (second yes))))).code 2 (1 + (n + m))
cond-by true x first second n m g h =
    let f = fork 0 x in
    let yes = cut_here (Jump f.join) f.if_not (first f.code).code in
    within
    (joins (fork-adds 0 x) (joins (g f.code) (joins (turns (Jump f.join) f.if_not (first f.code).code) (joins (h yes) (turns (Jump f.join) f.join (second yes).code)))))
    (omega arith)
cond-by false x first second n m g h =
    let f = fork 1 x in
    let so = first f.code in
    let yes = cut_here (Jump f.join) f.if_not (gives f.result so) in
    let other = second yes in
    within
    (joins (fork-adds 1 x) (joins (g f.code) (joins (emits (op.Copy f.result (temp_of so)) 0 so.code refl) (joins (turns (Jump f.join) f.if_not (gives f.result so))
    (joins (h yes) (joins (emits (op.Copy f.result (temp_of other)) 0 other.code refl) (turns (Jump f.join) f.join (gives f.result other))))))))
    (omega arith)

-- by whether the type is a record
assign-by :
    (v : Bool) (records : List RecordValue) (ty : CType) (k : Kind) (c : Code) (x : Lowered) (p : Placed) (second : Code → Lowered) (n m : ℕ)
    → Grows c x.code 1 n → Grows c p.code 3 n → ((d : Code) → Grows d (second d).code 1 m)
    → Grows c (if v then copied records ty (temp_of x) (second x.code) else stored k p.target (second p.code)).code 2 (n + m)
assign-by true records ty k c x p second n m g q h =
    within (joins g (joins (h x.code) (copied-adds records ty (temp_of x) (second x.code)))) (omega arith)
assign-by false records ty k c x p second n m g q h =
    within (joins q (joins (h p.code) (stored-adds k p.target (second p.code)))) (omega arith)

-- ---- expressions

mutual
  unfolding lower

  pub lower-adds : (h : Home) (e : Expression) (c : Code) → Grows c (lower h e c).code 1 (4 * expr_nodes e)
  lower-adds h (Node t ty (Number n)) c = within (constant-adds n c) (omega arith)
  lower-adds h (Node t ty (Str k)) c = within (address_of_global-adds (full_name h.name (Hidden k)) c) (omega arith)
  lower-adds h (Node t ty (Local k)) c = within (value_of_local-adds (kind_of (type_of ty)) (place_at h.places k) c) (omega arith)
  lower-adds h (Node t ty (Global s)) c = within (value_of_global-adds (kind_of (type_of ty)) (full_name h.name s) c) (omega arith)
  lower-adds h (Node t ty (Function s)) c = within (adds (λ t. op.AddrFn t (full_name h.name s)) 0 c refl) (omega arith)
  lower-adds h (Node t ty (Unary o a)) c =
      let x = lower h a c in within (joins (lower-adds h a c) (unary_on-adds o (temp_of x) x.code)) (omega arith)
  lower-adds h (Node t ty (Binary o a b)) c =
      let x = lower h a c in
      let y = lower h b x.code in
      within
      (joins (lower-adds h a c) (joins (lower-adds h b x.code) (sum_or-adds o (is_signed (type_of (type_at a))) (target_size h.records (type_of (type_at a))) (target_size h.records (type_of (type_at b))) (temp_of x) (temp_of y) y.code)))
      (omega arith)
  lower-adds h (Node t ty (Logic logic.And a b)) c =
      let x = lower h a c in
      let f = fork 1 x in
      let y = lower h b f.code in
      let d = decides f.result y in
      let yes = cut_here (Jump f.join) f.if_not d in
      within
      (joins (lower-adds h a c) (joins (fork-adds 1 x) (joins (lower-adds h b f.code) (joins (truth_in-adds f.result (temp_of y) y.code) (joins (turns (Jump f.join) f.if_not d)
      (joins (emits (op.Const f.result 0) 0 yes refl) (turns (Jump f.join) f.join (says f.result 0 yes))))))))
      (omega arith)
  lower-adds h (Node t ty (Logic logic.Or a b)) c =
      let x = lower h a c in
      let f = fork 1 x in
      let yes = cut_here (Jump f.join) f.if_not (says f.result 1 f.code) in
      let y = lower h b yes in
      within
      (joins (lower-adds h a c) (joins (fork-adds 1 x) (joins (emits (op.Const f.result 1) 0 f.code refl) (joins (turns (Jump f.join) f.if_not (says f.result 1 f.code))
      (joins (lower-adds h b yes) (joins (truth_in-adds f.result (temp_of y) y.code) (turns (Jump f.join) f.join (decides f.result y))))))))
      (omega arith)
  lower-adds h (Node t ty (Cond a b d)) c =
      within
      (joins (lower-adds h a c) (cond-by (is_void (type_of ty)) (lower h a c) (λ c. lower h b c) (λ c. lower h d c) (4 * expr_nodes b) (4 * expr_nodes d) (λ c. lower-adds h b c) (λ c. lower-adds h d c)))
      (omega arith)
  lower-adds h (Node t ty (Comma a b)) c = within (joins (lower-adds h a c) (lower-adds h b (lower h a c).code)) (omega arith)
  lower-adds h (Node t ty (Assign a b)) c =
      within
      (assign-by (is_record (type_of ty)) h.records (type_of ty) (scalar_kind (type_of ty)) c (lower h a c) (place h a c) (λ d. lower h b d) (4 * expr_nodes a) (4 * expr_nodes b) (lower-adds h a c) (place-adds h a c) (λ d. lower-adds h b d))
      (omega arith)
  lower-adds h (Node t ty (Compound o work a b)) c =
      let p = place h a c in
      let old = read (scalar_kind (type_of ty)) p in
      let y = lower h b old.code in
      within
      (joins (place-adds h a c) (joins (read_target-adds (scalar_kind (type_of ty)) p.target p.code) (joins (lower-adds h b old.code)
      (updated-adds h.records o work (type_of (type_at b)) (scalar_kind (type_of ty)) p.target (temp_of old) y))))
      (omega arith)
  lower-adds h (Node t ty (Step o a)) c =
      let p = place h a c in
      let old = read (scalar_kind (type_of ty)) p in
      let one = constant 1 old.code in
      within
      (step_value-by (is_behind o) (temp_of old) c (updated h.records (step_operator o) (promoted_type (type_of ty)) Void (scalar_kind (type_of ty)) p.target (temp_of old) one)
      (joins (place-adds h a c) (joins (read_target-adds (scalar_kind (type_of ty)) p.target p.code) (joins (constant-adds 1 old.code)
      (updated-adds h.records (step_operator o) (promoted_type (type_of ty)) Void (scalar_kind (type_of ty)) p.target (temp_of old) one)))))
      (omega arith)
  lower-adds h (Node t ty (Cast a)) c =
      within (joins (lower-adds h a c) (cast_to-by (is_void (type_of ty)) (type_of ty) (type_of (type_at a)) (lower h a c))) (omega arith)
  lower-adds h (Node t ty (Decay a)) c = within (lower-adds h a c) (omega arith)
  lower-adds h (Node t ty (Member a offset)) c =
      let x = lower h a c in
      within (joins (lower-adds h a c) (joins (further-adds offset x) (value_at-adds (kind_of (type_of ty)) (further offset x)))) (omega arith)
  lower-adds h (Node t ty (Deref a)) c =
      within (joins (lower-adds h a c) (value_at-adds (kind_of (type_of ty)) (lower h a c))) (omega arith)
  lower-adds h (Node t ty (Address (Node u own (Local k)))) c = within (address_of_local-adds (place_at h.places k) c) (omega arith)
  lower-adds h (Node t ty (Address (Node u own (Global s)))) c = within (address_of_global-adds (full_name h.name s) c) (omega arith)
  lower-adds h (Node t ty (Address (Node u own (Deref a)))) c = within (lower-adds h a c) (omega arith)
  lower-adds h (Node t ty (Address (Node u own (Member a offset)))) c =
      within (joins (lower-adds h a c) (further-adds offset (lower h a c))) (omega arith)
  lower-adds h (Node t ty (Address a)) c = within (lower-adds h a c) (omega arith)
  lower-adds h (Node t ty (Call s args)) c =
      let xs = arguments h args c in
      within
      (joins (arguments-adds h args c) (called-by (is_void (type_of ty)) (λ r. op.Call r (full_name h.name s) xs.temps) (length xs.temps) xs.code (λ r. refl)))
      (omega arith)
  lower-adds h (Node t ty (CallValue a args)) c =
      let x = lower h a c in
      let xs = arguments h args x.code in
      within
      (joins (lower-adds h a c) (joins (arguments-adds h args x.code) (called-by (is_void (type_of ty)) (λ r. op.CallInd r (temp_of x) (shape_at h.records (type_at a)) xs.temps) (length xs.temps) xs.code (λ r. refl))))
      (omega arith)

  pub place-adds : (h : Home) (e : Expression) (c : Code) → Grows c (place h e c).code 3 (4 * expr_nodes e)
  place-adds h (Node t ty (Local k)) c = within (target_of_local-adds (place_at h.places k) c) (omega arith)
  place-adds h (Node t ty (Global s)) c = within (same c) (omega arith)
  place-adds h (Node t ty (Member a offset)) c = within (joins (lower-adds h a c) (further-adds offset (lower h a c))) (omega arith)
  place-adds h (Node t ty (Deref a)) c = within (lower-adds h a c) (omega arith)
  place-adds h (Node t ty form) c = within (same c) (omega arith)

  pub arguments-adds : (h : Home) (args : Expressions) (c : Code) → Grows c (arguments h args c).code (length (arguments h args c).temps) (4 * nodes_of_all args)
  arguments-adds h NoExpression c = within (same c) (omega arith)
  arguments-adds h (OneExpression a rest) c = within (joins (lower-adds h a c) (arguments-adds h rest (lower h a c).code)) (omega arith)
