-- What blocks the code of an expression begins: those whose numbers were given out since, each once.
use Rattle.std.proofs.Common.{◌≡◌, ℕ, ◌+◌, ◌≤◌, ◌==◌, Bool, true, false, if◌then◌else◌, Option, Some, None, List, [], ◌∷◌, ◌++◌, refl, ap, ◌∙◌, arith}
use Rattle.pw_value.specs.declared.value.Kind.{Kind}
use Rattle.pw_types.specs.Kinds.{is_record}
use Rattle.pw_types.specs.TypeTrees.{CType, Void, type_of, RecordValue}
use Rattle.pw_types.specs.TypedTrees.{Expression, Node, type_at, Number, Str, Local, Global, Function, Unary, Binary, Logic, Cond, Comma, Assign, Compound, Step, Cast, Decay, Member, Deref, Address, Call, CallValue, Expressions, NoExpression, OneExpression, Hidden}
use Rattle.pw_types.specs.WellTyped.{promoted_type}
use Rattle.pw_types.specs.declared.tree.UnaryOperator.{UnaryOperator}
use Rattle.pw_types.specs.declared.tree.UnaryOperator.TheVariants as unary
use Rattle.pw_types.specs.declared.tree.BinaryOperator.{BinaryOperator}
use Rattle.pw_types.specs.declared.tree.BinaryOperator.TheVariants as binary
use Rattle.pw_types.specs.declared.tree.LogicOperator.TheVariants as logic
use Rattle.pw_flow.specs.declared.flow.Op.{Op}
use Rattle.pw_flow.specs.declared.flow.Op.TheVariants as op
use Rattle.pw_flow.specs.declared.flow.End.{End}
use Rattle.pw_flow.specs.declared.flow.BinKind.{BinKind}
use Rattle.pw_flow.specs.declared.flow.BinKind.TheVariants.{Add, Sub, Mul, DivS, Eq, Ne}
use Rattle.pw_flow.specs.declared.flow.ExtKind.{ExtKind}
use Rattle.pw_flow.specs.declared.flow.End.TheVariants.{Jump, Branch}
use Rattle.pw_lower.specs.declared.code.Code.{Code}
use Rattle.pw_lower.specs.declared.code.Numbered.{Numbered}
use Rattle.pw_lower.specs.declared.place.LocalPlace.{LocalPlace}
use Rattle.pw_lower.specs.declared.place.LocalPlace.TheVariants.{Temp, Slot}
use Rattle.pw_lower.specs.declared.place.Target.{Target}
use Rattle.pw_lower.specs.declared.place.Target.TheVariants.{Kept, Named, Led}
use Rattle.pw_lower.specs.Codes.{Lowered, lowered_as, temp_of, emit, fresh, constant, cut, cut_here, value_is}
use Rattle.pw_lower.specs.Places.{place_at}
use Rattle.pw_lower.specs.Operators.{kind_of, with, scaled, moved_by, distance, on_numbers, operation_of, is_turned, sum_or, is_signed, target_size, truth_in, unary_on, extension, extending, extended, converted, combined, step_operator, is_behind, bytes_of, unit_of}
use Rattle.pw_lower.specs.Expressions.{Home, full_name, shape_at, read_target, read, write, further, address_of_global, address_of_local, target_of_local, value_at, value_of_global, value_of_local, stored, copied, scalar_kind, updated, fork, in_result, decides, says, gives, is_void, lower, place, arguments}
use Rattle.pw_law_refine.specs.Containing.{same, given, times_closed, begun, Spreads}

-- ---- numbers

pub given-more : (b n : ℕ) → given b (n + 1) ≡ given b n + same n b
given-more b n = grind arith

pub given-two : (b n : ℕ) → given b (n + 2) ≡ given b n + (same n b + same (n + 1) b)
given-two b n = grind arith

pub given-three : (b n : ℕ) → given b (n + 3) ≡ given b n + (same n b + (same (n + 1) b + same (n + 2) b))
given-three b n = grind arith

times_closed-append : (b : ℕ) (xs ys : List Numbered) → times_closed b (xs ++ ys) ≡ times_closed b xs + times_closed b ys
times_closed-append b [] ys = omega arith
times_closed-append b (x ∷ xs) ys = omega (arith, times_closed-append b xs ys)

-- ---- what is begun

abbrev pub none : ℕ → ℕ
none b = 0

-- The code d begins numbers that were given out since: of these it leaves `saved`, and begins `spent` besides them.
pub record Spread (c d : Code) (saved spent : ℕ → ℕ) : Type 0 where
  pub blocks : (b : ℕ) → begun b d + given b c.blocks + saved b ≤ begun b c + given b d.blocks + spent b
  pub counts : c.blocks ≤ d.blocks
  pub temps : c.temps ≤ d.temps
  pub labels : d.labels ≡ c.labels

pub joins : {c d e : Code} {s n s' n' : ℕ → ℕ} → Spread c d s n → Spread d e s' n' → Spread c e (λ b. s b + s' b) (λ b. n b + n' b)
joins f g = record {
  blocks = λ b. omega (arith, f.blocks b, g.blocks b);
  counts = omega (arith, f.counts, g.counts);
  temps = omega (arith, f.temps, g.temps);
  labels = g.labels ∙ f.labels;
}

pub within : {c d : Code} {s n k m : ℕ → ℕ} → Spread c d s n → ((b : ℕ) → n b + k b ≤ s b + m b) → Spread c d k m
within f h = record { blocks = λ b. omega (arith, f.blocks b, h b); counts = f.counts; temps = f.temps; labels = f.labels }

-- operations and temporaries more
pub stays : (c d : Code) → d.closed ≡ c.closed → d.cur ≡ c.cur → d.blocks ≡ c.blocks → c.temps ≤ d.temps → d.labels ≡ c.labels → Spread c d none none
stays c d closed cur blocks temps labels = record {
  blocks = λ b. omega (arith, ap (λ (n : ℕ). same n b) cur, ap (λ (l : List Numbered). times_closed b l) closed, ap (λ (n : ℕ). given b n) blocks);
  counts = omega (arith, blocks);
  temps = temps;
  labels = labels;
}

pub same_code : (c : Code) → Spread c c none none
same_code c = stays c c refl refl refl (omega arith) refl

pub emits : (o : Op) (c : Code) → Spread c (emit o c) none none
emits o c = stays c (emit o c) refl refl refl (omega arith) refl

pub adds : (o : ℕ → Op) (c : Code) → Spread c (fresh o c).code none none
adds o c = stays c (fresh o c).code refl refl refl (omega arith) refl

pub cuts : (end : End) (number depth : ℕ) (c : Code) → Spread c (cut end number depth c) none (λ b. same number b)
cuts end number depth c = record {
  blocks = λ b. omega (arith, times_closed-append b c.closed (record { number = c.cur; block = record { depth = c.depth; ops = c.ops; end = end } } ∷ []));
  counts = omega arith;
  temps = omega arith;
  labels = refl;
}

pub turns : (end : End) (number : ℕ) (c : Code) → Spread c (cut_here end number c) none (λ b. same number b)
turns end number c = cuts end number c.depth c

-- the result is one of two codes
either : {c : Code} {s n : ℕ → ℕ} (v : Bool) (x y : Lowered) → Spread c x.code s n → Spread c y.code s n → Spread c (if v then x else y).code s n
either true x y g h = g
either false x y g h = h

pub and : {c d e : Code} → Spread c d none none → Spread d e none none → Spread c e none none
and f g = within (joins f g) (λ b. omega arith)

-- ---- steps

pub constant-adds : (n : ℕ) (c : Code) → Spread c (constant n c).code none none
constant-adds n c = adds (λ t. op.Const t n) c

pub with-adds : (k : BinKind) (a : ℕ) (x : Lowered) → Spread x.code (with k a x).code none none
with-adds k a x = adds (λ t. op.Bin k t a (temp_of x)) x.code

pub scaled-adds : (size n : ℕ) (c : Code) → Spread c (scaled size n c).code none none
scaled-adds size n c =
    either (size == 1) (value_is n c) (with Mul n (constant size c)) (same_code c) (and (constant-adds size c) (with-adds Mul n (constant size c)))

moved_by-adds : (k : BinKind) (size p n : ℕ) (c : Code) → Spread c (moved_by k size p n c).code none none
moved_by-adds k size p n c = and (scaled-adds size n c) (with-adds k p (scaled size n c))

distance-adds : (size p q : ℕ) (c : Code) → Spread c (distance size p q c).code none none
distance-adds size p q c =
    let x = fresh (λ t. op.Bin Sub t p q) c in
    and (adds (λ t. op.Bin Sub t p q) c) (either (size == 1) x (with DivS (temp_of x) (constant size x.code)) (same_code x.code) (and (constant-adds size x.code) (with-adds DivS (temp_of x) (constant size x.code))))

on_numbers-adds : (o : BinaryOperator) (s : Bool) (p q : ℕ) (c : Code) → Spread c (on_numbers o s p q c).code none none
on_numbers-adds o s p q c =
    either (is_turned o) (fresh (λ t. op.Bin (operation_of o s) t q p) c) (fresh (λ t. op.Bin (operation_of o s) t p q) c)
    (adds (λ t. op.Bin (operation_of o s) t q p) c) (adds (λ t. op.Bin (operation_of o s) t p q) c)

pub sum_or-adds : (o : BinaryOperator) (s : Bool) (left right : Option ℕ) (p q : ℕ) (c : Code) → Spread c (sum_or o s left right p q c).code none none
sum_or-adds binary.Add s (Some size) right p q c = moved_by-adds Add size p q c
sum_or-adds binary.Add s None (Some size) p q c = moved_by-adds Add size q p c
sum_or-adds binary.Add s None None p q c = on_numbers-adds binary.Add s p q c
sum_or-adds binary.Subtract s (Some size) (Some other) p q c = distance-adds size p q c
sum_or-adds binary.Subtract s (Some size) None p q c = moved_by-adds Sub size p q c
sum_or-adds binary.Subtract s None right p q c = on_numbers-adds binary.Subtract s p q c
sum_or-adds o s left right p q c = on_numbers-adds o s p q c

extended-adds : (k : Option ExtKind) (t : ℕ) (c : Code) → Spread c (extended k t c).code none none
extended-adds None t c = same_code c
extended-adds (Some k) t c = adds (extending k t) c

converted-adds : (from to : Option Kind) (x : Lowered) → Spread x.code (converted from to x).code none none
converted-adds None to x = same_code x.code
converted-adds (Some from) None x = same_code x.code
converted-adds (Some from) (Some to) x = extended-adds (extension from to) (temp_of x) x.code

truth_in-adds : (r t : ℕ) (c : Code) → Spread c (truth_in r t c) none none
truth_in-adds r t c = and (constant-adds 0 c) (emits (op.Bin Ne r t (temp_of (constant 0 c))) (constant 0 c).code)

unary_on-adds : (o : UnaryOperator) (t : ℕ) (c : Code) → Spread c (unary_on o t c).code none none
unary_on-adds unary.Plus t c = same_code c
unary_on-adds unary.Minus t c = adds (λ r. op.Un _ r t) c
unary_on-adds unary.Complement t c = adds (λ r. op.Un _ r t) c
unary_on-adds unary.Not t c = and (constant-adds 0 c) (with-adds Eq t (constant 0 c))

-- ---- lvalues

read_target-adds : (k : Kind) (target : Target) (c : Code) → Spread c (read_target k target c).code none none
read_target-adds k (Kept x) c = adds (λ t. op.Copy t x) c
read_target-adds k (Named g) c = adds (λ t. op.LoadG t g k) c
read_target-adds k (Led p) c = adds (λ t. op.Load k t p) c

write-adds : (k : Kind) (target : Target) (v : ℕ) (c : Code) → Spread c (write k target v c) none none
write-adds k (Kept x) v c = emits (op.Copy x v) c
write-adds k (Named g) v c = emits (op.StoreG g v k) c
write-adds k (Led p) v c = emits (op.Store k p v) c

pub further-adds : (offset : ℕ) (x : Lowered) → Spread x.code (further offset x).code none none
further-adds offset x =
    either (offset == 0) x (with Add (temp_of x) (constant offset x.code)) (same_code x.code)
    (and (constant-adds offset x.code) (with-adds Add (temp_of x) (constant offset x.code)))

pub address_of_global-adds : (g : List ℕ) (c : Code) → Spread c (address_of_global g c).code none none
address_of_global-adds g c = adds (λ t. op.AddrGlobal t g 0) c

pub address_of_local-adds : (p : LocalPlace) (c : Code) → Spread c (address_of_local p c).code none none
address_of_local-adds (Temp x) c = same_code c
address_of_local-adds (Slot s) c = adds (λ t. op.AddrSlot t s) c

pub target_of_local-adds : (p : LocalPlace) (c : Code) → Spread c (target_of_local p c).code none none
target_of_local-adds (Temp x) c = same_code c
target_of_local-adds (Slot s) c = adds (λ t. op.AddrSlot t s) c

value_at-adds : (k : Option Kind) (x : Lowered) → Spread x.code (value_at k x).code none none
value_at-adds None x = same_code x.code
value_at-adds (Some k) x = read_target-adds k (Led (temp_of x)) x.code

value_of_global-adds : (k : Option Kind) (g : List ℕ) (c : Code) → Spread c (value_of_global k g c).code none none
value_of_global-adds None g c = address_of_global-adds g c
value_of_global-adds (Some k) g c = read_target-adds k (Named g) c

value_of_local-adds : (k : Option Kind) (p : LocalPlace) (c : Code) → Spread c (value_of_local k p c).code none none
value_of_local-adds None (Temp x) c = same_code c
value_of_local-adds (Some k) (Temp x) c = read_target-adds k (Kept x) c
value_of_local-adds None (Slot s) c = address_of_local-adds (Slot s) c
value_of_local-adds (Some k) (Slot s) c = and (address_of_local-adds (Slot s) c) (value_at-adds (Some k) (address_of_local (Slot s) c))

-- ---- assignments

pub stored-adds : (k : Kind) (target : Target) (x : Lowered) → Spread x.code (stored k target x).code none none
stored-adds k target x = write-adds k target (temp_of x) x.code

pub copied-adds : (records : List RecordValue) (ty : CType) (to : ℕ) (x : Lowered) → Spread x.code (copied records ty to x).code none none
copied-adds records ty to x = emits (op.Move to (temp_of x) (bytes_of records ty) (unit_of records ty)) x.code

pub updated-adds : (records : List RecordValue) (o : BinaryOperator) (ty right : CType) (own : Kind) (target : Target) (old : ℕ) (x : Lowered) → Spread x.code (updated records o ty right own target old x).code none none
updated-adds records o ty right own target old x =
    let s = combined records o ty right old (temp_of x) x.code in
    let v = converted (kind_of ty) (Some own) s in
    and (sum_or-adds o (is_signed ty) (target_size records ty) (target_size records right) old (temp_of x) x.code) (and (converted-adds (kind_of ty) (Some own) s) (stored-adds own target v))

-- ---- forks

-- the block that is filled first of the three is begun
fork-spreads : (n : ℕ) (x : Lowered) → Spread x.code (fork n x).code (λ b. same (x.code.blocks + 1) b + same (x.code.blocks + 2) b) none
fork-spreads n x = record {
  blocks = λ b. omega (arith, given-three b x.code.blocks, times_closed-append b x.code.closed (record { number = x.code.cur; block = record { depth = x.code.depth; ops = x.code.ops; end = Branch (temp_of x) x.code.blocks (x.code.blocks + 1) } } ∷ []));
  counts = omega arith;
  temps = omega arith;
  labels = refl;
}

called-adds : (v : Bool) (o : Option ℕ → Op) (c : Code) → Spread c (if v then lowered_as None (emit (o None) c) else fresh (λ t. o (Some t)) c).code none none
called-adds v o c = either v (lowered_as None (emit (o None) c)) (fresh (λ t. o (Some t)) c) (emits (o None) c) (adds (λ t. o (Some t)) c)

-- both ways of `?:`, each ending where the two join
ways-spread :
    (n : ℕ) (x : Lowered) (first second : Code → Code)
    → ((c : Code) → Spread c (first c) none none) → ((c : Code) → Spread c (second c) none none)
    → Spread x.code (cut_here (Jump (fork n x).join) (fork n x).join (second (cut_here (Jump (fork n x).join) (fork n x).if_not (first (fork n x).code)))) none none
ways-spread n x first second g h =
    let f = fork n x in
    let yes = cut_here (Jump f.join) f.if_not (first f.code) in
    within
    (joins (fork-spreads n x) (joins (g f.code) (joins (turns (Jump f.join) f.if_not (first f.code)) (joins (h yes) (turns (Jump f.join) f.join (second yes))))))
    (λ b. omega arith)

-- by whether the type is void
cond-spreads :
    (v : Bool) (x : Lowered) (first second : Code → Lowered)
    → ((c : Code) → Spread c (first c).code none none) → ((c : Code) → Spread c (second c).code none none)
    → Spread x.code
    (if v
    then (let f = fork 0 x in
    let yes = cut_here (Jump f.join) f.if_not (first f.code).code in
    lowered_as None (cut_here (Jump f.join) f.join (second yes).code))
    else (let f = fork 1 x in
    let yes = cut_here (Jump f.join) f.if_not (gives f.result (first f.code)) in
    in_result f.result (cut_here (Jump f.join) f.join (gives f.result (second yes))))).code none none
cond-spreads true x first second g h = ways-spread 0 x (λ d. (first d).code) (λ d. (second d).code) g h
cond-spreads false x first second g h =
    let r = (fork 1 x).result in
    ways-spread 1 x (λ d. gives r (first d)) (λ d. gives r (second d))
    (λ d. and (g d) (emits (op.Copy r (temp_of (first d))) (first d).code))
    (λ d. and (h d) (emits (op.Copy r (temp_of (second d))) (second d).code))

-- ---- expressions

mutual
  unfolding lower

  pub lower-spreads : (h : Home) (e : Expression) (c : Code) → Spread c (lower h e c).code none none
  lower-spreads h (Node t ty (Number n)) c = constant-adds n c
  lower-spreads h (Node t ty (Str k)) c = address_of_global-adds (full_name h.name (Hidden k)) c
  lower-spreads h (Node t ty (Local k)) c = value_of_local-adds (kind_of (type_of ty)) (place_at h.places k) c
  lower-spreads h (Node t ty (Global s)) c = value_of_global-adds (kind_of (type_of ty)) (full_name h.name s) c
  lower-spreads h (Node t ty (Function s)) c = adds (λ t. op.AddrFn t (full_name h.name s)) c
  lower-spreads h (Node t ty (Unary o a)) c = let x = lower h a c in and (lower-spreads h a c) (unary_on-adds o (temp_of x) x.code)
  lower-spreads h (Node t ty (Binary o a b)) c =
      let x = lower h a c in
      let y = lower h b x.code in
      and (lower-spreads h a c) (and (lower-spreads h b x.code)
      (sum_or-adds o (is_signed (type_of (type_at a))) (target_size h.records (type_of (type_at a))) (target_size h.records (type_of (type_at b))) (temp_of x) (temp_of y) y.code))
  lower-spreads h (Node t ty (Logic logic.And a b)) c =
      let x = lower h a c in
      let r = (fork 1 x).result in
      and (lower-spreads h a c)
      (ways-spread 1 x (λ d. decides r (lower h b d)) (λ d. says r 0 d)
      (λ d. and (lower-spreads h b d) (truth_in-adds r (temp_of (lower h b d)) (lower h b d).code)) (λ d. emits (op.Const r 0) d))
  lower-spreads h (Node t ty (Logic logic.Or a b)) c =
      let x = lower h a c in
      let r = (fork 1 x).result in
      and (lower-spreads h a c)
      (ways-spread 1 x (λ d. says r 1 d) (λ d. decides r (lower h b d))
      (λ d. emits (op.Const r 1) d) (λ d. and (lower-spreads h b d) (truth_in-adds r (temp_of (lower h b d)) (lower h b d).code)))
  lower-spreads h (Node t ty (Cond a b d)) c =
      and (lower-spreads h a c) (cond-spreads (is_void (type_of ty)) (lower h a c) (λ c. lower h b c) (λ c. lower h d c) (λ c. lower-spreads h b c) (λ c. lower-spreads h d c))
  lower-spreads h (Node t ty (Comma a b)) c = and (lower-spreads h a c) (lower-spreads h b (lower h a c).code)
  lower-spreads h (Node t ty (Assign a b)) c =
      let x = lower h a c in
      let p = place h a c in
      let k = scalar_kind (type_of ty) in
      either (is_record (type_of ty)) (copied h.records (type_of ty) (temp_of x) (lower h b x.code)) (stored k p.target (lower h b p.code))
      (and (lower-spreads h a c) (and (lower-spreads h b x.code) (copied-adds h.records (type_of ty) (temp_of x) (lower h b x.code))))
      (and (place-spreads h a c) (and (lower-spreads h b p.code) (stored-adds k p.target (lower h b p.code))))
  lower-spreads h (Node t ty (Compound o work a b)) c =
      let p = place h a c in
      let old = read (scalar_kind (type_of ty)) p in
      let y = lower h b old.code in
      and (place-spreads h a c) (and (read_target-adds (scalar_kind (type_of ty)) p.target p.code) (and (lower-spreads h b old.code)
      (updated-adds h.records o work (type_of (type_at b)) (scalar_kind (type_of ty)) p.target (temp_of old) y)))
  lower-spreads h (Node t ty (Step o a)) c =
      let p = place h a c in
      let old = read (scalar_kind (type_of ty)) p in
      let one = constant 1 old.code in
      let x = updated h.records (step_operator o) (promoted_type (type_of ty)) Void (scalar_kind (type_of ty)) p.target (temp_of old) one in
      let all = and (place-spreads h a c) (and (read_target-adds (scalar_kind (type_of ty)) p.target p.code) (and (constant-adds 1 old.code)
      (updated-adds h.records (step_operator o) (promoted_type (type_of ty)) Void (scalar_kind (type_of ty)) p.target (temp_of old) one))) in
      either (is_behind o) (record x { temp = Some (temp_of old) }) x all all
  lower-spreads h (Node t ty (Cast a)) c =
      let x = lower h a c in
      and (lower-spreads h a c)
      (either (is_void (type_of ty)) (lowered_as None x.code) (converted (kind_of (type_of (type_at a))) (kind_of (type_of ty)) x) (same_code x.code) (converted-adds (kind_of (type_of (type_at a))) (kind_of (type_of ty)) x))
  lower-spreads h (Node t ty (Decay a)) c = lower-spreads h a c
  lower-spreads h (Node t ty (Member a offset)) c =
      let x = lower h a c in
      and (lower-spreads h a c) (and (further-adds offset x) (value_at-adds (kind_of (type_of ty)) (further offset x)))
  lower-spreads h (Node t ty (Deref a)) c = and (lower-spreads h a c) (value_at-adds (kind_of (type_of ty)) (lower h a c))
  lower-spreads h (Node t ty (Address (Node u own (Local k)))) c = address_of_local-adds (place_at h.places k) c
  lower-spreads h (Node t ty (Address (Node u own (Global s)))) c = address_of_global-adds (full_name h.name s) c
  lower-spreads h (Node t ty (Address (Node u own (Deref a)))) c = lower-spreads h a c
  lower-spreads h (Node t ty (Address (Node u own (Member a offset)))) c = and (lower-spreads h a c) (further-adds offset (lower h a c))
  lower-spreads h (Node t ty (Address a)) c = lower-spreads h a c
  lower-spreads h (Node t ty (Call s args)) c =
      let xs = arguments h args c in
      and (arguments-spread h args c) (called-adds (is_void (type_of ty)) (λ r. op.Call r (full_name h.name s) xs.temps) xs.code)
  lower-spreads h (Node t ty (CallValue a args)) c =
      let x = lower h a c in
      let xs = arguments h args x.code in
      and (lower-spreads h a c) (and (arguments-spread h args x.code) (called-adds (is_void (type_of ty)) (λ r. op.CallInd r (temp_of x) (shape_at h.records (type_at a)) xs.temps) xs.code))

  pub place-spreads : (h : Home) (e : Expression) (c : Code) → Spread c (place h e c).code none none
  place-spreads h (Node t ty (Local k)) c = target_of_local-adds (place_at h.places k) c
  place-spreads h (Node t ty (Global s)) c = same_code c
  place-spreads h (Node t ty (Member a offset)) c = and (lower-spreads h a c) (further-adds offset (lower h a c))
  place-spreads h (Node t ty (Deref a)) c = lower-spreads h a c
  place-spreads h (Node t ty form) c = same_code c

  pub arguments-spread : (h : Home) (args : Expressions) (c : Code) → Spread c (arguments h args c).code none none
  arguments-spread h NoExpression c = same_code c
  arguments-spread h (OneExpression a rest) c = and (lower-spreads h a c) (arguments-spread h rest (lower h a c).code)

pub expression-spreads : (h : Home) (e : Expression) (c : Code) → Spreads c (lower h e c).code []
expression-spreads h e c =
    let s = lower-spreads h e c in
    record { blocks = λ b. omega (arith, s.blocks b); counts = s.counts; temps = s.temps }

pub expression-labels : (h : Home) (e : Expression) (c : Code) → (lower h e c).code.labels ≡ c.labels
expression-labels h e c = let s = lower-spreads h e c in s.labels
