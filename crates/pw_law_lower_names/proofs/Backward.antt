-- What holds of all operations of code holds of those of the code before it, and of the one that was added.
use Rattle.std.proofs.Common.{ℕ, ◌+◌, ◌==◌, ◌⊎◌, inl, inr, Bool, true, false, if◌then◌else◌, Option, Some, None, List, [], ◌∷◌, ◌++◌, subst}
use Rattle.std.specs.Prelude.{Contains}
use Rattle.std.specs.List.{AllByRecursion}
use Rattle.pw_value.specs.declared.value.Kind.{Kind}
use Rattle.pw_types.specs.TypeTrees.{CType, RecordValue}
use Rattle.pw_types.specs.declared.tree.UnaryOperator.{UnaryOperator}
use Rattle.pw_types.specs.declared.tree.UnaryOperator.TheVariants as unary
use Rattle.pw_types.specs.declared.tree.BinaryOperator.{BinaryOperator}
use Rattle.pw_types.specs.declared.tree.BinaryOperator.TheVariants as binary
use Rattle.pw_flow.specs.declared.flow.Op.{Op}
use Rattle.pw_flow.specs.declared.flow.Op.TheVariants as op
use Rattle.pw_flow.specs.declared.flow.BinKind.{BinKind}
use Rattle.pw_flow.specs.declared.flow.BinKind.TheVariants.{Add, Sub, Mul, DivS, Eq, Ne}
use Rattle.pw_flow.specs.declared.flow.UnKind.TheVariants.{Neg, Not}
use Rattle.pw_flow.specs.declared.flow.ExtKind.{ExtKind}
use Rattle.pw_flow.specs.declared.flow.End.{End}
use Rattle.pw_flow.specs.declared.flow.End.TheVariants.{Branch}
use Rattle.pw_lower.specs.declared.code.Code.{Code}
use Rattle.pw_lower.specs.declared.code.Numbered.{Numbered}
use Rattle.pw_lower.specs.declared.place.Target.{Target}
use Rattle.pw_lower.specs.declared.place.Target.TheVariants.{Kept, Named, Led}
use Rattle.pw_lower.specs.Codes.{Lowered, lowered_as, temp_of, emit, fresh, constant, reserve, reserve_temps, cut, leave, value_is}
use Rattle.pw_lower.specs.Operators.{kind_of, with, scaled, moved_by, distance, on_numbers, operation_of, is_turned, sum_or, combined, is_signed, target_size, truth_in, unary_on, extension, extending, extended, converted, bytes_of, unit_of}
use Rattle.pw_lower.specs.Expressions.{read_target, write, further, value_at, value_of_global, stored, copied, updated, fork}
use Rattle.pw_law_lower.specs.Kept.{IsStillFilled, IsClosedNext, Keeps}
use Rattle.pw_law_lower_walk.specs.Named.{NamesAmong}

-- of both parts of a list
pub split : {X : Type 0} (P : X → Type 0) (xs ys : List X) → AllByRecursion P (xs ++ ys) → AllByRecursion P xs × AllByRecursion P ys
split P [] ys h = (tt, h)
split P (x ∷ xs) ys h = let r = split P xs ys h.1 in ((h.0, r.0), r.1)

module _ (objects functions : List (List ℕ)) where
  abbrev pub IsAmong : Op → Type 0
  IsAmong o = NamesAmong objects functions o

  abbrev AreAmong : List Numbered → Type 0
  AreAmong bs = AllByRecursion (λ (b : Numbered). AllByRecursion IsAmong b.block.ops) bs

  -- the names in all operations of code are among these
  abbrev pub Holds : Code → Type 0
  Holds c = AllByRecursion IsAmong c.ops × AllByRecursion (λ (b : Numbered). AllByRecursion IsAmong b.block.ops) c.closed

  -- ---- code

  pub kept_back : (c d : Code) → Keeps c d → Holds d → Holds c
  kept_back c d k h = by k.filled
    where
      by : IsStillFilled c d ⊎ IsClosedNext c d → Holds c
      by (inl f) = (
        (split IsAmong c.ops f.more (subst (λ (o : List Op). AllByRecursion IsAmong o) f.ops h.0)).0,
        subst (λ (bs : List Numbered). AreAmong bs) f.closed h.1,
      )
      by (inr f) =
          let r = split (λ (b : Numbered). AllByRecursion IsAmong b.block.ops) c.closed (record { number = c.cur; block = record { depth = c.depth; ops = c.ops ++ f.more; end = f.end } } ∷ f.rest)
          (subst (λ (bs : List Numbered). AreAmong bs) f.closed h.1) in
          ((split IsAmong c.ops f.more r.1.0).0, r.0)

  pub emitted : (o : Op) (c : Code) → Holds (emit o c) → Holds c × IsAmong o
  emitted o c h = let r = split IsAmong c.ops (o ∷ []) h.0 in ((r.0, h.1), r.1.0)

  pub fresh_back : (o : ℕ → Op) (c : Code) → Holds (fresh o c).code → Holds c × IsAmong (o c.temps)
  fresh_back o c h = emitted (o c.temps) (reserve_temps 1 c) h

  pub cut_back : (end : End) (number depth : ℕ) (c : Code) → Holds (cut end number depth c) → Holds c
  cut_back end number depth c h =
      let r = split (λ (b : Numbered). AllByRecursion IsAmong b.block.ops) c.closed (record { number = c.cur; block = record { depth = c.depth; ops = c.ops; end = end } } ∷ []) h.1 in
      (r.1.0, r.0)

  pub leave_back : (end : End) (c : Code) → Holds (leave end c) → Holds c
  leave_back end c h = cut_back end c.blocks c.depth (reserve 1 c) h

  pub constant_back : (n : ℕ) (c : Code) → Holds (constant n c).code → Holds c
  constant_back n c h = (fresh_back (λ t. op.Const t n) c h).0

  -- ---- operators

  pub with_back : (k : BinKind) (a : ℕ) (x : Lowered) → Holds (with k a x).code → Holds x.code
  with_back k a x h = (fresh_back (λ t. op.Bin k t a (temp_of x)) x.code h).0

  scaled_back : (b : Bool) (size n : ℕ) (c : Code) → Holds (if b then value_is n c else with Mul n (constant size c)).code → Holds c
  scaled_back true size n c h = h
  scaled_back false size n c h = constant_back size c (with_back Mul n (constant size c) h)

  moved_by_back : (k : BinKind) (size a n : ℕ) (c : Code) → Holds (moved_by k size a n c).code → Holds c
  moved_by_back k size a n c h = scaled_back (size == 1) size n c (with_back k a (scaled size n c) h)

  in_elements_back : (b : Bool) (size : ℕ) (x : Lowered) → Holds (if b then x else with DivS (temp_of x) (constant size x.code)).code → Holds x.code
  in_elements_back true size x h = h
  in_elements_back false size x h = constant_back size x.code (with_back DivS (temp_of x) (constant size x.code) h)

  distance_back : (size a b : ℕ) (c : Code) → Holds (distance size a b c).code → Holds c
  distance_back size a b c h =
      (fresh_back (λ t. op.Bin Sub t a b) c (in_elements_back (size == 1) size (fresh (λ t. op.Bin Sub t a b) c) h)).0

  turned_back : (b : Bool) (k : BinKind) (x y : ℕ) (c : Code) → Holds (if b then fresh (λ t. op.Bin k t y x) c else fresh (λ t. op.Bin k t x y) c).code → Holds c
  turned_back true k x y c h = (fresh_back (λ t. op.Bin k t y x) c h).0
  turned_back false k x y c h = (fresh_back (λ t. op.Bin k t x y) c h).0

  on_numbers_back : (o : BinaryOperator) (s : Bool) (a b : ℕ) (c : Code) → Holds (on_numbers o s a b c).code → Holds c
  on_numbers_back o s a b c h = turned_back (is_turned o) (operation_of o s) a b c h

  sum_or_back : (o : BinaryOperator) (s : Bool) (left right : Option ℕ) (a b : ℕ) (c : Code) → Holds (sum_or o s left right a b c).code → Holds c
  sum_or_back binary.Add s (Some size) right a b c h = moved_by_back Add size a b c h
  sum_or_back binary.Add s None (Some size) a b c h = moved_by_back Add size b a c h
  sum_or_back binary.Add s None None a b c h = on_numbers_back binary.Add s a b c h
  sum_or_back binary.Subtract s (Some size) (Some other) a b c h = distance_back size a b c h
  sum_or_back binary.Subtract s (Some size) None a b c h = moved_by_back Sub size a b c h
  sum_or_back binary.Subtract s None right a b c h = on_numbers_back binary.Subtract s a b c h
  sum_or_back o s left right a b c h = on_numbers_back o s a b c h

  pub combined_back : (records : List RecordValue) (o : BinaryOperator) (left right : CType) (a b : ℕ) (c : Code) → Holds (combined records o left right a b c).code → Holds c
  combined_back records o left right a b c h = sum_or_back o (is_signed left) (target_size records left) (target_size records right) a b c h

  extended_back : (k : Option ExtKind) (t : ℕ) (c : Code) → Holds (extended k t c).code → Holds c
  extended_back None t c h = h
  extended_back (Some k) t c h = (fresh_back (extending k t) c h).0

  converted_back : (from to : Option Kind) (x : Lowered) → Holds (converted from to x).code → Holds x.code
  converted_back None to x h = h
  converted_back (Some from) None x h = h
  converted_back (Some from) (Some to) x h = extended_back (extension from to) (temp_of x) x.code h

  pub cast_back : (b : Bool) (from to : Option Kind) (x : Lowered) → Holds (if b then lowered_as None x.code else converted from to x).code → Holds x.code
  cast_back true from to x h = h
  cast_back false from to x h = converted_back from to x h

  pub truth_back : (r t : ℕ) (c : Code) → Holds (truth_in r t c) → Holds c
  truth_back r t c h = constant_back 0 c (emitted (op.Bin Ne r t (temp_of (constant 0 c))) (constant 0 c).code h).0

  pub unary_back : (o : UnaryOperator) (a : ℕ) (c : Code) → Holds (unary_on o a c).code → Holds c
  unary_back unary.Plus a c h = h
  unary_back unary.Minus a c h = (fresh_back (λ t. op.Un Neg t a) c h).0
  unary_back unary.Complement a c h = (fresh_back (λ t. op.Un Not t a) c h).0
  unary_back unary.Not a c h = constant_back 0 c (with_back Eq a (constant 0 c) h)

  -- ---- lvalues

  -- a global that is written or read by its name
  abbrev pub OfTarget : Target → Type 0
  OfTarget (Named g) = Contains objects g
  OfTarget _ = Unit {0}

  pub read_back : (k : Kind) (target : Target) (c : Code) → Holds (read_target k target c).code → Holds c × OfTarget target
  read_back k (Kept x) c h = ((fresh_back (λ t. op.Copy t x) c h).0, tt)
  read_back k (Named g) c h = fresh_back (λ t. op.LoadG t g k) c h
  read_back k (Led a) c h = ((fresh_back (λ t. op.Load k t a) c h).0, tt)

  write_back : (k : Kind) (target : Target) (v : ℕ) (c : Code) → Holds (write k target v c) → Holds c × OfTarget target
  write_back k (Kept x) v c h = ((emitted (op.Copy x v) c h).0, tt)
  write_back k (Named g) v c h = emitted (op.StoreG g v k) c h
  write_back k (Led a) v c h = ((emitted (op.Store k a v) c h).0, tt)

  further_by : (b : Bool) (offset : ℕ) (x : Lowered) → Holds (if b then x else with Add (temp_of x) (constant offset x.code)).code → Holds x.code
  further_by true offset x h = h
  further_by false offset x h = constant_back offset x.code (with_back Add (temp_of x) (constant offset x.code) h)

  pub further_back : (offset : ℕ) (x : Lowered) → Holds (further offset x).code → Holds x.code
  further_back offset x h = further_by (offset == 0) offset x h

  pub value_at_back : (k : Option Kind) (x : Lowered) → Holds (value_at k x).code → Holds x.code
  value_at_back None x h = h
  value_at_back (Some k) x h = (fresh_back (λ t. op.Load k t (temp_of x)) x.code h).0

  pub global_named : (k : Option Kind) (g : List ℕ) (c : Code) → Holds (value_of_global k g c).code → Contains objects g
  global_named None g c h = (fresh_back (λ t. op.AddrGlobal t g 0) c h).1
  global_named (Some k) g c h = (fresh_back (λ t. op.LoadG t g k) c h).1

  -- ---- assignments, and the rest

  pub stored_back : (k : Kind) (target : Target) (x : Lowered) → Holds (stored k target x).code → Holds x.code × OfTarget target
  stored_back k target x h = write_back k target (temp_of x) x.code h

  pub copied_back : (records : List RecordValue) (ty : CType) (to : ℕ) (x : Lowered) → Holds (copied records ty to x).code → Holds x.code
  copied_back records ty to x h = (emitted (op.Move to (temp_of x) (bytes_of records ty) (unit_of records ty)) x.code h).0

  pub updated_back : (records : List RecordValue) (o : BinaryOperator) (ty right : CType) (own : Kind) (target : Target) (old : ℕ) (x : Lowered) → Holds (updated records o ty right own target old x).code
      → Holds x.code × OfTarget target
  updated_back records o ty right own target old x h =
      let s = combined records o ty right old (temp_of x) x.code in
      let r = stored_back own target (converted (kind_of ty) (Some own) s) h in
      (combined_back records o ty right old (temp_of x) x.code (converted_back (kind_of ty) (Some own) s r.0), r.1)

  pub step_back : (b : Bool) (old : ℕ) (x : Lowered) → Holds (if b then record x { temp = Some old } else x).code → Holds x.code
  step_back true old x h = h
  step_back false old x h = h

  pub fork_back : (n : ℕ) (x : Lowered) → Holds (fork n x).code → Holds x.code
  fork_back n x h = cut_back (Branch (temp_of x) x.code.blocks (x.code.blocks + 1)) x.code.blocks x.code.depth (reserve 3 (reserve_temps n x.code)) h

  pub called_back : (b : Bool) (o : Option ℕ → Op) (c : Code) → Holds (if b then lowered_as None (emit (o None) c) else fresh (λ t. o (Some t)) c).code
      → Holds c × ((r : Option ℕ) × IsAmong (o r))
  called_back true o c h = let r = emitted (o None) c h in (r.0, (None, r.1))
  called_back false o c h = let r = fresh_back (λ t. o (Some t)) c h in (r.0, (Some c.temps, r.1))
