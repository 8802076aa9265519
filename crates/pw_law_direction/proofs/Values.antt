-- Values lead to no function but those whose address is taken, whatever operations make of them.
use Rattle.pw_flow.specs.ValidFlow.{kind_size}
use Rattle.std.proofs.Common.{ℕ, zero, suc, ◌==◌, Bool, true, false, ◌&&◌, ◌||◌, not, nat_le, nat_lt, nat_eq, List, [], ◌∷◌, length, arith}
use Rattle.std.specs.Prelude.{Option, Some, None, option_map, Result, Ok, Err, slice_set}
use Rattle.std.proofs.lemmas.List.{length-set, length-append}
use Rattle.std.specs.List.{AllByRecursion}
use Rattle.pw_value.specs.declared.value.Kind.{Kind}
use Rattle.pw_value.specs.declared.value.Kind.TheVariants as K
use Rattle.pw_value.specs.declared.value.Value.{Value}
use Rattle.pw_value.specs.declared.value.Value.TheVariants.{Undefined, Num, Null, At, Piece}
use Rattle.pw_value.specs.declared.value.Byte.{Byte}
use Rattle.pw_value.specs.declared.value.Byte.TheVariants as B
use Rattle.pw_value.specs.declared.value.Pointer.{Pointer}
use Rattle.pw_value.specs.declared.value.Pointer.TheVariants as P
use Rattle.pw_value.specs.declared.words.WordFault.{WordFault}
use Rattle.pw_value.specs.Objects.{Object, no_object, object_at, bytes_from, with_bytes, with_object, written, ended}
use Rattle.pw_value.specs.Values.{encoding, number_bytes, number_in, extended, scalar_in, pointer_in, is_piece, is_zero}
use Rattle.pw_value.specs.Words.{unsigned_difference, signed_quotient, unsigned_quotient, signed_remainder, unsigned_remainder, shift_left, unsigned_shift_right, signed_shift_right, signed_less, signed_at_most, unsigned_less, unsigned_at_most}
use Rattle.pw_flow.specs.declared.flow.UnKind.{UnKind}
use Rattle.pw_flow.specs.declared.flow.UnKind.TheVariants.{Neg, Not}
use Rattle.pw_flow.specs.declared.flow.BinKind.{BinKind}
use Rattle.pw_flow.specs.declared.flow.BinKind.TheVariants.{Add, Sub, And, Or, Xor, Mul, DivS, DivU, RemS, RemU, Shl, ShrS, ShrU, Eq, Ne, LtS, LeS, LtU, LeU}
use Rattle.pw_flow.specs.declared.flow.ExtKind.{ExtKind}
use Rattle.pw_flow.specs.declared.flow.ExtKind.TheVariants as X
use Rattle.pw_run_languages.specs.Values.{truth, unary, extension, number_of, on_numbers, is_near, same_place, is_somewhere, on_pointers, pointer_and_number, number_and_pointer, binary}
use Rattle.pw_run_languages.specs.Memory.{word_or_pointer, scalar_of, may_stand, is_open, look_in, poke_in, look, poke, is_apart, copy}
use Rattle.pw_run_languages.specs.Programs.{Program}
use Rattle.pw_law_direction.specs.Values.{FinePointer, FineValue, FineByte, FineObject, FineObjects}
use Rattle.pw_law_direction.proofs.Lists.{choose, read_each, set_each, append_each, replicate_each}

abbrev pub FineIfValue : Program → Option Value → Type 0
FineIfValue p (Some v) = FineValue p v
FineIfValue p None = Unit {0}

abbrev pub FineIfObjects : Program → Option (List Object) → Type 0
FineIfObjects p (Some objects) = FineObjects p objects
FineIfObjects p None = Unit {0}

module _ (p : Program) where
  -- ---- bytes

  number_bytes_fine : (more n : ℕ) → AllByRecursion (FineByte p) (number_bytes more n)
  number_bytes_fine zero n = tt
  number_bytes_fine (suc more) n = (tt, number_bytes_fine more n)

  pub encoding_fine : (v : Value) (width : ℕ) → FineValue p v → AllByRecursion (FineByte p) (encoding v width)
  encoding_fine Undefined width h = replicate_each (FineByte p) width B.Undefined tt
  encoding_fine (Num n) width h = number_bytes_fine width n
  encoding_fine Null width h = number_bytes_fine 4 0
  encoding_fine (At x) width h = (h, (h, (h, (h, tt))))
  encoding_fine (Piece x i) width h = (h, tt)

  pub bytes_from_fine : (more offset : ℕ) (bytes : List Byte) → AllByRecursion (FineByte p) bytes → AllByRecursion (FineByte p) (bytes_from more offset bytes)
  bytes_from_fine zero offset bytes all = tt
  bytes_from_fine (suc more) offset bytes all = (read_each (FineByte p) bytes offset B.Undefined all tt, bytes_from_fine more (suc offset) bytes all)

  pub with_bytes_fine : (new : List Byte) (offset : ℕ) (bytes : List Byte) → AllByRecursion (FineByte p) new → AllByRecursion (FineByte p) bytes → AllByRecursion (FineByte p) (with_bytes new offset bytes)
  with_bytes_fine [] offset bytes h all = all
  with_bytes_fine (b ∷ more) offset bytes h all = with_bytes_fine more (suc offset) _ h.1 (set_each (FineByte p) bytes offset b all h.0)

  pub object_fine : (objects : List Object) (n : ℕ) → FineObjects p objects → FineObject p (object_at objects n)
  object_fine objects n all = read_each (FineObject p) objects n no_object all.0 tt

  -- one object changes
  object_set : (objects : List Object) (o : ℕ) (x : Object) → FineObject p x → FineObjects p objects → FineObjects p (slice_set objects o x)
  object_set objects o x h all = (set_each (FineObject p) objects o x all.0 h, omega (arith, all.1, length-set objects o x))

  written_fine : (o i : ℕ) (new : List Byte) (objects : List Object) → AllByRecursion (FineByte p) new → FineObjects p objects → FineObjects p (written o i new objects)
  written_fine o i new objects h all =
      object_set objects o (record (object_at objects o) { bytes = with_bytes new i (object_at objects o).bytes }) (with_bytes_fine new i (object_at objects o).bytes h (object_fine objects o all)) all

  pub ended_fine : (o : ℕ) (objects : List Object) → FineObjects p objects → FineObjects p (ended o objects)
  ended_fine o objects all = object_set objects o (record (object_at objects o) { live = false }) (object_fine objects o all) all

  pub with_object_fine : (new : Object) (objects : List Object) → FineObject p new → FineObjects p objects → FineObjects p (with_object new objects)
  with_object_fine new objects h all = (append_each (FineObject p) objects (new ∷ []) all.0 (h, tt), omega (arith, all.1, length-append objects (new ∷ [])))

  -- ---- scalars

  abbrev number_or : List Byte → Bool → Option ℕ → Value
  number_or bytes signed None = Undefined
  number_or bytes signed (Some n) = Num (extended (length bytes) signed n)

  number_or_fine : (bytes : List Byte) (signed : Bool) (n : Option ℕ) → FineValue p (number_or bytes signed n)
  number_or_fine bytes signed None = tt
  number_or_fine bytes signed (Some n) = tt

  scalar_in_fine : (bytes : List Byte) (signed : Bool) → AllByRecursion (FineByte p) bytes → FineValue p (scalar_in bytes signed)
  scalar_in_fine (B.Piece x i ∷ []) signed h = h.0
  scalar_in_fine (B.Piece x i ∷ b ∷ bs) signed h = tt
  scalar_in_fine [] signed h = tt
  scalar_in_fine (B.Undefined ∷ bs) signed h = tt
  scalar_in_fine (B.Num n ∷ bs) signed h = number_or_fine (B.Num n ∷ bs) signed (number_in (B.Num n ∷ bs))

  pointer_in_fine : (bytes : List Byte) → AllByRecursion (FineByte p) bytes → FineValue p (pointer_in bytes)
  pointer_in_fine (B.Num n ∷ b ∷ c ∷ e ∷ []) h = choose (FineValue p) (nat_eq n 0 && is_zero b && is_zero c && is_zero e) Null Undefined tt tt
  pointer_in_fine (B.Piece x i ∷ b ∷ c ∷ e ∷ []) h = choose (FineValue p) (nat_eq i 0 && is_piece x 1 b && is_piece x 2 c && is_piece x 3 e) (At x) Undefined h.0 tt
  pointer_in_fine _ h = tt

  word_fine : (v w : Value) → FineValue p v → FineValue p w → FineValue p (word_or_pointer v w)
  word_fine Undefined (At x) h k = k
  word_fine v w h k = h

  pub scalar_of_fine : (k : Kind) (bytes : List Byte) → AllByRecursion (FineByte p) bytes → FineValue p (scalar_of k bytes)
  scalar_of_fine K.W32 bytes h = word_fine (scalar_in bytes false) (pointer_in bytes) (scalar_in_fine bytes false h) (pointer_in_fine bytes h)
  scalar_of_fine K.S8 bytes h = scalar_in_fine bytes true h
  scalar_of_fine K.U8 bytes h = scalar_in_fine bytes false h
  scalar_of_fine K.S16 bytes h = scalar_in_fine bytes true h
  scalar_of_fine K.U16 bytes h = scalar_in_fine bytes false h

  -- ---- accesses

  pub look_in_fine : (k : Kind) (o i : ℕ) (objects : List Object) → FineObjects p objects → FineIfValue p (look_in k o i objects)
  look_in_fine k o i objects all =
      choose (FineIfValue p) (is_open objects o i (kind_size k) (kind_size k)) (Some (scalar_of k (bytes_from (kind_size k) i (object_at objects o).bytes))) None
      (scalar_of_fine k (bytes_from (kind_size k) i (object_at objects o).bytes) (bytes_from_fine (kind_size k) i (object_at objects o).bytes (object_fine objects o all))) tt

  pub look_fine : (k : Kind) (v : Value) (objects : List Object) → FineObjects p objects → FineIfValue p (look k v objects)
  look_fine k (At (P.Object o i)) objects all = look_in_fine k o i objects all
  look_fine k _ objects all = tt

  pub poke_in_fine : (k : Kind) (o i : ℕ) (v : Value) (objects : List Object) → FineValue p v → FineObjects p objects → FineIfObjects p (poke_in k o i v objects)
  poke_in_fine k o i v objects h all =
      choose (FineIfObjects p) (is_open objects o i (kind_size k) (kind_size k) && may_stand k v) (Some (written o i (encoding v (kind_size k)) objects)) None
      (written_fine o i (encoding v (kind_size k)) objects (encoding_fine v (kind_size k) h) all) tt

  pub poke_fine : (k : Kind) (a v : Value) (objects : List Object) → FineValue p v → FineObjects p objects → FineIfObjects p (poke k a v objects)
  poke_fine k (At (P.Object o i)) v objects h all = poke_in_fine k o i v objects h all
  poke_fine k _ v objects h all = tt

  pub copy_fine : (v w : Value) (size unit : ℕ) (objects : List Object) → FineObjects p objects → FineIfObjects p (copy v w size unit objects)
  copy_fine (At (P.Object o i)) (At (P.Object q j)) size unit objects all =
      choose (FineIfObjects p) (is_open objects o i size unit && (is_open objects q j size unit && (not (o == q) || is_apart i j size)))
      (Some (written o i (bytes_from size j (object_at objects q).bytes) objects)) None
      (written_fine o i (bytes_from size j (object_at objects q).bytes) objects (bytes_from_fine size j (object_at objects q).bytes (object_fine objects q all)) all) tt
  copy_fine _ _ size unit objects all = tt

  -- ---- operations

  pub unary_fine : (k : UnKind) (v : Value) → FineIfValue p (unary k v)
  unary_fine Neg (Num n) = tt
  unary_fine Not (Num n) = tt
  unary_fine k _ = tt

  pub extension_fine : (k : ExtKind) (v : Value) → FineValue p v → FineIfValue p (extension k v)
  extension_fine X.S8 (Num n) h = tt
  extension_fine X.U8 (Num n) h = tt
  extension_fine X.S16 (Num n) h = tt
  extension_fine X.U16 (Num n) h = tt
  extension_fine X.S8 (Piece x i) h = h
  extension_fine X.U8 (Piece x i) h = h
  extension_fine _ _ h = tt

  truth_fine : (b : Bool) → FineValue p (truth b)
  truth_fine true = tt
  truth_fine false = tt

  number_of_fine : (r : Result ℕ WordFault) → FineIfValue p (number_of r)
  number_of_fine (Ok n) = tt
  number_of_fine (Err fault) = tt

  on_numbers_fine : (k : BinKind) (a b : ℕ) → FineIfValue p (on_numbers k a b)
  on_numbers_fine Add a b = tt
  on_numbers_fine Sub a b = tt
  on_numbers_fine And a b = tt
  on_numbers_fine Or a b = tt
  on_numbers_fine Xor a b = tt
  on_numbers_fine Mul a b = tt
  on_numbers_fine DivS a b = number_of_fine (signed_quotient a b)
  on_numbers_fine DivU a b = number_of_fine (unsigned_quotient a b)
  on_numbers_fine RemS a b = number_of_fine (signed_remainder a b)
  on_numbers_fine RemU a b = number_of_fine (unsigned_remainder a b)
  on_numbers_fine Shl a b = number_of_fine (shift_left a b)
  on_numbers_fine ShrS a b = number_of_fine (signed_shift_right a b)
  on_numbers_fine ShrU a b = number_of_fine (unsigned_shift_right a b)
  on_numbers_fine Eq a b = truth_fine (a == b)
  on_numbers_fine Ne a b = truth_fine (not (a == b))
  on_numbers_fine LtS a b = truth_fine (signed_less a b)
  on_numbers_fine LeS a b = truth_fine (signed_at_most a b)
  on_numbers_fine LtU a b = truth_fine (unsigned_less a b)
  on_numbers_fine LeU a b = truth_fine (unsigned_at_most a b)

  mapped_fine : {X : Type 0} (f : X → Value) → ((x : X) → FineValue p (f x)) → (o : Option X) → FineIfValue p (option_map f o)
  mapped_fine f h (Some x) = h x
  mapped_fine f h None = tt

  on_pointers_fine : (objects : List Object) (k : BinKind) (x y : Pointer) → FineIfValue p (on_pointers objects k x y)
  on_pointers_fine objects Eq x y = mapped_fine truth truth_fine (same_place objects x y)
  on_pointers_fine objects Ne x y = mapped_fine (λ same. truth (not same)) (λ same. truth_fine (not same)) (same_place objects x y)
  on_pointers_fine objects Sub (P.Object o i) (P.Object q j) = choose (FineIfValue p) (o == q) (Some (Num (unsigned_difference i j))) None tt tt
  on_pointers_fine objects LtU (P.Object o i) (P.Object q j) =
      choose (FineIfValue p) ((o == q) && (is_near objects o i && is_near objects q j)) (Some (truth (nat_lt i j))) None (truth_fine (nat_lt i j)) tt
  on_pointers_fine objects LeU (P.Object o i) (P.Object q j) =
      choose (FineIfValue p) ((o == q) && (is_near objects o i && is_near objects q j)) (Some (truth (nat_le i j))) None (truth_fine (nat_le i j)) tt
  on_pointers_fine objects _ _ _ = tt

  pointer_and_number_fine : (objects : List Object) (k : BinKind) (x : Pointer) (n : ℕ) → FinePointer p x → FineIfValue p (pointer_and_number objects k x n)
  pointer_and_number_fine objects Add (P.Object o i) n h = h
  pointer_and_number_fine objects Sub (P.Object o i) n h = h
  pointer_and_number_fine objects Eq x zero h = choose (FineIfValue p) (is_somewhere objects x) (Some (truth false)) None tt tt
  pointer_and_number_fine objects Ne x zero h = choose (FineIfValue p) (is_somewhere objects x) (Some (truth true)) None tt tt
  pointer_and_number_fine objects _ _ _ h = tt

  number_and_pointer_fine : (objects : List Object) (k : BinKind) (n : ℕ) (x : Pointer) → FineIfValue p (number_and_pointer objects k n x)
  number_and_pointer_fine objects Eq zero x = choose (FineIfValue p) (is_somewhere objects x) (Some (truth false)) None tt tt
  number_and_pointer_fine objects Ne zero x = choose (FineIfValue p) (is_somewhere objects x) (Some (truth true)) None tt tt
  number_and_pointer_fine objects _ _ _ = tt

  pub binary_fine : (objects : List Object) (k : BinKind) (v w : Value) → FineValue p v → FineIfValue p (binary objects k v w)
  binary_fine objects k (Num a) (Num b) h = on_numbers_fine k a b
  binary_fine objects k (At x) (At y) h = on_pointers_fine objects k x y
  binary_fine objects k (At x) (Num n) h = pointer_and_number_fine objects k x n h
  binary_fine objects k (Num n) (At x) h = number_and_pointer_fine objects k n x
  binary_fine objects k _ _ h = tt
