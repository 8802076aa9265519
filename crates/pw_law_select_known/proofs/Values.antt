-- Values lead somewhere, whatever operations make of them.
use Rattle.pw_flow.specs.ValidFlow.{kind_size}
use Rattle.std.proofs.Common.{ℕ, zero, suc, ◌+◌, ◌-◌, ◌%◌, ◌^◌, ◌<◌, ◌≤◌, ◌==◌, Bool, true, false, ◌&&◌, ◌||◌, not, nat_le, nat_lt, nat_eq, List, [], ◌∷◌, length, arith}
use Rattle.std.specs.Prelude.{Option, Some, None, option_map, Result, Ok, Err, slice_set}
use Rattle.std.proofs.lemmas.Nat.{mod_below}
use Rattle.std.proofs.lemmas.List.{length-set, length-append}
use Rattle.std.specs.List.{AllByRecursion}
use Rattle.pw_value.specs.declared.value.Kind.{Kind}
use Rattle.pw_value.specs.declared.value.Kind.TheVariants as K
use Rattle.pw_value.specs.declared.value.Value.{Value}
use Rattle.pw_value.specs.declared.value.Value.TheVariants.{Undefined, Num, Null, At, Piece}
use Rattle.pw_value.specs.declared.value.Byte.{Byte}
use Rattle.pw_value.specs.declared.value.Byte.TheVariants as B
use Rattle.pw_value.specs.declared.value.Pointer.{Pointer}
use Rattle.pw_value.specs.declared.value.Pointer.TheVariants as P
use Rattle.pw_value.specs.declared.words.WordFault.{WordFault}
use Rattle.pw_value.specs.Objects.{Object, no_object, object_at, bytes_from, with_bytes, with_object, written, ended}
use Rattle.pw_value.specs.Values.{encoding, number_bytes, number_in, extended, scalar_in, pointer_in, is_piece, is_zero}
use Rattle.pw_value.specs.Words.{unsigned_difference, signed_quotient, unsigned_quotient, signed_remainder, unsigned_remainder, shift_left, unsigned_shift_right, signed_shift_right, signed_less, signed_at_most, unsigned_less, unsigned_at_most}
use Rattle.pw_flow.specs.declared.flow.UnKind.{UnKind}
use Rattle.pw_flow.specs.declared.flow.UnKind.TheVariants.{Neg, Not}
use Rattle.pw_flow.specs.declared.flow.BinKind.{BinKind}
use Rattle.pw_flow.specs.declared.flow.BinKind.TheVariants.{Add, Sub, And, Or, Xor, Mul, DivS, DivU, RemS, RemU, Shl, ShrS, ShrU, Eq, Ne, LtS, LeS, LtU, LeU}
use Rattle.pw_flow.specs.declared.flow.ExtKind.{ExtKind}
use Rattle.pw_flow.specs.declared.flow.ExtKind.TheVariants as X
use Rattle.pw_run_languages.specs.Values.{truth, unary, extension, number_of, on_numbers, is_near, same_place, is_somewhere, on_pointers, pointer_and_number, number_and_pointer, binary}
use Rattle.pw_run_languages.specs.Memory.{word_or_pointer, scalar_of, may_stand, is_open, look_in, poke_in, look, poke, is_apart, copy}
use Rattle.pw_run_languages.specs.Programs.{Program}
use Rattle.pw_law_select_states.specs.Pointers.{IsKnown, ValueIsKnown, ByteIsKnown}
use Rattle.pw_law_select_known.proofs.Lists.{choose, read_each, set_each, append_each, replicate_each}

-- by how many objects there have been, at least
abbrev pub KnownObject : Program → ℕ → Object → Type 0
KnownObject p count o = AllByRecursion (ByteIsKnown p count) o.bytes

abbrev pub KnownObjects : Program → ℕ → List Object → Type 0
KnownObjects p count objects = AllByRecursion (KnownObject p count) objects × (count ≤ length objects)

abbrev pub KnownIfValue : Program → ℕ → Option Value → Type 0
KnownIfValue p count (Some v) = ValueIsKnown p count v
KnownIfValue p count None = Unit {0}

abbrev pub KnownIfObjects : Program → ℕ → Option (List Object) → Type 0
KnownIfObjects p count (Some objects) = KnownObjects p count objects
KnownIfObjects p count None = Unit {0}

pub each_later : {X : Type 0} (P Q : X → Type 0) → ((x : X) → P x → Q x) → (xs : List X) → AllByRecursion P xs → AllByRecursion Q xs
each_later P Q f [] all = tt
each_later P Q f (x ∷ xs) all = (f x all.0, each_later P Q f xs all.1)

module _ (p : Program) (count : ℕ) where
  -- ---- bytes

  number_bytes_known : (more n : ℕ) → AllByRecursion (ByteIsKnown p count) (number_bytes more n)
  number_bytes_known zero n = tt
  number_bytes_known (suc more) n = (tt, number_bytes_known more n)

  pub encoding_known : (v : Value) (width : ℕ) → ValueIsKnown p count v → AllByRecursion (ByteIsKnown p count) (encoding v width)
  encoding_known Undefined width h = replicate_each (ByteIsKnown p count) width B.Undefined tt
  encoding_known (Num n) width h = number_bytes_known width n
  encoding_known Null width h = number_bytes_known 4 0
  encoding_known (At x) width h = (h, (h, (h, (h, tt))))
  encoding_known (Piece x i) width h = (h, tt)

  pub bytes_from_known : (more offset : ℕ) (bytes : List Byte) → AllByRecursion (ByteIsKnown p count) bytes → AllByRecursion (ByteIsKnown p count) (bytes_from more offset bytes)
  bytes_from_known zero offset bytes all = tt
  bytes_from_known (suc more) offset bytes all = (read_each (ByteIsKnown p count) bytes offset B.Undefined all tt, bytes_from_known more (suc offset) bytes all)

  pub with_bytes_known : (new : List Byte) (offset : ℕ) (bytes : List Byte) → AllByRecursion (ByteIsKnown p count) new → AllByRecursion (ByteIsKnown p count) bytes → AllByRecursion (ByteIsKnown p count) (with_bytes new offset bytes)
  with_bytes_known [] offset bytes h all = all
  with_bytes_known (b ∷ more) offset bytes h all = with_bytes_known more (suc offset) _ h.1 (set_each (ByteIsKnown p count) bytes offset b all h.0)

  pub object_known : (objects : List Object) (n : ℕ) → KnownObjects p count objects → KnownObject p count (object_at objects n)
  object_known objects n all = read_each (KnownObject p count) objects n no_object all.0 tt

  -- one object changes
  object_set : (objects : List Object) (o : ℕ) (x : Object) → KnownObject p count x → KnownObjects p count objects → KnownObjects p count (slice_set objects o x)
  object_set objects o x h all = (set_each (KnownObject p count) objects o x all.0 h, omega (arith, all.1, length-set objects o x))

  written_known : (o i : ℕ) (new : List Byte) (objects : List Object) → AllByRecursion (ByteIsKnown p count) new → KnownObjects p count objects → KnownObjects p count (written o i new objects)
  written_known o i new objects h all =
      object_set objects o (record (object_at objects o) { bytes = with_bytes new i (object_at objects o).bytes }) (with_bytes_known new i (object_at objects o).bytes h (object_known objects o all)) all

  pub ended_known : (o : ℕ) (objects : List Object) → KnownObjects p count objects → KnownObjects p count (ended o objects)
  ended_known o objects all = object_set objects o (record (object_at objects o) { live = false }) (object_known objects o all) all

  pub with_object_known : (new : Object) (objects : List Object) → KnownObject p count new → KnownObjects p count objects → KnownObjects p count (with_object new objects)
  with_object_known new objects h all = (append_each (KnownObject p count) objects (new ∷ []) all.0 (h, tt), omega (arith, all.1, length-append objects (new ∷ [])))

  -- ---- scalars

  abbrev number_or : List Byte → Bool → Option ℕ → Value
  number_or bytes signed None = Undefined
  number_or bytes signed (Some n) = Num (extended (length bytes) signed n)

  number_or_known : (bytes : List Byte) (signed : Bool) (n : Option ℕ) → ValueIsKnown p count (number_or bytes signed n)
  number_or_known bytes signed None = tt
  number_or_known bytes signed (Some n) = tt

  scalar_in_known : (bytes : List Byte) (signed : Bool) → AllByRecursion (ByteIsKnown p count) bytes → ValueIsKnown p count (scalar_in bytes signed)
  scalar_in_known (B.Piece x i ∷ []) signed h = h.0
  scalar_in_known (B.Piece x i ∷ b ∷ bs) signed h = tt
  scalar_in_known [] signed h = tt
  scalar_in_known (B.Undefined ∷ bs) signed h = tt
  scalar_in_known (B.Num n ∷ bs) signed h = number_or_known (B.Num n ∷ bs) signed (number_in (B.Num n ∷ bs))

  pointer_in_known : (bytes : List Byte) → AllByRecursion (ByteIsKnown p count) bytes → ValueIsKnown p count (pointer_in bytes)
  pointer_in_known (B.Num n ∷ b ∷ y ∷ e ∷ []) h = choose (ValueIsKnown p count) (nat_eq n 0 && is_zero b && is_zero y && is_zero e) Null Undefined tt tt
  pointer_in_known (B.Piece x i ∷ b ∷ y ∷ e ∷ []) h = choose (ValueIsKnown p count) (nat_eq i 0 && is_piece x 1 b && is_piece x 2 y && is_piece x 3 e) (At x) Undefined h.0 tt
  pointer_in_known _ h = tt

  word_known : (v w : Value) → ValueIsKnown p count v → ValueIsKnown p count w → ValueIsKnown p count (word_or_pointer v w)
  word_known Undefined (At x) h k = k
  word_known v w h k = h

  pub scalar_of_known : (k : Kind) (bytes : List Byte) → AllByRecursion (ByteIsKnown p count) bytes → ValueIsKnown p count (scalar_of k bytes)
  scalar_of_known K.W32 bytes h = word_known (scalar_in bytes false) (pointer_in bytes) (scalar_in_known bytes false h) (pointer_in_known bytes h)
  scalar_of_known K.S8 bytes h = scalar_in_known bytes true h
  scalar_of_known K.U8 bytes h = scalar_in_known bytes false h
  scalar_of_known K.S16 bytes h = scalar_in_known bytes true h
  scalar_of_known K.U16 bytes h = scalar_in_known bytes false h

  -- ---- accesses

  pub look_in_known : (k : Kind) (o i : ℕ) (objects : List Object) → KnownObjects p count objects → KnownIfValue p count (look_in k o i objects)
  look_in_known k o i objects all =
      choose (KnownIfValue p count) (is_open objects o i (kind_size k) (kind_size k)) (Some (scalar_of k (bytes_from (kind_size k) i (object_at objects o).bytes))) None
      (scalar_of_known k (bytes_from (kind_size k) i (object_at objects o).bytes) (bytes_from_known (kind_size k) i (object_at objects o).bytes (object_known objects o all))) tt

  pub look_known : (k : Kind) (v : Value) (objects : List Object) → KnownObjects p count objects → KnownIfValue p count (look k v objects)
  look_known k (At (P.Object o i)) objects all = look_in_known k o i objects all
  look_known k _ objects all = tt

  pub poke_in_known : (k : Kind) (o i : ℕ) (v : Value) (objects : List Object) → ValueIsKnown p count v → KnownObjects p count objects → KnownIfObjects p count (poke_in k o i v objects)
  poke_in_known k o i v objects h all =
      choose (KnownIfObjects p count) (is_open objects o i (kind_size k) (kind_size k) && may_stand k v) (Some (written o i (encoding v (kind_size k)) objects)) None
      (written_known o i (encoding v (kind_size k)) objects (encoding_known v (kind_size k) h) all) tt

  pub poke_known : (k : Kind) (a v : Value) (objects : List Object) → ValueIsKnown p count v → KnownObjects p count objects → KnownIfObjects p count (poke k a v objects)
  poke_known k (At (P.Object o i)) v objects h all = poke_in_known k o i v objects h all
  poke_known k _ v objects h all = tt

  pub copy_known : (v w : Value) (size unit : ℕ) (objects : List Object) → KnownObjects p count objects → KnownIfObjects p count (copy v w size unit objects)
  copy_known (At (P.Object o i)) (At (P.Object q j)) size unit objects all =
      choose (KnownIfObjects p count) (is_open objects o i size unit && (is_open objects q j size unit && (not (o == q) || is_apart i j size)))
      (Some (written o i (bytes_from size j (object_at objects q).bytes) objects)) None
      (written_known o i (bytes_from size j (object_at objects q).bytes) objects (bytes_from_known size j (object_at objects q).bytes (object_known objects q all)) all) tt
  copy_known _ _ size unit objects all = tt

  -- ---- operations

  pub unary_known : (k : UnKind) (v : Value) → KnownIfValue p count (unary k v)
  unary_known Neg (Num n) = tt
  unary_known Not (Num n) = tt
  unary_known k _ = tt

  pub extension_known : (k : ExtKind) (v : Value) → ValueIsKnown p count v → KnownIfValue p count (extension k v)
  extension_known X.S8 (Num n) h = tt
  extension_known X.U8 (Num n) h = tt
  extension_known X.S16 (Num n) h = tt
  extension_known X.U16 (Num n) h = tt
  extension_known X.S8 (Piece x i) h = h
  extension_known X.U8 (Piece x i) h = h
  extension_known _ _ h = tt

  truth_known : (b : Bool) → ValueIsKnown p count (truth b)
  truth_known true = tt
  truth_known false = tt

  number_of_known : (r : Result ℕ WordFault) → KnownIfValue p count (number_of r)
  number_of_known (Ok n) = tt
  number_of_known (Err fault) = tt

  on_numbers_known : (k : BinKind) (a b : ℕ) → KnownIfValue p count (on_numbers k a b)
  on_numbers_known Add a b = tt
  on_numbers_known Sub a b = tt
  on_numbers_known And a b = tt
  on_numbers_known Or a b = tt
  on_numbers_known Xor a b = tt
  on_numbers_known Mul a b = tt
  on_numbers_known DivS a b = number_of_known (signed_quotient a b)
  on_numbers_known DivU a b = number_of_known (unsigned_quotient a b)
  on_numbers_known RemS a b = number_of_known (signed_remainder a b)
  on_numbers_known RemU a b = number_of_known (unsigned_remainder a b)
  on_numbers_known Shl a b = number_of_known (shift_left a b)
  on_numbers_known ShrS a b = number_of_known (signed_shift_right a b)
  on_numbers_known ShrU a b = number_of_known (unsigned_shift_right a b)
  on_numbers_known Eq a b = truth_known (a == b)
  on_numbers_known Ne a b = truth_known (not (a == b))
  on_numbers_known LtS a b = truth_known (signed_less a b)
  on_numbers_known LeS a b = truth_known (signed_at_most a b)
  on_numbers_known LtU a b = truth_known (unsigned_less a b)
  on_numbers_known LeU a b = truth_known (unsigned_at_most a b)

  mapped_known : {X : Type 0} (f : X → Value) → ((x : X) → ValueIsKnown p count (f x)) → (o : Option X) → KnownIfValue p count (option_map f o)
  mapped_known f h (Some x) = h x
  mapped_known f h None = tt

  on_pointers_known : (objects : List Object) (k : BinKind) (x y : Pointer) → KnownIfValue p count (on_pointers objects k x y)
  on_pointers_known objects Eq x y = mapped_known truth truth_known (same_place objects x y)
  on_pointers_known objects Ne x y = mapped_known (λ same. truth (not same)) (λ same. truth_known (not same)) (same_place objects x y)
  on_pointers_known objects Sub (P.Object o i) (P.Object q j) = choose (KnownIfValue p count) (o == q) (Some (Num (unsigned_difference i j))) None tt tt
  on_pointers_known objects LtU (P.Object o i) (P.Object q j) =
      choose (KnownIfValue p count) ((o == q) && (is_near objects o i && is_near objects q j)) (Some (truth (nat_lt i j))) None (truth_known (nat_lt i j)) tt
  on_pointers_known objects LeU (P.Object o i) (P.Object q j) =
      choose (KnownIfValue p count) ((o == q) && (is_near objects o i && is_near objects q j)) (Some (truth (nat_le i j))) None (truth_known (nat_le i j)) tt
  on_pointers_known objects _ _ _ = tt

  a_word : (n : ℕ) → n % 2 ^ 32 < 2 ^ 32
  a_word n = mod_below n (2 ^ 32) (omega arith)

  pointer_and_number_known : (objects : List Object) (k : BinKind) (x : Pointer) (n : ℕ) → IsKnown p count x → KnownIfValue p count (pointer_and_number objects k x n)
  pointer_and_number_known objects Add (P.Object o i) n h = (h.0, a_word (i + n))
  pointer_and_number_known objects Sub (P.Object o i) n h = (h.0, a_word (i + (2 ^ 32 - n)))
  pointer_and_number_known objects Eq x zero h = choose (KnownIfValue p count) (is_somewhere objects x) (Some (truth false)) None tt tt
  pointer_and_number_known objects Ne x zero h = choose (KnownIfValue p count) (is_somewhere objects x) (Some (truth true)) None tt tt
  pointer_and_number_known objects _ _ _ h = tt

  number_and_pointer_known : (objects : List Object) (k : BinKind) (n : ℕ) (x : Pointer) → KnownIfValue p count (number_and_pointer objects k n x)
  number_and_pointer_known objects Eq zero x = choose (KnownIfValue p count) (is_somewhere objects x) (Some (truth false)) None tt tt
  number_and_pointer_known objects Ne zero x = choose (KnownIfValue p count) (is_somewhere objects x) (Some (truth true)) None tt tt
  number_and_pointer_known objects _ _ _ = tt

  pub binary_known : (objects : List Object) (k : BinKind) (v w : Value) → ValueIsKnown p count v → KnownIfValue p count (binary objects k v w)
  binary_known objects k (Num a) (Num b) h = on_numbers_known k a b
  binary_known objects k (At x) (At y) h = on_pointers_known objects k x y
  binary_known objects k (At x) (Num n) h = pointer_and_number_known objects k x n h
  binary_known objects k (Num n) (At x) h = number_and_pointer_known objects k n x
  binary_known objects k _ _ h = tt

-- ---- what is known stays so

module _ (p : Program) (count more : ℕ) (le : count ≤ more) where
  pointer_later : (x : Pointer) → IsKnown p count x → IsKnown p more x
  pointer_later (P.Object o i) h = let lt : o < count = h.0 in (omega (arith, le, lt), h.1)
  pointer_later (P.Function f) h = h

  pub value_later : (v : Value) → ValueIsKnown p count v → ValueIsKnown p more v
  value_later Undefined h = tt
  value_later (Num n) h = tt
  value_later Null h = tt
  value_later (At x) h = pointer_later x h
  value_later (Piece x i) h = pointer_later x h

  byte_later : (b : Byte) → ByteIsKnown p count b → ByteIsKnown p more b
  byte_later B.Undefined h = tt
  byte_later (B.Num n) h = tt
  byte_later (B.Piece x i) h = pointer_later x h

  pub objects_later : (objects : List Object) → AllByRecursion (KnownObject p count) objects → AllByRecursion (KnownObject p more) objects
  objects_later objects all = each_later (KnownObject p count) (KnownObject p more)
      (λ o h. each_later (ByteIsKnown p count) (ByteIsKnown p more) byte_later o.bytes h) objects all
