-- The operators on values (ISO C90 6.3.3 to 6.3.15), and conversions (6.2.1, 6.2.2.3).
use Rattle.std.specs.Prelude.{ℕ, ℤ, zero, suc, pos, negsuc, neg_ℤ, unsigned_abs, int_div, ◌+◌, ◌-◌, ◌%◌, ◌-ℤ◌, ◌*ℤ◌, ◌==◌, ◌&&◌, ◌||◌, Bool, true, false, not, nat_le, nat_lt, if◌then◌else◌, bit_and, bit_or, bit_xor, Option, Some, None, is_none, option_map, unwrap_or, Result, Ok, Err, List, [], ◌∷◌, length}
use Rattle.pw_value.specs.declared.value.Value.{Value}
use Rattle.pw_value.specs.declared.value.Value.TheVariants as V
use Rattle.pw_value.specs.declared.value.Pointer.TheVariants as P
use Rattle.pw_value.specs.Values.{same_pointer}
use Rattle.pw_value.specs.Objects.{Object, object_at}
use Rattle.pw_types.specs.TypeTrees.{CType, Int, Pointer, QType, type_of, RecordValue}
use Rattle.pw_types.specs.Conversions.{size_of_kind, is_signed_kind, converted}
use Rattle.pw_types.specs.declared.kind.IntKind.{IntKind}
use Rattle.pw_types.specs.declared.tree.UnaryOperator.{UnaryOperator}
use Rattle.pw_types.specs.declared.tree.UnaryOperator.TheVariants.{Plus, Minus, Complement, Not}
use Rattle.pw_types.specs.declared.tree.BinaryOperator.{BinaryOperator}
use Rattle.pw_types.specs.declared.tree.BinaryOperator.TheVariants.{Add, Subtract, Multiply, Divide, Remainder, ShiftLeft, ShiftRight, Less, Greater, LessEqual, GreaterEqual, Equal, NotEqual, And, ExclusiveOr, Or}
use Rattle.pw_cmean.specs.declared.undefined.Undef.TheVariants as U
use Rattle.pw_cmean.specs.Undefined.{◌when◌}
use Rattle.pw_cmean.specs.Acts.{Act, Site, ◌>>=◌, ◌>>◌, give, need, judge, undefined, wrong}
use Rattle.pw_cmean.specs.Access.{objects_now}
use Rattle.pw_types.specs.Layouts.{layout_of}
use Rattle.pw_value.specs.declared.words.WordFault.{WordFault}
use Rattle.pw_value.specs.declared.words.WordFault.TheVariants.{Overflow, ZeroDivisor, ShiftCount}
use Rattle.pw_value.specs.Words.{signed, exact, complement, unsigned_sum, unsigned_difference, unsigned_product, unsigned_negation, unsigned_quotient, unsigned_remainder, unsigned_less, unsigned_at_most, signed_sum, signed_difference, signed_product, signed_negation, signed_quotient, signed_remainder, signed_less, signed_at_most, shift_left, unsigned_shift_right, signed_shift_right}

-- ---- values

-- 1 where it holds, and else 0 (6.3.8, 6.3.9)
abbrev pub number_for : Bool → ℕ
number_for holds = if holds then 1 else 0

-- a byte of a pointer, which may only be copied
abbrev pub is_piece : Value → Bool
is_piece (V.Piece p i) = true
is_piece _ = false

-- a pointer to an object that has ended
abbrev pub is_ended : List Object → Value → Bool
is_ended objects (V.At (P.Object number offset)) = not (object_at objects number).live
is_ended objects _ = false

-- ---- comparing with 0

-- whether a number or a pointer is unlike 0 (6.3.3.3, 6.3.13, 6.3.14, 6.6.4.1)
abbrev pub unlike_zero : Value → Option Bool
unlike_zero (V.Num n) = Some (not (n == 0))
unlike_zero V.Null = Some false
unlike_zero (V.At p) = Some true
unlike_zero V.Undefined = None
unlike_zero (V.Piece p i) = None

unfoldable pub truth : Site → Value → Act Bool
truth site v = do
  objects ← objects_now
  judge site (U.EndedObject when is_ended objects v ∷ U.PointerBytes when is_piece v ∷ [])
  need (unlike_zero v)

-- ---- numbers

-- what an operation on words gives
unfoldable pub outcome_of : Site → Result ℕ WordFault → Act Value
outcome_of site (Ok n) = give (V.Num n)
outcome_of site (Err Overflow) = undefined site U.SignedOverflow
outcome_of site (Err ZeroDivisor) = undefined site U.ZeroDivisor
outcome_of site (Err ShiftCount) = undefined site U.ShiftCount

-- a binary operator on words, by whether its operands are signed
abbrev pub arithmetic : BinaryOperator → Bool → ℕ → ℕ → Result ℕ WordFault
arithmetic Add true a b = signed_sum a b
arithmetic Add false a b = Ok (unsigned_sum a b)
arithmetic Subtract true a b = signed_difference a b
arithmetic Subtract false a b = Ok (unsigned_difference a b)
arithmetic Multiply true a b = signed_product a b
arithmetic Multiply false a b = Ok (unsigned_product a b)
arithmetic Divide true a b = signed_quotient a b
arithmetic Divide false a b = unsigned_quotient a b
arithmetic Remainder true a b = signed_remainder a b
arithmetic Remainder false a b = unsigned_remainder a b
arithmetic ShiftLeft sign a b = shift_left a b
arithmetic ShiftRight true a b = signed_shift_right a b
arithmetic ShiftRight false a b = unsigned_shift_right a b
arithmetic Less true a b = Ok (number_for (signed_less a b))
arithmetic Less false a b = Ok (number_for (unsigned_less a b))
arithmetic Greater true a b = Ok (number_for (signed_less b a))
arithmetic Greater false a b = Ok (number_for (unsigned_less b a))
arithmetic LessEqual true a b = Ok (number_for (signed_at_most a b))
arithmetic LessEqual false a b = Ok (number_for (unsigned_at_most a b))
arithmetic GreaterEqual true a b = Ok (number_for (signed_at_most b a))
arithmetic GreaterEqual false a b = Ok (number_for (unsigned_at_most b a))
arithmetic Equal sign a b = Ok (number_for (a == b))
arithmetic NotEqual sign a b = Ok (number_for (not (a == b)))
arithmetic And sign a b = Ok (bit_and a b)
arithmetic ExclusiveOr sign a b = Ok (bit_xor a b)
arithmetic Or sign a b = Ok (bit_or a b)

unfoldable pub on_numbers : Site → BinaryOperator → IntKind → Value → Value → Act Value
on_numbers site op kind (V.Num a) (V.Num b) = outcome_of site (arithmetic op (is_signed_kind kind) a b)
on_numbers site op kind _ _ = wrong

-- the unary operators on a number, `!` aside (6.3.3.3)
abbrev pub negation : Bool → ℕ → Result ℕ WordFault
negation true n = signed_negation n
negation false n = Ok (unsigned_negation n)

unfoldable pub unary_number : Site → UnaryOperator → CType → Value → Act Value
unary_number site Minus (Int kind) (V.Num n) = outcome_of site (negation (is_signed_kind kind) n)
unary_number site Plus (Int kind) (V.Num n) = give (V.Num n)
unary_number site Complement (Int kind) (V.Num n) = give (V.Num (complement n))
unary_number site _ _ _ = wrong

unfoldable pub unary : Site → UnaryOperator → CType → Value → Act Value
unary site Not ty v = do
  holds ← truth site v
  give (V.Num (number_for (not holds)))
unary site op ty v = unary_number site op ty v

-- ---- pointers

-- an offset so many bytes further
abbrev pub further : ℕ → ℤ → Option ℕ
further offset (pos n) = Some (offset + n)
further offset (negsuc n) = if nat_lt n offset then Some (offset - suc n) else None

-- an offset in the object or the position behind it
abbrev pub kept_in : ℕ → Option ℕ → Option ℕ
kept_in size None = None
kept_in size (Some offset) = if nat_le offset size then Some offset else None

-- A pointer so many bytes further: into the same object, or to the position behind it (6.3.6). The object
-- is the whole one, whatever its elements.
abbrev pub moved : List Object → Value → ℤ → Option Value
moved objects (V.At (P.Object number offset)) bytes =
    option_map (λ to. V.At (P.Object number to)) (kept_in (length (object_at objects number).bytes) (further offset bytes))
moved objects _ bytes = None

-- a whole number of an integer type
abbrev pub integer : IntKind → Value → Option ℤ
integer kind (V.Num n) = Some (if is_signed_kind kind then signed n else pos n)
integer kind _ = None

unfoldable pub advance : Site → Value → ℤ → Act Value
advance site p bytes = do
  objects ← objects_now
  judge site (U.EndedObject when is_ended objects p ∷ U.PointerArithmetic when is_none (moved objects p bytes) ∷ [])
  need (moved objects p bytes)

-- a pointer plus so many elements, or minus where the sign says so; nothing moves by a byte of a pointer
unfoldable pub advance_elements : Site → List RecordValue → QType → (ℤ → ℤ) → Value → IntKind → Value → Act Value
advance_elements site records q sign p kind v = do
  layout ← need (layout_of records (type_of q))
  objects ← objects_now
  judge site (U.EndedObject when is_ended objects p ∷ U.PointerArithmetic when is_none (moved objects p (sign (unwrap_or (integer kind v) (pos 0) *ℤ pos layout.size))) ∷ U.PointerBytes when is_piece v ∷ [])
  need (moved objects p (sign (unwrap_or (integer kind v) (pos 0) *ℤ pos layout.size)))

abbrev pub into_one_object : Value → Value → Bool
into_one_object (V.At (P.Object a i)) (V.At (P.Object b j)) = a == b
into_one_object _ _ = false

abbrev pub offset_of : Value → ℕ
offset_of (V.At (P.Object number offset)) = offset
offset_of _ = 0

-- from the second to the first, in bytes
abbrev pub distance : Value → Value → ℤ
distance p q = pos (offset_of p) -ℤ pos (offset_of q)

-- so many bytes are no number of elements of a size; elements without bytes cannot be counted
abbrev pub are_no_elements : ℕ → ℕ → Bool
are_no_elements size bytes = size == 0 || not (bytes % size == 0)

-- how many elements lie between (6.3.6)
unfoldable pub difference : Site → ℕ → Value → Value → Act Value
difference site size p q = do
  objects ← objects_now
  judge site (U.EndedObject when (is_ended objects p || is_ended objects q) ∷ U.DifferentObjects when not (into_one_object p q) ∷ U.PointerDifference when are_no_elements size (unsigned_abs (distance p q)) ∷ [])
  outcome_of site (exact (int_div (distance p q) (pos size)))

-- pointers into one object are in the order of their offsets (6.3.8)
unfoldable pub ordered : Site → BinaryOperator → Value → Value → Act Value
ordered site op p q = do
  objects ← objects_now
  judge site (U.EndedObject when (is_ended objects p || is_ended objects q) ∷ U.DifferentObjects when not (into_one_object p q) ∷ [])
  outcome_of site (arithmetic op false (offset_of p) (offset_of q))

-- both null, or the same function, or the same object and offset (6.3.9)
abbrev pub same : Value → Value → Option Bool
same V.Null V.Null = Some true
same V.Null (V.At q) = Some false
same (V.At p) V.Null = Some false
same (V.At p) (V.At q) = Some (same_pointer p q)
same _ _ = None

unfoldable pub compared : Site → (Bool → Bool) → Value → Value → Act Value
compared site turned p q = do
  objects ← objects_now
  judge site (U.EndedObject when (is_ended objects p || is_ended objects q) ∷ [])
  holds ← need (same p q)
  give (V.Num (number_for (turned holds)))

unfoldable pub on_pointers : Site → List RecordValue → QType → BinaryOperator → Value → Value → Act Value
on_pointers site records r Subtract p q = do
  layout ← need (layout_of records (type_of r))
  difference site layout.size p q
on_pointers site records r Less p q = ordered site Less p q
on_pointers site records r Greater p q = ordered site Greater p q
on_pointers site records r LessEqual p q = ordered site LessEqual p q
on_pointers site records r GreaterEqual p q = ordered site GreaterEqual p q
on_pointers site records r Equal p q = compared site (λ holds. holds) p q
on_pointers site records r NotEqual p q = compared site not p q
on_pointers site records r _ p q = wrong

unfoldable pub pointer_and_number : Site → List RecordValue → QType → BinaryOperator → Value → IntKind → Value → Act Value
pointer_and_number site records q Add p kind v = advance_elements site records q (λ z. z) p kind v
pointer_and_number site records q Subtract p kind v = advance_elements site records q neg_ℤ p kind v
pointer_and_number site records q _ p kind v = wrong

unfoldable pub number_and_pointer : Site → List RecordValue → QType → BinaryOperator → IntKind → Value → Value → Act Value
number_and_pointer site records q Add kind v p = advance_elements site records q (λ z. z) p kind v
number_and_pointer site records q _ kind v p = wrong

-- a binary operator, by the types of its operands
unfoldable pub binary : Site → List RecordValue → BinaryOperator → CType → CType → Value → Value → Act Value
binary site records op (Int a) (Int b) v w = on_numbers site op a v w
binary site records op (Pointer a) (Int b) v w = pointer_and_number site records a op v b w
binary site records op (Int a) (Pointer b) v w = number_and_pointer site records b op a v w
binary site records op (Pointer a) (Pointer b) v w = on_pointers site records a op v w
binary site records op _ _ v w = wrong

-- ---- conversions

-- as a pointer: the number 0 is the null pointer (6.2.2.3)
abbrev pub as_pointer : Value → Option Value
as_pointer (V.Num zero) = Some V.Null
as_pointer (V.Num (suc n)) = None
as_pointer V.Null = Some V.Null
as_pointer (V.At p) = Some (V.At p)
as_pointer V.Undefined = None
as_pointer (V.Piece p i) = None

-- To a scalar type. To an integer type a number keeps its low bits; a byte of a pointer stays one in a
-- character type alone.
unfoldable pub convert : Site → CType → Value → Act Value
convert site (Int kind) v = do
  judge site (U.PointerBytes when (is_piece v && not (size_of_kind kind == 1)) ∷ [])
  give (converted v kind)
convert site (Pointer q) v = need (as_pointer v)
convert site _ v = wrong
