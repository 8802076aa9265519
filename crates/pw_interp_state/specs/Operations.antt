-- What operators and conversions come to, as functions of the objects.
use Rattle.std.specs.Prelude.{ℕ, ℤ, pos, int_div, unsigned_abs, ◌*ℤ◌, ◌==◌, ◌&&◌, ◌||◌, Bool, true, false, not, if◌then◌else◌, Option, Some, None, is_none, unwrap_or, Result, Ok, Err, List, [], ◌∷◌}
use Rattle.pw_value.specs.declared.value.Value.{Value}
use Rattle.pw_value.specs.declared.value.Value.TheVariants as V
use Rattle.pw_value.specs.Objects.{Object}
use Rattle.pw_value.specs.declared.words.WordFault.{WordFault}
use Rattle.pw_value.specs.declared.words.WordFault.TheVariants.{Overflow, ZeroDivisor, ShiftCount}
use Rattle.pw_value.specs.Words.{complement, exact}
use Rattle.pw_types.specs.Conversions.{size_of_kind, is_signed_kind, converted}
use Rattle.pw_types.specs.declared.kind.IntKind.{IntKind}
use Rattle.pw_types.specs.declared.record.Layout.{Layout}
use Rattle.pw_types.specs.declared.tree.UnaryOperator.{UnaryOperator}
use Rattle.pw_types.specs.declared.tree.UnaryOperator.TheVariants.{Plus, Minus, Complement, Not}
use Rattle.pw_types.specs.declared.tree.BinaryOperator.{BinaryOperator}
use Rattle.pw_types.specs.declared.tree.BinaryOperator.TheVariants.{Add, Subtract, Less, Greater, LessEqual, GreaterEqual, Equal, NotEqual}
use Rattle.pw_cmean.specs.declared.undefined.Undef.TheVariants as U
use Rattle.pw_cmean.specs.Undefined.{Finding, ◌when◌}
use Rattle.pw_cmean.specs.Operators.{number_for, is_piece, is_ended, unlike_zero, arithmetic, negation, moved, integer, into_one_object, offset_of, distance, are_no_elements, same, as_pointer}
use Rattle.pw_interp_state.specs.declared.category.Category.{Category}
use Rattle.pw_interp_state.specs.declared.category.Category.TheVariants as C
use Rattle.pw_interp_state.specs.declared.fault.Fault.{Fault}
use Rattle.pw_interp_state.specs.declared.fault.Fault.TheVariants as F
use Rattle.pw_interp_state.specs.Answers.{judged, needed}
use Rattle.pw_interp_state.specs.Moves.{turned}

-- ---- comparing with 0

abbrev pub truth_of : List Object → Value → Result Bool Fault
truth_of objects v = judged (U.EndedObject when is_ended objects v ∷ U.PointerBytes when is_piece v ∷ []) (needed (unlike_zero v))

-- `!`
abbrev pub negated : Result Bool Fault → Result Value Fault
negated (Ok holds) = Ok (V.Num (number_for (not holds)))
negated (Err fault) = Err fault

-- ---- numbers

abbrev pub word_answer : Result ℕ WordFault → Result Value Fault
word_answer (Ok n) = Ok (V.Num n)
word_answer (Err Overflow) = Err (F.Undefined U.SignedOverflow)
word_answer (Err ZeroDivisor) = Err (F.Undefined U.ZeroDivisor)
word_answer (Err ShiftCount) = Err (F.Undefined U.ShiftCount)

abbrev pub numbers_by : BinaryOperator → IntKind → Value → Value → Result Value Fault
numbers_by op kind (V.Num a) (V.Num b) = word_answer (arithmetic op (is_signed_kind kind) a b)
numbers_by op kind _ _ = Err F.Wrong

abbrev pub unary_number_by : UnaryOperator → Category → Value → Result Value Fault
unary_number_by Minus (C.Int kind) (V.Num n) = word_answer (negation (is_signed_kind kind) n)
unary_number_by Plus (C.Int kind) (V.Num n) = Ok (V.Num n)
unary_number_by Complement (C.Int kind) (V.Num n) = Ok (V.Num (complement n))
unary_number_by _ _ _ = Err F.Wrong

abbrev pub unary_by : List Object → UnaryOperator → Category → Value → Result Value Fault
unary_by objects Not category v = negated (truth_of objects v)
unary_by objects Minus category v = unary_number_by Minus category v
unary_by objects Plus category v = unary_number_by Plus category v
unary_by objects Complement category v = unary_number_by Complement category v

-- ---- pointers

abbrev pub advanced : List Object → Value → ℤ → Result Value Fault
advanced objects p bytes =
    judged (U.EndedObject when is_ended objects p ∷ U.PointerArithmetic when is_none (moved objects p bytes) ∷ []) (needed (moved objects p bytes))

-- the bytes of so many elements
abbrev pub element_bytes : Bool → IntKind → Value → ℕ → ℤ
element_bytes back kind v size = turned back (unwrap_or (integer kind v) (pos 0) *ℤ pos size)

-- what a move by so many bytes is where it has no meaning; nothing moves by a byte of a pointer
abbrev pub moving : List Object → ℤ → Value → Value → List Finding
moving objects bytes p v =
    U.EndedObject when is_ended objects p ∷ U.PointerArithmetic when is_none (moved objects p bytes) ∷ U.PointerBytes when is_piece v ∷ []

abbrev pub moved_by : List Object → ℤ → Value → Value → Result Value Fault
moved_by objects bytes p v = judged (moving objects bytes p v) (needed (moved objects p bytes))

-- a pointer plus so many elements of the layout, or minus
abbrev pub elements_by : List Object → Option Layout → Bool → Value → IntKind → Value → Result Value Fault
elements_by objects None back p kind v = Err F.Wrong
elements_by objects (Some layout) back p kind v = moved_by objects (element_bytes back kind v layout.size) p v

abbrev pub subtracted : List Object → ℕ → Value → Value → Result Value Fault
subtracted objects size p q =
    judged (U.EndedObject when (is_ended objects p || is_ended objects q) ∷ U.DifferentObjects when not (into_one_object p q) ∷ U.PointerDifference when are_no_elements size (unsigned_abs (distance p q)) ∷ [])
    (word_answer (exact (int_div (distance p q) (pos size))))

abbrev pub ordered_by : List Object → BinaryOperator → Value → Value → Result Value Fault
ordered_by objects op p q =
    judged (U.EndedObject when (is_ended objects p || is_ended objects q) ∷ U.DifferentObjects when not (into_one_object p q) ∷ [])
    (word_answer (arithmetic op false (offset_of p) (offset_of q)))

-- whether they are the same, or are not
abbrev pub sameness : Bool → Option Bool → Result Value Fault
sameness unlike None = Err F.Wrong
sameness unlike (Some holds) = Ok (V.Num (number_for (if unlike then not holds else holds)))

abbrev pub compared_by : List Object → Bool → Value → Value → Result Value Fault
compared_by objects unlike p q = judged (U.EndedObject when (is_ended objects p || is_ended objects q) ∷ []) (sameness unlike (same p q))

abbrev pub difference_by : List Object → Option Layout → Value → Value → Result Value Fault
difference_by objects None p q = Err F.Wrong
difference_by objects (Some layout) p q = subtracted objects layout.size p q

abbrev pub pointers_by : List Object → Option Layout → BinaryOperator → Value → Value → Result Value Fault
pointers_by objects layout Subtract p q = difference_by objects layout p q
pointers_by objects layout Less p q = ordered_by objects Less p q
pointers_by objects layout Greater p q = ordered_by objects Greater p q
pointers_by objects layout LessEqual p q = ordered_by objects LessEqual p q
pointers_by objects layout GreaterEqual p q = ordered_by objects GreaterEqual p q
pointers_by objects layout Equal p q = compared_by objects false p q
pointers_by objects layout NotEqual p q = compared_by objects true p q
pointers_by objects layout _ p q = Err F.Wrong

abbrev pub pointer_and_number_by : List Object → Option Layout → BinaryOperator → Value → IntKind → Value → Result Value Fault
pointer_and_number_by objects layout Add p kind v = elements_by objects layout false p kind v
pointer_and_number_by objects layout Subtract p kind v = elements_by objects layout true p kind v
pointer_and_number_by objects layout _ p kind v = Err F.Wrong

abbrev pub number_and_pointer_by : List Object → Option Layout → BinaryOperator → IntKind → Value → Value → Result Value Fault
number_and_pointer_by objects layout Add kind v p = elements_by objects layout false p kind v
number_and_pointer_by objects layout _ kind v p = Err F.Wrong

-- a binary operator on operands of these categories; the layout is that of what the pointer points to, the first
-- of two
abbrev pub binary_by : List Object → Option Layout → BinaryOperator → Category → Category → Value → Value → Result Value Fault
binary_by objects layout op (C.Int a) (C.Int b) v w = numbers_by op a v w
binary_by objects layout op C.Pointer (C.Int b) v w = pointer_and_number_by objects layout op v b w
binary_by objects layout op (C.Int a) C.Pointer v w = number_and_pointer_by objects layout op a v w
binary_by objects layout op C.Pointer C.Pointer v w = pointers_by objects layout op v w
binary_by objects layout op _ _ v w = Err F.Wrong

-- ---- conversions

abbrev pub converted_to : Category → Value → Result Value Fault
converted_to (C.Int kind) v = judged (U.PointerBytes when (is_piece v && not (size_of_kind kind == 1)) ∷ []) (Ok (converted v kind))
converted_to C.Pointer v = needed (as_pointer v)
converted_to C.Void v = Err F.Wrong
converted_to C.Array v = Err F.Wrong
converted_to C.Function v = Err F.Wrong
converted_to C.Record v = Err F.Wrong
