-- Each act of an operator or a conversion is what its function of the objects answers.
use Rattle.std.proofs.Common.{ℕ, ◌≡◌, refl, ap, ◌∙◌, Bool, true, false, List, Option, None, Some, Result, Ok, Err}
use Rattle.std.specs.Prelude.{ℤ, neg_ℤ, not}
use Rattle.pw_value.specs.declared.value.Value.{Value}
use Rattle.pw_value.specs.declared.value.Value.TheVariants as V
use Rattle.pw_value.specs.declared.words.WordFault.{WordFault}
use Rattle.pw_value.specs.declared.words.WordFault.TheVariants.{Overflow, ZeroDivisor, ShiftCount}
use Rattle.pw_types.specs.TypeTrees.{CType, Void, Int, Pointer, Array, Function, Record, QType, type_of, RecordValue}
use Rattle.pw_types.specs.declared.kind.IntKind.{IntKind}
use Rattle.pw_types.specs.declared.record.Layout.{Layout}
use Rattle.pw_types.specs.Layouts.{layout_of}
use Rattle.pw_types.specs.declared.tree.UnaryOperator.{UnaryOperator}
use Rattle.pw_types.specs.declared.tree.UnaryOperator.TheVariants.{Plus, Minus, Complement, Not}
use Rattle.pw_types.specs.declared.tree.BinaryOperator.{BinaryOperator}
use Rattle.pw_types.specs.declared.tree.BinaryOperator.TheVariants.{Add, Subtract, Multiply, Divide, Remainder, ShiftLeft, ShiftRight, Less, Greater, LessEqual, GreaterEqual, Equal, NotEqual, And, ExclusiveOr, Or}
use Rattle.pw_cmean.specs.Acts.{State, Site, give, stop, go_on, ◌>>=◌, ◌>>◌, look, need, wrong, undefined, judge}
use Rattle.pw_cmean.specs.Access.{objects_now}
use Rattle.pw_cmean.specs.Operators.{truth, outcome_of, on_numbers, unary_number, unary, advance, advance_elements, difference, ordered, compared, on_pointers, pointer_and_number, number_and_pointer, binary, convert, number_for, unlike_zero, moved, same, as_pointer}
use Rattle.pw_interp_state.specs.declared.fault.Fault.{Fault}
use Rattle.pw_interp_state.specs.Answers.{needed, answered}
use Rattle.pw_interp_state.specs.Categories.{category_of}
use Rattle.pw_interp_state.specs.Operations as by
use Rattle.pw_interp_state.specs.Elements.{element_layout}
use Rattle.pw_interp_state.proofs.AccessLaws.{judge_is, need_is}

pub truth_is : (site : Site) (v : Value) (s : State) → truth site v s ≡ answered site (by.truth_of s.objects v) s
unfolding truth objects_now look go_on ◌>>=◌
truth_is site v s = judge_is site _ (need (unlike_zero v)) (needed (unlike_zero v)) s (need_is site (unlike_zero v) s)

-- ---- numbers

word_is : (site : Site) (r : Result ℕ WordFault) (s : State) → outcome_of site r s ≡ answered site (by.word_answer r) s
unfolding outcome_of undefined give stop
word_is site (Ok n) s = refl
word_is site (Err Overflow) s = refl
word_is site (Err ZeroDivisor) s = refl
word_is site (Err ShiftCount) s = refl

numbers_is : (site : Site) (op : BinaryOperator) (kind : IntKind) (v w : Value) (s : State) → on_numbers site op kind v w s ≡ answered site (by.numbers_by op kind v w) s
unfolding on_numbers wrong stop
numbers_is site op kind (V.Num a) (V.Num b) s = word_is site _ s
numbers_is site op kind (V.Num a) V.Undefined s = refl
numbers_is site op kind (V.Num a) V.Null s = refl
numbers_is site op kind (V.Num a) (V.At p) s = refl
numbers_is site op kind (V.Num a) (V.Piece p i) s = refl
numbers_is site op kind V.Undefined w s = refl
numbers_is site op kind V.Null w s = refl
numbers_is site op kind (V.At p) w s = refl
numbers_is site op kind (V.Piece p i) w s = refl

unary_number_is : (site : Site) (op : UnaryOperator) (ty : CType) (v : Value) (s : State) → unary_number site op ty v s ≡ answered site (by.unary_number_by op (category_of ty) v) s
unfolding unary_number wrong stop give
unary_number_is site Minus Void v s = refl
unary_number_is site Minus (Int kind) V.Undefined s = refl
unary_number_is site Minus (Int kind) (V.Num n) s = word_is site _ s
unary_number_is site Minus (Int kind) V.Null s = refl
unary_number_is site Minus (Int kind) (V.At p) s = refl
unary_number_is site Minus (Int kind) (V.Piece p i) s = refl
unary_number_is site Minus (Pointer q) v s = refl
unary_number_is site Minus (Array q count) v s = refl
unary_number_is site Minus (Function result params) v s = refl
unary_number_is site Minus (Record number) v s = refl
unary_number_is site Plus Void v s = refl
unary_number_is site Plus (Int kind) V.Undefined s = refl
unary_number_is site Plus (Int kind) (V.Num n) s = refl
unary_number_is site Plus (Int kind) V.Null s = refl
unary_number_is site Plus (Int kind) (V.At p) s = refl
unary_number_is site Plus (Int kind) (V.Piece p i) s = refl
unary_number_is site Plus (Pointer q) v s = refl
unary_number_is site Plus (Array q count) v s = refl
unary_number_is site Plus (Function result params) v s = refl
unary_number_is site Plus (Record number) v s = refl
unary_number_is site Complement Void v s = refl
unary_number_is site Complement (Int kind) V.Undefined s = refl
unary_number_is site Complement (Int kind) (V.Num n) s = refl
unary_number_is site Complement (Int kind) V.Null s = refl
unary_number_is site Complement (Int kind) (V.At p) s = refl
unary_number_is site Complement (Int kind) (V.Piece p i) s = refl
unary_number_is site Complement (Pointer q) v s = refl
unary_number_is site Complement (Array q count) v s = refl
unary_number_is site Complement (Function result params) v s = refl
unary_number_is site Complement (Record number) v s = refl
unary_number_is site Not Void v s = refl
unary_number_is site Not (Int kind) v s = refl
unary_number_is site Not (Pointer q) v s = refl
unary_number_is site Not (Array q count) v s = refl
unary_number_is site Not (Function result params) v s = refl
unary_number_is site Not (Record number) v s = refl

pub unary_is : (site : Site) (op : UnaryOperator) (ty : CType) (v : Value) (s : State) → unary site op ty v s ≡ answered site (by.unary_by s.objects op (category_of ty) v) s
unfolding unary go_on ◌>>=◌ give
unary_is site Not ty v s = ap (λ o. go_on o (λ holds. give (V.Num (number_for (not holds))))) (truth_is site v s) ∙ negated_is (by.truth_of s.objects v)
  where
    negated_is : (r : Result Bool Fault) → go_on (answered site r s) (λ holds. give (V.Num (number_for (not holds)))) ≡ answered site (by.negated r) s
    negated_is (Ok holds) = refl
    negated_is (Err fault) = refl
unary_is site Minus ty v s = unary_number_is site Minus ty v s
unary_is site Plus ty v s = unary_number_is site Plus ty v s
unary_is site Complement ty v s = unary_number_is site Complement ty v s

-- ---- pointers

pub advance_is : (site : Site) (p : Value) (bytes : ℤ) (s : State) → advance site p bytes s ≡ answered site (by.advanced s.objects p bytes) s
unfolding advance objects_now look go_on ◌>>=◌
advance_is site p bytes s = judge_is site _ (need (moved s.objects p bytes)) (needed (moved s.objects p bytes)) s (need_is site (moved s.objects p bytes) s)

plus_is : (site : Site) (records : List RecordValue) (q : QType) (p : Value) (kind : IntKind) (v : Value) (s : State)
    → advance_elements site records q (λ z. z) p kind v s ≡ answered site (by.elements_by s.objects (layout_of records (type_of q)) false p kind v) s
unfolding advance_elements objects_now look need wrong stop give go_on ◌>>=◌
plus_is site records q p kind v s = laid (layout_of records (type_of q))
  where
    laid : (o : Option Layout) → go_on (need o s) (λ layout. objects_now >>= λ objects. judge site (by.moving objects (by.element_bytes false kind v layout.size) p v) >> need (moved objects p (by.element_bytes false kind v layout.size))) ≡ answered site (by.elements_by s.objects o false p kind v) s
    laid None = refl
    laid (Some layout) = judge_is site _ (need (moved s.objects p (by.element_bytes false kind v layout.size))) _ s (need_is site (moved s.objects p (by.element_bytes false kind v layout.size)) s)

minus_is : (site : Site) (records : List RecordValue) (q : QType) (p : Value) (kind : IntKind) (v : Value) (s : State)
    → advance_elements site records q neg_ℤ p kind v s ≡ answered site (by.elements_by s.objects (layout_of records (type_of q)) true p kind v) s
unfolding advance_elements objects_now look need wrong stop give go_on ◌>>=◌
minus_is site records q p kind v s = laid (layout_of records (type_of q))
  where
    laid : (o : Option Layout) → go_on (need o s) (λ layout. objects_now >>= λ objects. judge site (by.moving objects (by.element_bytes true kind v layout.size) p v) >> need (moved objects p (by.element_bytes true kind v layout.size))) ≡ answered site (by.elements_by s.objects o true p kind v) s
    laid None = refl
    laid (Some layout) = judge_is site _ (need (moved s.objects p (by.element_bytes true kind v layout.size))) _ s (need_is site (moved s.objects p (by.element_bytes true kind v layout.size)) s)

difference_is : (site : Site) (size : ℕ) (p q : Value) (s : State) → difference site size p q s ≡ answered site (by.subtracted s.objects size p q) s
unfolding difference objects_now look go_on ◌>>=◌
difference_is site size p q s = judge_is site _ (outcome_of site _) _ s (word_is site _ s)

ordered_is : (site : Site) (op : BinaryOperator) (p q : Value) (s : State) → ordered site op p q s ≡ answered site (by.ordered_by s.objects op p q) s
unfolding ordered objects_now look go_on ◌>>=◌
ordered_is site op p q s = judge_is site _ (outcome_of site _) _ s (word_is site _ s)

like_is : (site : Site) (p q : Value) (s : State) → compared site (λ holds. holds) p q s ≡ answered site (by.compared_by s.objects false p q) s
unfolding compared objects_now look need give wrong stop go_on ◌>>=◌
like_is site p q s = judge_is site _ (need (same p q) >>= λ holds. give (V.Num (number_for holds))) (by.sameness false (same p q)) s (known (same p q))
  where
    known : (o : Option Bool) → go_on (need o s) (λ holds. give (V.Num (number_for holds))) ≡ answered site (by.sameness false o) s
    known None = refl
    known (Some holds) = refl

unlike_is : (site : Site) (p q : Value) (s : State) → compared site not p q s ≡ answered site (by.compared_by s.objects true p q) s
unfolding compared objects_now look need give wrong stop go_on ◌>>=◌
unlike_is site p q s = judge_is site _ (need (same p q) >>= λ holds. give (V.Num (number_for (not holds)))) (by.sameness true (same p q)) s (known (same p q))
  where
    known : (o : Option Bool) → go_on (need o s) (λ holds. give (V.Num (number_for (not holds)))) ≡ answered site (by.sameness true o) s
    known None = refl
    known (Some holds) = refl

subtraction_is : (site : Site) (records : List RecordValue) (r : QType) (p q : Value) (s : State)
    → on_pointers site records r Subtract p q s ≡ answered site (by.difference_by s.objects (layout_of records (type_of r)) p q) s
unfolding on_pointers need give wrong stop go_on ◌>>=◌
subtraction_is site records r p q s = laid (layout_of records (type_of r))
  where
    laid : (o : Option Layout) → go_on (need o s) (λ layout. difference site layout.size p q) ≡ answered site (by.difference_by s.objects o p q) s
    laid None = refl
    laid (Some layout) = difference_is site layout.size p q s

pointers_is : (site : Site) (records : List RecordValue) (r : QType) (op : BinaryOperator) (p q : Value) (s : State)
    → on_pointers site records r op p q s ≡ answered site (by.pointers_by s.objects (layout_of records (type_of r)) op p q) s
unfolding on_pointers wrong stop
pointers_is site records r Add p q s = refl
pointers_is site records r Subtract p q s = subtraction_is site records r p q s
pointers_is site records r Multiply p q s = refl
pointers_is site records r Divide p q s = refl
pointers_is site records r Remainder p q s = refl
pointers_is site records r ShiftLeft p q s = refl
pointers_is site records r ShiftRight p q s = refl
pointers_is site records r Less p q s = ordered_is site Less p q s
pointers_is site records r Greater p q s = ordered_is site Greater p q s
pointers_is site records r LessEqual p q s = ordered_is site LessEqual p q s
pointers_is site records r GreaterEqual p q s = ordered_is site GreaterEqual p q s
pointers_is site records r Equal p q s = like_is site p q s
pointers_is site records r NotEqual p q s = unlike_is site p q s
pointers_is site records r And p q s = refl
pointers_is site records r ExclusiveOr p q s = refl
pointers_is site records r Or p q s = refl

pointer_and_number_is : (site : Site) (records : List RecordValue) (q : QType) (op : BinaryOperator) (p : Value) (kind : IntKind) (v : Value) (s : State)
    → pointer_and_number site records q op p kind v s ≡ answered site (by.pointer_and_number_by s.objects (layout_of records (type_of q)) op p kind v) s
unfolding pointer_and_number wrong stop
pointer_and_number_is site records q Add p kind v s = plus_is site records q p kind v s
pointer_and_number_is site records q Subtract p kind v s = minus_is site records q p kind v s
pointer_and_number_is site records q Multiply p kind v s = refl
pointer_and_number_is site records q Divide p kind v s = refl
pointer_and_number_is site records q Remainder p kind v s = refl
pointer_and_number_is site records q ShiftLeft p kind v s = refl
pointer_and_number_is site records q ShiftRight p kind v s = refl
pointer_and_number_is site records q Less p kind v s = refl
pointer_and_number_is site records q Greater p kind v s = refl
pointer_and_number_is site records q LessEqual p kind v s = refl
pointer_and_number_is site records q GreaterEqual p kind v s = refl
pointer_and_number_is site records q Equal p kind v s = refl
pointer_and_number_is site records q NotEqual p kind v s = refl
pointer_and_number_is site records q And p kind v s = refl
pointer_and_number_is site records q ExclusiveOr p kind v s = refl
pointer_and_number_is site records q Or p kind v s = refl

number_and_pointer_is : (site : Site) (records : List RecordValue) (q : QType) (op : BinaryOperator) (kind : IntKind) (v p : Value) (s : State)
    → number_and_pointer site records q op kind v p s ≡ answered site (by.number_and_pointer_by s.objects (layout_of records (type_of q)) op kind v p) s
unfolding number_and_pointer wrong stop
number_and_pointer_is site records q Add kind v p s = plus_is site records q p kind v s
number_and_pointer_is site records q Subtract kind v p s = refl
number_and_pointer_is site records q Multiply kind v p s = refl
number_and_pointer_is site records q Divide kind v p s = refl
number_and_pointer_is site records q Remainder kind v p s = refl
number_and_pointer_is site records q ShiftLeft kind v p s = refl
number_and_pointer_is site records q ShiftRight kind v p s = refl
number_and_pointer_is site records q Less kind v p s = refl
number_and_pointer_is site records q Greater kind v p s = refl
number_and_pointer_is site records q LessEqual kind v p s = refl
number_and_pointer_is site records q GreaterEqual kind v p s = refl
number_and_pointer_is site records q Equal kind v p s = refl
number_and_pointer_is site records q NotEqual kind v p s = refl
number_and_pointer_is site records q And kind v p s = refl
number_and_pointer_is site records q ExclusiveOr kind v p s = refl
number_and_pointer_is site records q Or kind v p s = refl

pub binary_is : (site : Site) (records : List RecordValue) (op : BinaryOperator) (a b : CType) (v w : Value) (s : State)
    → binary site records op a b v w s ≡ answered site (by.binary_by s.objects (element_layout records a b) op (category_of a) (category_of b) v w) s
unfolding binary wrong stop
binary_is site records op (Int a) (Int b) v w s = numbers_is site op a v w s
binary_is site records op (Int a) (Pointer q) v w s = number_and_pointer_is site records q op a v w s
binary_is site records op (Int a) Void v w s = refl
binary_is site records op (Int a) (Array q count) v w s = refl
binary_is site records op (Int a) (Function result params) v w s = refl
binary_is site records op (Int a) (Record number) v w s = refl
binary_is site records op (Pointer q) (Int b) v w s = pointer_and_number_is site records q op v b w s
binary_is site records op (Pointer q) (Pointer r) v w s = pointers_is site records q op v w s
binary_is site records op (Pointer q) Void v w s = refl
binary_is site records op (Pointer q) (Array r count) v w s = refl
binary_is site records op (Pointer q) (Function result params) v w s = refl
binary_is site records op (Pointer q) (Record number) v w s = refl
binary_is site records op Void b v w s = refl
binary_is site records op (Array q count) b v w s = refl
binary_is site records op (Function result params) b v w s = refl
binary_is site records op (Record number) b v w s = refl

-- ---- conversions

pub convert_is : (site : Site) (ty : CType) (v : Value) (s : State) → convert site ty v s ≡ answered site (by.converted_to (category_of ty) v) s
unfolding convert wrong stop give
convert_is site (Int kind) v s = judge_is site _ (give _) (Ok _) s refl
convert_is site (Pointer q) v s = need_is site (as_pointer v) s
convert_is site Void v s = refl
convert_is site (Array q count) v s = refl
convert_is site (Function result params) v s = refl
convert_is site (Record number) v s = refl
