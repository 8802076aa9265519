-- What the rewriting of constants knows is so, and what it makes of operations and ends does the same.
use Rattle.std.specs.Prelude.{ℕ, zero, suc, ◌≡◌, ◌≢◌, ◌≤◌, ◌==◌, Bool, true, false, not, Option, Some, None, Result, Ok, Err, List, length, slice_set, bit_and, bit_or, bit_xor}
use Rattle.std.proofs.Common.{refl, sym, ap, subst, ◌∙◌, arith, inl, inr}
use Rattle.std.proofs.lemmas.Bool.{cases_lt, cases_Bool, eqb-true, eq-eqb}
use Rattle.std.proofs.lemmas.List.{get_or-set_same, get_or-set_other, get_or_past, length-set}
use Rattle.std.proofs.lemmas.Option.{same_Some}
use Rattle.pw_value.specs.declared.value.Value.{Value}
use Rattle.pw_value.specs.declared.value.Value.TheVariants.{Num}
use Rattle.pw_value.specs.declared.words.WordFault.{WordFault}
use Rattle.pw_value.specs.Objects.{Object}
use Rattle.pw_value.specs.Words.{unsigned_sum, unsigned_difference, unsigned_product, unsigned_quotient, unsigned_remainder, unsigned_less, unsigned_at_most, signed_quotient, signed_remainder, signed_less, signed_at_most, shift_left, unsigned_shift_right, signed_shift_right}
use Rattle.pw_flow.specs.declared.flow.Op.{Op}
use Rattle.pw_flow.specs.declared.flow.Op.TheVariants as op
use Rattle.pw_flow.specs.declared.flow.End.{End}
use Rattle.pw_flow.specs.declared.flow.End.TheVariants.{Jump, Branch, Return}
use Rattle.pw_flow.specs.declared.flow.UnKind.{UnKind}
use Rattle.pw_flow.specs.declared.flow.UnKind.TheVariants.{Neg, Not}
use Rattle.pw_flow.specs.declared.flow.BinKind.{BinKind}
use Rattle.pw_flow.specs.declared.flow.BinKind.TheVariants.{Add, Sub, And, Or, Xor, Mul, DivS, DivU, RemS, RemU, Shl, ShrS, ShrU, Eq, Ne, LtS, LeS, LtU, LeU}
use Rattle.pw_flow.specs.declared.flow.ExtKind.{ExtKind}
use Rattle.pw_flow.specs.declared.flow.ExtKind.TheVariants.{S8, U8, S16, U16}
use Rattle.pw_flow.specs.Uses.{op_calls, op_defines}
use Rattle.pw_run_languages.specs.Values as run
use Rattle.pw_run_languages.specs.Values.{unary, extension, binary, on_numbers, number_of}
use Rattle.pw_run_languages.specs.Programs.{Program}
use Rattle.pw_run_languages.specs.Commands.{command}
use Rattle.pw_opt_rules.specs.declared.flat.Flat.{Flat}
use Rattle.pw_opt_rules.specs.declared.flat.Flat.TheVariants.{Bottom, One, Many}
use Rattle.pw_opt_rules.specs.Flat.{of_one, of_two}
use Rattle.pw_opt_rules.specs.Rows.{known}
use Rattle.pw_opt_rules.specs.Constants.{truth, un_word, ext_word, word_or_many, bin_word, constant, with_known, constant_transfer, const_or, constant_op, jump_or, constant_end, constants}
use Rattle.pw_law_opt.specs.Deeds.{Deed, Gets, deed, value, got, with_result, Way, branch_way, way}
use Rattle.pw_law_opt.proofs.Lists.{value_there, value_elsewhere}
use Rattle.pw_law_opt.proofs.Commands.{Defines, gets, changes, given, mapped, deeds_define}
use Rattle.pw_law_opt.proofs.Rewritings.{OneIs, Holds, DoesToo, IsTruthful}

-- a temporary has the word that it holds
abbrev pub holds_word : List Value → ℕ → ℕ → Type 0
holds_word ts t n = value ts t ≡ Num n

abbrev IsWord : Value → ℕ → Type 0
IsWord v n = v ≡ Num n

-- ---- a definition

one_is : (u : ℕ) → (u == u) ≡ true
one_is u = eq-eqb u u refl

known_past : (row : List Flat) (t u : ℕ) (x : Flat) → length row ≤ u → known (slice_set row t x) u ≡ Many
known_past row t u x past = let e : length (slice_set row t x) ≡ length row = length-set row t x in get_or_past (slice_set row t x) u Many (omega (arith, past, e))

pub set_holds : (row : List Flat) (ts : List Value) (t : ℕ) (x : Flat) (v : Value) → Holds holds_word row ts → OneIs (IsWord v) x → Holds holds_word (slice_set row t x) (slice_set ts t v)
set_holds row ts t x v h is = record {
  same = length-set ts t v ∙ h.same ∙ sym (length-set row t x);
  told = λ u. elim (cases_lt u (length row)) [
    | inr past ↦ subst (OneIs (holds_word (slice_set ts t v) u)) (sym (known_past row t u x past)) tt
    | inl within ↦ elim (cases_Bool (u == t)) [
      | inl e ↦
          let same : u ≡ t = eqb-true u t e in
          let size : length ts ≡ length row = h.same in
          subst (OneIs (holds_word (slice_set ts t v) u)) (sym (subst (λ k. known (slice_set row t x) k ≡ x) (sym same) (get_or-set_same row t x Many (omega (arith, within, same)))))
          (subst (λ (y : Value). OneIs (IsWord y) x) (sym (subst (λ k. value (slice_set ts t v) k ≡ v) (sym same) (value_there ts t v (omega (arith, within, same, size))))) is)
      | inr e ↦
          let apart : u ≢ t = λ same. absurd (let k : (u == t) ≡ true = ap (λ k. u == k) (sym same) ∙ one_is u in cc) in
          subst (OneIs (holds_word (slice_set ts t v) u)) (sym (get_or-set_other row t u x Many apart))
          (subst (λ (y : Value). OneIs (IsWord y) (known row u)) (sym (value_elsewhere ts t u v apart)) (h.told u))
    ]
  ];
}

-- ---- operations on words

un_told : (k : UnKind) (x : Flat) (v u : Value) → OneIs (IsWord v) x → unary k v ≡ Some u → OneIs (IsWord u) (of_one (λ n. One (un_word k n)) x)
un_told k Bottom v u o e = absurd o
un_told Neg (One n) v u o e = sym (same_Some _ u (ap (unary Neg) (sym o) ∙ e))
un_told Not (One n) v u o e = sym (same_Some _ u (ap (unary Not) (sym o) ∙ e))
un_told k Many v u o e = tt

ext_told : (k : ExtKind) (x : Flat) (v u : Value) → OneIs (IsWord v) x → extension k v ≡ Some u → OneIs (IsWord u) (of_one (λ n. One (ext_word k n)) x)
ext_told k Bottom v u o e = absurd o
ext_told S8 (One n) v u o e = sym (same_Some _ u (ap (extension S8) (sym o) ∙ e))
ext_told U8 (One n) v u o e = sym (same_Some _ u (ap (extension U8) (sym o) ∙ e))
ext_told S16 (One n) v u o e = sym (same_Some _ u (ap (extension S16) (sym o) ∙ e))
ext_told U16 (One n) v u o e = sym (same_Some _ u (ap (extension U16) (sym o) ∙ e))
ext_told k Many v u o e = tt

result_told : (r : Result ℕ WordFault) (u : Value) → number_of r ≡ Some u → OneIs (IsWord u) (word_or_many r)
result_told (Ok n) u e = sym (same_Some (Num n) u e)
result_told (Err fault) u e = tt

truth_told : (b : Bool) (u : Value) → Some (run.truth b) ≡ Some u → u ≡ Num (truth b)
truth_told true u e = sym (same_Some (Num 1) u e)
truth_told false u e = sym (same_Some (Num 0) u e)

numbers_told : (k : BinKind) (m n : ℕ) (u : Value) → on_numbers k m n ≡ Some u → OneIs (IsWord u) (bin_word k m n)
numbers_told Add m n u e = sym (same_Some (Num (unsigned_sum m n)) u e)
numbers_told Sub m n u e = sym (same_Some (Num (unsigned_difference m n)) u e)
numbers_told And m n u e = sym (same_Some (Num (bit_and m n)) u e)
numbers_told Or m n u e = sym (same_Some (Num (bit_or m n)) u e)
numbers_told Xor m n u e = sym (same_Some (Num (bit_xor m n)) u e)
numbers_told Mul m n u e = sym (same_Some (Num (unsigned_product m n)) u e)
numbers_told DivS m n u e = result_told (signed_quotient m n) u e
numbers_told DivU m n u e = result_told (unsigned_quotient m n) u e
numbers_told RemS m n u e = result_told (signed_remainder m n) u e
numbers_told RemU m n u e = result_told (unsigned_remainder m n) u e
numbers_told Shl m n u e = result_told (shift_left m n) u e
numbers_told ShrS m n u e = result_told (signed_shift_right m n) u e
numbers_told ShrU m n u e = result_told (unsigned_shift_right m n) u e
numbers_told Eq m n u e = truth_told (m == n) u e
numbers_told Ne m n u e = truth_told (not (m == n)) u e
numbers_told LtS m n u e = truth_told (signed_less m n) u e
numbers_told LeS m n u e = truth_told (signed_at_most m n) u e
numbers_told LtU m n u e = truth_told (unsigned_less m n) u e
numbers_told LeU m n u e = truth_told (unsigned_at_most m n) u e

bin_told : (k : BinKind) (objects : List Object) (x y : Flat) (v w u : Value) → OneIs (IsWord v) x → OneIs (IsWord w) y → binary objects k v w ≡ Some u → OneIs (IsWord u) (of_two (bin_word k) x y)
bin_told k objects Bottom y v w u a b e = absurd a
bin_told k objects (One m) Bottom v w u a b e = absurd b
bin_told k objects (One m) (One n) v w u a b e =
    numbers_told k m n u (ap (λ (z : Value). binary objects k (Num m) z) (sym b) ∙ ap (λ (z : Value). binary objects k z w) (sym a) ∙ e)
bin_told k objects (One m) Many v w u a b e = tt
bin_told k objects Many Bottom v w u a b e = absurd b
bin_told k objects Many (One n) v w u a b e = tt
bin_told k objects Many Many v w u a b e = tt

-- ---- what becomes of an operation

-- a word in place of an operation that gives it
record Folds (p : Program) (base : ℕ) (objects : List Object) (ts : List Value) (o : Op) (d : Deed) : Type 0 where
  pub calls : op_calls o ≡ false
  pub does : deed p objects (command p base o (value ts)) ≡ Some d

folds : (p : Program) (base : ℕ) (objects : List Object) (ts : List Value) (t : ℕ) (x : Flat) (o : Op) (v : Value) (d : Deed) → d ≡ Gets t v → OneIs (IsWord v) x → op_calls o ≡ false
    → deed p objects (command p base o (value ts)) ≡ Some d → Folds p base objects ts (const_or t x o) d
unfolding command
folds p base objects ts t Bottom o v d is told c e = record { calls = c; does = e }
folds p base objects ts t (One n) o v d is told c e = record { calls = refl; does = ap (λ (u : Value). Some (Gets t u)) (sym told) ∙ ap Some (sym is) }
folds p base objects ts t Many o v d is told c e = record { calls = c; does = e }

-- a definition by a rewriting that is known to give this
defined : (p : Program) (base : ℕ) (objects : List Object) (row : List Flat) (ts : List Value) (t : ℕ) (x : Flat) (v : Value) (d : Deed) → Holds holds_word row ts → d ≡ Gets t v → OneIs (IsWord v) x
    → Holds holds_word (slice_set row t x) (got d ts)
defined p base objects row ts t x v d h is told = subst (λ (d : Deed). Holds holds_word (slice_set row t x) (got d ts)) (sym is) (set_holds row ts t x v h told)

plain : (row : List Flat) (ts : List Value) (t : Option ℕ) (d : Deed) → Holds holds_word row ts → Defines t d → Holds holds_word (with_known row t Many) (got d ts)
plain row ts t d h (gets u v is does) =
    subst (λ (t : Option ℕ). Holds holds_word (with_known row t Many) (got d ts)) (sym is)
    (subst (λ (d : Deed). Holds holds_word (slice_set row u Many) (got d ts)) (sym does) (set_holds row ts u Many v h tt))
plain row ts t d h (changes objects is does) =
    subst (λ (t : Option ℕ). Holds holds_word (with_known row t Many) (got d ts)) (sym is)
    (subst (λ (d : Deed). Holds holds_word row (got d ts)) (sym does) h)

deeds_too : (p : Program) (base : ℕ) (objects : List Object) (row : List Flat) (ts : List Value) (o : Op) (d : Deed) → Holds holds_word row ts → op_calls o ≡ false
    → deed p objects (command p base o (value ts)) ≡ Some d → DoesToo constants holds_word p base objects row ts o d
unfolding command
deeds_too p base objects row ts (op.Const t n) d h c e =
    let is : d ≡ Gets t (Num n) = sym (same_Some (Gets t (Num n)) d e) in
    record { calls = refl; does = e; after = defined p base objects row ts t (One n) (Num n) d h is refl }
deeds_too p base objects row ts (op.Copy t a) d h c e =
    let is : d ≡ Gets t (value ts a) = sym (same_Some (Gets t (value ts a)) d e) in
    let f = folds p base objects ts t (known row a) (op.Copy t a) (value ts a) d is (h.told a) refl e in
    record { calls = f.calls; does = f.does; after = defined p base objects row ts t (known row a) (value ts a) d h is (h.told a) }
deeds_too p base objects row ts (op.Un k t a) d h c e =
    let r = given p objects t (unary k (value ts a)) d e in
    let x : Flat = of_one (λ n. One (un_word k n)) (known row a) in
    let told : OneIs (IsWord r.0) x = un_told k (known row a) (value ts a) r.0 (h.told a) r.1 in
    let f = folds p base objects ts t x (op.Un k t a) r.0 d r.2 told refl e in
    record { calls = f.calls; does = f.does; after = defined p base objects row ts t x r.0 d h r.2 told }
deeds_too p base objects row ts (op.Bin k t a b) d h c e =
    let r = mapped t (binary objects k (value ts a) (value ts b)) d e in
    let x : Flat = of_two (bin_word k) (known row a) (known row b) in
    let told : OneIs (IsWord r.0) x = bin_told k objects (known row a) (known row b) (value ts a) (value ts b) r.0 (h.told a) (h.told b) r.1 in
    let f = folds p base objects ts t x (op.Bin k t a b) r.0 d r.2 told refl e in
    record { calls = f.calls; does = f.does; after = defined p base objects row ts t x r.0 d h r.2 told }
deeds_too p base objects row ts (op.Ext k t a) d h c e =
    let r = given p objects t (extension k (value ts a)) d e in
    let x : Flat = of_one (λ n. One (ext_word k n)) (known row a) in
    let told : OneIs (IsWord r.0) x = ext_told k (known row a) (value ts a) r.0 (h.told a) r.1 in
    let f = folds p base objects ts t x (op.Ext k t a) r.0 d r.2 told refl e in
    record { calls = f.calls; does = f.does; after = defined p base objects row ts t x r.0 d h r.2 told }
deeds_too p base objects row ts o d h c e =
    record { calls = c; does = e; after = plain row ts (op_defines o) d h (deeds_define p base objects o (value ts) d e) }

calls_same : (p : Program) (base : ℕ) (row : List Flat) (ts : List Value) (o : Op) → Holds holds_word row ts → op_calls o ≡ true → command p base (constant_op row o) (value ts) ≡ command p base o (value ts)
calls_same p base row ts (op.Call t f args) h c = refl
calls_same p base row ts (op.CallInd t a shape args) h c = refl
calls_same p base row ts o h c = absurd cc

result_holds : (row : List Flat) (ts : List Value) (t : Option ℕ) (v : Value) → Holds holds_word row ts → Holds holds_word (with_known row t Many) (with_result t v ts)
result_holds row ts None v h = h
result_holds row ts (Some t) v h = set_holds row ts t Many v h tt

results_too : (row : List Flat) (ts : List Value) (o : Op) (v : Value) → Holds holds_word row ts → op_calls o ≡ true → Holds holds_word (constant_transfer row o) (with_result (op_defines o) v ts)
results_too row ts (op.Call t f args) v h c = result_holds row ts t v h
results_too row ts (op.CallInd t a shape args) v h c = result_holds row ts t v h
results_too row ts o v h c = absurd cc

branches_too : (objects : List Object) (x : Flat) (v : Value) (ts : List Value) (a b c : ℕ) (k : Way) → value ts a ≡ v → OneIs (IsWord v) x → branch_way objects v b c ≡ Some k → way objects (jump_or x a b c) (value ts) ≡ Some k
branches_too objects Bottom v ts a b c k is o e = absurd o
branches_too objects (One zero) v ts a b c k is o e = ap (λ (u : Value). branch_way objects u b c) (sym o) ∙ e
branches_too objects (One (suc n)) v ts a b c k is o e = ap (λ (u : Value). branch_way objects u b c) (sym o) ∙ e
branches_too objects Many v ts a b c k is o e = ap (λ (u : Value). branch_way objects u b c) is ∙ e

ends_too : (objects : List Object) (row : List Flat) (ts : List Value) (e : End) (k : Way) → Holds holds_word row ts → way objects e (value ts) ≡ Some k → way objects (constant_end row e) (value ts) ≡ Some k
ends_too objects row ts (Jump b) k h is = is
ends_too objects row ts (Branch a b c) k h is = branches_too objects (known row a) (value ts a) ts a b c k refl (h.told a) is
ends_too objects row ts (Return t) k h is = is

known_long : (row : List Flat) (t : Option ℕ) (x : Flat) → length (with_known row t x) ≡ length row
known_long row None x = refl
known_long row (Some t) x = length-set row t x

pub constants_truthful : IsTruthful constants holds_word
constants_truthful = record {
  stays_long = λ row o. known_long row (op_defines o) (constant row o);
  deeds = deeds_too;
  calls = calls_same;
  results = results_too;
  ends = ends_too;
}
