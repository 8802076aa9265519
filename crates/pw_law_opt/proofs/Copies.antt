-- What the rewriting of copies knows is so, and what it makes of operations and ends does the same.
use Rattle.std.specs.Prelude.{ℕ, ◌≡◌, ◌≢◌, ◌<◌, ◌==◌, Bool, true, false, if◌then◌else◌, Option, Some, None, List, length, slice_set}
use Rattle.std.proofs.Common.{refl, sym, ap, subst, ◌∙◌, arith, inl, inr}
use Rattle.std.proofs.lemmas.Bool.{cases_lt, cases_Bool, eqb-true, eq-eqb}
use Rattle.std.proofs.lemmas.List.{length-map, get_or-set_same, get_or-set_other, get_or_past, get_or-map, length-set}
use Rattle.std.proofs.lemmas.Option.{same_Some}
use Rattle.pw_value.specs.declared.value.Value.{Value}
use Rattle.pw_value.specs.Objects.{Object}
use Rattle.pw_flow.specs.declared.flow.Op.{Op}
use Rattle.pw_flow.specs.declared.flow.Op.TheVariants as op
use Rattle.pw_flow.specs.declared.flow.End.{End}
use Rattle.pw_flow.specs.Uses.{op_calls, op_defines}
use Rattle.pw_run_languages.specs.Programs.{Program}
use Rattle.pw_run_languages.specs.Commands.{command}
use Rattle.pw_opt_rules.specs.declared.flat.Flat.{Flat}
use Rattle.pw_opt_rules.specs.declared.flat.Flat.TheVariants.{Bottom, One, Many}
use Rattle.pw_opt_rules.specs.Flat.{is_one}
use Rattle.pw_opt_rules.specs.Rows.{known}
use Rattle.pw_opt_rules.specs.Copies.{copied, without_copies, with_copy, copy_transfer, one_or, original, with_operands, with_end_operand, copies}
use Rattle.pw_law_operations.proofs.Asking.{commands_rest_on_uses}
use Rattle.pw_law_opt.specs.Deeds.{Deed, Gets, deed, value, got, with_result, Way, way}
use Rattle.pw_law_opt.proofs.Lists.{value_there, value_elsewhere}
use Rattle.pw_law_opt.proofs.Commands.{operands_ask, operands_call, ways_rest_on_uses, operand_ways, Defines, gets, changes, deeds_define}
use Rattle.pw_law_opt.proofs.Rewritings.{OneIs, Holds, DoesToo, IsTruthful}

-- a temporary has another one where both hold the same
abbrev pub holds_same : List Value → ℕ → ℕ → Type 0
holds_same ts t a = value ts t ≡ value ts a

-- ---- operands

original_same : (ts : List Value) (a : ℕ) (x : Flat) → OneIs (holds_same ts a) x → value ts (one_or x a) ≡ value ts a
original_same ts a Bottom o = absurd o
original_same ts a (One b) o = sym o
original_same ts a Many o = refl

operands_same : (row : List Flat) (ts : List Value) (a : ℕ) → Holds holds_same row ts → value ts (original row a) ≡ value ts a
operands_same row ts a h = original_same ts a (known row a) (h.told a)

commands_same : (p : Program) (base : ℕ) (row : List Flat) (ts : List Value) (o : Op) → Holds holds_same row ts → command p base (with_operands (original row) o) (value ts) ≡ command p base o (value ts)
commands_same p base row ts o h =
    operands_ask p base (original row) o (value ts) ∙ commands_rest_on_uses p base o (λ t. value ts (original row t)) (value ts) (λ t used. operands_same row ts t h)

ends_too : (objects : List Object) (row : List Flat) (ts : List Value) (e : End) (k : Way) → Holds holds_same row ts → way objects e (value ts) ≡ Some k → way objects (with_end_operand (original row) e) (value ts) ≡ Some k
ends_too objects row ts e k h is =
    operand_ways objects (original row) e (value ts) ∙ ways_rest_on_uses objects e (λ t. value ts (original row t)) (value ts) (λ t used. operands_same row ts t h) ∙ is

-- ---- a definition

itself : (u : ℕ) → (u == u) ≡ true
itself u = eq-eqb u u refl

apart_if : (u t : ℕ) → (u == t) ≡ false → u ≢ t
apart_if u t e same = absurd (let k : (u == t) ≡ true = ap (λ k. u == k) (sym same) ∙ itself u in cc)

abbrev forgotten : ℕ → Flat → Flat
forgotten t x = if is_one t x then Many else x

-- what is forgotten is no copy of t; what else is known stays so when t gets a value
forgets : (ts : List Value) (t u : ℕ) (v : Value) (x : Flat) → u ≢ t → OneIs (holds_same ts u) x → OneIs (holds_same (slice_set ts t v) u) (forgotten t x)
forgets ts t u v Bottom apart o = absurd o
forgets ts t u v Many apart o = tt
forgets ts t u v (One a) apart o = by_source (a == t) refl where
  by_source : (b : Bool) → (a == t) ≡ b → OneIs (holds_same (slice_set ts t v) u) (if b then Many else One a)
  by_source true e = tt
  by_source false e = value_elsewhere ts t u v apart ∙ o ∙ sym (value_elsewhere ts t a v (apart_if a t e))

-- what t has now: another temporary that holds the value
abbrev IsCopyOf : List Value → ℕ → Value → ℕ → Type 0
IsCopyOf ts t v a = (a ≢ t) × (v ≡ value ts a)

has_now : (ts : List Value) (t : ℕ) (v : Value) (x : Flat) → t < length ts → OneIs (IsCopyOf ts t v) x → OneIs (holds_same (slice_set ts t v) t) x
has_now ts t v Bottom lt o = absurd o
has_now ts t v (One a) lt o = value_there ts t v lt ∙ o.1 ∙ sym (value_elsewhere ts t a v o.0)
has_now ts t v Many lt o = tt

long : (row : List Flat) (t : ℕ) (x : Flat) → length (slice_set (without_copies row t) t x) ≡ length row
long row t x = length-set (without_copies row t) t x ∙ length-map row (forgotten t)

set_holds : (row : List Flat) (ts : List Value) (t : ℕ) (x : Flat) (v : Value) → Holds holds_same row ts → OneIs (IsCopyOf ts t v) x → Holds holds_same (slice_set (without_copies row t) t x) (slice_set ts t v)
set_holds row ts t x v h is = record {
  same = length-set ts t v ∙ h.same ∙ sym (long row t x);
  told = λ u. elim (cases_lt u (length row)) [
    | inr past ↦
        let e : length (slice_set (without_copies row t) t x) ≡ length row = long row t x in
        subst (OneIs (holds_same (slice_set ts t v) u)) (sym (get_or_past (slice_set (without_copies row t) t x) u Many (omega (arith, past, e)))) tt
    | inl within ↦ elim (cases_Bool (u == t)) [
      | inl e ↦
          let same : u ≡ t = eqb-true u t e in
          let size : length ts ≡ length row = h.same in
          let many : length (without_copies row t) ≡ length row = length-map row (forgotten t) in
          subst (λ k. OneIs (holds_same (slice_set ts t v) k) (known (slice_set (without_copies row t) t x) k)) (sym same)
          (subst (OneIs (holds_same (slice_set ts t v) t)) (sym (get_or-set_same (without_copies row t) t x Many (omega (arith, within, same, many))))
          (has_now ts t v x (omega (arith, within, same, size)) is))
      | inr e ↦
          let apart : u ≢ t = apart_if u t e in
          subst (OneIs (holds_same (slice_set ts t v) u)) (sym (get_or-set_other (without_copies row t) t u x Many apart ∙ get_or-map (forgotten t) row u Many Many within))
          (forgets ts t u v (known row u) apart (h.told u))
    ]
  ];
}

-- ---- operations

plain : (row : List Flat) (ts : List Value) (t : Option ℕ) (d : Deed) → Holds holds_same row ts → Defines t d → Holds holds_same (with_copy row t Many) (got d ts)
plain row ts t d h (gets u v is does) =
    subst (λ (t : Option ℕ). Holds holds_same (with_copy row t Many) (got d ts)) (sym is)
    (subst (λ (d : Deed). Holds holds_same (with_copy row (Some u) Many) (got d ts)) (sym does) (set_holds row ts u Many v h tt))
plain row ts t d h (changes objects is does) =
    subst (λ (t : Option ℕ). Holds holds_same (with_copy row t Many) (got d ts)) (sym is)
    (subst (λ (d : Deed). Holds holds_same row (got d ts)) (sym does) h)

copy_told : (ts : List Value) (t a : ℕ) → OneIs (IsCopyOf ts t (value ts a)) (if a == t then Many else One a)
copy_told ts t a = by_source (a == t) refl where
  by_source : (b : Bool) → (a == t) ≡ b → OneIs (IsCopyOf ts t (value ts a)) (if b then Many else One a)
  by_source true e = tt
  by_source false e = (apart_if a t e, refl)

after : (p : Program) (base : ℕ) (objects : List Object) (row : List Flat) (ts : List Value) (o : Op) (d : Deed) → Holds holds_same row ts → op_calls o ≡ false
    → deed p objects (command p base o (value ts)) ≡ Some d → Holds holds_same (copy_transfer row o) (got d ts)
unfolding command
after p base objects row ts (op.Copy t a) d h c e =
    subst (λ (d : Deed). Holds holds_same (copy_transfer row (op.Copy t a)) (got d ts)) (same_Some (Gets t (value ts a)) d e)
    (set_holds row ts t (copied (op.Copy t a)) (value ts a) h (copy_told ts t a))
after p base objects row ts o d h c e = plain row ts (op_defines o) d h (deeds_define p base objects o (value ts) d e)

deeds_too : (p : Program) (base : ℕ) (objects : List Object) (row : List Flat) (ts : List Value) (o : Op) (d : Deed) → Holds holds_same row ts → op_calls o ≡ false
    → deed p objects (command p base o (value ts)) ≡ Some d → DoesToo copies holds_same p base objects row ts o d
deeds_too p base objects row ts o d h c e = record {
  calls = operands_call (original row) o ∙ c;
  does = ap (deed p objects) (commands_same p base row ts o h) ∙ e;
  after = after p base objects row ts o d h c e;
}

result_holds : (row : List Flat) (ts : List Value) (t : Option ℕ) (v : Value) → Holds holds_same row ts → Holds holds_same (with_copy row t Many) (with_result t v ts)
result_holds row ts None v h = h
result_holds row ts (Some t) v h = set_holds row ts t Many v h tt

results_too : (row : List Flat) (ts : List Value) (o : Op) (v : Value) → Holds holds_same row ts → op_calls o ≡ true → Holds holds_same (copy_transfer row o) (with_result (op_defines o) v ts)
results_too row ts (op.Call t f args) v h c = result_holds row ts t v h
results_too row ts (op.CallInd t a shape args) v h c = result_holds row ts t v h
results_too row ts o v h c = absurd cc

copy_long : (row : List Flat) (t : Option ℕ) (x : Flat) → length (with_copy row t x) ≡ length row
copy_long row None x = refl
copy_long row (Some t) x = long row t x

pub copies_truthful : IsTruthful copies holds_same
copies_truthful = record {
  stays_long = λ row o. copy_long row (op_defines o) (copied o);
  deeds = deeds_too;
  calls = λ p base row ts o h c. commands_same p base row ts o h;
  results = results_too;
  ends = ends_too;
}
