-- The small parts of operations: indices, names, results, arguments, and what is copied.
use Rattle.std.proofs.Common.{◌≡◌, ℕ, ◌%◌, ◌^◌, ◌<◌, ◌≤◌, Bool, true, false, cond, List, [], ◌++◌, length, Result, refl, sym, ap, ◌∙◌, arith, lit<, inl, inr, ◌⊎◌}
use Rattle.std.specs.Prelude.{Option, Some, None, IsTrue, Contains, nat_le, nat_lt, ◌==◌, ◌&&◌, ◌||◌}
use Rattle.std.specs.List.{flat_map, AllByRecursion}
use Rattle.std.specs.Cmp.{first_so, second_so}
use Rattle.std.specs.Cmp.Derive.{both_true}
use Rattle.std.proofs.lemmas.Bool.{eqb-true, eq-eqb, leb-true, le-leb, ltb-true, lt-ltb}
use Rattle.std.proofs.lemmas.List.{append-nil}
use Rattle.pw_fields.specs.Fields.{checked, u32_at, repeated, u32, FitsU32}
use Rattle.pw_fields.specs.FieldLaws.{Spells}
use Rattle.pw_fields.specs.FieldNames.{name_at, name_index, IsNameTable}
use Rattle.pw_fields.proofs.FieldLaws.{checked_spells, u32_spells, mapped_spells}
use Rattle.pw_fields.proofs.FieldSteps.{repeated_spells}
use Rattle.pw_fields.proofs.NameLaws.{name_spells}
use Rattle.pw_value.specs.Limits.{size_limit, parameter_limit}
use Rattle.pw_value.specs.declared.program_names.StartName.{StartName}
use Rattle.pw_value.specs.ProgramNames.{may_stand}
use Rattle.pw_value.proofs.StartLaws.{place_forth, place_back}
use Rattle.pw_flow.specs.ValidFlow.{IsResult, AreArguments, IsUnit, IsMoved}
use Rattle.pw_files.specs.Rising.{counted}
use Rattle.pw_flow_ops.specs.Operations.{absent, result, arguments, Named}
use Rattle.pw_flow_ops.specs.Reading.{named_at, below_at, as_result, result_at, arguments_at, is_unit, is_whole, size_and_unit_at, moved_at}
use Rattle.pw_flow_ops.proofs.FieldChains.{takes_field, takes_done, again_field, chained}

-- a rule in other words
pub ruled_spells : {X : Type 0} (spelling : X → List ℕ) (FitsField Fits : X → Type 0) (read : List ℕ → Result (X × List ℕ) ℕ) → Spells spelling FitsField read → ((x : X) → FitsField x → Fits x) → ((x : X) → Fits x → FitsField x) → Spells spelling Fits read
ruled_spells spelling FitsField Fits read laws to from = record {
  takes = λ bytes x rest fits e. let t = laws.takes bytes x rest fits e in (t.0, to x t.1);
  again = λ x rest fits. laws.again x rest (from x fits);
}

-- ---- tests

pub either_true : (a b : Bool) → (a || b) ≡ true → (a ≡ true) ⊎ (b ≡ true)
either_true true b e = inl refl
either_true false b e = inr e

pub left_true : (a b : Bool) → a ≡ true → (a || b) ≡ true
left_true a b e = rw e refl

pub right_true : (a b : Bool) → b ≡ true → (a || b) ≡ true
right_true true b e = refl
right_true false b e = e

-- ---- indices and names

pub below_spells : (count : ℕ) → count ≤ 2 ^ 32 → Spells u32 (λ n. n < count) (below_at count)
below_spells count small = ruled_spells u32 _ (λ n. n < count) (below_at count) (checked_spells u32 FitsU32 u32_at (λ n. nat_lt n count) u32_spells)
    (λ n h. ltb-true _ _ h.1) (λ n h. (omega (arith, h), lt-ltb _ _ h))

pub named_spells : (start : StartName) (names : List (List ℕ)) → IsNameTable names → Spells (name_index names) (Named start names) (named_at start names)
unfolding named_at
named_spells start names table = ruled_spells (name_index names) _ (Named start names) _ (checked_spells (name_index names) (Contains names) (name_at names) (may_stand start) (name_spells names table))
    (λ name h. (h.0, place_forth start name h.1)) (λ name h. (h.0, place_back start name h.1))

-- ---- results and arguments

abbrev back_from : Option ℕ → ℕ
back_from None = absent
back_from (Some t) = t

result_forth : (temps t : ℕ) (b : Bool) → (t == absent) ≡ b → (b || nat_lt t temps) ≡ true → (back_from (cond b None (Some t)) ≡ t) × IsResult temps (cond b None (Some t))
result_forth temps t true is h = (sym (eqb-true _ _ is), tt)
result_forth temps t false is h = (refl, ltb-true _ _ h)

differs : (t temps : ℕ) (b : Bool) → (t == absent) ≡ b → t < temps → temps < 2 ^ 31 → b ≡ false
differs t temps true is lt small = let e : t ≡ absent = eqb-true _ _ is in absurd (omega arith)
differs t temps false is lt small = refl

result_back : (temps : ℕ) → temps < 2 ^ 31 → (o : Option ℕ) → IsResult temps o → (as_result (back_from o) ≡ o) × (FitsU32 (back_from o) × (((back_from o == absent) || nat_lt (back_from o) temps) ≡ true))
result_back temps small None h = (refl, (lit< tt, refl))
result_back temps small (Some t) h =
    let d : (t == absent) ≡ false = differs t temps _ refl h small in
    (rw d refl, (omega (arith, h), rw d (lt-ltb _ _ h)))

result_text : (o : Option ℕ) → u32 (back_from o) ≡ result o
result_text None = refl
result_text (Some t) = refl

respelled : {X : Type 0} (one other : X → List ℕ) (Fits : X → Type 0) (read : List ℕ → Result (X × List ℕ) ℕ) → ((x : X) → one x ≡ other x) → Spells one Fits read → Spells other Fits read
respelled one other Fits read same laws = record {
  takes = λ bytes x rest fits e. let t = laws.takes bytes x rest fits e in (t.0 ∙ ap (λ (w : List ℕ). w ++ rest) (same x), t.1);
  again = λ x rest fits. ap read (ap (λ (w : List ℕ). w ++ rest) (sym (same x))) ∙ laws.again x rest fits;
}

pub result_spells : (temps : ℕ) → temps < 2 ^ 31 → Spells result (IsResult temps) (result_at temps)
unfolding result_at
result_spells temps small = respelled (λ o. u32 (back_from o)) result (IsResult temps) _ result_text
    (mapped_spells u32 (λ t. FitsU32 t × IsTrue ((t == absent) || nat_lt t temps)) (IsResult temps) (checked (λ t. (t == absent) || nat_lt t temps) u32_at) as_result back_from
    (checked_spells u32 FitsU32 u32_at (λ t. (t == absent) || nat_lt t temps) u32_spells)
    (λ t h. result_forth temps t (t == absent) refl h.1)
    (λ o h. result_back temps small o h))

few_spells : Spells u32 (λ n. n ≤ parameter_limit) (checked (λ n. nat_le n parameter_limit) u32_at)
few_spells = ruled_spells u32 _ (λ n. n ≤ parameter_limit) _ (checked_spells u32 FitsU32 u32_at (λ n. nat_le n parameter_limit) u32_spells) (λ n h. leb-true _ _ h.1) (λ n h. (omega (arith, h), le-leb _ _ h))

abbrev in_parts : List ℕ → List ℕ
in_parts args = u32 (length args) ++ (flat_map u32 args ++ [])

parts_spell : (temps : ℕ) → temps < 2 ^ 31 → Spells in_parts (AreArguments temps) (arguments_at temps)
unfolding arguments_at
parts_spell temps small = chained in_parts (AreArguments temps) _
    (takes_field _ u32 (λ n. n ≤ parameter_limit) (checked (λ n. nat_le n parameter_limit) u32_at) _ few_spells
    (λ count few. takes_field _ (flat_map u32) (λ args. (length args ≡ count) × AllByRecursion (λ n. n < temps) args) (repeated (below_at temps) count) _ (repeated_spells u32 (λ n. n < temps) (below_at temps) (below_spells temps (omega arith)) count)
    (λ args fit. takes_done _ args (λ rest. (ap (λ n. u32 n ++ (flat_map u32 args ++ [])) (sym fit.0), record { few = omega (arith, fit.0, few); below = fit.1 })))))
    (λ args rest h. again_field u32 (λ n. n ≤ parameter_limit) (checked (λ n. nat_le n parameter_limit) u32_at) _ few_spells (length args) h.few (flat_map u32 args ++ []) rest args
    (again_field (flat_map u32) (λ xs. (length xs ≡ length args) × AllByRecursion (λ n. n < temps) xs) (repeated (below_at temps) (length args)) _ (repeated_spells u32 (λ n. n < temps) (below_at temps) (below_spells temps (omega arith)) (length args)) args (refl, h.below) [] rest args refl))

pub arguments_spells : (temps : ℕ) → temps < 2 ^ 31 → Spells arguments (AreArguments temps) (arguments_at temps)
unfolding counted
arguments_spells temps small = respelled in_parts arguments (AreArguments temps) (arguments_at temps) (λ args. ap (λ (w : List ℕ). u32 (length args) ++ w) (append-nil (flat_map u32 args))) (parts_spell temps small)

-- ---- what is copied

unit_forth : (unit : ℕ) → is_unit unit ≡ true → IsUnit unit
unit_forth unit e =
    elim (either_true (unit == 1) ((unit == 2) || (unit == 4)) e) [
      | inl a ↦ inl (eqb-true _ _ a)
      | inr b ↦ elim (either_true (unit == 2) (unit == 4) b) [ inl c ↦ inr (inl (eqb-true _ _ c)) | inr d ↦ inr (inr (eqb-true _ _ d)) ]
    ]

unit_back : (unit : ℕ) → IsUnit unit → is_unit unit ≡ true
unit_back unit (inl a) = left_true _ _ (eq-eqb _ _ a)
unit_back unit (inr (inl b)) = right_true (unit == 1) _ (left_true _ _ (eq-eqb _ _ b))
unit_back unit (inr (inr c)) = right_true (unit == 1) _ (right_true (unit == 2) _ (eq-eqb _ _ c))

abbrev pub moved_text : ℕ × ℕ → List ℕ
moved_text moved = u32 moved.0 ++ (u32 moved.1 ++ [])

unit_spells : Spells u32 IsUnit (checked is_unit u32_at)
unit_spells = ruled_spells u32 _ IsUnit _ (checked_spells u32 FitsU32 u32_at is_unit u32_spells) (λ n h. unit_forth n h.1) (λ n h. (unit_small n h, unit_back n h))
  where
    unit_small : (unit : ℕ) → IsUnit unit → FitsU32 unit
    unit_small unit (inl a) = omega (arith, a)
    unit_small unit (inr (inl b)) = omega (arith, b)
    unit_small unit (inr (inr c)) = omega (arith, c)

size_and_unit_spells : Spells moved_text (λ m. FitsU32 m.0 × IsUnit m.1) size_and_unit_at
unfolding size_and_unit_at
size_and_unit_spells = chained moved_text (λ m. FitsU32 m.0 × IsUnit m.1) _
    (takes_field _ u32 FitsU32 u32_at _ u32_spells (λ size f. takes_field _ u32 IsUnit (checked is_unit u32_at) _ unit_spells (λ unit g. takes_done _ (size, unit) (λ rest. (refl, (f, g))))))
    (λ m rest h. again_field u32 FitsU32 u32_at _ u32_spells m.0 h.0 (u32 m.1 ++ []) rest m (again_field u32 IsUnit (checked is_unit u32_at) _ unit_spells m.1 h.1 [] rest m refl))

moved_forth : (m : ℕ × ℕ) → IsUnit m.1 → is_whole m ≡ true → IsMoved m.0 m.1
moved_forth m unit e =
    let rest = second_so (m.0 % m.1 == 0) (nat_lt 0 m.0 && nat_le m.0 size_limit) e in
    record { units = unit; whole = eqb-true _ _ (first_so (m.0 % m.1 == 0) (nat_lt 0 m.0 && nat_le m.0 size_limit) e); positive = ltb-true _ _ (first_so (nat_lt 0 m.0) (nat_le m.0 size_limit) rest); few = leb-true _ _ (second_so (nat_lt 0 m.0) (nat_le m.0 size_limit) rest) }

pub moved_spells : Spells moved_text (λ m. IsMoved m.0 m.1) moved_at
unfolding moved_at
moved_spells = ruled_spells moved_text _ (λ m. IsMoved m.0 m.1) _ (checked_spells moved_text (λ m. FitsU32 m.0 × IsUnit m.1) size_and_unit_at is_whole size_and_unit_spells)
    (λ m h. moved_forth m h.0.1 h.1)
    (λ m h. ((omega (arith, h.few), h.units), both_true (eq-eqb _ _ h.whole) (both_true (lt-ltb _ _ h.positive) (le-leb _ _ h.few))))
