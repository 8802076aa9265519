-- The test of the rule of $start is the rule.
use Rattle.std.proofs.Common.{◌≡◌, ℕ, zero, suc, ◌+◌, ◌<◌, Bool, true, false, cond, List, [], ◌∷◌, refl, sym, ap, ◌∙◌, arith}
use Rattle.std.specs.Prelude.{Contains, not, ◌&&◌, ◌==◌, nat_lt, nat_le}
use Rattle.std.specs.Str.{bytes_eq}
use Rattle.std.specs.Cmp.{first_so, second_so}
use Rattle.std.specs.Cmp.Derive.{both_true}
use Rattle.std.proofs.lemmas.Bool.{ltb-true, lt-ltb, leb-true, le-leb, eqb-true, eq-eqb}
use Rattle.std.proofs.lemmas.Slice.Eq.{bytes_eq-Decides}
use Rattle.std.proofs.lemmas.List.Sums.{sum_by-cons}
use Rattle.pw_value.specs.declared.program_names.StartName.{StartName}
use Rattle.pw_value.specs.declared.program_names.StartName.TheVariants.{Allowed, Refused}
use Rattle.pw_value.specs.ProgramNames.{start_name, main_name, times, MayStand, may_stand, KeepsStart, same_truth, keeps_start}

times_cons : (name other : List ℕ) (names : List (List ℕ)) → times name (other ∷ names) ≡ cond (bytes_eq other name) 1 0 + times name names
times_cons name other names = sum_by-cons (λ x. cond (bytes_eq x name) 1 0) other names

more_by : (name other : List ℕ) (names : List (List ℕ)) (b : Bool) → bytes_eq other name ≡ b → 0 < cond b 1 0 + times name names → (0 < times name names → Contains names name) → Contains (other ∷ names) name
more_by name other names true is lt later = (0, omega arith, (bytes_eq-Decides other name).0 is)
more_by name other names false is lt later = let h = later (omega arith) in (suc h.0, omega (arith, h.1), h.2)

pub stands_by_times : (name : List ℕ) (names : List (List ℕ)) → 0 < times name names → Contains names name
stands_by_times name [] lt = absurd (omega arith)
stands_by_times name (other ∷ names) lt = more_by name other names (bytes_eq other name) refl (rw (← times_cons name other names) lt) (stands_by_times name names)

pub times_by_stands : (name : List ℕ) (names : List (List ℕ)) → Contains names name → 0 < times name names
times_by_stands name [] (k, lt, e) = absurd (omega arith)
times_by_stands name (other ∷ names) (zero, lt, e) = rw (times_cons name other names, (bytes_eq-Decides other name).1 e) (omega arith)
times_by_stands name (other ∷ names) (suc k, lt, e) = rw (times_cons name other names) (omega (arith, times_by_stands name names (k, omega arith, e)))

-- ---- two tests with one answer

pub same_forth : (a b : Bool) → same_truth a b ≡ true → a ≡ b
same_forth true b e = sym e
same_forth false true e = absurd cc
same_forth false false e = refl

pub same_back : (a b : Bool) → a ≡ b → same_truth a b ≡ true
same_back true b e = sym e
same_back false b e = ap not (sym e)

both_by : (a b : Bool) → (a ≡ true → b ≡ true) → (b ≡ true → a ≡ true) → a ≡ b
both_by true b forth back = sym (forth refl)
both_by false true forth back = back refl
both_by false false forth back = refl

-- ---- the rule

pub start_forth : (functions globals : List (List ℕ)) → keeps_start functions globals ≡ true → KeepsStart functions globals
start_forth functions globals e =
    let one = same_truth (nat_lt 0 (times start_name functions)) (nat_lt 0 (times main_name functions)) in
    let two = nat_le (times start_name functions) 1 in
    let three = times start_name globals == 0 in
    let rest = second_so one (two && three) e in
    let same = same_forth (nat_lt 0 (times start_name functions)) (nat_lt 0 (times main_name functions)) (first_so one (two && three) e) in
    let none : times start_name globals ≡ 0 = eqb-true _ _ (second_so two three rest) in
    record {
      beside = (
        λ h. stands_by_times main_name functions (ltb-true _ _ (sym same ∙ lt-ltb _ _ (times_by_stands start_name functions h))),
        λ h. stands_by_times start_name functions (ltb-true _ _ (same ∙ lt-ltb _ _ (times_by_stands main_name functions h))),
      );
      once = leb-true _ _ (first_so two three rest);
      no_global = λ h. let some = times_by_stands start_name globals h in absurd (omega arith);
    }

none_by : (n : ℕ) → (0 < n → ⊥) → n ≡ 0
none_by zero h = refl
none_by (suc n) h = absurd (h (omega arith))

pub start_back : (functions globals : List (List ℕ)) → KeepsStart functions globals → keeps_start functions globals ≡ true
start_back functions globals keeps =
    both_true
    (same_back (nat_lt 0 (times start_name functions)) (nat_lt 0 (times main_name functions))
    (both_by _ _
    (λ e. lt-ltb _ _ (times_by_stands main_name functions (keeps.beside.0 (stands_by_times start_name functions (ltb-true _ _ e)))))
    (λ e. lt-ltb _ _ (times_by_stands start_name functions (keeps.beside.1 (stands_by_times main_name functions (ltb-true _ _ e)))))))
    (both_true (le-leb _ _ keeps.once) (eq-eqb _ _ (none_by (times start_name globals) (λ lt. keeps.no_global (stands_by_times start_name globals lt)))))

-- ---- the rule of one place

unequal_by : (a b : List ℕ) (t : Bool) → bytes_eq a b ≡ t → not t ≡ true → a ≡ b → ⊥
unequal_by a b true is e same = absurd cc
unequal_by a b false is e same = let h = (bytes_eq-Decides a b).1 same in absurd cc

not_by : (a b : List ℕ) (t : Bool) → bytes_eq a b ≡ t → (a ≡ b → ⊥) → not t ≡ true
not_by a b true is h = absurd (h ((bytes_eq-Decides a b).0 is))
not_by a b false is h = refl

pub place_forth : (start : StartName) (name : List ℕ) → may_stand start name ≡ true → MayStand start name
place_forth Allowed name e = tt
place_forth Refused name e = unequal_by name start_name (bytes_eq name start_name) refl e

pub place_back : (start : StartName) (name : List ℕ) → MayStand start name → may_stand start name ≡ true
place_back Allowed name h = refl
place_back Refused name h = not_by name start_name (bytes_eq name start_name) refl h
