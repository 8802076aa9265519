-- The order of what is known, and transfers that keep it.
use Rattle.std.specs.Prelude.{ℕ, ◌≡◌, ◌≢◌, ◌==◌, true, if◌then◌else◌, Option, Some, None, List, [], ◌∷◌, length, slice_set}
use Rattle.std.proofs.Common.{refl, sym, ap, subst, ◌∙◌, arith, inl, inr}
use Rattle.std.proofs.lemmas.Bool.{cases_lt, cases_Bool, eqb-true, eq-eqb}
use Rattle.std.proofs.lemmas.List.{length-map, get_or-set_same, get_or-set_other, get_or_past, length-set}
use Rattle.std.proofs.Math.ListN.{get_or-map}
use Rattle.pw_flow.specs.declared.flow.Op.{Op}
use Rattle.pw_flow.specs.declared.flow.Op.TheVariants as op
use Rattle.pw_flow.specs.Uses.{op_defines}
use Rattle.pw_opt_rules.specs.declared.flat.Flat.{Flat}
use Rattle.pw_opt_rules.specs.declared.flat.Flat.TheVariants.{Bottom, One, Many}
use Rattle.pw_opt_rules.specs.Flat.{IsBelow, is_one, of_one, of_two}
use Rattle.pw_opt_rules.specs.Rows.{known, IsRowBelow, behind}
use Rattle.pw_opt_order.specs.Rises.{Rises}
use Rattle.pw_opt_rules.specs.Constants.{un_word, ext_word, bin_word, constant, with_known, constant_transfer}
use Rattle.pw_opt_rules.specs.Copies.{copied, without_copies, with_copy, copy_transfer}

pub below_itself : (x : Flat) → IsBelow x x
below_itself Bottom = tt
below_itself (One n) = refl
below_itself Many = tt

pub below_many : (x : Flat) → IsBelow x Many
below_many Bottom = tt
below_many (One n) = tt
below_many Many = tt

pub below_through : (x y z : Flat) → IsBelow x y → IsBelow y z → IsBelow x z
below_through Bottom y z a b = tt
below_through (One n) Bottom z a b = absurd a
below_through (One n) (One m) z a b = subst (λ k. IsBelow (One k) z) (sym a) b
below_through (One n) Many Bottom a b = absurd b
below_through (One n) Many (One m) a b = absurd b
below_through (One n) Many Many a b = tt
below_through Many Bottom z a b = absurd a
below_through Many (One m) z a b = absurd a
below_through Many Many z a b = b

pub rows_below_themselves : (xs : List Flat) → IsRowBelow xs xs
rows_below_themselves xs t = below_itself (known xs t)

-- ---- words

one_of : (g : ℕ → ℕ) (x y : Flat) → IsBelow x y → IsBelow (of_one (λ n. One (g n)) x) (of_one (λ n. One (g n)) y)
one_of g Bottom y b = tt
one_of g (One n) Bottom b = absurd b
one_of g (One n) (One m) b = ap g b
one_of g (One n) Many b = tt
one_of g Many Bottom b = absurd b
one_of g Many (One m) b = absurd b
one_of g Many Many b = tt

two_of : (g : ℕ → ℕ → Flat) (x y v w : Flat) → IsBelow x v → IsBelow y w → IsBelow (of_two g x y) (of_two g v w)
two_of g Bottom y v w a b = tt
two_of g (One m) Bottom v w a b = tt
two_of g Many Bottom v w a b = tt
two_of g (One m) y Bottom w a b = absurd a
two_of g Many y Bottom w a b = absurd a
two_of g Many y (One n) w a b = absurd a
two_of g x (One k) v Bottom a b = absurd b
two_of g x Many v Bottom a b = absurd b
two_of g x Many v (One n) a b = absurd b
two_of g (One m) (One k) (One n) (One l) a b = subst (λ z. IsBelow (g m k) (g z l)) a (subst (λ z. IsBelow (g m k) (g m z)) b (below_itself (g m k)))
two_of g (One m) (One k) (One n) Many a b = below_many (g m k)
two_of g (One m) (One k) Many (One l) a b = below_many (g m k)
two_of g (One m) (One k) Many Many a b = below_many (g m k)
two_of g (One m) Many (One n) Many a b = tt
two_of g (One m) Many Many Many a b = tt
two_of g Many (One k) Many (One l) a b = tt
two_of g Many (One k) Many Many a b = tt
two_of g Many Many Many Many a b = tt

constant_rises : (xs ys : List Flat) (o : Op) → IsRowBelow xs ys → IsBelow (constant xs o) (constant ys o)
constant_rises xs ys (op.Const t n) b = refl
constant_rises xs ys (op.Copy t a) b = b a
constant_rises xs ys (op.Un k t a) b = one_of (un_word k) (known xs a) (known ys a) (b a)
constant_rises xs ys (op.Bin k t a c) b = two_of (bin_word k) (known xs a) (known xs c) (known ys a) (known ys c) (b a) (b c)
constant_rises xs ys (op.Ext k t a) b = one_of (ext_word k) (known xs a) (known ys a) (b a)
constant_rises xs ys o b = tt

-- ---- one place

pub set_rises : (xs ys : List Flat) (t : ℕ) (x y : Flat) → length xs ≡ length ys → IsRowBelow xs ys → IsBelow x y → IsRowBelow (slice_set xs t x) (slice_set ys t y)
set_rises xs ys t x y same b is u = elim (cases_lt u (length xs)) [
  | inr past ↦
      let e : length (slice_set xs t x) ≡ length xs = length-set xs t x in
      let f : length (slice_set ys t y) ≡ length ys = length-set ys t y in
      subst (λ z. IsBelow z (known (slice_set ys t y) u)) (sym (get_or_past (slice_set xs t x) u Many (omega (arith, past, e))))
      (subst (λ z. IsBelow Many z) (sym (get_or_past (slice_set ys t y) u Many (omega (arith, past, f, same)))) tt)
  | inl within ↦ elim (cases_Bool (u == t)) [
    | inl e ↦
        let here : u ≡ t = eqb-true u t e in
        subst (λ k. IsBelow (known (slice_set xs t x) k) (known (slice_set ys t y) k)) (sym here)
        (subst (λ z. IsBelow z (known (slice_set ys t y) t)) (sym (get_or-set_same xs t x Many (omega (arith, within, here))))
        (subst (λ z. IsBelow x z) (sym (get_or-set_same ys t y Many (omega (arith, within, here, same)))) is))
    | inr e ↦
        let apart : u ≢ t = λ here. absurd (let k : (u == t) ≡ true = ap (λ k. u == k) (sym here) ∙ eq-eqb u u refl in cc) in
        subst (λ z. IsBelow z (known (slice_set ys t y) u)) (sym (get_or-set_other xs t u x Many apart))
        (subst (λ z. IsBelow (known xs u) z) (sym (get_or-set_other ys t u y Many apart)) (b u))
  ]
]

known_rises : (xs ys : List Flat) (t : Option ℕ) (x y : Flat) → length xs ≡ length ys → IsRowBelow xs ys → IsBelow x y → IsRowBelow (with_known xs t x) (with_known ys t y)
known_rises xs ys None x y same b is = b
known_rises xs ys (Some t) x y same b is = set_rises xs ys t x y same b is

-- ---- copies

abbrev pub forgotten : ℕ → Flat → Flat
forgotten t x = if is_one t x then Many else x

forgotten_rises : (t : ℕ) (x y : Flat) → IsBelow x y → IsBelow (forgotten t x) (forgotten t y)
forgotten_rises t Bottom y b = tt
forgotten_rises t (One n) Bottom b = absurd b
forgotten_rises t (One n) (One m) b = subst (λ k. IsBelow (forgotten t (One n)) (forgotten t (One k))) b (below_itself (forgotten t (One n)))
forgotten_rises t (One n) Many b = below_many (forgotten t (One n))
forgotten_rises t Many Bottom b = absurd b
forgotten_rises t Many (One m) b = absurd b
forgotten_rises t Many Many b = tt

without_rises : (xs ys : List Flat) (t : ℕ) → IsRowBelow xs ys → IsRowBelow (without_copies xs t) (without_copies ys t)
without_rises xs ys t b u =
    subst (λ z. IsBelow z (known (without_copies ys t) u)) (sym (get_or-map (forgotten t) xs u Many))
    (subst (λ z. IsBelow (forgotten t (known xs u)) z) (sym (get_or-map (forgotten t) ys u Many)) (forgotten_rises t (known xs u) (known ys u) (b u)))

pub without_long : (xs : List Flat) (t : ℕ) → length (without_copies xs t) ≡ length xs
without_long xs t = length-map xs (forgotten t)

copy_rises : (xs ys : List Flat) (t : Option ℕ) (x : Flat) → length xs ≡ length ys → IsRowBelow xs ys → IsRowBelow (with_copy xs t x) (with_copy ys t x)
copy_rises xs ys None x same b = b
copy_rises xs ys (Some t) x same b =
    set_rises (without_copies xs t) (without_copies ys t) t x x (without_long xs t ∙ same ∙ sym (without_long ys t)) (without_rises xs ys t b) (below_itself x)

known_long : (row : List Flat) (t : Option ℕ) (x : Flat) → length (with_known row t x) ≡ length row
known_long row None x = refl
known_long row (Some t) x = length-set row t x

copy_long : (row : List Flat) (t : Option ℕ) (x : Flat) → length (with_copy row t x) ≡ length row
copy_long row None x = refl
copy_long row (Some t) x = length-set (without_copies row t) t x ∙ without_long row t

-- ---- transfers

pub constants_rise : Rises constant_transfer
constants_rise = record {
  long = λ row o. known_long row (op_defines o) (constant row o);
  up = λ xs ys o same b. known_rises xs ys (op_defines o) (constant xs o) (constant ys o) same b (constant_rises xs ys o b);
}

pub copies_rise : Rises copy_transfer
copies_rise = record {
  long = λ row o. copy_long row (op_defines o) (copied o);
  up = λ xs ys o same b. copy_rises xs ys (op_defines o) (copied o) same b;
}

pub behind_long : (transfer : List Flat → Op → List Flat) → Rises transfer → (row : List Flat) (ops : List Op) → length (behind transfer row ops) ≡ length row
behind_long transfer r row [] = refl
behind_long transfer r row (o ∷ ops) = behind_long transfer r (transfer row o) ops ∙ r.long row o

pub behind_rises : (transfer : List Flat → Op → List Flat) → Rises transfer → (xs ys : List Flat) (ops : List Op) → length xs ≡ length ys → IsRowBelow xs ys → IsRowBelow (behind transfer xs ops) (behind transfer ys ops)
behind_rises transfer r xs ys [] same b = b
behind_rises transfer r xs ys (o ∷ ops) same b = behind_rises transfer r (transfer xs o) (transfer ys o) ops (r.long xs o ∙ same ∙ sym (r.long ys o)) (r.up xs ys o same b)
