-- Temporaries get registers one behind the other, each once.
use Rattle.std.proofs.Common.{◌≡◌, ◌≢◌, ℕ, zero, suc, ◌+◌, ◌<◌, ◌≤◌, not, Bool, true, false, List, [], ◌∷◌, ◌++◌, length, get_or, take, refl, sym, ap, subst, ◌∙◌, arith}
use Rattle.std.specs.Prelude.{if◌then◌else◌, nat_lt, Option, None, Some, slice_get}
use Rattle.std.specs.List.{AllByRecursion, find}
use Rattle.std.proofs.lemmas.Bool.{ne_eqb}
use Rattle.std.proofs.lemmas.List.{take_more}
use Rattle.std.proofs.lemmas.List.Elements.{All-from_recursion}
use Rattle.std.proofs.lemmas.Option.{same_Some}
use Rattle.pw_db.specs.Database.{EachTwo}
use Rattle.pw_flow.specs.Outline.{Outline}
use Rattle.pw_alloc_temps.specs.Weights.{weight, put_by_weight, by_weight}
use Rattle.pw_alloc_temps.specs.Registers.{allowed, is_taken, with_register, given_to, given, register_of, registers_from, registers}

-- ---- the order has temporaries of the function, each once

each_put : (P : ℕ → Type 0) (f : Outline) (t : ℕ) (xs : List ℕ) → P t → AllByRecursion P xs → AllByRecursion P (put_by_weight f t xs)
each_put P f t [] h all = (h, tt)
each_put P f t (u ∷ rest) h all = by (nat_lt (weight f t) (weight f u)) (each_put P f t rest h all.1)
  where
    by : (b : Bool) → AllByRecursion P (put_by_weight f t rest) → AllByRecursion P (if b then u ∷ put_by_weight f t rest else t ∷ u ∷ rest)
    by true later = (all.0, later)
    by false later = (h, all)

each_ordered : (P : ℕ → Type 0) (f : Outline) (i more : ℕ) → ((t : ℕ) → i ≤ t → t < i + more → P t) → AllByRecursion P (by_weight f i more)
each_ordered P f i zero all = tt
each_ordered P f i (suc more) all =
    each_put P f i (by_weight f (suc i) more) (all i (omega arith) (omega arith)) (each_ordered P f (suc i) more (λ t low high. all t (omega (arith, low)) (omega (arith, high))))

once_put : (f : Outline) (t : ℕ) (xs : List ℕ) → AllByRecursion (λ u. t ≢ u) xs → EachTwo (λ a b. a ≢ b) xs → EachTwo (λ a b. a ≢ b) (put_by_weight f t xs)
once_put f t [] apart two = (tt, tt)
once_put f t (u ∷ rest) apart two = by (nat_lt (weight f t) (weight f u)) (once_put f t rest apart.1 two.1)
  where
    by : (b : Bool) → EachTwo (λ a b. a ≢ b) (put_by_weight f t rest) → EachTwo (λ a b. a ≢ b) (if b then u ∷ put_by_weight f t rest else t ∷ u ∷ rest)
    by true later = (each_put (λ x. u ≢ x) f t rest (λ e. apart.0 (sym e)) two.0, later)
    by false later = (apart, two)

once_ordered : (f : Outline) (i more : ℕ) → EachTwo (λ a b. a ≢ b) (by_weight f i more)
once_ordered f i zero = tt
once_ordered f i (suc more) = once_put f i (by_weight f (suc i) more) (each_ordered (λ u. i ≢ u) f (suc i) more (λ t low high e. omega (arith, low, e))) (once_ordered f (suc i) more)

pub ordered_below : (f : Outline) (xs : List ℕ) (k t : ℕ) → xs ≡ by_weight f 0 f.temps → k < length xs → t ≡ get_or xs k t → t < f.temps
ordered_below f xs k t is lt at =
    let all = each_ordered (λ u. u < f.temps) f 0 f.temps (λ u low high. omega (arith, high)) in
    subst (λ (u : ℕ). u < f.temps) (sym at) (All-from_recursion (λ u. u < f.temps) xs (subst (AllByRecursion (λ u. u < f.temps)) (sym is) all) k t lt)

-- ---- one more has its turn

given_step : (f : Outline) (ws cs xs : List ℕ) (t : ℕ) (gs : List (ℕ × ℕ))
    → given_to f ws cs (xs ++ t ∷ []) gs ≡ with_register t (find (λ r. not (is_taken f (given_to f ws cs xs gs) t r)) (allowed f ws cs t)) (given_to f ws cs xs gs)
given_step f ws cs [] t gs = refl
given_step f ws cs (x ∷ xs) t gs = given_step f ws cs xs t (with_register x (find (λ r. not (is_taken f gs x r)) (allowed f ws cs x)) gs)

pub next_turn : (f : Outline) (ws cs xs : List ℕ) (k t : ℕ) → k < length xs → get_or xs k t ≡ t
    → given_to f ws cs (take (k + 1) xs) [] ≡ with_register t (find (λ r. not (is_taken f (given_to f ws cs (take k xs) []) t r)) (allowed f ws cs t)) (given_to f ws cs (take k xs) [])
next_turn f ws cs xs k t lt is = ap (λ (ts : List ℕ). given_to f ws cs ts []) (take_more xs k t lt ∙ ap (λ (x : ℕ). take k xs ++ x ∷ []) is) ∙ given_step f ws cs (take k xs) t []

-- ---- none has its turn twice

none_put : (u : ℕ) (o : Option ℕ) (gs : List (ℕ × ℕ)) (t : ℕ) → u ≢ t → register_of gs t ≡ None → register_of (with_register u o gs) t ≡ None
none_put u None gs t other none = none
none_put u (Some r) gs t other none = ap (λ (b : Bool). if b then Some r else register_of gs t) (ne_eqb u t other) ∙ none

none_given : (f : Outline) (ws cs ts : List ℕ) (gs : List (ℕ × ℕ)) (t : ℕ) → AllByRecursion (λ u. u ≢ t) ts → register_of gs t ≡ None → register_of (given_to f ws cs ts gs) t ≡ None
none_given f ws cs [] gs t others none = none
none_given f ws cs (u ∷ rest) gs t others none =
    let o = find (λ r. not (is_taken f gs u r)) (allowed f ws cs u) in
    none_given f ws cs rest (with_register u o gs) t others.1 (none_put u o gs t others.0 none)

before_apart : (xs : List ℕ) (k d : ℕ) → EachTwo (λ a b. a ≢ b) xs → k < length xs → AllByRecursion (λ u. u ≢ get_or xs k d) (take k xs)
before_apart [] k d two lt = absurd (omega (arith, lt))
before_apart (x ∷ xs) zero d two lt = tt
before_apart (x ∷ xs) (suc k) d two lt = (All-from_recursion (λ y. x ≢ y) xs two.0 k d (omega (arith, lt)), before_apart xs k d two.1 (omega (arith, lt)))

pub none_yet : (f : Outline) (ws cs : List ℕ) (k t : ℕ) → k < length (by_weight f 0 f.temps) → get_or (by_weight f 0 f.temps) k t ≡ t → register_of (given_to f ws cs (take k (by_weight f 0 f.temps)) []) t ≡ None
none_yet f ws cs k t lt is =
    let xs = by_weight f 0 f.temps in
    none_given f ws cs (take k xs) [] t (subst (λ (x : ℕ). AllByRecursion (λ u. u ≢ x) (take k xs)) is (before_apart xs k t (once_ordered f 0 f.temps) lt)) refl

-- ---- at the end

same_from : (gs : List (ℕ × ℕ)) (xs : List (Option ℕ)) (t more : ℕ) → length xs ≡ more → ((k : ℕ) → k < more → slice_get xs k ≡ Some (register_of gs (t + k))) → xs ≡ registers_from gs t more
same_from gs [] t zero long all = refl
same_from gs [] t (suc more) long all = absurd (omega (arith, long))
same_from gs (x ∷ xs) t zero long all = absurd (omega (arith, long))
same_from gs (x ∷ xs) t (suc more) long all =
    let z : t + 0 ≡ t = omega arith in
    let first : x ≡ register_of gs t = same_Some x (register_of gs t) (all 0 (omega arith) ∙ ap (λ (n : ℕ). Some (register_of gs n)) z) in
    let rest : xs ≡ registers_from gs (suc t) more = same_from gs xs (suc t) more (omega (arith, long))
    (λ k lt. let s : t + suc k ≡ suc t + k = omega arith in all (suc k) (omega (arith, lt)) ∙ ap (λ (n : ℕ). Some (register_of gs n)) s) in
    ap (λ (y : Option ℕ). y ∷ xs) first ∙ ap (λ (ys : List (Option ℕ)). register_of gs t ∷ ys) rest

pub all_registers : (f : Outline) (ws cs : List ℕ) (xs : List (Option ℕ)) → length xs ≡ f.temps → ((t : ℕ) → t < f.temps → slice_get xs t ≡ Some (register_of (given f ws cs) t)) → xs ≡ registers f ws cs
all_registers f ws cs xs long all =
    same_from (given f ws cs) xs 0 f.temps long (λ k lt. let z : 0 + k ≡ k = omega arith in all k lt ∙ ap (λ (n : ℕ). Some (register_of (given f ws cs) n)) (sym z))
