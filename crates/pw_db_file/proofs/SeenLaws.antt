-- Where webs stand among those that were seen, and one more web behind them.
use Rattle.std.proofs.Common.{◌≡◌, ℕ, zero, suc, ◌<◌, ◌≤◌, Bor, arith, Bool, true, false, cond, List, [], ◌∷◌, ◌++◌, length, map, Result, refl, sym, ap, subst, ◌∙◌, append_assoc}
use Rattle.std.specs.Prelude.{Option, Some, None, option_map, option_copied, slice_get, ◌==◌, is_some, not, MatchOption, HoldsAt}
use Rattle.std.specs.Ordering.{nat_cmp, is_eq}
use Rattle.std.specs.declared.cmp.Ordering.{Ordering}
use Rattle.std.specs.declared.cmp.Ordering.TheVariants.{Less, Equal, Greater}
use Rattle.std.proofs.lemmas.Bool.{eqb-true, eq-eqb}
use Rattle.std.proofs.lemmas.Cmp.{tied_itself, nat_cmp_total}
use Rattle.std.proofs.lemmas.Map.Lookups.{exact_unsigned}
use Rattle.std.proofs.lemmas.List.{map_push}
use Rattle.pw_db.specs.declared.database.Web.{Web}
use Rattle.pw_db.specs.declared.database.Role.{Role}
use Rattle.pw_db_file.specs.Reading.{first_with, web_at}
use Rattle.pw_db_file.specs.Seen.{place_with}

-- ---- the first web of a number, by its place

none_inside : (o : Option ℕ) → option_map suc o ≡ None → o ≡ None
none_inside None e = refl
none_inside (Some i) e = absurd cc

none_by : (x : Web) (id : ℕ) (xs : List Web) (b : Bool) → (place_with id xs ≡ None → first_with id xs ≡ None) → cond b (Some 0) (option_map suc (place_with id xs)) ≡ None → cond b (Some x) (first_with id xs) ≡ None
none_by x id xs true later e = absurd cc
none_by x id xs false later e = later (none_inside (place_with id xs) e)

pub first_none : (id : ℕ) (xs : List Web) → place_with id xs ≡ None → first_with id xs ≡ None
first_none id [] e = refl
first_none id (x ∷ xs) e = none_by x id xs (x.id == id) (first_none id xs) e

some_inside : {R : Type 0} (seen : R → Web) (x : R) (xs : List R) (first : Option Web) (o : Option ℕ) (i : ℕ) → ((j : ℕ) → o ≡ Some j → option_map seen (slice_get xs j) ≡ first) → option_map suc o ≡ Some i → option_map seen (slice_get (x ∷ xs) i) ≡ first
some_inside seen x xs first None i later e = absurd cc
some_inside seen x xs first (Some j) zero later e = absurd cc
some_inside seen x xs first (Some j) (suc i) later e = let same : j ≡ i = cc in later i (ap (λ (k : ℕ). Some k) same)

some_by : {R : Type 0} (seen : R → Web) (x : R) (xs : List R) (id i : ℕ) (b : Bool) → ((j : ℕ) → place_with id (map seen xs) ≡ Some j → option_map seen (slice_get xs j) ≡ first_with id (map seen xs))
    → cond b (Some 0) (option_map suc (place_with id (map seen xs))) ≡ Some i → option_map seen (slice_get (x ∷ xs) i) ≡ cond b (Some (seen x)) (first_with id (map seen xs))
some_by seen x xs id zero true later e = refl
some_by seen x xs id (suc i) true later e = absurd cc
some_by seen x xs id i false later e = some_inside seen x xs (first_with id (map seen xs)) (place_with id (map seen xs)) i later e

pub first_some : {R : Type 0} (seen : R → Web) (xs : List R) (id i : ℕ) → place_with id (map seen xs) ≡ Some i → option_map seen (slice_get xs i) ≡ first_with id (map seen xs)
first_some seen [] id i e = absurd cc
first_some seen (x ∷ xs) id i e = some_by seen x xs id i ((seen x).id == id) (first_some seen xs id) e

-- ---- one more web

abbrev or_there : Option ℕ → Bool → ℕ → Option ℕ
or_there None b n = cond b (Some n) None
or_there (Some i) b n = Some i

later_there : (o : Option ℕ) (b : Bool) (n : ℕ) → option_map suc (or_there o b n) ≡ or_there (option_map suc o) b (suc n)
later_there None true n = refl
later_there None false n = refl
later_there (Some i) b n = refl

pushed_by : (n : ℕ) (more old : Option ℕ) (b c : Bool) → more ≡ or_there old c n → cond b (Some 0) (option_map suc more) ≡ or_there (cond b (Some 0) (option_map suc old)) c (suc n)
pushed_by n more old true c e = refl
pushed_by n more old false c e = ap (option_map suc) e ∙ later_there old c n

empty_there : (b : Bool) → cond b (Some 0) (option_map suc None) ≡ or_there None b 0
empty_there true = refl
empty_there false = refl

place_pushed : (id : ℕ) (xs : List Web) (w : Web) → place_with id (xs ++ w ∷ []) ≡ or_there (place_with id xs) (w.id == id) (length xs)
place_pushed id [] w = empty_there (w.id == id)
place_pushed id (x ∷ xs) w = pushed_by (length xs) (place_with id (xs ++ w ∷ [])) (place_with id xs) (x.id == id) (w.id == id) (place_pushed id xs w)

differs : (o : Ordering) → (o ≡ Equal → ⊥) → is_eq o ≡ false
differs Less h = refl
differs Equal h = absurd (h refl)
differs Greater h = refl

apart : false ≡ true → ⊥
apart e = cc

pub key_test : (a b : ℕ) (t : Bool) → (a == b) ≡ t → is_eq (nat_cmp a b) ≡ t
key_test a b true is = ap (λ (n : ℕ). is_eq (nat_cmp a n)) (sym (eqb-true a b is)) ∙ ap is_eq (tied_itself nat_cmp_total a)
key_test a b false is = differs (nat_cmp a b) (λ e. apart (sym is ∙ eq-eqb a b (exact_unsigned a b e)))

new_by : (w q n : ℕ) (at_w at_q : Option ℕ) (t : Bool) → (w == q) ≡ t → at_w ≡ None → (w ≡ q → at_w ≡ at_q) → cond t (Some n) at_q ≡ or_there at_q t n
new_by w q n at_w None true is none same = refl
new_by w q n at_w (Some i) true is none same = let both = same (eqb-true w q is) in absurd cc
new_by w q n at_w None false is none same = refl
new_by w q n at_w (Some i) false is none same = refl

-- a web of a number that stood nowhere
pub new_place : (xs : List Web) (w : Web) (q : ℕ) → place_with w.id xs ≡ None → cond (is_eq (nat_cmp w.id q)) (Some (length xs)) (place_with q xs) ≡ place_with q (xs ++ w ∷ [])
new_place xs w q none =
    ap (λ t. cond t (Some (length xs)) (place_with q xs)) (key_test w.id q (w.id == q) refl)
    ∙ new_by w.id q (length xs) (place_with w.id xs) (place_with q xs) (w.id == q) refl none (λ e. ap (λ k. place_with k xs) e)
    ∙ sym (place_pushed q xs w)

old_by : (w q n i : ℕ) (at_w at_q : Option ℕ) (t : Bool) → (w == q) ≡ t → at_w ≡ Some i → (w ≡ q → at_w ≡ at_q) → at_q ≡ or_there at_q t n
old_by w q n i at_w None true is some same = let both = same (eqb-true w q is) in absurd cc
old_by w q n i at_w None false is some same = refl
old_by w q n i at_w (Some j) t is some same = refl

-- a web of a number that stood before
pub old_place : (xs : List Web) (w : Web) (q i : ℕ) → place_with w.id xs ≡ Some i → place_with q xs ≡ place_with q (xs ++ w ∷ [])
old_place xs w q i some = old_by w.id q (length xs) i (place_with w.id xs) (place_with q xs) (w.id == q) refl some (λ e. ap (λ k. place_with k xs) e) ∙ sym (place_pushed q xs w)

-- ---- the loop over the webs of a function

pub web_behind : (P : Result ((Web × Role) × List ℕ) ℕ → Type 0) (names : List (List ℕ)) (earlier seen : List Web) (ws vs : List (Web × Role)) (bytes : List ℕ) → seen ≡ earlier ++ map (λ w. w.0) ws → vs ≡ ws
    → P (web_at names seen (map (λ w. w.0) vs) bytes) → P (web_at names (earlier ++ map (λ w. w.0) ws) (map (λ w. w.0) ws) bytes)
web_behind P names earlier seen ws vs bytes same alike h =
    subst (λ (s : List Web). P (web_at names s (map (λ w. w.0) ws) bytes)) same (subst (λ (us : List (Web × Role)). P (web_at names seen (map (λ w. w.0) us) bytes)) alike h)

pub one_more : (ws vs : List (Web × Role)) (v w : Web) (r : Role) → vs ≡ ws ++ (v, r) ∷ [] → v ≡ w → vs ≡ ws ++ (w, r) ∷ []
one_more ws vs v w r e same = e ∙ ap (λ (z : Web). ws ++ (z, r) ∷ []) same

pub webs_pushed : (ws : List (Web × Role)) (w : Web) (r : Role) → map (λ p. p.0) (ws ++ (w, r) ∷ []) ≡ map (λ p. p.0) ws ++ w ∷ []
webs_pushed ws w r = map_push (λ p. p.0) ws (w, r)

pub seen_more : (earlier seen more : List Web) (ws vs : List (Web × Role)) (w : Web) (r : Role) → more ≡ seen ++ w ∷ [] → seen ≡ earlier ++ map (λ p. p.0) ws → vs ≡ ws ++ (w, r) ∷ [] → more ≡ earlier ++ map (λ p. p.0) vs
seen_more earlier seen more ws vs w r e same pushed =
    e ∙ ap (λ (s : List Web). s ++ w ∷ []) same ∙ append_assoc earlier (map (λ p. p.0) ws) (w ∷ []) ∙ ap (λ (s : List Web). earlier ++ s) (sym (webs_pushed ws w r)) ∙ ap (λ (us : List (Web × Role)). earlier ++ map (λ p. p.0) us) (sym pushed)

-- ---- what the look-ups answer

-- what a slice has at a place
pub got : {R : Type 0} (xs : List R) (i : ℕ) (r : Option (Bor R)) → MatchOption r (length xs ≤ i) (λ x. (i < length xs) × HoldsAt (λ y. x.now ≡ y) xs i) → option_copied r ≡ slice_get xs i
got [] i None m = refl
got [] i (Some x) m = absurd (omega (arith, m.0))
got (y ∷ xs) zero None m = absurd (omega (arith, m))
got (y ∷ xs) zero (Some x) m = let same = m.1 y in cc
got (y ∷ xs) (suc i) None m = got xs i None (omega (arith, m))
got (y ∷ xs) (suc i) (Some x) m = got xs i (Some x) (omega (arith, m.0), λ d. m.1 d)

-- a number that stands nowhere, and one that stands somewhere
pub nowhere : (r : Option (Bor ℕ)) (b : Bool) (o : Option ℕ) → is_some r ≡ not b → b ≡ true → option_copied r ≡ o → o ≡ None
nowhere None b o e t same = sym same
nowhere (Some x) b o e t same = let n : not b ≡ false = ap not t in absurd cc

pub somewhere : (r : Option (Bor ℕ)) (b : Bool) (o : Option ℕ) → is_some r ≡ not b → b ≡ false → option_copied r ≡ o → (i : ℕ) × (o ≡ Some i)
somewhere None b o e t same = let n : not b ≡ true = ap not t in absurd cc
somewhere (Some x) b o e t same = (x.now, sym same)

pub known_pushed : {R : Type 0} (seen : R → Web) (xs ys : List R) (x : R) → ys ≡ xs ++ x ∷ [] → map seen ys ≡ map seen xs ++ seen x ∷ []
known_pushed {R} seen xs ys x e = ap (λ (zs : List R). map seen zs) e ∙ map_push seen xs x
