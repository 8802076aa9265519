-- Which registers are saved at the start of a function: those of the webs that it enters.
use Rattle.std.proofs.Common.{◌≡◌, ◌≤◌, ◌<◌, ◌+◌, ◌==◌, ◌&&◌, ℕ, zero, suc, inl, inr, Bool, true, false, if◌then◌else◌, List, [], ◌∷◌, refl, ap, sym, subst, arith}
use Rattle.std.specs.Prelude.{Contains}
use Rattle.std.proofs.lemmas.Bool.{cases_lt, eqb-true}
use Rattle.std.proofs.lemmas.List.Elements.{Contains-append_right, Contains-append_cases, Contains-push_cases}
use Rattle.pw_db.specs.declared.database.Web.{Web}
use Rattle.pw_db.specs.declared.database.Role.{Role}
use Rattle.pw_db.specs.declared.database.Role.TheVariants.{Entry, Member}
use Rattle.pw_alloc.specs.Allocation.{is_entry, is_entered, entered_from}
use Rattle.pw_law_direction.proofs.Elements.{nowhere, first-there}
use Rattle.pw_law_direction.proofs.Registers.{itself}

-- ---- the registers of the webs that are entered

pub record EntersBy (webs : List (Web × Role)) (r : ℕ) : Type 0 where
  pub web : Web
  pub there : Contains webs (web, Entry)
  pub is : web.reg ≡ r

behind : (x : Web × Role) (rest : List (Web × Role)) (r : ℕ) → EntersBy rest r → EntersBy (x ∷ rest) r
behind x rest r e = record { web = e.web; there = Contains-append_right (x ∷ []) rest (e.web, Entry) e.there; is = e.is }

entered_step : (w : Web) (role : Role) (rest : List (Web × Role)) (r : ℕ) (b : Bool) → (w.reg == r) ≡ b → (is_entered rest r ≡ true → EntersBy rest r)
    → (if b && is_entry role then true else is_entered rest r) ≡ true → EntersBy ((w, role) ∷ rest) r
entered_step w Entry rest r true same later e = record { web = w; there = first-there (w, Entry) rest; is = eqb-true w.reg r same }
entered_step w Member rest r true same later e = behind (w, Member) rest r (later e)
entered_step w role rest r false same later e = behind (w, role) rest r (later e)

pub entered_by : (webs : List (Web × Role)) (r : ℕ) → is_entered webs r ≡ true → EntersBy webs r
entered_by [] r e = absurd cc
entered_by (w ∷ rest) r e = entered_step w.0 w.1 rest r (w.0.reg == r) refl (entered_by rest r) e

or_later : (b c : Bool) → c ≡ true → (if b then true else c) ≡ true
or_later true c e = refl
or_later false c e = e

is_entered_here : (w : Web) (rest : List (Web × Role)) (r : ℕ) → w.reg ≡ r → is_entered ((w, Entry) ∷ rest) r ≡ true
is_entered_here w rest r e =
    ap (λ (b : Bool). if b && true then true else is_entered rest r) (subst (λ (q : ℕ). (w.reg == q) ≡ true) e (itself w.reg))

pub enters_so : (webs : List (Web × Role)) (w : Web) (r : ℕ) → Contains webs (w, Entry) → w.reg ≡ r → is_entered webs r ≡ true
enters_so [] w r c e = absurd (nowhere (w, Entry) c)
enters_so (x ∷ rest) w r c e = elim (Contains-append_cases (x ∷ []) rest (w, Entry) c) [
  | inl first ↦ elim (Contains-push_cases [] x (w, Entry) first) [
    | inl none ↦ absurd (nowhere (w, Entry) none)
    | inr same ↦ subst (λ (x : Web × Role). is_entered (x ∷ rest) r ≡ true) (sym same) (is_entered_here w rest r e)
  ]
  | inr later ↦ or_later ((x.0.reg == r) && is_entry x.1) (is_entered rest r) (enters_so rest w r later e)
]

-- ---- the registers that are saved

saved_step : (webs : List (Web × Role)) (r more q : ℕ) (b : Bool) → is_entered webs r ≡ b
    → (Contains (entered_from webs (suc r) more) q → (suc r ≤ q) × (q < suc r + more) × (is_entered webs q ≡ true))
    → Contains (if b then r ∷ entered_from webs (suc r) more else entered_from webs (suc r) more) q
    → (r ≤ q) × (q < r + suc more) × (is_entered webs q ≡ true)
saved_step webs r more q true here later c = elim (Contains-append_cases (r ∷ []) (entered_from webs (suc r) more) q c) [
  | inl first ↦ elim (Contains-push_cases [] r q first) [
    | inl none ↦ absurd (nowhere q none)
    | inr same ↦
        let low : r ≤ q = omega (arith, same) in
        let high : q < r + suc more = omega (arith, same) in
        (low, high, subst (λ (q : ℕ). is_entered webs q ≡ true) same here)
  ]
  | inr behind ↦
      let k = later behind in
      let low : r ≤ q = omega (arith, k.0) in
      let high : q < r + suc more = omega (arith, k.1) in
      (low, high, k.2)
]
saved_step webs r more q false here later c =
    let k = later c in
    let low : r ≤ q = omega (arith, k.0) in
    let high : q < r + suc more = omega (arith, k.1) in
    (low, high, k.2)

pub saved_so : (webs : List (Web × Role)) (r more q : ℕ) → Contains (entered_from webs r more) q → (r ≤ q) × (q < r + more) × (is_entered webs q ≡ true)
unfolding entered_from
saved_so webs r zero q c = absurd (nowhere q c)
saved_so webs r (suc more) q c = saved_step webs r more q (is_entered webs r) refl (saved_so webs (suc r) more q) c

in_tail : (b : Bool) (r q : ℕ) (rest : List ℕ) → Contains rest q → Contains (if b then r ∷ rest else rest) q
in_tail true r q rest c = Contains-append_right (r ∷ []) rest q c
in_tail false r q rest c = c

pub so_saved : (webs : List (Web × Role)) (r more q : ℕ) → r ≤ q → q < r + more → is_entered webs q ≡ true → Contains (entered_from webs r more) q
unfolding entered_from
so_saved webs r zero q low high e = absurd (omega (arith, low, high))
so_saved webs r (suc more) q low high e = elim (cases_lt r q) [
  | inl above ↦
      let up : suc r ≤ q = omega (arith, above) in
      let under : q < suc r + more = omega (arith, high) in
      in_tail (is_entered webs r) r q (entered_from webs (suc r) more) (so_saved webs (suc r) more q up under e)
  | inr under ↦
      let same : q ≡ r = omega (arith, low, under) in
      let here : is_entered webs r ≡ true = subst (λ (q : ℕ). is_entered webs q ≡ true) same e in
      subst (λ (b : Bool). Contains (if b then r ∷ entered_from webs (suc r) more else entered_from webs (suc r) more) q) (sym here)
      (subst (Contains (r ∷ entered_from webs (suc r) more)) (sym same) (first-there r (entered_from webs (suc r) more)))
]
