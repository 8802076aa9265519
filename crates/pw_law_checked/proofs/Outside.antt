-- Names at file scope: what a name stands for there it stands for later, since a scope gives it up where it ends, and a name is
-- declared once in a scope.
use Rattle.std.specs.Prelude.{ℕ, suc, ◌≡◌, ◌≤◌, ◌⊎◌, ◌==◌, Bool, true, false, Option, None, Some, option_and_then, List, [], ◌∷◌, ◌++◌, cond, filter, slice_get, if◌then◌else◌, refl}
use Rattle.std.proofs.Common.{arith, ap, sym, subst, ◌∙◌, inl, inr}
use Rattle.std.proofs.lemmas.Bool.{eqb-true, eq-eqb}
use Rattle.pw_scope.specs.Visible.{visible}
use Rattle.pw_check_rules.specs.States.{ScopeState, if_here}
use Rattle.pw_check_rules.specs.declared.names.Entry.{Entry}
use Rattle.pw_law_checked.proofs.Lists.{never_some, get_either, filter_all, filter_none, visible_at}
use Rattle.pw_law_checked.proofs.Types.{no}

-- ---- lists that are filtered

pub filter_more : {X : Type 0} (p : X → Bool) (xs ys : List X) → ((i : ℕ) (x : X) → slice_get ys i ≡ Some x → p x ≡ false) → filter p (xs ++ ys) ≡ filter p xs
filter_more p [] ys h = filter_none p ys h
filter_more p (z ∷ xs) ys h = ap (λ r. cond (p z) (z ∷ r) r) (filter_more p xs ys h)

pub filter_within : {X : Type 0} (p q : X → Bool) (xs : List X) → ((i : ℕ) (x : X) → slice_get xs i ≡ Some x → p x ≡ true → q x ≡ true) → filter p (filter q xs) ≡ filter p xs
filter_within p q [] h = refl
filter_within {X} p q (z ∷ xs) h = by (q z) refl (filter_within p q xs (λ i x e. h (suc i) x e))
  where
    none : (b : Bool) → p z ≡ b → q z ≡ false → filter p xs ≡ cond b (z ∷ filter p xs) (filter p xs)
    none true e f = no (sym f ∙ h 0 z refl e)
    none false e f = refl

    by : (b : Bool) → q z ≡ b → filter p (filter q xs) ≡ filter p xs → filter p (cond b (z ∷ filter q xs) (filter q xs)) ≡ cond (p z) (z ∷ filter p xs) (filter p xs)
    by true e same = ap (λ r. cond (p z) (z ∷ r) r) same
    by false e same = same ∙ none (p z) refl e

-- ---- names at file scope

abbrev pub is_outer : List ℕ × Entry → Bool
is_outer e = e.1.depth == 0

-- what a name stands for at file scope
abbrev pub outer : ScopeState → List ℕ → Option Entry
outer c name = visible (filter (λ (e : List ℕ × Entry). e.1.depth == 0) c.ordinary) name

abbrev pub AreShallow : ScopeState → Type 0
AreShallow c = (i : ℕ) (e : List ℕ × Entry) → slice_get c.ordinary i ≡ Some e → e.1.depth ≤ c.depth

abbrev pub StaysOutside : ScopeState → ScopeState → Type 0
StaysOutside c d = (name : List ℕ) (e : Entry) → outer c name ≡ Some e → outer d name ≡ Some e

abbrev pub Outside : ScopeState → ScopeState → Type 0
Outside c d = AreShallow c → AreShallow d × StaysOutside c d

pub outside_same : (c : ScopeState) → Outside c c
outside_same c h = (h, λ name e f. f)

pub outside_trans : (c d f : ScopeState) → Outside c d → Outside d f → Outside c f
outside_trans c d f a b h = let x = a h in let y = b x.0 in (y.0, λ name e g. y.1 name e (x.1 name e g))

-- at file scope all entries are there
all_outer : (c : ScopeState) → AreShallow c → c.depth ≡ 0 → filter (λ (e : List ℕ × Entry). e.1.depth == 0) c.ordinary ≡ c.ordinary
all_outer c h zero =
    filter_all (λ (e : List ℕ × Entry). e.1.depth == 0) c.ordinary (λ i e f. let k : e.1.depth ≤ c.depth = h i e f in eq-eqb e.1.depth 0 (omega (arith, k, zero)))

pub outer_all : (c : ScopeState) → AreShallow c → c.depth ≡ 0 → (name : List ℕ) → outer c name ≡ visible c.ordinary name
outer_all c h zero name = ap (λ xs. visible xs name) (all_outer c h zero)

pub here_visible : (depth : ℕ) (o : Option Entry) (e : Entry) → option_and_then (if_here depth) o ≡ Some e → o ≡ Some e
here_visible depth None e h = never_some h
here_visible depth (Some x) e h = by (x.depth == depth) h
  where
    by : (b : Bool) → (if b then Some x else None) ≡ Some e → Some x ≡ Some e
    by true f = f
    by false f = never_some f

visible_here : (c : ScopeState) (name : List ℕ) (e : Entry) → AreShallow c → c.depth ≡ 0 → visible c.ordinary name ≡ Some e → option_and_then (if_here c.depth) (visible c.ordinary name) ≡ Some e
visible_here c name e h zero f =
    let i = visible_at c.ordinary name e f in
    let k : e.depth ≤ c.depth = h i.0 (i.1.0, e) i.1.1 in
    ap (option_and_then (if_here c.depth)) f ∙ ap (λ b. if b then Some e else None) (eq-eqb e.depth c.depth (omega (arith, k, zero)))

-- names that are declared in the scope, none of them again
pub outside_more : (c d : ScopeState) (more : List (List ℕ × Entry)) → d.ordinary ≡ c.ordinary ++ more → d.depth ≡ c.depth
    → ((i : ℕ) (e : List ℕ × Entry) → slice_get more i ≡ Some e → e.1.depth ≡ c.depth)
    → ((name : List ℕ) (e : Entry) → option_and_then (if_here c.depth) (visible c.ordinary name) ≡ Some e → option_and_then (if_here d.depth) (visible d.ordinary name) ≡ Some e)
    → Outside c d
outside_more c d more same deep depths here h = (shallow, λ name e f. by (c.depth == 0) refl name e f)
  where
    shallow : AreShallow d
    shallow i e f = by_either (get_either c.ordinary more i e (subst (λ xs. slice_get xs i ≡ Some e) same f))
      where
        by_either : (slice_get c.ordinary i ≡ Some e) ⊎ ((j : ℕ) × (slice_get more j ≡ Some e)) → e.1.depth ≤ d.depth
        by_either (inl g) = let k : e.1.depth ≤ c.depth = h i e g in omega (arith, k, deep)
        by_either (inr g) = let k : e.1.depth ≡ c.depth = depths g.0 e g.1 in omega (arith, k, deep)

    by : (b : Bool) → (c.depth == 0) ≡ b → (name : List ℕ) (e : Entry) → outer c name ≡ Some e → outer d name ≡ Some e
    by true z name e f =
        let zero : c.depth ≡ 0 = eqb-true c.depth 0 z in
        outer_all d shallow (deep ∙ zero) name
        ∙ here_visible d.depth (visible d.ordinary name) e (here name e (visible_here c name e h zero (sym (outer_all c h zero name) ∙ f)))
    by false z name e f =
        ap (λ xs. visible xs name) (ap (filter (λ (x : List ℕ × Entry). x.1.depth == 0)) same
        ∙ filter_more (λ (x : List ℕ × Entry). x.1.depth == 0) c.ordinary more (λ i x g. ap (λ n. n == 0) (depths i x g) ∙ z)) ∙ f
