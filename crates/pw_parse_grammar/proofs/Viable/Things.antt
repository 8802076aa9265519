-- Things that are read whole, and the faults in them.
use Rattle.std.proofs.Common.{◌≡◌, ℕ, ◌<◌, List, [], ◌∷◌, ◌++◌, length, map, Option, Some, None, Ok, Err, arith, refl, sym, ap, ◌∙◌}
use Rattle.pw_tree.specs.Scopes.{Env}
use Rattle.pw_tree.specs.Symbols.{Symbol}
use Rattle.pw_parse_grammar.specs.Input.{Input, Outcome, Parser, and_then, first_of_rest, ahead}
use Rattle.pw_parse_grammar.proofs.Trees.Base.{names_of}
use Rattle.pw_parse_grammar.proofs.Sound.Base.{Reads}
use Rattle.pw_parse_grammar.proofs.Viable.Base.{Does, Form, Begins, Viable, no_longer}

-- from i, where env is visible, to j stands a thing of the form
pub record Stands {A : Type 0} (F : Form A) (after : Env → A → Env) (env : Env) (i : Input) (x : A) (j : Input) : Type 0 where
  pub reads : Reads i j (after env x) (F.put x)
  pub holds : F.holds env x

-- Where fewer tokens than d are ahead, the parser reads things of the form, and the tokens before a fault begin one.
abbrev pub Handles : {A : Type 0} → Form A → (Env → A → Env) → ℕ → Parser A → Type 0
Handles F after d p = (env : Env) (i : Input) → i.names ≡ names_of env → length i.rest < d → Does (Stands F after env i) (Viable F env i) (p i)

-- what goes on behind two parts, the second of which goes on behind the first
pub flat : {A B C : Type 0} (R : C → Input → Type 0) (V : Input → Type 0) (o : Outcome A) (g : A → Parser B) (h : B → Parser C) → Does R V (and_then o (λ x i. and_then (g x i) h)) → Does R V (and_then (and_then o g) h)
flat R V (Ok p) g h d = d
flat R V (Err e) g h d = d

-- what is below a bound stays so
pub below : {i j : Input} {env : Env} {put : List Symbol → List Symbol} {d : ℕ} → Reads i j env put → length i.rest < d → length j.rest < d
below r h = omega (arith, no_longer r, h)

-- ---- first tokens

-- Either nothing stands before the fault, or the first token of the thing that the text begins stands next.
pub begun : {A C : Type 0} (F : Form A) {env : Env} {i e : Input} (v : Viable F env i e) (x : A) (s : Symbol) (rest : List Symbol → List Symbol)
    → ((z : List Symbol) → (w : List Symbol) × (F.put x z ≡ v.front w)) → ((z : List Symbol) → F.put x z ≡ s ∷ rest z) → (v.front [] ≡ [] → C) → (ahead i ≡ Some s → C) → C
unfolding ahead
begun {C = C} F {i = i} {e = e} v x s rest spells begins none some = by (v.front []) refl
  where
    first : List Symbol → Option Symbol
    first [] = None
    first (x ∷ l) = Some x

    by : (l : List Symbol) → v.front [] ≡ l → C
    by [] h = none h
    by (y ∷ l) h =
        let whole = sym (begins []) ∙ (spells []).1 ∙ v.plain (spells []).0 ∙ ap (λ u. u ++ (spells []).0) h in
        some (ap first_of_rest v.text ∙ ap (λ u. first_of_rest (map Some u ++ e.rest)) h ∙ sym (ap first whole))

-- Another thing begins with the same tokens.
pub instead : {A B : Type 0} {P : Form A} {F : Form B} {env inner : Env} {i e : Input} (v : Viable P inner i e) → Begins F env v.front → Viable F env i e
instead v b = record { front = v.front; text = v.text; next = v.next; plain = v.plain; begins = b }

-- Where nothing stands before the fault, any thing begins with it.
pub anything : {A B : Type 0} {P : Form A} {F : Form B} {env inner : Env} {i e : Input} (v : Viable P inner i e) → v.front [] ≡ [] → (x : B) → F.holds env x → Viable F env i e
anything {F = F} v none x h = instead v (record { thing = x; holds = h; spells = λ z. (F.put x z, sym (v.plain (F.put x z) ∙ ap (λ u. u ++ F.put x z) none)) })
