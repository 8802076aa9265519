-- An expression that is well typed among the locals that can be seen names no other: it is so among locals of which each other one has a
-- type that no expression has.
use Rattle.std.specs.Prelude.{ℕ, zero, suc, ◌≡◌, ◌<◌, ◌⊎◌, ◌==◌, ◌||◌, Bool, true, false, Option, None, Some, List, [], ◌∷◌, length, slice_get, if◌then◌else◌, refl}
use Rattle.std.specs.List.{list_any}
use Rattle.std.proofs.Common.{arith, ap, sym, subst, ◌∙◌, inl, inr}
use Rattle.std.proofs.lemmas.Bool.{eqb-true}
use Rattle.pw_types.specs.TypeTrees.{Record, QType, QTypes, NoType, OneType, Qualified, type_of}
use Rattle.pw_types.specs.TypedTrees.{Expression, Form, Node, Expressions, NoExpression, OneExpression, LocalValue, ModuleValue}
use Rattle.pw_types.specs.TypedTrees as T
use Rattle.pw_types.specs.WellTyped.{IsKnownType, IsTyped, HasForm, AreArguments}
use Rattle.pw_check_rules.specs.Modules.{module_in}
use Rattle.pw_check_rules.specs.States.{State, Entity, TypeName, EnumerationConstant, LocalObject, StaticObject, Linked}
use Rattle.pw_check_rules.specs.declared.names.Entry.{Entry}
use Rattle.pw_law_checked.specs.Lawful.{IsLawful, Denotes, HasLocal}
use Rattle.pw_law_checked.proofs.Lists.{some_same, never_some}
use Rattle.pw_law_checked.proofs.Types.{no}
use Rattle.pw_law_checked.proofs.Counting.{equal_itself}
use Rattle.pw_law_checked.proofs.Locals.{IsPlaced}
use Rattle.pw_law_checked.proofs.Backward.{names_end, names_denote}
use Rattle.pw_law_checked.proofs.Adding.{IsReady}
use Rattle.pw_law_scopes.specs.Scoped.{IsScoped, HasScoped, AreScoped}
use Rattle.pw_law_scopes.proofs.Visible.{Seen}

-- ---- expressions

-- where each local that has a known type is in scope
module _ (scope : ℕ → Type 0) (m : ModuleValue) (locals : List LocalValue) (known : (k : ℕ) (l : LocalValue) → slice_get locals k ≡ Some l → IsKnownType m.records (type_of l.ty) → scope k) where
  mutual
    unfolding IsTyped HasForm

    pub typed_scoped : (e : Expression) → IsTyped m locals e → IsScoped scope e
    typed_scoped (Node t y form) h = form_scoped y form h.0 h.1

    form_scoped : (y : QType) (form : Form) → IsKnownType m.records (type_of y) → HasForm m locals y form → HasScoped scope y form
    form_scoped y (T.Number n) k h = tt
    form_scoped y (T.Str n) k h = tt
    form_scoped y (T.Local n) k h = known n h.0 h.1 (subst (λ q. IsKnownType m.records (type_of q)) (sym h.2) k)
    form_scoped y (T.Global symbol) k h = tt
    form_scoped y (T.Function symbol) k h = tt
    form_scoped y (T.Unary op a) k h = typed_scoped a h.0
    form_scoped y (T.Binary op a b) k h = (typed_scoped a h.0, typed_scoped b h.1)
    form_scoped y (T.Logic op a b) k h = (typed_scoped a h.0, typed_scoped b h.1)
    form_scoped y (T.Cond c a b) k h = (typed_scoped c h.0, typed_scoped a h.1, typed_scoped b h.2)
    form_scoped y (T.Comma a b) k h = (typed_scoped a h.0, typed_scoped b h.1)
    form_scoped y (T.Assign a b) k h = (typed_scoped a h.0, typed_scoped b h.1)
    form_scoped y (T.Compound op working a b) k h = (typed_scoped a h.0, typed_scoped b h.1)
    form_scoped y (T.Step op a) k h = typed_scoped a h.0
    form_scoped y (T.Cast a) k h = typed_scoped a h.0
    form_scoped y (T.Decay a) k h = typed_scoped a h.0
    form_scoped y (T.Member a offset) k h = typed_scoped a h.0
    form_scoped y (T.Deref a) k h = typed_scoped a h.0
    form_scoped y (T.Address a) k h = typed_scoped a h.0
    form_scoped y (T.Call symbol args) k h = arguments_scoped args h.1 h.5
    form_scoped y (T.CallValue a args) k h = (typed_scoped a h.0, arguments_scoped args h.1.1 h.1.7)

    arguments_scoped : (args : Expressions) (params : QTypes) → AreArguments m locals args params → AreScoped scope args
    arguments_scoped NoExpression params h = tt
    arguments_scoped (OneExpression e rest) (OneType q more) h = (typed_scoped e h.0, arguments_scoped rest more h.3)
    arguments_scoped (OneExpression e rest) NoType h = absurd h

-- ---- locals of which some are shown

-- a local of a structure that the module does not have
abbrev unknown : ℕ → LocalValue
unknown n = record { name = []; ty = Qualified (Record n) false false; writable = false }

never_below : (n : ℕ) → n < n → ⊥
never_below n h = omega arith

shown : (ℕ → Bool) → LocalValue → List LocalValue → List LocalValue
shown p other [] = []
shown p other (l ∷ ls) = (if p 0 then l else other) ∷ shown (λ k. p (suc k)) other ls

shown_at : (p : ℕ → Bool) (other : LocalValue) (ls : List LocalValue) (k : ℕ) (l : LocalValue) → slice_get ls k ≡ Some l → p k ≡ true → slice_get (shown p other ls) k ≡ Some l
unfolding shown
shown_at p other [] k l e h = never_some e
shown_at p other (x ∷ ls) zero l e h = ap (λ b. Some (if b then x else other)) h ∙ e
shown_at p other (x ∷ ls) (suc k) l e h = shown_at (λ n. p (suc n)) other ls k l e h

shown_so : (p : ℕ → Bool) (other : LocalValue) (ls : List LocalValue) (k : ℕ) (l : LocalValue) → slice_get (shown p other ls) k ≡ Some l → (p k ≡ true) ⊎ (other ≡ l)
unfolding shown
shown_so p other [] k l e = never_some e
shown_so p other (x ∷ ls) zero l e = by (p 0) refl e
  where
    by : (b : Bool) → p 0 ≡ b → Some (if b then x else other) ≡ Some l → (p 0 ≡ true) ⊎ (other ≡ l)
    by true h f = inl h
    by false h f = inr (some_same f)
shown_so p other (x ∷ ls) (suc k) l e = shown_so (λ n. p (suc n)) other ls k l e

-- ---- what can be seen

any_at : {X : Type 0} (p : X → Bool) (xs : List X) (i : ℕ) (x : X) → slice_get xs i ≡ Some x → p x ≡ true → list_any p xs ≡ true
any_at p [] i x e h = never_some e
any_at p (y ∷ xs) zero x e h = ap (λ b. b || list_any p xs) (ap p (some_same e) ∙ h)
any_at {X} p (y ∷ xs) (suc i) x e h = by (p y) (any_at p xs i x e h)
  where
    by : (b : Bool) → list_any p xs ≡ true → (b || list_any p xs) ≡ true
    by true f = refl
    by false f = f

at_any : {X : Type 0} (p : X → Bool) (xs : List X) → list_any p xs ≡ true → (i : ℕ) × (x : X) × (slice_get xs i ≡ Some x) × (p x ≡ true)
at_any p [] h = no h
at_any {X} p (y ∷ xs) h = by (p y) refl h (at_any p xs)
  where
    by : (b : Bool) → p y ≡ b → (b || list_any p xs) ≡ true → (list_any p xs ≡ true → (i : ℕ) × (x : X) × (slice_get xs i ≡ Some x) × (p x ≡ true))
        → (i : ℕ) × (x : X) × (slice_get (y ∷ xs) i ≡ Some x) × (p x ≡ true)
    by true e f rest = (0, y, refl, e)
    by false e f rest = let r = rest f in (suc r.0, r.1, r.2, r.3)

is_local : ℕ → Option Entity → Bool
is_local k (Some (LocalObject n q register)) = n == k
is_local k _ = false

can_see : State → ℕ → Bool
can_see s k = list_any (λ (e : List ℕ × Entry). is_local k (slice_get s.scopes.entities e.1.place)) s.scopes.ordinary

seen_so : (s : State) (d k : ℕ) → Seen s d k → can_see s k ≡ true
unfolding can_see is_local
seen_so s d k v =
    any_at (λ (e : List ℕ × Entry). is_local k (slice_get s.scopes.entities e.1.place)) s.scopes.ordinary v.index v.entry v.there
    (ap (is_local k) v.stands ∙ equal_itself k)

so_seen : (s : State) (k : ℕ) → can_see s k ≡ true → (d : ℕ) × Seen s d k
unfolding can_see is_local
so_seen s k h =
    let r = at_any (λ (e : List ℕ × Entry). is_local k (slice_get s.scopes.entities e.1.place)) s.scopes.ordinary h in
    (r.1.1.depth, by r.0 r.1 r.2 (slice_get s.scopes.entities r.1.1.place) refl r.3)
  where
    by : (i : ℕ) (e : List ℕ × Entry) → slice_get s.scopes.ordinary i ≡ Some e → (o : Option Entity) → slice_get s.scopes.entities e.1.place ≡ o → is_local k o ≡ true → Seen s e.1.depth k
    by i e there (Some (LocalObject n q register)) f g = record {
      index = i;
      entry = e;
      ty = q;
      register = register;
      there = there;
      deep = refl;
      stands = f ∙ ap (λ j. Some (LocalObject j q register)) (eqb-true n k g);
    }
    by i e there (Some (TypeName q)) f g = no g
    by i e there (Some (EnumerationConstant n)) f g = no g
    by i e there (Some (StaticObject n q)) f g = no g
    by i e there (Some (Linked n q)) f g = no g
    by i e there None f g = no g

-- the locals of the function, of which those that can be seen are shown
pub shown_locals : State → List LocalValue
shown_locals s = shown (can_see s) (unknown (length s.types.records)) s.body.locals

pub shown_denotes : (s : State) → IsLawful s → IsReady s → Denotes s (module_in s) (shown_locals s)
unfolding shown_locals
shown_denotes s lawful ready = names_denote s (module_in s) (shown (can_see s) (unknown (length s.types.records)) s.body.locals) (names_end s lawful ready.sound) ready.counting there
  where
    there : (i : ℕ) (x : List ℕ × Entry) (k : ℕ) (q : QType) (register : Bool) → slice_get s.scopes.ordinary i ≡ Some x
        → slice_get s.scopes.entities x.1.place ≡ Some (LocalObject k q register) → HasLocal (shown (can_see s) (unknown (length s.types.records)) s.body.locals) k q
    there i x k q register h f =
        let y = ready.placed i x h in
        let placed = subst (IsPlaced s.body.locals x.1.depth) (some_same (sym y.1 ∙ f)) y.2 in (
          placed.0.0,
          shown_at (can_see s) (unknown (length s.types.records)) s.body.locals k placed.0.0 placed.0.1
              (seen_so s x.1.depth k (record { index = i; entry = x; ty = q; register = register; there = h; deep = refl; stands = f })),
          placed.0.2,
        )

shown_known : (s : State) (scope : ℕ → Type 0) → ((d k : ℕ) → Seen s d k → scope k) → (k : ℕ) (l : LocalValue) → slice_get (shown_locals s) k ≡ Some l → IsKnownType s.types.records (type_of l.ty) → scope k
unfolding shown_locals
shown_known s scope inside k l at is = by (shown_so (can_see s) (unknown (length s.types.records)) s.body.locals k l at)
  where
    by : (can_see s k ≡ true) ⊎ (unknown (length s.types.records) ≡ l) → scope k
    by (inl h) = let v = so_seen s k h in inside v.0 k v.1
    by (inr h) = absurd (never_below (length s.types.records) (subst (λ (x : LocalValue). IsKnownType s.types.records (type_of x.ty)) (sym h) is))

-- what is well typed wherever the names of a state stand for something names locals that can be seen alone
pub seen_scoped : (s : State) → IsLawful s → IsReady s → (scope : ℕ → Type 0) → ((d k : ℕ) → Seen s d k → scope k)
    → (e : Expression) → ((m : ModuleValue) (locals : List LocalValue) → Denotes s m locals → IsTyped m locals e) → IsScoped scope e
seen_scoped s lawful ready scope inside e typed =
    typed_scoped scope (module_in s) (shown_locals s) (shown_known s scope inside) e (typed (module_in s) (shown_locals s) (shown_denotes s lawful ready))
