-- The parameters and locals in scope: each has its type at its place among the function's locals.
use Rattle.std.specs.Prelude.{ℕ, ◌≡◌, ◌<◌, ◌⊎◌, Bool, None, Some, option_and_then, List, [], ◌∷◌, ◌++◌, length, slice_get, if◌then◌else◌, nat_lt, refl}
use Rattle.std.specs.Option.{option_map_or, option_or}
use Rattle.std.specs.Str.{bytes_eq}
use Rattle.std.proofs.Common.{arith, ap, sym, subst, ◌∙◌, inl, inr}
use Rattle.pw_scope.specs.Visible.{visible}
use Rattle.pw_types.specs.TypedTrees.{LocalValue}
use Rattle.pw_check_rules.specs.Declarations.{put_local, place_here}
use Rattle.pw_check_rules.specs.States.{State, Entity, TypeName, EnumerationConstant, LocalObject, StaticObject, Linked, HiddenObject, enter, put_entity, put_at, add_local, leave_scope, if_here}
use Rattle.pw_check_rules.specs.declared.names.Entry.{Entry}
use Rattle.pw_law_checked.specs.Lawful.{HasLocal}
use Rattle.pw_law_checked.proofs.Lists.{Longer, some_same, get_append, get_either, get_more, get_last, get_within, get_filter, put_either, put_same}
use Rattle.pw_law_checked.proofs.States.{GrowsBy, IsConstant, HasEntity}
use Rattle.pw_law_checked.proofs.Counting.{named_itself, equal_itself}

-- a local of the entity's type stands at its place, and its name in a scope inside the file's
abbrev pub IsPlaced : List LocalValue → ℕ → Entity → Type 0
IsPlaced locals depth (TypeName q) = Unit {0}
IsPlaced locals depth (EnumerationConstant n) = Unit {0}
IsPlaced locals depth (LocalObject k q register) = HasLocal locals k q × (0 < depth)
IsPlaced locals depth (StaticObject k q) = Unit {0}
IsPlaced locals depth (Linked place q) = Unit {0}

-- each name that is visible has its entity, and where that is a local its local
abbrev pub ArePlaced : State → Type 0
ArePlaced s = (i : ℕ) (e : List ℕ × Entry) → slice_get s.scopes.ordinary i ≡ Some e → HasEntity (IsPlaced s.body.locals e.1.depth) s e.1.place

pub constant_placed : (locals : List LocalValue) (depth : ℕ) (x : Entity) → IsConstant x → IsPlaced locals depth x
constant_placed locals depth (TypeName q) h = absurd h
constant_placed locals depth (EnumerationConstant n) h = tt
constant_placed locals depth (LocalObject k q register) h = absurd h
constant_placed locals depth (StaticObject k q) h = absurd h
constant_placed locals depth (Linked place q) h = absurd h

pub placed_longer : (xs ys : List LocalValue) → Longer xs ys → (depth : ℕ) (x : Entity) → IsPlaced xs depth x → IsPlaced ys depth x
placed_longer xs ys longer depth (TypeName q) h = tt
placed_longer xs ys longer depth (EnumerationConstant n) h = tt
placed_longer xs ys longer depth (LocalObject k q register) h = ((h.0.0, longer k h.0.0 h.0.1, h.0.2), h.1)
placed_longer xs ys longer depth (StaticObject k q) h = tt
placed_longer xs ys longer depth (Linked place q) h = tt

-- what stands in a list stands in a longer one that is changed behind it
pub longer_put : {X : Type 0} (xs ys : List X) (y : X) → Longer xs ys → Longer xs (put_at (length xs) y ys)
longer_put {X} xs ys y longer i x e = by (put_either (length xs) y ys i)
  where
    by : ((i ≡ length xs) × (slice_get (put_at (length xs) y ys) i ≡ Some y)) ⊎ (slice_get (put_at (length xs) y ys) i ≡ slice_get ys i) → slice_get (put_at (length xs) y ys) i ≡ Some x
    by (inl h) = let k : i < length xs = get_within xs i x e in let same : i ≡ length xs = h.0 in grind (arith, k, same)
    by (inr h) = h ∙ longer i x e

pub longer_same : {X : Type 0} (xs : List X) → Longer xs xs
longer_same xs i x e = e

pub grows_placed : {H : HiddenObject → Type 0} {s t : State} → GrowsBy IsConstant H s t → ArePlaced s → ArePlaced t
grows_placed {H} {s} {t} g p i e h = by (get_either s.scopes.ordinary g.more i e (subst (λ xs. slice_get xs i ≡ Some e) g.ordinary h))
  where
    by : (slice_get s.scopes.ordinary i ≡ Some e) ⊎ ((j : ℕ) × (slice_get g.more j ≡ Some e)) → HasEntity (IsPlaced t.body.locals e.1.depth) t e.1.place
    by (inl f) = let x = p i e f in (x.0, g.entities e.1.place x.0 x.1, subst (λ b. IsPlaced b.locals e.1.depth x.0) (sym g.body) x.2)
    by (inr f) = let x = g.entered f.0 e f.1 in (x.0, x.1, constant_placed t.body.locals e.1.depth x.0 x.2)

pub entered_placed : (s : State) (name : List ℕ) (x : Entity) → ArePlaced s → IsPlaced s.body.locals s.scopes.depth x → ArePlaced (enter name x s)
entered_placed s name x p good i e h = by (get_more s.scopes.ordinary (name, record { place = length s.scopes.entities; depth = s.scopes.depth }) i e h)
  where
    by : (slice_get s.scopes.ordinary i ≡ Some e) ⊎ ((i ≡ length s.scopes.ordinary) × ((name, record { place = length s.scopes.entities; depth = s.scopes.depth }) ≡ e))
        → HasEntity (IsPlaced s.body.locals e.1.depth) (enter name x s) e.1.place
    by (inl f) = let y = p i e f in (y.0, get_append s.scopes.entities (x ∷ []) e.1.place y.0 y.1, y.2)
    by (inr f) =
        subst (λ (y : List ℕ × Entry). HasEntity (IsPlaced s.body.locals y.1.depth) (enter name x s) y.1.place) f.1 (x, get_last s.scopes.entities x, good)

pub added_placed : (s : State) (l : LocalValue) → ArePlaced s → ArePlaced (add_local l s)
added_placed s l p i e h =
    let x = p i e h in
    (x.0, x.1, placed_longer s.body.locals (s.body.locals ++ l ∷ []) (λ j y f. get_append s.body.locals (l ∷ []) j y f) e.1.depth x.0 x.2)

pub put_placed : (s : State) (place : ℕ) (x : Entity) → ArePlaced s → ((depth : ℕ) → IsPlaced s.body.locals depth x) → ArePlaced (put_entity place x s)
put_placed s place x p good i e h = by (p i e h) (put_either place x s.scopes.entities e.1.place)
  where
    by : HasEntity (IsPlaced s.body.locals e.1.depth) s e.1.place
        → ((e.1.place ≡ place) × (slice_get (put_at place x s.scopes.entities) e.1.place ≡ Some x)) ⊎ (slice_get (put_at place x s.scopes.entities) e.1.place ≡ slice_get s.scopes.entities e.1.place)
        → HasEntity (IsPlaced s.body.locals e.1.depth) (put_entity place x s) e.1.place
    by y (inl f) = (x, f.1, good e.1.depth)
    by y (inr f) = (y.0, f ∙ y.1, y.2)

pub left_placed : (s : State) → ArePlaced s → ArePlaced (leave_scope s)
left_placed s p i e h = let k = get_filter (λ (x : List ℕ × Entry). nat_lt x.1.depth s.scopes.depth) s.scopes.ordinary i e h in p k.0 e k.1

-- ---- a local that gets its length from its initialiser

visible_last : {X : Type 0} (xs : List (List ℕ × X)) (name : List ℕ) (x : X) → visible (xs ++ (name, x) ∷ []) name ≡ Some x
visible_last [] name x = ap (λ b. if b then Some x else None) (named_itself name)
visible_last (e ∷ xs) name x = ap (λ o. option_or o (if bytes_eq name e.0 then Some e.1 else None)) (visible_last xs name x)

-- the newest name has the newest place
pub place_of_new : (s : State) (name : List ℕ) (x : Entity) → place_here (enter name x s) name ≡ length s.scopes.entities
place_of_new s name x =
    ap (λ o. option_map_or (λ (e : Entry). e.place) (option_and_then (if_here s.scopes.depth) o) 0)
    (visible_last s.scopes.ordinary name (record { place = length s.scopes.entities; depth = s.scopes.depth }))
    ∙ ap (λ b. option_map_or (λ (e : Entry). e.place) (if b then Some (record { place = length s.scopes.entities; depth = s.scopes.depth }) else None) 0) (equal_itself s.scopes.depth)

-- the state behind a local's name, before its initialiser, and behind that
abbrev pub local_entered : State → List ℕ → LocalValue → Bool → State
local_entered s name l register = enter name (LocalObject (length s.body.locals) l.ty register) (add_local l s)

abbrev pub local_completed : State → ℕ → LocalValue → Bool → State → State
local_completed s place l register u = put_entity place (LocalObject (length s.body.locals) l.ty register) (put_local (length s.body.locals) l u)

pub local_placed : (s : State) (name : List ℕ) (l : LocalValue) (register : Bool) → 0 < s.scopes.depth → ArePlaced s → ArePlaced (local_entered s name l register)
local_placed s name l register inner p =
    entered_placed (add_local l s) name (LocalObject (length s.body.locals) l.ty register) (added_placed s l p) ((l, get_last s.body.locals l, refl), inner)

pub completed_placed : {H : HiddenObject → Type 0} (s u : State) (name : List ℕ) (l new : LocalValue) (register : Bool) → 0 < s.scopes.depth → ArePlaced s → GrowsBy IsConstant H (local_entered s name l register) u
    → ArePlaced (local_completed s (length s.scopes.entities) new register u)
completed_placed {H} s u name l new register inner p g i e h =
    by (get_either (s.scopes.ordinary ++ (name, record { place = length s.scopes.entities; depth = s.scopes.depth }) ∷ []) g.more i e (subst (λ xs. slice_get xs i ≡ Some e) g.ordinary h))
  where
    x : Entity
    x = LocalObject (length s.body.locals) new.ty register

    there : slice_get u.scopes.entities (length s.scopes.entities) ≡ Some (LocalObject (length s.body.locals) l.ty register)
    there = g.entities (length s.scopes.entities) (LocalObject (length s.body.locals) l.ty register) (get_last s.scopes.entities (LocalObject (length s.body.locals) l.ty register))

    locals : u.body.locals ≡ s.body.locals ++ l ∷ []
    locals = ap (λ b. b.locals) g.body

    placed : (depth : ℕ) → 0 < depth → IsPlaced (put_at (length s.body.locals) new u.body.locals) depth x
    placed depth deep = (
      (
        new,
        put_same (length s.body.locals) new u.body.locals (get_within u.body.locals (length s.body.locals) l (subst (λ xs. slice_get xs (length s.body.locals) ≡ Some l) (sym locals) (get_last s.body.locals l))),
        refl,
      ),
      deep,
    )

    longer : Longer s.body.locals (put_at (length s.body.locals) new u.body.locals)
    longer = longer_put s.body.locals u.body.locals new (λ j y f. subst (λ xs. slice_get xs j ≡ Some y) (sym locals) (get_append s.body.locals (l ∷ []) j y f))

    at : (depth place : ℕ) (y : Entity) → slice_get u.scopes.entities place ≡ Some y → IsPlaced (put_at (length s.body.locals) new u.body.locals) depth y
        → HasEntity (IsPlaced (put_at (length s.body.locals) new u.body.locals) depth) (local_completed s (length s.scopes.entities) new register u) place
    at depth place y f good = or (put_either (length s.scopes.entities) x u.scopes.entities place)
      where
        or : ((place ≡ length s.scopes.entities) × (slice_get (put_at (length s.scopes.entities) x u.scopes.entities) place ≡ Some x)) ⊎ (slice_get (put_at (length s.scopes.entities) x u.scopes.entities) place ≡ slice_get u.scopes.entities place)
            → HasEntity (IsPlaced (put_at (length s.body.locals) new u.body.locals) depth) (local_completed s (length s.scopes.entities) new register u) place
        or (inl k) =
            let was = some_same (sym (subst (λ n. slice_get u.scopes.entities n ≡ Some y) k.0 f) ∙ there) in
            let deep = subst (IsPlaced (put_at (length s.body.locals) new u.body.locals) depth) was good in
            (x, k.1, placed depth deep.1)
        or (inr k) = (y, k ∙ f, good)

    newest : ((name, record { place = length s.scopes.entities; depth = s.scopes.depth }) ≡ e) → HasEntity (IsPlaced (put_at (length s.body.locals) new u.body.locals) e.1.depth) (local_completed s (length s.scopes.entities) new register u) e.1.place
    newest same =
        subst (λ (y : List ℕ × Entry). HasEntity (IsPlaced (put_at (length s.body.locals) new u.body.locals) y.1.depth) (local_completed s (length s.scopes.entities) new register u) y.1.place) same (
          x,
          put_same (length s.scopes.entities) x u.scopes.entities (get_within u.scopes.entities (length s.scopes.entities) (LocalObject (length s.body.locals) l.ty register) there),
          placed s.scopes.depth inner,
        )

    before : (slice_get s.scopes.ordinary i ≡ Some e) ⊎ ((i ≡ length s.scopes.ordinary) × ((name, record { place = length s.scopes.entities; depth = s.scopes.depth }) ≡ e))
        → HasEntity (IsPlaced (put_at (length s.body.locals) new u.body.locals) e.1.depth) (local_completed s (length s.scopes.entities) new register u) e.1.place
    before (inl f) =
        let y = p i e f in
        at e.1.depth e.1.place y.0 (g.entities e.1.place y.0 (get_append s.scopes.entities (LocalObject (length s.body.locals) l.ty register ∷ []) e.1.place y.0 y.1))
        (placed_longer s.body.locals (put_at (length s.body.locals) new u.body.locals) longer e.1.depth y.0 y.2)
    before (inr f) = newest f.1

    by : (slice_get (s.scopes.ordinary ++ (name, record { place = length s.scopes.entities; depth = s.scopes.depth }) ∷ []) i ≡ Some e) ⊎ ((j : ℕ) × (slice_get g.more j ≡ Some e))
        → HasEntity (IsPlaced (put_at (length s.body.locals) new u.body.locals) e.1.depth) (local_completed s (length s.scopes.entities) new register u) e.1.place
    by (inl f) = before (get_more s.scopes.ordinary (name, record { place = length s.scopes.entities; depth = s.scopes.depth }) i e f)
    by (inr f) = let y = g.entered f.0 e f.1 in at e.1.depth e.1.place y.0 y.1 (constant_placed (put_at (length s.body.locals) new u.body.locals) e.1.depth y.0 y.2)
