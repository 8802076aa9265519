-- The traffic law looks at what happened alone: of like logs it holds alike.
use Rattle.std.specs.Prelude.{ℕ, zero, suc, ◌≡◌, ◌<◌, List, [], ◌∷◌, map, Contains}
use Rattle.std.proofs.Common.{arith, subst, sym, refl, inl, inr}
use Rattle.std.proofs.lemmas.List.Elements.{Contains-append_left, Contains-append_right, Contains-append_cases, Contains-push_cases}
use Rattle.pw_db.specs.declared.database.Directives.{Directives}
use Rattle.pw_run.specs.Runs.{AreAlike, none, also}
use Rattle.pw_db_sound.specs.CallGraphs.{Graph, Calls, SayTheSame}
use Rattle.pw_db_sound.proofs.Relations.{references_back}
use Rattle.pw_run_languages.specs.Traces.{Event, Called, Refused, Returned, Loaded, Stored, SameKind, call, refusal, return, load, store}
use Rattle.pw_run_languages.specs.Calls.{IsCalledBy, FollowsCalls}
use Rattle.pw_run_languages.specs.Traffic.{Open, with_event, active, without, Enters, IsCovered, StandsInEntry, OnlyWhereWritten, NoneHasStored, Obeys, ObeysTraffic}

-- ---- elements of like lists

record Partner {M N : Type 0} (F : M → N → Type 0) (xs : List M) (y : N) : Type 0 where
  is : M
  there : Contains xs is
  alike : F is y

partner : {M N : Type 0} (F : M → N → Type 0) (xs : List M) (ys : List N) (y : N) → AreAlike F xs ys → Contains ys y → Partner F xs y
partner F xs ys y none c = absurd (let h : c.0 < 0 = c.1 in omega (arith, h))
partner F xs ys y (also m n ms ns p q) c = elim (Contains-append_cases (n ∷ []) ns y c) [
  | inl first ↦ elim (Contains-push_cases [] n y first) [
    | inl nowhere ↦ absurd (let h : nowhere.0 < 0 = nowhere.1 in omega (arith, h))
    | inr e ↦ record { is = m; there = Contains-append_left (m ∷ []) ms m (0, omega arith, refl); alike = subst (F m) e p }
  ]
  | inr later ↦ let h = partner F ms ns y q later in
      record { is = h.is; there = Contains-append_right (m ∷ []) ms h.is h.there; alike = h.alike }
]

turned : {M N : Type 0} (F : M → N → Type 0) (xs : List M) (ys : List N) → AreAlike F xs ys → AreAlike (λ n m. F m n) ys xs
turned F xs ys none = none
turned F xs ys (also m n ms ns p q) = also n m ns ms p (turned F ms ns q)

-- ---- active calls

record OpenAlike {B C V W : Type 0} (a : Open B V) (b : Open C W) : Type 0 where
  function : a.function ≡ b.function
  inside : AreAlike SameKind a.inside b.inside

with_alike : {B C V W : Type 0} (e : Event B V) (f : Event C W) → SameKind e f → (xs : List (Open B V)) (ys : List (Open C W))
    → AreAlike OpenAlike xs ys → AreAlike OpenAlike (map (with_event e) xs) (map (with_event f) ys)
with_alike e f k xs ys none = none
with_alike e f k xs ys (also x y xs' ys' p q) =
    also (with_event e x) (with_event f y) (map (with_event e) xs') (map (with_event f) ys')
    (record { function = p.function; inside = also e f x.inside y.inside k p.inside }) (with_alike e f k xs' ys' q)

without_alike : {M N : Type 0} (F : M → N → Type 0) (k : ℕ) (xs : List M) (ys : List N) → AreAlike F xs ys → AreAlike F (without k xs) (without k ys)
without_alike F k xs ys none = none
without_alike F zero xs ys (also m n ms ns p q) = q
without_alike F (suc k) xs ys (also m n ms ns p q) = also m n (without k ms) (without k ns) p (without_alike F k ms ns q)

active_alike : {B C V W : Type 0} (l : List (Event B V)) (m : List (Event C W)) → AreAlike SameKind l m → AreAlike OpenAlike (active l) (active m)
active_alike l m none = none
active_alike l m (also e f l' m' (call g gs hs rs ss) q) =
    also _ _ _ _ (record { function = refl; inside = none }) (with_alike e f (call g gs hs rs ss) (active l') (active m') (active_alike l' m' q))
active_alike l m (also e f l' m' (return g k gs hs rs ss ts us) q) =
    with_alike e f (return g k gs hs rs ss ts us) (without k (active l')) (without k (active m')) (without_alike OpenAlike k (active l') (active m') (active_alike l' m' q))
active_alike l m (also e f l' m' (refusal g) q) = with_alike e f (refusal g) (active l') (active m') (active_alike l' m' q)
active_alike l m (also e f l' m' (load v) q) = with_alike e f (load v) (active l') (active m') (active_alike l' m' q)
active_alike l m (also e f l' m' (store v) q) = with_alike e f (store v) (active l') (active m') (active_alike l' m' q)

-- ---- the law

is_loaded : {B C V W : Type 0} (v : List ℕ) (e : Event B V) → SameKind {B = B} {C = C} {V = V} {W = W} e (Loaded v) → e ≡ Loaded v
is_loaded v e (load _) = refl

is_stored : {B C V W : Type 0} (v : List ℕ) (e : Event B V) → SameKind {B = B} {C = C} {V = V} {W = W} e (Stored v) → e ≡ Stored v
is_stored v e (store _) = refl

loaded_there : {B C V W : Type 0} (v : List ℕ) (l : List (Event B V)) (m : List (Event C W)) → AreAlike SameKind l m → Contains m (Loaded v) → Contains l (Loaded v)
loaded_there v l m a c = let h = partner SameKind l m (Loaded v) a c in subst (Contains l) (is_loaded v h.is h.alike) h.there

stored_there : {B C V W : Type 0} (v : List ℕ) (l : List (Event B V)) (m : List (Event C W)) → AreAlike SameKind l m → Contains m (Stored v) → Contains l (Stored v)
stored_there v l m a c = let h = partner SameKind l m (Stored v) a c in subst (Contains l) (is_stored v h.is h.alike) h.there

stands_alike : {B C V W : Type 0} (d : List (List ℕ × Directives)) (v : List ℕ) (e : Event B V) (f : Event C W) (xs : List (Open B V)) (ys : List (Open C W))
    → AreAlike OpenAlike xs ys → ((l : List (Event B V)) (m : List (Event C W)) → AreAlike SameKind l m → Contains m f → Contains l e)
    → StandsInEntry d v e xs → StandsInEntry d v f ys
stands_alike d v e f xs ys a there s =
    let h = partner (λ n m. OpenAlike m n) ys xs s.call (turned OpenAlike xs ys a) s.is_active in record {
      call = h.is;
      is_active = h.there;
      web = s.web;
      entry = subst (Enters d s.web v) h.alike.function s.entry;
      once = λ c w within enters has. let k = partner OpenAlike xs ys c a within in
          s.once k.is w k.there (subst (Enters d w v) (sym k.alike.function) enters) (there k.is.inside c.inside k.alike.inside has);
    }

written_alike : {B C V W : Type 0} (d : List (List ℕ × Directives)) (v : List ℕ) (xs : List (Open B V)) (ys : List (Open C W))
    → AreAlike OpenAlike xs ys → OnlyWhereWritten d v xs → OnlyWhereWritten d v ys
written_alike d v xs ys a s = λ c w within enters. let k = partner OpenAlike xs ys c a within in
    s k.is w k.there (subst (Enters d w v) (sym k.alike.function) enters)

none_alike : {B C V W : Type 0} (d : List (List ℕ × Directives)) (v : List ℕ) (xs : List (Open B V)) (ys : List (Open C W))
    → AreAlike OpenAlike xs ys → NoneHasStored d v xs → NoneHasStored d v ys
none_alike d v xs ys a s = λ c w within enters has. let k = partner OpenAlike xs ys c a within in
    s k.is w k.there (subst (Enters d w v) (sym k.alike.function) enters) (stored_there v k.is.inside c.inside k.alike.inside has)

obeys_alike : {B C V W : Type 0} (g : Graph) (d : List (List ℕ × Directives)) (e : Event B V) (f : Event C W) (xs : List (Open B V)) (ys : List (Open C W))
    → SameKind e f → AreAlike OpenAlike xs ys → Obeys g d e xs → Obeys g d f ys
obeys_alike g d e f xs ys (call h gs hs rs ss) a o = λ v covered. none_alike d v xs ys a (o v covered)
obeys_alike g d e f xs ys (refusal h) a o = λ v covered. none_alike d v xs ys a (o v covered)
obeys_alike g d e f xs ys (return h k gs hs rs ss ts us) a o = tt
obeys_alike g d e f xs ys (load v) a o = λ covered. stands_alike d v e f xs ys a (loaded_there v) (o covered)
obeys_alike g d e f xs ys (store v) a o = λ covered.
    (stands_alike d v e f xs ys a (stored_there v) (o covered).0, written_alike d v xs ys a (o covered).1)

-- of like logs the law holds alike
pub traffic_alike : {B C V W : Type 0} (g : Graph) (d : List (List ℕ × Directives)) (l : List (Event B V)) (m : List (Event C W))
    → AreAlike SameKind l m → ObeysTraffic g d l → ObeysTraffic g d m
traffic_alike g d l m none o = tt
traffic_alike g d l m (also e f l' m' k a) o =
    (obeys_alike g d e f (active l') (active m') k (active_alike l' m' a) o.0, traffic_alike g d l' m' a o.1)

-- ---- calls of the graph

called_alike : {B C V W : Type 0} (g : Graph) (f : List ℕ) (xs : List (Open B V)) (ys : List (Open C W)) → AreAlike OpenAlike xs ys → IsCalledBy g f xs → IsCalledBy g f ys
called_alike g f xs ys none c = c
called_alike g f xs ys (also x y xs' ys' p q) c = subst (λ (n : List ℕ). Calls g n f) p.function c

-- of like logs the calls are alike those of the graph
pub follows_alike : {B C V W : Type 0} (g : Graph) (l : List (Event B V)) (m : List (Event C W)) → AreAlike SameKind l m → FollowsCalls g l → FollowsCalls g m
follows_alike g l m none o = tt
follows_alike g l m (also e f l' m' (call h gs hs rs ss) a) o =
    (called_alike g h (active l') (active m') (active_alike l' m' a) o.0, follows_alike g l' m' a o.1)
follows_alike g l m (also e f l' m' (refusal h) a) o =
    (called_alike g h (active l') (active m') (active_alike l' m' a) o.0, follows_alike g l' m' a o.1)
follows_alike g l m (also e f l' m' (return h k gs hs rs ss ts us) a) o = follows_alike g l' m' a o
follows_alike g l m (also e f l' m' (load v) a) o = follows_alike g l' m' a o
follows_alike g l m (also e f l' m' (store v) a) o = follows_alike g l' m' a o

-- ---- another graph that says the same

covered_again : (g h : Graph) (d : List (List ℕ × Directives)) → SayTheSame g h → (v : List ℕ) → IsCovered g d v → IsCovered h d v
covered_again g h d s v c = record {
  kind = c.kind;
  eligible = (s.eligible v c.kind).0 c.eligible;
  each = λ f refers. c.each f (references_back g h s f v refers);
}

obeys_again : {B V : Type 0} (g h : Graph) (d : List (List ℕ × Directives)) → SayTheSame g h
    → (e : Event B V) (calls : List (Open B V)) → Obeys h d e calls → Obeys g d e calls
obeys_again g h d s (Called f gs rs) calls o = λ v c. o v (covered_again g h d s v c)
obeys_again g h d s (Refused f) calls o = λ v c. o v (covered_again g h d s v c)
obeys_again g h d s (Returned f k gs rs ss) calls o = tt
obeys_again g h d s (Loaded v) calls o = λ c. o (covered_again g h d s v c)
obeys_again g h d s (Stored v) calls o = λ c. o (covered_again g h d s v c)

pub traffic_again : {B V : Type 0} (g h : Graph) (d : List (List ℕ × Directives)) → SayTheSame g h
    → (l : List (Event B V)) → ObeysTraffic h d l → ObeysTraffic g d l
traffic_again g h d s [] o = tt
traffic_again g h d s (e ∷ l) o = (obeys_again g h d s e (active l) o.0, traffic_again g h d s l o.1)
