-- Likeness of events and of logs: what is shown of like logs is alike.
use Rattle.std.specs.Prelude.{ℕ, ◌≡◌, Bool, true, false, if◌then◌else◌, List, ◌∷◌}
use Rattle.std.proofs.Common.{subst, ap, refl}
use Rattle.pw_run.specs.Runs.{Stage, Going, Over, Wrong, AreAlike, none, also, Met, Refines}
use Rattle.pw_run_languages.specs.Traces.{Event, Called, Refused, Returned, Loaded, Stored, EventAlike, called, refused, returned, loaded, stored, SameKind, call, refusal, return, load, store, is_shown, calls_alone, calls_of, shown_by}

-- like events are the same event
pub kind_of_alike : {B C V W : Type 0} (Byte : B → C → Type 0) (Word : V → W → Type 0) (e : Event B V) (f : Event C W)
    → EventAlike Byte Word e f → SameKind e f
kind_of_alike Byte Word e f (called g gs hs rs ss a) = call g gs hs rs ss
kind_of_alike Byte Word e f (refused g) = refusal g
kind_of_alike Byte Word e f (returned g k gs hs rs ss ts us a) = return g k gs hs rs ss ts us
kind_of_alike Byte Word e f (loaded v) = load v
kind_of_alike Byte Word e f (stored v) = store v

pub kind_of_itself : {B V : Type 0} (e : Event B V) → SameKind e e
kind_of_itself (Called f gs rs) = call f gs gs rs rs
kind_of_itself (Refused f) = refusal f
kind_of_itself (Returned f k gs rs ss) = return f k gs gs rs ss rs ss
kind_of_itself (Loaded v) = load v
kind_of_itself (Stored v) = store v

shown_alike : {B C V W : Type 0} (e : Event B V) (f : Event C W) → SameKind e f → is_shown e ≡ is_shown f
shown_alike e f (call g gs hs rs ss) = refl
shown_alike e f (refusal g) = refl
shown_alike e f (return g k gs hs rs ss ts us) = refl
shown_alike e f (load v) = refl
shown_alike e f (store v) = refl

-- one event on top, where it is shown
on_top : {M N : Type 0} (F : M → N → Type 0) (b : Bool) (e : M) (f : N) (l : List M) (m : List N)
    → F e f → AreAlike F l m → AreAlike F (if b then e ∷ l else l) (if b then f ∷ m else m)
on_top F true e f l m p q = also e f l m p q
on_top F false e f l m p q = q

calls_alike : {B C V W : Type 0} (F : Event B V → Event C W → Type 0) → ((e : Event B V) (f : Event C W) → F e f → SameKind e f)
    → (l : List (Event B V)) (m : List (Event C W)) → AreAlike F l m → AreAlike F (calls_alone l) (calls_alone m)
calls_alike F kind l m none = none
calls_alike F kind l m (also e f l' m' p q) =
    subst (λ b. AreAlike F (if is_shown e then e ∷ calls_alone l' else calls_alone l') (if b then f ∷ calls_alone m' else calls_alone m'))
    (shown_alike e f (kind e f p))
    (on_top F (is_shown e) e f (calls_alone l') (calls_alone m') p (calls_alike F kind l' m' q))

-- what is shown of a run meets what is shown of another that the run refines
pub met_shown : {M N K L : Type 0} (F : M → N → Type 0) (G : K → L → Type 0) (f : List M → List K) (g : List N → List L)
    → ((l : List M) (m : List N) → AreAlike F l m → AreAlike G (f l) (g m))
    → (s : Stage M) (b : ℕ → Stage N) → Met F s b → Met G (shown_by f s) (λ n. shown_by g (b n))
met_shown F G f g h (Going v) b p = record {
  at = p.at;
  view = record { output = p.view.output; read = p.view.read; events = p.view.events; log = g p.view.log };
  is = ap (shown_by g) p.is;
  same = record { output = p.same.output; read = p.same.read; log = h v.log p.view.log p.same.log };
  counted = p.counted;
}
met_shown F G f g h (Over end v) b p = record {
  at = p.at;
  view = record { output = p.view.output; read = p.view.read; events = p.view.events; log = g p.view.log };
  is = ap (shown_by g) p.is;
  same = record { output = p.same.output; read = p.same.read; log = h v.log p.view.log p.same.log };
  counted = p.counted;
}
met_shown F G f g h Wrong b p = tt

-- where a run refines another, its calls refine the other's
pub calls_refine : {B C V W : Type 0} (F : Event B V → Event C W → Type 0) → ((e : Event B V) (f : Event C W) → F e f → SameKind e f)
    → (a : ℕ → Stage (Event B V)) (b : ℕ → Stage (Event C W)) → Refines F a b → Refines F (calls_of a) (calls_of b)
calls_refine F kind a b p = λ n. met_shown F F calls_alone calls_alone (calls_alike F kind) (a n) b (p n)
