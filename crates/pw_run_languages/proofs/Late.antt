-- Logs that may be behind by loads and stores: with runs that refine, before and behind; in what is shown of calls they
-- are not behind; and what holds of earlier logs holds of them.
use Rattle.std.specs.Prelude.{ℕ, ◌≡◌, Bool, false, if◌then◌else◌, List, [], ◌∷◌}
use Rattle.std.proofs.Common.{arith, subst, sym, ap, refl, ◌∙◌}
use Rattle.pw_run.specs.Runs.{Stage, Going, Over, Wrong, AreAlike, none, also, GoesOn, EndsSo, Met, Refines, Through, Same}
use Rattle.pw_run.proofs.Composition.{alike_twice, same_twice}
use Rattle.pw_run_languages.specs.Traces.{Event, Called, Refused, Returned, Loaded, Stored, SameKind, call, refusal, return, load, store, is_shown, calls_alone, calls_of, shown_by}
use Rattle.pw_run_languages.specs.Meeting.{MetWith}
use Rattle.pw_run_languages.specs.Late.{IsAccess, Lately, level, ahead, GoesLately, MetLately, RefinesLately}
use Rattle.pw_run_languages.proofs.Likeness.{kind_of_itself, calls_refine}

-- ---- as refinement

late_by : {B C V W : Type 0} (F : Event B V → Event C W → Type 0) (s : Stage (Event B V)) (b : ℕ → Stage (Event C W)) → Met F s b → MetLately F s b
late_by F (Going v) b p = record {
  at = p.at;
  view = p.view;
  is = p.is;
  output = p.same.output;
  read = p.same.read;
  log = level v.log p.view.log p.same.log;
  counted = p.counted;
}
late_by F (Over end v) b p = p
late_by F Wrong b p = tt

-- nothing is behind in a run that refines
pub refines_is_late : {B C V W : Type 0} (F : Event B V → Event C W → Type 0) (a : ℕ → Stage (Event B V)) (b : ℕ → Stage (Event C W)) → Refines F a b → RefinesLately F a b
refines_is_late F a b r = λ n. late_by F (a n) b (r n)

alike_itself : {M : Type 0} (l : List M) → AreAlike Same l l
alike_itself [] = none
alike_itself (e ∷ l) = also e e l l refl (alike_itself l)

met_itself : {B V : Type 0} (s : Stage (Event B V)) (b : ℕ → Stage (Event B V)) (n : ℕ) → b n ≡ s → MetLately Same s b
met_itself (Going v) b n e = record { at = n; view = v; is = e; output = refl; read = refl; log = level v.log v.log (alike_itself v.log); counted = omega arith }
met_itself (Over end v) b n e = record { at = n; view = v; is = e; same = record { output = refl; read = refl; log = alike_itself v.log }; counted = omega arith }
met_itself Wrong b n e = tt

pub late_itself : {B V : Type 0} (a : ℕ → Stage (Event B V)) → RefinesLately Same a a
late_itself a n = met_itself (a n) a n refl

-- ---- on to a run that refines

logs_then : {A B C U V W : Type 0} (F : Event A U → Event B V → Type 0) (G : Event B V → Event C W → Type 0) (l : List (Event A U)) (m : List (Event B V)) (n : List (Event C W))
    → Lately F l m → AreAlike G m n → Lately (Through F G) l n
logs_then F G l m n (level l' m' p) q = level l n (alike_twice l m n p q)
logs_then F G l m n (ahead e l' m' access p) q = ahead e l' n access (logs_then F G l' m n p q)

met_then : {A B C U V W : Type 0} (F : Event A U → Event B V → Type 0) (G : Event B V → Event C W → Type 0) (s : Stage (Event A U)) (b : ℕ → Stage (Event B V)) (c : ℕ → Stage (Event C W))
    → MetLately F s b → Refines G b c → MetLately (Through F G) s c
met_then F G (Going v) b c p r =
    let q : GoesOn G p.view c = subst (λ s. Met G s c) p.is (r p.at) in record {
      at = q.at;
      view = q.view;
      is = q.is;
      output = p.output ∙ q.same.output;
      read = p.read ∙ q.same.read;
      log = logs_then F G v.log p.view.log q.view.log p.log q.same.log;
      counted = omega (arith, p.counted, q.counted);
    }
met_then F G (Over end v) b c p r =
    let q : EndsSo G end p.view c = subst (λ s. Met G s c) p.is (r p.at) in record {
      at = q.at;
      view = q.view;
      is = q.is;
      same = same_twice v p.view q.view p.same q.same;
      counted = omega (arith, p.counted, q.counted);
    }
met_then F G Wrong b c p r = tt

pub late_then : {A B C U V W : Type 0} (F : Event A U → Event B V → Type 0) (G : Event B V → Event C W → Type 0)
    (a : ℕ → Stage (Event A U)) (b : ℕ → Stage (Event B V)) (c : ℕ → Stage (Event C W))
    → RefinesLately F a b → Refines G b c → RefinesLately (Through F G) a c
late_then F G a b c p r = λ n. met_then F G (a n) b c (p n) r

-- where both are the same but for what is late, so are they one after another
same_logs : {M : Type 0} (l m : List M) → AreAlike (Through Same Same) l m → AreAlike Same l m
same_logs l m none = none
same_logs l m (also x y xs ys p q) = also x y xs ys (p.first ∙ p.second) (same_logs xs ys q)

same_late : {B V : Type 0} (l m : List (Event B V)) → Lately (Through Same Same) l m → Lately Same l m
same_late l m (level l' m' p) = level l m (same_logs l m p)
same_late l m (ahead e l' m' access p) = ahead e l' m access (same_late l' m p)

same_met : {B V : Type 0} (s : Stage (Event B V)) (b : ℕ → Stage (Event B V)) → MetLately (Through Same Same) s b → MetLately Same s b
same_met (Going v) b p = record {
  at = p.at;
  view = p.view;
  is = p.is;
  output = p.output;
  read = p.read;
  log = same_late v.log p.view.log p.log;
  counted = p.counted;
}
same_met (Over end v) b p = record {
  at = p.at;
  view = p.view;
  is = p.is;
  same = record { output = p.same.output; read = p.same.read; log = same_logs v.log p.view.log p.same.log };
  counted = p.counted;
}
same_met Wrong b p = tt

pub late_same : {B V : Type 0} (a b c : ℕ → Stage (Event B V)) → RefinesLately Same a b → Refines Same b c → RefinesLately Same a c
late_same a b c p r n = same_met (a n) c (late_then Same Same a b c p r n)

-- ---- from a run that is refined

same_access : {A B U V : Type 0} (e : Event A U) (f : Event B V) → SameKind e f → IsAccess f → IsAccess e
same_access e f (call g gs hs rs ss) h = h
same_access e f (refusal g) h = h
same_access e f (return g k gs hs rs ss ts us) h = h
same_access e f (load v) h = h
same_access e f (store v) h = h

then_logs : {A B C U V W : Type 0} (F : Event A U → Event B V → Type 0) (G : Event B V → Event C W → Type 0) → ((e : Event A U) (f : Event B V) → F e f → SameKind e f)
    → (l : List (Event A U)) (m : List (Event B V)) (n : List (Event C W)) → Lately G m n → AreAlike F l m → Lately (Through F G) l n
then_logs F G kind l m n (level m' n' q) p = level l n (alike_twice l m n p q)
then_logs F G kind l m n (ahead f m' n' access q) (also e _ l' _ same p) = ahead e l' n (same_access e f (kind e f same) access) (then_logs F G kind l' m' n q p)

then_met : {A B C U V W : Type 0} (F : Event A U → Event B V → Type 0) (G : Event B V → Event C W → Type 0) → ((e : Event A U) (f : Event B V) → F e f → SameKind e f)
    → (s : Stage (Event A U)) (b : ℕ → Stage (Event B V)) (c : ℕ → Stage (Event C W)) → Met F s b → RefinesLately G b c → MetLately (Through F G) s c
then_met F G kind (Going v) b c p r =
    let q : GoesLately G p.view c = subst (λ s. MetLately G s c) p.is (r p.at) in record {
      at = q.at;
      view = q.view;
      is = q.is;
      output = p.same.output ∙ q.output;
      read = p.same.read ∙ q.read;
      log = then_logs F G kind v.log p.view.log q.view.log q.log p.same.log;
      counted = omega (arith, p.counted, q.counted);
    }
then_met F G kind (Over end v) b c p r =
    let q : EndsSo G end p.view c = subst (λ s. MetLately G s c) p.is (r p.at) in record {
      at = q.at;
      view = q.view;
      is = q.is;
      same = same_twice v p.view q.view p.same q.same;
      counted = omega (arith, p.counted, q.counted);
    }
then_met F G kind Wrong b c p r = tt

pub then_late : {A B C U V W : Type 0} (F : Event A U → Event B V → Type 0) (G : Event B V → Event C W → Type 0) → ((e : Event A U) (f : Event B V) → F e f → SameKind e f)
    → (a : ℕ → Stage (Event A U)) (b : ℕ → Stage (Event B V)) (c : ℕ → Stage (Event C W)) → Refines F a b → RefinesLately G b c → RefinesLately (Through F G) a c
then_late F G kind a b c p r = λ n. then_met F G kind (a n) b c (p n) r

-- ---- calls

not_shown : {B V : Type 0} (e : Event B V) → IsAccess e → is_shown e ≡ false
not_shown (Loaded v) h = refl
not_shown (Stored v) h = refl
not_shown (Called f gs rs) h = absurd h
not_shown (Refused f) h = absurd h
not_shown (Returned f k gs rs ss) h = absurd h

-- what is shown of like logs is alike: as of two runs that have these logs at each stage
as_run : {B V : Type 0} → List (Event B V) → ℕ → Stage (Event B V)
as_run l n = Going (record { output = []; read = 0; events = 0; log = l })

log_at : {M : Type 0} → Stage M → List M
log_at (Going v) = v.log
log_at (Over end v) = v.log
log_at Wrong = []

calls_alike : {B C V W : Type 0} (F : Event B V → Event C W → Type 0) → ((e : Event B V) (f : Event C W) → F e f → SameKind e f)
    → (l : List (Event B V)) (m : List (Event C W)) → AreAlike F l m → AreAlike F (calls_alone l) (calls_alone m)
unfolding as_run log_at
calls_alike F kind l m p =
    let q : GoesOn F (record { output = []; read = 0; events = 0; log = calls_alone l }) (calls_of (as_run m)) = calls_refine F kind (as_run l) (as_run m)
    (λ n. record { at = 0; view = record { output = []; read = 0; events = 0; log = m }; is = refl; same = record { output = refl; read = refl; log = p }; counted = omega arith }) 0 in
    subst (λ k. AreAlike F (calls_alone l) k) (sym (ap log_at q.is)) q.same.log

-- loads and stores are not shown
calls_level : {B C V W : Type 0} (F : Event B V → Event C W → Type 0) → ((e : Event B V) (f : Event C W) → F e f → SameKind e f)
    → (l : List (Event B V)) (m : List (Event C W)) → Lately F l m → AreAlike F (calls_alone l) (calls_alone m)
calls_level F kind l m (level l' m' p) = calls_alike F kind l m p
calls_level F kind l m (ahead e l' m' access p) =
    subst (λ k. AreAlike F k (calls_alone m)) (sym (ap (λ (b : Bool). if b then e ∷ calls_alone l' else calls_alone l') (not_shown e access))) (calls_level F kind l' m p)

calls_met : {B C V W : Type 0} (F : Event B V → Event C W → Type 0) → ((e : Event B V) (f : Event C W) → F e f → SameKind e f)
    → (s : Stage (Event B V)) (b : ℕ → Stage (Event C W)) → MetLately F s b → Met F (shown_by calls_alone s) (calls_of b)
calls_met F kind (Going v) b p = record {
  at = p.at;
  view = record { output = p.view.output; read = p.view.read; events = p.view.events; log = calls_alone p.view.log };
  is = ap (shown_by calls_alone) p.is;
  same = record { output = p.output; read = p.read; log = calls_level F kind v.log p.view.log p.log };
  counted = p.counted;
}
calls_met F kind (Over end v) b p = record {
  at = p.at;
  view = record { output = p.view.output; read = p.view.read; events = p.view.events; log = calls_alone p.view.log };
  is = ap (shown_by calls_alone) p.is;
  same = record { output = p.same.output; read = p.same.read; log = calls_alike F kind v.log p.view.log p.same.log };
  counted = p.counted;
}
calls_met F kind Wrong b p = tt

-- the calls of a run that is late refine those of the run above it
pub calls_in_time : {B C V W : Type 0} (F : Event B V → Event C W → Type 0) → ((e : Event B V) (f : Event C W) → F e f → SameKind e f)
    → (a : ℕ → Stage (Event B V)) (b : ℕ → Stage (Event C W)) → RefinesLately F a b → Refines F (calls_of a) (calls_of b)
calls_in_time F kind a b p = λ n. calls_met F kind (a n) b (p n)

-- ---- what holds of earlier logs too

late_holds : {B C V W : Type 0} (F : Event B V → Event C W → Type 0) (P : List (Event B V) → Type 0) (Q : List (Event C W) → Type 0)
    → ((l : List (Event B V)) (k : List (Event C W)) → AreAlike F l k → P l → Q k) → ((e : Event B V) (l : List (Event B V)) → P (e ∷ l) → P l)
    → (l : List (Event B V)) (k : List (Event C W)) → Lately F l k → P l → Q k
late_holds F P Q h earlier l k (level l' k' p) holds = h l k p holds
late_holds F P Q h earlier l k (ahead e l' k' access p) holds = late_holds F P Q h earlier l' k p (earlier e l' holds)

pub carried_late : {L B C V W : Type 0} (F : Event B V → Event C W → Type 0) (P : List (Event B V) → Type 0) (Q : List (Event C W) → Type 0)
    → ((l : List (Event B V)) (k : List (Event C W)) → AreAlike F l k → P l → Q k) → ((e : Event B V) (l : List (Event B V)) → P (e ∷ l) → P l)
    → (s : Stage L) (b : ℕ → Stage (Event B V)) (c : ℕ → Stage (Event C W)) → RefinesLately F b c → MetWith P s b → MetWith Q s c
carried_late F P Q h earlier (Going v) b c r p =
    let m : GoesLately F p.view c = subst (λ s. MetLately F s c) p.is (r p.at) in record {
      at = m.at;
      view = m.view;
      is = m.is;
      counted = omega (arith, p.counted, m.counted);
      holds = late_holds F P Q h earlier p.view.log m.view.log m.log p.holds;
    }
carried_late F P Q h earlier (Over end v) b c r p =
    let m : EndsSo F end p.view c = subst (λ s. MetLately F s c) p.is (r p.at) in record {
      at = m.at;
      view = m.view;
      is = m.is;
      holds = h p.view.log m.view.log m.same.log p.holds;
    }
carried_late F P Q h earlier Wrong b c r p = tt

-- ---- of words

pub same_kind : (e f : Event ℕ ℕ) → Same e f → SameKind e f
same_kind e f p = subst (λ f. SameKind e f) p (kind_of_itself e)
