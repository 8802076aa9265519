-- Stages and logs that are alike, and how many calls and returns of the source's functions stand in a log.
use Rattle.std.proofs.Common.{◌≡◌, ℕ, suc, ◌+◌, Bool, true, false, if◌then◌else◌, List, [], ◌∷◌, ◌++◌, length, refl, sym, ap, subst, ◌∙◌, arith}
use Rattle.std.proofs.lemmas.List.{length-append}
use Rattle.pw_run.specs.Runs.{AreAlike, Going, Met, Over, Stage, StackFull, View, Wrong, End, none, also}
use Rattle.pw_run_languages.specs.Traces.{Event, SameKind, call, calls_alone, is_shown, load, refusal, return, store}
use Rattle.pw_law_refused.specs.Refused.{HasShown}

-- ---- stages

-- a stage that has shown this meets one that has shown the like
pub record ShowsAlike {M N : Type 0} (F : M → N → Type 0) (log : List M) (b : ℕ → Stage N) : Type 0 where
  pub at : ℕ
  pub view : View N
  pub shown : HasShown (b at) view
  pub alike : AreAlike F log view.log

shown_going : {N : Type 0} (s : Stage N) (v : View N) → s ≡ Going v → HasShown s v
shown_going s v e = subst (λ t. HasShown t v) (sym e) refl

shown_over : {N : Type 0} (s : Stage N) (end : End) (v : View N) → s ≡ Over end v → HasShown s v
shown_over s end v e = subst (λ t. HasShown t v) (sym e) refl

pub shows_alike : {M N : Type 0} (F : M → N → Type 0) (s : Stage M) (view : View M) (b : ℕ → Stage N) → HasShown s view → Met F s b → ShowsAlike F view.log b
shows_alike {M} {N} F (Going v) view b is met =
    record { at = met.at; view = met.view; shown = shown_going (b met.at) met.view met.is; alike = subst (λ (w : View M). AreAlike F w.log met.view.log) is met.same.log }
shows_alike {M} {N} F (Over end v) view b is met =
    record { at = met.at; view = met.view; shown = shown_over (b met.at) end met.view met.is; alike = subst (λ (w : View M). AreAlike F w.log met.view.log) is met.same.log }
shows_alike {M} {N} F Wrong view b is met = absurd is

-- an end for want of stack meets one
pub record StopsAlike {M N : Type 0} (F : M → N → Type 0) (log : List M) (b : ℕ → Stage N) : Type 0 where
  pub at : ℕ
  pub view : View N
  pub is : b at ≡ Over StackFull view
  pub alike : AreAlike F log view.log

pub stops_alike : {M N : Type 0} (F : M → N → Type 0) (s : Stage M) (view : View M) (b : ℕ → Stage N) → s ≡ Over StackFull view → Met F s b → StopsAlike F view.log b
stops_alike F s view b is met =
    let m = subst (λ t. Met F t b) is met in
    record { at = m.at; view = m.view; is = m.is; alike = m.same.log }

-- ---- likeness

pub alike_lengths : {M N : Type 0} (F : M → N → Type 0) (xs : List M) (ys : List N) → AreAlike F xs ys → length xs ≡ length ys
alike_lengths F xs ys none = refl
alike_lengths F xs ys (also m n ms ns one rest) = let h = alike_lengths F ms ns rest in omega (arith, h)

pub alike_weaker : {M N : Type 0} (F G : M → N → Type 0) → ((m : M) (n : N) → F m n → G m n) → (xs : List M) (ys : List N) → AreAlike F xs ys → AreAlike G xs ys
alike_weaker F G weaker xs ys none = none
alike_weaker F G weaker xs ys (also m n ms ns one rest) = also m n ms ns (weaker m n one) (alike_weaker F G weaker ms ns rest)

-- of a log that is alike to a later one, the part that is alike to the earlier
pub record HasPart {M N : Type 0} (F : M → N → Type 0) (xs : List M) (ys : List N) : Type 0 where
  pub since : List M
  pub part : List M
  pub is : xs ≡ since ++ part
  pub alike : AreAlike F part ys

pub has_part : {M N : Type 0} (F : M → N → Type 0) (xs : List M) (all new ys : List N) → all ≡ new ++ ys → AreAlike F xs all → HasPart F xs ys
has_part F xs all [] ys e a = record { since = []; part = xs; is = refl; alike = subst (AreAlike F xs) e a }
has_part F xs all (y ∷ new) ys e none = absurd cc
has_part F xs all (y ∷ new) ys e (also m n ms ns one rest) =
    let same : ns ≡ new ++ ys = cc in
    let h = has_part F ms ns new ys same rest in
    record { since = m ∷ h.since; part = h.part; is = ap (λ l. m ∷ l) h.is; alike = h.alike }

-- the latest of a log that is alike to this one
pub record HasLatest {M N : Type 0} (F : M → N → Type 0) (xs : List M) (y : N) (ys : List N) : Type 0 where
  pub latest : M
  pub before : List M
  pub is : xs ≡ latest ∷ before
  pub alike : F latest y
  pub others : AreAlike F before ys

pub has_latest : {M N : Type 0} (F : M → N → Type 0) (xs : List M) (all : List N) (y : N) (ys : List N) → all ≡ y ∷ ys → AreAlike F xs all → HasLatest F xs y ys
has_latest F xs all y ys e none = absurd cc
has_latest F xs all y ys e (also m n ms ns one rest) =
    let same : n ≡ y = cc in
    let more : ns ≡ ys = cc in
    record { latest = m; before = ms; is = refl; alike = subst (F m) same one; others = subst (AreAlike F ms) more rest }

-- ---- calls and returns alone

abbrev pub shown_count : {B V : Type 0} → List (Event B V) → ℕ
shown_count log = length (calls_alone log)

alone_on : {B V : Type 0} (b : Bool) (e : Event B V) (all new old : List (Event B V)) → all ≡ new ++ old → (if b then e ∷ all else all) ≡ (if b then e ∷ new else new) ++ old
alone_on true e all new old same = ap (λ l. e ∷ l) same
alone_on false e all new old same = same

pub alone_append : {B V : Type 0} (new old : List (Event B V)) → calls_alone (new ++ old) ≡ calls_alone new ++ calls_alone old
alone_append [] old = refl
alone_append (e ∷ new) old = alone_on (is_shown e) e (calls_alone (new ++ old)) (calls_alone new) (calls_alone old) (alone_append new old)

pub counts_add : {B V : Type 0} (log new old : List (Event B V)) → log ≡ new ++ old → shown_count log ≡ shown_count new + shown_count old
counts_add log new old is = ap (λ l. length (calls_alone l)) is ∙ (ap length (alone_append new old) ∙ length-append (calls_alone new) (calls_alone old))

shown_alike : {B C V W : Type 0} (e : Event B V) (f : Event C W) → SameKind e f → is_shown e ≡ is_shown f
shown_alike e f (call g gs hs rs ss) = refl
shown_alike e f (refusal g) = refl
shown_alike e f (return g k gs hs rs ss ts us) = refl
shown_alike e f (load v) = refl
shown_alike e f (store v) = refl

counts_on : {B C V W : Type 0} (b c : Bool) (e : Event B V) (f : Event C W) (l : List (Event B V)) (m : List (Event C W)) → b ≡ c → length l ≡ length m → length (if b then e ∷ l else l) ≡ length (if c then f ∷ m else m)
counts_on true true e f l m same counts = ap (λ (n : ℕ). suc n) counts
counts_on true false e f l m same counts = absurd cc
counts_on false true e f l m same counts = absurd cc
counts_on false false e f l m same counts = counts

pub counts_alike : {B C V W : Type 0} (F : Event B V → Event C W → Type 0) → ((e : Event B V) (f : Event C W) → F e f → SameKind e f)
    → (l : List (Event B V)) (m : List (Event C W)) → AreAlike F l m → shown_count l ≡ shown_count m
counts_alike F kind l m none = refl
counts_alike F kind l m (also e f es fs one rest) = counts_on (is_shown e) (is_shown f) e f (calls_alone es) (calls_alone fs) (shown_alike e f (kind e f one)) (counts_alike F kind es fs rest)
