-- A call that answers what a walk answers, but for want of memory, tells each kind of fault exactly where the walk stops for a
-- constraint of this kind.
use Rattle.std.specs.Prelude.{ℕ, ◌≡◌, ◌≢◌, ◌⊎◌, ◌<◌, Result, Ok, Err, IfOk, IfErr, length, slice_index_or, Contains}
use Rattle.std.proofs.Common.{refl, ap, sym, ◌∙◌, subst}
use mathlib.Core.Logic.{inl, inr}
use Rattle.pw_token.specs.declared.token.Feature.{Feature}
use Rattle.pw_check_walk.specs.Answers.{Answers, Stops, AtPoint, AtEnd}
use Rattle.pw_check_walk.specs.Causes.{Constraint, kind_of}
use Rattle.pw_check_walk.specs.Walks.{Walk}
use Rattle.pw_check_walk.specs.declared.constraints.CheckFault.{CheckFault}
use Rattle.pw_check_walk.specs.declared.constraints.CheckKind.{CheckKind}
use Rattle.pw_check_walk.specs.declared.constraints.Which.{Which}
use Rattle.pw_check_walk.specs.declared.constraints.CheckKind.TheVariants.{UnknownName, Redeclared, Typing, Constant, Unsupported, Limit, NoMemory}
use Rattle.pw_check_walk.proofs.WalkLaws.{one_answer}
use Rattle.pw_check.specs.Refusals.{broken_where, RefusedFor, RefusedForOneOf, RanOut, IsMade, TellsExactly, on_names, on_declarations, on_types, on_constants, on_feature, on_limit}
use Rattle.pw_check.proofs.KindsListed.{constraints_of, listed, of_kind}

-- the fault's kind is that of the broken constraint
kind_told : {A : Type 0} (w : Walk A) (fault : CheckFault) (s : Stops w fault) → fault.kind ≡ kind_of (broken_where s)
kind_told w fault (AtPoint s) = ap (λ f. f.kind) s.told.told
kind_told w fault (AtEnd s) = ap (λ f. f.kind) s.told

-- ---- a fault that is told is for a constraint of its kind

refused_for : {A : Type 0} (w : Walk A) (fault : CheckFault) (s : Stops w fault) → RefusedFor w (broken_where s) fault.token
refused_for w fault s = record { fault = fault; stops = s; broken = refl; at = refl }

stops_for_one : {A : Type 0} (w : Walk A) (fault : CheckFault) (kind : CheckKind) → Stops w fault → fault.kind ≡ kind
    → RefusedForOneOf (constraints_of kind) w fault.token
stops_for_one w fault kind s e =
    let c = broken_where s in
    let at = subst (λ k. Contains (constraints_of k) c) (sym (kind_told w fault s) ∙ e) (listed c) in
    (at.0, c, at.1, at.2, refused_for w fault s)

-- ---- where a walk stops for a constraint, this is the fault

one_fault : {A : Type 0} (w : Walk A) (one other : CheckFault) → Stops w one → Stops w other → one ≡ other
one_fault {A = A} w one other s t = same ((one_answer w (Err one)).0 s ∙ sym ((one_answer w (Err other)).0 t))
  where
    same : ◌≡◌ {A = Result A CheckFault} (Err one) (Err other) → one ≡ other
    same e = cc

parts_are : (f : CheckFault) (kind : CheckKind) (token : ℕ) → f.kind ≡ kind → f.token ≡ token → f ≡ record { kind = kind; token = token }
parts_are f kind token e t = rw (← e, ← t) refl

one_told : {A : Type 0} (w : Walk A) (fault : CheckFault) (kind : CheckKind) (c : Constraint) (token : ℕ) → Stops w fault
    → kind_of c ≡ kind → RefusedFor w c token → fault ≡ record { kind = kind; token = token }
one_told w fault kind c token s e r =
    let same = one_fault w fault r.fault s r.stops in
    parts_are fault kind token
    (ap (λ f. f.kind) same ∙ kind_told w r.fault r.stops ∙ ap kind_of r.broken ∙ e)
    (ap (λ f. f.token) same ∙ r.at)

kind_at : (kind : CheckKind) (k : ℕ) (c : Constraint) → k < length (constraints_of kind) → slice_index_or (constraints_of kind) k c ≡ c → kind_of c ≡ kind
kind_at kind k c less is = sym (ap kind_of is) ∙ of_kind kind k c less

told_for_one : {A : Type 0} (w : Walk A) (fault : CheckFault) (kind : CheckKind) (token : ℕ) → Stops w fault
    → RefusedForOneOf (constraints_of kind) w token → fault ≡ record { kind = kind; token = token }
told_for_one w fault kind token s any =
    one_told w fault kind any.1 token s (kind_at kind any.0 any.1 any.2 any.3) any.4

-- ---- a result

is_memory : (kind : CheckKind) → (kind ≡ NoMemory) ⊎ (kind ≢ NoMemory)
is_memory NoMemory = inl refl
is_memory UnknownName = inr (λ e. other e)
  where
    other : UnknownName ≡ NoMemory → ⊥
    other e = cc
is_memory Redeclared = inr (λ e. other e)
  where
    other : Redeclared ≡ NoMemory → ⊥
    other e = cc
is_memory Typing = inr (λ e. other e)
  where
    other : Typing ≡ NoMemory → ⊥
    other e = cc
is_memory Constant = inr (λ e. other e)
  where
    other : Constant ≡ NoMemory → ⊥
    other e = cc
is_memory (Unsupported feature) = inr (λ e. other e)
  where
    other : Unsupported feature ≡ NoMemory → ⊥
    other e = cc
is_memory (Limit limit count) = inr (λ e. other e)
  where
    other : Limit limit count ≡ NoMemory → ⊥
    other e = cc

no_both : {A : Type 0} (w : Walk A) (made : A) (fault : CheckFault) → Answers w (Ok made) → Stops w fault → ⊥
no_both {A} w made fault e s = differ ((one_answer w (Ok made)).0 e ∙ sym ((one_answer w (Err fault)).0 s))
  where
    differ : ◌≡◌ {A = Result A CheckFault} (Ok made) (Err fault) → ⊥
    differ e = cc

module _ {A R : Type 0} (view : R → A) (w : Walk A) where
  abbrev Typed : Result R CheckFault → Type 0
  Typed r = IfOk r (λ made. Answers w (Ok (view made)))

  abbrev Refused : Result R CheckFault → Type 0
  Refused r = IfErr r (λ fault. fault.kind ≢ NoMemory → Answers w (Err fault))

  only_told : (r : Result R CheckFault) (kind : CheckKind) → kind ≢ NoMemory → Refused r
      → IfErr r (λ fault. fault.kind ≡ kind → RefusedForOneOf (constraints_of kind) w fault.token)
  only_told (Ok made) kind other refused = tt
  only_told (Err fault) kind other refused = λ e. stops_for_one w fault kind (refused (λ none. other (sym e ∙ none))) e

  stops_as : (fault : CheckFault) (kind : CheckKind) (token : ℕ) → Refused (Err fault) → RefusedForOneOf (constraints_of kind) w token
      → (fault.kind ≡ NoMemory) ⊎ (fault.kind ≢ NoMemory) → RanOut {R = R} (Err fault) ⊎ (◌≡◌ {A = Result R CheckFault} (Err fault) (Err (record { kind = kind; token = token })))
  stops_as fault kind token refused any (inl none) = inl none
  stops_as fault kind token refused any (inr other) = inr (ap (λ (f : CheckFault). Err f) (told_for_one w fault kind token (refused other) any))

  always_told : (r : Result R CheckFault) (kind : CheckKind) → Typed r → Refused r → (token : ℕ)
      → RefusedForOneOf (constraints_of kind) w token → RanOut r ⊎ (r ≡ Err (record { kind = kind; token = token }))
  always_told (Ok made) kind typed refused token any = absurd (no_both w (view made) any.4.fault typed any.4.stops)
  always_told (Err fault) kind typed refused token any = stops_as fault kind token refused any (is_memory fault.kind)

  told_exactly : (r : Result R CheckFault) (kind : CheckKind) → kind ≢ NoMemory → Typed r → Refused r → TellsExactly w kind (constraints_of kind) r
  told_exactly r kind other typed refused = record { only = only_told r kind other refused; always = always_told r kind typed refused }

  -- ---- each kind

  pub names_told : (r : Result R CheckFault) → Typed r → Refused r → TellsExactly w UnknownName on_names r
  names_told r typed refused = told_exactly r UnknownName (λ e. cc) typed refused

  pub declarations_told : (r : Result R CheckFault) → Typed r → Refused r → TellsExactly w Redeclared on_declarations r
  declarations_told r typed refused = told_exactly r Redeclared (λ e. cc) typed refused

  pub types_told : (r : Result R CheckFault) → Typed r → Refused r → TellsExactly w Typing on_types r
  types_told r typed refused = told_exactly r Typing (λ e. cc) typed refused

  pub constants_told : (r : Result R CheckFault) → Typed r → Refused r → TellsExactly w Constant on_constants r
  constants_told r typed refused = told_exactly r Constant (λ e. cc) typed refused

  pub features_told : (r : Result R CheckFault) → Typed r → Refused r → (feature : Feature) → TellsExactly w (Unsupported feature) (on_feature feature) r
  features_told r typed refused feature = told_exactly r (Unsupported feature) (λ e. cc) typed refused

  pub limits_told : (r : Result R CheckFault) → Typed r → Refused r → (limit : Which) (count : ℕ) → TellsExactly w (Limit limit count) (on_limit limit count) r
  limits_told r typed refused limit count = told_exactly r (Limit limit count) (λ e. cc) typed refused

  -- ---- what the walk makes

  same_made : (made wanted : A) → Answers w (Ok made) → Answers w (Ok wanted) → made ≡ wanted
  same_made made wanted e f = ok_is ((one_answer w (Ok made)).0 e ∙ sym ((one_answer w (Ok wanted)).0 f))
    where
      ok_is : ◌≡◌ {A = Result A CheckFault} (Ok made) (Ok wanted) → made ≡ wanted
      ok_is e = cc

  made_unless : (fault : CheckFault) (wanted : A) → Refused (Err fault) → Answers w (Ok wanted)
      → (fault.kind ≡ NoMemory) ⊎ (fault.kind ≢ NoMemory) → RanOut {R = R} (Err fault) ⊎ IsMade view wanted (Err fault)
  made_unless fault wanted refused e (inl none) = inl none
  made_unless fault wanted refused e (inr other) = absurd (no_both w wanted fault e (refused other))

  pub made_told : (r : Result R CheckFault) → Typed r → Refused r → (wanted : A) → Answers w (Ok wanted) → RanOut r ⊎ IsMade view wanted r
  made_told (Ok made) typed refused wanted e = inr (same_made (view made) wanted typed e)
  made_told (Err fault) typed refused wanted e = made_unless fault wanted refused e (is_memory fault.kind)
