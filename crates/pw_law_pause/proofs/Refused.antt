-- Acts of two worlds, of which the first may be cut short for want of room on the stack: at a call of a module's function, which the
-- second notes next. A function of the library, which takes no room, is not refused in a function that has room itself.
use Rattle.std.proofs.Common.{ℕ, ◌≡◌, ◌+◌, ◌⊎◌, Bool, true, false, true≢false, Option, Some, None, List, [], ◌∷◌, arith, refl, sym, ap, ◌∙◌, subst, inl, inr}
use Rattle.std.specs.Prelude.{nat_lt, Contains}
use Rattle.pw_value.specs.ProgramNames.{library_functions}
use Rattle.pw_cmean.specs.Worlds.{World, depth}
use Rattle.pw_cmean.specs.Acts.{Act, State, Called, Outcome, Gives, Ends, Ending, StackFull, Wrong, give, stop, go_on, ◌>>=◌, branch, wrong, need, look, make, end_object, write, next_byte, get_char, put_char, called, returned, during, with_object}
use Rattle.pw_cmean.specs.Evaluation.{take_room}
use Rattle.pw_cmean.specs.Lasting.{state_behind, KeepsActive}
use Rattle.pw_cmean.proofs.ActLaws.{take_room-r}
use Rattle.pw_law_pause.specs.Moments.{IsOlder, HasRoom}
use Rattle.pw_law_pause.proofs.Cutting.{Adds, IsFurther, cutting, older-refl, older-trans, on-adds, bind-adds, returned-adds, during-adds, read-adds}
use Rattle.pw_law_pause.proofs.Steps.{IsOther, Steps}

-- ---- where the first is cut short

abbrev pub LibraryTakesNone : World → Type 0
LibraryTakesNone w = (name : List ℕ) → Contains library_functions name → w.frame_of name ≡ 0

-- behind this state a call is noted next in that one
abbrev pub IsNext : State → State → Type 0
IsNext t u = (name : List ℕ) × IsOlder (Called name t.objects ∷ t.moments) u.moments

-- the active functions have no room themselves, if the library's take none
abbrev pub IsFull : World → State → Type 0
IsFull w s = LibraryTakesNone w → nat_lt w.stack (depth w s.active) ≡ true

-- from a state, in this one, while the second came to that one
abbrev pub IsShort : World → State → State → State → Type 0
IsShort w s t u = IsOlder t.moments u.moments × (IsNext t u ⊎ IsFull w s)

-- the first is the second, or it was cut short
pub data IsCut {A : Type 0} (w roomy : World) (s : State) : Outcome A → Outcome A → Type 0 where
  given : {a : A} {t : State} → IsCut w roomy s (Gives a t) (Gives a t)
  ended : {ending : Ending} {t : State} → IsOther ending → IsCut w roomy s (Ends ending t) (Ends ending t)
  full : {t : State} (active : List (List ℕ)) → nat_lt roomy.stack (depth roomy active) ≡ true → IsCut w roomy s (Ends StackFull t) (Ends StackFull t)
  cut : {u : State} {o : Outcome A} → IsShort w s u (state_behind o) → IsCut w roomy s (Ends StackFull u) o

-- where the run goes on, the functions are active that were
abbrev pub Restores : {A : Type 0} → Act A → Type 0
Restores m = (s : State) → KeepsActive s (m s)

abbrev pub IsRoomier : World → World → (A : Type 0) → Act A → Act A → Type 0
IsRoomier w roomy A m m' = Adds m' × Restores m × ((s : State) → IsCut w roomy s (m s) (m' s))

module _ (w roomy : World) where
  -- ---- in order

  keeps-on : {A : Type 0} (s t : State) (o : Outcome A) → t.active ≡ s.active → KeepsActive t o → KeepsActive s o
  keeps-on s t (Gives a u) e h = h ∙ e
  keeps-on s t (Ends ending u) e h = tt

  next-later : (s t u v : State) → IsOlder u.moments v.moments → IsNext t u ⊎ IsFull w s → IsNext t v ⊎ IsFull w s
  next-later s t u v p (inl next) = inl (next.0, older-trans (Called next.0 t.objects ∷ t.moments) u.moments v.moments next.1 p)
  next-later s t u v p (inr f) = inr f

  later : (s t u v : State) → IsOlder u.moments v.moments → IsShort w s t u → IsShort w s t v
  later s t u v p h = (older-trans t.moments u.moments v.moments h.0 p, next-later s t u v p h.1)

  full-there : (s t u v : State) → t.active ≡ s.active → IsNext u v ⊎ IsFull w t → IsNext u v ⊎ IsFull w s
  full-there s t u v e (inl next) = inl next
  full-there s t u v e (inr f) = inr (λ none. subst (λ (active : List (List ℕ)). nat_lt w.stack (depth w active) ≡ true) e (f none))

  -- from a state where the same functions are active
  from-there : {A : Type 0} (s t : State) (o o' : Outcome A) → t.active ≡ s.active → IsCut w roomy t o o' → IsCut w roomy s o o'
  from-there s t _ _ e given = given
  from-there s t _ _ e (ended other) = ended other
  from-there s t _ _ e (full active h) = full active h
  from-there s t _ o' e (cut {u} h) = cut (h.0, full-there s t u (state_behind o') e h.1)

  on-restores : {A B : Type 0} (s : State) (o : Outcome A) (k : A → Act B) → KeepsActive s o → ((a : A) → Restores (k a)) → KeepsActive s (go_on o k)
  unfolding go_on
  on-restores s (Gives a t) k p q = keeps-on s t (k a t) p (q a t)
  on-restores s (Ends ending t) k p q = tt

  on-cut : {A B : Type 0} (s : State) (o o' : Outcome A) (k k' : A → Act B) → KeepsActive s o → IsCut w roomy s o o' → ((a : A) → IsRoomier w roomy B (k a) (k' a))
      → IsCut w roomy s (go_on o k) (go_on o' k')
  unfolding go_on
  on-cut s _ _ k k' keeps (given {a} {t}) q = from-there s t (k a t) (k' a t) keeps ((q a).2 t)
  on-cut s _ _ k k' keeps (ended other) q = ended other
  on-cut s _ _ k k' keeps (full active h) q = full active h
  on-cut s _ o' k k' keeps (cut {u} h) q =
      cut (later s u (state_behind o') (state_behind (go_on o' k')) (on-adds (state_behind o').moments o' k' (older-refl (state_behind o').moments) (λ a. (q a).0)) h)

  bind : {A B : Type 0} (m m' : Act A) (k k' : A → Act B) → IsRoomier w roomy A m m' → ((a : A) → IsRoomier w roomy B (k a) (k' a)) → IsRoomier w roomy B (m >>= k) (m' >>= k')
  unfolding ◌>>=◌
  bind m m' k k' p q = (
    bind-adds m' k' p.0 (λ a. (q a).0),
    (λ s. on-restores s (m s) k (p.1 s) (λ a. (q a).1)),
    λ s. on-cut s (m s) (m' s) k k' (p.1 s) (p.2 s) q,
  )

  -- ---- single acts

  read-restores : (s : State) (rest : List ℕ) → KeepsActive s (next_byte rest s)
  unfolding next_byte
  read-restores s [] = refl
  read-restores s (b ∷ rest) = refl

  read-cut : (s : State) (rest : List ℕ) → IsCut w roomy s (next_byte rest s) (next_byte rest s)
  unfolding next_byte
  read-cut s [] = given
  read-cut s (b ∷ rest) = given

  makes : (size : ℕ) (b : Bool) → IsRoomier w roomy ℕ (make size b) (make size b)
  unfolding make
  makes size b = ((λ s. older-refl s.moments), (λ s. refl), λ s. given)

  ends : {A : Type 0} (n : ℕ) (a : A) → IsRoomier w roomy A (end_object n >>= λ u. give a) (end_object n >>= λ u. give a)
  unfolding end_object give ◌>>=◌ go_on
  ends n a = ((λ s. older-refl s.moments), (λ s. refl), λ s. given)

  pub steps : Steps (IsRoomier w roomy)
  unfolding give stop look write get_char put_char with_object
  steps = record {
    gives = λ A a. ((λ s. older-refl s.moments), (λ s. refl), λ s. given);
    stops = λ A e other. ((λ s. older-refl s.moments), (λ s. tt), λ s. ended other);
    looks = λ A f. ((λ s. older-refl s.moments), (λ s. refl), λ s. given);
    writes = λ n i bytes. ((λ s. older-refl s.moments), (λ s. refl), λ s. given);
    gets = ((λ s. read-adds s s.rest), (λ s. read-restores s s.rest), λ s. read-cut s s.rest);
    puts = λ b. ((λ s. older-refl s.moments), (λ s. refl), λ s. given);
    withs = λ A size b f f' p. bind (make size b) (make size b) _ _ (makes size b) (λ n. bind (f n) (f' n) _ _ (p n) (λ a. ends n a));
    binds = λ A B m m' k k' p q. bind m m' k k' p q;
  }

  -- the value that must be there, by what it is
  pub needed : {A B : Type 0} (o : Option A) (k k' : A → Act B) → ((a : A) → o ≡ Some a → IsRoomier w roomy B (k a) (k' a)) → IsRoomier w roomy B (need o >>= k) (need o >>= k')
  unfolding need wrong stop give ◌>>=◌ go_on
  needed None k k' p = ((λ s. older-refl s.moments), (λ s. tt), λ s. ended tt)
  needed (Some a) k k' p = ((λ s. (p a refl).0 s), (λ s. (p a refl).1 s), λ s. (p a refl).2 s)

  -- ---- behind room on the stack

  roomed : {A : Type 0} (name : List ℕ) (m m' : Act A) (s : State) (b b' : Bool)
      → nat_lt w.stack (depth w (name ∷ s.active)) ≡ b → nat_lt roomy.stack (depth roomy (name ∷ s.active)) ≡ b' → (HasRoom w (name ∷ s.active) → HasRoom roomy (name ∷ s.active))
      → (b ≡ true → IsShort w s s (state_behind (m' s))) → (b ≡ false → IsCut w roomy s (m s) (m' s))
      → IsCut w roomy s (go_on (branch b (stop StackFull) (give tt) s) (λ (u : Unit {0}). m)) (go_on (branch b' (stop StackFull) (give tt) s) (λ (u : Unit {0}). m'))
  unfolding branch stop give go_on
  roomed name m m' s true true e e' room short goes = full (name ∷ s.active) e'
  roomed name m m' s true false e e' room short goes = cut (short refl)
  roomed name m m' s false true e e' room short goes = absurd (true≢false (sym e' ∙ room e))
  roomed name m m' s false false e e' room short goes = goes refl

  room-restores : {A : Type 0} (m : Act A) (s : State) (b : Bool) → KeepsActive s (m s) → KeepsActive s (go_on (branch b (stop StackFull) (give tt) s) (λ (u : Unit {0}). m))
  unfolding branch stop give go_on
  room-restores m s true h = tt
  room-restores m s false h = h

  returned-restores : {A : Type 0} (s : State) (name : List ℕ) (o : Outcome A) → KeepsActive s (returned name s.active o)
  unfolding returned
  returned-restores s name (Gives a t) = refl
  returned-restores s name (Ends ending t) = tt

  not-full : (s c t u : State) → nat_lt w.stack (depth w c.active) ≡ false → IsNext t u ⊎ IsFull w c → IsNext t u ⊎ IsFull w s
  not-full s c t u fits (inl next) = inl next
  not-full s c t u fits (inr f) = inr (λ none. absurd (true≢false (sym (f none) ∙ fits)))

  -- behind a call that had room
  returned-cut : {A : Type 0} (s c : State) (name : List ℕ) (o o' : Outcome A) → nat_lt w.stack (depth w c.active) ≡ false → IsCut w roomy c o o'
      → IsCut w roomy s (returned name s.active o) (returned name s.active o')
  unfolding returned
  returned-cut s c name _ _ fits given = given
  returned-cut s c name _ _ fits (ended other) = ended other
  returned-cut s c name _ _ fits (full active h) = full active h
  returned-cut s c name _ o' fits (cut {u} h) =
      cut (later s u (state_behind o') (state_behind (returned name s.active o')) (returned-adds (state_behind o').moments name s.active o' (older-refl (state_behind o').moments))
      (h.0, not-full s c u (state_behind o') fits h.1))

  -- a module's function
  pub enters : ((active : List (List ℕ)) → HasRoom w active → HasRoom roomy active) → {A : Type 0} (name : List ℕ) (m m' : Act A) → IsRoomier w roomy A m m'
      → IsRoomier w roomy A (take_room w name >>= λ u. during name m) (take_room roomy name >>= λ u. during name m')
  unfolding take_room look during called ◌>>=◌ go_on
  enters room name m m' p = (
    bind-adds (take_room roomy name) (λ u. during name m') (take_room-r IsFurther cutting roomy name).0 (λ u. during-adds name m' p.0),
    (λ s. room-restores (during name m) s (nat_lt w.stack (depth w (name ∷ s.active))) (returned-restores s name (m (called name s)))),
    λ s.
        let c = called name s in
        let next = returned-adds c.moments name s.active (m' c) (p.0 c) in
        roomed name (during name m) (during name m') s (nat_lt w.stack (depth w (name ∷ s.active))) (nat_lt roomy.stack (depth roomy (name ∷ s.active))) refl refl (room (name ∷ s.active))
        (λ e. (older-trans s.moments c.moments (state_behind (during name m' s)).moments (Called name s.objects ∷ [], refl) next, inl (name, next)))
        (λ fits. returned-cut s c name (m c) (m' c) fits (p.2 c)),
  )

  -- a function of the library
  pub answers : ((active : List (List ℕ)) → HasRoom w active → HasRoom roomy active) → {A : Type 0} (name : List ℕ) (m : Act A) → Contains library_functions name → IsRoomier w roomy A m m
      → IsRoomier w roomy A (take_room w name >>= λ u. m) (take_room roomy name >>= λ u. m)
  unfolding take_room look ◌>>=◌ go_on
  answers room name m there p = (
    bind-adds (take_room roomy name) (λ u. m) (take_room-r IsFurther cutting roomy name).0 (λ u. p.0),
    (λ s. room-restores m s (nat_lt w.stack (depth w (name ∷ s.active))) (p.1 s)),
    λ s.
        roomed name m m s (nat_lt w.stack (depth w (name ∷ s.active))) (nat_lt roomy.stack (depth roomy (name ∷ s.active))) refl refl (room (name ∷ s.active))
        (λ e. (
          p.0 s,
          inr (λ none.
              let same : w.frame_of name + depth w s.active ≡ depth w s.active = omega (arith, none name there) in
              ap (λ (k : ℕ). nat_lt w.stack k) (sym same) ∙ e),
        ))
        (λ fits. p.2 s),
  )

  -- ---- what comes of it

  pub cut-older : {A : Type 0} (s : State) (o o' : Outcome A) → IsCut w roomy s o o' → IsOlder (state_behind o).moments (state_behind o').moments
  cut-older s _ _ (given {a} {t}) = older-refl t.moments
  cut-older s _ _ (ended {ending} {t} other) = older-refl t.moments
  cut-older s _ _ (full {t} active h) = older-refl t.moments
  cut-older s _ o' (cut h) = h.0

  ending_of : {A : Type 0} → Outcome A → Ending
  ending_of (Gives a t) = Wrong
  ending_of (Ends ending t) = ending

  -- where the first had no room, the second notes a call next, if it always has room
  pub next-of : {A : Type 0} (s : State) (o o' : Outcome A) (t : State) → LibraryTakesNone w → HasRoom w s.active → ((active : List (List ℕ)) → HasRoom roomy active)
      → o ≡ Ends StackFull t → IsCut w roomy s o o' → IsNext t (state_behind o')
  unfolding ending_of
  next-of s _ _ t none fits always e given = absurd cc
  next-of s _ _ t none fits always e (ended other) = absurd (subst IsOther (ap ending_of e) other)
  next-of s _ _ t none fits always e (full active h) = absurd (true≢false (sym h ∙ always active))
  next-of s _ o' t none fits always e (cut {u} h) = by_case h.1
    where
      by_case : IsNext u (state_behind o') ⊎ IsFull w s → IsNext t (state_behind o')
      by_case (inl next) = subst (λ (x : State). IsNext x (state_behind o')) (ap state_behind e) next
      by_case (inr f) = absurd (true≢false (sym (f none) ∙ fits))
