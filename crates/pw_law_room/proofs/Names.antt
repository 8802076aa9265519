-- The names of the calls that are active, event by event.
use Rattle.std.specs.Prelude.{ℕ, zero, suc, ◌≡◌, ◌+◌, ◌≤◌, List, [], ◌∷◌, map}
use Rattle.std.specs.List.{sum_by}
use Rattle.std.proofs.Common.{arith, subst, sym, ap, refl, ◌∙◌}
use Rattle.std.proofs.lemmas.List.Sums.{sum_by-cons}
use Rattle.pw_run.specs.Runs.{AreAlike, none, also}
use Rattle.pw_run_languages.specs.Traces.{Standing, Event, Called, Refused, Returned, Loaded, Stored, SameKind, call, refusal, return, load, store, with_refusal}
use Rattle.pw_run_languages.specs.Traffic.{Open, with_event, without, active}
use Rattle.pw_run_languages.specs.Programs.{Program}
use Rattle.pw_law_room.specs.Room.{HadRoom, HasRoom, names_active}

abbrev names : {B V : Type 0} → List (Open B V) → List (List ℕ)
names calls = map (λ c. c.function) calls

pub names_event : {B V : Type 0} (e : Event B V) (calls : List (Open B V)) → names (map (with_event e) calls) ≡ names calls
names_event e [] = refl
names_event e (c ∷ cs) = ap (λ (ns : List (List ℕ)). c.function ∷ ns) (names_event e cs)

names_without : {B V : Type 0} (n : ℕ) (calls : List (Open B V)) → names (without n calls) ≡ without n (names calls)
names_without n [] = refl
names_without zero (c ∷ cs) = refl
names_without (suc n) (c ∷ cs) = ap (λ (ns : List (List ℕ)). c.function ∷ ns) (names_without n cs)

pub names_called : {B V : Type 0} (f : List ℕ) (gs : List (Standing B V)) (rs : List V) (log : List (Event B V)) → names_active (Called f gs rs ∷ log) ≡ f ∷ names_active log
names_called f gs rs log = ap (λ (ns : List (List ℕ)). f ∷ ns) (names_event (Called f gs rs) (active log))

pub names_returned : {B V : Type 0} (f : List ℕ) (n : ℕ) (gs : List (Standing B V)) (rs ss : List V) (log : List (Event B V)) → names_active (Returned f n gs rs ss ∷ log) ≡ without n (names_active log)
names_returned f n gs rs ss log = names_event (Returned f n gs rs ss) (without n (active log)) ∙ names_without n (active log)

-- ---- like logs

names_alike : {B C V W : Type 0} (l : List (Event B V)) (m : List (Event C W)) → AreAlike SameKind l m → names_active l ≡ names_active m
names_alike l m none = refl
names_alike l m (also e f l' m' (call g gs hs rs ss) q) = names_called g gs rs l' ∙ ap (λ (ns : List (List ℕ)). g ∷ ns) (names_alike l' m' q) ∙ sym (names_called g hs ss m')
names_alike l m (also e f l' m' (refusal g) q) = names_event (Refused g) (active l') ∙ names_alike l' m' q ∙ sym (names_event (Refused g) (active m'))
names_alike l m (also e f l' m' (return g k gs hs rs ss ts us) q) =
    names_returned g k gs rs ss l' ∙ ap (λ (ns : List (List ℕ)). without k ns) (names_alike l' m' q) ∙ sym (names_returned g k hs ts us m')
names_alike l m (also e f l' m' (load v) q) = names_event (Loaded v) (active l') ∙ names_alike l' m' q ∙ sym (names_event (Loaded v) (active m'))
names_alike l m (also e f l' m' (store v) q) = names_event (Stored v) (active l') ∙ names_alike l' m' q ∙ sym (names_event (Stored v) (active m'))

pub room_alike : {B C V W : Type 0} (p : Program) (l : List (Event B V)) (m : List (Event C W)) → AreAlike SameKind l m → HadRoom p l → HadRoom p m
room_alike p l m none had = tt
room_alike p l m (also e f l' m' k q) had =
    (subst (λ (ns : List (List ℕ)). sum_by p.frame_of ns ≤ p.stack) (names_alike l' m' q) had.0, room_alike p l' m' q had.1)

-- ---- a call that is refused

pub room_of_refused : (p : Program) (l : List (Event ℕ ℕ)) → HadRoom p (with_refusal l) → HadRoom p l
room_of_refused p [] h = h
room_of_refused p (Called f gs rs ∷ l) h = h
room_of_refused p (Refused f ∷ l) h = h
room_of_refused p (Returned f k gs rs ss ∷ l) h = h
room_of_refused p (Loaded v ∷ l) h = h
room_of_refused p (Stored v ∷ l) h = h

pub room_to_refused : (p : Program) (l : List (Event ℕ ℕ)) → HadRoom p l → HadRoom p (with_refusal l)
room_to_refused p [] h = h
room_to_refused p (Called f gs rs ∷ l) h = h
room_to_refused p (Refused f ∷ l) h = h
room_to_refused p (Returned f k gs rs ss ∷ l) h = h
room_to_refused p (Loaded v ∷ l) h = h
room_to_refused p (Stored v ∷ l) h = h

-- ---- room behind an event

-- what is known of a log: there is room behind it, and there was before each of its events
abbrev pub Roomy : {B V : Type 0} → Program → List (Event B V) → Type 0
Roomy p log = HasRoom p log × HadRoom p log

less_without : (frame_of : List ℕ → ℕ) (n : ℕ) (ns : List (List ℕ)) → sum_by frame_of (without n ns) ≤ sum_by frame_of ns
less_without frame_of n [] = omega arith
less_without frame_of zero (m ∷ ns) =
    let all = sum_by-cons frame_of m ns in
    let less : sum_by frame_of ns ≤ sum_by frame_of (m ∷ ns) = omega (arith, all) in
    less
less_without frame_of (suc n) (m ∷ ns) =
    let rest = less_without frame_of n ns in
    let all = sum_by-cons frame_of m ns in
    let left = sum_by-cons frame_of m (without n ns) in
    let less : sum_by frame_of (m ∷ without n ns) ≤ sum_by frame_of (m ∷ ns) = omega (arith, rest, all, left) in
    less

pub room_event : {B V : Type 0} (p : Program) (e : Event B V) (log : List (Event B V)) → names_active (e ∷ log) ≡ names_active log → Roomy p log → Roomy p (e ∷ log)
room_event p e log same h = (subst (λ (ns : List (List ℕ)). sum_by p.frame_of ns ≤ p.stack) (sym same) h.0, h)

pub room_called : {B V : Type 0} (p : Program) (f : List ℕ) (gs : List (Standing B V)) (rs : List V) (log : List (Event B V)) → p.frame_of f + sum_by p.frame_of (names_active log) ≤ p.stack → Roomy p log
    → Roomy p (Called f gs rs ∷ log)
room_called p f gs rs log fits h =
    let all = sum_by-cons p.frame_of f (names_active log) in
    let room : sum_by p.frame_of (f ∷ names_active log) ≤ p.stack = omega (arith, fits, all) in
    (subst (λ (ns : List (List ℕ)). sum_by p.frame_of ns ≤ p.stack) (sym (names_called f gs rs log)) room, h)

pub room_returned : {B V : Type 0} (p : Program) (f : List ℕ) (n : ℕ) (gs : List (Standing B V)) (rs ss : List V) (log : List (Event B V)) → Roomy p log → Roomy p (Returned f n gs rs ss ∷ log)
room_returned p f n gs rs ss log h =
    let less = less_without p.frame_of n (names_active log) in
    let room = h.0 in
    let left : sum_by p.frame_of (without n (names_active log)) ≤ p.stack = omega (arith, less, room) in
    (subst (λ (ns : List (List ℕ)). sum_by p.frame_of ns ≤ p.stack) (sym (names_returned f n gs rs ss log)) left, h)
