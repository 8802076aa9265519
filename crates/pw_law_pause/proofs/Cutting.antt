-- Acts one of which is cut short by its bound: what it noted up to there the other noted too.
use Rattle.std.proofs.Common.{ℕ, ◌≤◌, refl, sym, ap, ◌∙◌, Bool, List, [], ◌∷◌, ◌++◌, append_assoc, length}
use Rattle.pw_cmean.specs.Worlds.{World}
use Rattle.pw_cmean.specs.Acts.{Act, State, Moment, Called, Returned, Outcome, Gives, Ends, Bound, give, stop, go_on, ◌>>=◌, look, make, end_object, write, next_byte, get_char, put_char, called, returned, during, with_object}
use Rattle.pw_cmean.specs.SourceRun.{run_main, start_state}
use Rattle.pw_cmean.specs.Lasting.{state_behind}
use Rattle.pw_cmean.proofs.ActLaws.{Laws}
use Rattle.pw_cmean.proofs.TreeLaws.{run_main-r}
use Rattle.pw_law_pause.specs.Moments.{IsOlder, noted_within}

-- ---- moments are only added

pub older-refl : (l : List Moment) → IsOlder l l
older-refl l = ([], refl)

pub older-trans : (k l m : List Moment) → IsOlder k l → IsOlder l m → IsOlder k m
older-trans k l m p q = (q.0 ++ p.0, q.1 ∙ ap (λ x. q.0 ++ x) p.1 ∙ sym (append_assoc q.0 p.0 k))

-- what an act noted before it is older than what is noted behind it
abbrev pub Adds : {A : Type 0} → Act A → Type 0
Adds m = (s : State) → IsOlder s.moments (state_behind (m s)).moments

pub on-adds : {A B : Type 0} (l : List Moment) (o : Outcome A) (k : A → Act B) → IsOlder l (state_behind o).moments → ((a : A) → Adds (k a))
    → IsOlder l (state_behind (go_on o k)).moments
unfolding go_on
on-adds l (Gives a t) k p q = older-trans l t.moments _ p (q a t)
on-adds l (Ends ending t) k p q = p

pub bind-adds : {A B : Type 0} (m : Act A) (k : A → Act B) → Adds m → ((a : A) → Adds (k a)) → Adds (m >>= k)
unfolding ◌>>=◌
bind-adds m k p q s = on-adds s.moments (m s) k (p s) q

pub returned-adds : {A : Type 0} (l : List Moment) (name : List ℕ) (active : List (List ℕ)) (o : Outcome A) → IsOlder l (state_behind o).moments
    → IsOlder l (state_behind (returned name active o)).moments
unfolding returned
returned-adds l name active (Gives a t) p = older-trans l t.moments _ p (Returned name t.objects ∷ [], refl)
returned-adds l name active (Ends ending t) p = p

pub during-adds : {A : Type 0} (name : List ℕ) (m : Act A) → Adds m → Adds (during name m)
unfolding during called
during-adds name m p s =
    let before : IsOlder s.moments (called name s).moments = (Called name s.objects ∷ [], refl) in
    returned-adds s.moments name s.active (m (called name s)) (older-trans s.moments (called name s).moments _ before (p (called name s)))

end-adds : {A : Type 0} (l : List Moment) (n : ℕ) (o : Outcome A) → IsOlder l (state_behind o).moments
    → IsOlder l (state_behind (go_on o (λ a. end_object n >>= λ u. give a))).moments
unfolding go_on end_object give ◌>>=◌
end-adds l n (Gives a t) p = p
end-adds l n (Ends ending t) p = p

with_object-adds : {A : Type 0} (size : ℕ) (w : Bool) (f : ℕ → Act A) → ((n : ℕ) → Adds (f n)) → Adds (with_object size w f)
unfolding with_object make ◌>>=◌ go_on
with_object-adds size w f p s = end-adds s.moments (length s.objects) (f (length s.objects) _) (p (length s.objects) _)

pub read-adds : (s : State) (rest : List ℕ) → IsOlder s.moments (state_behind (next_byte rest s)).moments
unfolding next_byte
read-adds s [] = older-refl s.moments
read-adds s (b ∷ rest) = older-refl s.moments

-- ---- an act that is cut short

-- the first is the second, or it was cut short, and what it noted is older than what the second noted
pub data IsCut {A : Type 0} : Outcome A → Outcome A → Type 0 where
  whole : {o : Outcome A} → IsCut o o
  cut : {t : State} {o : Outcome A} → IsOlder t.moments (state_behind o).moments → IsCut (Ends Bound t) o

abbrev pub AreCut : {A : Type 0} → Act A → Act A → Type 0
AreCut m m' = (s : State) → IsCut (m s) (m' s)

abbrev pub IsFurther : (A : Type 0) → Act A → Act A → Type 0
IsFurther A m m' = Adds m' × AreCut m m'

on-c : {A B : Type 0} (o o' : Outcome A) (k k' : A → Act B) → IsCut o o' → ((a : A) → IsFurther B (k a) (k' a)) → IsCut (go_on o k) (go_on o' k')
unfolding go_on
on-c (Gives a t) _ k k' whole q = (q a).1 t
on-c (Ends ending t) _ k k' whole q = whole
on-c _ o' k k' (cut {t} p) q = cut (on-adds t.moments o' k' p (λ a. (q a).0))

bind-c : {A B : Type 0} (m m' : Act A) (k k' : A → Act B) → AreCut m m' → ((a : A) → IsFurther B (k a) (k' a)) → AreCut (m >>= k) (m' >>= k')
unfolding ◌>>=◌
bind-c m m' k k' p q s = on-c (m s) (m' s) k k' (p s) q

end-f : {A : Type 0} (n : ℕ) (a : A) → IsFurther A (end_object n >>= λ u. give a) (end_object n >>= λ u. give a)
unfolding end_object give ◌>>=◌ go_on
end-f n a = ((λ s. older-refl s.moments), λ s. whole)

with_object-c : {A : Type 0} (size : ℕ) (w : Bool) (f f' : ℕ → Act A) → ((n : ℕ) → AreCut (f n) (f' n)) → AreCut (with_object size w f) (with_object size w f')
unfolding with_object make ◌>>=◌ go_on
with_object-c size w f f' p s = on-c (f (length s.objects) _) (f' (length s.objects) _) _ _ (p (length s.objects) _) (end-f (length s.objects))

returned-c : {A : Type 0} (name : List ℕ) (active : List (List ℕ)) (o o' : Outcome A) → IsCut o o' → IsCut (returned name active o) (returned name active o')
unfolding returned
returned-c name active o _ whole = whole
returned-c name active _ o' (cut {t} p) = cut (returned-adds t.moments name active o' p)

during-c : {A : Type 0} (name : List ℕ) (m m' : Act A) → AreCut m m' → AreCut (during name m) (during name m')
unfolding during
during-c name m m' p s = returned-c name s.active (m (called name s)) (m' (called name s)) (p (called name s))

-- one act is as it is
alike : {A : Type 0} (m : Act A) → Adds m → IsFurther A m m
alike m k = (k, λ s. whole)

stop-c : {A : Type 0} (m : Act A) → Adds m → AreCut (stop Bound) m
unfolding stop
stop-c m k s = cut (k s)

pub cutting : Laws IsFurther
unfolding give stop look write get_char put_char
cutting = record {
  gives = λ A a. alike (give a) λ s. older-refl s.moments;
  stops = λ A e. alike {A = A} (stop e) λ s. older-refl s.moments;
  selfs = λ A m m' p. alike m' p.0;
  bounds = λ A m p. (p.0, stop-c m p.0);
  looks = λ A f. alike (look f) λ s. older-refl s.moments;
  writes = λ n i bytes. alike (write n i bytes) λ s. older-refl s.moments;
  gets = alike get_char λ s. read-adds s s.rest;
  puts = λ b. alike (put_char b) λ s. older-refl s.moments;
  durings = λ A name m m' p. (during-adds name m' p.0, during-c name m m' p.1);
  withs = λ A size w f f' p. (with_object-adds size w f' (λ n. (p n).0), with_object-c size w f f' (λ n. (p n).1));
  binds = λ A B m m' k k' p q. (bind-adds m' k' p.0 (λ a. (q a).0), bind-c m m' k k' p.1 q);
}

-- ---- greater bounds

cut-older : {A : Type 0} (o o' : Outcome A) → IsCut o o' → IsOlder (state_behind o).moments (state_behind o').moments
cut-older o _ whole = older-refl (state_behind o).moments
cut-older _ o' (cut p) = p

pub longer_notes : (world : World) (input : List ℕ) (n m : ℕ) → n ≤ m → IsOlder (noted_within world input n) (noted_within world input m)
longer_notes world input n m below =
    let s = start_state world.program input in
    cut-older (run_main world n s) (run_main world m s) ((run_main-r IsFurther cutting world n m below).1 s)
