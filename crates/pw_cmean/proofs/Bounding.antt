-- A greater bound: what comes within a bound comes within each greater one, and what a bound cuts short goes on.
use Rattle.std.proofs.Common.{ℕ, ◌≡◌, refl, sym, ◌∙◌, arith, Bool, List, [], length}
use Rattle.std.proofs.lemmas.Grind.{common_steps}
use Rattle.pw_cmean.specs.Acts.{Act, State, Outcome, Gives, Ends, Bound, give, stop, go_on, ◌>>=◌, look, make, end_object, write, get_char, put_char, called, returned, during, with_object}
use Rattle.pw_cmean.specs.Lasting.{state_behind, IsLater}
use Rattle.pw_cmean.proofs.ActLaws.{Laws}
use Rattle.pw_cmean.proofs.Keeping.{later-trans, Keeps, during-k, with_object-k, bind-k, keeping}

-- the first is the second, or the bound cut it short at a state before that of the second
pub data IsCut {A : Type 0} : Outcome A → Outcome A → Type 0 where
  whole : {o : Outcome A} → IsCut o o
  cut : {t : State} {o : Outcome A} → IsLater t (state_behind o) → IsCut (Ends Bound t) o

abbrev pub AreCut : {A : Type 0} → Act A → Act A → Type 0
AreCut m m' = (s : State) → IsCut (m s) (m' s)

abbrev pub IsFurther : (A : Type 0) → Act A → Act A → Type 0
IsFurther A m m' = Keeps m' × AreCut m m'

-- where output and input are as they were
later-same : (s t : State) → t.out ≡ s.out → t.rest ≡ s.rest → t.read ≡ s.read → IsLater s t
later-same s t o r n = record { written = ([], o ∙ grind (arith, common_steps)); taken = ([], sym r, n ∙ omega arith) }

later-on : {A B : Type 0} (s : State) (o : Outcome A) (k : A → Act B) → IsLater s (state_behind o)
    → ((a : A) (t : State) → IsLater t (state_behind (k a t))) → IsLater s (state_behind (go_on o k))
unfolding go_on
later-on s (Gives a t) k p q = later-trans s t (state_behind (k a t)) p (q a t)
later-on s (Ends ending t) k p q = p

on-c : {A B : Type 0} (o o' : Outcome A) (k k' : A → Act B) → IsCut o o'
    → ((a : A) (t : State) → IsLater t (state_behind (k' a t))) → ((a : A) → AreCut (k a) (k' a)) → IsCut (go_on o k) (go_on o' k')
unfolding go_on
on-c (Gives a t) _ k k' whole l q = q a t
on-c (Ends ending t) _ k k' whole l q = whole
on-c _ o' k k' (cut {t} p) l q = cut (later-on t o' k' p l)

bind-c : {A B : Type 0} (m m' : Act A) (k k' : A → Act B) → AreCut m m' → ((a : A) → IsFurther B (k a) (k' a)) → AreCut (m >>= k) (m' >>= k')
unfolding ◌>>=◌
bind-c m m' k k' p q s = on-c (m s) (m' s) k k' (p s) (λ a t. ((q a).0 t).later) (λ a. (q a).1)

end-c : {A : Type 0} (n : ℕ) (a : A) → (t : State) → IsLater t (state_behind ((end_object n >>= λ u. give a) t))
unfolding ◌>>=◌ go_on end_object give
end-c n a t = later-same t _ refl refl refl

with_object-c : {A : Type 0} (size : ℕ) (w : Bool) (f f' : ℕ → Act A) → ((n : ℕ) → AreCut (f n) (f' n)) → AreCut (with_object size w f) (with_object size w f')
unfolding with_object make ◌>>=◌ go_on
with_object-c size w f f' p s =
    on-c (f (length s.objects) _) (f' (length s.objects) _) _ _ (p (length s.objects) _) (end-c (length s.objects)) (λ a t. whole)

later-returned : {A : Type 0} (t : State) (name : List ℕ) (active : List (List ℕ)) (o : Outcome A) → IsLater t (state_behind o) → IsLater t (state_behind (returned name active o))
unfolding returned
later-returned t name active (Gives a u) p = later-trans t u _ p (later-same u _ refl refl refl)
later-returned t name active (Ends ending u) p = p

returned-c : {A : Type 0} (name : List ℕ) (active : List (List ℕ)) (o o' : Outcome A) → IsCut o o' → IsCut (returned name active o) (returned name active o')
unfolding returned
returned-c name active o _ whole = whole
returned-c name active _ o' (cut {t} p) = cut (later-returned t name active o' p)

during-c : {A : Type 0} (name : List ℕ) (m m' : Act A) → AreCut m m' → AreCut (during name m) (during name m')
unfolding during
during-c name m m' p s = returned-c name s.active (m (called name s)) (m' (called name s)) (p (called name s))

-- one act is as it is within a greater bound
alike : {A : Type 0} (m : Act A) → Keeps m → IsFurther A m m
alike m k = (k, λ s. whole)

bound-c : {A : Type 0} (m : Act A) → Keeps m → AreCut (stop Bound) m
unfolding stop
bound-c m k s = cut (k s).later

pub bounding : Laws IsFurther
bounding = record {
  gives = λ A a. alike (give a) (keeping.gives A a).0;
  stops = λ A e. alike {A = A} (stop e) (keeping.stops A e).0;
  selfs = λ A m m' p. alike m' p.0;
  bounds = λ A m p. (p.0, bound-c m p.0);
  looks = λ A f. alike (look f) (keeping.looks A f).0;
  writes = λ n i bytes. alike (write n i bytes) (keeping.writes n i bytes).0;
  gets = alike get_char keeping.gets.0;
  puts = λ b. alike (put_char b) (keeping.puts b).0;
  durings = λ A name m m' p. (during-k name m' p.0, during-c name m m' p.1);
  withs = λ A size w f f' p. (with_object-k size w f' (λ n. (p n).0), with_object-c size w f f' (λ n. (p n).1));
  binds = λ A B m m' k k' p q. (bind-k m' k' p.0 (λ a. (q a).0), bind-c m m' k k' p.1 q);
}
