-- Acts that only write behind what was written and read on.
use Rattle.std.proofs.Common.{ℕ, ◌≡◌, refl, sym, ◌∙◌, arith, Bool, List, [], ◌∷◌, append-nil}
use Rattle.pw_value.specs.Objects.{Object}
use Rattle.pw_cmean.specs.Acts.{Act, State, Ending, Outcome, Gives, Ends, Wrong, give, stop, wrong, go_on, ◌>>=◌, look, make, end_object, write, next_byte, get_char, put_char, called, returned, during, with_object}
use Rattle.pw_cmean.specs.Lasting.{state_behind, IsLater}
use Rattle.pw_cmean.proofs.ActLaws.{Laws}
use Rattle.pw_cmean.proofs.Keeping.{later-trans}

-- nothing is written or read
pub as_before : (s t : State) → t.out ≡ s.out → t.rest ≡ s.rest → t.read ≡ s.read → IsLater s t
as_before s t o r n = record { written = ([], o ∙ sym (append-nil s.out)); taken = ([], sym r, n ∙ omega arith) }

pub later-refl : (s : State) → IsLater s s
later-refl s = as_before s s refl refl refl

abbrev pub Lasts : {A : Type 0} → Act A → Type 0
Lasts m = (s : State) → IsLater s (state_behind (m s))

-- both of two acts do
pub record AreLasting (A : Type 0) (m m' : Act A) : Type 0 where
  pub first : Lasts m
  pub second : Lasts m'

twice : {A : Type 0} (m : Act A) → Lasts m → AreLasting A m m
twice m k = record { first = k; second = k }

-- go on behind it
on_behind : {A B : Type 0} (s : State) (o : Outcome A) (k : A → Act B) → IsLater s (state_behind o) → ((a : A) → Lasts (k a)) → IsLater s (state_behind (go_on o k))
unfolding go_on
on_behind s (Gives a t) k p q = later-trans s t _ p (q a t)
on_behind s (Ends ending t) k p q = p

bind_lasts : {A B : Type 0} (m : Act A) (k : A → Act B) → Lasts m → ((a : A) → Lasts (k a)) → Lasts (m >>= k)
unfolding ◌>>=◌
bind_lasts m k p q s = on_behind s (m s) k (p s) q

-- while a function is active
returned_later : {A : Type 0} (s : State) (name : List ℕ) (o : Outcome A) → IsLater (called name s) (state_behind o) → IsLater s (state_behind (returned name s.active o))
unfolding called returned
returned_later s name (Gives a t) p = record { written = p.written; taken = p.taken }
returned_later s name (Ends ending t) p = record { written = p.written; taken = p.taken }

during_lasts : {A : Type 0} (name : List ℕ) (m : Act A) → Lasts m → Lasts (during name m)
unfolding during
during_lasts name m p s = returned_later s name (m (called name s)) (p (called name s))

-- an object of its own, which ends behind the act
object_later : {A : Type 0} (s : State) (objects : List Object) (number : ℕ) (o : Outcome A) → IsLater (record s { objects = objects }) (state_behind o)
    → IsLater s (state_behind (go_on o (λ a. end_object number >>= λ u. give a)))
unfolding go_on give end_object ◌>>=◌
object_later s objects number (Gives a t) p = record { written = p.written; taken = p.taken }
object_later s objects number (Ends ending t) p = record { written = p.written; taken = p.taken }

with_object_lasts : {A : Type 0} (size : ℕ) (w : Bool) (f : ℕ → Act A) → ((n : ℕ) → Lasts (f n)) → Lasts (with_object size w f)
unfolding with_object make ◌>>=◌ go_on
with_object_lasts size w f p s = object_later s _ _ (f _ _) (p _ _)

read_later : (s : State) (rest : List ℕ) → s.rest ≡ rest → IsLater s (state_behind (next_byte rest s))
unfolding next_byte
read_later s [] e = later-refl s
read_later s (b ∷ rest) e = record { written = ([], sym (append-nil s.out)); taken = (b ∷ [], e, omega arith) }

pub lasting : Laws AreLasting
unfolding give stop look write get_char put_char
lasting = record {
  gives = λ A a. twice (give a) λ s. later-refl s;
  stops = λ A e. twice {A = A} (stop e) λ s. later-refl s;
  selfs = λ A m m' p. record { first = p.second; second = p.second };
  bounds = λ A m p. record { first = λ s. later-refl s; second = p.second };
  looks = λ A f. twice (look f) λ s. later-refl s;
  writes = λ n i bytes. twice (write n i bytes) λ s. as_before s _ refl refl refl;
  gets = twice get_char λ s. read_later s s.rest refl;
  puts = λ b. twice (put_char b) λ s. record { written = (b ∷ [], refl); taken = ([], refl, omega arith) };
  durings = λ A name m m' p. record { first = during_lasts name m p.first; second = during_lasts name m' p.second };
  withs = λ A size w f f' p. record { first = with_object_lasts size w f (λ n. (p n).first); second = with_object_lasts size w f' (λ n. (p n).second) };
  binds = λ A B m m' k k' p q. record { first = bind_lasts m k p.first (λ a. (q a).first); second = bind_lasts m' k' p.second (λ a. (q a).second) };
}

-- an object ends
pub end_lasts : (number : ℕ) → AreLasting (Unit {0}) (end_object number) (end_object number)
unfolding end_object
end_lasts number = twice (end_object number) λ s. as_before s _ refl refl refl

-- ---- one act

abbrev pub L : {A : Type 0} → Act A → Type 0
L {A = A} m = AreLasting A m m

pub of_one : {A : Type 0} (m : Act A) → Lasts m → L m
of_one m k = twice m k

pub then_l : {A B : Type 0} {m : Act A} {k : A → Act B} → L m → ((a : A) → L (k a)) → L (m >>= k)
then_l {A = A} {B = B} {m = m} {k = k} p q = lasting.binds A B m m k k p q

pub give_l : {A : Type 0} (a : A) → L (give a)
give_l {A = A} a = lasting.gives A a

pub stop_l : {A : Type 0} (e : Ending) → L {A = A} (stop e)
stop_l {A = A} e = lasting.stops A e

pub wrong_l : {A : Type 0} → L {A = A} wrong
unfolding wrong
wrong_l {A = A} = lasting.stops A Wrong
