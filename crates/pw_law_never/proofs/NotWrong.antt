-- Acts that end the run nowhere but where the meaning has an end, from states whose objects hold bytes.
use Rattle.std.proofs.Common.{ℕ, ◌≡◌, ◌≢◌, refl, Bool, true, false, List, [], ◌∷◌, length, Option, Some, None}
use Rattle.std.specs.Prelude.{All, is_none}
use Rattle.std.proofs.lemmas.Bool.{true≢false}
use Rattle.std.proofs.lemmas.List.Elements.{All-nil, All-cons, All-append, All-replicate}
use Rattle.pw_value.specs.declared.value.Byte.{Byte}
use Rattle.pw_value.specs.declared.value.Byte.TheVariants as B
use Rattle.pw_cmean.specs.declared.undefined.Undef.{Undef}
use Rattle.pw_cmean.specs.Undefined.{Finding, least}
use Rattle.pw_cmean.specs.Acts.{Act, State, Outcome, Gives, Ends, Ending, Wrong, Site, give, stop, go_on, ◌>>=◌, branch, look, make, end_object, write, get_char, next_byte, put_char, called, returned, during, with_object, need, undefined, told, judge}
use Rattle.pw_cmean.specs.Access.{objects_now}
use Rattle.pw_cmean.specs.Typed.{IsByte, HoldsBytes, IfGives}
use Rattle.pw_cmean.proofs.SoundActs.{Sound, bind-s, give-s, NoneHold, judge-s, HoldBytes, objects_now-s, need-s}

-- not Wrong, where the run ends
abbrev pub IsRight : {A : Type 0} → Outcome A → Type 0
IsRight (Gives a s) = Unit {0}
IsRight (Ends ending s) = ending ≢ Wrong

pub record Right {A : Type 0} (m : Act A) : Type 0 where
  pub run : (s : State) → HoldsBytes s → IsRight (m s)

-- with what is given
pub record Good {A : Type 0} (P : A → Type 0) (m : Act A) : Type 0 where
  pub sound : Sound P m
  pub right : Right m

-- there is one
abbrev pub HasOne : {A : Type 0} → Option A → Type 0
HasOne {A} o = (a : A) × (o ≡ Some a)

-- ---- acts in order

on-r : {A B : Type 0} (P : A → Type 0) (o : Outcome A) (k : A → Act B) → IfGives P o → IsRight o → ((a : A) → P a → Right (k a)) → IsRight (go_on o k)
unfolding go_on
on-r P (Gives a s) k h r q = (q a h.0).run s h.1
on-r P (Ends ending s) k h r q = r

pub bind-r : {A B : Type 0} {P : A → Type 0} {m : Act A} {k : A → Act B} → Good P m → ((a : A) → P a → Right (k a)) → Right (m >>= k)
unfolding ◌>>=◌
bind-r {A} {B} {P} {m} {k} g q = record { run = λ s h. on-r P (m s) k (g.sound.run s h) (g.right.run s h) q }

pub bind-g : {A B : Type 0} {P : A → Type 0} {Q : B → Type 0} {m : Act A} {k : A → Act B} → Good P m → ((a : A) → P a → Good Q (k a)) → Good Q (m >>= k)
bind-g g q = record { sound = bind-s g.sound λ a p. (q a p).sound; right = bind-r g λ a p. (q a p).right }

pub give-r : {A : Type 0} (a : A) → Right (give a)
unfolding give
give-r a = record { run = λ s h. tt }

pub give-g : {A : Type 0} (P : A → Type 0) (a : A) → P a → Good P (give a)
give-g P a p = record { sound = give-s P a p; right = give-r a }

mapped-r : {A B : Type 0} (o : Outcome A) (f : A → B) → IsRight o → IsRight (go_on o (λ a. give (f a)))
unfolding go_on give
mapped-r (Gives a s) f r = tt
mapped-r (Ends ending s) f r = r

-- what is given is turned into another thing
pub map-r : {A B : Type 0} {m : Act A} (f : A → B) → Right m → Right (m >>= λ a. give (f a))
unfolding ◌>>=◌
map-r {A} {B} {m} f r = record { run = λ s h. mapped-r (m s) f (r.run s h) }

pub stop-r : {A : Type 0} (e : Ending) → e ≢ Wrong → Right {A = A} (stop e)
unfolding stop
stop-r e h = record { run = λ s k. h }

pub branch-r : {A : Type 0} (b : Bool) {m n : Act A} → Right m → Right n → Right (branch b m n)
unfolding branch
branch-r true p q = p
branch-r false p q = q

pub need-r : {A : Type 0} (o : Option A) → HasOne o → Right (need o)
unfolding need
need-r (Some a) h = give-r a
need-r None h = absurd (let e : None ≡ Some h.0 = h.1 in cc)

pub need-g : {A : Type 0} (o : Option A) → HasOne o → Good (λ a. o ≡ Some a) (need o)
need-g o h = record { sound = need-s (λ a. o ≡ Some a) o λ a e. e; right = need-r o h }

pub undefined-r : {A : Type 0} (at : Site) (k : Undef) → Right {A = A} (undefined at k)
unfolding undefined
undefined-r at k = stop-r _ (λ e. cc)

told-r : (at : Site) (o : Option Undef) → Right (told at o)
unfolding told
told-r at None = give-r tt
told-r at (Some k) = undefined-r at k

pub judge-g : (at : Site) (fs : List Finding) → Good (λ u. NoneHold fs) (judge at fs)
unfolding judge
judge-g at fs = record { sound = judge-s at fs; right = told-r at (least fs) }

pub look-r : {A : Type 0} (f : State → A) → Right (look f)
unfolding look
look-r f = record { run = λ s h. tt }

pub objects_now-g : Good HoldBytes objects_now
unfolding objects_now
objects_now-g = record { sound = objects_now-s; right = look-r (λ s. s.objects) }

pub write-r : (n i : ℕ) (bytes : List Byte) → Right (write n i bytes)
unfolding write
write-r n i bytes = record { run = λ s h. tt }

next-r : (rest : List ℕ) (s : State) → IsRight (next_byte rest s)
unfolding next_byte
next-r [] s = tt
next-r (b ∷ rest) s = tt

pub get_char-r : Right get_char
unfolding get_char
get_char-r = record { run = λ s h. next-r s.rest s }

pub put_char-r : (b : ℕ) → Right (put_char b)
unfolding put_char
put_char-r b = record { run = λ s h. tt }

returned-r : {A : Type 0} (name : List ℕ) (active : List (List ℕ)) (o : Outcome A) → IsRight o → IsRight (returned name active o)
unfolding returned
returned-r name active (Gives a s) h = tt
returned-r name active (Ends ending s) h = h

pub during-r : {A : Type 0} (name : List ℕ) {m : Act A} → Right m → Right (during name m)
unfolding during called
during-r {A} name {m} p = record { run = λ s h. returned-r name s.active (m (called name s)) (p.run (called name s) (record { objects = h.objects; input = h.input })) }

ended-r : {A : Type 0} (n : ℕ) (o : Outcome A) → IsRight o → IsRight (go_on o (λ a. end_object n >>= λ u. give a))
unfolding go_on ◌>>=◌ end_object give
ended-r n (Gives a s) h = tt
ended-r n (Ends ending s) h = h

pub with_object-r : {A : Type 0} (size : ℕ) (w : Bool) {f : ℕ → Act A} → ((n : ℕ) → Right (f n)) → Right (with_object size w f)
unfolding with_object make ◌>>=◌ go_on
with_object-r {A} size w {f} p = record {
  run = λ s h. ended-r (length s.objects) (f (length s.objects) _) ((p (length s.objects)).run _ (record {
    objects = All-append (λ o. All IsByte o.bytes) s.objects _ h.objects
        (All-cons (λ o. All IsByte o.bytes) _ [] (All-replicate IsByte size B.Undefined tt) (All-nil (λ o. All IsByte o.bytes)));
    input = h.input;
  }));
}

-- ---- what there is

pub one-of : {A : Type 0} (o : Option A) → is_none o ≡ false → HasOne o
one-of (Some a) h = (a, refl)
one-of None h = absurd (true≢false h)
