-- Acts that give values of a type and leave bytes in the objects.
use Rattle.std.proofs.Common.{ℕ, zero, suc, ◌^◌, ◌<◌, ◌≡◌, refl, subst, arith, Bool, true, false, List, [], ◌∷◌, length, get_or, set, Option, Some, None}
use Rattle.std.specs.Prelude.{All, if◌then◌else◌}
use Rattle.std.proofs.lemmas.List.Elements.{All-head, All-tail, All-nil, All-cons, All-append, All-set, All-replicate}
use Rattle.pw_value.specs.declared.value.Byte.{Byte}
use Rattle.pw_value.specs.declared.value.Byte.TheVariants as B
use Rattle.pw_value.specs.Objects.{Object, object_at, no_object, byte_at, bytes_from, with_bytes}
use Rattle.pw_cmean.specs.declared.undefined.Undef.{Undef}
use Rattle.pw_cmean.specs.Undefined.{Finding, lesser, least}
use Rattle.pw_cmean.specs.Acts.{Act, State, Outcome, Gives, Ends, Ending, Wrong, Site, give, stop, go_on, ◌>>=◌, branch, wrong, look, make, end_object, write, next_byte, get_char, put_char, called, returned, during, with_object, need, undefined, told, judge}
use Rattle.pw_cmean.specs.Access.{objects_now}
use Rattle.pw_cmean.specs.Typed.{IsByte, HoldsBytes, IfGives}

pub record Sound {A : Type 0} (P : A → Type 0) (m : Act A) : Type 0 where
  pub run : (s : State) → HoldsBytes s → IfGives P (m s)

-- whatever is given
abbrev pub Any : {A : Type 0} → A → Type 0
Any a = Unit {0}

-- ---- acts in order

on-s : {A B : Type 0} (P : A → Type 0) (Q : B → Type 0) (o : Outcome A) (k : A → Act B) → IfGives P o → ((a : A) → P a → Sound Q (k a)) → IfGives Q (go_on o k)
unfolding go_on
on-s P Q (Gives a s) k h q = (q a h.0).run s h.1
on-s P Q (Ends ending s) k h q = tt

pub bind-s : {A B : Type 0} {P : A → Type 0} {Q : B → Type 0} {m : Act A} {k : A → Act B} → Sound P m → ((a : A) → P a → Sound Q (k a)) → Sound Q (m >>= k)
unfolding ◌>>=◌
bind-s {A} {B} {P} {Q} {m} {k} p q = record { run = λ s h. on-s P Q (m s) k (p.run s h) q }

pub give-s : {A : Type 0} (P : A → Type 0) (a : A) → P a → Sound P (give a)
unfolding give
give-s P a p = record { run = λ s h. (p, h) }

pub stop-s : {A : Type 0} (P : A → Type 0) (e : Ending) → Sound P (stop e)
unfolding stop
stop-s P e = record { run = λ s h. tt }

pub branch-s : {A : Type 0} {P : A → Type 0} (b : Bool) {m n : Act A} → Sound P m → Sound P n → Sound P (branch b m n)
unfolding branch
branch-s true p q = p
branch-s false p q = q

pub wrong-s : {A : Type 0} (P : A → Type 0) → Sound P wrong
unfolding wrong
wrong-s P = stop-s P Wrong

pub need-s : {A : Type 0} (P : A → Type 0) (o : Option A) → ((a : A) → o ≡ Some a → P a) → Sound P (need o)
unfolding need
need-s P (Some a) h = give-s P a (h a refl)
need-s P None h = wrong-s P

pub undefined-s : {A : Type 0} (P : A → Type 0) (at : Site) (k : Undef) → Sound P (undefined at k)
unfolding undefined
undefined-s P at k = stop-s P _

-- ---- findings

-- a step is none of these
abbrev pub NoneHold : List Finding → Type 0
NoneHold [] = Unit {0}
NoneHold (f ∷ rest) = (f.holds ≡ false) × NoneHold rest

first-none : (op : Undef) (b : Bool) (rest : List Finding) → (if b then Some (lesser op (least rest)) else least rest) ≡ None
    → (least rest ≡ None → NoneHold rest) → (b ≡ false) × NoneHold rest
first-none op true rest e h = cc
first-none op false rest e h = (refl, h e)

least-none : (fs : List Finding) → least fs ≡ None → NoneHold fs
least-none [] e = tt
least-none (f ∷ rest) e = first-none f.operation f.holds rest e (least-none rest)

told-s : (at : Site) (fs : List Finding) (o : Option Undef) → least fs ≡ o → Sound (λ u. NoneHold fs) (told at o)
unfolding told
told-s at fs None e = give-s (λ u. NoneHold fs) tt (least-none fs e)
told-s at fs (Some k) e = undefined-s (λ u. NoneHold fs) at k

pub judge-s : (at : Site) (fs : List Finding) → Sound (λ u. NoneHold fs) (judge at fs)
unfolding judge
judge-s at fs = told-s at fs (least fs) refl

-- ---- bytes of objects

abbrev pub HoldBytes : List Object → Type 0
HoldBytes os = All (λ o. All IsByte o.bytes) os

all-at : {X : Type 0} (P : X → Type 0) (xs : List X) (n : ℕ) (d : X) → All P xs → P d → P (get_or xs n d)
all-at P [] n d h k = k
all-at P (x ∷ xs) zero d h k = All-head P x xs h
all-at P (x ∷ xs) (suc n) d h k = all-at P xs n d (All-tail P x xs h) k

pub object-bytes : (os : List Object) (n : ℕ) → HoldBytes os → All IsByte (object_at os n).bytes
object-bytes os n h = all-at (λ o. All IsByte o.bytes) os n no_object h (All-nil IsByte)

pub bytes_from-are : (n i : ℕ) (bytes : List Byte) → All IsByte bytes → All IsByte (bytes_from n i bytes)
bytes_from-are zero i bytes h = All-nil IsByte
bytes_from-are (suc n) i bytes h =
    All-cons IsByte (byte_at bytes i) (bytes_from n (suc i) bytes) (all-at IsByte bytes i B.Undefined h tt) (bytes_from-are n (suc i) bytes h)

with_bytes-are : (new : List Byte) (i : ℕ) (bytes : List Byte) → All IsByte new → All IsByte bytes → All IsByte (with_bytes new i bytes)
with_bytes-are [] i bytes h k = k
with_bytes-are (b ∷ new) i bytes h k =
    with_bytes-are new (suc i) (set bytes i b) (All-tail IsByte b new h) (All-set IsByte bytes i b (All-head IsByte b new h) k)

set-bytes : (os : List Object) (n : ℕ) (o : Object) → All IsByte o.bytes → HoldBytes os → HoldBytes (set os n o)
set-bytes os n o h k = All-set (λ o. All IsByte o.bytes) os n o h k

-- ---- the state

pub look-s : {A : Type 0} (P : A → Type 0) (f : State → A) → ((s : State) → HoldsBytes s → P (f s)) → Sound P (look f)
unfolding look
look-s P f h = record { run = λ s k. (h s k, k) }

pub objects_now-s : Sound HoldBytes objects_now
unfolding objects_now
objects_now-s = look-s HoldBytes (λ s. s.objects) (λ s h. h.objects)

pub write-s : (n i : ℕ) (bytes : List Byte) → All IsByte bytes → Sound Any (write n i bytes)
unfolding write
write-s n i bytes b = record {
  run = λ s h. (
    tt,
    record {
      objects = set-bytes s.objects n _ (with_bytes-are bytes i (object_at s.objects n).bytes b (object-bytes s.objects n h.objects)) h.objects;
      input = h.input;
    },
  );
}

read-s : (rest : List ℕ) (s : State) → HoldsBytes s → s.rest ≡ rest → IfGives (λ n. n < 2 ^ 32) (next_byte rest s)
unfolding next_byte
read-s [] s h e = (omega arith, h)
read-s (b ∷ rest) s h e =
    let all : All (λ b. b < 256) (b ∷ rest) = subst (All (λ b. b < 256)) e h.input in
    let first : b < 256 = All-head (λ b. b < 256) b rest all in
    (omega arith, record { objects = h.objects; input = All-tail (λ b. b < 256) b rest all })

pub get_char-s : Sound (λ n. n < 2 ^ 32) get_char
unfolding get_char
get_char-s = record { run = λ s h. read-s s.rest s h refl }

pub put_char-s : (b : ℕ) → Sound Any (put_char b)
unfolding put_char
put_char-s b = record { run = λ s h. (tt, record { objects = h.objects; input = h.input }) }

returned-s : {A : Type 0} (P : A → Type 0) (name : List ℕ) (active : List (List ℕ)) (o : Outcome A) → IfGives P o → IfGives P (returned name active o)
unfolding returned
returned-s P name active (Gives a s) h = (h.0, record { objects = h.1.objects; input = h.1.input })
returned-s P name active (Ends ending s) h = tt

pub during-s : {A : Type 0} {P : A → Type 0} (name : List ℕ) {m : Act A} → Sound P m → Sound P (during name m)
unfolding during called
during-s {A} {P} name {m} p = record { run = λ s h. returned-s P name s.active (m (called name s)) (p.run (called name s) (record { objects = h.objects; input = h.input })) }

ended-s : {A : Type 0} (P : A → Type 0) (n : ℕ) (o : Outcome A) → IfGives P o → IfGives P (go_on o (λ a. end_object n >>= λ u. give a))
unfolding go_on ◌>>=◌ end_object give
ended-s P n (Gives a s) h = (h.0, record { objects = set-bytes s.objects n _ (object-bytes s.objects n h.1.objects) h.1.objects; input = h.1.input })
ended-s P n (Ends ending s) h = tt

pub with_object-s : {A : Type 0} {P : A → Type 0} (size : ℕ) (w : Bool) {f : ℕ → Act A} → ((n : ℕ) → Sound P (f n)) → Sound P (with_object size w f)
unfolding with_object make ◌>>=◌ go_on
with_object-s {A} {P} size w {f} p = record {
  run = λ s h. ended-s P (length s.objects) (f (length s.objects) _) ((p (length s.objects)).run _ (record {
    objects = All-append (λ o. All IsByte o.bytes) s.objects _ h.objects
        (All-cons (λ o. All IsByte o.bytes) _ [] (All-replicate IsByte size B.Undefined tt) (All-nil (λ o. All IsByte o.bytes)));
    input = h.input;
  }));
}
