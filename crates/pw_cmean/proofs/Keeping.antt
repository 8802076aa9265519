-- The output grows, the input is read, the objects and the active functions stay: by the laws of acts.
use Rattle.std.proofs.Common.{ℕ, zero, suc, ◌+◌, ◌<◌, ◌≡◌, ◌≢◌, refl, sym, ap, ◌∙◌, arith, Bool, false, List, [], ◌∷◌, ◌++◌, append_assoc, length, length-append, length-set, set, get_or-set_other}
use Rattle.std.proofs.lemmas.Grind.{common_steps}
use Rattle.pw_value.specs.declared.value.Byte.{Byte}
use Rattle.pw_value.specs.Objects.{Object, object_at, no_object, with_bytes, written, ended}
use Rattle.pw_value.proofs.Ranges.{length-with_bytes}
use Rattle.pw_cmean.specs.Acts.{Act, State, Outcome, Gives, Ends, give, stop, go_on, ◌>>=◌, look, make, end_object, write, next_byte, get_char, put_char, called, returned, during, with_object}
use Rattle.pw_cmean.specs.Lasting.{state_behind, IsLater, KeepsObjects, KeepsActive}
use Rattle.pw_cmean.proofs.ActLaws.{Laws}

-- ---- what is kept

pub record IsKept (s t : State) : Type 0 where
  pub later : IsLater s t
  pub objects : KeepsObjects s t

-- nothing is written, read or changed
same-kept : (s t : State) → t.out ≡ s.out → t.rest ≡ s.rest → t.read ≡ s.read → KeepsObjects s t → IsKept s t
same-kept s t o r n k = record {
  later = record { written = ([], o ∙ grind (arith, common_steps)); taken = ([], sym r, n ∙ omega arith) };
  objects = k;
}

objects-refl : (s t : State) → t.objects ≡ s.objects → KeepsObjects s t
objects-refl s t e = record {
  count = omega (arith, ap length e);
  sizes = λ n below. ap (λ x. length (object_at x n).bytes) e;
  living = λ n below. ap (λ x. (object_at x n).live) e;
  writable = λ n below. ap (λ x. (object_at x n).writable) e;
}

pub kept-refl : (s : State) → IsKept s s
kept-refl s = same-kept s s refl refl refl (objects-refl s s refl)

pub later-trans : (s t u : State) → IsLater s t → IsLater t u → IsLater s u
later-trans s t u p q = record {
  written = (p.written.0 ++ q.written.0, q.written.1 ∙ ap (λ x. x ++ q.written.0) p.written.1 ∙ append_assoc s.out p.written.0 q.written.0);
  taken = (
    p.taken.0 ++ q.taken.0,
    p.taken.1 ∙ ap (λ x. p.taken.0 ++ x) q.taken.1 ∙ sym (append_assoc p.taken.0 q.taken.0 u.rest),
    (let e : length (p.taken.0 ++ q.taken.0) ≡ length p.taken.0 + length q.taken.0 = length-append p.taken.0 q.taken.0 in omega (arith, e, p.taken.2, q.taken.2)),
  );
}

objects-trans : (s t u : State) → KeepsObjects s t → KeepsObjects t u → KeepsObjects s u
objects-trans s t u p q = record {
  count = omega arith;
  sizes = λ n below. q.sizes n (omega (arith, p.count)) ∙ p.sizes n below;
  living = λ n below. q.living n (omega (arith, p.count)) ∙ p.living n below;
  writable = λ n below. q.writable n (omega (arith, p.count)) ∙ p.writable n below;
}

pub kept-trans : (s t u : State) → IsKept s t → IsKept t u → IsKept s u
kept-trans s t u p q = record { later = later-trans s t u p.later q.later; objects = objects-trans s t u p.objects q.objects }

-- ---- an act that keeps them

abbrev pub Keeps : {A : Type 0} → Act A → Type 0
Keeps m = (s : State) → IsKept s (state_behind (m s))

-- both of two acts do
abbrev pub IsKeeping : (A : Type 0) → Act A → Act A → Type 0
IsKeeping A m m' = Keeps m × Keeps m'

-- go on behind it
on-k : {A B : Type 0} (s : State) (o : Outcome A) (k : A → Act B) → IsKept s (state_behind o) → ((a : A) (t : State) → IsKept t (state_behind (k a t)))
    → IsKept s (state_behind (go_on o k))
unfolding go_on
on-k s (Gives a t) k p q = kept-trans s t _ p (q a t)
on-k s (Ends ending t) k p q = p

-- an object in the place of one from which f cannot tell it
at-set : {X : Type 0} (f : Object → X) (os : List Object) (number n : ℕ) (x : Object) → f x ≡ f (object_at os number)
    → f (object_at (set os number x) n) ≡ f (object_at os n)
at-set f [] number n x e = refl
at-set f (o ∷ os) zero zero x e = e
at-set f (o ∷ os) zero (suc n) x e = refl
at-set f (o ∷ os) (suc number) zero x e = refl
at-set f (o ∷ os) (suc number) (suc n) x e = at-set f os number n x e

-- the bytes of an object are others, as many
write-k : (number offset : ℕ) (bytes : List Byte) (os : List Object) (n : ℕ)
    → (length (object_at (written number offset bytes os) n).bytes ≡ length (object_at os n).bytes)
    × ((object_at (written number offset bytes os) n).live ≡ (object_at os n).live)
    × ((object_at (written number offset bytes os) n).writable ≡ (object_at os n).writable)
write-k number offset bytes os n =
    let new : Object = record (object_at os number) { bytes = with_bytes bytes offset (object_at os number).bytes } in (
      at-set (λ o. length o.bytes) os number n new (length-with_bytes bytes offset (object_at os number).bytes),
      at-set (λ o. o.live) os number n new refl,
      at-set (λ o. o.writable) os number n new refl,
    )

written-k : (number offset : ℕ) (bytes : List Byte) (s : State) → KeepsObjects s (record s { objects = written number offset bytes s.objects })
written-k number offset bytes s = record {
  count = omega (arith, length-set s.objects number (record (object_at s.objects number) { bytes = with_bytes bytes offset (object_at s.objects number).bytes }));
  sizes = λ n below. (write-k number offset bytes s.objects n).0;
  living = λ n below. (write-k number offset bytes s.objects n).1;
  writable = λ n below. (write-k number offset bytes s.objects n).2;
}

-- an object of its own, which ends behind the act
made-k : (s : State) (new : Object) → KeepsObjects s (record s { objects = s.objects ++ new ∷ [] })
made-k s new = record {
  count = omega (arith, length-append s.objects (new ∷ []));
  sizes = λ n below. ap (λ o. length o.bytes) (get_or-append_left n below);
  living = λ n below. ap (λ o. o.live) (get_or-append_left n below);
  writable = λ n below. ap (λ o. o.writable) (get_or-append_left n below);
}
  where
    get_or-append_left : (n : ℕ) → n < length s.objects → object_at (s.objects ++ new ∷ []) n ≡ object_at s.objects n
    get_or-append_left n below = grind (arith, common_steps)

-- the object of the number of those before it ends
ended-k : (s t : State) → KeepsObjects s t → KeepsObjects s (record t { objects = ended (length s.objects) t.objects })
ended-k s t k = record {
  count = omega (arith, length-set t.objects (length s.objects) (record (object_at t.objects (length s.objects)) { live = false }));
  sizes = λ n below. ap (λ o. length o.bytes) (other n below) ∙ k.sizes n below;
  living = λ n below. ap (λ o. o.live) (other n below) ∙ k.living n below;
  writable = λ n below. ap (λ o. o.writable) (other n below) ∙ k.writable n below;
}
  where
    other : (n : ℕ) → n < length s.objects → object_at (ended (length s.objects) t.objects) n ≡ object_at t.objects n
    other n below =
        let apart : n ≢ length s.objects = λ e. absurd (omega arith) in
        get_or-set_other t.objects (length s.objects) n (record (object_at t.objects (length s.objects)) { live = false }) no_object apart

end-k : {A : Type 0} (s : State) (new : Object) (o : Outcome A) → IsKept (record s { objects = s.objects ++ new ∷ [] }) (state_behind o)
    → IsKept s (state_behind (go_on o (λ a. end_object (length s.objects) >>= λ u. give a)))
unfolding go_on give end_object ◌>>=◌
end-k s new (Gives a t) p =
    let all : IsKept s t = kept-trans s _ t (same-kept s _ refl refl refl (made-k s new)) p in
    record { later = record { written = all.later.written; taken = all.later.taken }; objects = ended-k s t all.objects }
end-k s new (Ends ending t) p = kept-trans s _ t (same-kept s _ refl refl refl (made-k s new)) p

-- what is kept has nothing to do with active functions and moments
moments-k : (s s' t t' : State) → s'.out ≡ s.out → s'.rest ≡ s.rest → s'.read ≡ s.read → s'.objects ≡ s.objects
    → t'.out ≡ t.out → t'.rest ≡ t.rest → t'.read ≡ t.read → t'.objects ≡ t.objects → IsKept s t → IsKept s' t'
moments-k s s' t t' o r n k o' r' n' k' p =
    let front : IsKept s' s = same-kept s' s (sym o) (sym r) (sym n) (objects-refl s' s (sym k)) in
    let back : IsKept t t' = same-kept t t' o' r' n' (objects-refl t t' k') in
    kept-trans s' s t' front (kept-trans s t t' p back)

-- while a function is active
called-k : {A : Type 0} (s : State) (name : List ℕ) (o : Outcome A) → IsKept (called name s) (state_behind o)
    → IsKept s (state_behind (returned name s.active o))
unfolding called returned
called-k s name (Gives a t) p = moments-k (called name s) s t _ refl refl refl refl refl refl refl refl p
called-k s name (Ends ending t) p = moments-k (called name s) s t t refl refl refl refl refl refl refl refl p

read-k : (s : State) (rest : List ℕ) → s.rest ≡ rest → IsKept s (state_behind (next_byte rest s))
unfolding next_byte
read-k s [] e = kept-refl s
read-k s (b ∷ rest) e = record {
  later = record { written = ([], grind (arith, common_steps)); taken = (b ∷ [], e, omega arith) };
  objects = objects-refl s _ refl;
}

-- the same of one act
both : {A : Type 0} (m : Act A) → Keeps m → IsKeeping A m m
both m k = (k, k)

pub during-k : {A : Type 0} (name : List ℕ) (m : Act A) → Keeps m → Keeps (during name m)
unfolding during
during-k name m p s = called-k s name (m (called name s)) (p (called name s))

pub with_object-k : {A : Type 0} (size : ℕ) (w : Bool) (f : ℕ → Act A) → ((n : ℕ) → Keeps (f n)) → Keeps (with_object size w f)
unfolding with_object make ◌>>=◌ go_on
with_object-k size w f p s = end-k s _ (f (length s.objects) _) (p (length s.objects) _)

pub bind-k : {A B : Type 0} (m : Act A) (k : A → Act B) → Keeps m → ((a : A) → Keeps (k a)) → Keeps (m >>= k)
unfolding ◌>>=◌
bind-k m k p q s = on-k s (m s) k (p s) (λ a t. q a t)

pub keeping : Laws IsKeeping
unfolding give stop look write get_char put_char
keeping = record {
  gives = λ A a. both (give a) λ s. kept-refl s;
  stops = λ A e. both {A = A} (stop e) λ s. kept-refl s;
  selfs = λ A m m' p. (p.1, p.1);
  bounds = λ A m p. ((λ s. kept-refl s), p.1);
  looks = λ A f. both (look f) λ s. kept-refl s;
  writes = λ n i bytes. both (write n i bytes) λ s. same-kept s _ refl refl refl (written-k n i bytes s);
  gets = both get_char λ s. read-k s s.rest refl;
  puts = λ b. both (put_char b) λ s. record { later = record { written = (b ∷ [], refl); taken = ([], refl, omega arith) }; objects = objects-refl s _ refl };
  durings = λ A name m m' p. (during-k name m p.0, during-k name m' p.1);
  withs = λ A size w f f' p. (with_object-k size w f (λ n. (p n).0), with_object-k size w f' (λ n. (p n).1));
  binds = λ A B m m' k k' p q. (bind-k m k p.0 (λ a. (q a).0), bind-k m' k' p.1 (λ a. (q a).1));
}

-- ---- active functions

active-trans : {A : Type 0} (s t : State) (o : Outcome A) → t.active ≡ s.active → KeepsActive t o → KeepsActive s o
active-trans s t (Gives a u) e k = k ∙ e
active-trans s t (Ends ending u) e k = tt

abbrev pub Restores : {A : Type 0} → Act A → Type 0
Restores m = (s : State) → KeepsActive s (m s)

abbrev pub AreRestoring : (A : Type 0) → Act A → Act A → Type 0
AreRestoring A m m' = Restores m × Restores m'

on-a : {A B : Type 0} (s : State) (o : Outcome A) (k : A → Act B) → KeepsActive s o → ((a : A) → Restores (k a)) → KeepsActive s (go_on o k)
unfolding go_on
on-a s (Gives a t) k p q = active-trans s t (k a t) p (q a t)
on-a s (Ends ending t) k p q = tt

bind-a : {A B : Type 0} (m : Act A) (k : A → Act B) → Restores m → ((a : A) → Restores (k a)) → Restores (m >>= k)
unfolding ◌>>=◌
bind-a m k p q s = on-a s (m s) k (p s) q

returned-a : {A : Type 0} (s : State) (name : List ℕ) (o : Outcome A) → KeepsActive s (returned name s.active o)
unfolding returned
returned-a s name (Gives a t) = refl
returned-a s name (Ends ending t) = tt

during-a : {A : Type 0} (name : List ℕ) (m : Act A) → Restores (during name m)
unfolding during
during-a name m s = returned-a s name (m (called name s))

end-a : {A : Type 0} (s : State) (n : ℕ) (o : Outcome A) → KeepsActive s o → KeepsActive s (go_on o (λ a. end_object n >>= λ u. give a))
unfolding go_on end_object give ◌>>=◌
end-a s n (Gives a t) p = p
end-a s n (Ends ending t) p = tt

with_object-a : {A : Type 0} (size : ℕ) (w : Bool) (f : ℕ → Act A) → ((n : ℕ) → Restores (f n)) → Restores (with_object size w f)
unfolding with_object make ◌>>=◌ go_on
with_object-a size w f p s = end-a s (length s.objects) (f (length s.objects) _) (p (length s.objects) _)

read-a : (s : State) (rest : List ℕ) → KeepsActive s (next_byte rest s)
unfolding next_byte
read-a s [] = refl
read-a s (b ∷ rest) = refl

twice : {A : Type 0} (m : Act A) → Restores m → AreRestoring A m m
twice m k = (k, k)

pub restoring : Laws AreRestoring
unfolding give stop look write get_char put_char
restoring = record {
  gives = λ A a. twice (give a) λ s. refl;
  stops = λ A e. twice {A = A} (stop e) λ s. tt;
  selfs = λ A m m' p. (p.1, p.1);
  bounds = λ A m p. ((λ s. tt), p.1);
  looks = λ A f. twice (look f) λ s. refl;
  writes = λ n i bytes. twice (write n i bytes) λ s. refl;
  gets = twice get_char λ s. read-a s s.rest;
  puts = λ b. twice (put_char b) λ s. refl;
  durings = λ A name m m' p. (during-a name m, during-a name m');
  withs = λ A size w f f' p. (with_object-a size w f (λ n. (p n).0), with_object-a size w f' (λ n. (p n).1));
  binds = λ A B m m' k k' p q. (bind-a m k p.0 (λ a. (q a).0), bind-a m' k' p.1 (λ a. (q a).1));
}
