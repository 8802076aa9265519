-- Bytes of objects from an offset on, and objects at their numbers.
use Rattle.std.proofs.Common.{ℕ, zero, suc, ◌+◌, ◌^◌, ◌<◌, ◌≡◌, refl, ◌∙◌, ap, subst, false, List, [], ◌∷◌, ◌++◌, length, drop, set, get_or, All, arith, add-one}
use Rattle.std.proofs.lemmas.Grind.{common_steps}
use Rattle.std.proofs.lemmas.List.{map-set, length-set, length-map}
use Rattle.std.proofs.lemmas.List.Elements.{All-set}
use Rattle.std.proofs.Math.ListN.{get_or-map}
use Rattle.pw_value.specs.declared.value.Byte.{Byte}
use Rattle.pw_value.specs.Objects as objects
use Rattle.pw_value.specs.Objects.{byte_at, bytes_from, with_bytes, object_at, no_object, ended, written}
use Rattle.pw_interp_state.specs.declared.objects.Stored.{Stored}
use Rattle.pw_interp_state.specs.Views.{view_object, view_objects, IsShort}

-- one byte more
pub bytes_from_more : (n offset : ℕ) (bytes : List Byte) → bytes_from (n + 1) offset bytes ≡ bytes_from n offset bytes ++ byte_at bytes (offset + n) ∷ []
bytes_from_more zero offset bytes = grind (arith, common_steps)
bytes_from_more (suc n) offset bytes =
    let e : bytes_from (n + 1) (suc offset) bytes ≡ bytes_from n (suc offset) bytes ++ byte_at bytes (suc offset + n) ∷ [] = bytes_from_more n (suc offset) bytes in
    let i : suc offset + n ≡ offset + suc n = omega arith in
    rw (add-one, ← i) (ap (λ rest. byte_at bytes offset ∷ rest) (rw add-one at e))

-- the new bytes from a place on, of which one was put
pub with_bytes_step : (new : List Byte) (i offset : ℕ) (bytes : List Byte) (d : Byte) → i < length new
    → with_bytes (drop i new) (offset + i) bytes ≡ with_bytes (drop (i + 1) new) (offset + (i + 1)) (set bytes (offset + i) (get_or new i d))
with_bytes_step [] i offset bytes d less = absurd (omega arith)
with_bytes_step (x ∷ new) zero offset bytes d less = grind (arith, common_steps)
with_bytes_step (x ∷ new) (suc i) offset bytes d less =
    let e : with_bytes (drop i new) (suc offset + i) bytes ≡ with_bytes (drop (i + 1) new) (suc offset + (i + 1)) (set bytes (suc offset + i) (get_or new i d)) = with_bytes_step new i (suc offset) bytes d (omega arith) in
    let a : suc offset + i ≡ offset + suc i = omega arith in
    let b : suc offset + (i + 1) ≡ offset + suc (i + 1) = omega arith in
    let c : suc i + 1 ≡ suc (i + 1) = omega arith in
    rw (c, ← a, ← b) e

pub length_with_bytes : (new : List Byte) (offset : ℕ) (bytes : List Byte) → length (with_bytes new offset bytes) ≡ length bytes
length_with_bytes [] offset bytes = refl
length_with_bytes (x ∷ new) offset bytes = length_with_bytes new (suc offset) (set bytes offset x) ∙ length-set bytes offset x

-- ---- objects at their numbers

-- an object that changes
view_set : (all : List Stored) (k number : ℕ) (o new d : Stored) (g : objects.Object → objects.Object) → k < length all → number ≡ k → o ≡ get_or all k d
    → view_object new ≡ g (view_object o) → view_objects (set all k new) ≡ set (view_objects all) number (g (object_at (view_objects all) number))
view_set [] k number o new d g less at is e = absurd (omega arith)
view_set (x ∷ all) zero number o new d g less at is e = rw at (ap (λ y. y ∷ view_objects all) (e ∙ ap (λ y. g (view_object y)) is))
view_set (x ∷ all) (suc k) number o new d g less at is e = rw at (ap (λ ys. view_object x ∷ ys) (view_set all k k o new d g (omega arith) refl is e))

pub ended_within : (all : List Stored) (k number : ℕ) (o new d : Stored) → k < length all → number ≡ k → o ≡ get_or all k d
    → view_object new ≡ record (view_object o) { live = false } → view_objects (set all k new) ≡ ended number (view_objects all)
ended_within all k number o new d less at is e = view_set all k number o new d (λ x. record x { live = false }) less at is e

pub written_within : (all : List Stored) (k number offset : ℕ) (bytes : List Byte) (o new d : Stored) → k < length all → number ≡ k → o ≡ get_or all k d
    → view_object new ≡ record (view_object o) { bytes = with_bytes bytes offset o.bytes.items } → view_objects (set all k new) ≡ written number offset bytes (view_objects all)
written_within all k number offset bytes o new d less at is e = view_set all k number o new d (λ x. record x { bytes = with_bytes bytes offset x.bytes }) less at is e

-- the objects are as short as before
pub short_at : (all : List Stored) (k : ℕ) (o d : Stored) → All IsShort (view_objects all) → k < length all → o ≡ get_or all k d → length o.bytes.items < 2 ^ 32
short_at all k o d short less is =
    let e : get_or (view_objects all) k (view_object d) ≡ view_object (get_or all k d) = get_or-map view_object all k d in
    let h : k < length (view_objects all) = simp length-map less in
    rw is (subst (λ x. IsShort x) e (short k (view_object d) h))

pub short_set : (all : List Stored) (k : ℕ) (new : Stored) → All IsShort (view_objects all) → length new.bytes.items < 2 ^ 32 → All IsShort (view_objects (set all k new))
short_set all k new short less = rw (map-set view_object all k new) (All-set IsShort (view_objects all) k (view_object new) less short)
