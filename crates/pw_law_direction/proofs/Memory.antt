-- The objects of both runs: what leads to no eligible global reads the same in both, and what both write stays alike.
use Rattle.std.proofs.Common.{◌≡◌, ◌≢◌, ◌<◌, ◌==◌, ◌+◌, ◌%◌, ◌&&◌, ℕ, inl, inr, Bool, true, false, true≢false, if◌then◌else◌, Option, Some, None, List, length, refl, ap, sym, ◌∙◌, subst, length-set}
use Rattle.std.specs.Prelude.{zero, not, IfSome, option_map, nat_le, nat_lt, Contains}
use Rattle.std.specs.List.{AllByRecursion}
use Rattle.std.proofs.lemmas.Bool.{cases_lt, cases_eq}
use Rattle.std.proofs.lemmas.List.{get_or_past, get_or-set_same, get_or-set_other}
use Rattle.pw_value.specs.declared.value.Kind.{Kind}
use Rattle.pw_value.specs.declared.value.Value.{Value}
use Rattle.pw_value.specs.declared.value.Value.TheVariants.{Undefined, Num, Null, At, Piece}
use Rattle.pw_value.specs.declared.value.Byte.{Byte}
use Rattle.pw_value.specs.declared.value.Pointer.{Pointer}
use Rattle.pw_value.specs.declared.value.Pointer.TheVariants as P
use Rattle.pw_value.specs.Objects.{Object, no_object, object_at, bytes_from, with_bytes, written}
use Rattle.pw_db.specs.declared.database.Directives.{Directives}
use Rattle.pw_flow.specs.declared.flow.BinKind.{BinKind}
use Rattle.pw_flow.specs.declared.flow.BinKind.TheVariants.{Eq, Ne, LtU, LeU}
use Rattle.pw_flow.specs.ValidFlow.{kind_size}
use Rattle.pw_run_languages.specs.Programs.{Program, global_number}
use Rattle.pw_run_languages.specs.Values.{truth, same_place, is_near, is_somewhere, on_pointers, pointer_and_number, number_and_pointer, binary}
use Rattle.pw_run_languages.specs.Memory.{scalar_of, is_open, look_in, look}
use Rattle.pw_run_languages.specs.LawfulPrograms.{eligible_of, eligible_names}
use Rattle.pw_run_languages.specs.PlacedRun.{held}
use Rattle.pw_law_direction.specs.Pairs.{Active, web_frames}
use Rattle.pw_law_direction.specs.Alike.{IsPlain, FinePointer, FineValue, FineByte, AreTameBytes, names_active, GlobalStands, GlobalsStand, ObjectsAlike}
use Rattle.pw_law_direction.proofs.Elements.{map-there}
use Rattle.pw_law_direction.proofs.Tame.{scalar-tame, some-tame, bytes-from-tame, with-bytes-tame}

-- ---- objects of which one was written

pub is-within : (objects : List Object) (o : ℕ) → (object_at objects o).live ≡ true → o < length objects
is-within objects o live = elim (cases_lt o (length objects)) [
  | inl less ↦ less
  | inr more ↦ absurd (true≢false (sym live ∙ ap (λ (x : Object). x.live) (get_or_past objects o no_object more)))
]

abbrev pub with-new : Object → ℕ → List Byte → Object
with-new x i new = record x { bytes = with_bytes new i x.bytes }

pub is-written : (objects : List Object) (o i : ℕ) (new : List Byte) → (object_at objects o).live ≡ true
    → object_at (written o i new objects) o ≡ with-new (object_at objects o) i new
is-written objects o i new live = get_or-set_same objects o (with-new (object_at objects o) i new) no_object (is-within objects o live)

pub is-other : (objects : List Object) (o i p : ℕ) (new : List Byte) → p ≢ o → object_at (written o i new objects) p ≡ object_at objects p
is-other objects o i p new ne = get_or-set_other objects o p (with-new (object_at objects o) i new) no_object ne

pub count-left : (objects : List Object) (o i : ℕ) (new : List Byte) → length (written o i new objects) ≡ length objects
count-left objects o i new = length-set objects o (with-new (object_at objects o) i new)

-- ---- reads

abbrev pub OthersAlike : Program → List Object → List Object → Type 0
OthersAlike p objects memory = (o : ℕ) → IsPlain p o → object_at memory o ≡ object_at objects o

pub open-alike : (objects memory : List Object) (o i size unit : ℕ) → object_at memory o ≡ object_at objects o → is_open memory o i size unit ≡ is_open objects o i size unit
open-alike objects memory o i size unit e = ap (λ (x : Object). x.live && (nat_le (i + size) (length x.bytes) && (i % unit == 0))) e

look-in-alike : (objects memory : List Object) (k : Kind) (o i : ℕ) → object_at memory o ≡ object_at objects o → look_in k o i memory ≡ look_in k o i objects
look-in-alike objects memory k o i e =
    ap (λ (x : Object). if x.live && (nat_le (i + kind_size k) (length x.bytes) && (i % kind_size k == 0)) then Some (scalar_of k (bytes_from (kind_size k) i x.bytes)) else None) e

pub look-alike : (p : Program) (objects memory : List Object) (k : Kind) (v : Value) → OthersAlike p objects memory → FineValue p v → look k v memory ≡ look k v objects
look-alike p objects memory k (At (P.Object o i)) h t = look-in-alike objects memory k o i (h o t)
look-alike p objects memory k (At (P.Function f)) h t = refl
look-alike p objects memory k Undefined h t = refl
look-alike p objects memory k (Num n) h t = refl
look-alike p objects memory k Null h t = refl
look-alike p objects memory k (Piece q i) h t = refl

pub look-in-tame : (p : Program) (objects : List Object) (k : Kind) (o i : ℕ) → ((o : ℕ) → AreTameBytes p (object_at objects o).bytes) → IfSome (look_in k o i objects) (FineValue p)
look-in-tame p objects k o i h = some-tame p (is_open objects o i (kind_size k) (kind_size k)) (scalar_of k (bytes_from (kind_size k) i (object_at objects o).bytes))
    (scalar-tame p k (bytes_from (kind_size k) i (object_at objects o).bytes) (bytes-from-tame p (kind_size k) i (object_at objects o).bytes (h o)))

pub look-tame : (p : Program) (objects : List Object) (k : Kind) (v : Value) → ((o : ℕ) → AreTameBytes p (object_at objects o).bytes) → IfSome (look k v objects) (FineValue p)
look-tame p objects k (At (P.Object o i)) h = look-in-tame p objects k o i h
look-tame p objects k (At (P.Function f)) h = tt
look-tame p objects k Undefined h = tt
look-tame p objects k (Num n) h = tt
look-tame p objects k Null h = tt
look-tame p objects k (Piece q i) h = tt

-- ---- pointers

near-alike : (objects memory : List Object) (o i : ℕ) → object_at memory o ≡ object_at objects o → is_near memory o i ≡ is_near objects o i
near-alike objects memory o i e = ap (λ (x : Object). x.live && nat_le i (length x.bytes)) e

pub somewhere-alike : (p : Program) (objects memory : List Object) (q : Pointer) → OthersAlike p objects memory → FinePointer p q → is_somewhere memory q ≡ is_somewhere objects q
somewhere-alike p objects memory (P.Object o i) h t = near-alike objects memory o i (h o t)
somewhere-alike p objects memory (P.Function f) h t = refl

same-alike : (p : Program) (objects memory : List Object) (q r : Pointer) → OthersAlike p objects memory → FinePointer p q → FinePointer p r → same_place memory q r ≡ same_place objects q r
same-alike p objects memory (P.Object o i) (P.Object s j) h t u =
    ap (λ (b : Bool). if b && is_near memory s j then Some ((o == s) && (i == j)) else None) (near-alike objects memory o i (h o t))
    ∙ ap (λ (b : Bool). if is_near objects o i && b then Some ((o == s) && (i == j)) else None) (near-alike objects memory s j (h s u))
same-alike p objects memory (P.Object o i) (P.Function g) h t u = ap (λ (b : Bool). if b then Some false else None) (near-alike objects memory o i (h o t))
same-alike p objects memory (P.Function f) (P.Object s j) h t u = ap (λ (b : Bool). if b then Some false else None) (near-alike objects memory s j (h s u))
same-alike p objects memory (P.Function f) (P.Function g) h t u = refl

in-order-alike : (p : Program) (objects memory : List Object) (o i s j : ℕ) (v : Value) → OthersAlike p objects memory → IsPlain p o → IsPlain p s
    → (if (o == s) && (is_near memory o i && is_near memory s j) then Some v else None) ≡ (if (o == s) && (is_near objects o i && is_near objects s j) then Some v else None)
in-order-alike p objects memory o i s j v h t u =
    ap (λ (b : Bool). if (o == s) && (b && is_near memory s j) then Some v else None) (near-alike objects memory o i (h o t))
    ∙ ap (λ (b : Bool). if (o == s) && (is_near objects o i && b) then Some v else None) (near-alike objects memory s j (h s u))

on-pointers-alike : (p : Program) (objects memory : List Object) (k : BinKind) (q r : Pointer) → OthersAlike p objects memory → FinePointer p q → FinePointer p r
    → on_pointers memory k q r ≡ on_pointers objects k q r
on-pointers-alike p objects memory Eq q r h t u = ap (λ (b : Option Bool). option_map truth b) (same-alike p objects memory q r h t u)
on-pointers-alike p objects memory Ne q r h t u = ap (λ (b : Option Bool). option_map (λ same. truth (not same)) b) (same-alike p objects memory q r h t u)
on-pointers-alike p objects memory LtU (P.Object o i) (P.Object s j) h t u = in-order-alike p objects memory o i s j (truth (nat_lt i j)) h t u
on-pointers-alike p objects memory LeU (P.Object o i) (P.Object s j) h t u = in-order-alike p objects memory o i s j (truth (nat_le i j)) h t u
on-pointers-alike p objects memory k q r h t u = refl

pointer-number-alike : (p : Program) (objects memory : List Object) (k : BinKind) (q : Pointer) (n : ℕ) → OthersAlike p objects memory → FinePointer p q
    → pointer_and_number memory k q n ≡ pointer_and_number objects k q n
pointer-number-alike p objects memory Eq q zero h t = ap (λ (b : Bool). if b then Some (truth false) else None) (somewhere-alike p objects memory q h t)
pointer-number-alike p objects memory Ne q zero h t = ap (λ (b : Bool). if b then Some (truth true) else None) (somewhere-alike p objects memory q h t)
pointer-number-alike p objects memory k q n h t = refl

number-pointer-alike : (p : Program) (objects memory : List Object) (k : BinKind) (n : ℕ) (q : Pointer) → OthersAlike p objects memory → FinePointer p q
    → number_and_pointer memory k n q ≡ number_and_pointer objects k n q
number-pointer-alike p objects memory Eq zero q h t = ap (λ (b : Bool). if b then Some (truth false) else None) (somewhere-alike p objects memory q h t)
number-pointer-alike p objects memory Ne zero q h t = ap (λ (b : Bool). if b then Some (truth true) else None) (somewhere-alike p objects memory q h t)
number-pointer-alike p objects memory k n q h t = refl

pub binary-alike : (p : Program) (objects memory : List Object) (k : BinKind) (v w : Value) → OthersAlike p objects memory → FineValue p v → FineValue p w
    → binary memory k v w ≡ binary objects k v w
binary-alike p objects memory k (Num a) (Num b) h t u = refl
binary-alike p objects memory k (At q) (At r) h t u = on-pointers-alike p objects memory k q r h t u
binary-alike p objects memory k (At q) (Num n) h t u = pointer-number-alike p objects memory k q n h t
binary-alike p objects memory k (Num n) (At q) h t u = number-pointer-alike p objects memory k n q h u
binary-alike p objects memory k v w h t u = refl

-- ---- a write of both memories

others-written : (p : Program) (objects memory : List Object) (o i : ℕ) (new : List Byte) → OthersAlike p objects memory → IsPlain p o → (object_at objects o).live ≡ true
    → OthersAlike p (written o i new objects) (written o i new memory)
others-written p objects memory o i new h plain live q t = elim (cases_eq q o) [
  | inl e ↦ subst (λ (n : ℕ). object_at (written o i new memory) n ≡ object_at (written o i new objects) n) (sym e)
      (is-written memory o i new (ap (λ (x : Object). x.live) (h o plain) ∙ live) ∙ ap (λ (x : Object). with-new x i new) (h o plain) ∙ sym (is-written objects o i new live))
  | inr ne ↦ is-other memory o i q new ne ∙ h q t ∙ sym (is-other objects o i q new ne)
]

pub tame-written : (p : Program) (objects : List Object) (o i : ℕ) (new : List Byte) → AllByRecursion (FineByte p) new → (object_at objects o).live ≡ true
    → ((o : ℕ) → AreTameBytes p (object_at objects o).bytes) → (q : ℕ) → AreTameBytes p (object_at (written o i new objects) q).bytes
tame-written p objects o i new t live h q = elim (cases_eq q o) [
  | inl e ↦ subst (λ (n : ℕ). AreTameBytes p (object_at (written o i new objects) n).bytes) (sym e)
      (subst (λ (x : Object). AreTameBytes p x.bytes) (sym (is-written objects o i new live)) (with-bytes-tame p new i (object_at objects o).bytes t (h o)))
  | inr ne ↦ subst (λ (x : Object). AreTameBytes p x.bytes) (sym (is-other objects o i q new ne)) (h q)
]

-- the name of an eligible global is one of their names
pub eligible-name : (p : Program) (g : List ℕ) (k : Kind) → Contains (eligible_of p) (g, k) → Contains (eligible_names p) g
eligible-name p g k c = map-there (λ (e : List ℕ × Kind). e.0) (eligible_of p) (g, k) c

globals-written : (p : Program) (d : List (List ℕ × Directives)) (active : List Active) (registers : ℕ → Value) (objects memory : List Object) (o i : ℕ) (new : List Byte)
    → IsPlain p o → GlobalsStand p d active registers objects memory → GlobalsStand p d active registers (written o i new objects) (written o i new memory)
globals-written p d active registers objects memory o i new plain h g k n there is =
    let ne : n ≢ o = λ e. plain g (eligible-name p g k there) (subst (λ (m : ℕ). global_number p g ≡ Some m) e is) in
    subst (λ (x : Object). GlobalStands d (names_active active) g k (held g registers (web_frames d active)) x (object_at (written o i new memory) n)) (sym (is-other objects o i n new ne))
    (subst (λ (x : Object). GlobalStands d (names_active active) g k (held g registers (web_frames d active)) (object_at objects n) x) (sym (is-other memory o i n new ne)) (h g k n there is))

pub objects-written : (p : Program) (d : List (List ℕ × Directives)) (active : List Active) (registers : ℕ → Value) (objects memory : List Object) (o i : ℕ) (new : List Byte)
    → IsPlain p o → (object_at objects o).live ≡ true → AllByRecursion (FineByte p) new
    → ObjectsAlike p d active registers objects memory → ObjectsAlike p d active registers (written o i new objects) (written o i new memory)
objects-written p d active registers objects memory o i new plain live tame a = record {
  count = count-left memory o i new ∙ a.count ∙ sym (count-left objects o i new);
  others = others-written p objects memory o i new a.others plain live;
  globals = globals-written p d active registers objects memory o i new plain a.globals;
  tame = tame-written p objects o i new tame live a.tame;
}
