-- A proper prefix of an object's file is none, so what stands in a file that was put in part is no object.
use Rattle.std.proofs.Common.{◌≡◌, ℕ, ◌+◌, ◌-◌, ◌<◌, ◌≤◌, ◌^◌, List, [], ◌∷◌, ◌++◌, length, take, drop, Some, Result, Ok, Err, refl, sym, ap, ◌∙◌, subst, append_assoc, append-nil, arith, length-append}
use Rattle.std.proofs.lemmas.List.{take_at, drop_at, take-append-drop, take-append-le, drop-append-le, length-take}
use Rattle.sha2.specs.Sha256.{sha256}
use Rattle.pw_fields.specs.Fields.{u32, u32_at}
use Rattle.pw_fields.specs.FieldLaws.{AreBytes}
use Rattle.pw_fields.specs.FieldFrame.{frame_size, before_digest, file}
use Rattle.pw_fields.proofs.FieldLaws.{u32_spells}
use Rattle.pw_fields.proofs.FileLaws.{length-sha256, length-u32}
use Rattle.pw_files.specs.Contents.{value_of}
use Rattle.pw_object.specs.declared.object.Object.{Object}
use Rattle.pw_object.specs.Object.{IsObjectFile}
use Rattle.pw_object.specs.Reading.{object_file_at}
use Rattle.pw_object.proofs.ObjectLaws.{found_by, one_object}
use Rattle.pw_store_kept.specs.Kept.{if_object, object_in}

-- ---- the length that stands in a file

grouped : (a n v p d : List ℕ) → (a ++ (n ++ (v ++ p))) ++ d ≡ a ++ (n ++ ((v ++ p) ++ d))
grouped a n v p d = append_assoc a (n ++ (v ++ p)) d ∙ ap (λ (x : List ℕ). a ++ x) (append_assoc n (v ++ p) d)

length_field : (kind v : ℕ) (p : List ℕ) → take 4 (drop 4 (file kind v p)) ≡ u32 (frame_size + length p)
unfolding file before_digest
length_field kind v p =
    let n : List ℕ = u32 (frame_size + length p) in
    let d : List ℕ = sha256 (u32 kind ++ (n ++ (u32 v ++ p))) in
    let rest : List ℕ = (u32 v ++ p) ++ d in
    ap (λ (x : List ℕ). take 4 (drop 4 x)) (grouped (u32 kind) n (u32 v) p d)
    ∙ ap (take 4) (drop_at (u32 kind) (n ++ rest) 4 (length-u32 kind)) ∙ take_at n rest 4 (length-u32 (frame_size + length p))

file_length : (kind v : ℕ) (p : List ℕ) → length (file kind v p) ≡ frame_size + length p
unfolding file before_digest
file_length kind v p =
    let n : List ℕ = u32 (frame_size + length p) in
    let front : List ℕ = u32 kind ++ (n ++ (u32 v ++ p)) in
    omega (arith, length-append front (sha256 front), length-sha256 front, length-append (u32 kind) (n ++ (u32 v ++ p)), length-u32 kind, length-append n (u32 v ++ p), length-u32 (frame_size + length p), length-append (u32 v) p, length-u32 v)

first_of : Result (ℕ × List ℕ) ℕ → ℕ
first_of (Ok x) = x.0
first_of (Err left) = left

number_one : (n m : ℕ) → n < 2 ^ 32 → m < 2 ^ 32 → u32 n ≡ u32 m → n ≡ m
unfolding first_of
number_one n m a b e = ap first_of (sym (u32_spells.again n [] a) ∙ ap (λ (x : List ℕ). u32_at (x ++ [])) e ∙ u32_spells.again m [] b)

-- the length that stands in an object's file is its own
own_length : (bytes : List ℕ) (o : Object) → IsObjectFile bytes o → (take 4 (drop 4 bytes) ≡ u32 (length bytes)) × (length bytes < 2 ^ 32) × (frame_size ≤ length bytes)
own_length bytes o is = from_spelled _ _ _ is.1.spelled is.1.room
  where
    from_spelled : (kind v : ℕ) (p : List ℕ) → bytes ≡ file kind v p → frame_size + length p < 2 ^ 32 → (take 4 (drop 4 bytes) ≡ u32 (length bytes)) × (length bytes < 2 ^ 32) × (frame_size ≤ length bytes)
    from_spelled kind v p e room =
        let l : length bytes ≡ frame_size + length p = ap length e ∙ file_length kind v p in
        (ap (λ (x : List ℕ). take 4 (drop 4 x)) e ∙ length_field kind v p ∙ ap u32 (sym l), omega (arith, l, room), omega (arith, l))

-- ---- prefixes

same_field : (front more : List ℕ) → 8 ≤ length front → take 4 (drop 4 (front ++ more)) ≡ take 4 (drop 4 front)
same_field front more h =
    ap (take 4) (drop-append-le 4 front more (omega (arith, h))) ∙ take-append-le 4 (drop 4 front) more (let l = length-drop4 front in omega (arith, l, h))
  where
    length-drop4 : (xs : List ℕ) → length (drop 4 xs) ≡ length xs - 4
    length-drop4 xs = let e = ap length (take-append-drop 4 xs) in let k = length-append (take 4 xs) (drop 4 xs) in let t = length-take 4 xs in omega (arith, e, k, t)

pub prefix_length : (front more : List ℕ) (o p : Object) → IsObjectFile (front ++ more) o → IsObjectFile front p → length more ≡ 0
prefix_length front more o p whole part =
    let a = own_length (front ++ more) o whole in
    let b = own_length front p part in
    let same : length (front ++ more) ≡ length front = number_one (length (front ++ more)) (length front) a.1 b.1 (sym a.0 ∙ same_field front more (omega (arith, b.2)) ∙ b.0) in
    let l = length-append front more in
    omega (arith, same, l)

-- ---- what stands in bytes

found_in : (r : Result Object ℕ) (o : Object) → if_object r ≡ Some o → r ≡ Ok o
found_in (Ok p) o e = cc
found_in (Err at) o e = cc

pub object_file : (bytes : List ℕ) (o : Object) → AreBytes bytes → object_in (Some bytes) ≡ Some o → IsObjectFile bytes o
object_file bytes o fits e = found_by bytes (Ok o) fits (found_in (value_of (object_file_at bytes)) o e)

none_long : (xs : List ℕ) → length xs ≡ 0 → xs ≡ []
none_long [] e = refl
none_long (x ∷ xs) e = absurd (omega (arith, e))

-- an object that stands in a prefix of an object's file is that object
pub front_object : (front more bytes : List ℕ) (o p : Object) → front ++ more ≡ bytes → AreBytes front → IsObjectFile bytes o → object_in (Some front) ≡ Some p → p ≡ o
front_object front more bytes o p split fits is e =
    let part : IsObjectFile front p = object_file front p fits e in
    let none : more ≡ [] = none_long more (prefix_length front more o p (subst (λ (x : List ℕ). IsObjectFile x o) (sym split) is) part) in
    let same : front ≡ bytes = sym (append-nil front) ∙ ap (λ (x : List ℕ). front ++ x) (sym none) ∙ split in
    one_object bytes p o (subst (λ (x : List ℕ). IsObjectFile x p) same part) is
