-- The loop over modules whose objects were made anew.
use Rattle.std.proofs.Common.{◌≡◌, ◌<◌, ◌+◌, arith, ℕ, zero, suc, min, cond, Bool, true, false, Bor, Option, Some, None, List, [], ◌∷◌, ◌++◌, length, drop, drop-cons, get_or, map, refl, sym, ap, ◌∙◌, subst, append_assoc, append-nil}
use Rattle.std.proofs.iter.Yields.{fronts}
use Rattle.std.proofs.lemmas.Iterator.{zips}
use Rattle.std.proofs.lemmas.Slice.Zip.{zip_turn, zip_end}
use Rattle.std.specs.Iterator.{Yields}
use Rattle.std.specs.declared.iter.Zip.{Zip}
use Rattle.std.specs.declared.slice.Iter.{Iter}
use Rattle.std.specs.Iterator.Adapters.{zip_first, zip_second}
use Rattle.std.specs.Slice.Iter.{iter_rest}
use Rattle.std.specs.List.{AllByRecursion}
use Rattle.pw_fields.specs.FieldLaws.{AreBytes}
use Rattle.pw_object.specs.declared.object.Object.{Object}
use Rattle.pw_object.specs.Object.{IsObjectFile}
use Rattle.pw_store_modules.specs.FileNames.{object_name}
use Rattle.pw_store_modules.specs.declared.modules.Module.{Module}
use Rattle.pw_top_answer.specs.Effects.{NamedFile}
use Rattle.pw_build_objects.specs.declared.remade.Made.{Made}
use Rattle.pw_build_objects.specs.Choosing.{marks_of, objects_of}
use Rattle.pw_store_kept.specs.Files.{AreObjectFiles, HoldBytes, made_anew}

-- what was made of the modules so far, with what is to be made of those that are left, is what is to be made of all
pub record FreshSoFar (all left : List (List ℕ × Object)) (names : List (List ℕ)) (files : List NamedFile) : Type 0 where
  pub names_so_far : names ++ map (λ m. m.0) left ≡ map (λ m. m.0) all
  pub files_so_far : (more : List NamedFile) → AreObjectFiles left more → AreObjectFiles all (files ++ more)
  pub bytes_so_far : HoldBytes files

pub fresh_start : (all : List (List ℕ × Object)) → FreshSoFar all all [] []
fresh_start all = record { names_so_far = refl; files_so_far = λ more h. h; bytes_so_far = tt }

bytes_more : (files : List NamedFile) (file : NamedFile) → HoldBytes files → AreBytes file.1 → HoldBytes (files ++ file ∷ [])
bytes_more [] file h fits = (fits, tt)
bytes_more (f ∷ fs) file h fits = (h.0, bytes_more fs file h.1 fits)

pub fresh_turn : (all left : List (List ℕ × Object)) (name : List ℕ) (object : Object) (names names' : List (List ℕ)) (files files' : List NamedFile) (bytes : List ℕ) → FreshSoFar all ((name, object) ∷ left) names files
    → names' ≡ names ++ name ∷ [] → files' ≡ files ++ (object_name name, bytes) ∷ [] → IsObjectFile bytes object → AreBytes bytes → FreshSoFar all left names' files'
fresh_turn all left name object names names' files files' bytes inv n f is fits = record {
  names_so_far = ap (λ (zs : List (List ℕ)). zs ++ map (λ m. m.0) left) n ∙ append_assoc names (name ∷ []) (map (λ m. m.0) left) ∙ inv.names_so_far;
  files_so_far = λ more h.
      subst (AreObjectFiles all) (sym (append_assoc files ((object_name name, bytes) ∷ []) more) ∙ ap (λ (zs : List NamedFile). zs ++ more) (sym f))
      (inv.files_so_far ((object_name name, bytes) ∷ more) (refl, is, h));
  bytes_so_far = subst HoldBytes (sym f) (bytes_more files (object_name name, bytes) inv.bytes_so_far fits);
}

pub fresh_names : (all left : List (List ℕ × Object)) (names : List (List ℕ)) (files : List NamedFile) → FreshSoFar all left names files → left ≡ [] → names ≡ map (λ m. m.0) all
fresh_names all left names files inv e = sym (append-nil names) ∙ ap (λ (zs : List (List ℕ × Object)). names ++ map (λ m. m.0) zs) (sym e) ∙ inv.names_so_far

pub fresh_files : (all left : List (List ℕ × Object)) (names : List (List ℕ)) (files : List NamedFile) → FreshSoFar all left names files → left ≡ [] → AreObjectFiles all files
fresh_files all left names files inv e =
    subst (AreObjectFiles all) (append-nil files) (inv.files_so_far [] (subst (λ (zs : List (List ℕ × Object)). AreObjectFiles zs []) (sym e) tt))

-- ---- two slices at once

-- where this turn's pair is in the slices
pub pair_at :
    {A B : Type 0} (s t u : Zip (Iter A) (Iter B)) (r : Option (Bor A × Bor B)) (ks : List A) (vs : List B) (xs : List (Bor A × Bor B)) (p : Bor A × Bor B)
    → Yields (zips fronts fronts) s xs t → r ≡ Some p → zips fronts fronts t r u
    → iter_rest (zip_first s) ≡ ks → iter_rest (zip_second s) ≡ vs
    → (length xs < length ks) × (length xs < length vs) × (p.0.now ≡ get_or ks (length xs) p.0.now) × (p.1.now ≡ get_or vs (length xs) p.1.now)
pair_at s t u r ks vs xs p y is steps first second =
    let z = zip_turn ks vs xs s t u r first second y p is steps in
    (z.0, z.1, z.2 p.0.now, z.3 p.1.now)

-- how many turns there were
pub pairs_ended :
    {A B : Type 0} (s t u : Zip (Iter A) (Iter B)) (r : Option (Bor A × Bor B)) (ks : List A) (vs : List B) (xs : List (Bor A × Bor B))
    → Yields (zips fronts fronts) s xs t → r ≡ None → zips fronts fronts t r u
    → iter_rest (zip_first s) ≡ ks → iter_rest (zip_second s) ≡ vs
    → length xs ≡ min (length ks) (length vs)
pairs_ended s t u r ks vs xs y is steps first second = zip_end ks vs xs s t u r first second y is steps

next_at : {A : Type 0} (xs : List A) (i j : ℕ) (x : A) → j ≡ i + 1 → i < length xs → x ≡ get_or xs i x → drop i xs ≡ x ∷ drop j xs
next_at xs i j x next h e =
    let more : suc i ≡ j = omega (arith, next) in
    drop-cons xs i x h ∙ ap (λ v. v ∷ drop (suc i) xs) (sym e) ∙ ap (λ k. x ∷ drop k xs) more

pub lawful_at : (P : Object → Type 0) (made : List Made) (i : ℕ) (one : Made) → AllByRecursion P (objects_of made) → i < length made → one ≡ get_or made i one → P one.object
lawful_at P [] i one all h e = absurd (omega (arith, h))
lawful_at P (m ∷ ms) zero one all h e = subst (λ (x : Made). P x.object) (sym e) all.0
lawful_at P (m ∷ ms) (suc i) one all h e = lawful_at P ms i one all.1 (omega (arith, h)) e

-- ---- modules and what was made of them

abbrev pub anew : List Module → List Made → List (List ℕ × Object)
anew modules made = made_anew (map (λ m. m.name) modules) (objects_of made) (marks_of made)

no_objects : (modules : List Module) → anew modules [] ≡ []
no_objects [] = refl
no_objects (m ∷ ms) = refl

pub none_left : (i : ℕ) (modules : List Module) (made : List Made) → i ≡ min (length modules) (length made) → anew (drop i modules) (drop i made) ≡ []
none_left zero [] made h = refl
none_left zero (m ∷ ms) [] h = refl
none_left zero (m ∷ ms) (one ∷ more) h = absurd (omega arith)
none_left (suc i) [] made h = refl
none_left (suc i) (m ∷ ms) [] h = no_objects (drop i ms)
none_left (suc i) (m ∷ ms) (one ∷ more) h = none_left i ms more (omega arith)

-- this turn's module stands first among those that are left
left_at : (modules : List Module) (made : List Made) (i j : ℕ) (m : Module) (one : Made) → j ≡ i + 1 → i < length modules → i < length made → m ≡ get_or modules i m → one ≡ get_or made i one
    → anew (drop i modules) (drop i made) ≡ anew (m ∷ drop j modules) (one ∷ drop j made)
left_at modules made i j m one next lm lo em eo =
    ap (λ (ms : List Module). anew ms (drop i made)) (next_at modules i j m next lm em) ∙ ap (λ (os : List Made). anew (m ∷ drop j modules) os) (next_at made i j one next lo eo)

marked : (b : Bool) (p : List ℕ × Object) (left : List (List ℕ × Object)) → b ≡ true → cond b (p ∷ left) left ≡ p ∷ left
marked b p left e = ap (λ (x : Bool). cond x (p ∷ left) left) e

unmarked : (b : Bool) (p : List ℕ × Object) (left : List (List ℕ × Object)) → b ≡ false → cond b (p ∷ left) left ≡ left
unmarked b p left e = ap (λ (x : Bool). cond x (p ∷ left) left) e

-- its object was made anew
pub fresh_next : (modules : List Module) (made : List Made) (i j : ℕ) (m : Module) (one : Made) (names names' : List (List ℕ)) (files files' : List NamedFile) (bytes : List ℕ) → j ≡ i + 1
    → i < length modules → i < length made → m ≡ get_or modules i m → one ≡ get_or made i one → one.fresh ≡ true
    → FreshSoFar (anew modules made) (anew (drop i modules) (drop i made)) names files
    → names' ≡ names ++ m.name ∷ [] → files' ≡ files ++ (object_name m.name, bytes) ∷ [] → IsObjectFile bytes one.object → AreBytes bytes
    → FreshSoFar (anew modules made) (anew (drop j modules) (drop j made)) names' files'
fresh_next modules made i j m one names names' files files' bytes next lm lo em eo b inv n f is fits =
    let left = anew (drop j modules) (drop j made) in
    let at : anew (drop i modules) (drop i made) ≡ (m.name, one.object) ∷ left = left_at modules made i j m one next lm lo em eo ∙ marked one.fresh (m.name, one.object) left b in
    fresh_turn (anew modules made) left m.name one.object names names' files files' bytes
    (subst (λ (zs : List (List ℕ × Object)). FreshSoFar (anew modules made) zs names files) at inv) n f is fits

-- or it stayed
pub fresh_skip : (modules : List Module) (made : List Made) (i j : ℕ) (m : Module) (one : Made) (names : List (List ℕ)) (files : List NamedFile) → j ≡ i + 1
    → i < length modules → i < length made → m ≡ get_or modules i m → one ≡ get_or made i one → one.fresh ≡ false
    → FreshSoFar (anew modules made) (anew (drop i modules) (drop i made)) names files
    → FreshSoFar (anew modules made) (anew (drop j modules) (drop j made)) names files
fresh_skip modules made i j m one names files next lm lo em eo b inv =
    let left = anew (drop j modules) (drop j made) in
    let at : anew (drop i modules) (drop i made) ≡ left = left_at modules made i j m one next lm lo em eo ∙ unmarked one.fresh (m.name, one.object) left b in
    subst (λ (zs : List (List ℕ × Object)). FreshSoFar (anew modules made) zs names files) at inv
