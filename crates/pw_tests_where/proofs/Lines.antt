-- The lines of the program's one object, which are true where they say -2, and where they say another value are not.
use Rattle.std.proofs.Common.{◌≡◌, ℕ, List, [], ◌∷◌, ◌++◌, map, length, refl, sym, ap, ◌∙◌, subst, arith}
use Rattle.std.specs.Prelude.{slice_index}
use Rattle.std.specs.Fmt.{digits}
use Rattle.std.specs.List.{AllByRecursion}
use Rattle.std.specs.List.Sorted.{IsPermutation}
use Rattle.std.proofs.lemmas.List.Sorted.{IsPermutation-refl, length_permutation, All-permutation}
use Rattle.std.proofs.lemmas.List.Elements.{All-contains, All-cons, All-nil}
use Rattle.pw_files.proofs.Standing.{contains_by, each_by}
use Rattle.pw_value.specs.ProgramNames.{main_name}
use Rattle.pw_value.specs.Objects.{object_at}
use Rattle.pw_value.specs.declared.value.Kind.TheVariants.{S16}
use Rattle.pw_value.specs.declared.value.Value.TheVariants.{Num}
use Rattle.pw_types.specs.declared.kind.IntKind.{IntKind}
use Rattle.pw_types.specs.declared.kind.IntKind.TheVariants as kind
use Rattle.pw_types.specs.TypeTrees.{Int, type_of}
use Rattle.pw_types.specs.TypedTrees.{GlobalValue}
use Rattle.pw_types.specs.Conversions.{is_signed_kind}
use Rattle.pw_cmean.specs.Worlds.{ProgramModule}
use Rattle.pw_cmean.specs.Access.{value_in}
use Rattle.pw_where.specs.declared.shown.Shown.{Shown}
use Rattle.pw_where.specs.Shown.{call_line, signed_number}
use Rattle.pw_where.specs.Looks.{AreShown}
use Rattle.pw_law_truth.specs.Truth.{IsInteger, IsValue, SaysTrue, TellTrue, definitions_of, lines_of}
use Rattle.pw_tests_where.specs.Images.{home, image, objects, program, right_lines, right_value, s, s_name, things, tree, wrong_lines}

abbrev pub shown : Shown
shown = record { object = record { name = s_name; address = 4120 }; number = signed_number S16 }

pub is_shown : (low : ℕ) → AreShown (image low) objects (shown ∷ [])
is_shown low = record {
  same = IsPermutation-refl (shown ∷ []);
  order = λ k d low' high. absurd (omega (arith, high));
  stable = λ x. refl;
}

-- ---- the program's one object

abbrev number : ℕ
number = 4294967294

abbrev module_a : ProgramModule
module_a = record { name = home; tree = tree }

record IsOnly (before : List (ProgramModule × GlobalValue)) (global : GlobalValue) : Type 0 where
  global_is : s ≡ global
  first : length before ≡ 0

only : (before after : List (ProgramModule × GlobalValue)) (m : ProgramModule) (global : GlobalValue) → definitions_of program ≡ before ++ (m, global) ∷ after → IsOnly before global
only [] after m global e =
    let one : (module_a, s) ∷ [] ≡ (m, global) ∷ after = e in
    let pair : (module_a, s) ≡ (m, global) = cc in
    record { global_is = ap (λ (d : ProgramModule × GlobalValue). d.1) pair; first = refl }
only (x ∷ []) after m global e =
    let one : (module_a, s) ∷ [] ≡ x ∷ (m, global) ∷ after = e in
    let rest : [] ≡ (m, global) ∷ after = cc in
    absurd cc
only (x ∷ y ∷ before) after m global e =
    let one : (module_a, s) ∷ [] ≡ x ∷ y ∷ (before ++ (m, global) ∷ after) = e in
    let rest : [] ≡ y ∷ (before ++ (m, global) ∷ after) = cc in
    absurd cc

same_kind : (a b : IntKind) → Int a ≡ Int b → a ≡ b
same_kind a b e = cc

same_number : (a b : ℕ) → Num a ≡ Num b → a ≡ b
same_number a b e = cc

-- what a line says that says true
pub says : (said : ℕ) → said ≡ number → SaysTrue program things (shown, said)
says said is n k v integer value =
    let o = only integer.before integer.after integer.home integer.global integer.is in
    let at : n ≡ 0 = sym integer.count ∙ o.first in
    let ty : Int kind.Short ≡ Int k = ap (λ (g : GlobalValue). type_of g.ty) o.global_is ∙ integer.integer in
    let same : kind.Short ≡ k = same_kind kind.Short k ty in
    let own : value_in (Int kind.Short) (object_at things 0).bytes ≡ Num v =
    subst (λ (i : ℕ). value_in (Int kind.Short) (object_at things i).bytes ≡ Num v) at (subst (λ (j : IntKind). value_in (Int j) (object_at things n).bytes ≡ Num v) (sym same) value) in
    let there : Num number ≡ Num v = own in
    record { value = is ∙ same_number number v there; sign = ap is_signed_kind same }

pub tells : TellTrue program (image right_value) objects 1 right_lines main_name things
unfolding digits
tells = record { values = (shown, number) ∷ []; shown = is_shown right_value; are = refl; say = (says number refl, tt) }

-- ---- wrong lines

is_integer : IsInteger program s_name 0 kind.Short
is_integer = record { before = []; home = module_a; global = s; after = []; is = refl; count = refl; named = refl; integer = refl }

is_value : IsValue kind.Short (object_at things 0).bytes number
is_value = refl

record IsOne (values : List (Shown × ℕ)) : Type 0 where
  said : ℕ
  is : values ≡ (shown, said) ∷ []

one_by : (values : List (Shown × ℕ)) → length (map (λ v. v.0) values) ≡ 1 → AllByRecursion (λ x. x ≡ shown) (map (λ v. v.0) values) → IsOne values
one_by [] count all = absurd (omega (arith, count))
one_by (v ∷ []) count all = record { said = v.1; is = ap (λ (x : Shown). (x, v.1) ∷ []) all.0 }
one_by (v ∷ w ∷ rest) count all = absurd (omega (arith, count))

one_of : (values : List (Shown × ℕ)) → IsPermutation (shown ∷ []) (map (λ v. v.0) values) → IsOne values
one_of values same =
    one_by values (length_permutation (shown ∷ []) (map (λ v. v.0) values) same)
    (each_by (λ x. x ≡ shown) (map (λ v. v.0) values)
    (λ x h. All-contains (λ y. y ≡ shown) (map (λ v. v.0) values) x
    (All-permutation (λ y. y ≡ shown) (shown ∷ []) (map (λ v. v.0) values) same (All-cons (λ y. y ≡ shown) shown [] refl (All-nil (λ y. y ≡ shown)))) (contains_by x (map (λ v. v.0) values) h)))

-- the lines with the value that is said, and the others, differ where the digit is
digit : (text : List ℕ) → text ≡ right_lines → slice_index text 15 ≡ 50
digit text e = ap (λ (l : List ℕ). slice_index l 15) e ∙ refl

called : call_line 1 main_name ++ lines_of ((shown, number) ∷ []) ≡ right_lines
unfolding digits
called = refl

pub tells_nothing_wrong : (low : ℕ) → TellTrue program (image low) objects 1 wrong_lines main_name things → ⊥
tells_nothing_wrong low t =
    let o = one_of t.values t.shown.same in
    let say : SaysTrue program things (shown, o.said) = (subst (λ (vs : List (Shown × ℕ)). AllByRecursion (SaysTrue program things) vs) o.is t.say).0 in
    let said : o.said ≡ number = (say 0 kind.Short number is_integer is_value).value in
    let lines : wrong_lines ≡ call_line 1 main_name ++ lines_of ((shown, number) ∷ []) =
    t.are ∙ ap (λ (vs : List (Shown × ℕ)). call_line 1 main_name ++ lines_of vs) (o.is ∙ ap (λ (n : ℕ). (shown, n) ∷ []) said) in
    let wrong : ◌≡◌ {A = ℕ} 51 50 = digit wrong_lines (lines ∙ called) in
    omega (arith, wrong)
