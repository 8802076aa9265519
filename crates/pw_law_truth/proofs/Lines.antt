-- The lines of values, one by one, and that each says true.
use Rattle.std.proofs.Common.{◌≡◌, ℕ, List, [], ◌∷◌, ◌++◌, map, length, Option, Some, refl, sym, ap, subst, ◌∙◌}
use Rattle.std.specs.Prelude.{Result, Ok, Err}
use Rattle.std.specs.List.{AllByRecursion}
use Rattle.std.specs.List.Sorted.{IsPermutation}
use Rattle.std.proofs.lemmas.List.{length-map, map-append}
use Rattle.std.proofs.lemmas.List.Elements.{All-contains, All-from_recursion}
use Rattle.std.proofs.lemmas.List.Sorted.{All-permutation}
use Rattle.pw_value.specs.Objects.{Object as Thing, object_at}
use Rattle.pw_value.specs.declared.value.Value.TheVariants.{Num}
use Rattle.pw_value.specs.declared.value.Kind.{Kind}
use Rattle.pw_files.proofs.Standing.{contains_by, each_by}
use Rattle.pw_types.specs.TypeTrees.{CType, is_volatile}
use Rattle.pw_types.specs.TypedTrees.{GlobalValue}
use Rattle.pw_types.specs.Shapes.{letter_of_kind, marked, shape_of}
use Rattle.pw_flow.specs.ValidFlow.{AreDistinct, kind_size}
use Rattle.pw_flow.specs.declared.flow.FlowGlobal.{FlowGlobal}
use Rattle.pw_lower.specs.Operators.{bytes_of, kind_of, kind_of_int}
use Rattle.pw_image.specs.declared.image.Image.{Image}
use Rattle.pw_image.specs.declared.image.Function.{Function}
use Rattle.pw_image.specs.declared.image.GlobalObject.{GlobalObject}
use Rattle.pw_machine.specs.Core.{Core}
use Rattle.pw_cmean.specs.Worlds as source
use Rattle.pw_run_languages.specs.Memory.{scalar_of}
use Rattle.pw_run_languages.specs.Programs.{Program, globals_of}
use Rattle.pw_debug.specs.declared.info.FrameInfo.{FrameInfo}
use Rattle.pw_debug.specs.Walk.{WalksTo, seen, start_of}
use Rattle.pw_where.specs.declared.numbers.Number.{Number}
use Rattle.pw_where.specs.declared.shown.Shown.{Shown}
use Rattle.pw_where.specs.Shown.{number_of_shape, value_line}
use Rattle.pw_where.specs.Looks.{Values, behind, lost_of, no_more, value_of}
use Rattle.pw_law_calls.specs.Calls.{IsSmall}
use Rattle.pw_law_told.specs.Told.{IsTold}
use Rattle.pw_law_bytes.specs.Stored.{HasItsBytes, HaveTheirBytes}
use Rattle.pw_law_truth.specs.Truth.{SaysTrue, definitions_of, lowered_definition, lines_of}
use Rattle.pw_law_truth.proofs.Numbers.{kind_width, number_of, scalar_is, shape_number}
use Rattle.pw_law_truth.proofs.Places.{IsKnown, same_place}

-- ---- the lines

abbrev pub Walks : List Function → List FrameInfo → Core → Shown × ℕ → Type 0
Walks functions frames core said = WalksTo (seen core.memory functions frames said.0.object said.0.number.kind) (start_of core) (Ok said.1)

-- a text is of lines of values to which walks come
pub record HasLines (functions : List Function) (frames : List FrameInfo) (core : Core) (shown : List Shown) (text : List ℕ) : Type 0 where
  pub values : List (Shown × ℕ)
  pub of : map (λ said. said.0) values ≡ shown
  pub is : text ≡ lines_of values
  pub walks : AllByRecursion (Walks functions frames core) values

module _ (functions : List Function) (frames : List FrameInfo) (core : Core) where
  first_line : (g : Shown) (rest : List Shown) (word : ℕ) (text : List ℕ) → Walks functions frames core (g, word) → (lines : Result (List ℕ) ℕ) → behind (value_line g word) lines ≡ Ok text
      → ((more : List ℕ) → lines ≡ Ok more → HasLines functions frames core rest more) → HasLines functions frames core (g ∷ rest) text
  first_line g rest word text walk (Err address) e later = absurd cc
  first_line g rest word text walk (Ok more) e later =
      let k = later more refl in
      let is : value_line g word ++ more ≡ text = cc in
      record {
        values = (g, word) ∷ k.values;
        of = ap (λ (gs : List Shown). g ∷ gs) k.of;
        is = sym is ∙ ap (λ (l : List ℕ). value_line g word ++ l) k.is;
        walks = (walk, k.walks);
      }

  pub has_lines : (shown : List Shown) (lines : Result (List ℕ) ℕ) (text : List ℕ) → Values functions frames core shown lines → lines ≡ Ok text → HasLines functions frames core shown text
  has_lines shown lines text no_more e =
      let none_left : [] ≡ text = cc in
      record { values = []; of = refl; is = sym none_left; walks = tt }
  has_lines shown lines text (value_of g rest word more walk values) e = first_line g rest word text walk more e (λ l is. has_lines rest more l values is)
  has_lines shown lines text (lost_of g rest address walk) e = absurd cc

-- in front of the lines, the call's
pub record HasText (first lines : List ℕ) (values : Result (List ℕ) ℕ) : Type 0 where
  pub text : List ℕ
  pub values_are : values ≡ Ok text
  pub is : lines ≡ first ++ text

pub has_text : (first lines : List ℕ) (values : Result (List ℕ) ℕ) → Ok lines ≡ behind first values → HasText first lines values
has_text first lines (Ok text) e = let is : lines ≡ first ++ text = cc in record { text = text; values_are = refl; is = is }
has_text first lines (Err address) e = absurd cc

-- ---- a walk that is lost

no_text : (first : List ℕ) (values : Result (List ℕ) ℕ) (address : ℕ) → behind first values ≡ Err address → values ≡ Err address
no_text first (Ok text) address e = absurd cc
no_text first (Err own) address e = e

pub lost_text : (first : List ℕ) (values : Result (List ℕ) ℕ) (address : ℕ) → Err address ≡ behind first values → values ≡ Err address
lost_text first values address e = no_text first values address (sym e)

one_address : (a b : ℕ) → ◌≡◌ {A = Result (List ℕ) ℕ} (Err a) (Err b) → a ≡ b
one_address a b e = cc

-- the address is told of a walk of one of those that are shown
pub not_lost : (P : Shown → Type 0) (functions : List Function) (frames : List FrameInfo) (core : Core) (address : ℕ)
    → ((g : Shown) → P g → WalksTo (seen core.memory functions frames g.object g.number.kind) (start_of core) (Err address) → ⊥)
    → (shown : List Shown) (lines : Result (List ℕ) ℕ) → AllByRecursion P shown → Values functions frames core shown lines → lines ≡ Err address → ⊥
not_lost P functions frames core address never shown lines all no_more e = cc
not_lost P functions frames core address never shown lines all (value_of g rest word more walk values) e =
    not_lost P functions frames core address never rest more all.1 values (no_text (value_line g word) more address e)
not_lost P functions frames core address never shown lines all (lost_of g rest own walk) e =
    never g all.0 (subst (λ (a : ℕ). WalksTo (seen core.memory functions frames g.object g.number.kind) (start_of core) (Err a)) (one_address own address e) walk)

-- ---- what holds of all in one order holds of them in another

pub all_ordered : (P : Shown → Type 0) (xs ys : List Shown) → IsPermutation xs ys → AllByRecursion P xs → AllByRecursion P ys
all_ordered P xs ys same all = each_by P ys (λ x h. All-contains P ys x (All-permutation P xs ys same (All-from_recursion P xs all)) (contains_by x ys h))

-- ---- each says true

some_number : (x y : Number) → ◌≡◌ {A = Option Number} (Some x) (Some y) → x ≡ y
some_number x y e = cc

module _ (p : source.Program) (q : Program) (v : Image) (frames : List FrameInfo) (core : Core) (things : List Thing)
    (globals : globals_of q ≡ map lowered_definition (definitions_of p))
    (distinct : AreDistinct (map (λ g. g.name) (globals_of q)))
    (have : HaveTheirBytes q things)
    (tells : (number : ℕ) (g : FlowGlobal) (kind : Kind) (object : GlobalObject) (value w : ℕ) → IsTold q v number g kind object →
    length (object_at things number).bytes ≡ kind_size kind → AllByRecursion IsSmall (object_at things number).bytes → scalar_of kind (object_at things number).bytes ≡ Num w →
    WalksTo (seen core.memory v.functions frames object kind) (start_of core) (Ok value) → value ≡ w) where
  one_true : (said : Shown × ℕ) → IsKnown q v said.0 → Walks v.functions frames core said → SaysTrue p things said
  one_true said known walks = λ number kind w integer value.
      let s = said.0 in
      let d : source.ProgramModule × GlobalValue = (integer.home, integer.global) in
      let records = integer.home.tree.records in
      let before = map lowered_definition integer.before in
      let g = lowered_definition d in
      let after = map lowered_definition integer.after in
      let at : globals_of q ≡ before ++ g ∷ after = globals ∙ (ap (map lowered_definition) integer.is ∙ map-append lowered_definition integer.before (d ∷ integer.after)) in
      let names : known.global.name ≡ g.name = known.name ∙ sym integer.named in
      let own : AreDistinct (map (λ (x : FlowGlobal). x.name) (known.before ++ known.global ∷ known.after)) = subst (λ (gs : List FlowGlobal). AreDistinct (map (λ x. x.name) gs)) known.is distinct in
      let same = same_place known.before known.after before after known.global g own (sym known.is ∙ at) names in
      let count : length known.before ≡ number = same.count ∙ (length-map integer.before lowered_definition ∙ integer.count) in
      let shape : known.global.shape ≡ marked (is_volatile integer.global.ty) (letter_of_kind kind) =
      ap (λ (x : FlowGlobal). x.shape) same.is ∙ ap (λ (ty : CType). shape_of records ty (is_volatile integer.global.ty)) integer.integer in
      let is : s.number ≡ number_of kind = some_number s.number (number_of kind) (sym known.shape ∙ (ap number_of_shape shape ∙ shape_number kind (is_volatile integer.global.ty))) in
      let k : s.number.kind ≡ kind_of_int kind = ap (λ (n : Number). n.kind) is in
      let kinds : known.global.kind ≡ Some s.number.kind = ap (λ (x : FlowGlobal). x.kind) same.is ∙ (ap kind_of integer.integer ∙ ap (λ (x : Kind). Some x) (sym k)) in
      let size : known.global.size ≡ kind_size s.number.kind = ap (λ (x : FlowGlobal). x.size) same.is ∙ (ap (bytes_of records) integer.integer ∙ (kind_width kind ∙ ap kind_size (sym k))) in
      let told : IsTold q v number known.global s.number.kind s.object =
      record { before = known.before; after = known.after; is = known.is; count = count; kind_is = kinds; size = size; name = known.name; place = known.place } in
      let stored : HasItsBytes known.global.size (object_at things number).bytes =
      subst (λ (n : ℕ). HasItsBytes known.global.size (object_at things n).bytes) count (have known.before known.after known.global known.is) in
      let long = stored.long ∙ size in
      let many = long ∙ sym (kind_width kind ∙ ap kind_size (sym k)) in
      let scalar = subst (λ (x : Kind). scalar_of x (object_at things number).bytes ≡ Num w) (sym k) (scalar_is kind (object_at things number).bytes w many stored.small value) in
      record {
        value = tells number known.global s.number.kind s.object said.1 w told long stored.small scalar walks;
        sign = ap (λ (n : Number). n.is_signed) is;
      }

  pub all_true : (values : List (Shown × ℕ)) → AllByRecursion (IsKnown q v) (map (λ said. said.0) values) → AllByRecursion (Walks v.functions frames core) values → AllByRecursion (SaysTrue p things) values
  all_true [] known walks = tt
  all_true (said ∷ values) known walks = (one_true said known.0 walks.0, all_true values known.1 walks.1)
