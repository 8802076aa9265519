-- Each act of an operator, a conversion or an access is what its function of the objects answers.
use Rattle.std.proofs.Common.{ℕ, ◌≡◌, refl, sym, ap, ◌∙◌, List, Option, None, Some, Result}
use Rattle.pw_value.specs.declared.value.Value.{Value}
use Rattle.pw_value.specs.declared.value.Value.TheVariants as V
use Rattle.pw_value.specs.declared.value.Pointer.TheVariants as P
use Rattle.pw_value.specs.Objects.{Object, object_at, bytes_from}
use Rattle.pw_value.specs.Values.{encoding}
use Rattle.pw_types.specs.TypeTrees.{CType, Void, Int, Pointer, Array, Function, Record, RecordValue}
use Rattle.pw_types.specs.declared.record.Layout.{Layout}
use Rattle.pw_types.specs.Layouts.{layout_of}
use Rattle.pw_cmean.specs.declared.undefined.Undef.{Undef}
use Rattle.pw_cmean.specs.Undefined.{Finding, least}
use Rattle.pw_cmean.specs.Acts.{Act, State, Site, give, stop, go_on, ◌>>=◌, ◌>>◌, look, need, wrong, undefined, told, judge, write}
use Rattle.pw_cmean.specs.Access.{Purpose, objects_now, within, reading, writing, width_of, value_in, load, store, copy, fetch, put}
use Rattle.pw_interp_state.specs.declared.fault.Fault.{Fault}
use Rattle.pw_interp_state.specs.Answers.{unless, judged, needed, answered, changed}
use Rattle.pw_interp_state.specs.Categories.{category_of, type_for}
use Rattle.pw_interp_state.specs.Accesses as spec
use Rattle.pw_interp_state.specs.Accesses.{width_for}

-- ---- acts in order

module _ {A : Type 0} (site : Site) where
  pub judge_is : (findings : List Finding) (act : Act A) (r : Result A Fault) (s : State) → act s ≡ answered site r s
      → (judge site findings >> act) s ≡ answered site (judged findings r) s
  unfolding judge told undefined stop give go_on ◌>>=◌
  judge_is findings act r s e = told_is (least findings)
    where
      told_is : (o : Option Undef) → go_on (told site o s) (λ _. act) ≡ answered site (unless o r) s
      told_is None = e
      told_is (Some operation) = refl

  pub need_is : (o : Option A) (s : State) → need o s ≡ answered site (needed o) s
  unfolding need give wrong stop
  need_is None s = refl
  need_is (Some a) s = refl

pub judge_changes : (site : Site) (findings : List Finding) (act : Act (Unit {0})) (r : Result (List Object) Fault) (s : State) → act s ≡ changed site r s
    → (judge site findings >> act) s ≡ changed site (judged findings r) s
unfolding judge told undefined stop give go_on ◌>>=◌
judge_changes site findings act r s e = told_is (least findings)
  where
    told_is : (o : Option Undef) → go_on (told site o s) (λ _. act) ≡ changed site (unless o r) s
    told_is None = e
    told_is (Some operation) = refl

-- ---- types by their categories

same_width : (ty : CType) → width_for (category_of ty) ≡ width_of ty
same_width Void = refl
same_width (Int kind) = refl
same_width (Pointer q) = refl
same_width (Array q count) = refl
same_width (Function result params) = refl
same_width (Record number) = refl

same_reading : (objects : List Object) (ty : CType) (place : Value) → reading objects (type_for (category_of ty)) place ≡ reading objects ty place
same_reading objects Void place = refl
same_reading objects (Int kind) place = refl
same_reading objects (Pointer q) place = refl
same_reading objects (Array q count) place = refl
same_reading objects (Function result params) place = refl
same_reading objects (Record number) place = refl

-- ---- reading

value_is : (site : Site) (ty : CType) (place : Value) (s : State)
    → within place (λ number offset. give (value_in ty (bytes_from (width_of ty) offset (object_at s.objects number).bytes))) s ≡ answered site (spec.value_at s.objects (category_of ty) place) s
unfolding within give wrong stop
value_is site Void (V.At (P.Object number offset)) s = refl
value_is site (Int kind) (V.At (P.Object number offset)) s = refl
value_is site (Pointer q) (V.At (P.Object number offset)) s = refl
value_is site (Array q count) (V.At (P.Object number offset)) s = refl
value_is site (Function result params) (V.At (P.Object number offset)) s = refl
value_is site (Record n) (V.At (P.Object number offset)) s = refl
value_is site ty (V.At (P.Function f)) s = refl
value_is site ty V.Undefined s = refl
value_is site ty (V.Num n) s = refl
value_is site ty V.Null s = refl
value_is site ty (V.Piece p i) s = refl

pub load_is : (site : Site) (ty : CType) (place : Value) (s : State) → load site ty place s ≡ answered site (spec.loaded s.objects (category_of ty) place) s
unfolding load objects_now look go_on ◌>>=◌
load_is site ty place s =
    judge_is site (reading s.objects ty place) (within place (λ number offset. give (value_in ty (bytes_from (width_of ty) offset (object_at s.objects number).bytes)))) (spec.value_at s.objects (category_of ty) place) s (value_is site ty place s)
    ∙ ap (λ findings. answered site (judged findings (spec.value_at s.objects (category_of ty) place)) s) (sym (same_reading s.objects ty place))

pub fetch_is : (site : Site) (ty : CType) (place : Value) (s : State) → fetch site ty place s ≡ answered site (spec.fetched s.objects (category_of ty) place) s
unfolding fetch give
fetch_is site (Int kind) place s = load_is site (Int kind) place s
fetch_is site (Pointer q) place s = load_is site (Pointer q) place s
fetch_is site Void place s = refl
fetch_is site (Array q count) place s = refl
fetch_is site (Function result params) place s = refl
fetch_is site (Record number) place s = refl

-- ---- writing

write_is : (site : Site) (v : Value) (width : ℕ) (place : Value) (s : State)
    → within place (λ number offset. write number offset (encoding v width)) s ≡ changed site (spec.written_at s.objects (encoding v width) place) s
unfolding within write wrong stop
write_is site v width (V.At (P.Object number offset)) s = refl
write_is site v width (V.At (P.Function f)) s = refl
write_is site v width V.Undefined s = refl
write_is site v width (V.Num n) s = refl
write_is site v width V.Null s = refl
write_is site v width (V.Piece p i) s = refl

pub store_is : (purpose : Purpose) (site : Site) (ty : CType) (place v : Value) (s : State)
    → store purpose site ty place v s ≡ changed site (spec.stored purpose s.objects (category_of ty) place v) s
unfolding store objects_now look go_on ◌>>=◌
store_is purpose site ty place v s =
    judge_changes site (writing purpose s.objects (width_of ty) (width_of ty) place) (within place (λ number offset. write number offset (encoding v (width_of ty)))) (spec.written_at s.objects (encoding v (width_of ty)) place) s (write_is site v (width_of ty) place s)
    ∙ ap (λ width. changed site (judged (writing purpose s.objects width width place) (spec.written_at s.objects (encoding v width) place)) s) (sym (same_width ty))

copy_at : (site : Site) (size : ℕ) (target source : Value) (s : State)
    → within source (λ from i. within target (λ to j. write to j (bytes_from size i (object_at s.objects from).bytes))) s ≡ changed site (spec.moved_from s.objects size target source) s
unfolding within write wrong stop
copy_at site size target (V.At (P.Object from i)) s = at target
  where
    at : (v : Value) → within v (λ to j. write to j (bytes_from size i (object_at s.objects from).bytes)) s ≡ changed site (spec.written_at s.objects (bytes_from size i (object_at s.objects from).bytes) v) s
    at (V.At (P.Object to j)) = refl
    at (V.At (P.Function f)) = refl
    at V.Undefined = refl
    at (V.Num n) = refl
    at V.Null = refl
    at (V.Piece p k) = refl
copy_at site size target (V.At (P.Function f)) s = refl
copy_at site size target V.Undefined s = refl
copy_at site size target (V.Num n) s = refl
copy_at site size target V.Null s = refl
copy_at site size target (V.Piece p k) s = refl

pub copy_is : (purpose : Purpose) (site : Site) (layout : Layout) (target source : Value) (s : State)
    → copy purpose site layout target source s ≡ changed site (spec.copied purpose s.objects layout target source) s
unfolding copy objects_now look go_on ◌>>=◌
copy_is purpose site layout target source s =
    judge_changes site (spec.copying purpose s.objects layout target source) (within source (λ from i. within target (λ to j. write to j (bytes_from layout.size i (object_at s.objects from).bytes)))) (spec.moved_from s.objects layout.size target source) s (copy_at site layout.size target source s)

pub put_is : (purpose : Purpose) (site : Site) (records : List RecordValue) (ty : CType) (place v : Value) (s : State)
    → put purpose site records ty place v s ≡ changed site (spec.value_put purpose s.objects (category_of ty) (layout_of records ty) place v) s
unfolding put need give wrong stop go_on ◌>>=◌
put_is purpose site records (Int kind) place v s = store_is purpose site (Int kind) place v s
put_is purpose site records (Pointer q) place v s = store_is purpose site (Pointer q) place v s
put_is purpose site records (Record number) place v s = laid (layout_of records (Record number))
  where
    laid : (o : Option Layout) → go_on (need o s) (λ layout. copy purpose site layout place v) ≡ changed site (spec.record_put purpose s.objects o place v) s
    laid None = refl
    laid (Some layout) = copy_is purpose site layout place v s
put_is purpose site records Void place v s = refl
put_is purpose site records (Array q count) place v s = refl
put_is purpose site records (Function result params) place v s = refl
