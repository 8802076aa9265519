-- Objects of locals, as they are made one after another and end.
use Rattle.std.proofs.Common.{ℕ, zero, suc, ◌+◌, ◌≡◌, sym, ap, ◌∙◌, add-one, List, Some, None, length, arith}
use Rattle.std.specs.Prelude.{Option, slice_get, slice_set}
use Rattle.pw_value.specs.Objects.{Object, ended, with_object as with_new_object}
use Rattle.pw_types.specs.TypeTrees.{type_of}
use Rattle.pw_types.specs.TypedTrees.{LocalValue}
use Rattle.pw_types.specs.declared.record.Layout.{Layout}
use Rattle.pw_types.specs.Layouts.{layout_of}
use Rattle.pw_interp_state.specs.Views.{fresh}
use Rattle.pw_cmean.specs.Evaluation.{Env, records_of}
use Rattle.pw_cmean.specs.Execution.{with_number}
use Rattle.pw_interp_functions.specs.Locals.{made_by, made_at, made_one, made_next, made, all_ended}

-- ---- ending objects from the last one back

pub ended_last : (count number : ℕ) (objects : List Object) → all_ended (suc count) number objects ≡ all_ended count number (ended (number + count) objects)
ended_last zero number objects = let e : number + 0 ≡ number = omega arith in ap (λ n. ended n objects) (sym e)
ended_last (suc count) number objects =
    let e : suc number + count ≡ number + suc count = omega arith in
    ap (ended number) (ended_last count (suc number) objects ∙ ap (λ n. all_ended count (suc number) (ended n objects)) e)

pub ended_step : (left less number : ℕ) (objects : List Object) → left ≡ less + 1 → all_ended left number objects ≡ all_ended less number (ended (number + less) objects)
ended_step left less number objects e = ap (λ n. all_ended n number objects) (e ∙ add-one less) ∙ ended_last less number objects

-- ---- making them

pub made_here : (k : ℕ) (e : Env) (objects more : List Object) (l : LocalValue) (layout : Layout) (numbers : List (Option ℕ))
    → slice_get e.locals k ≡ Some l → layout_of (records_of e) (type_of l.ty) ≡ Some layout → more ≡ with_new_object (fresh layout.size l.writable) objects
    → numbers ≡ slice_set e.numbers k (Some (length objects)) → made_one k e objects ≡ Some (record e { numbers = numbers }, more)
made_here k e objects more l layout numbers found laid new noted =
    ap (made_at k e objects) found ∙ ap (made_by k e objects l) laid
    ∙ ap (λ os. Some (with_number k (length objects) e, os)) (sym new) ∙ ap (λ ns. Some (record e { numbers = ns }, more)) (sym noted)

pub made_on : (m n f g : ℕ) (e inner : Env) (objects more : List Object) → m ≡ n + 1 → g ≡ f + 1 → made_one f e objects ≡ Some (inner, more) → made m f e objects ≡ made n g inner more
made_on m n f g e inner objects more a b is =
    ap (λ k. made k f e objects) (a ∙ add-one n) ∙ ap (made_next objects (made n (suc f))) is ∙ ap (λ k. made n k inner more) (sym (b ∙ add-one f))

pub made_off : (m n f : ℕ) (e : Env) (objects : List Object) → m ≡ n + 1 → made_one f e objects ≡ None → made m f e objects ≡ (None, objects)
made_off m n f e objects a is = ap (λ k. made k f e objects) (a ∙ add-one n) ∙ ap (made_next objects (made n (suc f))) is

pub made_all : (m f : ℕ) (e : Env) (objects : List Object) → m ≡ 0 → made m f e objects ≡ (Some e, objects)
made_all m f e objects a = ap (λ k. made k f e objects) a
