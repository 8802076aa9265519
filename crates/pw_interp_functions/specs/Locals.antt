-- The objects of locals (ISO C90 6.1.2.4).
use Rattle.std.specs.Prelude.{ℕ, zero, suc, Option, Some, None, List, length, slice_get}
use Rattle.pw_value.specs.Objects.{Object, ended, with_object}
use Rattle.pw_types.specs.TypeTrees.{type_of}
use Rattle.pw_types.specs.TypedTrees.{LocalValue}
use Rattle.pw_types.specs.declared.record.Layout.{Layout}
use Rattle.pw_types.specs.Layouts.{layout_of}
use Rattle.pw_interp_state.specs.Views.{fresh}
use Rattle.pw_cmean.specs.Evaluation.{Env, records_of}
use Rattle.pw_cmean.specs.Execution.{with_number}

-- with a local's object behind the others: the environment and the objects; None where it has no layout
abbrev pub made_by : ℕ → Env → List Object → LocalValue → Option Layout → Option (Env × List Object)
made_by k e objects l None = None
made_by k e objects l (Some layout) = Some (with_number k (length objects) e, with_object (fresh layout.size l.writable) objects)

abbrev pub made_at : ℕ → Env → List Object → Option LocalValue → Option (Env × List Object)
made_at k e objects None = None
made_at k e objects (Some l) = made_by k e objects l (layout_of (records_of e) (type_of l.ty))

abbrev pub made_one : ℕ → Env → List Object → Option (Env × List Object)
made_one k e objects = made_at k e objects (slice_get e.locals k)

-- behind the one, the others
abbrev pub made_next : List Object → (Env → List Object → Option Env × List Object) → Option (Env × List Object) → Option Env × List Object
made_next objects others None = (None, objects)
made_next objects others (Some (e, more)) = others e more

-- So many locals from a place on, with objects behind the others: the environment, None where one of them has no
-- layout; and the objects.
abbrev pub made : ℕ → ℕ → Env → List Object → Option Env × List Object
made zero first e objects = (Some e, objects)
made (suc count) first e objects = made_next objects (made count (suc first)) (made_one first e objects)

-- so many objects from a number on end, the last one first
abbrev pub all_ended : ℕ → ℕ → List Object → List Object
all_ended zero number objects = objects
all_ended (suc count) number objects = ended number (all_ended count (suc number) objects)
