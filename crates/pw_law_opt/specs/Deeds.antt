-- What a command that enters no function does, and where the end of a block leads, apart from the state in which it is done.
use Rattle.std.specs.Prelude.{ℕ, zero, suc, ◌-◌, if◌then◌else◌, Option, Some, None, option_map, List, [], ◌∷◌, length, slice_index_or, slice_set}
use Rattle.pw_value.specs.declared.value.Value.{Value}
use Rattle.pw_value.specs.declared.value.Value.TheVariants.{Undefined, Num, At}
use Rattle.pw_value.specs.Objects.{Object}
use Rattle.pw_flow.specs.declared.flow.End.{End}
use Rattle.pw_flow.specs.declared.flow.End.TheVariants.{Jump, Branch, Return}
use Rattle.pw_run_languages.specs.Values.{binary, is_somewhere}
use Rattle.pw_run_languages.specs.Memory.{look, poke, copy}
use Rattle.pw_run_languages.specs.Programs.{Program}
use Rattle.pw_run_languages.specs.Commands.{Command, Give, Combine, Look, Poke, Copied, GetGlobal, PutGlobal, Enter, Fail}
use Rattle.pw_run_languages.specs.FlowRun.{Frame, Machine, Step, On, Astray, Returned, with_temp, get_global, put_global, end_from, takes_result, jumps}

-- ---- operations

-- a temporary gets a value, or the objects change
pub data Deed : Type 0 where
  Gets : ℕ → Value → Deed
  Changes : List Object → Deed

abbrev pub deed : Program → List Object → Command → Option Deed
deed p objects (Give t v) = Some (Gets t v)
deed p objects (Combine k t v w) = option_map (Gets t) (binary objects k v w)
deed p objects (Look k t a) = option_map (Gets t) (look k a objects)
deed p objects (Poke k a v) = option_map Changes (poke k a v objects)
deed p objects (Copied to from size unit) = option_map Changes (copy to from size unit objects)
deed p objects (GetGlobal t g k) = option_map (Gets t) (get_global p g k objects)
deed p objects (PutGlobal g k v) = option_map Changes (put_global p g k v objects)
deed p objects (Enter t f args) = None
deed p objects Fail = None

abbrev pub done : Option Deed → Machine → Step
done None m = Astray
done (Some (Gets t v)) m = On (with_temp t v m)
done (Some (Changes objects)) m = On (record m { objects = objects })

-- ---- what temporaries hold

abbrev pub value : List Value → ℕ → Value
value ts t = slice_index_or ts t Undefined

abbrev pub got : Deed → List Value → List Value
got (Gets t v) ts = slice_set ts t v
got (Changes objects) ts = ts

abbrev pub with_result : Option ℕ → Value → List Value → List Value
with_result None v ts = ts
with_result (Some t) v ts = slice_set ts t v

-- ---- ends of blocks

-- to a block, or back with a value
pub data Way : Type 0 where
  To : ℕ → Way
  Back : Value → Way

abbrev pub branch_way : List Object → Value → ℕ → ℕ → Option Way
branch_way objects (Num zero) b c = Some (To c)
branch_way objects (Num (suc n)) b c = Some (To b)
branch_way objects (At p) b c = if is_somewhere objects p then Some (To b) else None
branch_way objects v b c = None

abbrev pub returned : Option ℕ → (ℕ → Value) → Value
returned (Some t) value = value t
returned None value = Undefined

abbrev pub way : List Object → End → (ℕ → Value) → Option Way
way objects (Jump b) value = Some (To b)
way objects (Branch a b c) value = branch_way objects (value a) b c
way objects (Return t) value = Some (Back (returned t value))

abbrev pub left_objects : Machine → List Object
left_objects m = end_from (length m.objects - m.frame.base) m.frame.base m.objects

abbrev pub back : Value → Machine → List Frame → Step
back v m [] = Astray
back v m (caller ∷ callers) = On (takes_result m.frame.result v (record m {
  frame = caller;
  callers = callers;
  objects = left_objects m;
  moments = Returned m.frame.function.name (left_objects m) ∷ m.moments;
}))

abbrev pub went : Option Way → Machine → Step
went None m = Astray
went (Some (To b)) m = jumps b m
went (Some (Back v)) m = back v m m.callers
