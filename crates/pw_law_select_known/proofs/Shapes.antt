-- What an operation that calls nothing leaves as it is.
use Rattle.std.proofs.Common.{◌≡◌, ℕ, suc, ◌==◌, ◌&&◌, ◌||◌, Bool, true, false, if◌then◌else◌, List, [], ◌∷◌, length, refl, sym, ap, subst, ◌∙◌, inl, inr}
use Rattle.std.specs.Prelude.{not, Option, Some, None, slice_set}
use Rattle.std.proofs.lemmas.Bool.{cases_lt, cases_eq}
use Rattle.std.proofs.lemmas.List.{length-set, get_or-set_same, get_or-set_other, set_past}
use Rattle.pw_value.specs.declared.value.Kind.{Kind}
use Rattle.pw_value.specs.declared.value.Value.{Value}
use Rattle.pw_value.specs.declared.value.Value.TheVariants.{At}
use Rattle.pw_value.specs.declared.value.Byte.{Byte}
use Rattle.pw_value.specs.declared.value.Pointer.TheVariants as P
use Rattle.pw_value.specs.Objects.{Object, no_object, object_at, bytes_from, with_bytes, written}
use Rattle.pw_value.specs.Values.{encoding}
use Rattle.pw_db.specs.declared.database.Web.{Web}
use Rattle.pw_flow.specs.ValidFlow.{kind_size}
use Rattle.pw_webflow.specs.declared.web.WebOp.{WebOp}
use Rattle.pw_webflow.specs.declared.web.WebOp.TheVariants.{Flow, Read, Write}
use Rattle.pw_webflow.specs.WebOutline.{calls}
use Rattle.pw_alloc.specs.declared.located.Located.{Located}
use Rattle.pw_run_languages.specs.Traces.{Event, Loaded, Stored}
use Rattle.pw_run_languages.specs.Values.{binary}
use Rattle.pw_run_languages.specs.Memory.{is_of_kind, is_open, may_stand, is_apart, look, poke_in, poke, copy}
use Rattle.pw_run_languages.specs.Programs.{Program, global_number}
use Rattle.pw_run_languages.specs.Commands as command
use Rattle.pw_run_languages.specs.FlowRun.{is_own_kind, get_global, put_global}
use Rattle.pw_run_languages.specs.Direction.{with_functions}
use Rattle.pw_run_languages.specs.PlacedRun.{PlacedProgram, Machine, Step, On, Stopped, Astray, with_register, register_at, value_in, with_temp, gives, is_eligible, noted_if, stores_global, is_reserved, changes, enters, leaves, obeys, does}
use Rattle.pw_law_operations.specs.Laws.{StaysInside}
use Rattle.pw_law_operations.proofs.Asking.{stays_inside}
use Rattle.pw_law_select_known.proofs.Lists.{choose}
use Rattle.pw_law_select_known.proofs.Parts.{put_by, set_by, stored_by, loaded_by}
use Rattle.pw_law_select_known.specs.Laws.{IsAccess, KeepsShape, OperationsKeepShape, WebsKeepShape}

-- ---- objects

record ObjectsKeep (old new : List Object) : Type 0 where
  count : length new ≡ length old
  lives : (o : ℕ) → (object_at new o).live ≡ (object_at old o).live
  sizes : (o : ℕ) → length (object_at new o).bytes ≡ length (object_at old o).bytes

abbrev IfKeep : List Object → Option (List Object) → Type 0
IfKeep old (Some new) = ObjectsKeep old new
IfKeep old None = Unit {0}

-- what a new object at a place has as the old one had, all have
set_keeps : {X : Type 0} (f : Object → X) (objects : List Object) (o : ℕ) (x : Object) → f x ≡ f (object_at objects o) → (k : ℕ) → f (object_at (slice_set objects o x) k) ≡ f (object_at objects k)
set_keeps {X} f objects o x same k = elim (cases_eq k o) [
  | inl e ↦ elim (cases_lt o (length objects)) [
    | inl less ↦ subst (λ (j : ℕ). f (object_at (slice_set objects o x) j) ≡ f (object_at objects j)) (sym e) (ap f (get_or-set_same objects o x no_object less) ∙ same)
    | inr more ↦ ap (λ (l : List Object). f (object_at l k)) (set_past objects o x more)
  ]
  | inr ne ↦ ap f (get_or-set_other objects o k x no_object ne)
]

with_bytes_length : (new : List Byte) (i : ℕ) (bytes : List Byte) → length (with_bytes new i bytes) ≡ length bytes
with_bytes_length [] i bytes = refl
with_bytes_length (b ∷ new) i bytes = with_bytes_length new (suc i) (slice_set bytes i b) ∙ length-set bytes i b

written_keeps : (o i : ℕ) (new : List Byte) (objects : List Object) → ObjectsKeep objects (written o i new objects)
written_keeps o i new objects =
    let x : Object = record (object_at objects o) { bytes = with_bytes new i (object_at objects o).bytes } in
    record {
      count = length-set objects o x;
      lives = set_keeps (λ (y : Object). y.live) objects o x refl;
      sizes = set_keeps (λ (y : Object). length y.bytes) objects o x (with_bytes_length new i (object_at objects o).bytes);
    }

poke_in_keeps : (k : Kind) (o i : ℕ) (v : Value) (objects : List Object) → IfKeep objects (poke_in k o i v objects)
poke_in_keeps k o i v objects =
    choose (IfKeep objects) (is_open objects o i (kind_size k) (kind_size k) && may_stand k v) (Some (written o i (encoding v (kind_size k)) objects)) None
    (written_keeps o i (encoding v (kind_size k)) objects) tt

poke_keeps : (k : Kind) (a v : Value) (objects : List Object) → IfKeep objects (poke k a v objects)
poke_keeps k (At (P.Object o i)) v objects = poke_in_keeps k o i v objects
poke_keeps k _ v objects = tt

copy_keeps : (v w : Value) (size unit : ℕ) (objects : List Object) → IfKeep objects (copy v w size unit objects)
copy_keeps (At (P.Object o i)) (At (P.Object q j)) size unit objects =
    choose (IfKeep objects) (is_open objects o i size unit && (is_open objects q j size unit && (not (o == q) || is_apart i j size)))
    (Some (written o i (bytes_from size j (object_at objects q).bytes) objects)) None
    (written_keeps o i (bytes_from size j (object_at objects q).bytes) objects) tt
copy_keeps _ _ size unit objects = tt

set_by_keeps : (k : Kind) (v : Value) (objects : List Object) (o : Option ℕ) → IfKeep objects (set_by k v objects o)
set_by_keeps k v objects (Some o) = poke_in_keeps k o 0 v objects
set_by_keeps k v objects None = tt

-- ---- steps

module _ (p : Program) (fs : List Located) (m : Machine) where
  abbrev full : PlacedProgram
  full = with_functions p fs

  abbrev ShapeStep : Step → Type 0
  ShapeStep (On n) = KeepsShape m n
  ShapeStep (Stopped end n) = Unit {0}
  ShapeStep Astray = Unit {0}

  itself : KeepsShape m m
  itself = record { count = refl; lives = λ o. refl; sizes = λ o. refl; temps = refl; log = []; quiet = tt; noted = refl }

  put_shape : (t : ℕ) (v : Value) (n : Machine) (r : Option ℕ) → KeepsShape m n → KeepsShape m (put_by t v n r)
  put_shape t v n (Some r) h = record { count = h.count; lives = h.lives; sizes = h.sizes; temps = h.temps; log = h.log; quiet = h.quiet; noted = h.noted }
  put_shape t v n None h = record { count = h.count; lives = h.lives; sizes = h.sizes; temps = length-set n.frame.temps t v ∙ h.temps; log = h.log; quiet = h.quiet; noted = h.noted }

  temp_shape : (t : ℕ) (v : Value) (n : Machine) → KeepsShape m n → KeepsShape m (with_temp t v n)
  temp_shape t v n h = put_shape t v n (register_at n.frame.function.places t) h

  gives_shape : (t : ℕ) (v : Option Value) (n : Machine) → KeepsShape m n → ShapeStep (gives t v n)
  gives_shape t (Some v) n h = temp_shape t v n h
  gives_shape t None n h = tt

  note_shape : (b : Bool) (e : Event Byte Value) (n : Machine) → IsAccess e → KeepsShape m n → KeepsShape m (noted_if b e n)
  note_shape true e n access h =
      record { count = h.count; lives = h.lives; sizes = h.sizes; temps = h.temps; log = e ∷ h.log; quiet = (access, h.quiet); noted = ap (λ (l : List (Event Byte Value)). e ∷ l) h.noted }
  note_shape false e n access h = h

  objects_shape : (objects : List Object) → ObjectsKeep m.objects objects → KeepsShape m (record m { objects = objects })
  objects_shape objects k = record { count = k.count; lives = k.lives; sizes = k.sizes; temps = refl; log = []; quiet = tt; noted = refl }

  changes_shape : (objects : Option (List Object)) → IfKeep m.objects objects → ShapeStep (changes objects m)
  changes_shape (Some objects) k = objects_shape objects k
  changes_shape None k = tt

  stored_shape : (g : List ℕ) (objects : Option (List Object)) → IfKeep m.objects objects → ShapeStep (stored_by full g m objects)
  stored_shape g (Some objects) k = note_shape (is_eligible full g) (Stored g) (record m { objects = objects }) tt (objects_shape objects k)
  stored_shape g None k = tt

  put_global_keeps : (g : List ℕ) (k : Kind) (v : Value) → IfKeep m.objects (put_global p g k v m.objects)
  put_global_keeps g k v =
      choose (IfKeep m.objects) (is_own_kind p g k && is_of_kind k v) (set_by k v m.objects (global_number p g)) None (set_by_keeps k v m.objects (global_number p g)) tt

  obeys_shape : (c : command.Command) → StaysInside c → ShapeStep (obeys full c m)
  obeys_shape (command.Give t v) quiet = temp_shape t v m itself
  obeys_shape (command.Combine k t v w) quiet = gives_shape t (binary m.objects k v w) m itself
  obeys_shape (command.Look k t a) quiet = choose ShapeStep (is_reserved full a) Astray (gives t (look k a m.objects) m) tt (gives_shape t (look k a m.objects) m itself)
  obeys_shape (command.Poke k a v) quiet = choose ShapeStep (is_reserved full a) Astray (changes (poke k a v m.objects) m) tt (changes_shape (poke k a v m.objects) (poke_keeps k a v m.objects))
  obeys_shape (command.Copied to from size unit) quiet =
      choose ShapeStep (is_reserved full to || is_reserved full from) Astray (changes (copy to from size unit m.objects) m) tt
      (changes_shape (copy to from size unit m.objects) (copy_keeps to from size unit m.objects))
  obeys_shape (command.GetGlobal t g k) quiet =
      gives_shape t (get_global p g k m.objects) (noted_if (is_eligible full g) (Loaded g) m) (note_shape (is_eligible full g) (Loaded g) m tt itself)
  obeys_shape (command.PutGlobal g k v) quiet = stored_shape g (put_global p g k v m.objects) (put_global_keeps g k v)
  obeys_shape (command.Enter t f args) quiet = absurd quiet
  obeys_shape command.Fail quiet = tt

  does_shape : (o : WebOp) → calls o ≡ false → ShapeStep (does full o m)
  does_shape (Flow o) e = obeys_shape (command.command p m.frame.base o (value_in m.frame m.registers)) (stays_inside p m.frame.base o (value_in m.frame m.registers) e)
  does_shape (Read t r) e = temp_shape t (m.registers r) m itself
  does_shape (Write r a) e = record { count = refl; lives = λ o. refl; sizes = λ o. refl; temps = refl; log = []; quiet = tt; noted = refl }

  -- ---- webs

  loaded_shape : (x : Web) (v : Option Value) → ShapeStep (loaded_by full x m v)
  loaded_shape x (Some v) =
      note_shape (is_eligible full x.global) (Loaded x.global) (record m { registers = with_register x.reg v m.registers }) tt
      (record { count = refl; lives = λ o. refl; sizes = λ o. refl; temps = refl; log = []; quiet = tt; noted = refl })
  loaded_shape x None = tt

  enters_shape : (x : Web) → ShapeStep (enters full x m)
  enters_shape x = loaded_shape x (get_global p x.global x.kind m.objects)

  leave_shape : (x : Web) (b : Bool) → ShapeStep (if b then stores_global full x.global x.kind (m.registers x.reg) m else On m)
  leave_shape x true = stored_shape x.global (put_global p x.global x.kind (m.registers x.reg) m.objects) (put_global_keeps x.global x.kind (m.registers x.reg))
  leave_shape x false = itself

  leaves_shape : (x : Web) → ShapeStep (leaves full x m)
  leaves_shape x = leave_shape x x.writes

pub webs_keep_shape : WebsKeepShape
webs_keep_shape p functions x m n (inl e) = subst (ShapeStep p functions m) e (enters_shape p functions m x)
webs_keep_shape p functions x m n (inr e) = subst (ShapeStep p functions m) e (leaves_shape p functions m x)

pub operations_keep_shape : OperationsKeepShape
operations_keep_shape p functions o m n quiet e = subst (ShapeStep p functions m) e (does_shape p functions m o quiet)
