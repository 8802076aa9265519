-- States stay related where bytes are written: to an object and that in which it stands, or to a local that is kept in a
-- temporary.
use Rattle.std.proofs.Common.{◌≡◌, ◌≢◌, ℕ, ◌+◌, ◌<◌, inl, inr, Bool, true, false, true≢false, Some, List, [], length, ap, sym, ◌∙◌, subst, arith, append-nil, length-set, All}
use Rattle.std.proofs.lemmas.Bool.{cases_eq}
use Rattle.std.proofs.lemmas.Option.{same_Some}
use Rattle.std.proofs.lemmas.List.{get_or_past, get_or-set_same, get_or-set_other}
use Rattle.pw_value.specs.Objects.{Object, no_object, object_at, with_bytes, written}
use Rattle.pw_value.specs.declared.value.Byte.{Byte}
use Rattle.pw_value.specs.declared.value.Value.{Value}
use Rattle.pw_value.specs.declared.value.Value.TheVariants as V
use Rattle.pw_types.specs.TypeTrees.{type_of}
use Rattle.pw_types.specs.TypedTrees.{LocalValue}
use Rattle.pw_flow.specs.declared.flow.Op.{Op}
use Rattle.pw_lower.specs.declared.place.LocalPlace.{LocalPlace}
use Rattle.pw_lower.specs.declared.place.LocalPlace.TheVariants.{Temp, Slot}
use Rattle.pw_cmean.specs.Acts.{State}
use Rattle.pw_cmean.specs.Access as source
use Rattle.pw_cmean.specs.Typed.{IsByte}
use Rattle.pw_run_languages.specs.FlowRun.{Machine, value_in}
use Rattle.pw_law_refine.specs.Standing.{Spot, Nowhere, In, spot_of, Stands}
use Rattle.pw_law_refine.specs.Activations.{Activation, Numbers, number_of, place_in}
use Rattle.pw_law_refine.specs.Matching.{StandsAt, IsLocalAt, Related, Lasts}
use Rattle.pw_law_refine_steps.specs.Stretches.{moved_on}
use Rattle.pw_law_refine_forms.proofs.Bytes.{BytesStand}
use Rattle.pw_law_refine_forms.proofs.Memory.{memory-written, memory-nowhere, live-left, size-left, small-left, count-left, bytes-left, is-other, is-written}
use Rattle.pw_law_refine_forms.proofs.Places.{places-apart}

is_in : Spot → Bool
is_in Nowhere = false
is_in (In f size) = true

pub not-in : (spot : Spot) (f size : ℕ) → spot ≡ Nowhere → spot ≡ In f size → ⊥
unfolding is_in
not-in spot f size e h = true≢false (ap is_in (sym h ∙ e))

-- ---- to an object that stands in another

-- the machine with what is left of its block, and other objects
abbrev pub with_objects : List Op → List Object → Machine → Machine
with_objects rest objects m = record (record m { frame = record m.frame { ops = rest } }) { objects = objects }

-- the state with other objects
abbrev pub of_objects : List Object → State → State
of_objects objects s = record s { objects = objects }

local-written :
    (x : Activation) (spots : List Spot) (s : State) (m : Machine) (rest : List Op) (o f size i : ℕ) (new now : List Byte) (l : LocalValue) (p : ℕ) (place : LocalPlace)
    → spot_of spots o ≡ In f size → StandsAt x spots s m l p place
    → StandsAt x spots (of_objects (written o i new s.objects) s) (with_objects rest (written f i now m.objects) m) l p place
local-written x spots s m rest o f size i new now l p (Temp t) spot st = (
  st.0,
  subst (λ (y : Object). Stands spots (source.value_in (type_of l.ty) y.bytes) (value_in m.frame t))
      (sym (is-other s.objects o i p new (λ e. not-in (spot_of spots p) f size st.0 (ap (λ (k : ℕ). spot_of spots k) e ∙ spot)))) st.1,
)
local-written x spots s m rest o f size i new now l p (Slot n) spot st = st

pub related-written :
    (x : Activation) (numbers : Numbers) (spots : List Spot) (s : State) (m : Machine) (rest : List Op) (o f size i : ℕ) (new now : List Byte)
    → Related x numbers spots s m → (object_at s.objects o).live ≡ true → spot_of spots o ≡ In f size → BytesStand spots new now → All IsByte new
    → Related x numbers spots (of_objects (written o i new s.objects) s) (with_objects rest (written f i now m.objects) m)
related-written x numbers spots s m rest o f size i new now r live spot b are = record {
  matches = record {
    memory = memory-written spots s.objects m.objects o f size i new now r.matches.memory live spot b;
    globals = λ g h. let q = r.matches.globals g h in record { there = q.there; live = live-left s.objects o i g new ∙ q.live };
    input = r.matches.input;
    shows = r.matches.shows;
    active = r.matches.active;
    bytes = record { objects = bytes-left s.objects o i new are r.matches.bytes.objects; input = r.matches.bytes.input };
    small = small-left s.objects o i new r.matches.small;
  };
  frame = record {
    function = r.frame.function;
    base = r.frame.base;
    result = r.frame.result;
    callers = r.frame.callers;
    temps = r.frame.temps;
    scope = r.frame.scope;
    locals = λ k p e. let l = r.frame.locals k p e in record {
      local = l.local;
      is = l.is;
      live = live-left s.objects o i p new ∙ l.live;
      size = size-left s.objects o i p new ∙ l.size;
      stands = local-written x spots s m rest o f size i new now l.local p (place_in x k) spot l.stands;
    };
    apart = r.frame.apart;
    slots = λ n g. let q = r.frame.slots n g in record {
      live = live-left m.objects f i (x.base + n) now ∙ q.live;
      size = size-left m.objects f i (x.base + n) now ∙ q.size;
    };
    owned = λ p n k lives there less. r.frame.owned p n k (sym (live-left s.objects o i p new) ∙ lives) there less;
  };
}

pub lasts-written :
    (numbers : Numbers) (spots : List Spot) (s : State) (m : Machine) (rest : List Op) (o f size i : ℕ) (new now : List Byte)
    → spot_of spots o ≡ In f size
    → Lasts numbers spots spots s (of_objects (written o i new s.objects) s) m (with_objects rest (written f i now m.objects) m)
lasts-written numbers spots s m rest o f size i new now spot = record {
  more = ([], sym (append-nil spots));
  unnamed = λ p h there not. is-other s.objects o i p new (λ e. not-in (spot_of spots p) f size there (ap (λ (k : ℕ). spot_of spots k) e ∙ spot));
  lives = λ p h. live-left s.objects o i p new;
  ended = λ p h. live-left s.objects o i p new ∙ ap (λ (y : Object). y.live) (get_or_past s.objects p no_object h);
  count = omega (arith, count-left m.objects f i now);
  living = λ g h. live-left m.objects f i g now;
  sizes = λ g h. size-left m.objects f i g now;
}

-- ---- to a local that is kept

kept-other :
    (x : Activation) (spots : List Spot) (s : State) (m : Machine) (rest : List Op) (o t : ℕ) (new : List Byte) (w : Value) (l : LocalValue) (p : ℕ) (place : LocalPlace)
    → p ≢ o → place ≢ Temp t → StandsAt x spots s m l p place
    → StandsAt x spots (of_objects (written o 0 new s.objects) s) (moved_on rest t w m) l p place
kept-other x spots s m rest o t new w l p (Temp i) ne apart st = (
  st.0,
  subst (λ (y : Object). Stands spots (source.value_in (type_of l.ty) y.bytes) (value_in (moved_on rest t w m).frame i)) (sym (is-other s.objects o 0 p new ne))
      (subst (λ (u : Value). Stands spots (source.value_in (type_of l.ty) (object_at s.objects p).bytes) u) (sym (get_or-set_other m.frame.temps t i w V.Undefined (λ e. apart (ap Temp e)))) st.1),
)
kept-other x spots s m rest o t new w l p (Slot n) ne apart st = st

pub related-kept :
    (x : Activation) (numbers : Numbers) (spots : List Spot) (s : State) (m : Machine) (rest : List Op) (k o t : ℕ) (new : List Byte) (w : Value)
    → (r : Related x numbers spots s m) → (named : number_of numbers k ≡ Some o) → place_in x k ≡ Temp t → t < length m.frame.temps → All IsByte new
    → Stands spots (source.value_in (type_of (r.frame.locals k o named).local.ty) (with_bytes new 0 (object_at s.objects o).bytes)) w
    → Related x numbers spots (of_objects (written o 0 new s.objects) s) (moved_on rest t w m)
related-kept x numbers spots s m rest k o t new w r named place room are stands =
    let own = r.frame.locals k o named in
    let after : State = of_objects (written o 0 new s.objects) s in
    let n : Machine = moved_on rest t w m in
    let here : StandsAt x spots s m own.local o (Temp t) = subst (λ (p : LocalPlace). StandsAt x spots s m own.local o p) place own.stands in
    let base : IsLocalAt x spots after n k o = record {
      local = own.local;
      is = own.is;
      live = live-left s.objects o 0 o new ∙ own.live;
      size = size-left s.objects o 0 o new ∙ own.size;
      stands = subst (λ (p : LocalPlace). StandsAt x spots after n own.local o p) (sym place) (
        here.0,
        subst (λ (y : Object). Stands spots (source.value_in (type_of own.local.ty) y.bytes) (value_in n.frame t)) (sym (is-written s.objects o 0 new own.live))
            (subst (λ (u : Value). Stands spots (source.value_in (type_of own.local.ty) (with_bytes new 0 (object_at s.objects o).bytes)) u) (sym (get_or-set_same m.frame.temps t w V.Undefined room)) stands),
      );
    } in
    record {
      matches = record {
        memory = memory-nowhere spots s.objects m.objects o 0 new r.matches.memory (λ f size e. not-in (spot_of spots o) f size here.0 e);
        globals = λ g h. let q = r.matches.globals g h in record { there = q.there; live = live-left s.objects o 0 g new ∙ q.live };
        input = r.matches.input;
        shows = r.matches.shows;
        active = r.matches.active;
        bytes = record { objects = bytes-left s.objects o 0 new are r.matches.bytes.objects; input = r.matches.bytes.input };
        small = small-left s.objects o 0 new r.matches.small;
      };
      frame = record {
        function = r.frame.function;
        base = r.frame.base;
        result = r.frame.result;
        callers = r.frame.callers;
        temps = length-set m.frame.temps t w ∙ r.frame.temps;
        scope = r.frame.scope;
        locals = λ j p e. elim (cases_eq p o) [
          | inl same ↦ subst (λ (q : ℕ). IsLocalAt x spots after n j q) (sym same)
              (subst (λ (i : ℕ). IsLocalAt x spots after n i o) (r.frame.apart k j o named (e ∙ ap Some same)) base)
          | inr ne ↦ let l = r.frame.locals j p e in record {
            local = l.local;
            is = l.is;
            live = live-left s.objects o 0 p new ∙ l.live;
            size = size-left s.objects o 0 p new ∙ l.size;
            stands = kept-other x spots s m rest o t new w l.local p (place_in x j) ne
                (λ h. ne (same_Some p o (sym e ∙ ap (λ (i : ℕ). number_of numbers i) (places-apart x j k t l.local own.local l.is own.is h place) ∙ named))) l.stands;
          }
        ];
        apart = r.frame.apart;
        slots = λ i g. let q = r.frame.slots i g in record { live = q.live; size = q.size };
        owned = λ p i z lives there less. r.frame.owned p i z (sym (live-left s.objects o 0 p new) ∙ lives) there less;
      };
    }

pub lasts-kept :
    (numbers : Numbers) (spots : List Spot) (s : State) (m n : Machine) (k o : ℕ) (new : List Byte)
    → number_of numbers k ≡ Some o → n.objects ≡ m.objects
    → Lasts numbers spots spots s (of_objects (written o 0 new s.objects) s) m n
lasts-kept numbers spots s m n k o new named same = record {
  more = ([], sym (append-nil spots));
  unnamed = λ p h there not. is-other s.objects o 0 p new (λ e. not k (named ∙ ap Some (sym e)));
  lives = λ p h. live-left s.objects o 0 p new;
  ended = λ p h. live-left s.objects o 0 p new ∙ ap (λ (y : Object). y.live) (get_or_past s.objects p no_object h);
  count = omega (arith, ap (λ (l : List Object). length l) same);
  living = λ g h. ap (λ (l : List Object). (object_at l g).live) same;
  sizes = λ g h. ap (λ (l : List Object). length (object_at l g).bytes) same;
}
