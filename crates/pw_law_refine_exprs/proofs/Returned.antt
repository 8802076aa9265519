-- Behind a call the states of the caller are related again, and of its temporaries the result's alone has changed.
use Rattle.std.proofs.Common.{◌≡◌, ℕ, ◌+◌, ◌<◌, ◌≤◌, inl, inr, true, true≢false, Option, Some, None, List, [], ◌++◌, length, slice_get, refl, ap, sym, ◌∙◌, subst, arith, length-set}
use Rattle.std.proofs.lemmas.Bool.{cases_lt}
use Rattle.std.proofs.lemmas.List.{get_or_past, get_or_append_left, get_or-set_other}
use Rattle.pw_value.specs.declared.value.Value.{Value}
use Rattle.pw_value.specs.declared.value.Value.TheVariants as V
use Rattle.pw_value.specs.Objects.{Object, no_object, object_at}
use Rattle.pw_types.specs.TypeTrees.{type_of}
use Rattle.pw_types.specs.TypedTrees.{LocalValue}
use Rattle.pw_flow.specs.declared.flow.Op.{Op}
use Rattle.pw_lower.specs.declared.code.Code.{Code}
use Rattle.pw_lower.specs.declared.place.LocalPlace.{LocalPlace}
use Rattle.pw_lower.specs.declared.place.LocalPlace.TheVariants.{Temp, Slot}
use Rattle.pw_lower.specs.Codes.{emit}
use Rattle.pw_cmean.specs.Acts.{State}
use Rattle.pw_cmean.specs.Access as source
use Rattle.pw_run_languages.specs.FlowRun.{Frame, Machine, value_in}
use Rattle.pw_law_refine.specs.Standing.{Spot, Nowhere, spot_of, Stands}
use Rattle.pw_law_refine.specs.Activations.{Activation, Numbers, graph_of, place_in, local_temps}
use Rattle.pw_law_refine.specs.Matching.{StandsAt, Related, Later}
use Rattle.pw_law_refine.specs.Containing.{IsBehind}
use Rattle.pw_law_refine.specs.Expressions.{IsDone}
use Rattle.pw_law_refine.specs.Calls.{with_result, HasReturned}
use Rattle.pw_law_refine_steps.specs.Stretches.{Next}
use Rattle.pw_law_refine_forms.proofs.Laws.{Laws}
use Rattle.pw_law_refine_forms.proofs.Symbols.{none-some}

-- ---- objects and spots

-- what lives has a number that an object has
pub lives-within : (objects : List Object) (o : ℕ) → (object_at objects o).live ≡ true → o < length objects
lives-within objects o live = elim (cases_lt o (length objects)) [
  | inl less ↦ less
  | inr past ↦ absurd (true≢false (sym live ∙ ap (λ (x : Object). x.live) (get_or_past objects o no_object past)))
]

pub spot-later : (spots later : List Spot) (o : ℕ) → ((new : List Spot) × (later ≡ spots ++ new)) → o < length spots → spot_of later o ≡ spot_of spots o
spot-later spots later o more within = ap (λ (l : List Spot). spot_of l o) more.1 ∙ get_or_append_left spots more.0 Nowhere o within

-- ---- the caller's temporaries

pub result-length : (r : Option ℕ) (v : Value) (temps : List Value) → length (with_result r v temps) ≡ length temps
result-length None v temps = refl
result-length (Some t) v temps = length-set temps t v

-- those below a number are kept, where the result's is not below it
pub result-apart : (r : Option ℕ) (v : Value) (f : Frame) (i least : ℕ) → ((t : ℕ) → r ≡ Some t → least ≤ t) → i < least → value_in (record f { temps = with_result r v f.temps }) i ≡ value_in f i
result-apart None v f i least above h = refl
result-apart (Some t) v f i least above h = get_or-set_other f.temps t i v V.Undefined (λ same. omega (arith, same, h, above t refl))

-- ---- the states

-- a caller that waits for the result in a temporary that no local has, and what a call has left
module _ (laws : Laws) (x : Activation) (numbers : Numbers) (spots : List Spot) (r : Option ℕ) (rest : List Op) (s : State) (m : Machine) (result : Option Value) (t : State) (n : Machine)
    (related : Related x numbers spots s m) (above : (i : ℕ) → r ≡ Some i → local_temps x ≤ i) (h : HasReturned x.world spots r rest s m result t n) where
  pub stays-in : (i : ℕ) → i < local_temps x → value_in n.frame i ≡ value_in m.frame i
  stays-in i less = ap (λ (f : Frame). value_in f i) h.frame ∙ result-apart r h.value m.frame i (local_temps x) above less

  pub same-spot : (o : ℕ) → o < length s.objects → spot_of h.later o ≡ spot_of spots o
  same-spot o within = spot-later spots h.later o h.lasts.more (omega (arith, within, related.matches.memory.count))

  -- a local has its size and stands where it stood
  pub stays-at : (l : LocalValue) (k o : ℕ) (p : LocalPlace) → slice_get x.function.locals k ≡ Some l → place_in x k ≡ p → (object_at s.objects o).live ≡ true → StandsAt x spots s m l o p
      → (length (object_at t.objects o).bytes ≡ length (object_at s.objects o).bytes) × StandsAt x h.later t n l o p
  stays-at l k o (Temp i) there place live st =
      let within = lives-within s.objects o live in
      let same : object_at t.objects o ≡ object_at s.objects o = h.lasts.unnamed o within st.0 (λ j e. none-some o e) in
      let kept : value_in n.frame i ≡ value_in m.frame i = stays-in i (laws.below x k i l there place) in
      let old = source.value_in (type_of l.ty) (object_at s.objects o).bytes in
      let stands : Stands h.later (source.value_in (type_of l.ty) (object_at t.objects o).bytes) (value_in n.frame i) =
      subst (λ (y : Object). Stands h.later (source.value_in (type_of l.ty) y.bytes) (value_in n.frame i)) (sym same)
      (subst (λ (w : Value). Stands h.later old w) (sym kept) (laws.stands spots h.later old (value_in m.frame i) h.lasts.more st.1)) in
      (ap (λ (y : Object). length y.bytes) same, (same-spot o within ∙ st.0, stands))
  stays-at l k o (Slot j) there place live st =
      let within = lives-within s.objects o live in
      let now = same-spot o within ∙ st.1 in
      let size = (h.matches.memory.holds o (x.base + j) st.0 (h.lasts.lives o within ∙ live) now).own_size in
      (size ∙ sym (related.matches.memory.holds o (x.base + j) st.0 live st.1).own_size, (st.0, now))

  unfoldable pub returned-later : Later x numbers spots s m t n
  returned-later = record {
    spots = h.later;
    related = record {
      matches = h.matches;
      frame = record {
        function = ap (λ (f : Frame). f.function) h.frame ∙ related.frame.function;
        base = ap (λ (f : Frame). f.base) h.frame ∙ related.frame.base;
        result = ap (λ (f : Frame). f.result) h.frame ∙ related.frame.result;
        callers = h.callers ∙ related.frame.callers;
        temps = ap (λ (f : Frame). length f.temps) h.frame ∙ result-length r h.value m.frame.temps ∙ related.frame.temps;
        scope = related.frame.scope;
        locals = λ k o e.
            let l = related.frame.locals k o e in
            let now = stays-at l.local k o (place_in x k) l.is refl l.live l.stands in
            record {
              local = l.local;
              is = l.is;
              live = h.lasts.lives o (lives-within s.objects o l.live) ∙ l.live;
              size = now.0 ∙ l.size;
              stands = now.1;
            };
        apart = related.frame.apart;
        slots = λ k less.
            let q = related.frame.slots k less in
            let within = lives-within m.objects (x.base + k) q.live in
            record { live = h.lasts.living (x.base + k) within ∙ q.live; size = h.lasts.sizes (x.base + k) within ∙ q.size };
        owned = λ o k size live there less. elim (cases_lt o (length s.objects)) [
          | inl within ↦ related.frame.owned o k size (sym (h.lasts.lives o within) ∙ live) (sym (same-spot o within) ∙ there) less
          | inr new ↦ absurd (true≢false (sym live ∙ h.lasts.ended o new))
        ];
      };
    };
    lasts = record {
      more = h.lasts.more;
      unnamed = λ o within there not. h.lasts.unnamed o within there (λ k e. none-some o e);
      lives = h.lasts.lives;
      ended = h.lasts.ended;
      count = h.lasts.count;
      living = h.lasts.living;
      sizes = h.lasts.sizes;
    };
  }

-- ---- the machine

-- Behind the operation that called, the temporaries that the code before had given out hold what they held.
unfoldable pub returned-done :
    Laws → (x : Activation) (numbers : Numbers) (spots : List Spot) (r : Option ℕ) (rest : List Op) (c : Code) (s : State) (m : Machine) (result : Option Value) (t : State) (n : Machine)
    → Related x numbers spots s m → local_temps x ≤ c.temps → ((i : ℕ) → r ≡ Some i → c.temps ≤ i) → HasReturned x.world spots r rest s m result t n
    → IsDone x numbers spots [] c s m t n
returned-done laws x numbers spots r rest c s m result t n related low above h = record {
  later = returned-later laws x numbers spots r rest s m result t n related (λ i e. omega (arith, low, above i e)) h;
  temps = λ i less not. ap (λ (f : Frame). value_in f i) h.frame ∙ result-apart r h.value m.frame i c.temps above less;
}

pub returned-behind :
    (x : Activation) (spots : List Spot) (r : Option ℕ) (c : Code) (o : Op) (s : State) (m : Machine) (result : Option Value) (t : State) (n : Machine)
    → (nx : Next (graph_of x) c o m) → HasReturned x.world spots r nx.rest s m result t n → IsBehind (graph_of x) (emit o c) n
returned-behind x spots r c o s m result t n nx h =
    let b = nx.behind 0 V.Undefined in
    record {
      block = b.block;
      there = b.there;
      here = ap (λ (f : Frame). f.block) h.frame ∙ b.here;
      ops = b.ops ∙ ap (λ (l : List Op). (emit o c).ops ++ l) (sym (ap (λ (f : Frame). f.ops) h.frame));
      end = ap (λ (f : Frame). f.end) h.frame ∙ b.end;
    }
