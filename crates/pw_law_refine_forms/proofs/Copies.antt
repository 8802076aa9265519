-- Assignments of structures and unions (C90 6.3.16.1): their bytes are copied.
use Rattle.std.proofs.Common.{◌≡◌, ◌≢◌, ℕ, zero, suc, ◌+◌, ◌==◌, ◌&&◌, ◌||◌, inl, inr, Bool, true, false, not, true≢false, nat_lt, nat_le, eq-eqb, ne_eqb, ltb-false, le-leb, if◌then◌else◌, Option, Some, None, unwrap_or, option_map, List, [], ◌∷◌, ◌++◌, Contains, All, refl, ap, sym, ◌∙◌, subst, arith}
use Rattle.std.proofs.lemmas.Bool.{and_from, and_cases, or_left, or_right, cases_eq, not-false}
use Rattle.std.proofs.lemmas.List.Elements.{Contains-append_left, Contains-append_right, All-nil, All-cons}
use Rattle.pw_value.specs.declared.value.Byte.{Byte}
use Rattle.pw_value.specs.declared.value.Value.{Value}
use Rattle.pw_value.specs.declared.value.Value.TheVariants as V
use Rattle.pw_value.specs.declared.value.Pointer.TheVariants as P
use Rattle.pw_value.specs.Objects.{Object, object_at, byte_at, bytes_from, written}
use Rattle.pw_types.specs.TypeTrees.{CType, Void, Record, QType, type_of}
use Rattle.pw_types.specs.Layouts.{layout_of}
use Rattle.pw_types.specs.declared.record.Layout.{Layout}
use Rattle.pw_types.specs.TypedTrees.{Expression, Node, Assign}
use Rattle.pw_types.specs.WellTyped.{IsTyped, HasForm, type_in}
use Rattle.pw_flow.specs.declared.flow.Op.TheVariants as op
use Rattle.pw_lower.specs.declared.code.Code.{Code}
use Rattle.pw_lower.specs.Codes.{Lowered, temp_of, value_is, emit}
use Rattle.pw_lower.specs.Places.{local_in, addressed_in}
use Rattle.pw_lower.specs.Operators.{bytes_of, unit_of}
use Rattle.pw_lower.specs.Expressions.{lower, place, is_record, copied, stored, scalar_kind}
use Rattle.pw_cmean.specs.declared.undefined.Undef.TheVariants as U
use Rattle.pw_cmean.specs.Undefined.{Finding, ◌when◌, least, lesser}
use Rattle.pw_cmean.specs.Acts as source
use Rattle.pw_cmean.specs.Acts.{State, Site, Act, Outcome, Gives, give, stop, wrong, need, look, ◌>>=◌, go_on}
use Rattle.pw_cmean.specs.Access as access
use Rattle.pw_cmean.specs.Access.{Purpose, Assigning, writing, overlap, within, objects_now, put}
use Rattle.pw_cmean.specs.Evaluation.{site, used, assigned, answer_of, place_of}
use Rattle.pw_cmean.specs.SourceRun.{calls}
use Rattle.pw_cmean.specs.Typed.{IsByte}
use Rattle.pw_run_languages.specs.Commands.{command}
use Rattle.pw_run_languages.specs.Memory as flow
use Rattle.pw_run_languages.specs.FlowRun as run
use Rattle.pw_run_languages.specs.FlowRun.{Machine, value_in}
use Rattle.pw_law_refine.specs.Standing.{Spot, In, spot_of, Stands, MemoryStands}
use Rattle.pw_law_refine.specs.Activations.{Activation, IsActivation, Numbers, graph_of, home_of, env_of, HaveSlots}
use Rattle.pw_law_refine.specs.Containing.{ContainsCode}
use Rattle.pw_law_refine.specs.Meeting.{Meets}
use Rattle.pw_law_refine.specs.Expressions.{assigned_in, IsReady, HasValue, HasResult, IsOfPlaces, ExpressionKeeps}
use Rattle.pw_law_refine_forms.specs.Accesses.{AddressKeeps}
use Rattle.pw_law_refine_forms.proofs.Laws.{Laws}
use Rattle.pw_law_refine_forms.proofs.Simulation.{meets-then, meets-here, judged}
use Rattle.pw_law_refine_forms.proofs.Kit.{before-emit, comes-by, value-after, none-in, ready-then, stays, HasOperand, operand, operand-stands}
use Rattle.pw_law_refine_forms.proofs.Bytes.{from-stand, is-byte}
use Rattle.pw_law_refine_forms.proofs.Memory.{bytes-of}
use Rattle.pw_law_refine_forms.proofs.States.{with_objects, related-written, lasts-written}
use Rattle.pw_law_refine_forms.proofs.Access.{first-false, access-allowed, writing-allowed, is-open}

-- ---- findings of two accesses

-- where there is no finding in a list, there is none in its parts
least-left : (xs ys : List Finding) → least (xs ++ ys) ≡ None → least xs ≡ None
least-left [] ys e = refl
least-left (f ∷ xs) ys e =
    let h = first-false f.operation f.holds (xs ++ ys) e in
    ap (λ (b : Bool). if b then Some (lesser f.operation (least xs)) else least xs) h.0 ∙ least-left xs ys h.1

least-right : (xs ys : List Finding) → least (xs ++ ys) ≡ None → least ys ≡ None
least-right [] ys e = e
least-right (f ∷ xs) ys e = least-right xs ys (first-false f.operation f.holds (xs ++ ys) e).1

-- ---- ranges that do not meet

not-below : (a b : ℕ) → nat_lt a b ≡ false → nat_le b a ≡ true
not-below a b e = le-leb b a (ltb-false a b e)

-- two ranges in one object that do not overlap are one, or apart
apart : (i j size : ℕ) → (not (i == j) && nat_lt i (j + size) && nat_lt j (i + size)) ≡ false → flow.is_apart i j size ≡ true
apart i j size e = elim (and_cases (not (i == j) && nat_lt i (j + size)) (nat_lt j (i + size)) e) [
  | inl a ↦ elim (and_cases (not (i == j)) (nat_lt i (j + size)) a) [
    | inl b ↦ or_left (i == j) (nat_le (i + size) j || nat_le (j + size) i) (not-false (i == j) b)
    | inr b ↦ or_right (i == j) (nat_le (i + size) j || nat_le (j + size) i) (or_right (nat_le (i + size) j) (nat_le (j + size) i) (not-below i (j + size) b))
  ]
  | inr a ↦ or_right (i == j) (nat_le (i + size) j || nat_le (j + size) i) (or_left (nat_le (i + size) j) (nat_le (j + size) i) (not-below j (i + size) a))
]

-- objects of the flow run that are one are those of one object
pub apart-in :
    (spots : List Spot) (objects kept : List Object) (a b i j size f n g k : ℕ) → MemoryStands spots objects kept → (object_at objects a).live ≡ true → (object_at objects b).live ≡ true
    → spot_of spots a ≡ In f n → spot_of spots b ≡ In g k → overlap size (V.At (P.Object a i)) (V.At (P.Object b j)) ≡ false
    → (not (f == g) || flow.is_apart i j size) ≡ true
apart-in spots objects kept a b i j size f n g k m la lb sa sb o = elim (cases_eq f g) [
  | inl e ↦
      let same : a ≡ b = m.apart a b f n k la lb sa (sb ∙ ap (λ (h : ℕ). In h k) (sym e)) in
      or_right (not (f == g)) (flow.is_apart i j size) (apart i j size
      (sym (ap (λ (t : Bool). t && not (i == j) && nat_lt i (j + size) && nat_lt j (i + size)) (eq-eqb a b same)) ∙ o))
  | inr ne ↦ or_left (not (f == g)) (flow.is_apart i j size) (ap not (ne_eqb f g ne))
]

-- ---- the copy

bytes-are : (n at : ℕ) (xs : List Byte) → All IsByte xs → All IsByte (bytes_from n at xs)
bytes-are zero at xs h = All-nil IsByte
bytes-are (suc n) at xs h = All-cons IsByte (byte_at xs at) (bytes_from n (suc at) xs) (is-byte xs at h) (bytes-are n (suc at) xs h)

pub copies :
    Laws → (bound : ℕ) (x : Activation) (numbers : Numbers) (spots : List Spot) (assigned : List ℕ) (purpose : Purpose) (at : Site) (layout : Layout) (to from : ℕ) (d : Code) (s : State) (m : Machine) (origin target : Value)
    → IsReady x numbers spots d s m → ContainsCode (graph_of x) (emit (op.Move to from layout.size layout.align) d) → Stands spots target (value_in m.frame to) → Stands spots origin (value_in m.frame from)
    → Meets x.world bound m (access.copy purpose at layout target origin s) (λ done. HasValue x numbers spots assigned (value_is to (emit (op.Move to from layout.size layout.align) d)) d s m (Some target))
unfolding access.copy objects_now look within source.write give wrong stop command ◌>>=◌ go_on
copies laws bound x numbers spots assigned purpose at layout to from d s m (V.At (P.Object b j)) (V.At (P.Object a i)) ready holds st so =
    let size = layout.size in
    let unit = layout.align in
    let target = V.At (P.Object a i) in
    let origin = V.At (P.Object b j) in
    judged x.world bound m at (U.OverlappingCopy when overlap size target origin ∷ (access.access s.objects size unit origin ++ writing purpose s.objects size unit target)) _ s _ ready.related.matches.shows (λ none.
    let first = first-false U.OverlappingCopy (overlap size target origin) (access.access s.objects size unit origin ++ writing purpose s.objects size unit target) none in
    let from-ok = access-allowed s.objects size unit b j (least-left (access.access s.objects size unit origin) (writing purpose s.objects size unit target) first.1) in
    let to-ok = writing-allowed purpose s.objects size unit a i (least-right (access.access s.objects size unit origin) (writing purpose s.objects size unit target) first.1) in
    let f = st.1.object in
    let g = so.1.object in
    let memory = ready.related.matches.memory in
    let new = bytes_from size j (object_at s.objects b).bytes in
    let now = bytes_from size j (object_at m.objects g).bytes in
    let nx = laws.next (graph_of x) d (op.Move to from size unit) m holds.filled ready.behind in
    let e = nx.behind 0 V.Undefined in
    let n : Machine = with_objects nx.rest (written f i now m.objects) m in
    let opens : (flow.is_open m.objects f i size unit && (flow.is_open m.objects g j size unit && (not (f == g) || flow.is_apart i j size))) ≡ true =
    and_from (flow.is_open m.objects f i size unit) (flow.is_open m.objects g j size unit && (not (f == g) || flow.is_apart i j size)) (is-open spots s.objects m.objects size unit a i f st.1.size memory to-ok st.1.there)
    (and_from (flow.is_open m.objects g j size unit) (not (f == g) || flow.is_apart i j size) (is-open spots s.objects m.objects size unit b j g so.1.size memory from-ok so.1.there)
    (apart-in spots s.objects m.objects a b i j size f st.1.size g so.1.size memory to-ok.live from-ok.live st.1.there so.1.there first.0)) in
    record {
      count = 1;
      machine = n;
      comes = comes-by laws x d (op.Move to from size unit) m n nx
          (ap (λ (objects : Option (List Object)). run.changes objects (record m { frame = record m.frame { ops = nx.rest } }))
          (ap (λ (u : Value). flow.copy u (value_in m.frame from) size unit m.objects) (st.2 ∙ ap V.At st.1.is) ∙ ap (λ (u : Value). flow.copy (V.At (P.Object f i)) u size unit m.objects) (so.2 ∙ ap V.At so.1.is)
          ∙ ap (λ (t : Bool). if t then Some (written f i now m.objects) else None) opens));
      holds = record {
        done = record {
          later = record {
            spots = spots;
            related = related-written x numbers spots s m nx.rest a f st.1.size i new now ready.related to-ok.live st.1.there
                (from-stand spots size j (object_at s.objects b).bytes (object_at m.objects g).bytes (memory.holds b g so.1.size from-ok.live so.1.there).bytes)
                (bytes-are size j (object_at s.objects b).bytes (bytes-of s.objects b ready.related.matches.bytes.objects));
            lasts = lasts-written numbers spots s m nx.rest a f st.1.size i new now st.1.there;
          };
          temps = λ l h not. refl;
        };
        behind = record { block = e.block; there = e.there; here = e.here; ops = e.ops; end = e.end };
        stands = st;
      };
    })
copies laws bound x numbers spots assigned purpose at layout to from d s m origin target ready holds st so =
    judged x.world bound m at (U.OverlappingCopy when overlap layout.size target origin ∷ (access.access s.objects layout.size layout.align origin ++ writing purpose s.objects layout.size layout.align target)) _ s _ ready.related.matches.shows (λ none. tt)

-- ---- the form

record-is : (ty : CType) (number : ℕ) → ty ≡ Record number → is_record ty ≡ true
record-is ty number e = ap is_record e

record-not-void : (ty : CType) (number : ℕ) → ty ≡ Record number → ty ≢ Void
record-not-void ty number e v = true≢false (sym (record-is ty number e) ∙ ap is_record v)

-- a structure or union is put into an object of its type
pub puts-record :
    Laws → (bound : ℕ) (x : Activation) (numbers : Numbers) (spots : List Spot) (assigned : List ℕ) (purpose : Purpose) (at : Site) (number to : ℕ) (y : Lowered) (s : State) (m : Machine) (target origin : Value)
    → IsReady x numbers spots y.code s m → ContainsCode (graph_of x) (copied x.home.tree.records (Record number) to y).code → Stands spots target (value_in m.frame to) → Stands spots origin (value_in m.frame (temp_of y))
    → Meets x.world bound m (put purpose at x.home.tree.records (Record number) target origin s) (λ done. HasValue x numbers spots assigned (copied x.home.tree.records (Record number) to y) y.code s m (Some target))
unfolding put need give stop wrong ◌>>=◌ go_on
puts-record laws bound x numbers spots assigned purpose at number to y s m target origin ready holds st so = by_layout (layout_of x.home.tree.records (Record number)) refl
  where
    code : Option Layout → Lowered
    code r = value_is to (emit (op.Move to (temp_of y) (unwrap_or (option_map (λ (l : Layout). l.size) r) 0) (unwrap_or (option_map (λ (l : Layout). l.align) r) 1)) y.code)

    by_layout : (r : Option Layout) → layout_of x.home.tree.records (Record number) ≡ r
        → Meets x.world bound m ((need r >>= λ layout. access.copy purpose at layout target origin) s) (λ done. HasValue x numbers spots assigned (copied x.home.tree.records (Record number) to y) y.code s m (Some target))
    by_layout None e = tt
    by_layout (Some layout) e =
        subst (λ (z : Lowered). Meets x.world bound m (access.copy purpose at layout target origin s) (λ done. HasValue x numbers spots assigned z y.code s m (Some target))) (sym (ap code e))
        (copies laws bound x numbers spots assigned purpose at layout to (temp_of y) y.code s m origin target ready (subst (λ (z : Lowered). ContainsCode (graph_of x) z.code) (ap code e) holds) st so)

record-assigned : (ty : CType) (number : ℕ) (place v : Value) → ty ≡ Record number → assigned ty place v ≡ place
record-assigned ty number place v e = ap (λ (u : CType). assigned u place v) e

-- what comes behind the copy: the place of the left operand is given in a form
assigns :
    {A : Type 0} → Laws → (bound t : ℕ) (ty : QType) (a b : Expression) (number : ℕ) (F : A → Option Value) (last : Value → Value → Act A)
    → ((v w : Value) (s : State) → (r : A) × (last v w s ≡ Gives r s) × (F r ≡ Some v))
    → type_in a ≡ Record number → AddressKeeps bound a → ExpressionKeeps bound b
    → (x : Activation) (numbers : Numbers) (spots : List Spot) (c : Code) (s : State) (m : Machine)
    → IsActivation x → IsTyped x.home.tree x.function.locals (Node t ty (Assign a b)) → HaveSlots x (addressed_in a ++ addressed_in b)
    → ContainsCode (graph_of x) (lower (home_of x) (Node t ty (Assign a b)) c).code → IsReady x numbers spots c s m
    → Meets x.world bound m ((place_of a (calls x.world bound) (env_of x numbers) >>= λ place. answer_of b (calls x.world bound) (env_of x numbers) >>= used (site (env_of x numbers) t) >>= λ v. put Assigning (site (env_of x numbers) t) x.home.tree.records (type_in a) place v >>= λ done. last place v) s)
    (λ r. HasResult x numbers spots (Node t ty (Assign a b)) c s m (F r))
unfolding lower ◌>>=◌ go_on IsTyped HasForm
assigns {A} laws bound t ty a b number F last lasts is first second x numbers spots c s m active typed slots holds ready =
    let h = home_of x in
    let records = x.home.tree.records in
    let y = lower h a c in
    let z = lower h b y.code in
    let k = copied records (Record number) (temp_of y) z in
    let p = place h a c in
    let other = stored (scalar_kind (type_of ty)) p.target (lower h b p.code) in
    let at = site (env_of x numbers) t in
    let ty-is : type_of ty ≡ Record number = sym typed.1.3 ∙ is in
    let form : CType → Lowered = λ T. if is_record T then copied records T (temp_of y) z else other in
    let same : (if is_record (type_of ty) then copied records (type_of ty) (temp_of y) z else other) ≡ k = ap form ty-is in
    let whole : ContainsCode (graph_of x) k.code = subst (λ (l : Lowered). ContainsCode (graph_of x) l.code) same holds in
    let in-z = before-emit (graph_of x) (op.Move (temp_of y) (temp_of z) (bytes_of records (Record number)) (unit_of records (Record number))) z.code whole in
    let slots-a : HaveSlots x (addressed_in a) = λ i e. slots i (Contains-append_left (addressed_in a) (addressed_in b) i e) in
    let slots-b : HaveSlots x (addressed_in b) = λ i e. slots i (Contains-append_right (addressed_in a) (addressed_in b) i e) in
    let new = laws.results x a c typed.1.0 slots-a (record-not-void (type_in a) number is) in
    let temp : temp_of y ≡ new.result = ap (λ (r : Option ℕ). unwrap_or r 0) new.is in
    let la = local_in a in
    let all = la ++ assigned_in a ++ assigned_in b in
    let from-a : (i : ℕ) → Contains (assigned_in a) i → Contains all i = λ i e. Contains-append_left (la ++ assigned_in a) (assigned_in b) i (Contains-append_right la (assigned_in a) i e) in
    let from-b : (i : ℕ) → Contains (assigned_in b) i → Contains all i = λ i e. Contains-append_right (la ++ assigned_in a) (assigned_in b) i e in
    meets-then laws x.world bound m (place_of a (calls x.world bound) (env_of x numbers) s) _ (λ v. HasResult x numbers spots a c s m (Some v)) (λ r. HasResult x numbers spots (Node t ty (Assign a b)) c s m (F r))
    (first x numbers spots c s m active typed.1.0 slots-a (subst IsOfPlaces (sym is) tt) (laws.contain (graph_of x) h b y.code in-z) ready)
    (λ v u n q.
    let spots' = q.done.later.spots in
    let again = ready-then laws x numbers spots a c s u m n (Some v) ready q in
    meets-then laws x.world bound n ((answer_of b (calls x.world bound) (env_of x numbers) >>= used at) u) _ (HasOperand x numbers spots' b y.code u n) (λ r. HasResult x numbers spots (Node t ty (Assign a b)) c s m (F r))
    (operand laws bound x numbers spots' b y.code u n at active typed.1.1 q.done.later.related.matches.bytes (second x numbers spots' y.code u n active typed.1.1 slots-b in-z again))
    (λ w u' n' q'.
    let later = q'.0.done.later.spots in
    let kept : value_in n'.frame (temp_of y) ≡ value_in n.frame (temp_of y) =
    stays laws x numbers spots' b y.code (temp_of y) u u' n n' typed.1.1 (omega (arith, temp, new.since, ready.temps)) (omega (arith, temp, new.given)) q'.0.done in
    subst (λ (T : CType). Meets x.world bound n' ((put Assigning at records T v w >>= λ done. last v w) u') (λ r. HasResult x numbers spots (Node t ty (Assign a b)) c s m (F r))) (sym is)
    (meets-then laws x.world bound n' (put Assigning at records (Record number) v w u') (λ done. last v w) (λ done. HasValue x numbers later [] k z.code u' n' (Some v)) (λ r. HasResult x numbers spots (Node t ty (Assign a b)) c s m (F r))
    (puts-record laws bound x numbers later [] Assigning at number (temp_of y) z u' n' v w (ready-then laws x numbers spots' b y.code u u' n n' (Some w) again q'.0) whole
    (subst (λ (g : Value). Stands later v g) (sym kept) (laws.stands spots' later v (value_in n.frame (temp_of y)) q'.0.done.later.lasts.more (operand-stands spots' v y.temp n q.stands)))
    (operand-stands later w z.temp n' q'.0.stands))
    (λ done u'' n'' e.
    let l = lasts v w u'' in
    let whole-value = value-after laws x numbers spots (assigned_in a) (assigned_in b) all k c y.code s u u'' m n n'' (Some v) ready.related (laws.later h a c).temps from-a from-b q.done
    (value-after laws x numbers spots' (assigned_in b) [] (assigned_in b) k y.code z.code u u' u'' n n' n'' (Some v) q.done.later.related (laws.later h b y.code).temps (λ i g. g) (λ i g. none-in i (Contains (assigned_in b) i) g) q'.0.done e) in
    subst (λ (o : Outcome A). Meets x.world bound n'' o (λ r. HasResult x numbers spots (Node t ty (Assign a b)) c s m (F r))) (sym l.1)
    (meets-here x.world bound n'' l.0 u'' (λ r. HasResult x numbers spots (Node t ty (Assign a b)) c s m (F r))
    (subst (λ (i : Option Value). HasResult x numbers spots (Node t ty (Assign a b)) c s m i u'' n'') (sym l.2)
    (subst (λ (i : Lowered). HasValue x numbers spots all i c s m (Some v) u'' n'') (sym same) whole-value)))))))

pub record-assign-keeps : Laws → (bound t : ℕ) (ty : QType) (a b : Expression) (number : ℕ) → type_in a ≡ Record number → AddressKeeps bound a → ExpressionKeeps bound b → ExpressionKeeps bound (Node t ty (Assign a b))
unfolding answer_of give
record-assign-keeps laws bound t ty a b number is first second = λ x numbers spots c s m active typed slots holds ready.
    assigns laws bound t ty a b number (λ r. r) (λ v w. give (Some (assigned (type_in a) v w))) (λ v w u. (Some (assigned (type_in a) v w), refl, ap Some (record-assigned (type_in a) number v w is))) is first second x numbers spots c s m active typed slots holds ready

pub record-assign-address : Laws → (bound t : ℕ) (ty : QType) (a b : Expression) (number : ℕ) → type_in a ≡ Record number → AddressKeeps bound a → ExpressionKeeps bound b → AddressKeeps bound (Node t ty (Assign a b))
unfolding place_of give
record-assign-address laws bound t ty a b number is first second = λ x numbers spots c s m active typed slots places holds ready.
    assigns laws bound t ty a b number (λ v. Some v) (λ v w. give v) (λ v w u. (v, refl, refl)) is first second x numbers spots c s m active typed slots holds ready
