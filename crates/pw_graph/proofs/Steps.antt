-- What the loops that make the lists of a call graph keep true, one item further.
use Rattle.std.proofs.Common.{◌≡◌, ◌⊎◌, ℕ, zero, suc, ◌+◌, ◌<◌, ◌≤◌, Bool, true, false, List, [], ◌∷◌, ◌++◌, length, map, get_or, take, drop, refl, sym, ap, subst, ◌∙◌, arith, inl, inr, add-one, add-zero, drop-cons, append_assoc}
use Rattle.std.proofs.lemmas.List.{append-nil, length-take-le, length-map, get_or-map, map-append}
use Rattle.std.proofs.lemmas.Option.{slice_get_within, get_or_from_slice_get, slice_get-get_or, same_Some}
use Rattle.std.specs.Prelude.{Option, Some, None, slice_get, Contains, if◌then◌else◌, ◌↔◌, nat_lt, IfSome, IfNone}
use Rattle.std.specs.List.{filter_map, cons_option, flat_map, AllByRecursion, AllZip}
use Rattle.std.specs.Str.{bytes_eq}
use Rattle.std.proofs.lemmas.List.Elements.{Contains-append_left, Contains-append_right, Contains-append_cases, filter_map-append}
use Rattle.std.proofs.lemmas.Bool.{cases_lt, lt-ltb, le-ltb}
use Rattle.std.proofs.lemmas.Grind.{take_at_read, flat_map-append}
use Rattle.std.proofs.lemmas.List.Concat.{flat_map-cons}
use Rattle.pw_fields.proofs.NameLaws.{get-place}
use Rattle.pw_files.proofs.Standing.{has_each, has_by}
use Rattle.pw_fix.specs.Row.{Holds}
use Rattle.pw_fix.specs.declared.bit_row.BitRow.{BitRow}
use Rattle.pw_value.specs.ProgramNames.{main_name}
use Rattle.pw_fields.specs.FieldNames.{is_among, place_of}
use Rattle.pw_summary.specs.declared.summary.Uses.{Uses}
use Rattle.pw_graph.specs.Program.{main_in}
use Rattle.pw_graph.specs.Making.{homes_in, targets_from, place_in, place_if}

pub homes_push : (fs : List (List ℕ × List ℕ)) (us : List Uses) (f : List ℕ × List ℕ) → homes_in (fs ++ f ∷ []) us ≡ homes_in fs us ++ (f.0, f.1, slice_get us (length fs)) ∷ []
homes_push [] [] f = refl
homes_push [] (u ∷ us) f = refl
homes_push (g ∷ fs) [] f = ap (λ (es : List (List ℕ × List ℕ × Option Uses)). (g.0, g.1, None) ∷ es) (homes_push fs [] f)
homes_push (g ∷ fs) (u ∷ us) f = ap (λ (es : List (List ℕ × List ℕ × Option Uses)). (g.0, g.1, Some u) ∷ es) (homes_push fs us f)

pushed : {X : Type 0} (b : Bool) (x : X) (ys bs cs : List X) → ys ≡ bs ++ cs → (if b then (x ∷ ys) else ys) ≡ (if b then (x ∷ bs) else bs) ++ cs
pushed {X} true x ys bs cs e = ap (λ (zs : List X). x ∷ zs) e
pushed false x ys bs cs e = e

pub targets_push : (taken : List (List ℕ)) (n : ℕ) (hs : List (List ℕ × List ℕ × Option Uses)) (h : List ℕ × List ℕ × Option Uses) → targets_from taken n (hs ++ h ∷ []) ≡ targets_from taken n hs ++ targets_from taken (n + length hs) (h ∷ [])
targets_push taken n [] h = ap (λ m. targets_from taken m (h ∷ [])) (sym (add-zero n))
targets_push taken n (g ∷ hs) h =
    let same : suc n + length hs ≡ n + length (g ∷ hs) = omega arith in
    pushed (is_among taken g.0) (g.1, n) (targets_from taken (suc n) (hs ++ h ∷ [])) (targets_from taken (suc n) hs) (targets_from taken (n + length (g ∷ hs)) (h ∷ []))
    (subst (λ m. targets_from taken (suc n) (hs ++ h ∷ []) ≡ targets_from taken (suc n) hs ++ targets_from taken m (h ∷ [])) same (targets_push taken (suc n) hs h))

targets_if : (b : Bool) (s : List ℕ) (n m : ℕ) (ts : List (List ℕ × ℕ)) → n < m → AllByRecursion (λ t. t.1 < m) ts → AllByRecursion (λ t. t.1 < m) (if b then ((s, n) ∷ ts) else ts)
targets_if true s n m ts lt all = (lt, all)
targets_if false s n m ts lt all = all

pub targets_within : (taken : List (List ℕ)) (n m : ℕ) (hs : List (List ℕ × List ℕ × Option Uses)) → n + length hs ≤ m → AllByRecursion (λ t. t.1 < m) (targets_from taken n hs)
targets_within taken n m [] le = tt
targets_within taken n m (h ∷ hs) le = targets_if (is_among taken h.0) h.1 n m (targets_from taken (suc n) hs) (omega arith) (targets_within taken (suc n) m hs (omega arith))

-- ---- sets of places

-- what is put into a set beside the first ones
pub union_more : (Old Now New : ℕ → Type 0) (ps bs cs : List ℕ) → cs ≡ ps ++ bs → ((b : ℕ) → Now b ↔ (Old b ⊎ Contains ps b)) → ((b : ℕ) → New b ↔ (Now b ⊎ Contains bs b)) → (b : ℕ) → New b ↔ (Old b ⊎ Contains cs b)
union_more Old Now New ps bs cs e now new b = (
  λ h. elim ((new b).0 h) [
    | inl k ↦ elim ((now b).0 k) [ inl o ↦ inl o | inr c ↦ inr (subst (λ (zs : List ℕ). Contains zs b) (sym e) (Contains-append_left ps bs b c)) ]
    | inr c ↦ inr (subst (λ (zs : List ℕ). Contains zs b) (sym e) (Contains-append_right ps bs b c))
  ],
  λ h. elim h [
    | inl o ↦ (new b).1 (inl ((now b).1 (inl o)))
    | inr c ↦ elim (Contains-append_cases ps bs b (subst (λ (zs : List ℕ). Contains zs b) e c)) [
      | inl k ↦ (new b).1 (inl ((now b).1 (inr k)))
      | inr k ↦ (new b).1 (inr k)
    ]
  ],
)

only : (p b : ℕ) → Contains (p ∷ []) b → b ≡ p
only p b (zero, lt, e) = sym e
only p b (suc k, lt, e) = absurd (omega (arith, lt))

this : (p b : ℕ) → b ≡ p → Contains (p ∷ []) b
this p b e = (0, omega arith, sym e)

inserted : (Now New : ℕ → Type 0) (p : ℕ) → ((b : ℕ) → New b ↔ ((b ≡ p) ⊎ Now b)) → (b : ℕ) → New b ↔ (Now b ⊎ Contains (p ∷ []) b)
inserted Now New p new b = (
  λ h. elim ((new b).0 h) [ inl e ↦ inr (this p b e) | inr k ↦ inl k ],
  λ h. elim h [ inl k ↦ (new b).1 (inr k) | inr c ↦ (new b).1 (inl (only p b c)) ],
)

one_kept : {X Y : Type 0} (h : X → Option Y) (x : X) (o : Option Y) → h x ≡ o → filter_map h (x ∷ []) ≡ cons_option o []
one_kept {X} {Y} h x o e = ap (λ (p : Option Y). cons_option p []) e

further : {X Y : Type 0} (h : X → Option Y) (xs : List X) (i : ℕ) (x : X) (o : Option Y) → i < length xs → x ≡ get_or xs i x → h x ≡ o → filter_map h (take (i + 1) xs) ≡ filter_map h (take i xs) ++ cons_option o []
further {X} {Y} h xs i x o lt at e =
    ap (λ (ys : List X). filter_map h ys) ((take_at_read xs i x lt).1) ∙ filter_map-append h (take i xs) (get_or xs i x ∷ []) ∙ ap (λ (ys : List Y). filter_map h (take i xs) ++ ys) (ap (λ (y : X). filter_map h (y ∷ [])) (sym at) ∙ one_kept h x o e)

pub set_put : {X : Type 0} (h : X → Option ℕ) (xs : List X) (i : ℕ) (x : X) (p : ℕ) (old now new : BitRow) → i < length xs → x ≡ get_or xs i x → h x ≡ Some p
    → ((b : ℕ) → Holds now b ↔ (Holds old b ⊎ Contains (filter_map h (take i xs)) b)) → ((b : ℕ) → Holds new b ↔ ((b ≡ p) ⊎ Holds now b))
    → (b : ℕ) → Holds new b ↔ (Holds old b ⊎ Contains (filter_map h (take (i + 1) xs)) b)
set_put h xs i x p old now new lt at e before after =
    union_more (Holds old) (Holds now) (Holds new) (filter_map h (take i xs)) (p ∷ []) (filter_map h (take (i + 1) xs)) (further h xs i x (Some p) lt at e) before (inserted (Holds now) (Holds new) p after)

pub set_skip : {X : Type 0} (h : X → Option ℕ) (xs : List X) (i : ℕ) (x : X) (old now : BitRow) → i < length xs → x ≡ get_or xs i x → h x ≡ None
    → ((b : ℕ) → Holds now b ↔ (Holds old b ⊎ Contains (filter_map h (take i xs)) b))
    → (b : ℕ) → Holds now b ↔ (Holds old b ⊎ Contains (filter_map h (take (i + 1) xs)) b)
set_skip h xs i x old now lt at e before =
    union_more (Holds old) (Holds now) (Holds now) (filter_map h (take i xs)) [] (filter_map h (take (i + 1) xs)) (further h xs i x None lt at e) before (λ b. (λ k. inl k, λ k. elim k [ inl j ↦ j | inr c ↦ absurd (omega (arith, c.1)) ]))

-- ---- the shape of main

main_by : (f : List ℕ × List ℕ) (fs : List (List ℕ × List ℕ)) (b : Bool) → bytes_eq f.0 main_name ≡ b → main_in (f ∷ fs) ≡ (if b then Some f.1 else main_in fs)
main_by f fs b e = ap (λ (t : Bool). if t then Some f.1 else main_in fs) e

main_at : (fs : List (List ℕ × List ℕ)) (i : ℕ) (f : List ℕ × List ℕ) → i < length fs → f ≡ get_or fs i f → drop i fs ≡ f ∷ drop (i + 1) fs
main_at fs i f lt at = rw add-one (drop-cons fs i f lt ∙ ap (λ (g : List ℕ × List ℕ). g ∷ drop (suc i) fs) (sym at))

pub main_skipped : (fs : List (List ℕ × List ℕ)) (i : ℕ) (f : List ℕ × List ℕ) → i < length fs → f ≡ get_or fs i f → bytes_eq f.0 main_name ≡ false → main_in fs ≡ main_in (drop i fs) → main_in fs ≡ main_in (drop (i + 1) fs)
main_skipped fs i f lt at off e = e ∙ ap main_in (main_at fs i f lt at) ∙ main_by f (drop (i + 1) fs) false off

pub main_found : (fs : List (List ℕ × List ℕ)) (i : ℕ) (f : List ℕ × List ℕ) → i < length fs → f ≡ get_or fs i f → bytes_eq f.0 main_name ≡ true → main_in fs ≡ main_in (drop i fs) → main_in fs ≡ Some f.1
main_found fs i f lt at on e = e ∙ ap main_in (main_at fs i f lt at) ∙ main_by f (drop (i + 1) fs) true on

-- ---- one item further in a list that is made

pub homes_more : (fs : List (List ℕ × List ℕ)) (us : List Uses) (i : ℕ) (f : List ℕ × List ℕ) → slice_get fs i ≡ Some f → homes_in (take (i + 1) fs) us ≡ homes_in (take i fs) us ++ (f.0, f.1, slice_get us i) ∷ []
homes_more fs us i f there =
    let lt : i < length fs = slice_get_within fs i f there in
    let at : f ≡ get_or fs i f = sym (get_or_from_slice_get fs i f f there) in
    let size : length (take i fs) ≡ i = length-take-le i fs (omega (arith, lt)) in
    ap (λ (gs : List (List ℕ × List ℕ)). homes_in gs us) ((take_at_read fs i f lt).1 ∙ ap (λ (g : List ℕ × List ℕ). take i fs ++ g ∷ []) (sym at)) ∙ homes_push (take i fs) us f
    ∙ ap (λ k. homes_in (take i fs) us ++ (f.0, f.1, slice_get us k) ∷ []) size

pub view_push : {R X : Type 0} (view : R → X) (old new : List R) (x : R) (y : X) (before part : List X) → new ≡ old ++ x ∷ [] → view x ≡ y → map view old ≡ before ++ part → map view new ≡ before ++ (part ++ y ∷ [])
view_push {R} {X} view old new x y before part e same seen =
    ap (λ (zs : List R). map view zs) e ∙ map-append view old (x ∷ []) ∙ ap (λ (zs : List X). zs ++ view x ∷ []) seen ∙ append_assoc before part (view x ∷ []) ∙ ap (λ z. before ++ (part ++ z ∷ [])) same

-- what there is at a place
pub some_there : {X : Type 0} (xs : List X) (i : ℕ) (d : X) → i < length xs → slice_get xs i ≡ Some (get_or xs i d)
some_there xs i d lt = slice_get-get_or xs i d lt

pub homes_next : {R : Type 0} (view : R → List ℕ × List ℕ × Option Uses) (old new : List R) (x : R) (before : List (List ℕ × List ℕ × Option Uses)) (fs : List (List ℕ × List ℕ)) (us : List Uses) (i : ℕ) → i < length fs → new ≡ old ++ x ∷ []
    → ((f : List ℕ × List ℕ) → slice_get fs i ≡ Some f → view x ≡ (f.0, f.1, slice_get us i)) → map view old ≡ before ++ homes_in (take i fs) us → map view new ≡ before ++ homes_in (take (i + 1) fs) us
homes_next view old new x before fs us i lt e same seen =
    let f = get_or fs i ([], []) in
    let there : slice_get fs i ≡ Some f = some_there fs i ([], []) lt in
    view_push view old new x (f.0, f.1, slice_get us i) before (homes_in (take i fs) us) e (same f there) seen
    ∙ ap (λ (zs : List (List ℕ × List ℕ × Option Uses)). before ++ zs) (sym (homes_more fs us i f there))

-- ---- a loop's end, and its next item

pub take_whole : {X : Type 0} (xs : List X) (i : ℕ) → length xs ≤ i → take i xs ≡ xs
take_whole [] zero le = refl
take_whole [] (suc i) le = refl
take_whole (x ∷ xs) zero le = absurd (omega (arith, le))
take_whole {X} (x ∷ xs) (suc i) le = ap (λ (ys : List X). x ∷ ys) (take_whole xs i (omega (arith, le)))

pub at_end : {X : Type 0} (h : X → Option ℕ) (xs : List X) (i : ℕ) (old now : BitRow) → length xs ≤ i → ((b : ℕ) → Holds now b ↔ (Holds old b ⊎ Contains (filter_map h (take i xs)) b)) → (b : ℕ) → Holds now b ↔ (Holds old b ⊎ Contains (filter_map h xs) b)
at_end {X} h xs i old now le holds = subst (λ (ys : List X). (b : ℕ) → Holds now b ↔ (Holds old b ⊎ Contains (filter_map h ys) b)) (take_whole xs i le) holds

pub at_flat_end : {X : Type 0} (h : X → List ℕ) (xs : List X) (i : ℕ) (old now : BitRow) → length xs ≤ i → ((b : ℕ) → Holds now b ↔ (Holds old b ⊎ Contains (flat_map h (take i xs)) b)) → (b : ℕ) → Holds now b ↔ (Holds old b ⊎ Contains (flat_map h xs) b)
at_flat_end {X} h xs i old now le holds = subst (λ (ys : List X). (b : ℕ) → Holds now b ↔ (Holds old b ⊎ Contains (flat_map h ys) b)) (take_whole xs i le) holds

pub flat_put : {X : Type 0} (h : X → List ℕ) (xs : List X) (i : ℕ) (x : X) (old now new : BitRow) → i < length xs → x ≡ get_or xs i x
    → ((b : ℕ) → Holds now b ↔ (Holds old b ⊎ Contains (flat_map h (take i xs)) b)) → ((b : ℕ) → Holds new b ↔ (Holds now b ⊎ Contains (h x) b))
    → (b : ℕ) → Holds new b ↔ (Holds old b ⊎ Contains (flat_map h (take (i + 1) xs)) b)
flat_put {X} h xs i x old now new lt at before after =
    let more : flat_map h (take (i + 1) xs) ≡ flat_map h (take i xs) ++ h x =
    ap (λ (ys : List X). flat_map h ys) ((take_at_read xs i x lt).1) ∙ flat_map-append h (take i xs) (get_or xs i x ∷ []) ∙ ap (λ (ys : List ℕ). flat_map h (take i xs) ++ ys) (ap (λ (y : X). flat_map h (y ∷ [])) (sym at) ∙ flat_map-cons h x [] ∙ append-nil (h x)) in
    union_more (Holds old) (Holds now) (Holds new) (flat_map h (take i xs)) (h x) (flat_map h (take (i + 1) xs)) more before after

-- the next item of what a list is seen as
pub mapped_item : {R X : Type 0} (view : R → X) (xs : List R) (i : ℕ) (x : R) → i < length xs → x ≡ get_or xs i x → (i < length (map view xs)) × (view x ≡ get_or (map view xs) i (view x))
mapped_item view xs i x lt at = (omega (arith, lt, length-map xs view), ap view at ∙ sym (get_or-map view xs i x (view x) lt))

pub kept_push : {R X Y : Type 0} (view : R → X) (h : Y → Option X) (old new : List R) (r : R) (before : List X) (ys : List Y) (i : ℕ) (y : Y) → i < length ys → y ≡ get_or ys i y → h y ≡ Some (view r) → new ≡ old ++ r ∷ []
    → map view old ≡ before ++ filter_map h (take i ys) → map view new ≡ before ++ filter_map h (take (i + 1) ys)
kept_push {R} {X} {Y} view h old new r before ys i y lt at e pushed seen =
    view_push view old new r (view r) before (filter_map h (take i ys)) pushed refl seen ∙ ap (λ (zs : List X). before ++ zs) (sym (further h ys i y (Some (view r)) lt at e))

pub kept_skip : {X Y : Type 0} (h : Y → Option X) (seen before : List X) (ys : List Y) (i : ℕ) (y : Y) → i < length ys → y ≡ get_or ys i y → h y ≡ None → seen ≡ before ++ filter_map h (take i ys) → seen ≡ before ++ filter_map h (take (i + 1) ys)
kept_skip {X} {Y} h seen before ys i y lt at e is = is ∙ ap (λ (zs : List X). before ++ zs) (sym (further h ys i y None lt at e ∙ append-nil (filter_map h (take i ys))))

pub kept_add : {X Y : Type 0} (h : Y → Option X) (row new : List X) (x : X) (ys : List Y) (i : ℕ) (y : Y) → i < length ys → y ≡ get_or ys i y → h y ≡ Some x → new ≡ row ++ x ∷ [] → row ≡ filter_map h (take i ys) → new ≡ filter_map h (take (i + 1) ys)
kept_add {X} {Y} h row new x ys i y lt at e pushed is = pushed ∙ ap (λ (zs : List X). zs ++ x ∷ []) is ∙ sym (further h ys i y (Some x) lt at e)

pub kept_same : {X Y : Type 0} (h : Y → Option X) (row : List X) (ys : List Y) (i : ℕ) (y : Y) → i < length ys → y ≡ get_or ys i y → h y ≡ None → row ≡ filter_map h (take i ys) → row ≡ filter_map h (take (i + 1) ys)
kept_same {X} {Y} h row ys i y lt at e is = is ∙ sym (further h ys i y None lt at e ∙ append-nil (filter_map h (take i ys)))

zip_push : {X Y : Type 0} (Q : X → Y → Type 0) (xs : List X) (ys : List Y) (x : X) (y : Y) → AllZip Q xs ys → Q x y → AllZip Q (xs ++ x ∷ []) (ys ++ y ∷ [])
zip_push Q [] [] x y all one = (one, tt)
zip_push Q [] (z ∷ zs) x y all one = absurd all
zip_push Q (w ∷ xs) [] x y all one = absurd all
zip_push Q (w ∷ xs) (z ∷ zs) x y all one = (all.0, zip_push Q xs zs x y all.1 one)

pub zip_more : {R X Y : Type 0} (view : R → X) (Q : X → Y → Type 0) (xs : List R) (ys : List Y) (i : ℕ) (x : R) (y : Y) → i < length xs → x ≡ get_or xs i x → AllZip Q (map view (take i xs)) ys → Q (view x) y → AllZip Q (map view (take (i + 1) xs)) (ys ++ y ∷ [])
zip_more {R} {X} {Y} view Q xs ys i x y lt at all one =
    let more : map view (take (i + 1) xs) ≡ map view (take i xs) ++ view x ∷ [] =
    ap (λ (zs : List R). map view zs) ((take_at_read xs i x lt).1) ∙ map-append view (take i xs) (get_or xs i x ∷ []) ∙ ap (λ (z : R). map view (take i xs) ++ view z ∷ []) (sym at) in
    subst (λ (zs : List X). AllZip Q zs (ys ++ y ∷ [])) (sym more) (zip_push Q (map view (take i xs)) ys (view x) y all one)

-- ---- what a function calls

pub calls_some : (none first last : BitRow) (ps bs : List ℕ) → ((b : ℕ) → Holds none b → ⊥) → ((b : ℕ) → Holds first b ↔ (Holds none b ⊎ Contains ps b)) → ((b : ℕ) → Holds last b ↔ (Holds first b ⊎ Contains bs b)) → (b : ℕ) → Holds last b ↔ Contains (ps ++ bs) b
calls_some none first last ps bs empty one two b = (
  λ h. elim ((union_more (Holds none) (Holds first) (Holds last) ps bs (ps ++ bs) refl one two b).0 h) [ inl k ↦ absurd (empty b k) | inr c ↦ c ],
  λ c. (union_more (Holds none) (Holds first) (Holds last) ps bs (ps ++ bs) refl one two b).1 (inr c),
)

pub calls_none : (none : BitRow) → ((b : ℕ) → Holds none b → ⊥) → (b : ℕ) → Holds none b ↔ Contains [] b
calls_none none empty b = (λ h. absurd (empty b h), λ c. absurd (omega (arith, c.1)))

-- ---- targets

pub targets_more : (taken : List (List ℕ)) (hs : List (List ℕ × List ℕ × Option Uses)) (i : ℕ) (h : List ℕ × List ℕ × Option Uses) → i < length hs → h ≡ get_or hs i h → targets_from taken 0 (take (i + 1) hs) ≡ targets_from taken 0 (take i hs) ++ targets_from taken i (h ∷ [])
targets_more taken hs i h lt at =
    let size : length (take i hs) ≡ i = length-take-le i hs (omega (arith, lt)) in
    let place : 0 + length (take i hs) ≡ i = omega (arith, size) in
    ap (λ (gs : List (List ℕ × List ℕ × Option Uses)). targets_from taken 0 gs) ((take_at_read hs i h lt).1 ∙ ap (λ (g : List ℕ × List ℕ × Option Uses). take i hs ++ g ∷ []) (sym at)) ∙ targets_push taken 0 (take i hs) h
    ∙ ap (λ k. targets_from taken 0 (take i hs) ++ targets_from taken k (h ∷ [])) place

pub target_in : (taken : List (List ℕ)) (i : ℕ) (h : List ℕ × List ℕ × Option Uses) → is_among taken h.0 ≡ true → targets_from taken i (h ∷ []) ≡ (h.1, i) ∷ []
target_in taken i h on = ap (λ (b : Bool). if b then ((h.1, i) ∷ []) else []) on

pub target_out : (taken : List (List ℕ)) (i : ℕ) (h : List ℕ × List ℕ × Option Uses) → is_among taken h.0 ≡ false → targets_from taken i (h ∷ []) ≡ []
target_out taken i h off = ap (λ (b : Bool). if b then ((h.1, i) ∷ []) else []) off

-- ---- places

place_true : (m n : ℕ) → m < n → nat_lt m n ≡ true
place_true m n lt = lt-ltb m n lt

place_false : (m n : ℕ) → (m < n → ⊥) → nat_lt m n ≡ false
place_false m n lacks = elim (cases_lt m n) [ inl lt ↦ absurd (lacks lt) | inr le ↦ le-ltb m n le ]

pub place_found : (names : List (List ℕ)) (name : List ℕ) (found : Option ℕ) → IfSome found (λ i. (i < length names) × (place_of names name ≡ i)) → IfNone found (Contains names name → ⊥) → found ≡ place_in names name
place_found names name (Some i) some none =
    let lt : place_of names name < length names = omega (arith, some.0, some.1) in
    sym (ap (λ (b : Bool). if b then Some (place_of names name) else None) (place_true (place_of names name) (length names) lt) ∙ ap Some some.1)
place_found names name None some none =
    sym (ap (λ (b : Bool). if b then Some (place_of names name) else None) (place_false (place_of names name) (length names) (λ lt. none (place_of names name, lt, get-place names name name lt))))

-- the place of a target is within
shape_place : (b : Bool) (p i : ℕ) → (if b then Some p else None) ≡ Some i → p ≡ i
shape_place true p i e = same_Some p i e
shape_place false p i e = absurd cc

pub place_fits : (ts : List (List ℕ × ℕ)) (n i : ℕ) (t : List ℕ × ℕ) (shape : List ℕ) (p : ℕ) → AllByRecursion (λ s. s.1 < n) ts → i < length ts → t ≡ get_or ts i t → place_if shape t ≡ Some p → p < n
place_fits ts n i t shape p all lt at e =
    let fits : t.1 < n = has_each (λ s. s.1 < n) ts t all (has_by t ts (i, lt, sym at)) in
    let same : t.1 ≡ p = shape_place (bytes_eq t.0 shape) t.1 p e in
    omega (arith, fits, same)
