-- The text of a database from its webs and their uses, as it is gathered.
use Rattle.std.proofs.Common.{◌≡◌, ◌⊎◌, ℕ, suc, ◌+◌, ◌-◌, ◌<◌, ◌≤◌, ◌==◌, Bool, true, false, cond, List, [], ◌∷◌, ◌++◌, length, get_or, map, take, drop, refl, sym, ap, ap₂, subst, ◌∙◌, inl, inr, arith, Bor, append_assoc}
use Rattle.std.specs.Prelude.{filter, fold, T, ◌&&◌}
use Rattle.std.specs.List.{AllByRecursion, flat_map, prefix_len}
use Rattle.std.specs.List.Sorted.{IsNonDecreasingBy, IsPermutation}
use Rattle.std.specs.Ordering.{nat_cmp, is_lt, match_ordering}
use Rattle.std.specs.BTreeMap.{insert_entry}
use Rattle.std.specs.FinMap as finite
use Rattle.std.specs.FinMap.{empty_of_len, entries-from_sorted, entries-insert, from_sorted, len-entries, nat_cmp-IsAntisymmetric}
use Rattle.std.specs.FinMap.Entries.{put, by_order, below_all, is_sorted}
use Rattle.std.specs.Cmp.{nat_cmp_total}
use Rattle.std.specs.declared.cmp.Ordering.{Ordering}
use Rattle.std.specs.declared.cmp.Ordering.TheVariants.{Less, Equal, Greater}
use Rattle.std.proofs.lemmas.List.Sorted.{IsNonDecreasingBy-drop}
use Rattle.std.proofs.lemmas.Bool.{cases_eq, cases_lt, eq-eqb, ne_eqb, le-ltb}
use Rattle.pw_db.specs.declared.database.Web.{Web}
use Rattle.pw_db.specs.declared.database.Role.{Role}
use Rattle.pw_db.specs.declared.database.Role.TheVariants.{Entry, Member}
use Rattle.pw_db.specs.declared.database.Directives.{Directives}
use Rattle.pw_db.specs.Database.{all_webs, webs_of}
use Rattle.pw_list.specs.DatabaseText.{Webs, with_web, webs_by_number, has_role, uses_of, uses, users, web_line, line_in, webs_text}
use Rattle.std.proofs.lemmas.List.{append-nil, drop-drop, drop-map, length-drop, length-map, map-append, take-map, take_more}
use Rattle.std.proofs.lemmas.Grind.{flat_map-append}
use Rattle.std.proofs.lemmas.List.Sums.{prefix_len-le-length}
use Rattle.std.proofs.lemmas.List.Folds.{length-prefix_len}
use Rattle.pw_list.specs.declared.database.Use.{Use}
use Rattle.pw_list.specs.Gathering.{use_view, entry_view, with_entry, is_of, IsByNumber, prefix_of, behind, names_of, lines_from}
use Rattle.pw_list.proofs.Ordered.{first_is_least, moved, rest_rises}

-- ---- the webs in their map

abbrev pub Entries : Type 0
Entries = List (ℕ × Web)

-- the webs of a map that is written as its entries
abbrev pub values_of : Entries → List Web
values_of es = map (λ e. e.1) es

put_is_insert : (k : ℕ) (v : Web) (es : Entries) → put nat_cmp k v es ≡ insert_entry nat_cmp es k v
put_is_insert k v [] = refl
put_is_insert k v (e ∷ es) = go (nat_cmp k e.0) (put_is_insert k v es)
  where
    go : (o : Ordering) → put nat_cmp k v es ≡ insert_entry nat_cmp es k v → by_order o ((k, v) ∷ e ∷ es) ((e.0, v) ∷ es) (e ∷ put nat_cmp k v es) ≡ match_ordering o ((k, v) ∷ e ∷ es) ((e.0, v) ∷ es) (e ∷ insert_entry nat_cmp es k v)
    go Less rest = refl
    go Equal rest = refl
    go Greater rest = ap (λ (others : Entries). e ∷ others) rest

pub entries_folded : (ws : List Web) (m : Webs) → finite.entries (fold with_web m ws) ≡ fold with_entry (finite.entries m) ws
entries_folded [] m = refl
entries_folded (w ∷ ws) m =
    entries_folded ws (with_web m w)
    ∙ ap (λ (es : Entries). fold with_entry es ws) (entries-insert nat_cmp_total m w.id w ∙ put_is_insert w.id w (finite.entries m))

pub entries_empty : finite.entries (finite.empty {K = ℕ} {X = Web} {R = nat_cmp}) ≡ []
entries_empty =
    let made : Webs = from_sorted {R = nat_cmp} [] in
    let none : finite.entries made ≡ [] = entries-from_sorted nat_cmp [] tt in
    let zeros : finite.len made ≡ 0 = len-entries made ∙ ap length none in
    sym (ap finite.entries (empty_of_len made zeros)) ∙ none

folded_from_nothing : (ws : List Web) → finite.entries (fold with_web finite.empty ws) ≡ fold with_entry [] ws
folded_from_nothing ws = entries_folded ws finite.empty ∙ ap (λ (es : Entries). fold with_entry es ws) entries_empty

-- the map's references stand for the webs
pub inserted_view : (k : ℕ) (v : Bor Web) (es : List (ℕ × Bor Web)) → map entry_view (insert_entry nat_cmp es k v) ≡ insert_entry nat_cmp (map entry_view es) k v.now
inserted_view k v [] = refl
inserted_view k v (e ∷ es) = go (nat_cmp k e.0) (inserted_view k v es)
  where
    go : (o : Ordering) → map entry_view (insert_entry nat_cmp es k v) ≡ insert_entry nat_cmp (map entry_view es) k v.now → map entry_view (match_ordering o ((k, v) ∷ e ∷ es) ((e.0, v) ∷ es) (e ∷ insert_entry nat_cmp es k v)) ≡ match_ordering o ((k, v.now) ∷ entry_view e ∷ map entry_view es) ((e.0, v.now) ∷ map entry_view es) (entry_view e ∷ insert_entry nat_cmp (map entry_view es) k v.now)
    go Less rest = refl
    go Equal rest = refl
    go Greater rest = ap (λ (others : Entries). entry_view e ∷ others) rest

-- each web stands at its number
abbrev pub Keyed : Entries → Type 0
Keyed es = AllByRecursion (λ e. e.0 ≡ e.1.id) es

keyed_insert : (w : Web) (es : Entries) → Keyed es → Keyed (with_entry es w)
keyed_insert w [] keyed = (refl, tt)
keyed_insert w (e ∷ es) keyed = go (nat_cmp w.id e.0) refl (keyed_insert w es keyed.1)
  where
    go : (o : Ordering) → nat_cmp w.id e.0 ≡ o → Keyed (insert_entry nat_cmp es w.id w) → Keyed (match_ordering o ((w.id, w) ∷ e ∷ es) ((e.0, w) ∷ es) (e ∷ insert_entry nat_cmp es w.id w))
    go Less h rest = (refl, keyed)
    go Equal h rest = (sym (nat_cmp-IsAntisymmetric w.id e.0 h), keyed.1)
    go Greater h rest = (keyed.0, rest)

-- the number is that of one of the webs
abbrev pub Among : ℕ → List Web → Type 0
Among n [] = ⊥
Among n (w ∷ ws) = (w.id ≡ n) ⊎ Among n ws

among_new : (w : Web) (es : Entries) → Among w.id (values_of (with_entry es w))
among_new w [] = inl refl
among_new w (e ∷ es) = go (nat_cmp w.id e.0) (among_new w es)
  where
    go : (o : Ordering) → Among w.id (values_of (insert_entry nat_cmp es w.id w)) → Among w.id (values_of (match_ordering o ((w.id, w) ∷ e ∷ es) ((e.0, w) ∷ es) (e ∷ insert_entry nat_cmp es w.id w)))
    go Less rest = inl refl
    go Equal rest = inl refl
    go Greater rest = inr rest

among_stays : (w : Web) (es : Entries) (n : ℕ) → Keyed es → Among n (values_of es) → Among n (values_of (with_entry es w))
among_stays w [] n keyed a = absurd a
among_stays w (e ∷ es) n keyed a = go (nat_cmp w.id e.0) refl (λ later. among_stays w es n keyed.1 later)
  where
    go : (o : Ordering) → nat_cmp w.id e.0 ≡ o → (Among n (values_of es) → Among n (values_of (insert_entry nat_cmp es w.id w))) → Among n (values_of (match_ordering o ((w.id, w) ∷ e ∷ es) ((e.0, w) ∷ es) (e ∷ insert_entry nat_cmp es w.id w)))
    go Less h rest = inr a
    go Equal h rest = elim a [ inl same ↦ inl (nat_cmp-IsAntisymmetric w.id e.0 h ∙ keyed.0 ∙ same) | inr later ↦ inr later ]
    go Greater h rest = elim a [ inl same ↦ inl same | inr later ↦ inr (rest later) ]

pub record Folded (es : Entries) (ws : List Web) (all : Entries) : Type 0 where
  keyed : Keyed all
  stay : (n : ℕ) → Among n (values_of es) → Among n (values_of all)
  come : AllByRecursion (λ w. Among w.id (values_of all)) ws

pub folded : (ws : List Web) (es : Entries) → Keyed es → Folded es ws (fold with_entry es ws)
folded [] es keyed = record { keyed = keyed; stay = λ n a. a; come = tt }
folded (w ∷ ws) es keyed =
    let rest : Folded (with_entry es w) ws (fold with_entry (with_entry es w) ws) = folded ws (with_entry es w) (keyed_insert w es keyed) in
    record {
      keyed = rest.keyed;
      stay = λ n a. rest.stay n (among_stays w es n keyed a);
      come = (rest.stay w.id (among_new w es), rest.come);
    }

-- ---- the numbers rise

abbrev pub Rises : List Web → Type 0
Rises [] = Unit {0}
Rises (w ∷ ws) = AllByRecursion (λ v. w.id < v.id) ws × Rises ws

halves : (a b : Bool) → T (a && b) → T a × T b
halves true b h = (tt, h)
halves false b h = absurd h

below : (x y : ℕ) → T (is_lt (nat_cmp x y)) → x < y
below x y h =
    elim (cases_lt x y) [
      | inl low ↦ low
      | inr high ↦ elim (cases_eq x y) [
        | inl same ↦ let no : T false = rw (le-ltb x y high, eq-eqb x y same) at h in absurd no
        | inr apart ↦ let no : T false = rw (le-ltb x y high, ne_eqb x y apart) at h in absurd no
      ]
    ]

below_values : (m : ℕ) (es : Entries) → T (below_all nat_cmp m es) → Keyed es → AllByRecursion (λ v. m < v.id) (values_of es)
below_values m [] low keyed = tt
below_values m (e ∷ es) low keyed =
    let h = halves _ _ low in
    (subst (λ (n : ℕ). m < n) keyed.0 (below m e.0 h.0), below_values m es h.1 keyed.1)

pub rises : (es : Entries) → T (is_sorted nat_cmp es) → Keyed es → Rises (values_of es)
rises [] up keyed = tt
rises (e ∷ es) up keyed =
    let h = halves _ _ up in
    (subst (λ (n : ℕ). AllByRecursion (λ v. n < v.id) (values_of es)) keyed.0 (below_values e.0 es h.0 keyed.1), rises es h.1 keyed.1)

-- ---- the webs that functions use are among them

all_map : {X : Type 0} (P Q : X → Type 0) → ((x : X) → P x → Q x) → (xs : List X) → AllByRecursion P xs → AllByRecursion Q xs
all_map P Q f [] all = tt
all_map P Q f (x ∷ xs) all = (f x all.0, all_map P Q f xs all.1)

all_both : {X : Type 0} (P Q R : X → Type 0) → ((x : X) → P x → Q x → R x) → (xs : List X) → AllByRecursion P xs → AllByRecursion Q xs → AllByRecursion R xs
all_both P Q R f [] all also = tt
all_both P Q R f (x ∷ xs) all also = (f x all.0 also.0, all_both P Q R f xs all.1 also.1)

all_front : {X : Type 0} (P : X → Type 0) (xs ys : List X) → AllByRecursion P (xs ++ ys) → AllByRecursion P xs × AllByRecursion P ys
all_front P [] ys all = (tt, all)
all_front P (x ∷ xs) ys all = let rest = all_front P xs ys all.1 in ((all.0, rest.0), rest.1)

all_join : {X : Type 0} (P : X → Type 0) (xs ys : List X) → AllByRecursion P xs → AllByRecursion P ys → AllByRecursion P (xs ++ ys)
all_join P [] ys all also = also
all_join P (x ∷ xs) ys all also = (all.0, all_join P xs ys all.1 also)

used_by : (P : ℕ → Type 0) (role : Role) (name : List ℕ) (webs : List (Web × Role)) → AllByRecursion (λ (w : Web). P w.id) (map (λ (w : Web × Role). w.0) webs)
    → AllByRecursion (λ (u : ℕ × List ℕ). P u.0) (map (λ (w : Web × Role). (w.0.id, name)) (filter (λ (w : Web × Role). has_role role w.1) webs))
used_by P role name [] all = tt
used_by P role name (w ∷ webs) all = go (has_role role w.1) (used_by P role name webs all.1)
  where
    go : (b : Bool) → AllByRecursion (λ (u : ℕ × List ℕ). P u.0) (map (λ (v : Web × Role). (v.0.id, name)) (filter (λ (v : Web × Role). has_role role v.1) webs)) → AllByRecursion (λ (u : ℕ × List ℕ). P u.0) (map (λ (v : Web × Role). (v.0.id, name)) (cond b (w ∷ filter (λ v. has_role role v.1) webs) (filter (λ (v : Web × Role). has_role role v.1) webs)))
    go true rest = (all.0, rest)
    go false rest = rest

pub used : (P : ℕ → Type 0) (role : Role) (fs : List (List ℕ × Directives)) → AllByRecursion (λ (w : Web). P w.id) (all_webs fs) → AllByRecursion (λ (u : ℕ × List ℕ). P u.0) (uses role fs)
used P role [] all = tt
used P role (f ∷ fs) all =
    let both = all_front (λ (w : Web). P w.id) (webs_of f.1) (all_webs fs) all in
    all_join (λ (u : ℕ × List ℕ). P u.0) (uses_of role f) (uses role fs) (used_by P role f.0 f.1.webs both.0) (used P role fs both.1)

-- ---- the uses of the web at the beginning

abbrev pub Uses : Type 0
Uses = List (ℕ × List ℕ)

abbrev pub Up : Uses → Type 0
Up us = IsNonDecreasingBy (λ (u : ℕ × List ℕ). u.0) us

none_above : (id : ℕ) (us : Uses) → AllByRecursion (λ (u : ℕ × List ℕ). id < u.0) us → filter (is_of id) us ≡ []
none_above id [] above = refl
none_above id (u ∷ us) above =
    let apart : u.0 ≡ id → ⊥ = λ e. omega (arith, above.0, e) in
    rw (ne_eqb u.0 id apart) (none_above id us above.1)

later_above : (id : ℕ) (u : ℕ × List ℕ) (us : Uses) → Up (u ∷ us) → id < u.0 → AllByRecursion (λ v. id < v.0) us
later_above id u us up low = all_map (λ (v : ℕ × List ℕ). u.0 ≤ v.0) (λ v. id < v.0) (λ v h. omega (arith, h, low)) us (first_is_least (λ (v : ℕ × List ℕ). v.0) u us up)

above : (id : ℕ) (u : ℕ × List ℕ) → id ≤ u.0 → (u.0 ≡ id → ⊥) → id < u.0
above id u low apart = omega (arith, low, apart)

one_more : (k : ℕ) → 1 + k ≡ suc k
one_more k = omega arith

front_is : (id : ℕ) (us : Uses) → Up us → AllByRecursion (λ (u : ℕ × List ℕ). id ≤ u.0) us → prefix_of id us ≡ filter (is_of id) us
front_is id [] up low = refl
front_is id (u ∷ us) up low =
    elim (cases_eq u.0 id) [
      | inl same ↦ rw (eq-eqb u.0 id same, one_more (prefix_len (is_of id) us)) (ap (λ (vs : Uses). u ∷ vs) (front_is id us (rest_rises (λ (v : ℕ × List ℕ). v.0) u us up) low.1))
      | inr apart ↦ rw (ne_eqb u.0 id apart) (sym (none_above id us (later_above id u us up (above id u low.0 apart))))
    ]

behind_keeps : (id n : ℕ) (us : Uses) → id < n → filter (is_of n) (behind id us) ≡ filter (is_of n) us
behind_keeps id n [] less = refl
behind_keeps id n (u ∷ us) less =
    elim (cases_eq u.0 id) [
      | inl same ↦
          let apart : u.0 ≡ n → ⊥ = λ e. omega (arith, same, e, less) in
          rw (eq-eqb u.0 id same, one_more (prefix_len (is_of id) us), ne_eqb u.0 n apart) (behind_keeps id n us less)
      | inr other ↦ rw (ne_eqb u.0 id other) refl
    ]

behind_above : (id : ℕ) (us : Uses) → Up us → AllByRecursion (λ (u : ℕ × List ℕ). id ≤ u.0) us → AllByRecursion (λ (u : ℕ × List ℕ). id < u.0) (behind id us)
behind_above id [] up low = tt
behind_above id (u ∷ us) up low =
    elim (cases_eq u.0 id) [
      | inl same ↦ rw (eq-eqb u.0 id same, one_more (prefix_len (is_of id) us)) (behind_above id us (rest_rises (λ (v : ℕ × List ℕ). v.0) u us up) low.1)
      | inr apart ↦ rw (ne_eqb u.0 id apart) (above id u low.0 apart, later_above id u us up (above id u low.0 apart))
    ]

behind_up : (id : ℕ) (us : Uses) → Up us → Up (behind id us)
behind_up id us up = IsNonDecreasingBy-drop (λ (u : ℕ × List ℕ). u.0) (prefix_len (is_of id) us) us up

behind_all : (P : ℕ × List ℕ → Type 0) (id : ℕ) (us : Uses) → AllByRecursion P us → AllByRecursion P (behind id us)
behind_all P id [] all = tt
behind_all P id (u ∷ us) all =
    elim (cases_eq u.0 id) [
      | inl same ↦ rw (eq-eqb u.0 id same, one_more (prefix_len (is_of id) us)) (behind_all P id us all.1)
      | inr apart ↦ rw (ne_eqb u.0 id apart) all
    ]

-- ---- all lines

among_above : (m n : ℕ) (ws : List Web) → AllByRecursion (λ v. m < v.id) ws → Among n ws → m < n
among_above m n [] high a = absurd a
among_above m n (w ∷ ws) high a = elim a [ inl same ↦ omega (arith, high.0, same) | inr later ↦ among_above m n ws high.1 later ]

among_low : (w : Web) (ws : List Web) (n : ℕ) → AllByRecursion (λ v. w.id < v.id) ws → Among n (w ∷ ws) → w.id ≤ n
among_low w ws n high a = elim a [ inl same ↦ omega (arith, same) | inr later ↦ let less = among_above w.id n ws high later in omega (arith, less) ]

among_later : (w : Web) (ws : List Web) (n : ℕ) → Among n (w ∷ ws) → w.id < n → Among n ws
among_later w ws n a less = elim a [ inl same ↦ absurd (omega (arith, same, less)) | inr later ↦ later ]

abbrev pub line_by : Uses → Uses → Web → List ℕ
line_by es ms w = web_line w (users es w.id) (users ms w.id)

same_lines : (id : ℕ) (es ms : Uses) (ws : List Web) → AllByRecursion (λ v. id < v.id) ws → flat_map (line_by (behind id es) (behind id ms)) ws ≡ flat_map (line_by es ms) ws
same_lines id es ms [] high = refl
same_lines id es ms (w ∷ ws) high =
    let one : users (behind id es) w.id ≡ users es w.id = ap names_of (behind_keeps id w.id es high.0) in
    let two : users (behind id ms) w.id ≡ users ms w.id = ap names_of (behind_keeps id w.id ms high.0) in
    ap₂ (λ (x y : List ℕ). x ++ y) (ap₂ (λ (x y : List (List ℕ)). web_line w x y) one two) (same_lines id es ms ws high.1)

abbrev pub Known : List Web → Uses → Type 0
Known ws us = AllByRecursion (λ (u : ℕ × List ℕ). Among u.0 ws) us

low_uses : (w : Web) (ws : List Web) (us : Uses) → AllByRecursion (λ v. w.id < v.id) ws → Known (w ∷ ws) us → AllByRecursion (λ (u : ℕ × List ℕ). w.id ≤ u.0) us
low_uses w ws us high known = all_map (λ (u : ℕ × List ℕ). Among u.0 (w ∷ ws)) (λ u. w.id ≤ u.0) (λ u a. among_low w ws u.0 high a) us known

later_known : (w : Web) (ws : List Web) (us : Uses) → AllByRecursion (λ v. w.id < v.id) ws → Up us → Known (w ∷ ws) us → Known ws (behind w.id us)
later_known w ws us high up known =
    all_both (λ (u : ℕ × List ℕ). Among u.0 (w ∷ ws)) (λ u. w.id < u.0) (λ u. Among u.0 ws) (λ u a less. among_later w ws u.0 a less) (behind w.id us)
    (behind_all (λ (u : ℕ × List ℕ). Among u.0 (w ∷ ws)) w.id us known)
    (behind_above w.id us up (low_uses w ws us high known))

pub gathered : (ws : List Web) (es ms : Uses) → Rises ws → Up es → Up ms → Known ws es → Known ws ms → lines_from ws es ms ≡ flat_map (line_by es ms) ws
gathered [] es ms rise up also known too = refl
gathered (w ∷ ws) es ms rise up also known too =
    let one : names_of (prefix_of w.id es) ≡ users es w.id = ap names_of (front_is w.id es up (low_uses w ws es rise.0 known)) in
    let two : names_of (prefix_of w.id ms) ≡ users ms w.id = ap names_of (front_is w.id ms also (low_uses w ws ms rise.0 too)) in
    let rest = gathered ws (behind w.id es) (behind w.id ms) rise.1 (behind_up w.id es up) (behind_up w.id ms also) (later_known w ws es rise.0 up known) (later_known w ws ms rise.0 also too) in
    ap₂ (λ (x y : List ℕ). x ++ y) (ap₂ (λ (x y : List (List ℕ)). web_line w x y) one two) (rest ∙ same_lines w.id es ms ws rise.0)

-- ---- the text

pub text_is : (fs : List (List ℕ × Directives)) (refs : List (ℕ × Bor Web)) (es ms : Uses) → map entry_view refs ≡ finite.entries (webs_by_number fs)
    → IsByNumber (uses Entry fs) es → IsByNumber (uses Member fs) ms → IsPermutation (uses Entry fs) es → IsPermutation (uses Member fs) ms
    → lines_from (map (λ e. e.1.now) refs) es ms ≡ webs_text fs
text_is fs refs es ms webs one two perm other =
    let all : Entries = finite.entries (webs_by_number fs) in
    let sorted : T (is_sorted nat_cmp all) = finite.entries_sorted (webs_by_number fs) in
    let made : all ≡ fold with_entry [] (all_webs fs) = folded_from_nothing (all_webs fs) in
    let f : Folded [] (all_webs fs) (fold with_entry [] (all_webs fs)) = folded (all_webs fs) [] tt in
    let keyed : Keyed all = subst Keyed (sym made) f.keyed in
    let come : AllByRecursion (λ w. Among w.id (values_of all)) (all_webs fs) = subst (λ (es : Entries). AllByRecursion (λ w. Among w.id (values_of es)) (all_webs fs)) (sym made) f.come in
    let known : Known (values_of all) es = moved (λ (u : ℕ × List ℕ). Among u.0 (values_of all)) (uses Entry fs) es perm (used (λ n. Among n (values_of all)) Entry fs come) in
    let too : Known (values_of all) ms = moved (λ (u : ℕ × List ℕ). Among u.0 (values_of all)) (uses Member fs) ms other (used (λ n. Among n (values_of all)) Member fs come) in
    let seen : map (λ e. e.1.now) refs ≡ values_of all = values_seen refs ∙ ap values_of webs in
    let lines : ◌≡◌ {A = Web → List ℕ} (line_by es ms) (line_in fs) = λ i w. web_line w (names_of (one.each w.id i)) (names_of (two.each w.id i)) in
    ap (λ (ws : List Web). lines_from ws es ms) seen
    ∙ gathered (values_of all) es ms (rises all sorted keyed) one.rising two.rising known too
    ∙ ap (λ (f : Web → List ℕ). flat_map f (values_of all)) lines
  where
    values_seen : (refs : List (ℕ × Bor Web)) → map (λ e. e.1.now) refs ≡ values_of (map entry_view refs)
    values_seen [] = refl
    values_seen (r ∷ refs) = ap (λ (ws : List Web). r.1.now ∷ ws) (values_seen refs)

-- ---- the loop over the webs

pub names_seen : (us : List Use) → map (λ u. u.function.now) us ≡ names_of (map use_view us)
names_seen [] = refl
names_seen (u ∷ us) = ap (λ (names : List (List ℕ)). u.function.now ∷ names) (names_seen us)

pub behind_at : (id : ℕ) (us : Uses) (start n : ℕ) → n ≡ length (prefix_of id (drop start us)) → behind id (drop start us) ≡ drop (start + n) us
behind_at id us start n e =
    let count : prefix_len (is_of id) (drop start us) ≡ n = sym (length-prefix_len (is_of id) (drop start us)) ∙ sym e in
    ap (λ (k : ℕ). drop k (drop start us)) count ∙ drop-drop n start us

pub line_more : (w : Web) (rest : List Web) (es ms : Uses) (a b m n : ℕ) (out total : List ℕ) (entries members : List (List ℕ))
    → out ++ lines_from (w ∷ rest) (drop a es) (drop b ms) ≡ total → m ≡ length (prefix_of w.id (drop a es)) → n ≡ length (prefix_of w.id (drop b ms))
    → entries ≡ names_of (prefix_of w.id (drop a es)) → members ≡ names_of (prefix_of w.id (drop b ms))
    → (out ++ web_line w entries members) ++ lines_from rest (drop (a + m) es) (drop (b + n) ms) ≡ total
line_more w rest es ms a b m n out total entries members so_far one two es_are ms_are =
    append_assoc out (web_line w entries members) (lines_from rest (drop (a + m) es) (drop (b + n) ms))
    ∙ ap (λ (x : List ℕ). out ++ x) (ap₂ (λ (x y : List ℕ). x ++ y) (ap₂ (λ (x y : List (List ℕ)). web_line w x y) es_are ms_are)
    (ap₂ (λ (x y : Uses). lines_from rest x y) (sym (behind_at w.id es a m one)) (sym (behind_at w.id ms b n two))))
    ∙ so_far

-- what is counted of the code's uses is counted of what they stand for
pub seen_count : (id : ℕ) (us : List Use) → prefix_len (is_of id) (map use_view us) ≡ prefix_len (λ u. u.id == id) us
seen_count id [] = refl
seen_count id (u ∷ us) = ap (λ (n : ℕ). cond (u.id == id) (1 + n) 0) (seen_count id us)

pub seen_front : (id start : ℕ) (us front later : List Use) (n : ℕ) → later ≡ drop start us → n ≡ prefix_len (λ u. u.id == id) later → front ≡ take n later
    → map use_view front ≡ prefix_of id (drop start (map use_view us))
seen_front id start us front later n behind_is count front_is =
    let whole : map use_view later ≡ drop start (map use_view us) = ap (map use_view) behind_is ∙ sym (drop-map use_view start us) in
    let counted : n ≡ prefix_len (is_of id) (map use_view later) = count ∙ sym (seen_count id later) in
    ap (map use_view) front_is ∙ sym (take-map use_view n later) ∙ ap (λ (k : ℕ). take k (map use_view later)) counted ∙ ap (λ (vs : Uses). prefix_of id vs) whole

-- ---- the loops over webs and functions

fold_join : {X Y : Type 0} (f : Y → X → Y) (z : Y) (xs ys : List X) → fold f z (xs ++ ys) ≡ fold f (fold f z xs) ys
fold_join f z [] ys = refl
fold_join f z (x ∷ xs) ys = fold_join f (f z x) xs ys

pub web_added : (start : Entries) (webs : List (Web × Role)) (i : ℕ) (w : Web × Role) (known new : Entries) → i < length webs → w ≡ get_or webs i w
    → known ≡ fold with_entry start (map (λ x. x.0) (take i webs)) → new ≡ with_entry known w.0 → new ≡ fold with_entry start (map (λ x. x.0) (take (i + 1) webs))
web_added start webs i w known new less at so_far step =
    let more : take (i + 1) webs ≡ take i webs ++ w ∷ [] = take_more webs i w less ∙ ap (λ (x : Web × Role). take i webs ++ x ∷ []) (sym at) in
    let seen : map (λ (x : Web × Role). x.0) (take (i + 1) webs) ≡ map (λ (x : Web × Role). x.0) (take i webs) ++ w.0 ∷ [] =
    ap (map (λ (x : Web × Role). x.0)) more ∙ map-append (λ (x : Web × Role). x.0) (take i webs) (w ∷ []) in
    step ∙ ap (λ (es : Entries). with_entry es w.0) so_far
    ∙ sym (fold_join with_entry start (map (λ (x : Web × Role). x.0) (take i webs)) (w.0 ∷ []))
    ∙ ap (fold with_entry start) (sym seen)

pub function_added : (fs : List (List ℕ × Directives)) (i : ℕ) (f : List ℕ × Directives) (known new : Entries) (webs : List (Web × Role)) → i < length fs → f ≡ get_or fs i f
    → known ≡ finite.entries (webs_by_number (take i fs)) → webs ≡ f.1.webs → new ≡ fold with_entry known (map (λ w. w.0) webs)
    → new ≡ finite.entries (webs_by_number (take (i + 1) fs))
function_added fs i f known new webs less at so_far own step =
    let more : take (i + 1) fs ≡ take i fs ++ f ∷ [] = take_more fs i f less ∙ ap (λ (x : List ℕ × Directives). take i fs ++ x ∷ []) (sym at) in
    let all : all_webs (take (i + 1) fs) ≡ all_webs (take i fs) ++ webs_of f.1 =
    ap all_webs more ∙ flat_map-append (λ (g : List ℕ × Directives). webs_of g.1) (take i fs) (f ∷ []) ∙ ap (λ (ws : List Web). all_webs (take i fs) ++ ws) (append-nil (webs_of f.1)) in
    step ∙ ap (λ (ws : List (Web × Role)). fold with_entry known (map (λ w. w.0) ws)) own
    ∙ ap (λ (es : Entries). fold with_entry es (webs_of f.1)) (so_far ∙ folded_from_nothing (all_webs (take i fs)))
    ∙ sym (fold_join with_entry [] (all_webs (take i fs)) (webs_of f.1))
    ∙ ap (fold with_entry []) (sym all)
    ∙ sym (folded_from_nothing (all_webs (take (i + 1) fs)))

pub values_now : (refs : List (ℕ × Bor Web)) → map (λ w. w.now) (map (λ e. e.1) refs) ≡ map (λ e. e.1.now) refs
values_now [] = refl
values_now (r ∷ refs) = ap (λ (ws : List Web). r.1.now ∷ ws) (values_now refs)

pub record UsedHere (us own : List Use) (id start : ℕ) : Type 0 where
  pub count : length own ≡ length (prefix_of id (drop start (map use_view us)))
  pub names : map (λ u. u.function.now) own ≡ names_of (prefix_of id (drop start (map use_view us)))
  pub within : start + length own ≤ length us

pub used_here : (us source own : List Use) (id start : ℕ) → start ≤ length us → source ≡ us → map use_view own ≡ prefix_of id (drop start (map use_view source)) → UsedHere us own id start
used_here us source own id start low same front =
    let here : map use_view own ≡ prefix_of id (drop start (map use_view us)) = front ∙ ap (λ (vs : List Use). prefix_of id (drop start (map use_view vs))) same in
    let count : length own ≡ length (prefix_of id (drop start (map use_view us))) = sym (length-map own use_view) ∙ ap length here in
    let short : prefix_len (is_of id) (drop start (map use_view us)) ≤ length (drop start (map use_view us)) = prefix_len-le-length (is_of id) (drop start (map use_view us)) in
    let long : length (prefix_of id (drop start (map use_view us))) ≡ prefix_len (is_of id) (drop start (map use_view us)) = length-prefix_len (is_of id) (drop start (map use_view us)) in
    let left : length (drop start (map use_view us)) ≡ length (map use_view us) - start = length-drop start (map use_view us) in
    let all : length (map use_view us) ≡ length us = length-map us use_view in
    record {
      count = count;
      names = names_seen own ∙ ap names_of here;
      within = omega (arith, low, count, short, long, left, all);
    }
