-- A module's text that is put anew, of which the first phase makes what it made of the text before.
use Rattle.std.proofs.Common.{◌≡◌, ◌≢◌, ℕ, cond, Bool, true, false, List, [], ◌∷◌, map, Option, Some, None, refl, sym, ap, ◌∙◌, inl, inr}
use Rattle.std.specs.Option.{option_map}
use Rattle.std.specs.List.{AllByRecursion}
use Rattle.std.specs.List.Sorted.{IsStrictlySortedBy}
use Rattle.std.specs.Ordering.{nat_cmp, eq_by_cmp, is_eq, ordering_reverse}
use Rattle.std.specs.declared.cmp.Ordering.{Ordering}
use Rattle.std.specs.declared.cmp.Ordering.TheVariants.{Less, Equal, Greater}
use Rattle.std.specs.Cmp.Lexicographic.{slice_cmp, nat_list_cmp_total}
use Rattle.std.specs.FinMap as finite
use Rattle.std.specs.FinMap.{entries-insert, get-entries, get-insert, same_map, slice_cmp-IsAntisymmetric, nat_cmp-IsAntisymmetric}
use Rattle.std.specs.FinMap.Entries.{by_order, find, put}
use Rattle.std.proofs.lemmas.Cmp.{tied_itself}
use Rattle.std.proofs.lemmas.List.{append_cancel_right}
use Rattle.std.proofs.lemmas.Map.Lookups.{exact_bytes}
use Rattle.std.proofs.lemmas.Map.Views.{tells_apart}
use Rattle.pw_io.specs.Files.{Files, prefix_of}
use Rattle.pw_store_modules.specs.FileNames.{text_ending, text_name}
use Rattle.pw_store_modules.specs.Modules.{HoldsModule, Source, is_module_name, module_map, modules_of, text_read}
use Rattle.pw_value.specs.declared.fault.LinkFault.{LinkFault}
use Rattle.pw_build_files.specs.FromBuild.FirstPhase.{Phase, compiled}
use Rattle.pw_build_files.specs.FromBuild.Builds.{before_others, flows_of, limit_passed, within}
use Rattle.pw_build_files.specs.Genuine.{IsBuiltName}
use Rattle.pw_law_build.specs.Kept.{KeepsFlows}
use Rattle.pw_law_build.proofs.KeptLemmas.{Laws, holds_on, same_option, text_no_database, text_no_image, text_no_object}

-- ---- modules of the same names and flow graphs

abbrev Alike : List Source → List Source → Type 0
Alike [] [] = Unit {0}
Alike [] (t ∷ ts) = ⊥
Alike (s ∷ ss) [] = ⊥
Alike (s ∷ ss) (t ∷ ts) = (t.0 ≡ s.0) × (compiled t.0 t.1 ≡ compiled s.0 s.1) × Alike ss ts

alike_itself : (ss : List Source) → Alike ss ss
alike_itself [] = tt
alike_itself (s ∷ ss) = (refl, refl, alike_itself ss)

alike_names : (ss ts : List Source) → Alike ss ts → map (λ (s : Source). s.0) ts ≡ map (λ (s : Source). s.0) ss
alike_names [] [] h = refl
alike_names [] (t ∷ ts) h = absurd h
alike_names (s ∷ ss) [] h = absurd h
alike_names (s ∷ ss) (t ∷ ts) h =
    ap (λ (n : List ℕ). n ∷ map (λ (s : Source). s.0) ts) h.0 ∙ ap (λ (ns : List (List ℕ)). s.0 ∷ ns) (alike_names ss ts h.2)

alike_flows : (ss ts : List Source) → Alike ss ts → flows_of ts ≡ flows_of ss
alike_flows [] [] h = refl
alike_flows [] (t ∷ ts) h = absurd h
alike_flows (s ∷ ss) [] h = absurd h
alike_flows (s ∷ ss) (t ∷ ts) h =
    ap (λ (n : List ℕ). before_others n (compiled t.0 t.1) (flows_of ts)) h.0 ∙ ap (λ (p : Phase). before_others s.0 p (flows_of ts)) h.1
    ∙ ap (before_others s.0 (compiled s.0 s.1)) (alike_flows ss ts h.2)

-- ---- a text in its place among the modules

none_is : (text : List ℕ) → ◌≡◌ {A = Option (List ℕ)} None (Some text) → ⊥
none_is text e = cc

text_is : (a b : List ℕ) → ◌≡◌ {A = Option (List ℕ)} (Some a) (Some b) → a ≡ b
text_is a b e = cc

less_is : ◌≡◌ {A = Ordering} Less Greater → ⊥
less_is e = cc

no_cycle : (a b : List ℕ) → slice_cmp nat_cmp a b ≡ Less → slice_cmp nat_cmp b a ≡ Less → ⊥
no_cycle a b e d = less_is (sym e ∙ nat_list_cmp_total.antisymm a b ∙ ap ordering_reverse d)

-- what is found behind a name stands behind it
found_by : (first name old : List ℕ) (s : Source) (rest : Option (List ℕ)) → slice_cmp nat_cmp first s.0 ≡ Less → (rest ≡ Some old → slice_cmp nat_cmp first name ≡ Less)
    → (b : Bool) → eq_by_cmp (slice_cmp nat_cmp) name s.0 ≡ b → cond b (Some s.1) rest ≡ Some old → slice_cmp nat_cmp first name ≡ Less
found_by first name old s rest below later true t e = ap (slice_cmp nat_cmp first) (tells_apart exact_bytes name s.0 t) ∙ below
found_by first name old s rest below later false t e = later e

found_behind : (first name old : List ℕ) (ss : List Source) → AllByRecursion (λ m. slice_cmp nat_cmp first m ≡ Less) (map (λ (s : Source). s.0) ss) → find (slice_cmp nat_cmp) name ss ≡ Some old → slice_cmp nat_cmp first name ≡ Less
found_behind first name old [] h e = absurd (none_is old e)
found_behind first name old (s ∷ ss) h e =
    found_by first name old s (find (slice_cmp nat_cmp) name ss) h.0 (found_behind first name old ss h.1) (eq_by_cmp (slice_cmp nat_cmp) name s.0) refl e

put_by : (name text old : List ℕ) (s : Source) (ss : List Source) → AllByRecursion (λ m. slice_cmp nat_cmp s.0 m ≡ Less) (map (λ (s : Source). s.0) ss) → compiled name text ≡ compiled name old
    → (find (slice_cmp nat_cmp) name ss ≡ Some old → Alike ss (put (slice_cmp nat_cmp) name text ss))
    → (o : Ordering) → slice_cmp nat_cmp name s.0 ≡ o → cond (is_eq o) (Some s.1) (find (slice_cmp nat_cmp) name ss) ≡ Some old
    → Alike (s ∷ ss) (by_order o ((name, text) ∷ s ∷ ss) ((s.0, text) ∷ ss) (s ∷ put (slice_cmp nat_cmp) name text ss))
put_by name text old s ss below same later Less is there = absurd (no_cycle s.0 name (found_behind s.0 name old ss below there) is)
put_by name text old s ss below same later Equal is there =
    let at : name ≡ s.0 = slice_cmp-IsAntisymmetric nat_cmp-IsAntisymmetric name s.0 is in
    let flow : compiled s.0 text ≡ compiled s.0 s.1 = ap (λ (n : List ℕ). compiled n text) (sym at) ∙ same ∙ ap (λ (n : List ℕ). compiled n old) at ∙ ap (compiled s.0) (sym (text_is s.1 old there)) in
    (refl, flow, alike_itself ss)
put_by name text old s ss below same later Greater is there = (refl, refl, later there)

put_alike : (name text old : List ℕ) (ss : List Source) → IsStrictlySortedBy (slice_cmp nat_cmp) (map (λ (s : Source). s.0) ss) → compiled name text ≡ compiled name old → find (slice_cmp nat_cmp) name ss ≡ Some old → Alike ss (put (slice_cmp nat_cmp) name text ss)
unfolding IsStrictlySortedBy
put_alike name text old [] rising same there = absurd (none_is old there)
put_alike name text old (s ∷ ss) rising same there = put_by name text old s ss rising.0 same (put_alike name text old ss rising.1 same) (slice_cmp nat_cmp name s.0) refl there

-- ---- the modules behind a put

true_is : true ≡ false → ⊥
true_is e = cc

apart_by : (q name : List ℕ) → eq_by_cmp (slice_cmp nat_cmp) q name ≡ false → q ≢ name
apart_by q name t e = true_is (sym (ap is_eq (tied_itself nat_list_cmp_total name)) ∙ ap (λ (x : List ℕ). eq_by_cmp (slice_cmp nat_cmp) x name) (sym e) ∙ t)

-- of files that differ in one module's text alone
one_text : Laws → (files new : Files) (name text : List ℕ) → finite.get new (text_name name) ≡ Some text → ((other : List ℕ) → other ≢ text_name name → finite.get new other ≡ finite.get files other)
    → is_module_name name ≡ true → (q : List ℕ) (b : Bool) → eq_by_cmp (slice_cmp nat_cmp) q name ≡ b → finite.get (module_map new) q ≡ cond b (Some (prefix_of text_read text)) (finite.get (module_map files) q)
one_text laws files new name text there others named q true t =
    ap (finite.get (module_map new)) (tells_apart exact_bytes q name t)
    ∙ (laws.modules new name (prefix_of text_read text)).1 (record { named = named; reads = ap (option_map (prefix_of text_read)) there })
one_text laws files new name text there others named q false t =
    let same : finite.get new (text_name q) ≡ finite.get files (text_name q) = others (text_name q) (λ e. apart_by q name t (append_cancel_right q name text_ending e)) in
    same_option (finite.get (module_map new) q) (finite.get (module_map files) q)
    (λ u e. (laws.modules files q u).1 (holds_on new files q u (sym same) ((laws.modules new q u).0 e)))
    (λ u e. (laws.modules new q u).1 (holds_on files new q u same ((laws.modules files q u).0 e)))

map_behind : Laws → (files : Files) (name text : List ℕ) → is_module_name name ≡ true → module_map (finite.insert files (text_name name) text) ≡ finite.insert (module_map files) name (prefix_of text_read text)
map_behind laws files name text named =
    same_map nat_list_cmp_total (slice_cmp-IsAntisymmetric nat_cmp-IsAntisymmetric) (module_map (finite.insert files (text_name name) text)) (finite.insert (module_map files) name (prefix_of text_read text))
    (λ q.
    one_text laws files (finite.insert files (text_name name) text) name text (laws.files.inserted files (text_name name) text) (laws.files.insertion files (text_name name) text) named q (eq_by_cmp (slice_cmp nat_cmp) q name) refl
    ∙ sym (get-insert nat_list_cmp_total (module_map files) name (prefix_of text_read text) q))

no_built : (name other : List ℕ) → IsBuiltName other → other ≢ text_name name
no_built name other (inl m) e = text_no_object name m.0 (sym m.1 ∙ e)
no_built name other (inr (inl db)) e = text_no_database name (sym e ∙ db)
no_built name other (inr (inr img)) e = text_no_image name (sym e ∙ img)

pub text_keeps : Laws → (files : Files) (name old text : List ℕ) → HoldsModule files name old → compiled name (prefix_of text_read text) ≡ compiled name old
    → limit_passed (modules_of (finite.insert files (text_name name) text)) ≡ limit_passed (modules_of files) → KeepsFlows files (finite.insert files (text_name name) text)
text_keeps laws files name old text holds same limit =
    let new : Files = finite.insert files (text_name name) text in
    let now : List ℕ = prefix_of text_read text in
    let are : modules_of new ≡ put (slice_cmp nat_cmp) name now (modules_of files) = ap finite.entries (map_behind laws files name text holds.named) ∙ entries-insert nat_list_cmp_total (module_map files) name now in
    let there : find (slice_cmp nat_cmp) name (modules_of files) ≡ Some old = sym (get-entries (module_map files) name) ∙ (laws.modules files name old).1 holds in
    let alike : Alike (modules_of files) (put (slice_cmp nat_cmp) name now (modules_of files)) = put_alike name now old (modules_of files) (laws.rising files) same there in
    let flows : flows_of (modules_of new) ≡ flows_of (modules_of files) = ap (λ (ss : List Source). flows_of ss) are ∙ alike_flows (modules_of files) (put (slice_cmp nat_cmp) name now (modules_of files)) alike in
    record {
      names = ap (λ (ss : List Source). map (λ (s : Source). s.0) ss) are ∙ alike_names (modules_of files) (put (slice_cmp nat_cmp) name now (modules_of files)) alike;
      phases = ap (λ (l : Option LinkFault). within l (flows_of (modules_of new))) limit ∙ ap (within (limit_passed (modules_of files))) flows;
      built = λ other is. laws.files.insertion files (text_name name) text other (no_built name other is);
    }
