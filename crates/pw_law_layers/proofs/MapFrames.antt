-- The map of a linked image has the frames of the program's functions.
use Rattle.std.specs.Prelude.{ℕ, ◌≡◌, ◌≢◌, ◌+◌, ◌*◌, length, Bool, true, false, Option, Some, unwrap_or, List, [], ◌∷◌, ◌++◌, map, Contains}
use Rattle.std.specs.List.{flat_map, AllByRecursion}
use Rattle.std.specs.Map.{lookup}
use Rattle.std.specs.Str.{bytes_eq}
use Rattle.std.proofs.Common.{subst, sym, ap, refl, inl, inr, cond, ◌∙◌}
use Rattle.std.proofs.lemmas.List.{map-append}
use Rattle.std.proofs.lemmas.List.Concat.{flat_map-cons}
use Rattle.std.proofs.lemmas.List.Elements.{All-contains, All-from_recursion, Contains-append_cases, Contains-push_cases}
use Rattle.std.proofs.lemmas.Slice.Eq.{bytes_eq-Decides}
use Rattle.pw_value.specs.ProgramNames.{library_functions, exit_name, getchar_name, putchar_name}
use Rattle.pw_files.specs.Rising.{IsRising}
use Rattle.pw_db.specs.declared.database.Directives.{Directives}
use Rattle.pw_flow.specs.declared.flow.FlowFn.{FlowFn}
use Rattle.pw_flow.specs.ValidFlow.{AreDistinct}
use Rattle.pw_webflow.specs.declared.web.WebFn.{WebFn}
use Rattle.pw_alloc.specs.declared.located.Located.{Located}
use Rattle.pw_object.specs.declared.object.Object.{Object}
use Rattle.pw_link.specs.Layout.{Piece, piece_of, routine_pieces, function_pieces, pieces_of, placed_from, in_order}
use Rattle.pw_link.specs.Linking.{function_of, linked}
use Rattle.pw_run_languages.specs.Programs.{functions_of, globals_of}
use Rattle.pw_run_languages.specs.Direction.{directed_by}
use Rattle.pw_run_languages.specs.Serving.{AllServe}
use Rattle.pw_run_languages.specs.LinkingLaws.{compiled, frame_in}
use Rattle.pw_law_layers.specs.Rooms.{MapHasFrames}
use Rattle.pw_law_layers.proofs.Frames.{nowhere, map_there, directed_name}

-- ---- names

all_left : {X : Type 0} (P : X → Type 0) (xs ys : List X) → AllByRecursion P (xs ++ ys) → AllByRecursion P xs
all_left P [] ys all = tt
all_left P (x ∷ xs) ys all = (all.0, all_left P xs ys all.1)

distinct_left : (xs ys : List (List ℕ)) → AreDistinct (xs ++ ys) → AreDistinct xs
distinct_left [] ys apart = tt
distinct_left (x ∷ xs) ys apart = (all_left (λ (other : List ℕ). other ≢ x) xs ys apart.0, distinct_left xs ys apart.1)

differs : (a b : List ℕ) → a ≢ b → bytes_eq b a ≡ false
differs a b apart = by (bytes_eq b a) refl
  where
    by : (same : Bool) → bytes_eq b a ≡ same → bytes_eq b a ≡ false
    by true e = absurd (apart (sym ((bytes_eq-Decides b a).0 e)))
    by false e = e

-- the functions with places have the names of those that they are of
served_names : (d : List (List ℕ × Directives)) (fs : List FlowFn) (ls : List Located) → AllServe (map (directed_by d) fs) ls
    → map (λ l. l.body.name) ls ≡ map (λ f. f.name) fs
served_names d [] [] s = refl
served_names d [] (l ∷ ls) s = absurd s
served_names d (f ∷ fs) [] s = absurd s
served_names d (f ∷ fs) (l ∷ ls) s =
    ap (λ (name : List ℕ). name ∷ map (λ l. l.body.name) ls) (ap (λ (b : WebFn). b.name) s.0.body ∙ directed_name f _)
    ∙ ap (λ (names : List (List ℕ)). f.name ∷ names) (served_names d fs ls s.1)

-- ---- frames by names

abbrev Frames : Type 0
Frames = List (List ℕ × ℕ)

abbrev frames_of : List Located → Frames
frames_of ls = map (λ l. (l.body.name, l.frame)) ls

abbrev piece_frames : List Piece → Frames
piece_frames ps = map (λ p. (p.name, p.frame)) ps

hits : (name : List ℕ) (x : List ℕ × ℕ) (rest : Frames) → x.0 ≡ name → lookup (bytes_eq name) (x ∷ rest) ≡ Some x.1
hits name x rest e = ap (λ (b : Bool). cond b (Some x.1) (lookup (bytes_eq name) rest)) ((bytes_eq-Decides name x.0).1 (sym e))

misses : (name : List ℕ) (x : List ℕ × ℕ) (rest : Frames) → x.0 ≢ name → lookup (bytes_eq name) (x ∷ rest) ≡ lookup (bytes_eq name) rest
misses name x rest apart = ap (λ (b : Bool). cond b (Some x.1) (lookup (bytes_eq name) rest)) (differs x.0 name apart)

found : (ls : List Located) (rest : Frames) (l : Located) → AreDistinct (map (λ l. l.body.name) ls) → Contains ls l
    → lookup (bytes_eq l.body.name) (frames_of ls ++ rest) ≡ Some l.frame
found [] rest l apart c = absurd (nowhere l c)
found (x ∷ ls) rest l apart c = elim (Contains-append_cases (x ∷ []) ls l c) [
  | inl first ↦ elim (Contains-push_cases [] x l first) [
    | inl none ↦ absurd (nowhere l none)
    | inr e ↦ subst (λ l. lookup (bytes_eq l.body.name) (frames_of (x ∷ ls) ++ rest) ≡ Some l.frame) e
        (hits x.body.name (x.body.name, x.frame) (frames_of ls ++ rest) refl)
  ]
  | inr later ↦
      let other : l.body.name ≢ x.body.name =
      All-contains (λ (name : List ℕ). name ≢ x.body.name) (map (λ l. l.body.name) ls) l.body.name
      (All-from_recursion (λ (name : List ℕ). name ≢ x.body.name) (map (λ l. l.body.name) ls) apart.0)
      (map_there (λ (l : Located). l.body.name) ls l later) in
      misses l.body.name (x.body.name, x.frame) (frames_of ls ++ rest) (λ e. other (sym e)) ∙ found ls rest l apart.1 later
]

passed : (ls : List Located) (rest : Frames) (name : List ℕ) → AllByRecursion (λ other. other ≢ name) (map (λ l. l.body.name) ls)
    → lookup (bytes_eq name) (frames_of ls ++ rest) ≡ lookup (bytes_eq name) rest
passed [] rest name apart = refl
passed (x ∷ ls) rest name apart =
    misses name (x.body.name, x.frame) (frames_of ls ++ rest) apart.0 ∙ passed ls rest name apart.1

-- ---- the map

placed_frames : (at : ℕ) (ps : List Piece) → map (λ f. (f.name, f.frame)) (map function_of (placed_from at ps)) ≡ piece_frames ps
placed_frames at [] = refl
placed_frames at (p ∷ ps) = ap (λ (rest : Frames). (p.name, p.frame) ∷ rest) (placed_frames (at + 4 * length p.words) ps)

pieces_flat : (objects : List Object) → function_pieces objects ≡ map piece_of (flat_map (λ o. o.functions) objects)
pieces_flat [] = refl
pieces_flat (o ∷ objects) =
    flat_map-cons (λ (o : Object). map piece_of o.functions) o objects
    ∙ (ap (λ (rest : List Piece). map piece_of o.functions ++ rest) (pieces_flat objects)
    ∙ (sym (map-append piece_of o.functions (flat_map (λ (o : Object). o.functions) objects))
    ∙ ap (map piece_of) (sym (flat_map-cons (λ (o : Object). o.functions) o objects))))

compiled_frames : (ls : List Located) → piece_frames (map piece_of (map compiled ls)) ≡ frames_of ls
compiled_frames [] = refl
compiled_frames (l ∷ ls) = ap (λ (rest : Frames). (l.body.name, l.frame) ∷ rest) (compiled_frames ls)

map_frames : (objects : List Object) (stack : ℕ) (ls : List Located) → in_order objects ≡ objects
    → flat_map (λ o. o.functions) objects ≡ map compiled ls
    → map (λ f. (f.name, f.frame)) (linked objects stack).functions ≡ frames_of ls ++ piece_frames routine_pieces
unfolding linked
map_frames objects stack ls order code =
    placed_frames _ (pieces_of objects)
    ∙ (ap (λ (o : List Object). piece_frames (function_pieces o ++ routine_pieces)) order
    ∙ (ap (λ (ps : List Piece). piece_frames (ps ++ routine_pieces)) (pieces_flat objects ∙ ap (map piece_of) code)
    ∙ (map-append (λ (p : Piece). (p.name, p.frame)) (map piece_of (map compiled ls)) routine_pieces
    ∙ ap (λ (first : Frames). first ++ piece_frames routine_pieces) (compiled_frames ls))))

no_frame : (objects : List Object) (stack : ℕ) (ls : List Located) (name : List ℕ)
    → map (λ f. (f.name, f.frame)) (linked objects stack).functions ≡ frames_of ls ++ piece_frames routine_pieces
    → AllByRecursion (λ other. other ≢ name) (map (λ l. l.body.name) ls)
    → unwrap_or (lookup (bytes_eq name) (piece_frames routine_pieces)) 0 ≡ 0 → frame_in (linked objects stack) name ≡ 0
no_frame objects stack ls name table apart none =
    ap (λ (t : Frames). unwrap_or (lookup (bytes_eq name) t) 0) table
    ∙ (ap (λ (found : Option ℕ). unwrap_or found 0) (passed ls (piece_frames routine_pieces) name apart) ∙ none)

-- by the law on the order of linking
pub map_has_frames : ((objects : List Object) → IsRising (map (λ o. o.module) objects) → in_order objects ≡ objects) → MapHasFrames
map_has_frames stay p d ls objects program serve made =
    let names : map (λ l. l.body.name) ls ≡ map (λ f. f.name) (functions_of p) = served_names d (functions_of p) ls serve in
    let order : in_order objects ≡ objects = stay objects (subst IsRising (sym made.modules) program.order) in
    let table = map_frames objects p.stack ls order made.code in
    let fs = map (λ f. f.name) (functions_of p) in
    let gs = map (λ g. g.name) (globals_of p) in
    let own : AreDistinct (map (λ l. l.body.name) ls) = subst AreDistinct (sym names) (distinct_left fs gs program.names.1.1.1) in
    let exits : AllByRecursion (λ other. other ≢ exit_name) (map (λ l. l.body.name) ls) =
    subst (AllByRecursion (λ other. other ≢ exit_name)) (sym names) (all_left (λ other. other ≢ exit_name) fs gs program.names.0.1.1) in
    let reads : AllByRecursion (λ other. other ≢ getchar_name) (map (λ l. l.body.name) ls) =
    subst (AllByRecursion (λ other. other ≢ getchar_name)) (sym names) (all_left (λ other. other ≢ getchar_name) fs gs program.names.1.0.1) in
    let writes : AllByRecursion (λ other. other ≢ putchar_name) (map (λ l. l.body.name) ls) =
    subst (AllByRecursion (λ other. other ≢ putchar_name)) (sym names) (all_left (λ other. other ≢ putchar_name) fs gs program.names.1.1.0) in
    record {
      defined = λ l c.
          ap (λ (t : Frames). unwrap_or (lookup (bytes_eq l.body.name) t) 0) table
          ∙ ap (λ (found : Option ℕ). unwrap_or found 0) (found ls (piece_frames routine_pieces) l own c);
      library = λ name c.
          All-contains (λ name. frame_in (linked objects p.stack) name ≡ 0) library_functions name
          (All-from_recursion (λ name. frame_in (linked objects p.stack) name ≡ 0) library_functions (
            no_frame objects p.stack ls exit_name table exits refl,
            (
              no_frame objects p.stack ls getchar_name table reads refl,
              (
                no_frame objects p.stack ls putchar_name table writes refl,
                tt,
              ),
            ),
          )) c;
    }
