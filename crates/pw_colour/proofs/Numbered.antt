-- The numbers of webs that have registers, and the webs of a function.
use Rattle.std.proofs.Common.{◌≡◌, ℕ, suc, ◌+◌, ◌<◌, ◌≤◌, ◌==◌, Bool, true, false, List, [], ◌∷◌, ◌++◌, length, get_or, take, map, refl, sym, ap, ◌∙◌, arith, inl, inr, add-zero}
use Rattle.std.specs.Prelude.{Option, Some, None, ◌||◌, if◌then◌else◌}
use Rattle.std.specs.List.{list_any}
use Rattle.std.proofs.lemmas.Grind.{take_at_read, flat_map-append}
use Rattle.std.proofs.lemmas.List.{length-take-le, append-nil, map-append, length-map}
use Rattle.std.proofs.lemmas.Bool.{eq-eqb, ne_eqb}
use Rattle.pw_files.proofs.Standing.{Has, has_by, contains_by}
use Rattle.pw_fix.specs.Row.{Holds, members as numbers}
use Rattle.pw_fix.specs.declared.bit_row.BitRow.{BitRow}
use Rattle.pw_db.specs.declared.database.Web.{Web}
use Rattle.pw_db.specs.declared.database.Role.{Role}
use Rattle.pw_db.specs.declared.database.Role.TheVariants.{Entry, Member}
use Rattle.pw_graph.specs.declared.graph.CallGraph.{CallGraph}
use Rattle.pw_graph.proofs.Members.{in_members}
use Rattle.pw_webs.specs.declared.web.RawWeb.{RawWeb}
use Rattle.pw_colour.specs.declared.directing.Coloured.{Coloured}
use Rattle.pw_colour.specs.Colours.{numbered, web_of, has_number, webs_of}
use Rattle.pw_colour.specs.Giving.{coloured, paired}
use Rattle.pw_colour.proofs.Given.{paired_push}

-- ---- numbers

number_none : (n : ℕ) (ps : List (RawWeb × Option ℕ)) (w : RawWeb) → numbered n (ps ++ (w, None) ∷ []) ≡ numbered n ps
number_none n [] w = refl
number_none n ((x, None) ∷ ps) w = number_none n ps w
number_none n ((x, Some r) ∷ ps) w = ap (λ (qs : List (ℕ × RawWeb × ℕ)). (n, x, r) ∷ qs) (number_none (suc n) ps w)

number_some : (n : ℕ) (ps : List (RawWeb × Option ℕ)) (w : RawWeb) (r : ℕ) → numbered n (ps ++ (w, Some r) ∷ []) ≡ numbered n ps ++ (n + length (numbered n ps), w, r) ∷ []
number_some n [] w r = ap (λ m. (m, w, r) ∷ []) (sym (add-zero n))
number_some n ((x, None) ∷ ps) w r = number_some n ps w r
number_some n ((x, Some s) ∷ ps) w r =
    let e : suc n + length (numbered (suc n) ps) ≡ n + suc (length (numbered (suc n) ps)) = omega arith in
    ap (λ (qs : List (ℕ × RawWeb × ℕ)). (n, x, s) ∷ qs) (number_some (suc n) ps w r ∙ ap (λ m. numbered (suc n) ps ++ (m, w, r) ∷ []) e)

few_numbered : (n : ℕ) (ps : List (RawWeb × Option ℕ)) → length (numbered n ps) ≤ length ps
few_numbered n [] = omega arith
few_numbered n ((x, None) ∷ ps) = let k = few_numbered n ps in omega (arith, k)
few_numbered n ((x, Some r) ∷ ps) = let k = few_numbered (suc n) ps in omega (arith, k)

few_paired : (ws : List RawWeb) (rs : List (Option ℕ)) → length (paired ws rs) ≤ length ws
few_paired [] rs = omega arith
few_paired (w ∷ ws) [] = omega arith
few_paired (w ∷ ws) (r ∷ rs) = let k = few_paired ws rs in omega (arith, k)

-- no number is above the count of webs
pub few_found : (ws : List RawWeb) (rs : List (Option ℕ)) (i : ℕ) (found : List Coloured) → i ≤ length ws → map coloured found ≡ numbered 0 (paired (take i ws) (take i rs)) → length found ≤ i
few_found ws rs i found le is =
    let a = few_numbered 0 (paired (take i ws) (take i rs)) in
    let b = few_paired (take i ws) (take i rs) in
    let c : length (take i ws) ≡ i = length-take-le i ws le in
    let d : length (map coloured found) ≡ length found = length-map found coloured in
    let e : length (map coloured found) ≡ length (numbered 0 (paired (take i ws) (take i rs))) = ap length is in
    omega (arith, a, b, c, d, e)

pairs_next : (ws : List RawWeb) (rs : List (Option ℕ)) (i : ℕ) (w : RawWeb) (r : Option ℕ) → i < length ws → i < length rs → w ≡ get_or ws i w → r ≡ get_or rs i r → paired (take (i + 1) ws) (take (i + 1) rs) ≡ paired (take i ws) (take i rs) ++ (w, r) ∷ []
pairs_next ws rs i w r lw lr at_w at_r =
    let a : take (i + 1) ws ≡ take i ws ++ w ∷ [] = (take_at_read ws i w lw).1 ∙ ap (λ (y : RawWeb). take i ws ++ y ∷ []) (sym at_w) in
    let b : take (i + 1) rs ≡ take i rs ++ r ∷ [] = (take_at_read rs i r lr).1 ∙ ap (λ (y : Option ℕ). take i rs ++ y ∷ []) (sym at_r) in
    let c : length (take i ws) ≡ i = length-take-le i ws (omega (arith, lw)) in
    let d : length (take i rs) ≡ i = length-take-le i rs (omega (arith, lr)) in
    ap (λ (xs : List RawWeb). paired xs (take (i + 1) rs)) a ∙ ap (λ (ys : List (Option ℕ)). paired (take i ws ++ w ∷ []) ys) b ∙ paired_push (take i ws) (take i rs) w r (d ∙ sym c)

pub found_none : (ws : List RawWeb) (rs : List (Option ℕ)) (i : ℕ) (w : RawWeb) (r : Option ℕ) (found : List Coloured) → i < length ws → i < length rs → w ≡ get_or ws i w → r ≡ get_or rs i r → r ≡ None
    → map coloured found ≡ numbered 0 (paired (take i ws) (take i rs)) → map coloured found ≡ numbered 0 (paired (take (i + 1) ws) (take (i + 1) rs))
found_none ws rs i w r found lw lr at_w at_r none is =
    is ∙ sym (ap (λ (ps : List (RawWeb × Option ℕ)). numbered 0 ps) (pairs_next ws rs i w r lw lr at_w at_r ∙ ap (λ (s : Option ℕ). paired (take i ws) (take i rs) ++ (w, s) ∷ []) none) ∙ number_none 0 (paired (take i ws) (take i rs)) w)

pub found_some : (ws : List RawWeb) (rs : List (Option ℕ)) (i : ℕ) (w : RawWeb) (r : Option ℕ) (reg : ℕ) (found more : List Coloured) (new : Coloured) → i < length ws → i < length rs → w ≡ get_or ws i w → r ≡ get_or rs i r → r ≡ Some reg
    → more ≡ found ++ new ∷ [] → coloured new ≡ (length found, w, reg) → map coloured found ≡ numbered 0 (paired (take i ws) (take i rs)) → map coloured more ≡ numbered 0 (paired (take (i + 1) ws) (take (i + 1) rs))
found_some ws rs i w r reg found more new lw lr at_w at_r some pushed seen is =
    let ps = paired (take i ws) (take i rs) in
    let same : length found ≡ length (numbered 0 ps) = sym (length-map found coloured) ∙ ap length is in
    let size : length found ≡ 0 + length (numbered 0 ps) = omega (arith, same) in
    ap (λ (cs : List Coloured). map coloured cs) pushed ∙ map-append coloured found (new ∷ []) ∙ ap (λ (qs : List (ℕ × RawWeb × ℕ)). qs ++ coloured new ∷ []) is
    ∙ ap (λ (q : ℕ × RawWeb × ℕ). numbered 0 ps ++ q ∷ []) (seen ∙ ap (λ m. (m, w, reg)) size)
    ∙ sym (ap (λ (qs : List (RawWeb × Option ℕ)). numbered 0 qs) (pairs_next ws rs i w r lw lr at_w at_r ∙ ap (λ (s : Option ℕ). ps ++ (w, s) ∷ []) some) ∙ number_some 0 ps w reg)

-- ---- whether a set has a number

any_has : (f : ℕ) (xs : List ℕ) → Has f xs → list_any (λ n. n == f) xs ≡ true
any_has f [] h = absurd h
any_has f (x ∷ xs) (inl e) = ap (λ (b : Bool). b || list_any (λ n. n == f) xs) (eq-eqb x f e)
any_has f (x ∷ xs) (inr h) = later (x == f) (list_any (λ n. n == f) xs) (any_has f xs h) where
  later : (a b : Bool) → b ≡ true → (a || b) ≡ true
  later true b e = refl
  later false b e = e

any_lacks : (f : ℕ) (xs : List ℕ) → (Has f xs → ⊥) → list_any (λ n. n == f) xs ≡ false
any_lacks f [] lacks = refl
any_lacks f (x ∷ xs) lacks = ap (λ (b : Bool). b || list_any (λ n. n == f) xs) (ne_eqb x f (λ e. lacks (inl e))) ∙ any_lacks f xs (λ h. lacks (inr h))

pub number_there : (row : BitRow) (f : ℕ) → Holds row f → has_number row f ≡ true
number_there row f h = any_has f (numbers row) (has_by f (numbers row) ((in_members row f).1 h))

pub number_absent : (row : BitRow) (f : ℕ) → (Holds row f → ⊥) → has_number row f ≡ false
number_absent row f lacks = any_lacks f (numbers row) (λ h. lacks ((in_members row f).0 (contains_by f (numbers row) h)))

pub role_there : (w : RawWeb) (f : ℕ) → Holds w.entries f → Entry ≡ (if has_number w.entries f then Entry else Member)
role_there w f h = sym (ap (λ (b : Bool). if b then Entry else Member) (number_there w.entries f h))

pub role_absent : (w : RawWeb) (f : ℕ) → (Holds w.entries f → ⊥) → Member ≡ (if has_number w.entries f then Entry else Member)
role_absent w f lacks = sym (ap (λ (b : Bool). if b then Entry else Member) (number_absent w.entries f lacks))

-- ---- the webs of a function

abbrev pub web_at : CallGraph → ℕ → ℕ × RawWeb × ℕ → List (Web × Role)
web_at g f w = if has_number w.1.members f then ((web_of g w, (if has_number w.1.entries f then Entry else Member)) ∷ []) else []

webs_next : (g : CallGraph) (cs : List Coloured) (i f : ℕ) (c : Coloured) → i < length cs → c ≡ get_or cs i c → webs_of g (map coloured (take (i + 1) cs)) f ≡ webs_of g (map coloured (take i cs)) f ++ web_at g f (coloured c)
webs_next g cs i f c lt at =
    ap (λ (xs : List Coloured). webs_of g (map coloured xs) f) ((take_at_read cs i c lt).1 ∙ ap (λ (y : Coloured). take i cs ++ y ∷ []) (sym at))
    ∙ ap (λ (qs : List (ℕ × RawWeb × ℕ)). webs_of g qs f) (map-append coloured (take i cs) (c ∷ []))
    ∙ flat_map-append (web_at g f) (map coloured (take i cs)) (coloured c ∷ [])
    ∙ ap (λ (xs : List (Web × Role)). webs_of g (map coloured (take i cs)) f ++ xs) (append-nil (web_at g f (coloured c)))

pub webs_put : (g : CallGraph) (cs : List Coloured) (i f : ℕ) (c : Coloured) (webs more : List (Web × Role)) (w : Web) (role : Role) → i < length cs → c ≡ get_or cs i c → Holds c.web.now.members f → w ≡ web_of g (coloured c) → role ≡ (if has_number c.web.now.entries f then Entry else Member)
    → more ≡ webs ++ (w, role) ∷ [] → webs ≡ webs_of g (map coloured (take i cs)) f → more ≡ webs_of g (map coloured (take (i + 1) cs)) f
webs_put g cs i f c webs more w role lt at there same_w same_role pushed is =
    let here : web_at g f (coloured c) ≡ (w, role) ∷ [] =
    ap (λ (b : Bool). if b then ((web_of g (coloured c), (if has_number c.web.now.entries f then Entry else Member)) ∷ []) else []) (number_there c.web.now.members f there)
    ∙ ap (λ (x : Web). (x, (if has_number c.web.now.entries f then Entry else Member)) ∷ []) (sym same_w) ∙ ap (λ (x : Role). (w, x) ∷ []) (sym same_role) in
    pushed ∙ ap (λ (xs : List (Web × Role)). xs ++ (w, role) ∷ []) is ∙ ap (λ (xs : List (Web × Role)). webs_of g (map coloured (take i cs)) f ++ xs) (sym here) ∙ sym (webs_next g cs i f c lt at)

pub webs_skip : (g : CallGraph) (cs : List Coloured) (i f : ℕ) (c : Coloured) (webs : List (Web × Role)) → i < length cs → c ≡ get_or cs i c → (Holds c.web.now.members f → ⊥) → webs ≡ webs_of g (map coloured (take i cs)) f → webs ≡ webs_of g (map coloured (take (i + 1) cs)) f
webs_skip g cs i f c webs lt at lacks is =
    let here : web_at g f (coloured c) ≡ [] =
    ap (λ (b : Bool). if b then ((web_of g (coloured c), (if has_number c.web.now.entries f then Entry else Member)) ∷ []) else []) (number_absent c.web.now.members f lacks) in
    is ∙ sym (append-nil (webs_of g (map coloured (take i cs)) f)) ∙ ap (λ (xs : List (Web × Role)). webs_of g (map coloured (take i cs)) f ++ xs) (sym here) ∙ sym (webs_next g cs i f c lt at)
