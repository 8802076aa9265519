-- What C sources come to, one after another.
use Rattle.std.proofs.Common.{◌≡◌, ℕ, zero, suc, ◌≤◌, List, [], ◌∷◌, ◌++◌, length, drop, map, Option, Some, None, refl, sym, ap, ◌∙◌, subst, append_assoc, append-nil, arith}
use Rattle.std.specs.Prelude.{IfSome}
use Rattle.pw_cpp_sources.specs.Sources.{Texts}
use Rattle.pw_io.specs.Files.{Told, Keeps}
use Rattle.pw_store_sources.specs.Headers.{headers_among}
use Rattle.pw_store_sources.specs.Outputs.{ComesBy, Output}
use Rattle.pw_store_sources.specs.Sources as seen
use Rattle.pw_store_sources.specs.Sources.{AllCome, ComeAmong, Outputs, sources_among}

-- one source more, before those that are left
pub come-more : (headers sources left rest : Texts) (all new : Outputs) (name text : List ℕ) (output : Output) → left ≡ (name, text) ∷ rest → ComesBy headers name text output → new ≡ all ++ (name, output) ∷ []
    → ((outputs : Outputs) → AllCome headers left outputs → AllCome headers sources (all ++ outputs))
    → (outputs : Outputs) → AllCome headers rest outputs → AllCome headers sources (new ++ outputs)
come-more headers sources left rest all new name text output e comes is inv outputs h =
    let P : Texts → Type 0 = λ x. AllCome headers x ((name, output) ∷ outputs) in
    let Q : Outputs → Type 0 = λ x. AllCome headers sources x in
    subst Q (sym (append_assoc all ((name, output) ∷ []) outputs) ∙ ap (λ x. x ++ outputs) (sym is))
    (inv ((name, output) ∷ outputs) (subst P (sym e) (seen.more name text output rest outputs comes h)))

pub none-left : {A B : Type 0} (f : A → B) (xs : List A) (i : ℕ) → length xs ≤ i → drop i (map f xs) ≡ []
none-left f [] zero l = refl
none-left f [] (suc i) l = refl
none-left f (x ∷ xs) zero l = absurd (omega (arith, l))
none-left f (x ∷ xs) (suc i) l = none-left f xs i (omega (arith, l))

-- none is left
pub come-all : (headers sources left : Texts) (all : Outputs) → left ≡ [] → ((outputs : Outputs) → AllCome headers left outputs → AllCome headers sources (all ++ outputs)) → AllCome headers sources all
come-all headers sources left all e inv =
    let P : Texts → Type 0 = λ x. AllCome headers x [] in
    let Q : Outputs → Type 0 = λ x. AllCome headers sources x in
    subst Q (append-nil all) (inv [] (subst P (sym e) seen.none))

-- what comes of the sources among files, by the sources and the headers that were read
pub come-among : (first second : Option Told) (names : List (List ℕ)) (sources headers : Texts) (outputs : Outputs) → Keeps first second → IfSome first (λ t. sources ≡ sources_among t.files names)
    → IfSome second (λ t. headers ≡ headers_among t.files names) → AllCome headers sources outputs → IfSome first (λ t. ComeAmong t.files names outputs)
come-among None second names sources headers outputs k s h c = tt
come-among (Some t) second names sources headers outputs k s h c =
    let P : Option Told → Type 0 = λ o. IfSome o (λ u. headers ≡ headers_among u.files names) in
    subst (λ (hs : Texts). AllCome hs (sources_among t.files names) outputs) (subst P k h) (subst (λ (ss : Texts). AllCome headers ss outputs) s c)
