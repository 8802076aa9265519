-- What is found in a list of lawful things is lawful.
use Rattle.std.proofs.Common.{ℕ, Bool, true, false, cond, List, [], ◌∷◌}
use Rattle.std.specs.Prelude.{Option, Some, IfSome, bytes_eq}
use Rattle.std.specs.List.{AllByRecursion, find}
use Rattle.pw_db.specs.declared.database.Web.{Web}
use Rattle.pw_db.specs.declared.database.Role.{Role}
use Rattle.pw_webflow.specs.Direction.{register_of}

chosen : {X : Type 0} (P : X → Type 0) (b : Bool) (x : X) (o : Option X) → P x → IfSome o P → IfSome (cond b (Some x) o) P
chosen P true x o h rest = h
chosen P false x o h rest = rest

pub lawful_found : {X : Type 0} (P : X → Type 0) (p : X → Bool) (xs : List X) → AllByRecursion P xs → IfSome (find p xs) P
lawful_found P p [] all = tt
lawful_found P p (x ∷ xs) all = chosen P (p x) x (find p xs) all.0 (lawful_found P p xs all.1)

pub lawful_register : (P : ℕ → Type 0) (webs : List (Web × Role)) (g : List ℕ) → AllByRecursion (λ w. P w.0.reg) webs → IfSome (register_of webs g) P
lawful_register P [] g all = tt
lawful_register P (w ∷ rest) g all = chosen P (bytes_eq w.0.global g) w.0.reg (register_of rest g) all.0 (lawful_register P rest g all.1)
