-- A C source with a fault: its module has, as a build sees it, a text that is refused.
use Rattle.std.proofs.Common.{◌≡◌, ◌≢◌, ◌↔◌, ◌⊎◌, ⊎_elim, inl, inr, ℕ, Bool, true, false, List, ◌∷◌, Some, Ok, Err, true≢false, bytes_eq, refl, sym, ap, ◌∙◌, subst}
use Rattle.std.specs.Prelude.{IsErr, IsErrAnd}
use Rattle.std.specs.Option.{option_map}
use Rattle.std.specs.List.Sorted.{IsStrictlySortedBy}
use Rattle.std.specs.Ordering.{nat_cmp}
use Rattle.std.specs.Cmp.Lexicographic.{slice_cmp}
use Rattle.std.specs.FinMap as finite
use Rattle.std.specs.FinMap.{get-entries}
use Rattle.std.specs.FinMap.Entries.{find}
use Rattle.std.proofs.lemmas.List.{append_cancel_right}
use Rattle.std.proofs.lemmas.Slice.Eq.{bytes_eq-Decides}
use Rattle.std.proofs.lemmas.Bool.Decides.{not_from_Decides}
use Rattle.pw_front_end.specs.declared.refusal.Refusal.{Refusal}
use Rattle.pw_io.specs.Files.{Files, prefix_of}
use Rattle.pw_store_modules.specs.FileNames.{text_ending, text_name}
use Rattle.pw_store_modules.specs.Modules.{HoldsModule, module_map, modules_of, text_read}
use Rattle.pw_store_texts.specs.Headers.{headers_of}
use Rattle.pw_store_texts.specs.Names.{source_name}
use Rattle.pw_store_texts.specs.Outputs.{ComesBy, Output}
use Rattle.pw_store_texts.specs.Seen as seen
use Rattle.pw_store_texts.specs.Seen.{AllCome, IsSeen, Outputs, refused_text, seen_text, sources_of}
use Rattle.pw_build_files.specs.FromBuild.Builds.{first_phases}
use Rattle.pw_build_files.specs.FromBuild.FirstPhase.{compiled}
use Rattle.pw_law_sources.specs.Refused.{IsFaultBy}
use Rattle.pw_law_sources.specs.Sources.{HoldsSource}
use Rattle.pw_law_sources.proofs.FirstLemmas.{first_of, phases_fault}
use Rattle.pw_law_sources.proofs.ShownLemmas.{shown_refused}
use Rattle.pw_law_sources.proofs.SourceLemmas.{AreHeld, Has, Named, NamesAreExact, held_stands, sources_held, text_is}

-- the laws on which it stands
pub record Laws : Type 0 where
  pub keys : NamesAreExact
  pub one : (headers : Named) (name text : List ℕ) (output other : Output) → ComesBy headers name text output → ComesBy headers name text other → output ≡ other
  pub inserted : (files : Files) (name bytes : List ℕ) → finite.get (finite.insert files name bytes) name ≡ Some bytes
  pub insertion : (files : Files) (name bytes other : List ℕ) → other ≢ name → finite.get (finite.insert files name bytes) other ≡ finite.get files other
  pub exact : (files : Files) (name text : List ℕ) → (finite.get (module_map files) name ≡ Some text) ↔ HoldsModule files name text
  pub rising : (files : Files) → IsStrictlySortedBy (slice_cmp nat_cmp) (finite.keys (module_map files))

-- a C source that comes to a fault
pub record HasFault (files : Files) (name text : List ℕ) : Type 0 where
  pub held : HoldsSource files name text
  pub output : Output
  pub comes : ComesBy (headers_of files) name text output
  pub fault : IsErr output

faulty : (output : Output) → IsErr output → seen_text output ≡ refused_text
faulty (Ok text) e = absurd (true≢false (sym e))
faulty (Err fault) e = refl

-- sources of one name have one text
one_text : (files : Files) (name text n t : List ℕ) → HoldsSource files name text → HoldsSource files n t → n ≡ name → t ≡ text
one_text files name text n t h k e =
    text_is t text (sym k.reads ∙ ap (λ (m : List ℕ). option_map (prefix_of text_read) (finite.get files (source_name m))) e ∙ h.reads)

module _ (laws : Laws) (start : Files) (name text : List ℕ) (has : HasFault start name text) where
  -- what is seen of a source of this name
  seen_so : (n t : List ℕ) (output : Output) → HoldsSource start n t → ComesBy (headers_of start) n t output → n ≡ name → seen_text output ≡ refused_text
  seen_so n t output held comes e =
      let P : List ℕ → Type 0 = λ x. ComesBy (headers_of start) x text output in
      let Q : List ℕ → Type 0 = λ x. ComesBy (headers_of start) n x output in
      let same : output ≡ has.output = laws.one (headers_of start) name text output has.output (subst P e (subst Q (one_text start name text n t has.held held e) comes)) has.comes in
      ap seen_text same ∙ faulty has.output has.fault

  one_put : (files : Files) (n t : List ℕ) (output : Output) (left : Named) → HoldsSource start n t → ComesBy (headers_of start) n t output → (b : Bool) → bytes_eq n name ≡ b
      → (finite.get files (text_name name) ≡ Some refused_text) ⊎ Has ((n, t) ∷ left) name text
      → (finite.get (finite.insert files (text_name n) (seen_text output)) (text_name name) ≡ Some refused_text) ⊎ Has left name text
  one_put files n t output left held comes true e h =
      let same : n ≡ name = (bytes_eq-Decides n name).0 e in
      let new : Files = finite.insert files (text_name n) (seen_text output) in
      inl (ap (λ (m : List ℕ). finite.get new (text_name m)) (sym same) ∙ laws.inserted files (text_name n) (seen_text output) ∙ ap (λ (x : List ℕ). Some x) (seen_so n t output held comes same))
  one_put files n t output left held comes false e h =
      let other : n ≢ name = not_from_Decides (bytes_eq n name) (bytes_eq-Decides n name) e in
      let apart : text_name name ≢ text_name n = λ d. other (sym (append_cancel_right name n text_ending d)) in
      let Goal : Type 0 = (finite.get (finite.insert files (text_name n) (seen_text output)) (text_name name) ≡ Some refused_text) ⊎ Has left name text in
      ⊎_elim {C = Goal} (λ g. inl (laws.insertion files (text_name n) (seen_text output) (text_name name) apart ∙ g))
      (λ r. ⊎_elim {C = Goal} (λ same. absurd (other same.0)) (λ m. inr m) r) h

  all_put : (files : Files) (sources : Named) (outputs : Outputs) → AllCome (headers_of start) sources outputs → AreHeld start sources
      → (finite.get files (text_name name) ≡ Some refused_text) ⊎ Has sources name text → finite.get (seen.seen files outputs) (text_name name) ≡ Some refused_text
  all_put files sources outputs seen.none held h = ⊎_elim {C = finite.get files (text_name name) ≡ Some refused_text} (λ g. g) (λ n. absurd n) h
  all_put files sources outputs (seen.more n t output left rest comes k) held h =
      all_put (finite.insert files (text_name n) (seen_text output)) left rest k held.1 (one_put files n t output left held.0 comes (bytes_eq n name) refl h)

  fault_stands : (shown : Files) → IsSeen start shown → finite.get shown (text_name name) ≡ Some refused_text
  fault_stands shown is =
      ap (λ (f : Files). finite.get f (text_name name)) is.2
      ∙ shown_refused start is.0 name (all_put start (sources_of start) is.0 is.1 (sources_held start) (inr (held_stands laws.keys start name text has.held)))

  found : (shown : Files) → IsSeen start shown → find (slice_cmp nat_cmp) name (modules_of shown) ≡ Some (prefix_of text_read refused_text)
  found shown is =
      let holds : HoldsModule shown name (prefix_of text_read refused_text) =
      record { named = has.held.named; reads = ap (option_map (prefix_of text_read)) (fault_stands shown is) } in
      sym (get-entries (module_map shown) name) ∙ (laws.exact shown name (prefix_of text_read refused_text)).1 holds

  pub fault_told : (refusal : Refusal) → compiled name (prefix_of text_read refused_text) ≡ Err refusal → (shown : Files) → IsSeen start shown → IsErrAnd (first_phases (modules_of shown)) (IsFaultBy (modules_of shown) name)
  fault_told refusal e shown is =
      phases_fault (modules_of shown) name (first_of (modules_of shown) name (prefix_of text_read refused_text) refusal e (laws.rising shown) (found shown is))
