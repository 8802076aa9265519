-- Laws of the log of entries and the table of last places.
use Rattle.std.proofs.Common.{◌≡◌, ℕ, suc, Bool, true, false, List, [], ◌∷◌, ◌++◌, length, Option, None, Some, slice_get, refl, sym, ap, ◌∙◌, if◌then◌else◌, append_assoc, ◌<◌, is_some}
use Rattle.std.specs.Borrow.{Bor}
use Rattle.std.specs.Cmp.Lexicographic.{nat_list_eq_equiv}
use Rattle.std.specs.Option.{option_or, option_map}
use Rattle.std.specs.Str.{bytes_eq}
use Rattle.std.proofs.lemmas.List.{append-nil}
use Rattle.std.proofs.lemmas.Option.{none-some, same_Some, slice_get_within}
use Rattle.std.proofs.lemmas.Slice.Eq.{bytes_eq-Decides}
use Rattle.pw_scope.specs.declared.entry.Entry.{Entry}
use Rattle.pw_scope.specs.Log.{last_place, names_of, declared_by, TellsHidden, place_at, Agree}
use Rattle.pw_scope.specs.Visible.{visible}

module _ {T : Type 0} where
  -- the last entry tells the one that it hides, and the others tell theirs
  pub TellsHidden-append : (before : List (List ℕ)) (entries : List (Entry T)) (entry : Entry T) → TellsHidden before entries → entry.hidden ≡ last_place (before ++ names_of entries) entry.name.now → TellsHidden before (entries ++ entry ∷ [])
  TellsHidden-append before [] entry _ hides = (rw append-nil at hides, tt)
  TellsHidden-append before (first ∷ entries) entry tells hides =
      (tells.0, TellsHidden-append (before ++ first.name.now ∷ []) entries entry tells.1 (rw append_assoc hides))

  pub TellsHidden_rest : (before : List (List ℕ)) (entries : List (Entry T)) (entry : Entry T) → TellsHidden before (entries ++ entry ∷ []) → TellsHidden before entries × (entry.hidden ≡ last_place (before ++ names_of entries) entry.name.now)
  TellsHidden_rest before [] entry tells = (tt, rw append-nil tells.0)
  TellsHidden_rest before (first ∷ entries) entry tells =
      let rest = TellsHidden_rest (before ++ first.name.now ∷ []) entries entry tells.1 in
      ((tells.0, rest.0), rw append_assoc at rest.1)

  -- a name has a last entry, or none
  pub data Found (entries : List (Entry T)) (name : List ℕ) : Type 0 where
    Absent : last_place (names_of entries) name ≡ None → visible (declared_by entries) name ≡ None → Found entries name
    At : (place : ℕ) (entry : Entry T) → last_place (names_of entries) name ≡ Some place → slice_get entries place ≡ Some entry → visible (declared_by entries) name ≡ Some entry.meaning → Found entries name

  pub found : (entries : List (Entry T)) (name : List ℕ) → Found entries name
  found [] name = Absent refl refl
  found (first ∷ entries) name = by (found entries name)
    where
      own : (b : Bool) → bytes_eq name first.name.now ≡ b → last_place (names_of entries) name ≡ None → visible (declared_by entries) name ≡ None → Found (first ∷ entries) name
      own true b none gone = At 0 first (rw (none, b)) refl (rw (gone, b))
      own false b none gone = Absent (rw (none, b)) (rw (gone, b))

      by : Found entries name → Found (first ∷ entries) name
      by (Absent none gone) = own (bytes_eq name first.name.now) refl none gone
      by (At place entry last there says) = At (suc place) entry (rw last) there (rw says)

  -- the last entry decides for its name, and for no other
  last_place-declared : (entries : List (Entry T)) (entry : Entry T) (name : List ℕ) → last_place (names_of (entries ++ entry ∷ [])) name ≡ (if bytes_eq entry.name.now name then Some (length entries) else last_place (names_of entries) name)
  last_place-declared [] entry name = ap (λ b. if b then Some 0 else None) (nat_list_eq_equiv.symm name entry.name.now)
  last_place-declared (first ∷ entries) entry name =
      ap (λ o. option_or (option_map suc o) own) (last_place-declared entries entry name) ∙ by (bytes_eq entry.name.now name)
    where
      own : Option ℕ
      own = if bytes_eq name first.name.now then Some 0 else None

      by : (b : Bool) → option_or (option_map suc (if b then Some (length entries) else last_place (names_of entries) name)) own ≡ (if b then Some (suc (length entries)) else option_or (option_map suc (last_place (names_of entries) name)) own)
      by true = refl
      by false = refl

  place_at-declared : (entries : List (Entry T)) (entry : Entry T) (table : List (Bor (List ℕ) × ℕ)) → Agree (entries ++ entry ∷ []) table → (name : Bor (List ℕ)) → place_at table name ≡ (if bytes_eq entry.name.now name.now then Some (length entries) else last_place (names_of entries) name.now)
  place_at-declared entries entry table agree name = agree.last name ∙ last_place-declared entries entry name.now

  -- a declaration puts its place into the table
  pub Agree-declared : (entries : List (Entry T)) (entry : Entry T) (table new : List (Bor (List ℕ) × ℕ)) (place : ℕ) → place ≡ length entries → Agree entries table → entry.hidden ≡ place_at table entry.name
      → ((name : Bor (List ℕ)) → place_at new name ≡ (if bytes_eq entry.name.now name.now then Some place else place_at table name)) → Agree (entries ++ entry ∷ []) new
  Agree-declared entries entry table new place here agree hides puts =
      record {
        hidden = TellsHidden-append [] entries entry agree.hidden (hides ∙ agree.last entry.name);
        last = λ name.
            puts name
            ∙ ap (λ n. if bytes_eq entry.name.now name.now then Some n else place_at table name) here
            ∙ ap (λ o. if bytes_eq entry.name.now name.now then Some (length entries) else o) (agree.last name)
            ∙ sym (last_place-declared entries entry name.now);
      }

  -- the last entry's name is in the table
  pub last_is_there : (entries : List (Entry T)) (entry : Entry T) (table : List (Bor (List ℕ) × ℕ)) → Agree (entries ++ entry ∷ []) table → is_some (place_at table entry.name) ≡ true
  last_is_there entries entry table agree =
      rw (place_at-declared entries entry table agree entry.name, (bytes_eq-Decides entry.name.now entry.name.now).1 refl)

  -- where the last entry goes, what it hid comes back
  pub Agree-forgotten : (entries : List (Entry T)) (entry : Entry T) (table new : List (Bor (List ℕ) × ℕ)) → Agree (entries ++ entry ∷ []) table
      → ((name : Bor (List ℕ)) → place_at new name ≡ (if bytes_eq entry.name.now name.now then entry.hidden else place_at table name)) → Agree entries new
  Agree-forgotten entries entry table new agree puts =
      record {
        hidden = rest.0;
        last = λ name. puts name ∙ by name (bytes_eq entry.name.now name.now) refl;
      }
    where
      rest : TellsHidden [] entries × (entry.hidden ≡ last_place (names_of entries) entry.name.now)
      rest = TellsHidden_rest [] entries entry agree.hidden

      by : (name : Bor (List ℕ)) (b : Bool) → bytes_eq entry.name.now name.now ≡ b → (if bytes_eq entry.name.now name.now then entry.hidden else place_at table name) ≡ last_place (names_of entries) name.now
      by name true same = rw same (rest.1 ∙ ap (last_place (names_of entries)) ((bytes_eq-Decides entry.name.now name.now).0 same))
      by name false other = rw other (place_at-declared entries entry table agree name ∙ ap (λ b. if b then Some (length entries) else last_place (names_of entries) name.now) other)

  module _ (entries : List (Entry T)) (table : List (Bor (List ℕ) × ℕ)) (agree : Agree entries table) (name : Bor (List ℕ)) where
    -- a name that the table lacks is not in scope
    pub Agree_absent : None ≡ place_at table name → visible (declared_by entries) name.now ≡ None
    Agree_absent lacks = by (found entries name.now)
      where
        by : Found entries name.now → visible (declared_by entries) name.now ≡ None
        by (Absent none gone) = gone
        by (At place entry last there says) = absurd (none-some place (lacks ∙ agree.last name ∙ last))

    module _ (place : ℕ) (has : Some place ≡ place_at table name) where
      -- a place in the table is one of the log
      pub Agree_within : place < length entries
      Agree_within = by (found entries name.now)
        where
          by : Found entries name.now → place < length entries
          by (Absent none gone) = absurd (none-some place (sym (has ∙ agree.last name ∙ none)))
          by (At at entry last there says) = rw (same_Some place at (has ∙ agree.last name ∙ last)) (slice_get_within entries at entry there)

      -- and the entry there says what the name stands for
      pub Agree_at : (entry : Entry T) → slice_get entries place ≡ Some entry → Some entry.meaning ≡ visible (declared_by entries) name.now
      Agree_at entry there = by (found entries name.now)
        where
          by : Found entries name.now → Some entry.meaning ≡ visible (declared_by entries) name.now
          by (Absent none gone) = absurd (none-some place (sym (has ∙ agree.last name ∙ none)))
          by (At at other last here says) =
              let same : place ≡ at = same_Some place at (has ∙ agree.last name ∙ last) in
              ap (λ o. option_map (λ (e : Entry T). e.meaning) o) (sym there ∙ ap (slice_get entries) same ∙ here) ∙ sym says
