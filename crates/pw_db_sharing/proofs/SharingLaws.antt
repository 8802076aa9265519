-- The registers that a function shares with others are read as they are spelled.
use Rattle.std.proofs.Common.{◌≡◌, ℕ, suc, Bool, true, false, List, [], ◌∷◌, ◌++◌, length, refl, sym, ap, subst, ◌∙◌, arith, lit<, inl, inr}
use Rattle.std.specs.Prelude.{IsTrue, Contains, not, nat_le, ◌==◌, ◌&&◌, if◌then◌else◌}
use Rattle.std.specs.List.{flat_map, AllByRecursion, list_all}
use Rattle.std.specs.Cmp.{first_so, second_so}
use Rattle.std.specs.Cmp.Derive.{both_true}
use Rattle.std.proofs.lemmas.Bool.{leb-true, le-leb, eqb-true, eq-eqb}
use Rattle.std.proofs.lemmas.List.{append-nil}
use Rattle.pw_fields.specs.Fields.{u8_at, u32_at, checked, items_at, u8, u32, parts, FitsU8, FitsU32, FitInTurn}
use Rattle.pw_fields.specs.FieldLaws.{Spells}
use Rattle.pw_fields.proofs.FieldLaws.{checked_spells, u8_spells, u32_spells, mapped_spells}
use Rattle.pw_fields.proofs.FieldSteps.{finish, step, step_where, format, items_spell}
use Rattle.pw_files.specs.Rising.{counted}
use Rattle.pw_files.proofs.Standing.{Has, apart, has_by, contains_by}
use Rattle.pw_files.proofs.RisingLaws.{refit}
use Rattle.pw_db.specs.Limits.{first_register, last_register}
use Rattle.pw_db.specs.Database.{AreKeptFrom, first_version}
use Rattle.pw_db.proofs.Keeping.{few_kept}
use Rattle.pw_db_sharing.specs.Spelling.{sharing}
use Rattle.pw_db_sharing.specs.Reading.{kept_at, next_least, registers_at, no_sharing_at, all_sharing_at, sharing_at}

-- ---- a test that is not so

pub not_true : (b : Bool) → not b ≡ true → b ≡ true → ⊥
not_true true e h = absurd cc
not_true false e h = absurd cc

pub not_by : (b : Bool) → (b ≡ true → ⊥) → not b ≡ true
not_by true h = absurd (h refl)
not_by false h = refl

-- ---- a list of registers

abbrev FitsKept : List ℕ → ℕ → ℕ → Type 0
FitsKept others least r = FitsU8 r × IsTrue ((nat_le least r && nat_le r last_register) && list_all (λ q. not (q == r)) others)

kept_spells : (others : List ℕ) (least : ℕ) → Spells u8 (FitsKept others least) (kept_at others least)
unfolding kept_at
kept_spells others least = checked_spells u8 FitsU8 u8_at (λ r. (nat_le least r && nat_le r last_register) && list_all (λ q. not (q == r)) others) u8_spells

apart_has : (r : ℕ) (others : List ℕ) → list_all (λ q. not (q == r)) others ≡ true → Has r others → ⊥
apart_has r [] e h = h
apart_has r (q ∷ qs) e (inl same) = not_true (q == r) (first_so (not (q == r)) (list_all (λ p. not (p == r)) qs) e) (eq-eqb q r same)
apart_has r (q ∷ qs) e (inr h) = apart_has r qs (second_so (not (q == r)) (list_all (λ p. not (p == r)) qs) e) h

apart_back : (r : ℕ) (others : List ℕ) → (Has r others → ⊥) → list_all (λ q. not (q == r)) others ≡ true
apart_back r [] out = refl
apart_back r (q ∷ qs) out = both_true (not_by (q == r) (λ e. out (inl (eqb-true q r e)))) (apart_back r qs (λ h. out (inr h)))

-- registers that a callee keeps, which rise, none of them one of some others
abbrev pub AreShared : List ℕ → List ℕ → Type 0
AreShared others rs = AreKeptFrom first_register rs × AllByRecursion (λ r. ¬ Contains others r) rs

kept_forth : (others : List ℕ) (least : ℕ) (rs : List ℕ) → FitInTurn (FitsKept others) next_least least rs → AreKeptFrom least rs × AllByRecursion (λ r. ¬ Contains others r) rs
kept_forth others least [] fit = (tt, tt)
kept_forth others least (r ∷ rs) fit =
    let range = nat_le least r && nat_le r last_register in
    let free = list_all (λ q. not (q == r)) others in
    let within = first_so range free fit.0.1 in
    let out = second_so range free fit.0.1 in
    let later = kept_forth others (suc r) rs fit.1 in (
      (leb-true _ _ (first_so (nat_le least r) (nat_le r last_register) within), leb-true _ _ (second_so (nat_le least r) (nat_le r last_register) within), later.0),
      ((λ c. apart_has r others out (has_by r others c)), later.1),
    )

kept_back : (others : List ℕ) (least : ℕ) (rs : List ℕ) → AreKeptFrom least rs → AllByRecursion (λ r. ¬ Contains others r) rs → FitInTurn (FitsKept others) next_least least rs
kept_back others least [] kept out = tt
kept_back others least (r ∷ rs) kept out =
    let high = kept.1 in (
      (omega (arith, high), both_true (both_true (le-leb _ _ kept.0) (le-leb _ _ high)) (apart_back r others (λ h. out.0 (contains_by r others h)))),
      kept_back others (suc r) rs kept.2 out.1,
    )

few_fit : (rs : List ℕ) → AreKeptFrom first_register rs → FitsU32 (length rs)
few_fit rs kept = let few = few_kept first_register rs (omega arith) kept in omega (arith, few)

registers_spell : (others : List ℕ) → Spells (counted u8) (AreShared others) (registers_at others)
unfolding registers_at counted
registers_spell others = format (counted u8) (AreShared others) (λ rs. u32 (length rs) ++ (flat_map u8 rs ++ [])) (λ rs. FitsU32 (length rs) × (FitInTurn (FitsKept others) next_least first_register rs × Unit {0})) _
    (step _ _ u32 FitsU32 u32_at _ _ _ length u32_spells
    (λ n fits. step_where _ _ (flat_map u8) (λ rs. (length rs ≡ n) × FitInTurn (FitsKept others) next_least first_register rs) (items_at (kept_at others) next_least n first_register) _ (λ rs. FitInTurn (FitsKept others) next_least first_register rs) _ _ (λ rs. rs)
    (items_spell u8 (FitsKept others) (kept_at others) next_least (kept_spells others) n first_register)
    (λ rs k h. h.1) (λ rs k h. (k.1, h))
    (λ rs h. finish _ rs ((tt, h.0), refl) (λ other k. sym k.1))))
    (λ rs. ap (λ (w : List ℕ). u32 (length rs) ++ w) (append-nil (flat_map u8 rs)))
    (λ rs h. kept_forth others first_register rs h.1.0) (λ rs h. (few_fit rs h.0, (kept_back others first_register rs h.0 h.1, tt)))

-- ---- both lists

abbrev NoneShared : List ℕ × List ℕ → Type 0
NoneShared p = (p.0 ≡ []) × (p.1 ≡ [])

abbrev AllShared : List ℕ × List ℕ → Type 0
AllShared p = AreShared [] p.0 × AreShared p.0 p.1

abbrev pub FitsSharing : ℕ → List ℕ × List ℕ → Type 0
FitsSharing version p = (version ≡ first_version → NoneShared p) × AllShared p

no_sharing_spells : Spells (λ p. u32 0) NoneShared no_sharing_at
unfolding no_sharing_at
no_sharing_spells = mapped_spells u32 (λ n. FitsU32 n × IsTrue (n == 0)) NoneShared (checked (λ n. n == 0) u32_at) (λ n. ([], [])) (λ p. 0) (checked_spells u32 FitsU32 u32_at (λ n. n == 0) u32_spells)
    (λ n fits. (sym (eqb-true n 0 fits.1), (refl, refl)))
    (λ p fits. ((λ i. (sym fits.0 i, sym fits.1 i)), (lit< tt, refl)))

all_sharing_spells : Spells (λ p. parts (counted u8 p.0 ∷ counted u8 p.1 ∷ [])) AllShared all_sharing_at
unfolding all_sharing_at
all_sharing_spells = format (λ p. parts (counted u8 p.0 ∷ counted u8 p.1 ∷ [])) AllShared (λ p. counted u8 p.0 ++ (counted u8 p.1 ++ [])) (λ p. AreShared [] p.0 × (AreShared p.0 p.1 × Unit {0})) _
    (step _ _ (counted u8) (AreShared []) (registers_at []) _ _ _ (λ p. p.0) (registers_spell [])
    (λ free free_fits. step_where _ _ (counted u8) (AreShared free) (registers_at free) _ (λ p. AreShared p.0 p.1) _ _ (λ p. p.1) (registers_spell free)
    (λ p k h. subst (λ (others : List ℕ). AreShared others p.1) (sym k.1) h) (λ p k h. subst (λ (others : List ℕ). AreShared others p.1) k.1 h)
    (λ saves saves_fit. finish _ (free, saves) ((tt, refl), refl) (λ p k. sym (λ j. (k.0.1 j, k.1 j))))))
    (λ p. refl) (λ p h. (h.0, h.1.0)) (λ p h. (h.0, (h.1, tt)))

none_are_all : (p : List ℕ × List ℕ) → NoneShared p → AllShared p
none_are_all p none = (subst (λ (rs : List ℕ). AreShared [] rs) (sym none.0) (tt, tt), subst (λ (rs : List ℕ). AreShared p.0 rs) (sym none.1) (tt, tt))

spells_by : (version : ℕ) (b : Bool) → (version == first_version) ≡ b
    → Spells (λ (p : List ℕ × List ℕ). if b then u32 0 else parts (counted u8 p.0 ∷ counted u8 p.1 ∷ [])) (FitsSharing version) (if b then no_sharing_at else all_sharing_at)
spells_by version true e =
    refit (λ p. u32 0) NoneShared (FitsSharing version) no_sharing_at (λ p none. ((λ is. none), none_are_all p none)) (λ p fit. fit.0 (eqb-true version first_version e)) no_sharing_spells
spells_by version false e =
    refit (λ p. parts (counted u8 p.0 ∷ counted u8 p.1 ∷ [])) AllShared (FitsSharing version) all_sharing_at (λ p all. ((λ is. absurd (apart (sym e ∙ eq-eqb version first_version is))), all)) (λ p fit. fit.1) all_sharing_spells

pub sharing_spells : (version : ℕ) → Spells (sharing version) (FitsSharing version) (sharing_at version)
sharing_spells version = spells_by version (version == first_version) refl
