-- The two laws of image files: what is read is the file of an image, and the file of an image is read.
use Rattle.std.proofs.Common.{◌≡◌, ℕ, ◌+◌, ◌-◌, ◌*◌, ◌%◌, ◌^◌, ◌<◌, ◌≤◌, Bool, true, false, cond, List, [], ◌∷◌, ◌++◌, length, map, Result, Ok, Err, refl, sym, ap, subst, ◌∙◌, append_assoc, arith, lit<}
use Rattle.std.specs.Prelude.{IsTrue, IfOk, Contains, nat_le, nat_lt, ◌==◌, ◌&&◌}
use Rattle.std.specs.List.{flat_map, AllByRecursion}
use Rattle.std.specs.Cmp.{first_so, second_so}
use Rattle.std.specs.Cmp.Derive.{both_true}
use Rattle.std.proofs.lemmas.Bool.{eqb-true, eq-eqb, leb-true, le-leb, ltb-true, lt-ltb}
use Rattle.std.proofs.lemmas.List.{length-append}
use Rattle.pw_value.specs.declared.fault.FileError.{FileError}
use Rattle.pw_value.specs.Limits.{text_start, word_limit, memory_size}
use Rattle.pw_fields.specs.Fields.{checked, u32_at, text_at, items_at, repeated, u32, text, FitsU32, FitsText, FitInTurn}
use Rattle.pw_fields.specs.FieldFaults.{GivesFile}
use Rattle.pw_fields.specs.FieldLaws.{AreBytes, Spells, SpellsWhole}
use Rattle.pw_fields.specs.FieldNames.{names_at, name_at, name_table, name_index, first_unused, IsNameTable, IsTableOf}
use Rattle.pw_fields.proofs.FieldLaws.{not_found, checked_spells, u32_spells, text_spells, bytes_spells}
use Rattle.pw_fields.proofs.FieldSteps.{Completes, finish, finish_whole, step, step_where, keep_place, format, payload_format, items_spell, repeated_spells}
use Rattle.pw_fields.proofs.FileLaws.{file_takes, file_again, length-u32}
use Rattle.pw_fields.proofs.NameTables.{one_table}
use Rattle.pw_fields.specs.FieldFrame.{file}
use Rattle.pw_fields.proofs.NameLaws.{names_spell, name_spells, AllUsed, all_used, none_unused, table_of_used, used_by_table}
use Rattle.pw_files.specs.Contents.{value_of}
use Rattle.pw_image.specs.declared.image.DataItem.{DataItem}
use Rattle.pw_image.specs.declared.image.Memory.{Memory}
use Rattle.pw_image.specs.declared.image.Function.{Function}
use Rattle.pw_image.specs.declared.image.GlobalObject.{GlobalObject}
use Rattle.pw_image.specs.declared.image.Image.{Image}
use Rattle.pw_image.specs.Image.{Contents, IsInText, data_start, free_behind, AreItems, IsContents, IsImageFile, item, memory, function, global, names_of, spelling, kind, image_version}
use Rattle.pw_image.specs.Reading.{is_in_text, item_at, next_free, memory_at, function_at, global_at, start_at, is_lawful_start, contents_at, payload_at, image_file_at}

-- ---- addresses

text_forth : (words address : ℕ) → is_in_text words address ≡ true → IsInText words address
text_forth words address e =
    let rest = second_so (address % 4 == 0) (nat_le text_start address && nat_lt address (text_start + 4 * words)) e in
    record {
      aligned = eqb-true _ _ (first_so (address % 4 == 0) (nat_le text_start address && nat_lt address (text_start + 4 * words)) e);
      start = leb-true _ _ (first_so (nat_le text_start address) (nat_lt address (text_start + 4 * words)) rest);
      within = ltb-true _ _ (second_so (nat_le text_start address) (nat_lt address (text_start + 4 * words)) rest);
    }

text_back : (words address : ℕ) → IsInText words address → is_in_text words address ≡ true
text_back words address h = both_true (eq-eqb _ _ h.aligned) (both_true (le-leb _ _ h.start) (lt-ltb _ _ h.within))

-- ---- items of the data

abbrev FitsItem : ℕ → ℕ → DataItem → Type 0
FitsItem size free i = (free ≤ i.offset) × (i.offset + length i.bytes ≤ size)

abbrev ItemSteps : ℕ → ℕ → DataItem → Type 0
ItemSteps size free i = ((free ≤ i.offset) × (i.offset ≤ size)) × ((FitsText i.bytes × (i.offset + length i.bytes ≤ size)) × Unit {0})

item_spells : (size : ℕ) → size < 2 ^ 32 → (free : ℕ) → Spells item (FitsItem size free) (item_at size free)
unfolding item_at
item_spells size below free = format item (FitsItem size free) item (ItemSteps size free) _
    (step_where _ _ u32 (λ o. FitsU32 o × IsTrue (nat_le free o && nat_le o size)) (checked (λ o. nat_le free o && nat_le o size) u32_at) _ (λ i. (free ≤ i.offset) × (i.offset ≤ size)) _ _ (λ i. i.offset)
    (checked_spells u32 FitsU32 u32_at (λ o. nat_le free o && nat_le o size) u32_spells)
    (λ i k h. (leb-true _ _ (first_so (nat_le free i.offset) (nat_le i.offset size) h.1), leb-true _ _ (second_so (nat_le free i.offset) (nat_le i.offset size) h.1)))
    (λ i k h. (omega (arith, h.1), both_true (le-leb _ _ h.0) (le-leb _ _ h.1)))
    (λ offset o_fits. step_where _ _ text (λ b. FitsText b × IsTrue (nat_le (offset + length b) size)) (checked (λ b. nat_le (offset + length b) size) text_at) _ (λ i. FitsText i.bytes × (i.offset + length i.bytes ≤ size)) _ _ (λ i. i.bytes)
    (checked_spells text FitsText text_at (λ b. nat_le (offset + length b) size) text_spells)
    (λ i k h. (h.0, rw k.1 (leb-true _ _ h.1)))
    (λ i k h. (h.0, le-leb _ _ (omega (arith, k.1, h.1))))
    (λ bytes b_fits. finish _ (record { offset = offset; bytes = bytes }) ((tt, refl), refl) (λ i k. sym (λ j. record { offset = k.0.1 j; bytes = k.1 j })))))
    (λ i. refl)
    (λ i h. (h.0.0, h.1.0.1))
    (λ i h. ((h.0, omega (arith, h.1)), ((omega (arith, h.1), h.1), tt)))

items_forth : (size free : ℕ) (items : List DataItem) → FitInTurn (FitsItem size) next_free free items → AreItems size free items
items_forth size free [] fits = tt
items_forth size free (i ∷ items) fits = (fits.0.0, fits.0.1, items_forth size (free_behind i) items fits.1)

items_back : (size free : ℕ) (items : List DataItem) → AreItems size free items → FitInTurn (FitsItem size) next_free free items
items_back size free [] are = tt
items_back size free (i ∷ items) are = ((are.0, are.1), items_back size (free_behind i) items are.2)

-- ---- the memory, but for the rule of the entry

abbrev MemorySteps : Memory → Type 0
MemorySteps m = FitsU32 m.entry × (FitsU32 m.stack × ((m.stack_end ≤ memory_size) × ((length m.words ≤ word_limit) × (AllByRecursion FitsU32 m.words
    × ((data_start (length m.words) + m.data_size ≤ m.stack_end) × (FitsU32 (length m.items) × (AreItems m.data_size 0 m.items × Unit {0})))))))

data_again : (words count size end stack_end : ℕ) → words ≡ count → end ≡ stack_end → stack_end < 2 ^ 32 → data_start words + size ≤ end → FitsU32 size × IsTrue (nat_le (data_start count + size) stack_end)
data_again words count size end stack_end same_count same_end below within =
    let fits : data_start count + size ≤ stack_end = rw (← same_count, ← same_end) within in
    (omega (arith, fits), le-leb _ _ fits)

memory_spells : Spells memory MemorySteps memory_at
unfolding memory_at
memory_spells = format memory MemorySteps memory MemorySteps _
    (step _ _ u32 FitsU32 u32_at _ _ _ (λ m. m.entry) u32_spells
    (λ entry entry_fits. step _ _ u32 FitsU32 u32_at _ _ _ (λ m. m.stack) u32_spells
    (λ stack stack_fits. step_where _ _ u32 (λ e. FitsU32 e × IsTrue (nat_le e memory_size)) (checked (λ e. nat_le e memory_size) u32_at) _ (λ m. m.stack_end ≤ memory_size) _ _ (λ m. m.stack_end)
    (checked_spells u32 FitsU32 u32_at (λ e. nat_le e memory_size) u32_spells) (λ m k h. leb-true _ _ h.1) (λ m k h. (omega arith, le-leb _ _ h))
    (λ stack_end end_fits. step_where _ _ u32 (λ n. FitsU32 n × IsTrue (nat_le n word_limit)) (checked (λ n. nat_le n word_limit) u32_at) _ (λ m. length m.words ≤ word_limit) _ _ (λ m. length m.words)
    (checked_spells u32 FitsU32 u32_at (λ n. nat_le n word_limit) u32_spells) (λ m k h. leb-true _ _ h.1) (λ m k h. (omega arith, le-leb _ _ h))
    (λ count count_fits. step_where _ _ (flat_map u32) (λ ws. (length ws ≡ count) × AllByRecursion FitsU32 ws) (repeated u32_at count) _ (λ m. AllByRecursion FitsU32 m.words) _ _ (λ m. m.words)
    (repeated_spells u32 FitsU32 u32_at u32_spells count) (λ m k h. h.1) (λ m k h. (k.1, h))
    (λ words words_fit. step_where _ _ u32 (λ s. FitsU32 s × IsTrue (nat_le (data_start count + s) stack_end)) (checked (λ s. nat_le (data_start count + s) stack_end) u32_at) _ (λ m. data_start (length m.words) + m.data_size ≤ m.stack_end) _ _ (λ m. m.data_size)
    (checked_spells u32 FitsU32 u32_at (λ s. nat_le (data_start count + s) stack_end) u32_spells)
    (λ m k h. rw (k.0.1, k.0.0.1) (leb-true _ _ h.1))
    (λ m k h. data_again (length m.words) count m.data_size m.stack_end stack_end k.0.1 k.0.0.1 end_fits.0 h)
    (λ data_size size_fits. step _ _ u32 FitsU32 u32_at _ _ _ (λ m. length m.items) u32_spells
    (λ item_count item_count_fits. step_where _ _ (flat_map item) (λ is. (length is ≡ item_count) × FitInTurn (FitsItem data_size) next_free 0 is) (items_at (item_at data_size) next_free item_count 0) _ (λ m. AreItems m.data_size 0 m.items) _ _ (λ m. m.items)
    (items_spell item (FitsItem data_size) (item_at data_size) next_free (item_spells data_size size_fits.0) item_count 0)
    (λ m k h. rw k.0.1 (items_forth data_size 0 m.items h.1))
    (λ m k h. (k.1, items_back data_size 0 m.items (subst (λ size. AreItems size 0 m.items) k.0.1 h)))
    (λ items items_fit. finish _ (record { entry = entry; stack = stack; stack_end = stack_end; words = words; data_size = data_size; items = items })
    ((((((((tt, refl), refl), refl), words_fit.0), refl), refl), items_fit.0), refl)
    (λ m k. sym (λ j. record { entry = k.0.0.0.0.0.0.0.1 j; stack = k.0.0.0.0.0.0.1 j; stack_end = k.0.0.0.0.0.1 j; words = k.0.0.0.1 j; data_size = k.0.0.1 j; items = k.1 j })))))))))))
    (λ m. refl) (λ m h. h) (λ m h. h)

-- ---- the map

abbrev FitsFunction : List (List ℕ) → ℕ → Function → Type 0
FitsFunction names words f = Contains names f.name × (IsInText words f.address × (FitsU32 f.frame × Unit {0}))

address_fits : (words address : ℕ) → words ≤ word_limit → IsInText words address → FitsU32 address
address_fits words address few h = omega (arith, h.within)

function_spells : (names : List (List ℕ)) → IsNameTable names → (words : ℕ) → words ≤ word_limit → Spells (function names) (FitsFunction names words) (function_at names words)
unfolding function_at
function_spells names table words few = format (function names) (FitsFunction names words) (function names) (FitsFunction names words) _
    (step _ _ (name_index names) (Contains names) (name_at names) _ _ _ (λ f. f.name) (name_spells names table)
    (λ name stands. step_where _ _ u32 (λ a. FitsU32 a × IsTrue (is_in_text words a)) (checked (is_in_text words) u32_at) _ (λ f. IsInText words f.address) _ _ (λ f. f.address)
    (checked_spells u32 FitsU32 u32_at (is_in_text words) u32_spells) (λ f k h. text_forth words f.address h.1) (λ f k h. (address_fits words f.address few h, text_back words f.address h))
    (λ address fits. step _ _ u32 FitsU32 u32_at _ _ _ (λ f. f.frame) u32_spells
    (λ frame frame_fits. finish _ (record { name = name; address = address; frame = frame }) (((tt, refl), refl), refl) (λ f k. sym (λ j. record { name = k.0.0.1 j; address = k.0.1 j; frame = k.1 j }))))))
    (λ f. refl) (λ f h. h) (λ f h. h)

abbrev FitsGlobal : List (List ℕ) → GlobalObject → Type 0
FitsGlobal names g = Contains names g.name × (FitsU32 g.address × Unit {0})

global_spells : (names : List (List ℕ)) → IsNameTable names → Spells (global names) (FitsGlobal names) (global_at names)
unfolding global_at
global_spells names table = format (global names) (FitsGlobal names) (global names) (FitsGlobal names) _
    (step _ _ (name_index names) (Contains names) (name_at names) _ _ _ (λ g. g.name) (name_spells names table)
    (λ name stands. step _ _ u32 FitsU32 u32_at _ _ _ (λ g. g.address) u32_spells
    (λ address fits. finish _ (record { name = name; address = address }) ((tt, refl), refl) (λ g k. sym (λ j. record { name = k.0.1 j; address = k.1 j })))))
    (λ g. refl) (λ g h. h) (λ g h. h)

-- ---- names that the map uses

used_in_map : (names : List (List ℕ)) (words : ℕ) (fs : List Function) (gs : List GlobalObject) → AllByRecursion (FitsFunction names words) fs → AllByRecursion (FitsGlobal names) gs
    → AllUsed (map (λ f. f.name) fs ++ map (λ g. g.name) gs) names
used_in_map names words [] [] one two = tt
used_in_map names words [] (g ∷ gs) one two = (two.0.0, used_in_map names words [] gs one two.1)
used_in_map names words (f ∷ fs) gs one two = (one.0.0, used_in_map names words fs gs one.1 two)

abbrev MapFunction : ℕ → Function → Type 0
MapFunction words f = IsInText words f.address × FitsU32 f.frame

functions_forth : (names : List (List ℕ)) (words : ℕ) (fs : List Function) → AllByRecursion (FitsFunction names words) fs → AllByRecursion (MapFunction words) fs
functions_forth names words [] fit = tt
functions_forth names words (f ∷ fs) fit = ((fit.0.1.0, fit.0.1.1.0), functions_forth names words fs fit.1)

functions_back : (names : List (List ℕ)) (words : ℕ) (fs : List Function) (gs : List GlobalObject) → AllUsed (map (λ f. f.name) fs ++ map (λ g. g.name) gs) names → AllByRecursion (MapFunction words) fs
    → AllByRecursion (FitsFunction names words) fs
functions_back names words [] gs used fit = tt
functions_back names words (f ∷ fs) gs used fit = ((used.0, (fit.0.0, (fit.0.1, tt))), functions_back names words fs gs used.1 fit.1)

globals_forth : (names : List (List ℕ)) (gs : List GlobalObject) → AllByRecursion (FitsGlobal names) gs → AllByRecursion (λ g. FitsU32 g.address) gs
globals_forth names [] fit = tt
globals_forth names (g ∷ gs) fit = (fit.0.1.0, globals_forth names gs fit.1)

globals_back : (names : List (List ℕ)) (fs : List Function) (gs : List GlobalObject) → AllUsed (map (λ f. f.name) fs ++ map (λ g. g.name) gs) names → AllByRecursion (λ g. FitsU32 g.address) gs
    → AllByRecursion (FitsGlobal names) gs
globals_back names [] [] used fit = tt
globals_back names [] (g ∷ gs) used fit = ((used.0, (fit.0, tt)), globals_back names [] gs used.1 fit.1)
globals_back names (f ∷ fs) gs used fit = globals_back names fs gs used.1 fit

-- ---- the contents, but for the rule of the entry

abbrev ContentsSteps : Contents Image → Type 0
ContentsSteps c = MemorySteps c.value.memory × (IsNameTable c.names × (FitsU32 (length c.value.functions)
    × (AllByRecursion (FitsFunction c.names (length c.value.memory.words)) c.value.functions × (FitsU32 (length c.value.globals)
    × (AllByRecursion (FitsGlobal c.names) c.value.globals × AllUsed c.names (names_of c.value))))))

-- the map's spelling under a table of names
abbrev map_spelling : List (List ℕ) → Contents Image → List ℕ
map_spelling names c = u32 (length c.value.functions) ++ (flat_map (function names) c.value.functions ++ (u32 (length c.value.globals) ++ (flat_map (global names) c.value.globals ++ [])))

respell : {X : Type 0} (Follows : List ℕ → Type 0) (Known : X → Type 0) (one other : X → List ℕ) (Fits : X → Type 0) (read : List ℕ → Result (X × List ℕ) ℕ)
    → ((x : X) → Known x → one x ≡ other x) → Completes Follows Known one Fits read → Completes Follows Known other Fits read
respell Follows Known one other Fits read same laws = record {
  takes = λ bytes x rest fits e. let u = laws.takes bytes x rest fits e in (u.0 ∙ ap (λ (w : List ℕ). w ++ rest) (same x u.1), u.1, u.2, u.3);
  again = λ x rest follows k fits. ap read (ap (λ (w : List ℕ). w ++ rest) (sym (same x k))) ∙ laws.again x rest follows k fits;
}

functions_same : (names others : List (List ℕ)) (m n : Memory) (fs : List Function) → names ≡ others → m ≡ n → AllByRecursion (FitsFunction others (length n.words)) fs → AllByRecursion (FitsFunction names (length m.words)) fs
functions_same names others m n fs same_names same_memory h =
    subst (λ (ns : List (List ℕ)). AllByRecursion (FitsFunction ns (length m.words)) fs) (sym same_names)
    (subst (λ (v : Memory). AllByRecursion (FitsFunction others (length v.words)) fs) (sym same_memory) h)

globals_same : (names others : List (List ℕ)) (gs : List GlobalObject) → names ≡ others → AllByRecursion (FitsGlobal others) gs → AllByRecursion (FitsGlobal names) gs
globals_same names others gs same_names h = subst (λ (ns : List (List ℕ)). AllByRecursion (FitsGlobal ns) gs) (sym same_names) h

contents_spells : SpellsWhole spelling ContentsSteps contents_at
unfolding contents_at
contents_spells = payload_format spelling ContentsSteps spelling ContentsSteps _
    (step _ _ memory MemorySteps memory_at _ _ _ (λ c. c.value.memory) memory_spells
    (λ m m_fits. step _ _ name_table IsNameTable names_at _ _ _ (λ c. c.names) names_spell
    (λ names table. respell _ _ (map_spelling names) (λ c. map_spelling c.names c) _ _ (λ c k. ap (λ (ns : List (List ℕ)). map_spelling ns c) (sym k.1))
    (keep_place _ _ _ _ _
    (λ behind. step _ _ u32 FitsU32 u32_at _ _ _ (λ c. length c.value.functions) u32_spells
    (λ function_count f_count. step_where _ _ (flat_map (function names)) (λ fs. (length fs ≡ function_count) × AllByRecursion (FitsFunction names (length m.words)) fs) (repeated (function_at names (length m.words)) function_count) _
    (λ c. AllByRecursion (FitsFunction c.names (length c.value.memory.words)) c.value.functions) _ _ (λ c. c.value.functions)
    (repeated_spells (function names) (FitsFunction names (length m.words)) (function_at names (length m.words)) (function_spells names table (length m.words) m_fits.1.1.1.0) function_count)
    (λ c k h. functions_same c.names names c.value.memory m c.value.functions k.0.1 k.0.0.1 h.1)
    (λ c k h. (k.1, functions_same names c.names m c.value.memory c.value.functions (sym k.0.1) (sym k.0.0.1) h))
    (λ functions fs_fit. step _ _ u32 FitsU32 u32_at _ _ _ (λ c. length c.value.globals) u32_spells
    (λ global_count g_count. step_where _ _ (flat_map (global names)) (λ gs. (length gs ≡ global_count) × AllByRecursion (FitsGlobal names) gs) (repeated (global_at names) global_count) _
    (λ c. AllByRecursion (FitsGlobal c.names) c.value.globals) _ _ (λ c. c.value.globals)
    (repeated_spells (global names) (FitsGlobal names) (global_at names) (global_spells names table) global_count)
    (λ c k h. globals_same c.names names c.value.globals k.0.0.0.1 h.1)
    (λ c k h. (k.1, globals_same names c.names c.value.globals (sym k.0.0.0.1) h))
    (λ globals gs_fit. let image : Image = record { memory = m; functions = functions; globals = globals } in
    finish_whole _ (λ c. AllUsed c.names (names_of c.value)) (first_unused names (names_of image) behind) (record { names = names; value = image })
    ((((((tt, refl), refl), fs_fit.0), refl), gs_fit.0), refl)
    (λ c k. sym (λ j. record { names = k.0.0.0.0.1 j; value = record { memory = k.0.0.0.0.0.1 j; functions = k.0.0.1 j; globals = k.1 j } }))
    (all_used names (names_of image) behind) (none_unused names (names_of image) behind))))))))))
    (λ c. refl) (λ c h. h) (λ c h. h)

-- ---- the rule of the entry

start_of : (entry a b n : ℕ) (tail : List ℕ) → FitsU32 entry → FitsU32 n → start_at (u32 entry ++ ((u32 a ++ u32 b) ++ (u32 n ++ tail))) ≡ Ok (is_in_text n entry, tail)
unfolding start_at
start_of entry a b n tail entry_fits n_fits =
    let eight : length (u32 a ++ u32 b) ≡ 8 = length-append (u32 a) (u32 b) ∙ omega (arith, length-u32 a, length-u32 b) in
    rw (u32_spells.again entry ((u32 a ++ u32 b) ++ (u32 n ++ tail)) entry_fits, (bytes_spells 8).again (u32 a ++ u32 b) (u32 n ++ tail) eight, u32_spells.again n tail n_fits) refl

regroup : (entry a b n : ℕ) (tail more : List ℕ) → (u32 entry ++ (u32 a ++ (u32 b ++ (u32 n ++ tail)))) ++ more ≡ u32 entry ++ ((u32 a ++ u32 b) ++ (u32 n ++ (tail ++ more)))
regroup entry a b n tail more = simp append_assoc

start_is : (c : Contents Image) → ContentsSteps c → is_lawful_start (start_at (spelling c)) ≡ is_in_text (length c.value.memory.words) c.value.memory.entry
start_is c h =
    let m = c.value.memory in
    let tail : List ℕ = flat_map u32 m.words ++ (u32 m.data_size ++ (u32 (length m.items) ++ (flat_map item m.items ++ []))) in
    let more : List ℕ = name_table c.names ++ map_spelling c.names c in
    ap (λ (w : List ℕ). is_lawful_start (start_at w)) (regroup m.entry m.stack m.stack_end (length m.words) tail more)
    ∙ ap is_lawful_start (start_of m.entry m.stack m.stack_end (length m.words) (tail ++ more) h.0.0 (omega (arith, h.0.1.1.1.0)))

chosen : {X : Type 0} (b : Bool) (r : Result (X × List ℕ) ℕ) (left : ℕ) (x : X) (rest : List ℕ) → cond b r (Err left) ≡ Ok (x, rest) → (b ≡ true) × (r ≡ Ok (x, rest))
chosen true r left x rest e = (refl, e)
chosen false r left x rest e = absurd (not_found left x rest e)

contents_forth : (c : Contents Image) → ContentsSteps c → IsInText (length c.value.memory.words) c.value.memory.entry → IsContents c
contents_forth c s entry =
    let n = length c.value.memory.words in
    let m = s.0 in
    record {
      image = record {
        memory = record { entry = entry; stack = m.1.0; stack_end = m.1.1.0; count = m.1.1.1.0; words = m.1.1.1.1.0; data_fits = m.1.1.1.1.1.0; items = m.1.1.1.1.1.1.1.0 };
        functions = functions_forth c.names n c.value.functions s.1.1.1.0;
        globals = globals_forth c.names c.value.globals s.1.1.1.1.1.0;
      };
      function_count = s.1.1.0;
      global_count = s.1.1.1.1.0;
      name_count = s.1.0.count;
      names = table_of_used c.names (names_of c.value) s.1.0 s.1.1.1.1.1.1 (used_in_map c.names n c.value.functions c.value.globals s.1.1.1.0 s.1.1.1.1.1.0);
    }

-- items in rising order are no more than there are offsets
items_within : (size free : ℕ) (items : List DataItem) → AreItems size free items → length items ≤ size + 1 - free
items_within size free [] are = omega arith
items_within size free (i ∷ items) are = omega (arith, are.0, are.1, items_within size (free_behind i) items are.2)

items_few : (c : Contents Image) → IsContents c → FitsU32 (length c.value.memory.items)
items_few c is =
    let m = is.image.memory in
    omega (arith, items_within c.value.memory.data_size 0 c.value.memory.items m.items, m.data_fits, m.stack_end)

contents_back : (c : Contents Image) → IsContents c → ContentsSteps c
contents_back c is =
    let n = length c.value.memory.words in
    let m = is.image.memory in
    let used = used_by_table c.names (names_of c.value) is.names in (
      (omega (arith, m.entry.within, m.count), (m.stack, (m.stack_end, (m.count, (m.words, (m.data_fits, (items_few c is, (m.items, tt)))))))),
      (
        record { count = is.name_count; rising = is.names.rising },
        (
          is.function_count,
          (
            functions_back c.names n c.value.functions c.value.globals used.1 is.image.functions,
            (
              is.global_count,
              (globals_back c.names c.value.functions c.value.globals used.1 is.image.globals, used.0),
            ),
          ),
        ),
      ),
    )

payload_spells : SpellsWhole spelling IsContents payload_at
unfolding payload_at
payload_spells = record {
  takes = λ bytes c rest fits e.
      let p = chosen (is_lawful_start (start_at bytes)) (contents_at bytes) (length bytes) c rest e in
      let t = contents_spells.takes bytes c rest fits p.1 in
      let lawful : is_in_text (length c.value.memory.words) c.value.memory.entry ≡ true = sym (start_is c t.1) ∙ ap (λ (w : List ℕ). is_lawful_start (start_at w)) (sym t.0) ∙ p.0 in
      (t.0, contents_forth c t.1 (text_forth _ _ lawful));
  again = λ c is.
      let steps = contents_back c is in
      let lawful : is_lawful_start (start_at (spelling c)) ≡ true = start_is c steps ∙ text_back _ _ is.image.memory.entry in
      rw lawful (contents_spells.again c steps);
}

-- ---- the file

pub image_takes : (bytes : List ℕ) (c : Contents Image) → AreBytes bytes → image_file_at bytes ≡ Ok c → IsImageFile bytes c
unfolding image_file_at
image_takes bytes c fits e = file_takes kind image_version image_version (λ version. spelling) (λ version. IsContents) (λ version. payload_at) (λ v f l. payload_spells) bytes c fits e

pub image_again : (bytes : List ℕ) (c : Contents Image) → IsImageFile bytes c → image_file_at bytes ≡ Ok c
unfolding image_file_at
image_again bytes c is = file_again kind image_version image_version (λ version. spelling) (λ version. IsContents) (λ version. payload_at) (lit< tt) (lit< tt) (λ v f l. payload_spells) bytes c is

-- ---- the same of what a function returned

image_found : (bytes : List ℕ) (v : Image) (r : Result (Contents Image) ℕ) → value_of r ≡ Ok v → (c : Contents Image) × (r ≡ Ok c) × (c.value ≡ v)
image_found bytes v (Ok c) e = (c, refl, cc)
image_found bytes v (Err at) e = absurd cc

pub found_by : (bytes : List ℕ) (r : Result Image FileError) → AreBytes bytes → GivesFile (λ image. image) r (value_of (image_file_at bytes)) → IfOk r (λ image. (names : List (List ℕ)) × IsImageFile bytes (record { names = names; value = image }))
found_by bytes (Ok image) fits given =
    let p = image_found bytes image (image_file_at bytes) given in
    (p.0.names, subst (λ (v : Image). IsImageFile bytes (record { names = p.0.names; value = v })) p.2 (image_takes bytes p.0 fits p.1))
found_by bytes (Err e) fits given = tt

pub only_by : (bytes : List ℕ) (r : Result Image FileError) → GivesFile (λ image. image) r (value_of (image_file_at bytes)) → (c : Contents Image) → IsImageFile bytes c → GivesFile (λ image. image) r (Ok c.value)
only_by bytes r given c is = subst (GivesFile (λ image. image) r) (ap value_of (image_again bytes c is)) given

abbrev value : Contents Image → Result (Contents Image) ℕ
value c = Ok c

-- ---- one file for each image, and one image for each file

pub one_image : (bytes : List ℕ) (c d : Contents Image) → IsImageFile bytes c → IsImageFile bytes d → c ≡ d
one_image bytes c d p q = let both : value c ≡ value d = sym (image_again bytes c p) ∙ image_again bytes d q in cc

pub one_file : (bytes others : List ℕ) (c d : Contents Image) → IsImageFile bytes c → IsImageFile others d → c.value ≡ d.value → bytes ≡ others
one_file bytes others c d p q same =
    let names : c.names ≡ d.names = one_table c.names d.names (names_of c.value) p.fits.names (subst (λ (v : Image). IsTableOf d.names (names_of v)) (sym same) q.fits.names) in
    let version : p.version ≡ q.version = omega (arith, p.not_below, p.not_above, q.not_below, q.not_above) in
    let whole : c ≡ d = λ j. record { names = names j; value = same j } in
    p.spelled ∙ ap (λ n. file kind n (spelling c)) version ∙ ap (λ (x : Contents Image). file kind q.version (spelling x)) whole ∙ sym q.spelled
